use Rattle.std.proofs.Common.{refl}
use Rattle.std.proofs.lemmas.Bool.{false≢true}
use Rattle.log_store.proofs.Heads.{not_next, stands_next}
use Rattle.log_store.proofs.opening.heads_of.Goals as goal

pub returns-then-not-is_next_time : goal.returns-then-not-is_next_time
returns-then-not-is_next_time c =
    not_next c.args.commits.now c.loop-commit.rest.now c.in-Some.after.now c.in-Some.commit.now c.loop-commit.heads.items c.loop-commit.last
    c.loop-commit.invariant.0 c.in-Some.ensures.cases.0 c.loop-commit.invariant.2 (λ both. false≢true (c.if-not-is_next_time.ensures.1 both))

pub loop-commit-preserved : goal.loop-commit-preserved
loop-commit-preserved c =
    stands_next c.args.commits.now c.loop-commit.rest.now c.in-Some.after.now c.in-Some.commit.now c.loop-commit.heads.items c.loop-commit.last
    c.loop-commit.invariant.0 c.in-Some.ensures.cases.0 c.loop-commit.invariant.2 c.push.new.self.items c.in_ok-push.ensures.items c.loop-commit.invariant.1
    (c.if-not-is_next_time.ensures.0 refl)
