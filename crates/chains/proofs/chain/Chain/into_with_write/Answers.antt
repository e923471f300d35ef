use Rattle.std.proofs.lemmas.Grind.{common_steps}
use Rattle.std.proofs.Common.{◌<◌, ◌++◌, sym, subst, arith}
use Rattle.chains.specs.KeyWrites.{KeyWrites}
use Rattle.chains.specs.Writes.{last_time}
use Rattle.chains.specs.Stamps.{write_of_loan}
use Rattle.chains.proofs.Kept.{rising-push}
use Rattle.chains.proofs.Parts.{last_time-back, recent-rising}
use Rattle.chains.proofs.chain.Chain.into_with_write.Goals as goal

pub put_write-requires-clause-later : goal.put_write-requires-clause-later
put_write-requires-clause-later c =
    let older = c.self.inside.older.chunks in
    let last = c.self.inside.last in
    let later : last_time (older ++ last) < c.args.write.time =
    subst (λ (k : KeyWrites). last_time k.writes < c.args.write.time) (sym c.self.view_is) c.requires.later in
    rw (last_time-back 0 older last c.is_full.ensures) at later

pub of-requires : goal.of-requires
of-requires c =
    let older = c.self.inside.older.chunks in
    let last = c.self.inside.last in
    let later : last_time (older ++ last) < c.args.write.time =
    subst (λ (k : KeyWrites). last_time k.writes < c.args.write.time) (sym c.self.view_is) c.requires.later in
    rw c.in_ok-put_write.ensures.ok (recent-rising older last (write_of_loan c.args.write) c.self.invariant later c.requires.in_range)

pub of-requires-2 : goal.of-requires-2
of-requires-2 c =
    let older = c.self.inside.older.chunks in
    let last = c.self.inside.last in
    let later : last_time (older ++ last) < c.args.write.time =
    subst (λ (k : KeyWrites). last_time k.writes < c.args.write.time) (sym c.self.view_is) c.requires.later in
    rw (c.in_ok-older.ensures.is, c.in_ok-next.ensures) (rising-push 0 (older ++ last) (write_of_loan c.args.write) c.self.invariant later c.requires.in_range)

pub returns : goal.returns
returns c = grind (arith, common_steps)
