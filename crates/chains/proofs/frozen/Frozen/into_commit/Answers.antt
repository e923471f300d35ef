use Rattle.std.proofs.Common.{◌<◌, ◌++◌, List, arith, ap, ◌∙◌}
use Rattle.chains.specs.KeyWrites.{KeyWrites, writes_of, latest}
use Rattle.chains.proofs.Commits.{older-latest, may-all-follow, writes_of-with_commit, latest-with_commit}
use Rattle.chains.proofs.CommitParts.{ordered-with_commit, rising-with_commit}
use Rattle.chains.specs.Writes.{written}
use Rattle.chains.proofs.frozen.Frozen.into_commit.Goals as goal

pub into_writes-requires-clause-later : goal.into_writes-requires-clause-later
into_writes-requires-clause-later c = rw c.self.view_is c.requires.later

pub invariant_of-result : goal.invariant_of-result
invariant_of-result c =
    let m = c.self.inside.keys in
    let ws = c.args.writes.now in
    let later : latest m < c.args.time = rw c.self.view_is c.requires.later in
    let follow = may-all-follow c.args.time m ws c.self.invariant.0 (older-latest c.args.time m ws later) c.requires.rising in
    rw c.in_ok-into_writes.ensures (
      ordered-with_commit m c.args.time ws c.self.invariant.0,
      rising-with_commit c.args.time m ws c.requires.in_range follow c.self.invariant.1,
    )

pub returns-clause-by_key : goal.returns-clause-by_key
returns-clause-by_key c = λ key.
    let m = c.self.inside.keys in
    ap (λ (l : List KeyWrites). writes_of l key) c.in_ok-into_writes.ensures
    ∙ writes_of-with_commit c.args.time m c.args.writes.now key c.self.invariant.0 c.requires.rising
    ∙ ap (λ (l : List KeyWrites). writes_of l key ++ written c.args.time c.args.writes.now key) c.self.view_is

pub returns-clause-latest : goal.returns-clause-latest
returns-clause-latest c =
    let m = c.self.inside.keys in
    let later : latest m < c.args.time = rw c.self.view_is c.requires.later in
    rw c.in_ok-into_writes.ensures (latest-with_commit c.args.time m c.args.writes.now (omega (arith, later)))
