use Rattle.std.proofs.Common.{◌≤◌, List, sym, subst}
use Rattle.chains.specs.KeyWrites.{KeyWrites, latest}
use Rattle.chains.proofs.Commits.{last_time-found}
use Rattle.chains.proofs.frozen.Frozen.last_write.Goals as goal

pub returns-in-Some-clause-upto : goal.returns-in-Some-clause-upto
returns-in-Some-clause-upto c =
    let P : List KeyWrites → Type 0 = λ m. c.last_time.result ≤ latest m in
    subst P c.self.view_is
    (subst (λ n. n ≤ latest c.self.inside.keys) (sym c.last_time.ensures)
    (last_time-found c.self.inside.keys c.args.key c.in-Some.chain.now c.in-Some.ensures))
