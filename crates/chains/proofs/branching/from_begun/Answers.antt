use Rattle.std.proofs.Common.{sym, subst, List}
use Rattle.std.proofs.lemmas.List.{take_rest}
use Rattle.chains.specs.Branches.{IsFrom}
use Rattle.chains.specs.Shapes.{Shape}
use Rattle.chains.specs.Writes.{Write}
use Rattle.chains.proofs.Branches.{is-from}
use Rattle.chains.proofs.branching.from_begun.Goals as goal

pub returns : goal.returns
returns c =
    let bs = c.args.branches.now in
    subst (λ (rest : List (Shape Write)). IsFrom c.args.time bs rest) (sym (take_rest bs c.saturating_sub.result))
    (is-from c.args.time c.begun_by-begun.result c.saturating_sub.result bs c.saturating_sub.ensures c.begun_by-begun.ensures.before
    c.begun_by-begun.ensures.after c.requires)
