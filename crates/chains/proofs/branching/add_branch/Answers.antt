use Rattle.std.proofs.Common.{◌∙◌, ◌∷◌, [], ◌++◌, List, ap, sym}
use Rattle.chains.specs.Shapes.{Shape, all_of}
use Rattle.chains.specs.Writes.{Write}
use Rattle.chains.proofs.Growth.{branch-of-some}
use Rattle.chains.proofs.Shapes.{all_of-push}
use Rattle.chains.proofs.branching.add_branch.Goals as goal

pub returns-in_ok-push-clause-chunks : goal.returns-in_ok-push-clause-chunks
returns-in_ok-push-clause-chunks c =
    let old = c.args.branches.now.items in
    ap all_of c.in_ok-push.ensures.items ∙ all_of-push old c.in-Some.branch
    ∙ ap (λ (b : Shape Write). all_of old ++ b.chunks) c.in-Some.ensures.is

pub returns-in_ok-push-clause-branches : goal.returns-in_ok-push-clause-branches
returns-in_ok-push-clause-branches c =
    let old = c.args.branches.now.items in
    c.in_ok-push.ensures.items
    ∙ ap (λ (b : Shape Write). old ++ b ∷ []) c.in-Some.ensures.is
    ∙ ap (λ (l : List (Shape Write)). old ++ l) (sym (branch-of-some c.args.older c.in-Some.ensures.some))
