use Rattle.std.proofs.Common.{◌≡◌, ◌∙◌, ◌+◌, ◌<◌, ◌≤◌, ◌∷◌, ◌++◌, List, IfOk, length, length-append, ap, sym, subst, arith}
use Rattle.std.proofs.lemmas.Bool.{eqb-false}
use Rattle.history.specs.Time.{IsRisingAfter}
use Rattle.chains.specs.Growth.{as_branch, branches_of, IsForkOf}
use Rattle.chains.specs.Shapes.{Shape, all_of, highest}
use Rattle.chains.specs.Writes.{Write}
use Rattle.chains.proofs.Growth.{first-low, ok-map}
use Rattle.chains.proofs.Shapes.{all_of-append}
use Rattle.chains.proofs.older_growth.with_first.Goals as goal

pub fork-requires : goal.fork-requires
fork-requires c =
    let first : all_of c.add_branch.new.branches.items ≡ c.args.first.chunks = rw c.in_ok-all.ensures.items at c.in_ok-add_branch.ensures.chunks in
    let all =
    ap all_of c.in_ok-add_shared.ensures ∙ all_of-append c.add_branch.new.branches.items c.args.behind.now
    ∙ ap (λ (ws : List Write). ws ++ all_of c.args.behind.now) first in
    subst (IsRisingAfter 0) (sym all) c.requires

pub returns-clause-is : goal.returns-clause-is
returns-clause-is c =
    let first : all_of c.add_branch.new.branches.items ≡ c.args.first.chunks = rw c.in_ok-all.ensures.items at c.in_ok-add_branch.ensures.chunks in
    let all =
    ap all_of c.in_ok-add_shared.ensures ∙ all_of-append c.add_branch.new.branches.items c.args.behind.now
    ∙ ap (λ (ws : List Write). ws ++ all_of c.args.behind.now) first in
    subst (λ (ws : List Write). IfOk c.fork.result (λ o. o.chunks ≡ ws)) all c.fork.ensures.is

pub returns-clause-height : goal.returns-clause-height
returns-clause-height c =
    let all : c.add_shared.new.found.items ≡ branches_of c.args.first c.args.first.chunks ++ c.args.behind.now =
    c.in_ok-add_shared.ensures
    ∙ ap (λ (l : List (Shape Write)). l ++ c.args.behind.now) (rw c.in_ok-all.ensures.items at c.in_ok-add_branch.ensures.branches) in
    let count : length c.add_shared.new.found.items ≡ length (branches_of c.args.first c.args.first.chunks ++ c.args.behind.now) =
    ap (λ (l : List (Shape Write)). length l) all in
    let none = eqb-false (length c.args.behind.now) 0 (sym c.is_empty.ensures ∙ c.if-is_empty.false) in
    let some : 0 < length c.add_shared.new.found.items =
    omega (arith, count, length-append (branches_of c.args.first c.args.first.chunks) c.args.behind.now, none) in
    ok-map c.fork.result
    (λ o. 0 < length c.add_shared.new.found.items → IsForkOf c.add_shared.new.found.items o)
    (λ o. o.height ≤ highest (as_branch c.args.first ∷ c.args.behind.now) + 1)
    (λ o shape. first-low c.args.first c.args.behind.now c.add_shared.new.found.items o all (shape some))
    c.fork.ensures.shape
