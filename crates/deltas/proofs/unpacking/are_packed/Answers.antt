use Rattle.std.proofs.lemmas.Grind.{common_steps}
use Rattle.std.proofs.Common.{◌≡◌, ◌↔◌, [], None, List, ℕ, rules, subst, arith}
use Rattle.std.proofs.lemmas.List.{nil_from_length}
use Rattle.deltas.specs.Unpacking.{ArePacked}
use Rattle.deltas.proofs.PackedAll.{none_next}
use Rattle.deltas.proofs.Left.{all_compared}
use Rattle.deltas.proofs.unpacking.are_packed.Goals as goal

pub returns : goal.returns
returns c =
    let end : c.loop-rest.rest.now ≡ [] = nil_from_length c.loop-rest.rest.now (omega (arith, c.in_default.len_below)) in
    let all = all_compared c.loop-rest.left.left.now in
    let was : ArePacked [] c.loop-rest.left.left.now ↔ ArePacked c.args.images.now c.args.records.now =
    subst (λ (l : List (List ℕ)). ArePacked l c.loop-rest.left.left.now ↔ ArePacked c.args.images.now c.args.records.now) end c.loop-rest.invariant in
    let next = c.peek.ensures in
    let is = c.is_none.ensures in (
      λ none. was.0 (all.1 (none_next c.loop-rest.left.left.now (let no : c.peek.result ≡ None = search rules in rw no at next))),
      λ packed. let e =
          all.0 (was.1 packed) in search rules,
    )

pub loop-rest-preserved : goal.loop-rest-preserved
loop-rest-preserved c = grind (arith, common_steps)
