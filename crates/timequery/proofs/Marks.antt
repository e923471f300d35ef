-- The mark of runs is that of the last of them.
use Rattle.std.proofs.Common.{◌≡◌, ℕ, suc, ◌-◌, ◌∷◌, [], List, Some, length, ap, arith}
use Rattle.std.specs.List.{slice_get}
use Rattle.archive.specs.declared.run.RunEntry.{RunEntry}
use Rattle.timequery.specs.View.{mark_after}

pub mark-last : (mark : ℕ) (runs : List RunEntry) (run : RunEntry) → slice_get runs (length runs - 1) ≡ Some run → run.slot.upto ≡ mark_after mark runs
mark-last mark [] run at = absurd cc
mark-last mark (x ∷ []) run at = let same : run ≡ x = cc in ap (λ (r : RunEntry). r.slot.upto) same
mark-last mark (x ∷ y ∷ rs) run at =
    let one : suc (suc (length rs)) - 1 ≡ suc (length rs) = omega arith in
    let other : suc (length rs) - 1 ≡ length rs = omega arith in
    let there : slice_get (y ∷ rs) (length rs) ≡ Some run = rw one at at in
    mark-last x.slot.upto (y ∷ rs) run (rw other there)
