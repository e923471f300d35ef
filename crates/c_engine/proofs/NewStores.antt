-- What formatting makes of a disk without a byte.
use Rattle.std.proofs.Common.{◌≡◌, ◌⊎◌, ◌∙◌, ◌+◌, ◌++◌, ℕ, List, [], length, replicate, ap, sym, inl, inr}
use Rattle.std.proofs.lemmas.List.{append-nil, length-replicate}
use Rattle.std.proofs.Math.Seq.{drop-nil}
use Rattle.disk.specs.Areas.{Areas, overlaid}
use Rattle.any_store.specs.Formats.{IsSize, IsFormatted}
use Rattle.any_store.specs.declared.formatting.Layout.{Layout}
use Rattle.any_store.specs.declared.formatting.Layout.TheVariants.{Slots, Log}
use Rattle.c_engine.specs.Bytes.{AreBytesTold}
use Rattle.c_engine.specs.Formats.{IsNewStoreTold, FormatsStore}
use Rattle.c_engine.specs.RelayNoted.{empty_areas}
use Rattle.c_engine.specs.declared.code.Code.{Code}
use Rattle.c_engine.specs.declared.code.Code.TheVariants as code
use Rattle.c_engine.specs.declared.code.Info.{Info}

over-nothing : overlaid [] 0 (replicate 8192 0) ≡ replicate 8192 0
over-nothing = ap (λ (xs : List ℕ). replicate 8192 0 ++ xs) (drop-nil (0 + length {A = ℕ} (replicate 8192 0))) ∙ append-nil (replicate 8192 0)

-- the heap has zeros alone, if any
heap-zeros : (layout : Layout) (areas : Areas) → IsFormatted layout empty_areas areas → areas.heap.bytes ≡ replicate (length areas.heap.bytes) 0
heap-zeros (Slots slots) areas is =
    let none : areas.heap.bytes ≡ [] = ap (λ (a : Areas). a.heap.bytes) is.others in
    none ∙ ap (λ (n : ℕ). replicate n 0) (sym (ap (λ (xs : List ℕ). length xs) none))
heap-zeros (Log extents) areas is =
    let all : areas.heap.bytes ≡ replicate 8192 0 = ap (λ (a : Areas). a.heap.bytes) is.new_is ∙ over-nothing in
    all ∙ ap (λ (n : ℕ). replicate n 0) (sym (ap (λ (xs : List ℕ). length xs) all ∙ length-replicate {A = ℕ} 8192 0))

-- where these areas were formatted, of which the status area is told
pub new-told : (layout : Layout) (areas : Areas) (said : Code) (info : Info) (out : List ℕ) → IsFormatted layout empty_areas areas
    → (¬ IsSize layout → ⊥) → ¬ (said ≡ code.BadSlots) → info.b ≡ length areas.heap.bytes
    → (said ≡ code.NoMemory) ⊎ AreBytesTold areas.status.bytes said info out → FormatsStore layout said info out
new-told layout areas said info out is size known zeros told =
    record { bad_size = (λ bad. absurd (known bad), λ none. absurd (size none)); made = inr (by-told told) }
  where
    by-told : (said ≡ code.NoMemory) ⊎ AreBytesTold areas.status.bytes said info out → (said ≡ code.NoMemory) ⊎ IsNewStoreTold layout said info out
    by-told (inl short) = inl short
    by-told (inr bytes) = inr (record {
      areas = areas;
      formatted = is;
      heap = heap-zeros layout areas is ∙ ap (λ (n : ℕ). replicate n 0) (sym zeros);
      status = bytes;
    })
