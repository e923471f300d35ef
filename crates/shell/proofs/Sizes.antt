-- A size that is not refused is one that a store has.
use Rattle.std.proofs.Common.{◌≡◌, ℕ, ◌<◌, ◌≤◌, ◌%◌, ◌⊎◌, inl, inr, arith}
use Rattle.std.proofs.lemmas.Bool.{cases_lt}
use Rattle.std.proofs.lemmas.Bool.{cases_eq}
use Rattle.recovery.specs.Format.{IsSlotCount}
use Rattle.log_roots.specs.Roots.{IsHeapSize}
use Rattle.any_store.specs.Formats.{IsSize}
use Rattle.any_store.specs.declared.formatting.Layout.{Layout}
use Rattle.any_store.specs.declared.formatting.Layout.TheVariants.{Slots, Log}

slots-known : (slots : ℕ) → (¬ IsSlotCount slots → ⊥) → IsSlotCount slots
slots-known slots known = by-least (cases_lt slots 16) (cases_lt 65536 slots)
  where
    by-least : (slots < 16) ⊎ (16 ≤ slots) → (65536 < slots) ⊎ (slots ≤ 65536) → IsSlotCount slots
    by-least (inl few) most = absurd (known (λ is. omega (arith, few, is.0)))
    by-least (inr least) (inl many) = absurd (known (λ is. omega (arith, many, is.1)))
    by-least (inr least) (inr most) = (least, most)

heap-known : (extents : ℕ) → (¬ IsHeapSize extents → ⊥) → IsHeapSize extents
heap-known extents known = by-least (cases_lt extents 64) (cases_lt 1048576 extents) (cases_eq (extents % 16) 0)
  where
    by-least : (extents < 64) ⊎ (64 ≤ extents) → (1048576 < extents) ⊎ (extents ≤ 1048576) → (extents % 16 ≡ 0) ⊎ (extents % 16 ≡ 0 → ⊥)
        → IsHeapSize extents
    by-least (inl few) most whole = absurd (known (λ is. omega (arith, few, is.least)))
    by-least (inr least) (inl many) whole = absurd (known (λ is. omega (arith, many, is.most)))
    by-least (inr least) (inr most) (inl whole) = record { least = least; most = most; whole = whole }
    by-least (inr least) (inr most) (inr other) = absurd (known (λ is. other is.whole))

pub size-known : (layout : Layout) → (¬ IsSize layout → ⊥) → IsSize layout
size-known (Slots slots) known = slots-known slots known
size-known (Log extents) known = heap-known extents known
