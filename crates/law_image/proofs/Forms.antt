-- What follows from the rules of a log, whether it is one of slots or lies in the heap.
use Rattle.std.proofs.Common.{◌≡◌, ℕ, ◌<◌, ◌≤◌, arith, Bool, true, false, cond, List, [], length, subst}
use Rattle.std.specs.Prelude.{MatchBool}
use Rattle.law_image.specs.Reading.{Reading, slot_count}
use Rattle.law_image.specs.Log.{is_in_heap}
use Rattle.std.proofs.lemmas.Bool.Decides.{nat_tests}
use Rattle.law_image.specs.StandsFor.{IsHeader, IsSlotLog, IsHeapLog}
use Rattle.law_image.specs.Plans.{HasSlots, HasRoom, most_members}
use Rattle.law_image.proofs.Logs.{AreMarked, marked-all, marked-none, marked-heap}

-- one of two, by a test
pub of-either : (b : Bool) (X Y : Type 0) (Z : Type 0) → (X → Z) → (Y → Z) → MatchBool b X Y → Z
of-either b X Y Z left right is = elim b as (λ b. MatchBool b X Y → Z) [ true ↦ left | false ↦ right ] is

-- both by what they were
pub both-either : (b : Bool) (X Y X' Y' : Type 0) → (X → X') → (Y → Y') → MatchBool b X Y → MatchBool b X' Y'
both-either b X Y X' Y' left right is = elim b as (λ b. MatchBool b X Y → MatchBool b X' Y') [ true ↦ left | false ↦ right ] is

pub in-slots : (reading : Reading) → HasSlots reading → MatchBool (is_in_heap reading.profile) (IsHeapLog reading) (IsSlotLog reading) → IsSlotLog reading
in-slots reading slots form = subst (λ (b : Bool). MatchBool b (IsHeapLog reading) (IsSlotLog reading)) slots form

pub of-slots : (reading : Reading) → HasSlots reading → IsSlotLog reading → MatchBool (is_in_heap reading.profile) (IsHeapLog reading) (IsSlotLog reading)
of-slots reading slots is = rw slots is

pub room-in_slots : (reading : Reading) → HasSlots reading → HasRoom reading → length reading.log < slot_count reading
room-in_slots reading slots room = subst (λ (b : Bool). MatchBool b (Unit {0}) (length reading.log < slot_count reading)) slots room

pub marked-form : (reading : Reading) → MatchBool (is_in_heap reading.profile) (IsHeapLog reading) (IsSlotLog reading) → AreMarked reading.log
marked-form reading form =
    of-either (is_in_heap reading.profile) (IsHeapLog reading) (IsSlotLog reading) (AreMarked reading.log)
    (λ is. marked-heap reading.log is.log) (λ is. marked-all reading.profile [] reading.log marked-none is.log) form

pub in-heap : (reading : Reading) → is_in_heap reading.profile ≡ true → MatchBool (is_in_heap reading.profile) (IsHeapLog reading) (IsSlotLog reading)
    → IsHeapLog reading
in-heap reading heap form = subst (λ (b : Bool). MatchBool b (IsHeapLog reading) (IsSlotLog reading)) heap form

pub of-heap : (reading : Reading) → is_in_heap reading.profile ≡ true → IsHeapLog reading
    → MatchBool (is_in_heap reading.profile) (IsHeapLog reading) (IsSlotLog reading)
of-heap reading heap is = rw heap is

-- the first three profiles have slots
pub slots-profile : (profile slots pieces : ℕ) → IsHeader profile slots pieces → is_in_heap profile ≡ false
slots-profile profile slots pieces header = let most = header.highest in grind (arith, nat_tests)

-- a group of the first three profiles has no more commits than one of any
pub most-least : (profile : ℕ) → 16 ≤ most_members profile
most-least profile = elim (is_in_heap profile) as (λ b. 16 ≤ cond b 1024 16) [ true ↦ omega arith | false ↦ omega arith ]

-- where the log has a slot that is left there is room
pub has-room : (reading : Reading) → length reading.log < slot_count reading → HasRoom reading
has-room reading lt = elim (is_in_heap reading.profile) as (λ b. MatchBool b (Unit {0}) (length reading.log < slot_count reading)) [ true ↦ tt | false ↦ lt ]
