-- The fronts of a machine, one by one.
use Rattle.std.proofs.Common.{◌≡◌, ◌⊎◌, ℕ, Option, None, Some, refl, inl, inr}
use Rattle.history.specs.Floors.{Raising, raised}
use Rattle.history.specs.Fronts.{OnRaised, OnOpened, OnFront, with_group}
use Rattle.history.specs.Histories.{History}
use Rattle.history.specs.Machine.{Machine, Gate, Shut, Due, MayBeOpen, OfGroup, OfFloor}

-- what is published with the floor in the making
abbrev pub WithFloor : {V : Type 0} → (History V → (ℕ → ℕ) → Type 0) → Machine V → Type 0
WithFloor P m = (r : Raising) × (m.raising ≡ Some r) × P m.published (raised r.scope r.floor m.floors)

-- what is published, or that with the whole group, or with the floor in the making
pub each-front : {V : Type 0} (P : History V → (ℕ → ℕ) → Type 0) (m : Machine V) → OnFront P m
    → P m.published m.floors ⊎ P (with_group m) m.floors ⊎ WithFloor P m
each-front P m (inl on) = inl on
each-front P m (inr opened) = by-gate m.gate opened
  where
    by-raising : (o : Option Raising) → m.raising ≡ o → OnRaised P m o → P m.published m.floors ⊎ P (with_group m) m.floors ⊎ WithFloor P m
    by-raising None none on = absurd on
    by-raising (Some r) some on = inr (inr (r, some, on))

    by-gate : (g : Gate) → OnOpened P m g → P m.published m.floors ⊎ P (with_group m) m.floors ⊎ WithFloor P m
    by-gate Shut on = absurd on
    by-gate (Due change) on = absurd on
    by-gate (MayBeOpen OfGroup) on = inr (inl on)
    by-gate (MayBeOpen OfFloor) on = by-raising m.raising refl on
