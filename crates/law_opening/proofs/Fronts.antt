-- What is said of a front, for what is said of another.
use Rattle.std.proofs.Common.{◌≡◌, ◌⊎◌, ℕ, inl, inr, refl, Option, None, Some}
use Rattle.history.specs.Floors.{Raising, raised}
use Rattle.history.specs.Histories.{History}
use Rattle.history.specs.Fronts.{OnRaised, OnOpened, OnFront, with_group}
use Rattle.history.specs.Machine.{Machine, Gate, Shut, Due, MayBeOpen, OfGroup, OfFloor}

raised-front : {V : Type 0} (P Q : History V → (ℕ → ℕ) → Type 0) (m : Machine V) (o : Option Raising)
    → ((h : History V) (floors : ℕ → ℕ) → P h floors → Q h floors) → OnRaised P m o → OnRaised Q m o
raised-front P Q m None say on = on
raised-front P Q m (Some r) say on = say m.published (raised r.scope r.floor m.floors) on

opened-front : {V : Type 0} (P Q : History V → (ℕ → ℕ) → Type 0) (m : Machine V) (gate : Gate) → ((h : History V) (floors : ℕ → ℕ) → P h floors → Q h floors)
    → OnOpened P m gate → OnOpened Q m gate
opened-front P Q m Shut say on = on
opened-front P Q m (Due change) say on = on
opened-front P Q m (MayBeOpen OfGroup) say on = say (with_group m) m.floors on
opened-front P Q m (MayBeOpen OfFloor) say on = raised-front P Q m m.raising say on

pub front-says : {V : Type 0} (P Q : History V → (ℕ → ℕ) → Type 0) (m : Machine V) → ((h : History V) (floors : ℕ → ℕ) → P h floors → Q h floors) → OnFront P m
    → OnFront Q m
front-says P Q m say (inl on) = inl (say m.published m.floors on)
front-says P Q m say (inr on) = inr (opened-front P Q m m.gate say on)

-- what is said of every front
raised-is : {V X : Type 0} (P : History V → (ℕ → ℕ) → Type 0) (m : Machine V) (o : Option Raising) → ((h : History V) (floors : ℕ → ℕ) → P h floors → X)
    → OnRaised P m o → X
raised-is P m None say on = absurd on
raised-is P m (Some r) say on = say m.published (raised r.scope r.floor m.floors) on

opened-is : {V X : Type 0} (P : History V → (ℕ → ℕ) → Type 0) (m : Machine V) (gate : Gate) → ((h : History V) (floors : ℕ → ℕ) → P h floors → X)
    → OnOpened P m gate → X
opened-is P m Shut say on = absurd on
opened-is P m (Due change) say on = absurd on
opened-is P m (MayBeOpen OfGroup) say on = say (with_group m) m.floors on
opened-is P m (MayBeOpen OfFloor) say on = raised-is P m m.raising say on

pub front-is : {V X : Type 0} (P : History V → (ℕ → ℕ) → Type 0) (m : Machine V) → ((h : History V) (floors : ℕ → ℕ) → P h floors → X) → OnFront P m → X
front-is P m say (inl on) = say m.published m.floors on
front-is P m say (inr on) = opened-is P m m.gate say on

-- what stands behind a gate is the whole group, or the floor in the making
by-raised : {V : Type 0} (P : History V → (ℕ → ℕ) → Type 0) (m : Machine V) (o : Option Raising) → m.raising ≡ o → OnRaised P m o → (r : Raising)
    × (m.raising ≡ Some r) × P m.published (raised r.scope r.floor m.floors)
by-raised P m None is on = absurd on
by-raised P m (Some r) is on = (r, is, on)

pub by-change : {V : Type 0} (P : History V → (ℕ → ℕ) → Type 0) (m : Machine V) (gate : Gate) → OnOpened P m gate → P (with_group m) m.floors
    ⊎ ((r : Raising) × (m.raising ≡ Some r) × P m.published (raised r.scope r.floor m.floors))
by-change P m Shut on = absurd on
by-change P m (Due change) on = absurd on
by-change P m (MayBeOpen OfGroup) on = inl on
by-change P m (MayBeOpen OfFloor) on = inr (by-raised P m m.raising refl on)
