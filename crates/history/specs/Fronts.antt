-- What a stop may leave of a machine: what is published, and once the gate of what is being written may be open, that or what is published with the whole of
-- it.
use Rattle.std.specs.Prelude.{ℕ, ◌⊎◌, ◌++◌, take, Option, None, Some}
use Rattle.history.specs.Floors.{Raising, raised}
use Rattle.history.specs.Histories.{History}
use Rattle.history.specs.Machine.{Machine, Gate, Shut, Due, MayBeOpen, OfGroup, OfFloor}

-- what is published, with the whole group
abbrev pub with_group : {V : Type 0} → Machine V → History V
with_group m = m.published ++ take m.group m.queue

-- the floors with the one in the making, if there is one
abbrev pub OnRaised : {V : Type 0} → (History V → (ℕ → ℕ) → Type 0) → Machine V → Option Raising → Type 0
OnRaised P m None = ⊥
OnRaised P m (Some r) = P m.published (raised r.scope r.floor m.floors)

-- P holds of what stands where a gate is open: of the published history with the whole group, or with the floor in the making; where none can be, of nothing
abbrev pub OnOpened : {V : Type 0} → (History V → (ℕ → ℕ) → Type 0) → Machine V → Gate → Type 0
OnOpened P m Shut = ⊥
OnOpened P m (Due change) = ⊥
OnOpened P m (MayBeOpen OfGroup) = P (with_group m) m.floors
OnOpened P m (MayBeOpen OfFloor) = OnRaised P m m.raising

-- P holds of a front: of the published history with the floors, or of what stands where the gate that may be open is.
-- Part of a group is no front, nor is a commit that no group has. A front always has all that is published, so all that is acknowledged.
abbrev pub OnFront : {V : Type 0} → (History V → (ℕ → ℕ) → Type 0) → Machine V → Type 0
OnFront P m = P m.published m.floors ⊎ OnOpened P m m.gate
