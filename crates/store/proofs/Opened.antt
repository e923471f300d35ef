-- The commit order of an opened store.
use Rattle.std.proofs.Common.{◌≡◌, ℕ, List, [], ◌∷◌, map, refl}
use Rattle.law_image.specs.Log.{AreRisingAfter, last_time_after}
use Rattle.group.specs.CommitOrder as orders
use Rattle.wire.specs.declared.slot.Member.{Member}
use Rattle.status.specs.Rules.{head_of}
use Rattle.store.specs.Heads.{head_as}

pub rising-opened : (t : ℕ) (members : List Member) → AreRisingAfter t (map head_of members) → orders.IsRisingAfter t (map head_as members)
rising-opened t [] rising = tt
rising-opened t (n ∷ ns) rising = (rising.0, rising.1, rising-opened n.time ns rising.2)

pub last-opened : (t : ℕ) (members : List Member) → orders.last_time_after t (map head_as members) ≡ last_time_after t (map head_of members)
last-opened t [] = refl
last-opened t (n ∷ ns) = last-opened n.time ns
