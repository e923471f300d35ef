-- Whether a floor may be started, and why not.
use Rattle.std.specs.Prelude.{ℕ, min, nat_le, nat_lt, List, [], ◌∷◌, Option, None, Some, if◌then◌else◌}
use Rattle.history.specs.Floors.{Raising, covered}
use Rattle.history.specs.Histories.{last}
use Rattle.history.specs.Machine.{Machine}

-- why a floor is not raised
pub data FloorRefusal : Type 0 where
  -- it is not above the floor that stands
  NothingToDo : FloorRefusal
  -- it is later than the last commit, of this time
  NotYet : ℕ → FloorRefusal
  -- an open transaction reads before it: the least snapshot
  InUse : ℕ → FloorRefusal

-- the least of some snapshots, or else this one
abbrev pub least : ℕ → List ℕ → ℕ
least oldest [] = oldest
least oldest (snapshot ∷ snapshots) = least (min oldest snapshot) snapshots

-- the least open snapshot that is below a time, if there is one
abbrev pub in_use_below : List ℕ → ℕ → Option ℕ
in_use_below [] time = None
in_use_below (snapshot ∷ snapshots) time = if nat_lt (least snapshot snapshots) time then Some (least snapshot snapshots) else None

-- the refusal for the least open snapshot below the floor, if there is one
abbrev pub in_use_refusal : Option ℕ → Option FloorRefusal
in_use_refusal None = None
in_use_refusal (Some oldest) = Some (InUse oldest)

-- the first test that fails
abbrev pub floor_refusal : {V : Type 0} → Machine V → Raising → Option FloorRefusal
floor_refusal m r =
    if nat_le r.floor (m.floors (covered r.scope)) then Some NothingToDo
    else if nat_lt (last m.published) r.floor then Some (NotYet (last m.published))
    else in_use_refusal (in_use_below m.snapshots r.floor)
