-- What holds of a store while a base is made.
use Rattle.std.specs.Prelude.{ℕ, ◌≡◌, ◌+◌, ◌≤◌, Bool, true, false, List, [], ◌++◌, length, flat_map, option_to_list, Option, None, Some}
use Rattle.byteorder.specs.Endian.{little_bytes}
use Rattle.disk.specs.Areas.{AreaState}
use Rattle.disk.specs.Parts.{HoldsPart, KeepsPart}
use Rattle.law_image.specs.Reading.{Head, Reading}
use Rattle.law_image.specs.Plans.{IsReclaimPlan}
use Rattle.log_extents.specs.Chains.{first_or}
use Rattle.log_entries.specs.declared.entry.Base.{Base}
use Rattle.log_entries.specs.declared.entry.Entry.TheVariants as entries
use Rattle.log_writer.specs.Turns.{Part}
use Rattle.log_base.specs.Rolls.{InRoll}
use Rattle.log_roots.specs.Turning as turning
use Rattle.log_roots.specs.Roots.{root_of, IsRoots}
use Rattle.log_roots.specs.declared.roots.Roots.{Roots}
use Rattle.law_log_layout.specs.HeapLog.{PlacedAnchors, PlacedChain, PlacedRoll, HeapLog, AreNamesOf, IsBaseSmall, name_bytes}
use Rattle.law_log_layout.specs.Reclaims.{NewBase, with_new_base, based_reading, MayTakePlace, new_parts, AreFree}
use Rattle.law_log_layout.specs.Roots as roots
use Rattle.law_log_layout.specs.Turns.{HoldsAll, KeepsAll}
use Rattle.log_store.specs.Named.{NamedValue}
use Rattle.log_store.specs.Values.{ReclaimValue, taken_by}
use Rattle.log_store.specs.declared.job.Job.{Job}
use Rattle.log_store.specs.declared.reclaim.ReclaimStage.{ReclaimStage}
use Rattle.log_store.specs.declared.reclaim.ReclaimStage.TheVariants.{Writing, Rolling, Turning}
use Rattle.law_log_store.specs.Headers.{header_parts}
use Rattle.law_log_store.specs.Named.{IsBehind, IsNamedBy}

-- ---- the base that is made

-- what a reclaim makes, however far it is
pub record PlanValue : Type 0 where
  pub front : ℕ
  pub base : Base
  pub numbers : List ℕ
  pub anchors : List ℕ
  pub makes : Bool
  pub named : NamedValue

abbrev pub plan_of : ReclaimValue → PlanValue
plan_of r = record { front = r.front; base = r.base; numbers = r.numbers; anchors = r.anchors; makes = r.makes; named = r.named }

-- no anchors
abbrev pub no_anchors : PlacedAnchors
no_anchors = record { numbers = []; records = [] }

-- what of it is written: all of it, or the base alone where the anchors that it names stand already
abbrev pub written_of : Bool → NewBase → NewBase
written_of true n = n
written_of false n = record n { anchors = no_anchors }

-- then these are the log's
abbrev pub AreAnchorsOf : Bool → HeapLog → NewBase → Type 0
AreAnchorsOf true l n = Unit {0}
AreAnchorsOf false l n = n.anchors ≡ l.anchors

-- its extents, and those of its anchors
abbrev pub numbers_of : NewBase → List ℕ
numbers_of n = (n.anchors).numbers ++ n.numbers

-- the roll that it adds, if it adds one, is behind all that the log names in the archive
abbrev pub IsRollBehind : Option PlacedRoll → HeapLog → Type 0
IsRollBehind None l = Unit {0}
IsRollBehind (Some p) l = IsBehind p.roll.start l

-- The base of a reclaim may take the place of the front of this log. What is written of it lies in free extents.
pub record IsBaseOf (most : ℕ) (l : HeapLog) (reading : Reading) (plan : PlanValue) : Type 0 where
  pub n : NewBase
  pub more : Option PlacedRoll
  pub names : List Head
  pub front : List PlacedChain
  pub back : List PlacedChain
  pub base_is : n.base ≡ plan.base
  pub numbers_are : n.numbers ≡ plan.numbers
  pub anchors_are : (n.anchors).numbers ≡ plan.anchors
  pub rolls_are : n.rolls ≡ l.rolls ++ option_to_list more
  pub many : length front ≡ plan.front
  pub are_names : AreNamesOf l.rolls names
  pub may : MayTakePlace most l names front back n
  pub reclaims : IsReclaimPlan reading (n.anchors).records
  pub small : IsBaseSmall most (entries.Base n.base)
  pub free : AreFree most l (written_of plan.makes n)
  pub stand : AreAnchorsOf plan.makes l n
  pub behind : IsRollBehind more l
  -- memory has what the log then names in the archive
  pub named : IsNamedBy plan.named (with_new_base l n back) (based_reading reading names n back)

-- ---- how far it is

-- some of these parts are written, and those are left
pub record AreWritten (parts left : List Part) (heap : AreaState) : Type 0 where
  pub done : List Part
  pub are : done ++ left ≡ parts
  pub held : HoldsAll done heap.bytes

-- the bytes of a roll
abbrev pub roll_bytes : PlacedRoll → List ℕ
roll_bytes p = flat_map name_bytes p.names

-- what is to be written of it, where nothing is written yet
abbrev pub RollWaits : Option PlacedRoll → Option InRoll → Type 0
RollWaits None None = Unit {0}
RollWaits None (Some roll) = ⊥
RollWaits (Some p) None = ⊥
RollWaits (Some p) (Some roll) = (roll.left ≡ roll_bytes p) × (roll.at ≡ p.roll.start)

-- its front is written, and this is left of it
pub record IsRollWritten (p : PlacedRoll) (roll : InRoll) (archive : AreaState) : Type 0 where
  pub front : List ℕ
  pub whole : front ++ roll.left ≡ roll_bytes p
  pub place : roll.at ≡ p.roll.start + length front
  pub held : HoldsPart p.roll.start front archive.bytes

abbrev pub IsRollOnWay : Option PlacedRoll → InRoll → AreaState → Type 0
IsRollOnWay None roll archive = ⊥
IsRollOnWay (Some p) roll archive = IsRollWritten p roll archive

-- whatever a stop may leave holds all of it
abbrev pub KeepsRoll : Option PlacedRoll → AreaState → Type 0
KeepsRoll None archive = Unit {0}
KeepsRoll (Some p) archive = KeepsPart p.roll.start (roll_bytes p) archive

-- What stands on the disk at a stage, where this is written of the base, its root is this one, and this is the roll that waits.
abbrev pub HasMadeAt : Roots → ℕ → NewBase → Option PlacedRoll → Option InRoll → ReclaimStage → AreaState → AreaState → Type 0
HasMadeAt r root w more waits (Writing anchors base) heap archive = AreWritten (new_parts w) (anchors.left ++ base.left) heap × RollWaits more waits
HasMadeAt r root w more waits (Rolling roll) heap archive = KeepsAll (new_parts w) heap × IsRollOnWay more roll archive
HasMadeAt r root w more waits (Turning t) heap archive =
    KeepsAll (new_parts w) heap × KeepsRoll more archive × (t.roots ≡ r) × (t.root ≡ root)

-- What the log then names ends by this place, or by the end of the roll that is added, which begins no later.
abbrev pub EndsBy : ℕ → ℕ → Option PlacedRoll → Type 0
EndsBy place end None = end ≤ place
EndsBy place end (Some p) = (p.roll.start ≤ place) × (end ≤ p.roll.start + length (roll_bytes p))

-- ---- the status area

-- the stage of the turn from root to root: before it the other root is to be written
abbrev pub turn_stage : turning.Stage → roots.Stage
turn_stage turning.Writing = roots.Writing
turn_stage turning.Syncing = roots.Syncing
turn_stage turning.Turning = roots.Turning
turn_stage turning.Settling = roots.Settling
turn_stage turning.Done = roots.Done

abbrev pub root_stage_at : ReclaimStage → roots.Stage
root_stage_at (Writing anchors base) = roots.Writing
root_stage_at (Rolling roll) = roots.Writing
root_stage_at (Turning t) = turn_stage t.stage

abbrev pub root_stage : Option ReclaimValue → roots.Stage
root_stage None = roots.Writing
root_stage (Some r) = root_stage_at r.stage

-- the other root, as a reclaim writes it
abbrev pub root_then : Option ReclaimValue → ℕ
root_then None = 0
root_then (Some r) = first_or 0 r.numbers

-- Whatever a stop may leave of it begins with a header of as many extents. Where no reclaim turns the same root counts there, and of the other root nothing is
-- said; else the status area is on its way to the root of the base.
pub record HasRoots (r : Roots) (reclaim : Option ReclaimValue) (a : AreaState) : Type 0 where
  pub in_range : IsRoots r
  pub at : roots.IsAt (header_parts r.extents) r.turned (little_bytes 4 (root_of r)) (little_bytes 4 (root_then reclaim)) (root_stage reclaim) a

-- ---- the store

-- the extents that are taken for it
abbrev pub taken_of : Option ReclaimValue → List ℕ
taken_of None = []
taken_of (Some r) = taken_by r

-- A reclaim runs beside no job. So much of its base is made; what the log then names in the archive ends by where the next run would begin, or by the end of
-- the base's roll.
pub record IsReclaiming (r : Roots) (job : Option Job) (end : ℕ) (heap archive : AreaState) (l : HeapLog) (reading : Reading) (plan : PlanValue)
    (waits : Option InRoll) (stage : ReclaimStage) : Type 0 where
  pub alone : job ≡ None
  pub base : IsBaseOf r.extents l reading plan
  pub made : HasMadeAt r (first_or 0 plan.numbers) (written_of plan.makes base.n) base.more waits stage heap archive
  pub ends : EndsBy end plan.named.end base.more

abbrev pub HasReclaim : Roots → Option Job → ℕ → AreaState → AreaState → HeapLog → Reading → Option ReclaimValue → Type 0
HasReclaim roots job end heap archive l reading None = Unit {0}
HasReclaim roots job end heap archive l reading (Some r) = IsReclaiming roots job end heap archive l reading (plan_of r) r.roll r.stage
