-- The base that takes the place of the front of a log.
use Rattle.std.specs.Prelude.{ℕ, ◌-◌, zero, suc, nat_lt, Bool, false, List, [], ◌∷◌, ◌++◌, length, map, take, option_to_list, Option, if◌then◌else◌}
use Rattle.floors.specs.Floors.{with_own}
use Rattle.floors.specs.declared.floors.OwnFloor.{OwnFloor}
use Rattle.log_entries.specs.declared.entry.AnchorName.{AnchorName}
use Rattle.log_entries.specs.declared.entry.Archive.{Archive}
use Rattle.log_entries.specs.declared.entry.Base.{Base}
use Rattle.log_entries.specs.declared.entry.RelationFloor.{RelationFloor}
use Rattle.log_entries.specs.declared.entry.Roll.{Roll}
use Rattle.log_recovery.specs.Live.{LiveChainValue}
use Rattle.log_recovery.specs.declared.live.LivePart.{LivePart}
use Rattle.log_recovery.specs.declared.live.LivePart.TheVariants.{Commits, Archived, Floor}
use Rattle.log_recovery.specs.declared.live.LivePart.TheVariants as parts

-- ---- the front

-- the chain has a commit later than this time
abbrev pub is_later : ℕ → LivePart → Bool
is_later mark (Commits last) = nat_lt mark last
is_later mark (Archived archive) = false
is_later mark (Floor floor) = false
is_later mark (parts.Base base) = false

-- how many chains stand before the first that has one
abbrev pub front_len : ℕ → List LiveChainValue → ℕ
front_len mark [] = zero
front_len mark (c ∷ cs) = if is_later mark c.part then zero else suc (front_len mark cs)

-- ---- the runs that the front leaves

-- a run as a base names it: it takes the place of no other
abbrev pub in_base : Archive → Archive
in_base archive = record archive { runs = 0 }

-- the runs with this one, which takes the place of so many of the last ones
abbrev pub with_run : List Archive → Archive → List Archive
with_run before archive = take (length before - archive.runs) before ++ in_base archive ∷ []

-- the runs that stand behind one chain more
abbrev pub runs_behind : List Archive → LivePart → List Archive
runs_behind before (Commits last) = before
runs_behind before (Archived archive) = with_run before archive
runs_behind before (Floor floor) = before
runs_behind before (parts.Base base) = before ++ base.archives

-- and behind all of these
abbrev pub runs_from : List Archive → List LiveChainValue → List Archive
runs_from before [] = before
runs_from before (c ∷ cs) = runs_from (runs_behind before c.part) cs

-- ---- its floors, by rising relation

-- these floors raised, one after the other
abbrev pub raised_by : List OwnFloor → List RelationFloor → List OwnFloor
raised_by before [] = before
raised_by before (f ∷ fs) = raised_by (with_own before f.relation f.floor) fs

-- the floors behind one chain more
abbrev pub own_behind : List OwnFloor → LivePart → List OwnFloor
own_behind before (Commits last) = before
own_behind before (Archived archive) = before
own_behind before (Floor floor) = with_own before floor.relation floor.floor
own_behind before (parts.Base base) = raised_by before base.floors

-- and behind all of these
abbrev pub own_from : List OwnFloor → List LiveChainValue → List OwnFloor
own_from before [] = before
own_from before (c ∷ cs) = own_from (own_behind before c.part) cs

-- a floor as a base has it
abbrev pub relation_floor : OwnFloor → RelationFloor
relation_floor f = record { relation = f.relation; floor = f.floor }

-- ---- what the log's base says

-- its rolls
abbrev pub rolls_at : LivePart → List Roll
rolls_at (Commits last) = []
rolls_at (Archived archive) = []
rolls_at (Floor floor) = []
rolls_at (parts.Base base) = base.rolls

-- no anchors
abbrev pub no_anchors : AnchorName
no_anchors = record { first = 0; extents = 0; records = 0 }

-- its anchors
abbrev pub anchors_at : LivePart → AnchorName
anchors_at (Commits last) = no_anchors
anchors_at (Archived archive) = no_anchors
anchors_at (Floor floor) = no_anchors
anchors_at (parts.Base base) = base.anchors

-- its mark
abbrev pub mark_at : LivePart → ℕ
mark_at (Commits last) = 0
mark_at (Archived archive) = 0
mark_at (Floor floor) = 0
mark_at (parts.Base base) = base.upto

-- the rolls that the base of a log names, none where it has no base
abbrev pub rolls_of : List LiveChainValue → List Roll
rolls_of [] = []
rolls_of (c ∷ cs) = rolls_at c.part

-- where the anchors are that it names
abbrev pub anchors_of : List LiveChainValue → AnchorName
anchors_of [] = no_anchors
anchors_of (c ∷ cs) = anchors_at c.part

-- the reclaim mark
abbrev pub mark_of : List LiveChainValue → ℕ
mark_of [] = 0
mark_of (c ∷ cs) = mark_at c.part

-- ---- the new base

-- the base in the place of this front, with its mark, its anchors and the roll that it adds, if it adds one
abbrev pub base_on : List LiveChainValue → ℕ → AnchorName → Option Roll → Base
base_on front upto anchors roll = record {
  upto = upto;
  anchors = anchors;
  rolls = rolls_of front ++ option_to_list roll;
  archives = runs_from [] front;
  floors = map relation_floor (own_from [] front);
}
