-- What the log of a store tells.
use Rattle.std.specs.Prelude.{ℕ, ◌+◌, ◌-◌, ◌*◌, ◌/◌, ◌^◌, ◌==◌, nat_lt, Bool, true, false, if◌then◌else◌, List, [], ◌∷◌, length, fold, min, Option, Some, None}
use Rattle.std.specs.List.{list_any}
use Rattle.status.specs.Header.{total}
use Rattle.status.specs.declared.header.Header.{Header}
use Rattle.log_facts.specs.declared.floor.Floor.{Floor}
use Rattle.wire.specs.declared.slot.Anchors.{Anchors}
use Rattle.wire.specs.declared.slot.Body.{Body}
use Rattle.wire.specs.declared.slot.Body.TheVariants as body
use Rattle.wire.specs.declared.slot.Member.{Member}
use Rattle.wire.specs.declared.slot.Slot.{Slot}

-- a sum, up to the greatest number of 64 bits
abbrev pub plus : ℕ → ℕ → ℕ
plus a b = min (a + b) (2 ^ 64 - 1)

-- the commits of a slot
abbrev pub members_in : Body → List Member
members_in (body.Commit members) = members.items
members_in other = []

abbrev pub members_of : Slot → List Member
members_of slot = members_in slot.body

-- how many commits the log names
abbrev pub commits : List Slot → ℕ
commits slots = fold (λ (n : ℕ) (slot : Slot). plus n (length (members_of slot))) 0 slots

-- the time of the first of these, or this one where there is none
abbrev pub first_of : List Member → ℕ → ℕ
first_of [] otherwise = otherwise
first_of (m ∷ more) otherwise = m.time

-- the time of the first commit that the log names, 0 where it names none
abbrev pub first_time : List Slot → ℕ
first_time [] = 0
first_time (slot ∷ slots) = first_of (members_of slot) (first_time slots)

-- the time of the last of these, or this one where there is none
abbrev pub last_of : ℕ → List Member → ℕ
last_of otherwise members = fold (λ (t : ℕ) (m : Member). m.time) otherwise members

-- the time of the last commit, 0 where there is none
abbrev pub last_time : List Slot → ℕ
last_time slots = fold (λ (t : ℕ) (slot : Slot). last_of t (members_of slot)) 0 slots

-- up to which time it is archived after this slot, and how many bytes the archive has then
abbrev pub archived_by : ℕ → Body → ℕ
archived_by before (body.Archived run) = run.upto
archived_by before other = before

abbrev pub archive_by : ℕ → Body → ℕ
archive_by before (body.Archived run) = plus run.start run.len
archive_by before other = before

-- up to which time it is archived, 0 where nothing is
abbrev pub archived : List Slot → ℕ
archived slots = fold (λ (t : ℕ) (slot : Slot). archived_by t slot.body) 0 slots

-- the bytes of the archive
abbrev pub archive : List Slot → ℕ
archive slots = fold (λ (t : ℕ) (slot : Slot). archive_by t slot.body) 0 slots

-- what the last reclaim left after this slot
abbrev pub anchors_by : Anchors → Body → Anchors
anchors_by before (body.Reclaimed anchors) = anchors
anchors_by before other = before

-- no reclaim, and what the last reclaim left
abbrev pub no_anchors : Anchors
no_anchors = record { upto = 0; first = 0; extents = 0; records = 0 }

abbrev pub last_anchors : List Slot → Anchors
last_anchors slots = fold (λ (a : Anchors) (slot : Slot). anchors_by a slot.body) no_anchors slots

-- with the extents of these commits, of those that are later than a mark
abbrev pub extents_by : ℕ → ℕ → List Member → ℕ
extents_by mark before members = fold (λ (n : ℕ) (m : Member). if nat_lt mark m.time then plus n m.extents else n) before members

-- the extents that the heap has to keep: those of the last reclaim's anchors, and of the commits after its time
abbrev pub extents_after : Anchors → List Slot → ℕ
extents_after anchors slots = fold (λ (n : ℕ) (slot : Slot). extents_by anchors.upto n (members_of slot)) anchors.extents slots

abbrev pub extents : List Slot → ℕ
extents slots = extents_after (last_anchors slots) slots

-- the microseconds of 30 days
abbrev pub month : ℕ
month = 2_592_000_000_000

-- the slot has a commit later than a time
abbrev pub is_after : ℕ → Slot → Bool
is_after time slot = nat_lt time (last_of 0 (members_of slot))

-- how many slots have
abbrev pub slots_after : ℕ → List Slot → ℕ
slots_after time slots = fold (λ (n : ℕ) (slot : Slot). if is_after time slot then plus n 1 else n) 0 slots

-- how many days so many slots last where this many are used in 30
abbrev pub days_by : (left recent : ℕ) → Option ℕ
days_by left recent = if recent == 0 then None else Some (min (left * 30) (2 ^ 64 - 1) / recent)

-- how many days the slots that are left last, if they are used as in the 30 days before the last commit; none where there was none
abbrev pub days_left : Header → List Slot → Option ℕ
days_left header slots = days_by (total header - length slots) (slots_after (last_time slots - month) slots)

-- ---- floors

-- the floor that a slot raises, if it is one of a floor
abbrev pub floor_in : Body → Option Floor
floor_in (body.Floor relation floor) = Some (record { relation = relation; time = floor })
floor_in other = None

-- both are of one relation, or of all
abbrev pub is_same : Option ℕ → Option ℕ → Bool
is_same None None = true
is_same None (Some b) = false
is_same (Some a) None = false
is_same (Some a) (Some b) = a == b

-- the slot raises the floor of this relation
abbrev pub is_of : Option ℕ → Option Floor → Bool
is_of relation None = false
is_of relation (Some floor) = is_same relation floor.relation

abbrev pub raises : Option ℕ → Slot → Bool
raises relation slot = is_of relation (floor_in slot.body)

-- one of the slots does
abbrev pub is_raised : Option ℕ → List Slot → Bool
is_raised relation slots = list_any (raises relation) slots

-- one floor before others, unless it is raised later
abbrev pub before_others : Option Floor → List Slot → List Floor → List Floor
before_others None later others = others
before_others (Some floor) later others = if is_raised floor.relation later then others else floor ∷ others

-- the floors, each relation's last one
abbrev pub floors : List Slot → List Floor
floors [] = []
floors (slot ∷ slots) = before_others (floor_in slot.body) slots (floors slots)
