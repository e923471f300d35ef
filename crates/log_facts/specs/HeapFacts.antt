-- What the log of a store tells that lies in the heap, by what its chains say.
use Rattle.std.specs.Prelude.{ℕ, ◌-◌, ◌/◌, nat_lt, if◌then◌else◌, Bool, List, [], ◌∷◌, fold, max, Option, Some, None}
use Rattle.std.specs.List.{list_any}
use Rattle.log_entries.specs.declared.entry.RelationFloor.{RelationFloor}
use Rattle.log_shown.specs.declared.items.LogItem.{LogItem}
use Rattle.log_shown.specs.declared.items.LogItem.TheVariants as says
use Rattle.log_shown.specs.declared.reading.LogExtents.{LogExtents}
use Rattle.log_facts.specs.Facts.{plus, is_same}
use Rattle.log_facts.specs.declared.floor.Floor.{Floor}

-- the mark of the last reclaim, 0 where there was none
abbrev pub reclaimed_by : ℕ → LogItem → ℕ
reclaimed_by before (says.Base head upto anchors) = upto
reclaimed_by before other = before

abbrev pub reclaimed : List LogItem → ℕ
reclaimed items = fold reclaimed_by 0 items

-- with the commits that a roll names, 16 bytes for each, or with this one, if it is later than the mark: a roll names those up to it
abbrev pub commits_by : ℕ → ℕ → LogItem → ℕ
commits_by mark n (says.BaseRoll roll) = plus n (roll.len / 16)
commits_by mark n (says.Commit label time records) = if nat_lt mark time then plus n 1 else n
commits_by mark n other = n

-- how many commits the store has
abbrev pub commits : List LogItem → ℕ
commits items = fold (commits_by (reclaimed items)) 0 items

-- the time of the last commit, which the base alone may know of; 0 where there is none
abbrev pub last_by : ℕ → LogItem → ℕ
last_by before (says.Commit label time records) = time
last_by before other = before

abbrev pub last_time : List LogItem → ℕ
last_time items = max (reclaimed items) (fold last_by 0 items)

-- up to which time it is archived, 0 where nothing is
abbrev pub archived_by : ℕ → LogItem → ℕ
archived_by before (says.BaseRun run) = run.upto
archived_by before (says.Run head run) = run.upto
archived_by before other = before

abbrev pub archived : List LogItem → ℕ
archived items = fold archived_by 0 items

-- the bytes of the archive: where the last of all runs and rolls ends
abbrev pub archive_by : ℕ → LogItem → ℕ
archive_by before (says.BaseRoll roll) = max before (plus roll.start roll.len)
archive_by before (says.BaseRun run) = max before (plus run.start run.len)
archive_by before (says.Run head run) = max before (plus run.start run.len)
archive_by before other = before

abbrev pub archive : List LogItem → ℕ
archive items = fold archive_by 0 items

-- how many extents the log may still take, of the half of the heap that is its own
abbrev pub log_free : ℕ → LogExtents → ℕ
log_free most extents = most / 2 - extents.log

-- ---- floors

abbrev pub floor_of : RelationFloor → Floor
floor_of floor = record { relation = Some floor.relation; time = floor.floor }

-- the floor that is raised here
abbrev pub floor_in : LogItem → Option Floor
floor_in (says.BaseFloor floor) = Some (floor_of floor)
floor_in (says.Floor head floor) = Some (floor_of floor)
floor_in other = None

abbrev pub before_others : Option Floor → List Floor → List Floor
before_others None others = others
before_others (Some floor) others = floor ∷ others

-- each floor that is raised, in its order
abbrev pub raised : List LogItem → List Floor
raised [] = []
raised (item ∷ items) = before_others (floor_in item) (raised items)

-- one of these floors is of this relation
abbrev pub is_raised : Option ℕ → List Floor → Bool
is_raised relation floors = list_any (λ (floor : Floor). is_same relation floor.relation) floors

-- each relation's last one
abbrev pub last_floors : List Floor → List Floor
last_floors [] = []
last_floors (floor ∷ floors) = if is_raised floor.relation floors then last_floors floors else floor ∷ last_floors floors

-- the floors, each relation's last one
abbrev pub floors : List LogItem → List Floor
floors items = last_floors (raised items)
