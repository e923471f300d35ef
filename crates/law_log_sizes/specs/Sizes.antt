-- How many bytes the anchors of a state take, told commit by commit.
use Rattle.std.specs.Prelude.{ℕ, ◌≡◌, ◌+◌, ◌-◌, ◌<◌, ◌≤◌, ◌^◌, max, nat_le, List, [], ◌∷◌, length, map, filter, flat_map, Option, None, Some}
use Rattle.std.specs.List.{AllByRecursion}
use Rattle.std.specs.List.Sorted.{IsStrictlySortedBy}
use Rattle.history.specs.declared.key.Key.{Key}
use Rattle.history.specs.declared.key.KeyWrite.{KeyWrite}
use Rattle.history.specs.Key.{key_cmp}
use Rattle.history.specs.Queries.{values_after}
use Rattle.law_image.specs.Values.{Value}
use Rattle.law_image.specs.Reading.{Member, OldRecord, Reading}
use Rattle.law_image.specs.Log.{AreRisingAfter}
use Rattle.law_image.specs.Facts.{commit_read, field_bytes, values_at_mark}
use Rattle.law_image.specs.StandsFor.{IsAnchorUpto}
use Rattle.law_layout.specs.Records.{old_bytes}
use Rattle.law_log_layout.specs.HeapLog.{AreAnchorsAt}

-- how many bytes the anchor of a value has, 0 if there is no value
abbrev pub old_len : Option Value → ℕ
old_len None = 0
old_len (Some value) = 20 + field_bytes value

-- The bytes of the anchors behind a commit's writes, where they were so many before, and the keys had these values:
-- for each write without the anchor of the old value, and with that of the new one.
abbrev pub len_behind : ℕ → (Key → Option Value) → List (KeyWrite Value) → ℕ
len_behind len before [] = len
len_behind len before (w ∷ ws) = len_behind ((len - old_len (before w.key)) + old_len w.write) before ws

-- behind a member
abbrev pub len_after : ℕ → (Key → Option Value) → Member → ℕ
len_after len before m = len_behind len before (commit_read before m).writes

-- behind each of these members
abbrev pub lens_behind : ℕ → (Key → Option Value) → List Member → List ℕ
lens_behind len before [] = []
lens_behind len before (m ∷ ms) =
    len_after len before m ∷ lens_behind (len_after len before m) (values_after before (commit_read before m)) ms

-- behind the last of them
abbrev pub len_from : ℕ → (Key → Option Value) → List Member → ℕ
len_from len before [] = len
len_from len before (m ∷ ms) = len_from (len_after len before m) (values_after before (commit_read before m)) ms

-- the values that they leave
abbrev pub values_behind : (Key → Option Value) → List Member → Key → Option Value
values_behind before [] = before
values_behind before (m ∷ ms) = values_behind (values_after before (commit_read before m)) ms

-- behind the last of them whose time is at most this
abbrev pub len_upto : ℕ → ℕ → (Key → Option Value) → List Member → ℕ
len_upto time len before members = len_from len before (filter (λ m. nat_le m.head.time time) members)

-- the greatest of these numbers and this one
abbrev pub greatest : ℕ → List ℕ → ℕ
greatest most [] = most
greatest most (n ∷ ns) = greatest (max most n) ns

-- the anchor of each old value is among so many bytes: no subtraction goes below zero
abbrev pub AreCounted : ℕ → (Key → Option Value) → List (KeyWrite Value) → Type 0
AreCounted len before [] = Unit {0}
AreCounted len before (w ∷ ws) = (old_len (before w.key) ≤ len) × AreCounted ((len - old_len (before w.key)) + old_len w.write) before ws

-- so it is at each of these members
abbrev pub AreAllCounted : ℕ → (Key → Option Value) → List Member → Type 0
AreAllCounted len before [] = Unit {0}
AreAllCounted len before (m ∷ ms) =
    AreCounted len before (commit_read before m).writes × AreAllCounted (len_after len before m) (values_after before (commit_read before m)) ms

-- ---- the same, told by keys

-- the bytes where each of these keys had a value before, and has one after
abbrev pub len_moved : ℕ → (Key → Option Value) → (Key → Option Value) → List Key → ℕ
len_moved len before after [] = len
len_moved len before after (key ∷ keys) = len_moved ((len - old_len (before key)) + old_len (after key)) before after keys

-- no subtraction goes below zero
abbrev pub AreMovable : ℕ → (Key → Option Value) → (Key → Option Value) → List Key → Type 0
AreMovable len before after [] = Unit {0}
AreMovable len before after (key ∷ keys) = (old_len (before key) ≤ len) × AreMovable ((len - old_len (before key)) + old_len (after key)) before after keys

-- ---- what a reading has to keep

-- the records of a member are by rising key
abbrev pub HasRisingKeys : Member → Type 0
HasRisingKeys m = IsStrictlySortedBy key_cmp (map (λ r. r.key) m.records)

-- A reading keeps its order: the anchors are by rising key and none is later than the mark; the members' times rise after it, and their records are by
-- rising key.
pub record IsOrdered (mark : ℕ) (reading : Reading) : Type 0 where
  pub range : mark < 2 ^ 63
  pub anchors : IsStrictlySortedBy key_cmp (map (λ (old : OldRecord). old.key) reading.anchors)
  pub anchor_times : AllByRecursion (IsAnchorUpto mark) reading.anchors
  pub times : AreRisingAfter mark (map (λ (m : Member). m.head) reading.members)
  pub keys : AllByRecursion HasRisingKeys reading.members

-- a reading of these anchors and members, whatever its log
abbrev pub only_members : List OldRecord → List Member → Reading
only_members olds members = record { profile = 4; slots = 0; pieces = 0; log = []; members = members; anchors = olds; runs = [] }

-- ---- the numbers of a reading

-- the bytes of anchors
abbrev pub anchors_len : List OldRecord → ℕ
anchors_len olds = length (flat_map old_bytes olds)

-- the number of the anchors that its base names, and then that behind each of its members
abbrev pub sizes : Reading → List ℕ
sizes reading =
    anchors_len reading.anchors ∷ lens_behind (anchors_len reading.anchors) (values_at_mark reading) reading.members

-- the number behind the last member whose time is at most this
abbrev pub size_at : ℕ → Reading → ℕ
size_at time reading = len_upto time (anchors_len reading.anchors) (values_at_mark reading) reading.members

-- the greatest of its numbers
abbrev pub size_most : Reading → ℕ
size_most reading =
    greatest (anchors_len reading.anchors) (lens_behind (anchors_len reading.anchors) (values_at_mark reading) reading.members)

-- the number behind the last member
abbrev pub size_now : Reading → ℕ
size_now reading = len_from (anchors_len reading.anchors) (values_at_mark reading) reading.members

-- A state has one list of anchors, of so many bytes.
pub record HasAnchors (time : ℕ) (reading : Reading) (len : ℕ) : Type 0 where
  pub list : List OldRecord
  pub are : AreAnchorsAt time reading list
  pub only : (olds : List OldRecord) → AreAnchorsAt time reading olds → olds ≡ list
  pub len_is : anchors_len list ≡ len
