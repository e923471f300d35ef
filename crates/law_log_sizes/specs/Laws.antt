-- Laws of the bytes that the anchors of a state take.
use Rattle.std.specs.Prelude.{ℕ, ◌≡◌, ◌<◌, ◌≤◌, ◌^◌, max, nat_lt, List, [], ◌∷◌, ◌++◌, length, map, filter, flat_map, Option, Some, ◌↔◌}
use Rattle.std.specs.List.{AllByRecursion}
use Rattle.std.specs.List.Sorted.{IsStrictlySortedBy}
use Rattle.history.specs.declared.key.Key.{Key}
use Rattle.history.specs.Key.{key_cmp}
use Rattle.history.specs.Histories.{History}
use Rattle.law_image.specs.Values.{Value, IsValue}
use Rattle.history.specs.Queries.{values_after}
use Rattle.law_image.specs.Reading.{Head, HeapRecord, Member, OldRecord, ArchiveRecord, Slot, Reading}
use Rattle.law_image.specs.Log.{last_time_after, reclaim_mark, AreRisingAfter}
use Rattle.law_image.specs.Facts.{commit_read, latest, old_writes, values_at_mark, values_now}
use Rattle.law_image.specs.StandsFor.{StandsFor, IsAnchorUpto, archived_upto, reclaimed_upto}
use Rattle.law_image.specs.Plans.{with_group}
use Rattle.law_image.specs.HeapPlans.{with_base}
use Rattle.law_layout.specs.Records.{old_bytes}
use Rattle.law_log.specs.Chains.{LogChain, MayAllFollow, members_in, reading_of, reclaimed_by, told}
use Rattle.log_extents.specs.Chains.{count_of}
use Rattle.law_log_layout.specs.HeapLog.{AreAnchorsAt, IsPlaced, PlacedChain, chains_told}
use Rattle.law_log_sizes.specs.Sizes.{old_len, len_after, lens_behind, len_from, len_moved, values_behind, greatest, AreCounted, AreAllCounted, AreMovable}
use Rattle.law_log_sizes.specs.Sizes.{HasRisingKeys, IsOrdered}
use Rattle.law_log_sizes.specs.Sizes.{anchors_len, only_members, sizes, size_at, size_most, size_now, HasAnchors}

-- the bytes of an anchor are told by its value alone
abbrev pub OldLenIs : Type 0
OldLenIs = (key : Key) (from : ℕ) (value : Value) → length (old_bytes (record { key = key; from = from; value = value })) ≡ old_len (Some value)

-- and so many they are at the most
abbrev pub OldLenFits : Type 0
OldLenFits = (value : Value) → IsValue value → old_len (Some value) ≤ 4116

-- the anchors of the state at a time, from the mark on, have as many bytes as the number behind the last member up to the time
abbrev pub StateHasSize : Type 0
StateHasSize = (mark time : ℕ) (reading : Reading) (olds : List OldRecord) → IsOrdered mark reading → mark ≤ time → time < 2 ^ 63
    → AreAnchorsAt time reading olds → anchors_len olds ≡ size_at time reading

-- there are such anchors, and no others
abbrev pub StateHasAnchors : Type 0
StateHasAnchors = (mark time : ℕ) (reading : Reading) → IsOrdered mark reading → mark ≤ time → time < 2 ^ 63 → HasAnchors time reading (size_at time reading)

-- All states from the mark on keep a bound of extents where all numbers do, and only there.
abbrev pub BoundsAreSame : Type 0
BoundsAreSame = (mark bound : ℕ) (reading : Reading) → IsOrdered mark reading
    → ((time : ℕ) (olds : List OldRecord) → mark ≤ time → AreAnchorsAt time reading olds → count_of (anchors_len olds) ≤ bound)
    ↔ AllByRecursion (λ n. count_of n ≤ bound) (sizes reading)

-- so do they where the greatest number does
abbrev pub MostIsBound : Type 0
MostIsBound = (mark bound : ℕ) (reading : Reading) → IsOrdered mark reading
    → ((time : ℕ) (olds : List OldRecord) → mark ≤ time → AreAnchorsAt time reading olds → count_of (anchors_len olds) ≤ bound)
    ↔ (count_of (size_most reading) ≤ bound)

-- The numbers behind some members and others are those behind the first ones, and then those behind the others, from the last of them on.
pub record GoesOn (len : ℕ) (before : Key → Option Value) (front back : List Member) : Type 0 where
  pub lens_are : lens_behind len before (front ++ back)
      ≡ lens_behind len before front ++ lens_behind (len_from len before front) (values_behind before front) back
  pub last_is : len_from len before (front ++ back) ≡ len_from (len_from len before front) (values_behind before front) back
  pub most_is : (most : ℕ) → greatest most (lens_behind len before (front ++ back))
      ≡ greatest (greatest most (lens_behind len before front)) (lens_behind (len_from len before front) (values_behind before front) back)
  pub counted : AreAllCounted len before (front ++ back) → AreAllCounted (len_from len before front) (values_behind before front) back

-- so it is wherever members are cut in two, whatever their times
abbrev pub MembersGoOn : Type 0
MembersGoOn = (len : ℕ) (before : Key → Option Value) (front back : List Member) → GoesOn len before front back

-- the number behind a member follows from the values of its keys before and behind it
pub record IsMoved (len : ℕ) (before after : Key → Option Value) (m : Member) : Type 0 where
  pub len_is : len_after len before m ≡ len_moved len before after (map (λ (r : HeapRecord). r.key) m.records)
  pub counted : AreCounted len before (commit_read before m).writes → AreMovable len before after (map (λ (r : HeapRecord). r.key) m.records)

abbrev pub MemberIsMoved : Type 0
MemberIsMoved = (len : ℕ) (before : Key → Option Value) (m : Member) → HasRisingKeys m → IsMoved len before (values_after before (commit_read before m)) m

-- What is known of a member that comes behind others, where these are the anchors: its number by that before it and by the values of its keys, the greatest
-- number with it, and that no subtraction goes below zero.
pub record ComesNext (olds : List OldRecord) (front : List Member) (m : Member) (values : Key → Option Value) : Type 0 where
  pub len_is : len_from (anchors_len olds) values (front ++ m ∷ [])
      ≡ len_moved (len_from (anchors_len olds) values front) (values_behind values front) (values_behind values (front ++ m ∷ []))
      (map (λ (r : HeapRecord). r.key) m.records)
  pub most_is : greatest (anchors_len olds) (lens_behind (anchors_len olds) values (front ++ m ∷ []))
      ≡ max (greatest (anchors_len olds) (lens_behind (anchors_len olds) values front)) (len_from (anchors_len olds) values (front ++ m ∷ []))
  pub movable : AreMovable (len_from (anchors_len olds) values front) (values_behind values front) (values_behind values (front ++ m ∷ []))
      (map (λ (r : HeapRecord). r.key) m.records)

abbrev pub MemberComesNext : Type 0
MemberComesNext = (mark : ℕ) (olds : List OldRecord) (front : List Member) (m : Member) → IsOrdered mark (only_members olds (front ++ m ∷ []))
    → ComesNext olds front m (λ key. latest (old_writes olds key))

-- what a group more has: the numbers go on from the last one
pub record GrowsBy (reading : Reading) (group : List Member) : Type 0 where
  pub sizes_are : sizes (with_group reading group) ≡ sizes reading ++ lens_behind (size_now reading) (values_now reading) group
  pub last_is : size_now (with_group reading group) ≡ len_from (size_now reading) (values_now reading) group
  pub most_is : size_most (with_group reading group) ≡ greatest (size_most reading) (lens_behind (size_now reading) (values_now reading) group)

abbrev pub GroupGrows : Type 0
GroupGrows = (mark : ℕ) (reading : Reading) (group : List Member) → IsOrdered mark reading → GrowsBy reading group

-- the number before each write has the bytes of the key's old anchor in it
abbrev pub SizesAreCounted : Type 0
SizesAreCounted = (mark : ℕ) (reading : Reading) → IsOrdered mark reading
    → AreAllCounted (anchors_len reading.anchors) (values_at_mark reading) reading.members

-- so it is in a group behind the others
abbrev pub GroupIsCounted : Type 0
GroupIsCounted = (mark : ℕ) (reading : Reading) (group : List Member) → IsOrdered mark reading → IsOrdered mark (with_group reading group)
    → AreAllCounted (size_now reading) (values_now reading) group

-- an image that stands for a history keeps its order
abbrev pub StandingIsOrdered : Type 0
StandingIsOrdered = (reading : Reading) (h : History Value) (floors : ℕ → ℕ) → StandsFor reading h floors → IsOrdered (reclaimed_upto reading) reading

-- and so does one with a group of later commits
abbrev pub GroupIsOrdered : Type 0
GroupIsOrdered = (mark : ℕ) (reading : Reading) (group : List Member) → IsOrdered mark reading
    → AreRisingAfter (last_time_after mark (map (λ (m : Member). m.head) reading.members)) (map (λ (m : Member). m.head) group)
    → AllByRecursion HasRisingKeys group → IsOrdered mark (with_group reading group)

-- the reading of chains that follow each other keeps its order, where that of its anchors is right
abbrev pub ChainsAreOrdered : Type 0
ChainsAreOrdered = (most : ℕ) (names : List Head) (chains : List PlacedChain) (olds : List OldRecord) (runs : List (List ArchiveRecord))
    → AllByRecursion (IsPlaced most) chains
    → MayAllFollow (reclaimed_by (chains_told names chains)) 0 [] (chains_told names chains)
    → IsStrictlySortedBy key_cmp (map (λ (old : OldRecord). old.key) olds)
    → AllByRecursion (IsAnchorUpto (reclaimed_by (chains_told names chains))) olds
    → (reclaim_mark (told (chains_told names chains)) ≡ reclaimed_by (chains_told names chains))
    × IsOrdered (reclaimed_by (chains_told names chains)) (reading_of most (chains_told names chains) olds runs)

-- and its members are those of the chains, chain by chain
abbrev pub MembersByChain : Type 0
MembersByChain = (mark : ℕ) (chains : List LogChain) → filter (λ (m : Member). nat_lt mark m.head.time) (flat_map members_in chains)
    ≡ flat_map (λ (c : LogChain). filter (λ (m : Member). nat_lt mark m.head.time) (members_in c)) chains

-- ---- a reclaim

-- What a base leaves of the states: the image with it keeps its order from the new mark on, each state from that mark on has the anchors that it had, and the
-- last number is what it was.
pub record KeepsStates (mark : ℕ) (before based : Reading) : Type 0 where
  pub ordered : IsOrdered mark based
  pub states : (time : ℕ) (olds : List OldRecord) → mark ≤ time → AreAnchorsAt time based olds ↔ AreAnchorsAt time before olds
  pub last_is : size_now based ≡ size_now before

-- so it is of a base whose anchors are those of the state at the archive mark
abbrev pub BaseKeepsStates : Type 0
BaseKeepsStates = (mark : ℕ) (reading : Reading) (olds : List OldRecord) (after : List Slot) → IsOrdered mark reading
    → mark ≤ archived_upto reading → archived_upto reading < 2 ^ 63 → AreAnchorsAt (archived_upto reading) reading olds
    → KeepsStates (archived_upto reading) reading (with_base reading olds after)
