-- Which extents of the heap the log has, and which it will take.
use Rattle.std.specs.Prelude.{ℕ, ◌≡◌, ◌+◌, ◌-◌, ◌*◌, ◌/◌, ◌^◌, ◌≤◌, ◌&&◌, nat_le, Bool, true, List, [], ◌∷◌, ◌++◌, length}
use Rattle.log_extents.specs.Chains.{count_of, IsNumberOf}
use Rattle.log_space.specs.Uses.{with_use, all_used, used_count, IsLeastFree, IsFree}

-- the room in a heap
pub record RoomValue : Type 0 where
  -- whether each extent is in use; the one where the log ends is
  pub used : List Bool
  -- the extent where the log ends
  pub next : ℕ
  -- the extents that count as the log's: those of its chains, the base's aside, those that a begun chain has taken, and next
  pub log : ℕ
  -- the extents that the commits will take that wait in no begun group
  pub promised : ℕ
  -- the bytes of the anchors of the state behind the commit order
  pub anchors : ℕ
  -- the extents that are taken for the base that a reclaim makes, and for its anchors
  pub reserved : ℕ

-- how many extents the heap has
abbrev pub most_of : RoomValue → ℕ
most_of v = length v.used

-- Half of the heap is the log's, a quarter of it that of the base and the anchors that stand, and a quarter that of those in the making.
pub record IsRoom (v : RoomValue) : Type 0 where
  pub low : 64 ≤ length v.used
  pub high : length v.used ≤ 2 ^ 20
  pub next : IsNumberOf (length v.used) v.next
  pub few : used_count v.used ≤ v.log + length v.used / 4 + v.reserved
  pub share : v.reserved ≤ length v.used / 4
  pub half : v.log + v.promised ≤ length v.used / 2
  pub anchors : count_of v.anchors ≤ (3 * length v.used) / 16

-- A commit of so many extents, behind which the anchors have so many bytes, has its room: four extents of the log's half are left for the entries of jobs.
abbrev pub fits : RoomValue → ℕ → ℕ → Bool
fits v count anchors = nat_le (v.log + v.promised + count) (length v.used / 2 - 4) && nat_le (count_of anchors) ((3 * length v.used) / 16)

-- it is promised its extents
abbrev pub promised_to : RoomValue → ℕ → ℕ → RoomValue
promised_to v count anchors = record v { promised = v.promised + count; anchors = anchors }

-- the entry of a floor, or of an archive up to an earlier time than the last, has its room: two extents of the log's half are left for others
abbrev pub has_entry_room : RoomValue → Bool
has_entry_room v = nat_le (v.log + v.promised + 1) (length v.used / 2 - 2)

-- the entry of an archive up to the last time has its room: it may take the last extent of the log's half
abbrev pub has_last_room : RoomValue → Bool
has_last_room v = nat_le (v.log + v.promised + 1) (length v.used / 2)

-- an entry is promised its extent
abbrev pub promised_entry : RoomValue → RoomValue
promised_entry v = record v { promised = v.promised + 1 }

-- each is the least free one once those before it are in use
abbrev pub AreLeastFree : List Bool → List ℕ → Type 0
AreLeastFree used [] = Unit {0}
AreLeastFree used (n ∷ ns) = IsLeastFree used n × AreLeastFree (with_use used n true) ns

-- A chain of so many extents begins where the log ends. It takes its other extents and then the one where the log goes on behind it, each the least free one.
-- So many extents are promised no longer.
pub record TakesChain (old : RoomValue) (count promised : ℕ) (numbers : List ℕ) (link : ℕ) (new : RoomValue) : Type 0 where
  pub others : List ℕ
  pub numbers_are : numbers ≡ old.next ∷ others
  pub many : length numbers ≡ count
  pub least : AreLeastFree old.used (others ++ link ∷ [])
  pub new_is : new ≡ record old {
    used = all_used old.used (others ++ link ∷ []);
    next = link;
    log = old.log + count;
    promised = old.promised - promised;
  }

-- so many extents from the least free one on
pub record TakesLeast (old : List Bool) (count : ℕ) (taken : List ℕ) (new : List Bool) : Type 0 where
  pub many : length taken ≡ count
  pub least : AreLeastFree old taken
  pub new_is : new ≡ all_used old taken

-- an opened heap may be given room: the extent where the log ends is free, and the shares are kept
pub record MayOpen (used : List Bool) (next log bytes : ℕ) : Type 0 where
  pub low : 64 ≤ length used
  pub high : length used ≤ 2 ^ 20
  pub free : IsFree used next
  pub few : used_count used + 1 ≤ log + length used / 4
  pub half : log ≤ length used / 2
  pub anchors : count_of bytes ≤ (3 * length used) / 16
