-- The beginning of a reclaim.
use Rattle.std.specs.Prelude.{ℕ, ◌≡◌, ◌+◌, ◌*◌, ◌/◌, ◌^◌, ◌<◌, ◌≤◌, ◌==◌, ◌&&◌, ◌||◌, nat_le, nat_lt, Bool, List, [], ◌∷◌, ◌++◌, length, flat_map, take, drop}
use Rattle.std.specs.Prelude.{Option, Some, None, Result, Ok, Err, MatchOption, if◌then◌else◌}
use Rattle.deltas.specs.Records.{spelling}
use Rattle.deltas.specs.declared.«record».Record.{Record}
use Rattle.vacuum.specs.Anchors.{olds_of}
use Rattle.log_entries.specs.declared.entry.AnchorName.{AnchorName}
use Rattle.log_entries.specs.declared.entry.Archive.{Archive}
use Rattle.log_entries.specs.declared.entry.Base.{Base}
use Rattle.log_entries.specs.declared.entry.Roll.{Roll}
use Rattle.log_entries.specs.Spelling.{base_bytes}
use Rattle.log_extents.specs.Chains.{count_of, first_or}
use Rattle.log_recovery.specs.Live.{LiveChainValue}
use Rattle.log_recovery.specs.declared.live.LivePart.{LivePart}
use Rattle.log_recovery.specs.declared.live.LivePart.TheVariants as parts
use Rattle.log_base.specs.Bases.{front_len, mark_of, anchors_of, base_on}
use Rattle.log_base.specs.Names.{AreBytesBetween}
use Rattle.log_base.specs.Rolls.{InRoll}
use Rattle.log_writer.specs.Turns.{open_gate}
use Rattle.log_writer.specs.Whole.{whole_parts}
use Rattle.log_room.specs.Rooms.{RoomValue, AreLeastFree}
use Rattle.log_room.specs.Reserves.{Reserves}
use Rattle.commits.specs.Calls.{oldest}
use Rattle.log_store.specs.Named.{NamedValue}
use Rattle.log_store.specs.Values.{LogStoreValue, is_busy}
use Rattle.log_store.specs.declared.reclaim.ReclaimStage.TheVariants.{Writing}
use Rattle.log_store.specs.declared.reclaim_start.BasePlan.{BasePlan}
use Rattle.log_store.specs.declared.job.StartFault.{StartFault}
use Rattle.log_store.specs.declared.job.StartFault.TheVariants as fault

-- ---- what a base would take the place of

-- the reclaim mark of the log, and whether commits were archived since
abbrev pub reclaimed : LogStoreValue → ℕ
reclaimed v = mark_of v.live.chains

abbrev pub makes : LogStoreValue → Bool
makes v = nat_lt (reclaimed v) v.named.upto

-- the chains before the first that has a commit later than the archive mark, and those that stay
abbrev pub front_count : LogStoreValue → ℕ
front_count v = front_len v.named.upto v.live.chains

abbrev pub front : LogStoreValue → List LiveChainValue
front v = take (front_count v) v.live.chains

abbrev pub back : LogStoreValue → List LiveChainValue
back v = drop (front_count v) v.live.chains

-- the head of the first of these chains, or where the log ends
abbrev pub head_or : ℕ → List LiveChainValue → ℕ
head_or next [] = next
head_or next (c ∷ cs) = first_or 0 c.numbers

-- the archives that these chains name, in the order of the log
abbrev pub archives_at : LivePart → List Archive
archives_at (parts.Commits time) = []
archives_at (parts.Archived archive) = archive ∷ []
archives_at (parts.Floor floor) = []
archives_at (parts.Base base) = base.archives

-- ---- why none begins

-- nothing is archived, or the front is but the base that stands for all that is
abbrev pub has_nothing : LogStoreValue → Bool
has_nothing v = (v.named.upto == 0) || ((reclaimed v == v.named.upto) && nat_le (front_count v) 1)

-- the least snapshot of the open transactions is below the archive mark
abbrev pub refusal_for_use : Option ℕ → ℕ → Option StartFault
refusal_for_use None mark = None
refusal_for_use (Some snapshot) mark = if nat_lt snapshot mark then Some (fault.InUse snapshot) else None

-- why no reclaim begins, by what is known before its base is counted: the first reason in this order
abbrev pub reclaim_refusal : LogStoreValue → Option StartFault
reclaim_refusal v =
    if v.commits.failed then Some fault.Failed
    else (if is_busy v then Some fault.JobBusy
    else (if has_nothing v then Some fault.NothingToDo else refusal_for_use (oldest v.commits) v.named.upto))

-- ---- what it makes

-- an anchor for each version that stands at the archive mark; where nothing was archived since the last reclaim those stay that stand
abbrev pub olds : LogStoreValue → List Record
olds v = if makes v then olds_of v.named.upto v.commits.versions else []

abbrev pub anchor_bytes : LogStoreValue → List ℕ
anchor_bytes v = flat_map spelling (olds v)

-- the roll with these names, behind all that the log has named in the archive, if there are some
abbrev pub roll_of : ℕ → List ℕ → Option Roll
roll_of start [] = None
roll_of start (b ∷ bs) = Some (record { start = start; len = length (b ∷ bs) })

-- this is that roll, which ends before the greatest place
pub record IsRollOf (start : ℕ) (names : List ℕ) (roll : Option Roll) : Type 0 where
  pub is : roll ≡ roll_of start names
  pub fits : start + length names < 2 ^ 63

abbrev pub roll_left : ℕ → List ℕ → Option InRoll
roll_left start [] = None
roll_left start (b ∷ bs) = Some (record { at = start; left = b ∷ bs })

-- the anchors as the base names them, in these extents
abbrev pub anchor_name : LogStoreValue → List ℕ → AnchorName
anchor_name v numbers =
    if makes v then record { first = first_or 0 numbers; extents = length numbers; «records» = length (olds v) } else anchors_of v.live.chains

-- the base, where its roll has these bytes and its anchors these extents
abbrev pub base_with : LogStoreValue → List ℕ → List ℕ → Base
base_with v names numbers = base_on (front v) v.named.upto (anchor_name v numbers) (roll_of v.named.end names)

-- its bytes, however its anchors are named
abbrev pub base_len : LogStoreValue → List ℕ → ℕ
base_len v names = length (base_bytes (base_with v names []))

-- what the log then names in the archive
abbrev pub archives_in : List LiveChainValue → List Archive
archives_in chains = flat_map (λ (c : LiveChainValue). archives_at c.part) chains

abbrev pub named_behind : NamedValue → Base → List LiveChainValue → ℕ → NamedValue
named_behind named base back len = record named {
  archives = base.archives ++ archives_in back;
  rolls = base.rolls;
  end = named.end + len;
}

abbrev pub named_then : LogStoreValue → Base → List ℕ → NamedValue
named_then v base names = named_behind v.named base (back v) (length names)

-- how many extents the anchors have that it names
abbrev pub standing : LogStoreValue → ℕ
standing v = if makes v then count_of (length (anchor_bytes v)) else length v.live.anchors

-- The base and its anchors keep their shares: with room for one roll more a sixteenth of the heap, and three.
pub record KeepsBaseShares (v : LogStoreValue) (names : List ℕ) : Type 0 where
  pub base : count_of (base_len v names + 17) ≤ length v.room.used / 16
  pub anchors : count_of (length (anchor_bytes v)) ≤ (3 * length v.room.used) / 16
  pub standing_few : standing v + count_of (base_len v names) ≤ length v.room.used / 4

-- ---- the beginning

-- The extents that its anchors will have: as many as their bytes need, the least free ones.
pub record AreForAnchors (v : LogStoreValue) (numbers : List ℕ) : Type 0 where
  pub many : length numbers ≡ count_of (length (anchor_bytes v))
  pub others : List ℕ
  pub least : AreLeastFree v.room.used (numbers ++ others)

-- What a reclaim is to make, all of which keeps its shares. The base names the extents that its anchors will have.
pub record IsPlanOf (v : LogStoreValue) (plan : BasePlan) : Type 0 where
  pub front_is : plan.front ≡ front_count v
  pub makes_is : plan.makes ≡ makes v
  pub names_are : AreBytesBetween (reclaimed v) v.named.upto v.commits.heads plan.names.items
  pub shares : KeepsBaseShares v plan.names.items
  pub fits : v.named.end + length plan.names.items < 2 ^ 63
  pub anchors_are : plan.anchors.items ≡ anchor_bytes v
  pub base_is : (numbers : List ℕ) → AreForAnchors v numbers → plan.base ≡ base_with v plan.names.items numbers
  pub bytes_are : plan.bytes.items ≡ base_bytes plan.base
  pub many : length plan.bytes.items ≡ base_len v plan.names.items
  pub named_is : plan.named ≡ named_then v plan.base plan.names.items

-- the store with the reclaim, of which nothing is written
abbrev pub with_reclaim : LogStoreValue → List ℕ → List ℕ → List ℕ → RoomValue → LogStoreValue
with_reclaim v names made numbers room = record v {
  room = room;
  reclaim = Some (record {
    front = front_count v;
    base = base_with v names made;
    numbers = numbers;
    anchors = if makes v then made else v.live.anchors;
    makes = makes v;
    named = named_then v (base_with v names made) names;
    roll = roll_left v.named.end names;
    stage = Writing (record { numbers = made; left = whole_parts 0 0 made (anchor_bytes v) })
        (record { numbers = numbers; left = whole_parts open_gate (head_or v.room.next (back v)) numbers (base_bytes (base_with v names made)) });
  });
}

-- A reclaim begins: its roll has the names of the commits that were archived since the last one, and it takes the least free extents, first those of its
-- anchors.
pub record IsReclaimBegun (v new : LogStoreValue) : Type 0 where
  pub names : List ℕ
  pub names_are : AreBytesBetween (reclaimed v) v.named.upto v.commits.heads names
  pub shares : KeepsBaseShares v names
  pub fits : v.named.end + length names < 2 ^ 63
  pub made : List ℕ
  pub numbers : List ℕ
  pub made_many : length made ≡ count_of (length (anchor_bytes v))
  pub many : length numbers ≡ count_of (base_len v names)
  pub room : RoomValue
  pub reserves : Reserves v.room (length made + length numbers) (made ++ numbers) room
  pub new_is : new ≡ with_reclaim v names made numbers room

-- why none begins once its base is counted: the base or its anchors would pass their share of the heap, its roll would end past the greatest place, or for want
-- of memory
abbrev pub IsCountRefusal : LogStoreValue → StartFault → Type 0
IsCountRefusal v fault.HeapFull =
    (names : List ℕ) × AreBytesBetween (reclaimed v) v.named.upto v.commits.heads names × ¬ KeepsBaseShares v names
IsCountRefusal v fault.ArchiveFull =
    (names : List ℕ) × AreBytesBetween (reclaimed v) v.named.upto v.commits.heads names × (2 ^ 63 ≤ v.named.end + length names)
IsCountRefusal v fault.NoMemory = Unit {0}
IsCountRefusal v fault.Failed = ⊥
IsCountRefusal v fault.WrongProfile = ⊥
IsCountRefusal v fault.JobBusy = ⊥
IsCountRefusal v fault.NothingToDo = ⊥
IsCountRefusal v (fault.NotYet time) = ⊥
IsCountRefusal v (fault.InUse time) = ⊥

-- a reclaim begins, or is refused and nothing has changed
abbrev pub BeginsReclaim : LogStoreValue → Result (Unit {0}) StartFault → LogStoreValue → Type 0
BeginsReclaim v (Ok done) new = IsReclaimBegun v new
BeginsReclaim v (Err why) new = IsCountRefusal v why × (new ≡ v)

-- no device call is made
abbrev pub StartsReclaim : LogStoreValue → Result (Unit {0}) StartFault → LogStoreValue → Type 0
StartsReclaim v result new = MatchOption (reclaim_refusal v) (BeginsReclaim v result new) (λ why. (result ≡ Err why) × (new ≡ v))
