-- The beginning of a reclaim.
use Rattle.std.specs.Prelude.{ℕ, ◌≡◌, ◌≤◌, ◌==◌, true, nat_lt, is_some, List, length, map, Option, Some, None, Result, Ok, Err, MatchOption, if◌then◌else◌}
use Rattle.deltas.specs.declared.«record».Record.{Record}
use Rattle.deltas.specs.Chains.{first_number}
use Rattle.deltas.specs.Packing.{bodies}
use Rattle.deltas.specs.Records.{spelling}
use Rattle.vacuum.specs.Anchors.{olds_of}
use Rattle.wire.specs.declared.slot.Anchors.{Anchors}
use Rattle.group.specs.Taking.{AreLeastFree}
use Rattle.group.specs.Values.{spare, with_slot_lent}
use Rattle.group.specs.Submits.{free_count}
use Rattle.group.specs.Reclaims.{oldest, with_reserved}
use Rattle.store.specs.Values.{StoreValue}
use Rattle.store.specs.declared.job.JobStage.TheVariants.{Writing}
use Rattle.store.specs.declared.job.JobWork.TheVariants.{Reclaim}
use Rattle.store.specs.declared.job.StartFault.{StartFault}
use Rattle.store.specs.declared.job.StartFault.TheVariants as fault

-- the least snapshot of the open transactions, where it is below a time
abbrev pub below : Option ℕ → ℕ → Option ℕ
below None time = None
below (Some snapshot) time = if nat_lt snapshot time then Some snapshot else None

-- why no job begins that takes what stood before a time, where a transaction reads below it and where none does
abbrev pub refusal_for_use : StoreValue → Option ℕ → Option StartFault
refusal_for_use v (Some snapshot) = Some (fault.InUse snapshot)
refusal_for_use v None = if spare v.transactions == 0 then Some fault.StatusFull else None

-- why none begins, by what is known before its anchors are counted: the first reason in this order
abbrev pub reclaim_refusal : StoreValue → Option StartFault
reclaim_refusal v =
    if v.transactions.failed then Some fault.Failed
    else (if is_some v.job then Some fault.JobBusy
    else (if v.archived == v.transactions.reclaimed then Some fault.NothingToDo else refusal_for_use v (below (oldest v.transactions) v.archived)))

-- the anchors: a record for each version that stands at the archive mark
abbrev pub anchors_of : StoreValue → List Record
anchors_of v = olds_of v.archived v.transactions.versions

-- the bytes of those records, in each of the extents that they need
abbrev pub anchor_bodies : StoreValue → List (List ℕ)
anchor_bodies v = bodies (map spelling (anchors_of v))

-- the chain of the anchors, as the slot is to name it
abbrev pub anchors_named : StoreValue → List ℕ → Anchors
anchors_named v numbers = record { upto = v.archived; first = first_number numbers; extents = length numbers; «records» = length (anchors_of v) }

-- the reclaim has begun: it has a slot lent and extents that are out, and nothing of its anchors is written
abbrev pub with_reclaim : StoreValue → List ℕ → StoreValue
with_reclaim v numbers = record v {
  transactions = with_slot_lent (with_reserved v.transactions numbers);
  job = Some (record { work = Reclaim (anchors_named v numbers) (record { all = anchors_of v; left = anchors_of v }) 0; stage = Writing });
}

-- so it has, and took the least free extents, as many as its anchors need
pub record IsReclaimBegun (v new : StoreValue) : Type 0 where
  pub numbers : List ℕ
  -- each extent is the least free one, and they are as many as the anchors need
  pub least : AreLeastFree v.transactions.usages numbers
  pub many : length numbers ≡ length (anchor_bodies v)
  pub new_is : new ≡ with_reclaim v numbers

-- why no reclaim begins once its anchors are counted: too few extents are free, or for want of memory
abbrev pub IsAnchorRefusal : StoreValue → StartFault → Type 0
IsAnchorRefusal v fault.HeapFull = nat_lt (free_count v.transactions) (length (anchor_bodies v)) ≡ true
IsAnchorRefusal v fault.NoMemory = Unit {0}
IsAnchorRefusal v fault.Failed = ⊥
IsAnchorRefusal v fault.WrongProfile = ⊥
IsAnchorRefusal v fault.JobBusy = ⊥
IsAnchorRefusal v fault.NothingToDo = ⊥
IsAnchorRefusal v (fault.NotYet time) = ⊥
IsAnchorRefusal v (fault.InUse time) = ⊥
IsAnchorRefusal v fault.StatusFull = ⊥
IsAnchorRefusal v fault.ArchiveFull = ⊥
IsAnchorRefusal v fault.NotGrowable = ⊥

-- a reclaim begins where enough extents are free, or is refused and nothing has changed
abbrev pub BeginsReclaim : StoreValue → Result (Unit {0}) StartFault → StoreValue → Type 0
BeginsReclaim v (Ok done) new = (length (anchor_bodies v) ≤ free_count v.transactions) × IsReclaimBegun v new
BeginsReclaim v (Err why) new = IsAnchorRefusal v why × (new ≡ v)

-- no device call is made
abbrev pub StartsReclaim : StoreValue → Result (Unit {0}) StartFault → StoreValue → Type 0
StartsReclaim v result new = MatchOption (reclaim_refusal v) (BeginsReclaim v result new) (λ why. (result ≡ Err why) × (new ≡ v))
