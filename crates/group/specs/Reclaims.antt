-- What a reclaim takes, and what it leaves.
use Rattle.std.specs.Prelude.{ℕ, ◌≡◌, ◌+◌, ◌≤◌, true, nat_lt, List, [], length, Option, None, Some, Result, Ok, Err}
use Rattle.chains.specs.KeyWrites.{KeyWrites, forgotten}
use Rattle.std.specs.declared.alloc.AllocError.{AllocError}
use Rattle.extents.specs.declared.usage.Usage.TheVariants.{Free, Out, Kept}
use Rattle.extents.specs.Usages.{used_count, with_usages}
use Rattle.extents.specs.Times.{with_times, all_retired_by}
use Rattle.snapshot.specs.OpenTable.{least_open}
use Rattle.group.specs.Taking.{AreLeastFree}
use Rattle.group.specs.Values.{TransactionsValue}
use Rattle.group.specs.Submits.{free_count}
use Rattle.group.specs.declared.reclaims.ReserveFault.{ReserveFault}
use Rattle.group.specs.declared.reclaims.ReserveFault.TheVariants as fault

-- the least snapshot of the open transactions
abbrev pub oldest : TransactionsValue → Option ℕ
oldest v = least_open v.opened

-- these extents are out for a job, and those that were so before are free
abbrev pub with_reserved : TransactionsValue → List ℕ → TransactionsValue
with_reserved v numbers = record v {
  usages = with_usages (with_usages v.usages numbers Out) v.reserved Free;
  reserved = numbers;
}

-- so many extents, each the least free one
pub record IsReserved (v : TransactionsValue) (count : ℕ) (new : TransactionsValue) : Type 0 where
  pub numbers : List ℕ
  pub least : AreLeastFree v.usages numbers
  pub many : length numbers ≡ count
  pub new_is : new ≡ with_reserved v numbers

-- a job asks for so many extents: it has them, or the heap has too few, or memory was refused
abbrev pub Reserves : TransactionsValue → ℕ → Result (Unit {0}) ReserveFault → TransactionsValue → Type 0
Reserves v count (Ok done) new = (count ≤ free_count v) × IsReserved v count new
Reserves v count (Err fault.HeapFull) new = (nat_lt (free_count v) count ≡ true) × (new ≡ v)
Reserves v count (Err fault.NoMemory) new = (count ≤ free_count v) × (new ≡ v)

-- the published versions without what ended by a mark are made, beside them
abbrev pub prepared : TransactionsValue → ℕ → TransactionsValue
prepared v mark = record v { pending = Some (forgotten mark v.versions) }

-- the versions that a reclaim leaves are made, or memory for them was refused
abbrev pub Prepares : TransactionsValue → ℕ → Result (Unit {0}) AllocError → TransactionsValue → Type 0
Prepares v mark (Ok done) new = new ≡ prepared v mark
Prepares v mark (Err none) new = new ≡ v

-- what was made of the versions, or else the versions
abbrev pub versions_once : Option (List KeyWrites) → List KeyWrites → List KeyWrites
versions_once None versions = versions
versions_once (Some made) versions = made

-- The reclaim is done: the chains of the commits up to the mark and that of the anchors before are free, the extents
-- that were out for it are kept, and what was made of the versions stands.
abbrev pub reclaimed_to : TransactionsValue → ℕ → TransactionsValue
reclaimed_to v mark = record v {
  versions = versions_once v.pending v.versions;
  pending = None;
  usages = with_usages (all_retired_by mark v.times v.usages) v.reserved Kept;
  times = with_times v.times v.reserved 0;
  reserved = [];
  reclaimed = mark;
}
