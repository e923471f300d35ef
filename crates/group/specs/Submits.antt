-- What becomes of a submit.
use Rattle.std.specs.Prelude.{ℕ, ◌≡◌, ◌+◌, ◌-◌, ◌^◌, true, nat_lt, nat_le, List, [], ◌∷◌, ◌++◌, length, map, find, Option, Some, None, Result, Ok, Err}
use Rattle.std.specs.Prelude.{MatchBool, if◌then◌else◌}
use Rattle.history.specs.declared.key.Key.{Key}
use Rattle.history.specs.declared.key.KeyWrite.{KeyWrite}
use Rattle.law_image.specs.Facts.{latest}
use Rattle.law_image.specs.Plans.{stored_record}
use Rattle.law_image.specs.Values.{Value}
use Rattle.deltas.specs.Extents.{extent_bytes}
use Rattle.deltas.specs.Records.{spelling, record_of}
use Rattle.deltas.specs.Packing.{bodies}
use Rattle.chains.specs.KeyWrites.{KeyWrites, writes_of, with_commit}
use Rattle.clock.specs.Commit.{next_time}
use Rattle.chains.specs.Writes.{last_time}
use Rattle.extents.specs.declared.usage.Usage.{Usage}
use Rattle.extents.specs.declared.usage.Usage.TheVariants.{Out}
use Rattle.extents.specs.Usages.{used_count, with_usages}
use Rattle.snapshot.specs.Txn.{TxnValue}
use Rattle.group.specs.CommitOrder as orders
use Rattle.group.specs.Queued.{QueuedValue, stored_as}
use Rattle.deltas.specs.Chains.{chain_of, first_number}
use Rattle.group.specs.Taking.{AreLeastFree}
use Rattle.group.specs.declared.queued.StoredExtent.{StoredExtent}
use Rattle.group.specs.declared.answers.Submitted.{Submitted}
use Rattle.group.specs.declared.answers.Submitted.TheVariants.{ReadOnly, Queued}
use Rattle.group.specs.declared.answers.SubmitFault.{SubmitFault}
use Rattle.group.specs.declared.answers.SubmitFault.TheVariants as fault
use Rattle.group.specs.Values.{TransactionsValue, ordered, ordered_mark, is_own, over, spare}

-- the first of these keys, which rise, that was written later than the snapshot
abbrev pub first_conflict : List KeyWrites → ℕ → List (KeyWrite Value) → Option Key
first_conflict versions snapshot writes = find (λ key. nat_lt snapshot (last_time (writes_of versions key))) (map (λ w. w.key) writes)

-- the bytes of the records of these writes, in each of the extents that they need
abbrev pub bodies_over : List KeyWrites → List (KeyWrite Value) → List (List ℕ)
bodies_over versions writes = bodies (map spelling (map record_of (map (stored_record (λ key. latest (writes_of versions key))) writes)))

-- the bytes of the records of these writes over the commit order, in each extent that they need
abbrev pub bodies_for : TransactionsValue → List (KeyWrite Value) → List (List ℕ)
bodies_for v writes = bodies_over (ordered v) writes

-- how many extents are free
abbrev pub free_count : TransactionsValue → ℕ
free_count v = 65536 - used_count v.usages

-- the time of a commit that is submitted now
abbrev pub time_now : TransactionsValue → ℕ → ℕ
time_now v now = next_time (orders.last_time v.heads) now

-- what a submit of these writes comes to, want of memory aside
pub data Verdict : Type 0 where
  Reads : Verdict
  Conflicts : Key → Verdict
  HeapIsFull : Verdict
  StatusIsFull : Verdict
  ClockEnds : Verdict
  Queues : ℕ → Verdict

-- queued at this time, unless it is past the end of the clock
abbrev pub verdict_on_clock : ℕ → Verdict
verdict_on_clock time = if nat_lt time (2 ^ 63) then Queues time else ClockEnds

-- of writes that no conflict bars: by the free extents, then the spare slots, then the clock
abbrev pub verdict_on_room : TransactionsValue → List (KeyWrite Value) → ℕ → Verdict
verdict_on_room v writes now =
    if nat_lt (free_count v) (length (bodies_for v writes)) then HeapIsFull
    else (if nat_le (spare v) 2 then StatusIsFull else verdict_on_clock (time_now v now))

-- a conflict comes before any want of room
abbrev pub verdict_on_conflict : TransactionsValue → List (KeyWrite Value) → ℕ → Option Key → Verdict
verdict_on_conflict v writes now (Some key) = Conflicts key
verdict_on_conflict v writes now None = verdict_on_room v writes now

-- of writes that are some
abbrev pub verdict_on_writes : TransactionsValue → ℕ → List (KeyWrite Value) → ℕ → Verdict
verdict_on_writes v snapshot writes now = verdict_on_conflict v writes now (first_conflict (ordered v) snapshot writes)

-- of any writes: where there are none, the transaction only reads
abbrev pub verdict : TransactionsValue → ℕ → List (KeyWrite Value) → ℕ → Verdict
verdict v snapshot [] now = Reads
verdict v snapshot (w ∷ ws) now = verdict_on_writes v snapshot (w ∷ ws) now

-- what is refused for want of memory is a commit that no conflict bars
abbrev pub IsWant : Verdict → Type 0
IsWant Reads = ⊥
IsWant (Conflicts key) = ⊥
IsWant HeapIsFull = Unit {0}
IsWant StatusIsFull = Unit {0}
IsWant ClockEnds = Unit {0}
IsWant (Queues time) = Unit {0}

-- a fault is the one that the verdict says, or there is no memory
abbrev pub IsRefusalOf : Verdict → SubmitFault → Type 0
IsRefusalOf said (fault.Conflict key) = said ≡ Conflicts key
IsRefusalOf said fault.HeapFull = said ≡ HeapIsFull
IsRefusalOf said fault.StatusFull = said ≡ StatusIsFull
IsRefusalOf said fault.ClockEnd = said ≡ ClockEnds
IsRefusalOf said fault.NoMemory = IsWant said
IsRefusalOf said fault.Failed = ⊥
IsRefusalOf said fault.Stranger = ⊥

-- these bodies are sealed into as many extents, each the least free one, which are out now
pub record IsStored (usages : List Usage) (packed : List (List ℕ)) (stored : List StoredExtent) (new : List Usage) : Type 0 where
  pub numbers : List ℕ
  pub least : AreLeastFree usages numbers
  pub many : length numbers ≡ length packed
  pub stored_is : stored ≡ stored_as numbers (map extent_bytes (chain_of numbers packed))
  pub new_is : new ≡ with_usages usages numbers Out

-- the commit as it waits: what its slot will say of it, the versions after it, and its extents
abbrev pub queued_as : TransactionsValue → ℕ → ℕ → List (KeyWrite Value) → List ℕ → QueuedValue
queued_as v label time writes numbers = record {
  entry = record { label = label; time = time; first = first_number numbers; extents = length numbers; records = length writes };
  after = with_commit (ordered v) time writes;
  reclaimed = ordered_mark v;
  stored = stored_as numbers (map extent_bytes (chain_of numbers (bodies_for v writes)));
}

-- the commit waits, and its extents are out
abbrev pub with_queued : TransactionsValue → ℕ → ℕ → List (KeyWrite Value) → List ℕ → TransactionsValue
with_queued v label time writes numbers = record v {
  heads = v.heads ++ record { time = time; label = label; awaited = true } ∷ [];
  queue = v.queue ++ queued_as v label time writes numbers ∷ [];
  usages = with_usages v.usages numbers Out;
}

-- the commit takes as many extents as its records need, each the least free one
pub record JoinsQueue (old : TransactionsValue) (label time : ℕ) (writes : List (KeyWrite Value)) (new : TransactionsValue) : Type 0 where
  pub numbers : List ℕ
  pub least : AreLeastFree old.usages numbers
  pub many : length numbers ≡ length (bodies_for old writes)
  pub new_is : new ≡ with_queued old label time writes numbers

-- the answer to a submit of the store's own transaction, which is over by then
abbrev pub AnswersSubmit : TransactionsValue → TxnValue → ℕ → ℕ → Result Submitted SubmitFault → TransactionsValue → Type 0
AnswersSubmit v txn label now (Ok (ReadOnly snapshot)) new = (verdict v txn.snapshot txn.writes now ≡ Reads) × (snapshot ≡ txn.snapshot) × (new ≡ v)
AnswersSubmit v txn label now (Ok (Queued ticket)) new =
    (verdict v txn.snapshot txn.writes now ≡ Queues ticket.time) × (ticket.mark ≡ v.mark) × JoinsQueue v label ticket.time txn.writes new
AnswersSubmit v txn label now (Err fault) new = IsRefusalOf (verdict v txn.snapshot txn.writes now) fault × (new ≡ v)

-- a failed store refuses its own transactions too
abbrev pub SubmitsOwn : TransactionsValue → TxnValue → ℕ → ℕ → Result Submitted SubmitFault → TransactionsValue → Type 0
SubmitsOwn v txn label now result new = MatchBool v.failed ((result ≡ Err fault.Failed) × (new ≡ v)) (AnswersSubmit v txn label now result new)

-- a stranger is only spent
abbrev pub Submits : TransactionsValue → TxnValue → ℕ → ℕ → Result Submitted SubmitFault → TransactionsValue → Type 0
Submits old txn label now result new =
    MatchBool (is_own old txn) (SubmitsOwn (over old txn.number) txn label now result new) ((result ≡ Err fault.Stranger) × (new ≡ old))
