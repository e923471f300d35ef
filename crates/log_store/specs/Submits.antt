-- What becomes of a submit.
use Rattle.std.specs.Prelude.{ℕ, ◌≡◌, Bool, List, [], ◌∷◌, ◌++◌, Option, Some, None, Result, Ok, Err, MatchBool, if◌then◌else◌}
use Rattle.history.specs.declared.key.Key.{Key}
use Rattle.history.specs.declared.key.KeyWrite.{KeyWrite}
use Rattle.law_image.specs.Values.{Value}
use Rattle.snapshot.specs.Txn.{TxnValue}
use Rattle.group.specs.Submits.{Verdict, Reads, Conflicts, HeapIsFull, verdict_on_clock, Queues, IsRefusalOf, first_conflict}
use Rattle.group.specs.declared.answers.Submitted.{Submitted}
use Rattle.group.specs.declared.answers.Submitted.TheVariants.{ReadOnly, Queued}
use Rattle.group.specs.declared.answers.SubmitFault.{SubmitFault}
use Rattle.group.specs.declared.answers.SubmitFault.TheVariants as fault
use Rattle.law_log_sizes.specs.Sizes.{len_behind}
use Rattle.log_sizes.specs.Counted.{values_in}
use Rattle.log_room.specs.Rooms.{fits, promised_to}
use Rattle.log_room.specs.Contents.{content_over, extents_over}
use Rattle.commits.specs.Values.{ordered, is_own, over}
use Rattle.commits.specs.Steps.{time_now, with_waiting}
use Rattle.log_store.specs.Values.{LogStoreValue}

-- the bytes of the anchors of the state behind a commit of these writes
abbrev pub anchors_behind : LogStoreValue → List (KeyWrite Value) → ℕ
anchors_behind v writes = len_behind v.room.anchors (values_in (ordered v.commits)) writes

-- such a commit has room in the heap
abbrev pub has_room : LogStoreValue → List (KeyWrite Value) → Bool
has_room v writes = fits v.room (extents_over (ordered v.commits) writes) (anchors_behind v writes)

-- what a submit comes to of writes that no conflict bars, want of memory aside: by the room, then the clock
abbrev pub verdict_on_room : LogStoreValue → List (KeyWrite Value) → ℕ → Verdict
verdict_on_room v writes now = if has_room v writes then verdict_on_clock (time_now v.commits now) else HeapIsFull

-- a conflict comes before any want of room
abbrev pub verdict_on_conflict : LogStoreValue → List (KeyWrite Value) → ℕ → Option Key → Verdict
verdict_on_conflict v writes now (Some key) = Conflicts key
verdict_on_conflict v writes now None = verdict_on_room v writes now

-- of writes that are some
abbrev pub verdict_on_writes : LogStoreValue → ℕ → List (KeyWrite Value) → ℕ → Verdict
verdict_on_writes v snapshot writes now = verdict_on_conflict v writes now (first_conflict (ordered v.commits) snapshot writes)

-- of any writes: where there are none, the transaction only reads
abbrev pub verdict : LogStoreValue → ℕ → List (KeyWrite Value) → ℕ → Verdict
verdict v snapshot [] now = Reads
verdict v snapshot (w ∷ ws) now = verdict_on_writes v snapshot (w ∷ ws) now

-- the commit waits with its bytes, and is promised its extents
abbrev pub with_queued : LogStoreValue → ℕ → ℕ → List (KeyWrite Value) → LogStoreValue
with_queued v label time writes = record v {
  commits = with_waiting v.commits label time writes;
  contents = v.contents ++ content_over (ordered v.commits) label time writes ∷ [];
  room = promised_to v.room (extents_over (ordered v.commits) writes) (anchors_behind v writes);
}

-- the answer to a submit of the store's own transaction, which is over by then
abbrev pub AnswersSubmit : LogStoreValue → TxnValue → ℕ → ℕ → Result Submitted SubmitFault → LogStoreValue → Type 0
AnswersSubmit v txn label now (Ok (ReadOnly snapshot)) new = (verdict v txn.snapshot txn.writes now ≡ Reads) × (snapshot ≡ txn.snapshot) × (new ≡ v)
AnswersSubmit v txn label now (Ok (Queued ticket)) new = (verdict v txn.snapshot txn.writes now ≡ Queues ticket.time) × (ticket.mark ≡ v.commits.mark)
    × (new ≡ with_queued v label ticket.time txn.writes)
AnswersSubmit v txn label now (Err fault) new = IsRefusalOf (verdict v txn.snapshot txn.writes now) fault × (new ≡ v)

-- a failed store refuses its own transactions too
abbrev pub SubmitsOwn : LogStoreValue → TxnValue → ℕ → ℕ → Result Submitted SubmitFault → LogStoreValue → Type 0
SubmitsOwn v txn label now result new = MatchBool v.commits.failed ((result ≡ Err fault.Failed) × (new ≡ v)) (AnswersSubmit v txn label now result new)

-- its transaction is over
abbrev pub spent : LogStoreValue → ℕ → LogStoreValue
spent v number = record v { commits = over v.commits number }

-- a stranger is only spent
abbrev pub Submits : LogStoreValue → TxnValue → ℕ → ℕ → Result Submitted SubmitFault → LogStoreValue → Type 0
Submits old txn label now result new =
    MatchBool (is_own old.commits txn) (SubmitsOwn (spent old txn.number) txn label now result new) ((result ≡ Err fault.Stranger) × (new ≡ old))
