-- What the committer works for callers of `commit`.
use Rattle.std.specs.Prelude.{◌≡◌, ◌⊎◌, ℕ, true, List, [], ◌∷◌, map, is_some, unwrap_or, Option, None, Some, Result, Ok, Err, if◌then◌else◌}
use Rattle.history.specs.declared.key.Key.{Key}
use Rattle.history.specs.declared.key.KeyWrite.{KeyWrite}
use Rattle.history.specs.Histories.{History, last, state}
use Rattle.history.specs.Key.{write_in}
use Rattle.history.specs.Machine.{Machine}
use Rattle.law_image.specs.Values.{Value}
use Rattle.wire.specs.Values.{HasSizes}
use Rattle.snapshot.specs.Txn.{TxnValue, at_snapshot, IsFullFor}
use Rattle.snapshot.specs.WriteSets.{with_write, without}
use Rattle.snapshot.specs.declared.txn.TxnFault.{TxnFault}
use Rattle.snapshot.specs.declared.txn.TxnFault.TheVariants as txn_fault
use Rattle.group.specs.declared.answers.BeginFault.TheVariants as begin
use Rattle.group.specs.declared.answers.Submitted.{Submitted}
use Rattle.group.specs.declared.answers.Submitted.TheVariants as submitted
use Rattle.group.specs.declared.answers.SubmitFault.{SubmitFault}
use Rattle.shared.specs.declared.change.Change.{Change}
use Rattle.shared.specs.declared.change.Change.TheVariants as change
use Rattle.shared.specs.declared.committed.CommitFault.{CommitFault}
use Rattle.shared.specs.declared.committed.CommitFault.TheVariants as fault
use Rattle.shared.specs.Seen.{Seen, IsFrontOf, IsLater}
use Rattle.shared.specs.Shared.{Reads, SubmitHappens, AbortHappens, SeenReached}

-- ---- changes

-- a change as it is copied: a value, or none where the key is to be deleted
abbrev pub write_of : Change → KeyWrite Value
write_of (change.Put key fields) = record { key = key; write = Some (map (λ field. field.now) fields.now) }
write_of (change.Delete key) = record { key = key; write = None }

-- the writes after such a change, over what stood before
abbrev pub wrote : (Key → Option Value) → List (KeyWrite Value) → Key → Option Value → List (KeyWrite Value)
wrote before writes key (Some value) = with_write writes (record { key = key; write = Some value })
wrote before writes key None = if is_some (before key) then with_write writes (record { key = key; write = None }) else without writes key

-- the writes after such changes in turn
abbrev pub written : (Key → Option Value) → List (KeyWrite Value) → List (KeyWrite Value) → List (KeyWrite Value)
written before writes [] = writes
written before writes (w ∷ ws) = written before (wrote before writes w.key w.write) ws

-- there is a value, and it has not the sizes of one
abbrev pub IsBadValue : Option Value → Type 0
IsBadValue None = ⊥
IsBadValue (Some value) = ¬ HasSizes value

-- so it is of one of these changes
abbrev pub HaveBadValue : List (KeyWrite Value) → Type 0
HaveBadValue [] = ⊥
HaveBadValue (w ∷ ws) = IsBadValue w.write ⊎ HaveBadValue ws

-- why a change is not made over these writes: nothing is there to be deleted, as many keys are written as may be, or the value is none; or memory was refused
abbrev pub IsBarred : (Key → Option Value) → List (KeyWrite Value) → KeyWrite Value → TxnFault → Type 0
IsBarred before writes w txn_fault.Missing = (w.write ≡ None) × (unwrap_or (write_in writes w.key) (before w.key) ≡ None)
IsBarred before writes w txn_fault.TooManyKeys = IsFullFor writes w.key
IsBarred before writes w txn_fault.BadValue = IsBadValue w.write
IsBarred before writes w txn_fault.NoMemory = Unit {0}

-- why one of these changes in turn is not made
abbrev pub AreBarred : (Key → Option Value) → List (KeyWrite Value) → List (KeyWrite Value) → TxnFault → Type 0
AreBarred before writes [] why = ⊥
AreBarred before writes (w ∷ ws) why = IsBarred before writes w why ⊎ AreBarred before (wrote before writes w.key w.write) ws why

-- why a change is not copied: its value is none, or memory was refused
abbrev pub IsUncopied : KeyWrite Value → TxnFault → Type 0
IsUncopied w txn_fault.Missing = ⊥
IsUncopied w txn_fault.TooManyKeys = ⊥
IsUncopied w txn_fault.BadValue = IsBadValue w.write
IsUncopied w txn_fault.NoMemory = Unit {0}

-- why one of these changes is not copied
abbrev pub AreUncopied : List (KeyWrite Value) → TxnFault → Type 0
AreUncopied [] why = ⊥
AreUncopied (w ∷ ws) why = IsUncopied w why ⊎ AreUncopied ws why

-- ---- requests

-- a transaction began on what was seen and made these changes, and its submit was answered so when this was seen
pub record Asked (start : Machine Value) (brand : ℕ) (writes : List (KeyWrite Value)) (label : ℕ) (result : Result Submitted SubmitFault) (seen : Seen) : Type 0
  where
    pub first : Seen
    pub begun : TxnValue
    pub txn : TxnValue
    pub now : ℕ
    pub reads : Reads start brand begun first
    pub made : txn.writes ≡ written (at_snapshot begun.state begun.snapshot) begun.writes writes
    pub early : IsLater first seen
    pub submits : SubmitHappens start brand txn label now result seen

-- a transaction began on what was seen, one of these changes could not be made, and the transaction was given up when this was seen
pub record GivenUp (start : Machine Value) (brand : ℕ) (writes : List (KeyWrite Value)) (why : TxnFault) (seen : Seen) : Type 0 where
  pub first : Seen
  pub begun : TxnValue
  pub reads : Reads start brand begun first
  pub barred : AreBarred (at_snapshot begun.state begun.snapshot) begun.writes writes why
  pub early : IsLater first seen
  pub over : AbortHappens start begun.snapshot seen

-- the commit waits, or of a snapshot of what was seen the changes come to no write, or it is refused as the store refuses it
abbrev pub ServedSays : Machine Value → ℕ → List (KeyWrite Value) → ℕ → Result Submitted CommitFault → Seen → Type 0
ServedSays start brand writes label (Ok (submitted.Queued ticket)) seen = Asked start brand writes label (Ok (submitted.Queued ticket)) seen
ServedSays start brand writes label (Ok (submitted.ReadOnly time)) seen =
    (snapshot : History Value) × IsFrontOf snapshot seen.published × (time ≡ last snapshot) × (written (state snapshot (last snapshot)) [] writes ≡ [])
ServedSays start brand writes label (Err (fault.Begin begin.NoMemory)) seen = SeenReached start seen
ServedSays start brand writes label (Err (fault.Begin begin.Failed)) seen = seen.failed ≡ true
ServedSays start brand writes label (Err (fault.Txn why)) seen = GivenUp start brand writes why seen
ServedSays start brand writes label (Err (fault.Submit why)) seen = Asked start brand writes label (Err why) seen
ServedSays start brand writes label (Err fault.InDoubt) seen = ⊥
ServedSays start brand writes label (Err fault.Stranger) seen = ⊥

-- a request that was worked for: its changes, its label, what came of it and what was seen then
pub record ServedValue : Type 0 where
  pub writes : List (KeyWrite Value)
  pub label : ℕ
  pub outcome : Result Submitted CommitFault
  pub seen : Seen

-- it is the answer to these changes under this label
pub record IsAnswerTo (changes : List Change) (label : ℕ) (served : ServedValue) : Type 0 where
  pub writes : map write_of changes ≡ served.writes
  pub label_is : served.label ≡ label
