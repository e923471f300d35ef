-- What a transaction submits, and what becomes of it.
use Rattle.std.specs.Prelude.{ℕ, ◌≡◌, ◌<◌, ◌+◌, ◌^◌, ◌⊎◌, max, nat_lt, List, [], ◌∷◌, IsSome, Option, None, Some, if◌then◌else◌}
use Rattle.std.specs.List.{AllByRecursion}
use Rattle.history.specs.declared.key.Key.{Key}
use Rattle.history.specs.declared.key.KeyWrite.{KeyWrite}
use Rattle.history.specs.Histories.{Commit, History, last, state, IsWriteSet, IsWrite}
use Rattle.history.specs.Conflicts.{conflict_with}
use Rattle.history.specs.Machine.{Machine, commit_order}

-- a transaction of this snapshot is submitted at the time now, in microseconds since 1970
pub record Submission (V : Type 0) : Type 0 where
  pub snapshot : ℕ
  pub label : ℕ
  pub now : ℕ
  pub writes : List (KeyWrite V)

-- gone stands only where the snapshot has a value
abbrev pub EndsASeenValue : {V : Type 0} → History V → ℕ → KeyWrite V → Type 0
EndsASeenValue h snapshot w = w.write ≡ None → IsSome (state h snapshot w.key)

-- a submission that writes
pub record IsSubmission {V : Type 0} (IsValue : V → Type 0) (h : History V) (s : Submission V) : Type 0 where
  pub label : s.label < 2 ^ 64
  pub write_set : IsWriteSet s.writes
  pub writes : AllByRecursion (IsWrite IsValue) s.writes
  pub gone : AllByRecursion (EndsASeenValue h s.snapshot) s.writes

-- what transactions submit: nothing, or a write set
abbrev pub IsSubmitted : {V : Type 0} → (V → Type 0) → History V → Submission V → Type 0
IsSubmitted IsValue h s = (s.writes ≡ []) ⊎ IsSubmission IsValue h s

-- ---- the answer

-- what the machine answers to a submission
pub data Decision (V : Type 0) : Type 0 where
  -- it writes nothing
  Reads : Decision V
  -- the least key that a later commit wrote too
  Conflicts : Key → Decision V
  -- its time would be later than every time of a commit
  Ends : Decision V
  -- it is queued as this commit
  Queues : Commit V → Decision V

-- the time that a commit submitted now is given
abbrev pub time_now : {V : Type 0} → Machine V → ℕ → ℕ
time_now m now = max (last (commit_order m) + 1) now

-- the commit that a submission is queued as
abbrev pub commit_made : {V : Type 0} → Machine V → Submission V → Commit V
commit_made m s = record { time = time_now m s.now; label = s.label; writes = s.writes }

-- a commit is queued, unless its time is past the last that a commit may have
abbrev pub timed : {V : Type 0} → Commit V → Decision V
timed c = if nat_lt c.time (2 ^ 63) then Queues c else Ends

-- a conflict on this key, if there is one, or else this decision
abbrev pub unless_conflict : {V : Type 0} → Option Key → Decision V → Decision V
unless_conflict (Some key) decision = Conflicts key
unless_conflict None decision = decision

-- the least shared key with a commit later than the snapshot, published or queued
abbrev pub conflict_of : {V : Type 0} → Machine V → Submission V → Option Key
conflict_of m s = conflict_with (commit_order m) s.snapshot s.writes

-- what becomes of a submission with these writes: where there are none, it only reads
abbrev pub decision_on : {V : Type 0} → Machine V → Submission V → List (KeyWrite V) → Decision V
decision_on m s [] = Reads
decision_on m s (w ∷ ws) = unless_conflict (conflict_of m s) (timed (commit_made m s))

-- what becomes of a submission
abbrev pub decision : {V : Type 0} → Machine V → Submission V → Decision V
decision m s = decision_on m s s.writes
