-- What queries and calls that change nothing answer.
use Rattle.std.specs.Prelude.{ℕ, ◌≡◌, ◌+◌, ◌==◌, min, nat_le, nat_lt, List, map, filter, Bool, Option, None, Some, Result, Ok, Err, if◌then◌else◌}
use Rattle.std.specs.List.{list_any}
use Rattle.history.specs.declared.key.Key.{Key}
use Rattle.history.specs.declared.time.Version.{Version}
use Rattle.history.specs.Histories.{History, last, state, between}
use Rattle.history.specs.Queries.{IsScanAt, IsScanBetween}
use Rattle.history.specs.Machine.{Machine}

-- ---- queries of a history with the floors of what is kept

-- why a query is refused
pub data QueryRefusal : Type 0 where
  -- a time is before this floor
  BeforeKept : ℕ → QueryRefusal
  -- a time is later than the last commit, of this time: later commits may change the answer
  NotYet : ℕ → QueryRefusal
  -- there is no time from a to b
  EmptyInterval : QueryRefusal

-- the first test that fails, of a query at a time, where the last commit is of this time
abbrev pub time_refusal : ℕ → ℕ → ℕ → Option QueryRefusal
time_refusal newest floor time = if nat_lt time floor then Some (BeforeKept floor) else if nat_lt newest time then Some (NotYet newest) else None

-- and of a query of an interval
abbrev pub interval_refusal : ℕ → ℕ → ℕ → ℕ → Option QueryRefusal
interval_refusal newest floor a b =
    if nat_lt (min a b) floor then Some (BeforeKept floor) else if nat_lt (newest + 1) b then Some (NotYet newest) else if nat_le b a then Some EmptyInterval
    else None

-- the refusal, if there is one, or else this answer
abbrev pub unless_refused : {X : Type 0} → Option QueryRefusal → X → Result X QueryRefusal
unless_refused (Some refusal) answer = Err refusal
unless_refused None answer = Ok answer

-- the value of a key at a time
abbrev pub at_answer : {V : Type 0} → History V → (ℕ → ℕ) → Key → ℕ → Result (Option V) QueryRefusal
at_answer h floors key time = unless_refused (time_refusal (last h) (floors key.relation) time) (state h time key)

-- the rows of a key from a to b
abbrev pub between_answer : {V : Type 0} → History V → (ℕ → ℕ) → Key → ℕ → ℕ → Result (List (Version V)) QueryRefusal
between_answer h floors key a b = unless_refused (interval_refusal (last h) (floors key.relation) a b) (between h key a b)

-- a scan's answer: what is found, where nothing is refused
abbrev pub IsScanAnswer : {X : Type 0} → Option QueryRefusal → (X → Type 0) → Result X QueryRefusal → Type 0
IsScanAnswer refusal IsFound (Ok found) = (refusal ≡ None) × IsFound found
IsScanAnswer refusal IsFound (Err why) = refusal ≡ Some why

-- the values of a relation at a time
abbrev pub IsScanAtAnswer : {V : Type 0} → History V → (ℕ → ℕ) → ℕ → ℕ → Result (List (ℕ × V)) QueryRefusal → Type 0
IsScanAtAnswer h floors relation time answer = IsScanAnswer (time_refusal (last h) (floors relation) time) (IsScanAt h relation time) answer

-- the rows of a relation from a to b
abbrev pub IsScanBetweenAnswer : {V : Type 0} → History V → (ℕ → ℕ) → ℕ → ℕ → ℕ → Result (List (ℕ × Version V)) QueryRefusal → Type 0
IsScanBetweenAnswer h floors relation a b answer = IsScanAnswer (interval_refusal (last h) (floors relation) a b) (IsScanBetween h relation a b) answer

-- ---- commits

-- what a ticket is redeemed for
pub data Redeemed : Type 0 where
  -- the commit of this time is published
  Done : ℕ → Redeemed
  Waiting : Redeemed
  -- the store has failed before the commit was published: opened again, it may have it or not
  InDoubt : Redeemed

-- a commit of this time is published
abbrev pub is_published : {V : Type 0} → Machine V → ℕ → Bool
is_published m time = list_any (λ c. c.time == time) m.published

-- what the ticket of a commit of this time is redeemed for
abbrev pub redeemed_by : {V : Type 0} → Machine V → ℕ → Redeemed
redeemed_by m time = if is_published m time then Done time else if m.failed then InDoubt else Waiting

-- the times of the commits with a label, rising
abbrev pub times_of : {V : Type 0} → History V → ℕ → List ℕ
times_of h label = map (λ c. c.time) (filter (λ c. c.label == label) h)
