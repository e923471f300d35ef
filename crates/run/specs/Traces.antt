-- Lists of calls as they went: their moments, and what an earlier call of them stands for at a later one.
use Rattle.std.specs.Prelude.{ℕ, ◌≡◌, ◌+◌, Bool, false, zero, suc, List, [], ◌∷◌, length, slice_get, Some, Ok}
use Rattle.disk.specs.Areas.{Image}
use Rattle.disk.specs.Within.{LeavesWithin}
use Rattle.history.specs.declared.key.Key.{Key}
use Rattle.history.specs.Key.{same_key}
use Rattle.history.specs.Histories.{Commit}
use Rattle.history.specs.Machine.{Machine, IsMachine}
use Rattle.history.specs.Steps.{Step, Decided}
use Rattle.history.specs.Submissions.{Queues, commit_made}
use Rattle.law_image.specs.Values.{Value, IsValue}
use Rattle.any_store.specs.Values.{StoreValue, disk_of}
use Rattle.law_any_store.specs.Standing.{machine_is}
use Rattle.run.specs.declared.calls.Call.{Call}
use Rattle.run.specs.declared.calls.Call.TheVariants as call
use Rattle.run.specs.declared.calls.Answer.{Answer}
use Rattle.run.specs.declared.calls.Answer.TheVariants as answer
use Rattle.run.specs.declared.calls.SubmitOutcome.TheVariants as outcome
use Rattle.run.specs.declared.held.Held.{Held}
use Rattle.run.specs.Places.{Running, place_at}
use Rattle.run.specs.Moments.{Moment, IsAtMoment}
use Rattle.run.specs.Promise.{Chain, Promises, KeepsPromise}
use Rattle.run.specs.Runs.{submission}

-- A list of calls with its answers, as it went from a moment at which the store stood for a machine.
pub record Trace (tells : Bool) : Type 0 where
  pub calls : List Call
  pub answers : List Answer
  pub start : Moment
  pub end : Moment
  pub machine : IsMachine IsValue start.world.machine
  pub promises : Promises tells calls answers start end

-- the trace of a list that keeps its promise, from a moment of the store and the places
abbrev pub trace_of : (tells : Bool) (old : StoreValue) (before : List Held) (calls : List Call) (answers : List Answer) (new : StoreValue) (after : List Held)
    (start : Moment)
    → KeepsPromise tells old before calls answers new after → IsAtMoment tells old before start → Trace tells
trace_of tells old before calls answers new after start keeps is = record {
  calls = calls;
  answers = answers;
  start = start;
  end = (keeps start is).0;
  machine = machine_is tells old start.world.machine is.world.stands;
  promises = (keeps start is).1;
}

-- ---- moments

-- the moment after this many of the calls, or after the last where there are fewer
abbrev pub moment_after : (tells : Bool) (calls : List Call) (answers : List Answer) (start end : Moment) → Chain tells calls answers start end → ℕ → Moment
moment_after tells [] said start end chain n = start
moment_after tells (c ∷ cs) [] start end chain n = start
moment_after tells (c ∷ cs) (a ∷ said) start end chain zero = start
moment_after tells (c ∷ cs) (a ∷ said) start end chain (suc n) = moment_after tells cs said chain.0 end chain.2 n

-- the moment after this many calls, which stays at the end behind the last
abbrev pub moment_at : {tells : Bool} → Trace tells → ℕ → Moment
moment_at {tells} t n = moment_after tells t.calls t.answers t.start t.end t.promises.chain n

-- the machine of that moment
abbrev pub machine_at : {tells : Bool} → Trace tells → ℕ → Machine Value
machine_at t n = (moment_at t n).world.machine

-- the machine stops after this many calls, or within the next one, and may leave this image
abbrev pub StopLeaves : {tells : Bool} → Trace tells → ℕ → Image → Type 0
StopLeaves t n image = LeavesWithin (disk_of (moment_at t n).store).areas (disk_of (moment_at t (suc n)).store).areas image

-- ---- calls by their numbers

-- the call of this number is this one, and it has this answer
abbrev pub IsCall : {tells : Bool} → Trace tells → ℕ → Call → Answer → Type 0
IsCall t i c a = (slice_get t.calls i ≡ Some c) × (slice_get t.answers i ≡ Some a)

-- the place of the call of this number: the list goes on behind the places that it found
abbrev pub place_of : {tells : Bool} → Trace tells → ℕ → ℕ
place_of t i = length t.start.world.places + i

-- The call of this number submitted what a transaction wrote, and it was queued as this commit.
pub record IsSubmit {tells : Bool} (t : Trace tells) (i : ℕ) (c : Commit Value) : Type 0 where
  pub transaction : ℕ
  pub now : ℕ
  pub snapshot : ℕ
  pub answered : IsCall t i (call.Submit transaction c.label now) (answer.Submit (Ok outcome.Queued))
  pub running : place_at (moment_at t i).world.places transaction ≡ Running snapshot c.writes
  pub made : c ≡ commit_made (machine_at t i) (submission snapshot c.writes c.label now)
  pub queued : Step IsValue (machine_at t i) (Decided (submission snapshot c.writes c.label now) (Queues c)) (machine_at t (suc i))

-- The call leaves this key alone in the transaction of this place.
abbrev pub LeavesKey : ℕ → Key → Call → Type 0
LeavesKey place key (call.Put i other fields) = i ≡ place → same_key other key ≡ false
LeavesKey place key (call.Delete i other) = i ≡ place → same_key other key ≡ false
LeavesKey place key c = Unit {0}
