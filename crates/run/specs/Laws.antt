-- Laws of lists of calls.
use Rattle.std.specs.Borrow.{Bor}
use Rattle.std.specs.Prelude.{ℕ, ◌≡◌, ◌≤◌, ◌<◌, ◌⊎◌, ◌++◌, Bool, IsTrue, suc, List, [], ◌∷◌, length, map, Contains, IsSome, Option, Some, None, MatchOption}
use Rattle.std.specs.Prelude.{Result, Ok, if◌then◌else◌}
use Rattle.disk.specs.Areas.{Image}
use Rattle.history.specs.declared.key.Key.{Key}
use Rattle.history.specs.declared.key.KeyWrite.{KeyWrite}
use Rattle.history.specs.Key.{same_key, write_in}
use Rattle.history.specs.Floors.{covers}
use Rattle.history.specs.Answers.{at_answer}
use Rattle.history.specs.Histories.{Commit, History, last, state, IsHistory}
use Rattle.history.specs.Machine.{Machine, IsMachine}
use Rattle.law_image.specs.Values.{Value, IsValue}
use Rattle.snapshot.specs.WriteSets.{with_write}
use Rattle.timequery.specs.declared.fault.QueryFault.{QueryFault}
use Rattle.any_store.specs.Values.{StoreValue}
use Rattle.law_refinement.specs.Homes.{IsSure}
use Rattle.law_refinement.specs.Laws.{SaysAt}
use Rattle.law_any_store.specs.Standing.{Stands, AnyHeader, IsImageOf}
use Rattle.run.specs.declared.calls.Call.{Call}
use Rattle.run.specs.declared.calls.Call.TheVariants as call
use Rattle.run.specs.declared.calls.Answer.{Answer}
use Rattle.run.specs.declared.calls.Answer.TheVariants as answer
use Rattle.run.specs.declared.calls.RedeemOutcome.TheVariants as told
use Rattle.run.specs.declared.held.Held.{Held}
use Rattle.run.specs.Places.{Running, Waits, Views, place_at}
use Rattle.run.specs.Moments.{Moment, first_moment, IsAtMoment}
use Rattle.run.specs.Promise.{IsKeptAs, Survives, Leaves, Link, LinksOne, KeepsPromise}
use Rattle.run.specs.Runs.{Follows, SaysRecent}
use Rattle.run.specs.Traces.{Trace, moment_at, machine_at, StopLeaves, IsCall, place_of, IsSubmit, LeavesKey}

-- ---- stores and images

-- a store that stands for a machine is at its first moment
abbrev pub FirstMoment : Type 0
FirstMoment = (tells : Bool) (v : StoreValue) (m : Machine Value) → Stands tells v m → IsAtMoment tells v [] (first_moment v m)

-- whatever a stop may leave at a moment of a store survives
abbrev pub MomentSurvives : Type 0
MomentSurvives = (tells : Bool) (v : StoreValue) (held : List Held) (at : Moment) → IsAtMoment tells v held at → Leaves tells at

-- an image that stands for a history is kept as it
abbrev pub ImageIsKept : Type 0
ImageIsKept =
    (tells : Bool) (header : AnyHeader) (image : Image) (h : History Value) (floors : ℕ → ℕ) → IsTrue tells → IsImageOf header image h floors
    → IsKeptAs tells image h floors

-- ---- commits

-- one commit alone of a history has its time
abbrev pub CommitHasItsTime : Type 0
CommitHasItsTime = (h : History Value) (c d : Commit Value) → IsHistory IsValue h → Contains h c → Contains h d → c.time ≡ d.time → c ≡ d

-- what a commit wrote is the value at its time, and at each later one up to which no commit writes the key
abbrev pub WriteStands : Type 0
WriteStands =
    (h : History Value) (c : Commit Value) (key : Key) (write : Option Value) (time : ℕ) → IsHistory IsValue h → Contains h c → write_in c.writes key
    ≡ Some write → c.time ≤ time
    → ((d : Commit Value) → Contains h d → c.time < d.time → d.time ≤ time → write_in d.writes key ≡ None) → state h time key ≡ write

-- ---- the moments of a list

-- there are as many answers as calls
abbrev pub AsManyAnswers : Type 0
AsManyAnswers = (tells : Bool) (t : Trace tells) → length t.answers ≡ length t.calls

-- it goes from its start to its end
abbrev pub GoesToItsEnd : Type 0
GoesToItsEnd = (tells : Bool) (t : Trace tells) → (moment_at t 0 ≡ t.start) × (moment_at t (length t.calls) ≡ t.end)

-- each call links the moment before it to the one after it
abbrev pub CallsLink : Type 0
CallsLink = (tells : Bool) (t : Trace tells) (i : ℕ) (c : Call) (a : Answer) → IsCall t i c a → Link tells c a (moment_at t i) (moment_at t (suc i))

-- whatever a stop may leave after some of the calls or within the next one survives at the moment before that call or at the one after it
abbrev pub StopsSurvive : Type 0
StopsSurvive =
    (tells : Bool) (t : Trace tells) (n : ℕ) (image : Image) → IsTrue tells → StopLeaves t n image → Survives tells (moment_at t n) image
    ⊎ Survives tells (moment_at t (suc n)) image

-- the machine runs from each moment to each later one
abbrev pub MachineRuns : Type 0
MachineRuns = (tells : Bool) (t : Trace tells) (p q : ℕ) → p ≤ q → IsMachine IsValue (machine_at t p) × Follows (machine_at t p) (machine_at t q)

-- ---- lists that go on

-- a list that goes on where another ended is one list with it
abbrev pub ListsGoOn : Type 0
ListsGoOn = (tells : Bool) (old mid new : StoreValue) (before between after : List Held) (calls more : List Call) (answers said : List Answer)
    → KeepsPromise tells old before calls answers mid between → KeepsPromise tells mid between more said new after
    → KeepsPromise tells old before (calls ++ more) (answers ++ said) new after

-- and a single call is a list of one
abbrev pub StepIsList : Type 0
StepIsList =
    (tells : Bool) (old new : StoreValue) (before after : List Held) (c : Call) (a : Answer) → LinksOne tells old before c a new after
    → KeepsPromise tells old before (c ∷ []) (a ∷ []) new after

-- ---- floors

-- the time is kept of this relation: no floor is later, nor is the one in the making
abbrev pub IsKeptTime : Machine Value → ℕ → ℕ → Type 0
IsKeptTime m relation time = (m.floors relation ≤ time) × MatchOption m.raising (Unit {0}) (λ r. IsTrue (covers r.scope relation) → r.floor ≤ time)

-- A time that is kept of a relation stays so, unless a call between begins a later floor that covers it.
abbrev pub TimesStayKept : Type 0
TimesStayKept = (tells : Bool) (t : Trace tells) (p q relation time : ℕ) → p ≤ q → IsKeptTime (machine_at t p) relation time
    → ((i : ℕ) (scope : Option ℕ) (floor : ℕ) → p ≤ i → i < q → IsCall t i (call.Floor scope floor) (answer.Floor (Ok tt)) → IsTrue (covers scope relation)
    → floor ≤ time) → IsKeptTime (machine_at t q) relation time

-- and no floor falls
abbrev pub FloorsRise : Type 0
FloorsRise = (tells : Bool) (t : Trace tells) (p q relation : ℕ) → p ≤ q → (machine_at t p).floors relation ≤ (machine_at t q).floors relation

-- ---- tickets

-- a ticket that a place holds was there since the call that gave it
abbrev pub TicketsStay : Type 0
TicketsStay =
    (tells : Bool) (t : Trace tells) (p q place time : ℕ) → p ≤ q → place < length (moment_at t p).world.places → place_at (moment_at t q).world.places place
    ≡ Waits time → place_at (moment_at t p).world.places place ≡ Waits time

-- A Done names its submit: the call whose ticket it is submitted a write set, which was queued as a commit of this time, and that commit is published.
abbrev pub DoneNamesItsSubmit : Type 0
DoneNamesItsSubmit = (tells : Bool) (t : Trace tells) (i k time : ℕ) → IsCall t k (call.Redeem (place_of t i)) (answer.Redeem (told.Done time))
    → (c : Commit Value) × (c.time ≡ time) × (i < k) × IsSubmit t i c × Contains (machine_at t k).published c

-- What a transaction put last under a key is what it submits.
abbrev pub PutIsSubmitted : Type 0
PutIsSubmitted =
    (tells : Bool) (t : Trace tells) (i p transaction label now : ℕ) (c : Commit Value) (key : Key) (fields : Bor (List (Bor (List ℕ)))) (a : Answer)
    → IsSubmit t i c → IsCall t i (call.Submit transaction label now) a → p < i → IsCall t p (call.Put transaction key fields) (answer.Put (Ok tt))
    → ((q : ℕ) (other : Call) (b : Answer) → p < q → q < i → IsCall t q other b → LeavesKey transaction key other)
    → write_in c.writes key ≡ Some (Some (map (λ (field : Bor (List ℕ)). field.now) fields.now))

-- A key that has a value at the snapshot, and that a transaction deleted last, is submitted as gone.
abbrev pub DeleteIsSubmitted : Type 0
DeleteIsSubmitted =
    (tells : Bool) (t : Trace tells) (i p transaction label now snapshot : ℕ) (writes : List (KeyWrite Value)) (c : Commit Value) (key : Key) (a : Answer)
    → IsSubmit t i c → IsCall t i (call.Submit transaction label now) a → p < i → IsCall t p (call.Delete transaction key) (answer.Delete (Ok tt))
    → ((q : ℕ) (other : Call) (b : Answer) → p < q → q < i → IsCall t q other b → LeavesKey transaction key other)
    → place_at (moment_at t p).world.places transaction ≡ Running snapshot writes → IsSome (state (machine_at t p).published snapshot key)
    → write_in c.writes key ≡ Some None

-- one more write is found under its key, and no other is changed
abbrev pub WrittenIsFound : Type 0
WrittenIsFound =
    (writes : List (KeyWrite Value)) (w : KeyWrite Value) (key : Key) → write_in (with_write writes w) key
    ≡ (if same_key w.key key then Some w.write else write_in writes key)

-- ---- views

-- a view that a place holds was there since the call that gave it
abbrev pub ViewsStay : Type 0
ViewsStay = (tells : Bool) (t : Trace tells) (p q place : ℕ) (h : History Value) (floors : ℕ → ℕ) (reclaimed : ℕ)
    → p ≤ q → place < length (moment_at t p).world.places → place_at (moment_at t q).world.places place ≡ Views h floors reclaimed
    → place_at (moment_at t p).world.places place ≡ Views h floors reclaimed

-- A view answers by what was published when it was taken: for sure where the disk tells its bytes, and else from a time on up to which memory had forgotten
-- versions.
abbrev pub ViewAnswersByItsMoment : Type 0
ViewAnswersByItsMoment =
    (tells : Bool) (t : Trace tells) (i k : ℕ) (key : Key) (time : ℕ) (said : Result (Option Value) QueryFault)
    → IsCall t k (call.At (place_of t i) key time) (answer.At said)
    → (i < k) × IsCall t i call.View (answer.View (Ok tt))
    × ((reclaimed : ℕ) × (reclaimed ≤ last (machine_at t i).published)
    × SaysAt (IsSure tells reclaimed time) (at_answer (machine_at t i).published (machine_at t i).floors key time) said)

-- So it does from memory alone: an earlier time than that needs the disk.
abbrev pub RecentAnswersByItsMoment : Type 0
RecentAnswersByItsMoment =
    (tells : Bool) (t : Trace tells) (i k : ℕ) (key : Key) (time : ℕ) (said : Result (Option Value) QueryFault)
    → IsCall t k (call.Recent (place_of t i) key time) (answer.Recent said)
    → (i < k) × IsCall t i call.View (answer.View (Ok tt))
    × ((reclaimed : ℕ) × (reclaimed ≤ last (machine_at t i).published)
    × SaysRecent reclaimed time (at_answer (machine_at t i).published (machine_at t i).floors key time) said)
