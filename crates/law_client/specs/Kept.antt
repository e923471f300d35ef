-- What an application reads back of an acknowledged commit.
use Rattle.std.specs.Borrow.{Bor}
use Rattle.std.specs.Prelude.{ℕ, ◌≡◌, ◌≤◌, ◌<◌, ◌⊎◌, Bool, IsTrue, suc, List, map, Contains, IsSome, Option, None, Some, Result, Ok, Err}
use Rattle.disk.specs.Areas.{Image, AreSound, image_of}
use Rattle.disk.specs.Calls.{DiskState}
use Rattle.history.specs.declared.key.Key.{Key}
use Rattle.history.specs.declared.key.KeyWrite.{KeyWrite}
use Rattle.history.specs.Key.{write_in}
use Rattle.history.specs.Floors.{covers}
use Rattle.history.specs.Histories.{Commit, History, last, state}
use Rattle.history.specs.Machine.{Machine}
use Rattle.law_image.specs.Values.{Value}
use Rattle.recovery.specs.Faults.{IsReadFault}
use Rattle.recovery.specs.declared.fault.OpenFault.{OpenFault}
use Rattle.timequery.specs.View.{ViewValue}
use Rattle.timequery.specs.declared.fault.QueryFault.{QueryFault}
use Rattle.timequery.specs.declared.fault.QueryFault.TheVariants as query
use Rattle.any_store.specs.Values.{StoreValue}
use Rattle.any_store.specs.Opens.{Opens, OpenRefuses}
use Rattle.any_store.specs.Queries.{IsViewOf, AnswersAtView}
use Rattle.law_any_store.specs.Standing.{Stands, GoesOn}
use Rattle.run.specs.declared.calls.Call.{Call}
use Rattle.run.specs.declared.calls.Call.TheVariants as call
use Rattle.run.specs.declared.calls.Answer.{Answer}
use Rattle.run.specs.declared.calls.Answer.TheVariants as answer
use Rattle.run.specs.declared.calls.RedeemOutcome.TheVariants as told
use Rattle.run.specs.Laws.{IsKeptTime}
use Rattle.run.specs.Promise.{IsKeptAs}
use Rattle.run.specs.Places.{Running, place_at}
use Rattle.run.specs.Traces.{Trace, moment_at, machine_at, StopLeaves, IsCall, place_of, IsSubmit, LeavesKey}

-- ---- reading

-- a query is answered by this value, or memory or the device gave out
abbrev pub IsAnswer : Option Value → Result (Option Value) QueryFault → Type 0
IsAnswer value answer = (answer ≡ Ok value) ⊎ ((answer ≡ Err query.NoMemory) ⊎ (answer ≡ Err query.Device))

-- Whoever opens a store on this image reads this value of the key at this time, unless the device or memory gives out.
pub record IsReadBack (tells : Bool) (image : Image) (key : Key) (time : ℕ) (value : Option Value) : Type 0 where
  pub opens : (disk new : DiskState) (why : OpenFault) → image_of disk.areas ≡ image → OpenRefuses tells disk why new → IsReadFault why
  pub reads : (disk : DiskState) (mark : ℕ) (again asked new : StoreValue) (later : Machine Value) (view : ViewValue)
      (answer : Result (Option Value) QueryFault) → IsTrue tells
      → image_of disk.areas ≡ image → AreSound disk.areas → Opens tells disk mark again → IsViewOf again view → Stands tells asked later
      → GoesOn tells again asked → AnswersAtView tells asked view key time answer new → IsAnswer value answer

-- ---- times

-- No call of these numbers begins a floor of the relation that is later than the time.
abbrev pub BeginsNoLaterFloor : {tells : Bool} → Trace tells → (from upto relation time : ℕ) → Type 0
BeginsNoLaterFloor t from upto relation time =
    (i : ℕ) (scope : Option ℕ) (floor : ℕ) → from ≤ i → i < upto → IsCall t i (call.Floor scope floor) (answer.Floor (Ok tt)) → IsTrue (covers scope relation)
    → floor ≤ time

-- A value that was written at the one time is still the key's at the other: after this many calls that time is published, no commit between the two writes the
-- key, and it is kept then and after the next call.
pub record IsUnchanged {tells : Bool} (t : Trace tells) (n : ℕ) (key : Key) (from upto : ℕ) : Type 0 where
  pub later : from ≤ upto
  pub published : upto ≤ last (machine_at t n).published
  pub unwritten : (c : Commit Value) → Contains (machine_at t n).published c → from < c.time → c.time ≤ upto → write_in c.writes key ≡ None
  pub kept : IsKeptTime (machine_at t n) key.relation upto
  pub kept_next : IsKeptTime (machine_at t (suc n)) key.relation upto

-- ---- commits

-- the call of this number answered Done, with this time, for the ticket of that one
abbrev pub IsDone : {tells : Bool} → Trace tells → ℕ → ℕ → ℕ → Type 0
IsDone t k i time = IsCall t k (call.Redeem (place_of t i)) (answer.Redeem (told.Done time))

-- An acknowledged commit is read: where Done was answered, the ticket's call submitted a write set, and whoever opens a store on what any later stop leaves
-- reads each of its writes, at the commit's time and until a later commit of the key.
abbrev pub DoneIsRead : Type 0
DoneIsRead = (tells : Bool) (t : Trace tells) (i k time : ℕ) → IsTrue tells → IsDone t k i time
    → (c : Commit Value) × (c.time ≡ time) × IsSubmit t i c
    × ((n : ℕ) (image : Image) (key : Key) (write : Option Value) (upto : ℕ) → k ≤ n → StopLeaves t n image → write_in c.writes key ≡ Some write
    → IsUnchanged t n key time upto → IsReadBack tells image key upto write)

-- The commit itself, with its label and all that it wrote, is in the history as which any such image is kept.
abbrev pub DoneIsKept : Type 0
DoneIsKept = (tells : Bool) (t : Trace tells) (i k time : ℕ) → IsTrue tells → IsDone t k i time
    → (c : Commit Value) × (c.time ≡ time) × IsSubmit t i c
    × ((n : ℕ) (image : Image) → k ≤ n → StopLeaves t n image → (h : History Value) × (floors : ℕ → ℕ) × IsKeptAs tells image h floors × Contains h c)

-- At its own time nothing else has to be asked for than that no floor later than it is begun: a commit is later than each floor before it.
abbrev pub DoneIsUnchanged : Type 0
DoneIsUnchanged =
    (tells : Bool) (t : Trace tells) (i k n time : ℕ) (key : Key) → IsDone t k i time → k ≤ n → BeginsNoLaterFloor t i (suc n) key.relation time
    → IsUnchanged t n key time time

-- Done was answered, with this time, for a transaction that put this value last under the key.
pub record IsPutDone {tells : Bool} (t : Trace tells) (k time : ℕ) (key : Key) (value : Value) : Type 0 where
  pub put : ℕ
  pub submit : ℕ
  pub transaction : ℕ
  pub label : ℕ
  pub now : ℕ
  pub fields : Bor (List (Bor (List ℕ)))
  pub said : Answer
  pub is_put : IsCall t put (call.Put transaction key fields) (answer.Put (Ok tt))
  pub is_value : value ≡ map (λ (field : Bor (List ℕ)). field.now) fields.now
  pub is_submit : IsCall t submit (call.Submit transaction label now) said
  pub is_done : IsDone t k submit time
  pub earlier : put < submit
  pub last : (n : ℕ) (c : Call) (a : Answer) → put < n → n < submit → IsCall t n c a → LeavesKey transaction key c

-- That value is what whoever opens a store on what any later stop leaves reads of the key.
abbrev pub PutIsRead : Type 0
PutIsRead =
    (tells : Bool) (t : Trace tells) (k time n upto : ℕ) (key : Key) (value : Value) (image : Image) → IsTrue tells → IsPutDone t k time key value → k ≤ n
    → StopLeaves t n image → IsUnchanged t n key time upto → IsReadBack tells image key upto (Some value)

-- Done was answered, with this time, for a transaction that deleted the key last, and whose snapshot had a value of it.
pub record IsDeleteDone {tells : Bool} (t : Trace tells) (k time : ℕ) (key : Key) : Type 0 where
  pub delete : ℕ
  pub submit : ℕ
  pub transaction : ℕ
  pub label : ℕ
  pub now : ℕ
  pub snapshot : ℕ
  pub writes : List (KeyWrite Value)
  pub said : Answer
  pub is_delete : IsCall t delete (call.Delete transaction key) (answer.Delete (Ok tt))
  pub running : place_at (moment_at t delete).world.places transaction ≡ Running snapshot writes
  pub had : IsSome (state (machine_at t delete).published snapshot key)
  pub is_submit : IsCall t submit (call.Submit transaction label now) said
  pub is_done : IsDone t k submit time
  pub earlier : delete < submit
  pub last : (n : ℕ) (c : Call) (a : Answer) → delete < n → n < submit → IsCall t n c a → LeavesKey transaction key c

-- Then it is read as gone.
abbrev pub DeleteIsRead : Type 0
DeleteIsRead =
    (tells : Bool) (t : Trace tells) (k time n upto : ℕ) (key : Key) (image : Image) → IsTrue tells → IsDeleteDone t k time key → k ≤ n → StopLeaves t n image
    → IsUnchanged t n key time upto → IsReadBack tells image key upto None
