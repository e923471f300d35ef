-- Values that stand for good: what an application keeps from call to call.
use Rattle.std.specs.Prelude.{ℕ, ◌≡◌, ◌≤◌, Bool, IsTrue, suc, Option, Some}
use Rattle.disk.specs.Areas.{Image}
use Rattle.history.specs.declared.key.Key.{Key}
use Rattle.history.specs.Histories.{History, last, state}
use Rattle.history.specs.Machine.{Machine}
use Rattle.law_image.specs.Values.{Value}
use Rattle.any_store.specs.Values.{StoreValue}
use Rattle.law_any_store.specs.Standing.{opened_in}
use Rattle.run.specs.Promise.{IsKeptAs}
use Rattle.run.specs.Traces.{Trace, machine_at, StopLeaves}
use Rattle.run.specs.Laws.{IsKeptTime}
use Rattle.law_client.specs.Kept.{IsReadBack, BeginsNoLaterFloor, IsUnchanged, IsPutDone}

-- the time is published and kept, and this is the key's value then
pub record IsSettled (m : Machine Value) (key : Key) (time : ℕ) (value : Option Value) : Type 0 where
  pub kept : IsKeptTime m key.relation time
  pub reached : time ≤ last m.published
  pub is : state m.published time key ≡ value

-- Done settles what a transaction put last,
abbrev pub PutSettles : Type 0
PutSettles =
    (tells : Bool) (t : Trace tells) (k time n upto : ℕ) (key : Key) (value : Value) → IsPutDone t k time key value → k ≤ n → IsUnchanged t n key time upto
    → IsSettled (machine_at t n) key upto (Some value)

-- it stays settled over every list of calls, while its time is kept,
abbrev pub SettledStays : Type 0
SettledStays =
    (tells : Bool) (t : Trace tells) (p q : ℕ) (key : Key) (time : ℕ) (value : Option Value) → p ≤ q → IsSettled (machine_at t p) key time value
    → IsKeptTime (machine_at t q) key.relation time → IsSettled (machine_at t q) key time value

-- is read after any stop,
abbrev pub SettledIsRead : Type 0
SettledIsRead = (tells : Bool) (t : Trace tells) (n : ℕ) (key : Key) (time : ℕ) (value : Option Value) (image : Image)
    → IsTrue tells → IsSettled (machine_at t n) key time value → IsKeptTime (machine_at t (suc n)) key.relation time → StopLeaves t n image
    → IsReadBack tells image key time value

-- and is settled in the history that is kept then: a store that opens it stands for that, and the same holds of the calls that are made of it and of the next
-- stop.
abbrev pub SettledReopens : Type 0
SettledReopens = (tells : Bool) (t : Trace tells) (n : ℕ) (key : Key) (time : ℕ) (value : Option Value) (image : Image)
    → IsTrue tells → IsSettled (machine_at t n) key time value → IsKeptTime (machine_at t (suc n)) key.relation time → StopLeaves t n image
    → (h : History Value) × (floors : ℕ → ℕ) × IsKeptAs tells image h floors × ((v : StoreValue) → IsSettled (opened_in v h floors) key time value)

-- A time that is kept stays so, unless a call between begins a later floor.
abbrev pub TimesStayKept : Type 0
TimesStayKept =
    (tells : Bool) (t : Trace tells) (p q relation time : ℕ) → p ≤ q → IsKeptTime (machine_at t p) relation time → BeginsNoLaterFloor t p q relation time
    → IsKeptTime (machine_at t q) relation time
