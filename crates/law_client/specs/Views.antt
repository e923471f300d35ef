-- What a view answered.
use Rattle.std.specs.Prelude.{ℕ, ◌≤◌, Bool, IsTrue, Option, Result, Ok}
use Rattle.history.specs.declared.key.Key.{Key}
use Rattle.law_image.specs.Values.{Value}
use Rattle.timequery.specs.declared.fault.QueryFault.{QueryFault}
use Rattle.run.specs.declared.calls.Call.TheVariants as call
use Rattle.run.specs.declared.calls.Answer.TheVariants as answer
use Rattle.run.specs.Traces.{Trace, machine_at, IsCall, place_of}
use Rattle.run.specs.Laws.{IsKeptTime}
use Rattle.law_client.specs.Kept.{IsAnswer}
use Rattle.law_client.specs.Settled.{IsSettled}

-- the call of this number asked the view of that one for the value of the key at the time, and this is its answer
abbrev pub IsAsked : {tells : Bool} → Trace tells → ℕ → ℕ → Key → ℕ → Result (Option Value) QueryFault → Type 0
IsAsked t k i key time said = IsCall t k (call.At (place_of t i) key time) (answer.At said)

-- What a view answered it answers again, whatever is called in between, unless memory or the device gives out. The disk tells its bytes.
abbrev pub ViewAnswersAgain : Type 0
ViewAnswersAgain =
    (tells : Bool) (t : Trace tells) (i k l : ℕ) (key : Key) (time : ℕ) (value : Option Value) (said : Result (Option Value) QueryFault) → IsTrue tells
    → IsAsked t k i key time (Ok value) → IsAsked t l i key time said → IsAnswer value said

-- It is settled, so that every later view and every store that is opened after a stop answers it too, while the time is kept.
abbrev pub AnsweredIsSettled : Type 0
AnsweredIsSettled =
    (tells : Bool) (t : Trace tells) (i k n : ℕ) (key : Key) (time : ℕ) (value : Option Value) → IsTrue tells → IsAsked t k i key time (Ok value) → k ≤ n
    → IsKeptTime (machine_at t n) key.relation time → IsSettled (machine_at t n) key time value
