-- What is told of the times of a label.
use Rattle.std.specs.Prelude.{ℕ, ◌≡◌, zero, suc, nat_lt, Bool, true, IsTrue, List, filter, Result, Ok, Err}
use Rattle.std.specs.declared.alloc.Global.{Global}
use Rattle.std.specs.declared.vec.Vec.{Vec}
use Rattle.history.specs.Answers as answers
use Rattle.history.specs.Machine.{Machine}
use Rattle.law_image.specs.Values.{Value}
use Rattle.timequery.specs.declared.fault.QueryFault.{QueryFault}
use Rattle.timequery.specs.declared.fault.QueryFault.TheVariants.{BeforeKept, NotYet, EmptyInterval, Device, NoMemory, Damaged, NeedsDisk, Stranger}
use Rattle.log_store.specs.Names.{AnswersTimes}
use Rattle.log_store.specs.Values.{LogStoreValue}
use Rattle.law_log_queries.specs.Archive.{Stands, GoesOn}

-- just these times are told; where names may have left memory up to a time, so it is of the later ones
abbrev pub AreTimesFrom : ℕ → List ℕ → List ℕ → Type 0
AreTimesFrom zero told times = told ≡ times
AreTimesFrom (suc from) told times = filter (nat_lt (suc from)) told ≡ filter (nat_lt (suc from)) times

-- What is told where the history has these times, and names may have left memory up to a time. Of a store whose log lies in the heap the earlier ones are then
-- read on the disk: the device may refuse, and they are told for sure where it tells its bytes. Nothing is damaged then.
abbrev pub SaysTimes : (tells in_heap : Bool) (from : ℕ) → List ℕ → Result (Vec ℕ Global) QueryFault → Type 0
SaysTimes tells in_heap from times (Ok found) = ((IsTrue in_heap → IsTrue tells) → found.items ≡ times) × AreTimesFrom from found.items times
SaysTimes tells in_heap from times (Err (BeforeKept floor)) = ⊥
SaysTimes tells in_heap from times (Err (NotYet last)) = ⊥
SaysTimes tells in_heap from times (Err EmptyInterval) = ⊥
SaysTimes tells in_heap from times (Err Device) = IsTrue in_heap
SaysTimes tells in_heap from times (Err NoMemory) = Unit {0}
SaysTimes tells in_heap from times (Err (Damaged start)) = IsTrue in_heap × (IsTrue tells → ⊥)
SaysTimes tells in_heap from times (Err NeedsDisk) = ⊥
SaysTimes tells in_heap from times (Err Stranger) = ⊥

-- the times of a label are those of the published history
abbrev pub TimesAreAnswered : Type 0
TimesAreAnswered =
    (tells : Bool) (v new : LogStoreValue) (m : Machine Value) (label : ℕ) (answer : Result (Vec ℕ Global) QueryFault) → Stands tells v m
    → AnswersTimes tells v label answer new → SaysTimes tells true v.commits.reclaimed (answers.times_of m.published label) answer

-- and asking for them changes nothing of what the store stands for
abbrev pub TimesStand : Type 0
TimesStand =
    (tells : Bool) (v new : LogStoreValue) (m : Machine Value) (label : ℕ) (answer : Result (Vec ℕ Global) QueryFault) → Stands tells v m
    → AnswersTimes tells v label answer new → Stands tells new m × GoesOn tells v new
