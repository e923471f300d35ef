-- Views and the queries over them, and the times of a label.
use Rattle.std.specs.Prelude.{ℕ, ◌≡◌, Bool, false, Option, Result, IfOk, IfErr}
use Rattle.std.specs.declared.alloc.Global.{Global}
use Rattle.std.specs.declared.vec.Vec.{Vec}
use Rattle.history.specs.declared.key.Key.{Key}
use Rattle.history.specs.declared.time.Version.{Version}
use Rattle.law_image.specs.Values.{Value}
use Rattle.timequery.specs.Asked as asked
use Rattle.timequery.specs.View.{ViewValue}
use Rattle.timequery.specs.declared.fault.QueryFault.{QueryFault}
use Rattle.timequery.specs.declared.fault.QueryFault.TheVariants.{NoMemory}
use Rattle.store.specs.Calls as slots
use Rattle.store.specs.Values as slot_values
use Rattle.log_store.specs.Names as names
use Rattle.log_store.specs.Queries as logs
use Rattle.any_store.specs.declared.engine.Engine.TheVariants.{Slots, Log}
use Rattle.any_store.specs.Values.{StoreValue, commits_of, archive_of, OfEngine, ByEngine}

-- a view of what is published now, over the runs of the log
abbrev pub IsViewOf : StoreValue → ViewValue → Type 0
IsViewOf v view = OfEngine (λ s. slots.IsViewOf s view) (λ l. logs.IsViewOf l view) v

-- the view carries the store's mark, and its runs are a front of the store's
abbrev pub is_own : StoreValue → ViewValue → Bool
is_own v view = asked.is_own (commits_of v).mark (archive_of v) view

-- an own view is asked for the value of a key at a time, and a stranger's is refused
abbrev pub AnswersAtView : Bool → StoreValue → ViewValue → Key → ℕ → Result (Option Value) QueryFault → StoreValue → Type 0
AnswersAtView tells old view key time answer new =
    ByEngine (λ s s'. slots.AnswersAtView tells s view key time answer s') (λ l l'. logs.AnswersAtView tells l view key time answer l') old new

-- so for the values of a relation
abbrev pub AnswersScanAt : Bool → StoreValue → ViewValue → ℕ → ℕ → Result (Vec (ℕ × Value) Global) QueryFault → StoreValue → Type 0
AnswersScanAt tells old view relation time answer new =
    ByEngine (λ s s'. slots.AnswersScanAt tells s view relation time answer s') (λ l l'. logs.AnswersScanAt tells l view relation time answer l') old new

-- so for the rows of a key from a up to b
abbrev pub AnswersRows : Bool → StoreValue → ViewValue → Key → ℕ → ℕ → Result (Vec (Version Value) Global) QueryFault → StoreValue → Type 0
AnswersRows tells old view key a b answer new =
    ByEngine (λ s s'. slots.AnswersRows tells s view key a b answer s') (λ l l'. logs.AnswersRows tells l view key a b answer l') old new

-- so for the rows of a relation from a up to b
abbrev pub AnswersScanRows : Bool → StoreValue → ViewValue → ℕ → ℕ → ℕ → Result (Vec (ℕ × Version Value) Global) QueryFault → StoreValue → Type 0
AnswersScanRows tells old view relation a b answer new =
    ByEngine (λ s s'. slots.AnswersScanRows tells s view relation a b answer s') (λ l l'. logs.AnswersScanRows tells l view relation a b answer l') old new

-- ---- labels

-- the times of a label are asked of slots: all names are in memory, and nothing is read
pub record AnswersTimesOfSlots (s : slot_values.StoreValue) (label : ℕ) (answer : Result (Vec ℕ Global) QueryFault) (new : slot_values.StoreValue)
    : Type 0 where
  pub new_is : new ≡ s
  pub refused : IfErr answer (λ why. why ≡ NoMemory)
  pub is : IfOk answer (λ found. slots.IsTimesOf s label found.items)

-- the times of a label are asked
abbrev pub AnswersTimes : Bool → StoreValue → ℕ → Result (Vec ℕ Global) QueryFault → StoreValue → Type 0
AnswersTimes tells old label answer new =
    ByEngine (λ s s'. AnswersTimesOfSlots s label answer s') (λ l l'. names.AnswersTimes tells l label answer l') old new

-- names of commits lie in the archive, so some times of labels are read there
abbrev pub has_rolls : StoreValue → Bool
has_rolls (Slots s) = false
has_rolls (Log l) = names.has_rolls l
