-- Views, and the queries over them.
use Rattle.std.specs.Prelude.{◌≡◌, ℕ, Bool, Option, Result}
use Rattle.std.specs.declared.alloc.Global.{Global}
use Rattle.std.specs.declared.vec.Vec.{Vec}
use Rattle.history.specs.declared.key.Key.{Key}
use Rattle.history.specs.declared.time.Version.{Version}
use Rattle.law_image.specs.Values.{Value}
use Rattle.timequery.specs.Asked.{Holding}
use Rattle.timequery.specs.Asked as asked
use Rattle.timequery.specs.View.{ViewValue}
use Rattle.timequery.specs.declared.fault.QueryFault.{QueryFault}
use Rattle.commits.specs.Values.{last}
use Rattle.log_store.specs.Values.{LogStoreValue}

-- a view of what is published now, over the runs of the log
abbrev pub IsViewOf : LogStoreValue → ViewValue → Type 0
IsViewOf v view = view ≡ record {
  mark = v.commits.mark;
  last = last v.commits;
  floors = v.commits.floors;
  reclaimed = v.commits.reclaimed;
  runs = v.archive.runs;
  state = v.commits.versions;
}

-- where a store has what is asked
abbrev pub in_log_store : Holding LogStoreValue
in_log_store = record { archive = λ v. v.archive; disk = λ v. v.disk; with_both = λ v archive disk. record v { archive = archive; disk = disk } }

-- an own view is asked for the value of a key at a time, and a stranger's is refused
abbrev pub AnswersAtView : Bool → LogStoreValue → ViewValue → Key → ℕ → Result (Option Value) QueryFault → LogStoreValue → Type 0
AnswersAtView tells v view key time answer new = asked.AnswersAtView in_log_store tells v.commits.mark v view key time answer new

-- so for the values of a relation
abbrev pub AnswersScanAt : Bool → LogStoreValue → ViewValue → ℕ → ℕ → Result (Vec (ℕ × Value) Global) QueryFault → LogStoreValue → Type 0
AnswersScanAt tells v view relation time answer new = asked.AnswersScanAt in_log_store tells v.commits.mark v view relation time answer new

-- so for the rows of a key from a up to b
abbrev pub AnswersRows : Bool → LogStoreValue → ViewValue → Key → ℕ → ℕ → Result (Vec (Version Value) Global) QueryFault → LogStoreValue → Type 0
AnswersRows tells v view key a b answer new = asked.AnswersRows in_log_store tells v.commits.mark v view key a b answer new

-- so for the rows of a relation from a up to b
abbrev pub AnswersScanRows : Bool → LogStoreValue → ViewValue → ℕ → ℕ → ℕ → Result (Vec (ℕ × Version Value) Global) QueryFault → LogStoreValue → Type 0
AnswersScanRows tells v view relation a b answer new = asked.AnswersScanRows in_log_store tells v.commits.mark v view relation a b answer new
