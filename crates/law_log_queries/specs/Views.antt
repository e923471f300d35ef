-- Views are answered by the history of their moment.
use Rattle.std.specs.Prelude.{ℕ, ◌≡◌, ◌≤◌, Bool, IsTrue, List, Option, Result, Err, MatchBool}
use Rattle.std.specs.declared.alloc.Global.{Global}
use Rattle.std.specs.declared.vec.Vec.{Vec}
use Rattle.history.specs.declared.key.Key.{Key}
use Rattle.history.specs.declared.time.Version.{Version}
use Rattle.history.specs.Histories.{History}
use Rattle.history.specs.Machine.{Machine}
use Rattle.history.specs.Answers as answers
use Rattle.law_image.specs.Values.{Value}
use Rattle.timequery.specs.Asked.{is_own}
use Rattle.timequery.specs.View.{ViewValue}
use Rattle.timequery.specs.declared.fault.QueryFault.{QueryFault}
use Rattle.timequery.specs.declared.fault.QueryFault.TheVariants as query
use Rattle.log_store.specs.Values.{LogStoreValue}
use Rattle.log_store.specs.Queries as stores
use Rattle.law_refinement.specs.Homes.{ViewStands, IsSure}
use Rattle.law_refinement.specs.Laws.{SaysAt, SaysScanAt, SaysBetween, SaysScanBetween}
use Rattle.law_log_queries.specs.Archive.{Stands, ViewReads, GoesOn}
use Rattle.law_log_queries.specs.Calls.{LeadsTo}

-- a view is one of what is published, and its runs are there
abbrev pub ViewIsOfHistory : Type 0
ViewIsOfHistory =
    (tells : Bool) (v : LogStoreValue) (view : ViewValue) (m : Machine Value) → Stands tells v m → stores.IsViewOf v view
    → ViewStands view m.published m.floors × ViewReads tells v view m.published m.floors

-- they go on to be there
abbrev pub ViewGoesOn : Type 0
ViewGoesOn =
    (tells : Bool) (old new : LogStoreValue) (view : ViewValue) (h : History Value) (floors : ℕ → ℕ) → ViewReads tells old view h floors
    → GoesOn tells old new → ViewReads tells new view h floors

-- so it goes on being answered by that history
abbrev pub AtIsAnswered : Type 0
AtIsAnswered =
    (tells : Bool) (v new : LogStoreValue) (m : Machine Value) (view : ViewValue) (h : History Value) (floors : ℕ
    → ℕ) (key : Key) (time : ℕ) (answer : Result (Option Value) QueryFault)
    → Stands tells v m → ViewStands view h floors → ViewReads tells v view h floors → stores.AnswersAtView tells v view key time answer new
    → SaysAt (IsSure tells view.reclaimed time) (answers.at_answer h floors key time) answer

-- so are scans of a relation at a time
abbrev pub ScanAtIsAnswered : Type 0
ScanAtIsAnswered =
    (tells : Bool) (v new : LogStoreValue) (m : Machine Value) (view : ViewValue) (h : History Value) (floors : ℕ
    → ℕ) (relation time : ℕ) (answer : Result (Vec (ℕ × Value) Global) QueryFault)
    → Stands tells v m → ViewStands view h floors → ViewReads tells v view h floors → stores.AnswersScanAt tells v view relation time answer new
    → SaysScanAt (IsSure tells view.reclaimed time) h floors relation time answer

-- so are queries of a key from a to b
abbrev pub BetweenIsAnswered : Type 0
BetweenIsAnswered =
    (tells : Bool) (v new : LogStoreValue) (m : Machine Value) (view : ViewValue) (h : History Value) (floors : ℕ
    → ℕ) (key : Key) (a b : ℕ) (answer : Result (Vec (Version Value) Global) QueryFault)
    → Stands tells v m → ViewStands view h floors → ViewReads tells v view h floors → stores.AnswersRows tells v view key a b answer new
    → SaysBetween (IsSure tells view.reclaimed a) h floors key a b answer

-- so are scans of a relation from a to b
abbrev pub ScanBetweenIsAnswered : Type 0
ScanBetweenIsAnswered =
    (tells : Bool) (v new : LogStoreValue) (m : Machine Value) (view : ViewValue) (h : History Value) (floors : ℕ
    → ℕ) (relation a b : ℕ) (answer : Result (Vec (ℕ × Version Value) Global) QueryFault)
    → Stands tells v m → ViewStands view h floors → ViewReads tells v view h floors → stores.AnswersScanRows tells v view relation a b answer new
    → SaysScanBetween (IsSure tells view.reclaimed a) h floors relation a b answer

-- ---- for ever

-- A view is taken of a store that stands for a machine, and calls are made: whenever it is asked then, it is answered as what was published at its moment says.
abbrev pub AtIsFrozen : Type 0
AtIsFrozen =
    (tells : Bool) (old now new : LogStoreValue) (between : List LogStoreValue) (m : Machine Value) (view : ViewValue) (key : Key) (time : ℕ)
    (answer : Result (Option Value) QueryFault)
    → IsTrue tells → Stands tells old m → stores.IsViewOf old view → LeadsTo tells old between now → stores.AnswersAtView tells now view key time answer new
    → SaysAt (IsSure tells view.reclaimed time) (answers.at_answer m.published m.floors key time) answer

-- so it is of a scan of a relation at a time
abbrev pub ScanAtIsFrozen : Type 0
ScanAtIsFrozen =
    (tells : Bool) (old now new : LogStoreValue) (between : List LogStoreValue) (m : Machine Value) (view : ViewValue) (relation time : ℕ)
    (answer : Result (Vec (ℕ × Value) Global) QueryFault)
    → IsTrue tells → Stands tells old m → stores.IsViewOf old view → LeadsTo tells old between now
    → stores.AnswersScanAt tells now view relation time answer new → SaysScanAt (IsSure tells view.reclaimed time) m.published m.floors relation time answer

-- so it is of a query of a key from a to b
abbrev pub BetweenIsFrozen : Type 0
BetweenIsFrozen =
    (tells : Bool) (old now new : LogStoreValue) (between : List LogStoreValue) (m : Machine Value) (view : ViewValue) (key : Key) (a b : ℕ)
    (answer : Result (Vec (Version Value) Global) QueryFault)
    → IsTrue tells → Stands tells old m → stores.IsViewOf old view → LeadsTo tells old between now → stores.AnswersRows tells now view key a b answer new
    → SaysBetween (IsSure tells view.reclaimed a) m.published m.floors key a b answer

-- so it is of a scan of a relation from a to b
abbrev pub ScanBetweenIsFrozen : Type 0
ScanBetweenIsFrozen =
    (tells : Bool) (old now new : LogStoreValue) (between : List LogStoreValue) (m : Machine Value) (view : ViewValue) (relation a b : ℕ)
    (answer : Result (Vec (ℕ × Version Value) Global) QueryFault)
    → IsTrue tells → Stands tells old m → stores.IsViewOf old view → LeadsTo tells old between now
    → stores.AnswersScanRows tells now view relation a b answer new → SaysScanBetween (IsSure tells view.reclaimed a) m.published m.floors relation a b answer

-- ---- from the reclaim mark on

-- From its reclaim mark on any store that takes it for its own answers so, whatever its disk holds.
abbrev pub AtIsAnsweredRecently : Type 0
AtIsAnsweredRecently =
    (tells : Bool) (v new : LogStoreValue) (view : ViewValue) (h : History Value) (floors : ℕ
    → ℕ) (key : Key) (time : ℕ) (answer : Result (Option Value) QueryFault)
    → ViewStands view h floors → stores.AnswersAtView tells v view key time answer new
    → MatchBool (is_own v.commits.mark v.archive view) (SaysAt (view.reclaimed ≤ time) (answers.at_answer h floors key time) answer)
    (answer ≡ Err query.Stranger)

-- so it answers scans of a relation at a time
abbrev pub ScanAtIsAnsweredRecently : Type 0
ScanAtIsAnsweredRecently =
    (tells : Bool) (v new : LogStoreValue) (view : ViewValue) (h : History Value) (floors : ℕ
    → ℕ) (relation time : ℕ) (answer : Result (Vec (ℕ × Value) Global) QueryFault)
    → ViewStands view h floors → stores.AnswersScanAt tells v view relation time answer new
    → MatchBool (is_own v.commits.mark v.archive view) (SaysScanAt (view.reclaimed ≤ time) h floors relation time answer) (answer ≡ Err query.Stranger)

-- so it answers queries of a key from a to b, where a is the mark or later
abbrev pub BetweenIsAnsweredRecently : Type 0
BetweenIsAnsweredRecently =
    (tells : Bool) (v new : LogStoreValue) (view : ViewValue) (h : History Value) (floors : ℕ
    → ℕ) (key : Key) (a b : ℕ) (answer : Result (Vec (Version Value) Global) QueryFault)
    → ViewStands view h floors → stores.AnswersRows tells v view key a b answer new
    → MatchBool (is_own v.commits.mark v.archive view) (SaysBetween (view.reclaimed ≤ a) h floors key a b answer) (answer ≡ Err query.Stranger)

-- so it answers scans of a relation from a to b, where a is the mark or later
abbrev pub ScanBetweenIsAnsweredRecently : Type 0
ScanBetweenIsAnsweredRecently =
    (tells : Bool) (v new : LogStoreValue) (view : ViewValue) (h : History Value) (floors : ℕ
    → ℕ) (relation a b : ℕ) (answer : Result (Vec (ℕ × Version Value) Global) QueryFault)
    → ViewStands view h floors → stores.AnswersScanRows tells v view relation a b answer new
    → MatchBool (is_own v.commits.mark v.archive view) (SaysScanBetween (view.reclaimed ≤ a) h floors relation a b answer) (answer ≡ Err query.Stranger)
