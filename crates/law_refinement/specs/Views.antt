-- Views answer by the history of their moment, and go on to.
use Rattle.std.specs.Prelude.{ℕ, ◌≡◌, ◌<◌, ◌≤◌, Bool, Option, Result, Ok, Err, MatchBool, MatchResult}
use Rattle.std.specs.declared.alloc.Global.{Global}
use Rattle.std.specs.declared.vec.Vec.{Vec}
use Rattle.history.specs.declared.key.Key.{Key}
use Rattle.history.specs.declared.time.Version.{Version}
use Rattle.history.specs.Time.{value_at}
use Rattle.history.specs.Histories.{History}
use Rattle.history.specs.Machine.{Machine}
use Rattle.history.specs.Answers as answers
use Rattle.law_image.specs.Values.{Value}
use Rattle.chains.specs.KeyWrites.{writes_of}
use Rattle.timequery.specs.View.{ViewValue, RefusesRecent, AnswersAt}
use Rattle.timequery.specs.declared.fault.QueryFault.{QueryFault}
use Rattle.timequery.specs.declared.fault.QueryFault.TheVariants as query
use Rattle.store.specs.Calls as stores
use Rattle.store.specs.Calls.{is_own}
use Rattle.store.specs.Values.{StoreValue, HasRest}
use Rattle.store.specs.Archives.{StartsArchive}
use Rattle.store.specs.Jobs.{PumpsJob}
use Rattle.store.specs.Reclaims.{StartsReclaim}
use Rattle.store.specs.Floors.{StartsFloor}
use Rattle.store.specs.Growths.{StartsGrowth}
use Rattle.store.specs.Pumps.{Pumps}
use Rattle.store.specs.declared.job.JobDid.{JobDid}
use Rattle.store.specs.declared.job.StartFault.{StartFault}
use Rattle.group.specs.declared.answers.Did.{Did}
use Rattle.group.specs.declared.answers.PumpFault.{PumpFault}
use Rattle.law_refinement.specs.Homes.{ViewStands, ViewReads, GoesOn, IsSure}
use Rattle.law_refinement.specs.Laws.{SaysAt, SaysScanAt, SaysBetween, SaysScanBetween}
use Rattle.law_refinement.specs.Stands.{Stands}

-- a view is one of what is published, and its runs are there
abbrev pub ViewIsOfHistory : Type 0
ViewIsOfHistory =
    (tells : Bool) (v : StoreValue) (view : ViewValue) (m : Machine Value) → Stands tells v m → stores.IsViewOf v view → ViewStands view m.published m.floors
    × ViewReads tells v view m.published m.floors

-- they go on to be there
abbrev pub ViewGoesOn : Type 0
ViewGoesOn =
    (tells : Bool) (old new : StoreValue) (view : ViewValue) (h : History Value) (floors : ℕ → ℕ) → ViewReads tells old view h floors → GoesOn tells old new
    → ViewReads tells new view h floors

-- so it goes on answering by that history
abbrev pub AtIsAnswered : Type 0
AtIsAnswered =
    (tells : Bool) (v new : StoreValue) (m : Machine Value) (view : ViewValue) (h : History Value) (floors : ℕ
    → ℕ) (key : Key) (time : ℕ) (answer : Result (Option Value) QueryFault)
    → Stands tells v m → ViewStands view h floors → ViewReads tells v view h floors → stores.AnswersAtView tells v view key time answer new
    → SaysAt (IsSure tells view.reclaimed time) (answers.at_answer h floors key time) answer

-- so are scans of a relation at a time
abbrev pub ScanAtIsAnswered : Type 0
ScanAtIsAnswered =
    (tells : Bool) (v new : StoreValue) (m : Machine Value) (view : ViewValue) (h : History Value) (floors : ℕ
    → ℕ) (relation time : ℕ) (answer : Result (Vec (ℕ × Value) Global) QueryFault)
    → Stands tells v m → ViewStands view h floors → ViewReads tells v view h floors → stores.AnswersScanAt tells v view relation time answer new
    → SaysScanAt (IsSure tells view.reclaimed time) h floors relation time answer

-- so are queries of a key from a to b
abbrev pub BetweenIsAnswered : Type 0
BetweenIsAnswered =
    (tells : Bool) (v new : StoreValue) (m : Machine Value) (view : ViewValue) (h : History Value) (floors : ℕ
    → ℕ) (key : Key) (a b : ℕ) (answer : Result (Vec (Version Value) Global) QueryFault)
    → Stands tells v m → ViewStands view h floors → ViewReads tells v view h floors → stores.AnswersRows tells v view key a b answer new
    → SaysBetween (IsSure tells view.reclaimed a) h floors key a b answer

-- so are scans of a relation from a to b
abbrev pub ScanBetweenIsAnswered : Type 0
ScanBetweenIsAnswered =
    (tells : Bool) (v new : StoreValue) (m : Machine Value) (view : ViewValue) (h : History Value) (floors : ℕ
    → ℕ) (relation a b : ℕ) (answer : Result (Vec (ℕ × Version Value) Global) QueryFault)
    → Stands tells v m → ViewStands view h floors → ViewReads tells v view h floors → stores.AnswersScanRows tells v view relation a b answer new
    → SaysScanBetween (IsSure tells view.reclaimed a) h floors relation a b answer

-- From its reclaim mark on any store that takes it for its own answers so, whatever its disk holds.
abbrev pub AtIsAnsweredRecently : Type 0
AtIsAnsweredRecently =
    (tells : Bool) (v new : StoreValue) (view : ViewValue) (h : History Value) (floors : ℕ
    → ℕ) (key : Key) (time : ℕ) (answer : Result (Option Value) QueryFault)
    → ViewStands view h floors → stores.AnswersAtView tells v view key time answer new
    → MatchBool (is_own v view) (SaysAt (view.reclaimed ≤ time) (answers.at_answer h floors key time) answer) (answer ≡ Err query.Stranger)

-- so it answers scans of a relation at a time
abbrev pub ScanAtIsAnsweredRecently : Type 0
ScanAtIsAnsweredRecently =
    (tells : Bool) (v new : StoreValue) (view : ViewValue) (h : History Value) (floors : ℕ
    → ℕ) (relation time : ℕ) (answer : Result (Vec (ℕ × Value) Global) QueryFault)
    → ViewStands view h floors → stores.AnswersScanAt tells v view relation time answer new
    → MatchBool (is_own v view) (SaysScanAt (view.reclaimed ≤ time) h floors relation time answer) (answer ≡ Err query.Stranger)

-- so it answers queries of a key from a to b, where a is the mark or later
abbrev pub BetweenIsAnsweredRecently : Type 0
BetweenIsAnsweredRecently =
    (tells : Bool) (v new : StoreValue) (view : ViewValue) (h : History Value) (floors : ℕ
    → ℕ) (key : Key) (a b : ℕ) (answer : Result (Vec (Version Value) Global) QueryFault)
    → ViewStands view h floors → stores.AnswersRows tells v view key a b answer new
    → MatchBool (is_own v view) (SaysBetween (view.reclaimed ≤ a) h floors key a b answer) (answer ≡ Err query.Stranger)

-- so it answers scans of a relation from a to b, where a is the mark or later
abbrev pub ScanBetweenIsAnsweredRecently : Type 0
ScanBetweenIsAnsweredRecently =
    (tells : Bool) (v new : StoreValue) (view : ViewValue) (h : History Value) (floors : ℕ
    → ℕ) (relation a b : ℕ) (answer : Result (Vec (ℕ × Version Value) Global) QueryFault)
    → ViewStands view h floors → stores.AnswersScanRows tells v view relation a b answer new
    → MatchBool (is_own v view) (SaysScanBetween (view.reclaimed ≤ a) h floors relation a b answer) (answer ≡ Err query.Stranger)

-- ---- from memory alone

-- an answer is that of the history, or the time is below the reclaim mark, where the history has a value or none
abbrev pub SaysRecent : ViewValue → ℕ → Result (Option Value) answers.QueryRefusal → Result (Option Value) QueryFault → Type 0
SaysRecent view time said (Ok value) = said ≡ Ok value
SaysRecent view time said (Err (query.BeforeKept floor)) = said ≡ Err (answers.BeforeKept floor)
SaysRecent view time said (Err (query.NotYet late)) = said ≡ Err (answers.NotYet late)
SaysRecent view time said (Err query.NeedsDisk) = (time < view.reclaimed) × ((value : Option Value) × (said ≡ Ok value))
SaysRecent view time said (Err query.EmptyInterval) = ⊥
SaysRecent view time said (Err query.Device) = ⊥
SaysRecent view time said (Err query.NoMemory) = ⊥
SaysRecent view time said (Err (query.Damaged start)) = ⊥
SaysRecent view time said (Err query.Stranger) = ⊥

-- a view that is asked of memory alone answers so
abbrev pub RecentIsAnswered : Type 0
RecentIsAnswered =
    (view : ViewValue) (h : History Value) (floors : ℕ → ℕ) (key : Key) (time : ℕ) (answer : Result (Option Value) QueryFault) → ViewStands view h floors
    → MatchResult answer (λ o. (view.reclaimed ≤ time)
    × AnswersAt view key.relation time o (value_at (writes_of view.state key) time)) (RefusesRecent view key.relation time)
    → SaysRecent view time (answers.at_answer h floors key time) answer

-- ---- what a query leaves

-- a query changes nothing of what the store stands for, and its views go on
abbrev pub AtStands : Type 0
AtStands =
    (tells : Bool) (v new : StoreValue) (m : Machine Value) (view : ViewValue) (key : Key) (time : ℕ) (answer : Result (Option Value) QueryFault)
    → Stands tells v m → stores.AnswersAtView tells v view key time answer new → Stands tells new m × GoesOn tells v new

-- so it is of a scan of a relation at a time
abbrev pub ScanAtStands : Type 0
ScanAtStands =
    (tells : Bool) (v new : StoreValue) (m : Machine Value) (view : ViewValue) (relation time : ℕ) (answer : Result (Vec (ℕ × Value) Global) QueryFault)
    → Stands tells v m → stores.AnswersScanAt tells v view relation time answer new → Stands tells new m × GoesOn tells v new

-- so it is of a query of a key from a to b
abbrev pub BetweenStands : Type 0
BetweenStands =
    (tells : Bool) (v new : StoreValue) (m : Machine Value) (view : ViewValue) (key : Key) (a b : ℕ) (answer : Result (Vec (Version Value) Global) QueryFault)
    → Stands tells v m → stores.AnswersRows tells v view key a b answer new → Stands tells new m × GoesOn tells v new

-- so it is of a scan of a relation from a to b
abbrev pub ScanBetweenStands : Type 0
ScanBetweenStands =
    (tells : Bool) (v new : StoreValue) (m : Machine Value) (view : ViewValue) (relation a b : ℕ) (answer : Result (Vec (ℕ × Version Value) Global) QueryFault)
    → Stands tells v m → stores.AnswersScanRows tells v view relation a b answer new → Stands tells new m × GoesOn tells v new

-- ---- the other calls: views go on

-- views go on over a step of a group
abbrev pub PumpGoesOn : Type 0
PumpGoesOn =
    (tells : Bool) (old new : StoreValue) (answer : Result Did PumpFault) (m : Machine Value) → Stands tells old m → Pumps tells old answer new
    → GoesOn tells old new

-- views go on over a step of a job
abbrev pub JobPumpGoesOn : Type 0
JobPumpGoesOn =
    (tells : Bool) (old new : StoreValue) (answer : Result JobDid PumpFault) (m : Machine Value) → Stands tells old m → PumpsJob tells old answer new
    → GoesOn tells old new

-- views go on over the start of an archive
abbrev pub ArchiveStartGoesOn : Type 0
ArchiveStartGoesOn =
    (tells : Bool) (old new : StoreValue) (upto : ℕ) (answer : Result (Unit {0}) StartFault) (m : Machine Value) → Stands tells old m
    → StartsArchive old upto answer new → GoesOn tells old new

-- views go on over the start of a reclaim
abbrev pub ReclaimStartGoesOn : Type 0
ReclaimStartGoesOn =
    (tells : Bool) (old new : StoreValue) (answer : Result (Unit {0}) StartFault) (m : Machine Value) → Stands tells old m → StartsReclaim old answer new
    → GoesOn tells old new

-- views go on over the start of a floor
abbrev pub FloorStartGoesOn : Type 0
FloorStartGoesOn =
    (tells : Bool) (old new : StoreValue) (scope : Option ℕ) (floor : ℕ) (answer : Result (Unit {0}) StartFault) (m : Machine Value) → Stands tells old m
    → StartsFloor old scope floor answer new → GoesOn tells old new

-- views go on over the start of a growth
abbrev pub GrowStartGoesOn : Type 0
GrowStartGoesOn =
    (tells : Bool) (old new : StoreValue) (answer : Result (Unit {0}) StartFault) (m : Machine Value) → Stands tells old m → StartsGrowth old answer new
    → GoesOn tells old new

-- a call that changes the transactions alone
abbrev pub RestGoesOn : Type 0
RestGoesOn = (tells : Bool) (old new : StoreValue) → HasRest old new → new.transactions.mark ≡ old.transactions.mark → GoesOn tells old new
