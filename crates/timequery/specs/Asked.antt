-- What a store answers that is asked by a view: an archive and a disk by themselves, or anything that has both.
use Rattle.std.specs.Prelude.{◌≡◌, ◌≤◌, ◌+◌, ◌==◌, ◌&&◌, ℕ, Bool, IsTrue, Option, Result, Ok, Err, IfOk, IfErr, MatchBool, MatchResult}
use Rattle.std.specs.declared.alloc.Global.{Global}
use Rattle.std.specs.declared.vec.Vec.{Vec}
use Rattle.disk.specs.Calls.{DiskState}
use Rattle.history.specs.declared.key.Key.{Key}
use Rattle.history.specs.declared.time.Version.{Version}
use Rattle.history.specs.Time.{value_at}
use Rattle.history.specs.Histories.{History}
use Rattle.history.specs.Answers.{at_answer, between_answer, IsScanAtAnswer, IsScanBetweenAnswer}
use Rattle.law_image.specs.Values.{Value}
use Rattle.chains.specs.KeyWrites.{writes_of}
use Rattle.chains.specs.Rows.{rows_in, scanned_rows}
use Rattle.chains.specs.Scans.{scanned}
use Rattle.floors.specs.Floors.{floor_at}
use Rattle.archive.specs.Parts.{IsRight, Keeps}
use Rattle.archive.specs.Runs.{RunsEndBy}
use Rattle.archive.specs.Searches.{archive_of}
use Rattle.archive.specs.Traces.{IsFindDamaged, IsDamagedRun, AreRowsOf, AreRowsBroken, AreScanRowsOf, AreScanRowsBroken}
use Rattle.timequery.specs.Archives.{ArchiveValue, is_front}
use Rattle.timequery.specs.Faults.{after_query}
use Rattle.timequery.specs.Homes.{ReadsHistory, Answers, IfDamaged, RefusesAt, RefusesRows, IsValueFound, AreRowsFound, AreValuesFound, AreScanRowsFound}
use Rattle.timequery.specs.View.{ViewValue, AnswersAt, AnswersBetween}
use Rattle.timequery.specs.declared.fault.QueryFault.{QueryFault}
use Rattle.timequery.specs.declared.fault.QueryFault.TheVariants as query

-- ---- what is asked

-- Where the archive and the disk are in what is asked.
pub record Holding (W : Type 0) : Type 0 where
  pub archive : W → ArchiveValue
  pub disk : W → DiskState
  -- it with another archive and another disk
  pub with_both : W → ArchiveValue → DiskState → W

-- an archive and a disk by themselves
abbrev pub alone : Holding (ArchiveValue × DiskState)
alone = record { archive = λ p. p.0; disk = λ p. p.1; with_both = λ p archive disk. (archive, disk) }

-- the view carries the mark of the store that is asked, and its runs are a front of the store's
abbrev pub is_own : ℕ → ArchiveValue → ViewValue → Bool
is_own mark archive view = (view.mark == mark) && is_front view.runs archive.runs

-- ---- what asking does

-- A query changes nothing but what the reader keeps of the archive, and where a read was refused the count of such.
-- What is kept is right if what was kept before is, and of the view's runs alone.
pub record Asks {T W : Type 0} (held : Holding W) (tells : Bool) (old : W) (view : ViewValue) (answer : Result T QueryFault) (new : W) : Type 0 where
  pub new_is : new ≡ held.with_both old (record (held.archive old) { kept = (held.archive new).kept }) (after_query answer (held.disk old))
  pub kept : (limit : ℕ) → RunsEndBy limit view.runs → Keeps limit tells (archive_of (held.disk old)) (held.archive old).kept (held.archive new).kept

-- What is found from a time on in an own view. From the reclaim mark on memory answers alone, and no run is read; in
-- any case it is the answer of a history that the view stands for, where the disk tells its bytes; and it is the one
-- that those bytes give, whatever they are.
pub record Finds {T W : Type 0} (held : Holding W) (tells : Bool) (old : W) (view : ViewValue) (from : ℕ) (Refuses : QueryFault
    → Type 0) (Recent : T → Type 0) (OfHistory : History Value → T → Type 0) (Exact : Result T QueryFault → Type 0)
    (answer : Result T QueryFault) (new : W) : Type 0 where
  pub asks : Asks held tells old view answer new
  pub refused : IfErr answer Refuses
  pub recent : view.reclaimed ≤ from → ((held.archive new).kept ≡ (held.archive old).kept) × IfOk answer Recent
  pub only : (h : History Value) → ReadsHistory tells (held.archive old).kept (held.disk old) view h → Answers answer (OfHistory h)
  pub exact : IsTrue tells → IsRight (held.archive old).kept (archive_of (held.disk old)) → Exact answer

-- a stranger's view is refused first, and nothing has changed
abbrev pub OrStranger : {T W : Type 0} → Bool → W → (Result T QueryFault → W → Type 0) → Result T QueryFault → W → Type 0
OrStranger own old Is answer new = MatchBool own (Is answer new) ((answer ≡ Err query.Stranger) × (new ≡ old))

-- ---- the four queries

-- the value of a key at a time, as the view's moment knows it
abbrev pub FindsAt : {W : Type 0} → Holding W → Bool → W → ViewValue → Key → ℕ → Result (Option Value) QueryFault → W → Type 0
FindsAt held tells old view key time = Finds held tells old view time (RefusesAt view key.relation time)
    (λ o. AnswersAt view key.relation time o (value_at (writes_of view.state key) time))
    (λ h o. at_answer h (floor_at view.floors) key time ≡ Ok o)
    (λ answer. MatchResult answer (IsValueFound (archive_of (held.disk old)) view key time)
    (IfDamaged (IsFindDamaged (archive_of (held.disk old)) view.runs key time)))

-- an own view is asked for the value of a key at a time, and a stranger's is refused
abbrev pub AnswersAtView : {W : Type 0} → Holding W → Bool → ℕ → W → ViewValue → Key → ℕ → Result (Option Value) QueryFault → W → Type 0
AnswersAtView held tells mark old view key time answer new =
    OrStranger (is_own mark (held.archive old) view) old (FindsAt held tells old view key time) answer new

-- and the values of a relation
abbrev pub FindsScanAt : {W : Type 0} → Holding W → Bool → W → ViewValue → ℕ → ℕ → Result (Vec (ℕ × Value) Global) QueryFault → W → Type 0
FindsScanAt held tells old view relation time = Finds held tells old view time (RefusesAt view relation time)
    (λ found. AnswersAt view relation time found.items (scanned relation time view.state))
    (λ h found. IsScanAtAnswer h (floor_at view.floors) relation time (Ok found.items))
    (λ answer. MatchResult answer (λ found. AreValuesFound (archive_of (held.disk old)) view relation time found.items)
    (IfDamaged (IsDamagedRun (AreScanRowsOf (archive_of (held.disk old)) relation time (time + 1))
    (AreScanRowsBroken (archive_of (held.disk old)) relation time (time + 1)) time view.runs)))

-- an own view is asked for the values of a relation at a time, and a stranger's is refused
abbrev pub AnswersScanAt : {W : Type 0} → Holding W → Bool → ℕ → W → ViewValue → ℕ → ℕ → Result (Vec (ℕ × Value) Global) QueryFault → W → Type 0
AnswersScanAt held tells mark old view relation time answer new =
    OrStranger (is_own mark (held.archive old) view) old (FindsScanAt held tells old view relation time) answer new

-- the rows of a key from a up to b
abbrev pub FindsRows : {W : Type 0} → Holding W → Bool → W → ViewValue → Key → ℕ → ℕ → Result (Vec (Version Value) Global) QueryFault → W → Type 0
FindsRows held tells old view key a b = Finds held tells old view a (RefusesRows view key.relation a b)
    (λ found. AnswersBetween view key.relation a b found.items (rows_in view.state a b key))
    (λ h found. between_answer h (floor_at view.floors) key a b ≡ Ok found.items)
    (λ answer. MatchResult answer (λ found. AreRowsFound (archive_of (held.disk old)) view key a b found.items)
    (IfDamaged (IsDamagedRun (AreRowsOf (archive_of (held.disk old)) key a b) (AreRowsBroken (archive_of (held.disk old)) key a b) a view.runs)))

-- an own view is asked for the rows of a key from a up to b, and a stranger's is refused
abbrev pub AnswersRows : {W : Type 0} → Holding W → Bool → ℕ → W → ViewValue → Key → ℕ → ℕ → Result (Vec (Version Value) Global) QueryFault → W → Type 0
AnswersRows held tells mark old view key a b answer new =
    OrStranger (is_own mark (held.archive old) view) old (FindsRows held tells old view key a b) answer new

-- and those of a relation
abbrev pub FindsScanRows : {W : Type 0} → Holding W → Bool → W → ViewValue → ℕ → ℕ → ℕ → Result (Vec (ℕ × Version Value) Global) QueryFault → W → Type 0
FindsScanRows held tells old view relation a b = Finds held tells old view a (RefusesRows view relation a b)
    (λ found. AnswersBetween view relation a b found.items (scanned_rows relation a b view.state))
    (λ h found. IsScanBetweenAnswer h (floor_at view.floors) relation a b (Ok found.items))
    (λ answer. MatchResult answer (λ found. AreScanRowsFound (archive_of (held.disk old)) view relation a b found.items)
    (IfDamaged (IsDamagedRun (AreScanRowsOf (archive_of (held.disk old)) relation a b)
    (AreScanRowsBroken (archive_of (held.disk old)) relation a b) a view.runs)))

-- an own view is asked for the rows of a relation from a up to b, and a stranger's is refused
abbrev pub AnswersScanRows : {W : Type 0} → Holding W → Bool → ℕ → W → ViewValue → ℕ → ℕ → ℕ → Result (Vec (ℕ × Version Value) Global) QueryFault → W → Type 0
AnswersScanRows held tells mark old view relation a b answer new =
    OrStranger (is_own mark (held.archive old) view) old (FindsScanRows held tells old view relation a b) answer new
