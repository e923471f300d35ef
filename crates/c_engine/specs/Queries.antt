-- What the engine's queries answer.
use Rattle.std.specs.Prelude.{◌≡◌, ◌≤◌, ◌⊎◌, ◌==◌, ◌&&◌, ◌||◌, ◌-◌, nat_lt, slice_get, ℕ, Bool, true, false, List, [], length, map, Result, Ok, Err, Option}
use Rattle.std.specs.Prelude.{Some, None, MatchBool, MatchOption, MatchResult}
use Rattle.std.specs.declared.alloc.Global.{Global}
use Rattle.std.specs.declared.vec.Vec.{Vec}
use Rattle.disk.specs.Calls.{DiskState, fresh_on}
use Rattle.disk.specs.declared.area.Area.TheVariants.{Archive}
use Rattle.history.specs.declared.key.Key.{Key}
use Rattle.history.specs.declared.time.Version.{Version}
use Rattle.history.specs.Queries.{IsScan}
use Rattle.history.specs.Time.{value_at}
use Rattle.wire.specs.Values.{value_bytes}
use Rattle.chains.specs.KeyWrites.{writes_of}
use Rattle.chains.specs.Rows.{rows_in, scanned_rows}
use Rattle.chains.specs.Scans.{scanned}
use Rattle.chains.specs.Writes.{Value}
use Rattle.archive.specs.Readers.{kept_of}
use Rattle.archive.specs.declared.run.RunEntry.{RunEntry}
use Rattle.c_engine.specs.RelayState.{slices_state}
use Rattle.snapshot.specs.Txn.{seen_by}
use Rattle.any_store.specs.Queries.{AnswersTimes, has_rolls}
use Rattle.any_store.specs.Values.{StoreValue, archive_of, with_disk}
use Rattle.timequery.specs.Archives.{ArchiveValue}
use Rattle.timequery.specs.Asked.{alone, FindsAt, FindsScanAt, FindsRows, FindsScanRows}
use Rattle.timequery.specs.View.{ViewValue, AnswersAt, AnswersBetween, RefusesRecent, RefusesRecentScan, RefusesRecentRows}
use Rattle.timequery.specs.declared.fault.QueryFault.{QueryFault}
use Rattle.timequery.specs.declared.fault.QueryFault.TheVariants.{BeforeKept, NotYet, EmptyInterval, Device, NoMemory, Damaged, NeedsDisk, Stranger}
use Rattle.c_engine.specs.Bytes.{AreBytesTold}
use Rattle.c_engine.specs.Codes.{IsDamagedCode}
use Rattle.c_engine.specs.Held.{transaction_under, view_under}
use Rattle.c_engine.specs.Rows.{Shown, shown_record, shown_version, shown_entry, AreTold}
use Rattle.c_engine.specs.declared.asking.Lent.{Lent}
use Rattle.c_engine.specs.declared.code.Code.{Code}
use Rattle.c_engine.specs.declared.code.Code.TheVariants as code
use Rattle.c_engine.specs.declared.code.Info.{Info}
use Rattle.c_engine.specs.declared.code.Row.{Row}
use Rattle.c_engine.specs.declared.engine.Engine.{Engine}

-- ---- the queries of a store's runs over an archive that is lent

-- runs that are read of what is lent
abbrev pub over : Lent → ArchiveValue → ArchiveValue × DiskState
over lent runs = (record runs { kept = kept_of lent.reader }, slices_state lent.disk)

-- the archive is lent, and nothing is kept of it
pub record IsOver (archive : List ℕ) (lent : Lent) : Type 0 where
  pub kept : kept_of lent.reader ≡ []
  pub disk : slices_state lent.disk ≡ fresh_on (record { status = []; heap = []; archive = archive })

-- a query of a store's runs where the archive that is lent is read
abbrev pub Over : List ℕ → ArchiveValue → (ArchiveValue × DiskState → ArchiveValue × DiskState → Type 0) → Type 0
Over archive runs Finds = (before after : Lent) × IsOver archive before × Finds (over before runs) (over after runs)

-- from memory alone
abbrev pub IsRecentAt : ViewValue → Key → ℕ → Option Value → Type 0
IsRecentAt view key time found = (view.reclaimed ≤ time) × AnswersAt view key.relation time found (value_at (writes_of view.state key) time)

-- a key's value at a time from memory alone, or why it is refused
abbrev pub RecentAt : ViewValue → Key → ℕ → Result (Option Value) QueryFault → Type 0
RecentAt view key time answer = MatchResult answer (IsRecentAt view key time) (RefusesRecent view key.relation time)

-- a relation's records at a time from memory alone, or why they are refused
abbrev pub RecentScanAt : ViewValue → ℕ → ℕ → Result (Vec (ℕ × Value) Global) QueryFault → Type 0
RecentScanAt view relation time answer =
    MatchResult answer (λ found. (view.reclaimed ≤ time)
    × AnswersAt view relation time found.items (scanned relation time view.state)) (RefusesRecentScan view relation time)

-- a key's rows of an interval from memory alone, or why they are refused
abbrev pub RecentRows : ViewValue → Key → ℕ → ℕ → Result (Vec (Version Value) Global) QueryFault → Type 0
RecentRows view key a b answer =
    MatchResult answer (λ found. (view.reclaimed ≤ a)
    × AnswersBetween view key.relation a b found.items (rows_in view.state a b key)) (RefusesRecentRows view key.relation a b)

-- the rows of all records of a relation from memory alone, or why they are refused
abbrev pub RecentScanRows : ViewValue → ℕ → ℕ → ℕ → Result (Vec (ℕ × Version Value) Global) QueryFault → Type 0
RecentScanRows view relation a b answer =
    MatchResult answer (λ found. (view.reclaimed ≤ a)
    × AnswersBetween view relation a b found.items (scanned_rows relation a b view.state)) (RefusesRecentRows view relation a b)

-- a run begins or ends behind the first byte: runs up to it take bytes
abbrev pub takes_bytes : Option RunEntry → Bool
takes_bytes None = false
takes_bytes (Some run) = nat_lt 0 run.slot.start || nat_lt 0 run.slot.len

-- no byte is lent, and the view's runs have some
abbrev pub is_none : List ℕ → ViewValue → Bool
is_none archive view = (length archive == 0) && takes_bytes (slice_get view.runs (length view.runs - 1))

-- over the archive that is lent; where none is, from memory alone
abbrev pub LentScanAt : List ℕ → ArchiveValue → ViewValue → ℕ → ℕ → Result (Vec (ℕ × Value) Global) QueryFault → Type 0
LentScanAt archive runs view relation time answer =
    MatchBool (is_none archive view) (RecentScanAt view relation time answer) (Over archive runs
    (λ old new. FindsScanAt alone true old view relation time answer new))

-- so for a key's rows of an interval
abbrev pub LentRows : List ℕ → ArchiveValue → ViewValue → Key → ℕ → ℕ → Result (Vec (Version Value) Global) QueryFault → Type 0
LentRows archive runs view key a b answer =
    MatchBool (is_none archive view) (RecentRows view key a b answer) (Over archive runs (λ old new. FindsRows alone true old view key a b answer new))

-- so for the rows of all records of a relation
abbrev pub LentScanRows : List ℕ → ArchiveValue → ViewValue → ℕ → ℕ → ℕ → Result (Vec (ℕ × Version Value) Global) QueryFault → Type 0
LentScanRows archive runs view relation a b answer =
    MatchBool (is_none archive view) (RecentScanRows view relation a b answer) (Over archive runs
    (λ old new. FindsScanRows alone true old view relation a b answer new))

-- no byte is lent, though names of commits lie in the archive
abbrev pub lacks_rolls : List ℕ → StoreValue → Bool
lacks_rolls archive v = (length archive == 0) && has_rolls v

-- the times of a label over the archive that is lent; where none is and some lie there, it is needed
abbrev pub LentTimes : List ℕ → StoreValue → ℕ → Result (Vec ℕ Global) QueryFault → Type 0
LentTimes archive v label answer =
    MatchBool (lacks_rolls archive v) (answer ≡ Err NeedsDisk) ((before after : Lent) × IsOver archive before
    × AnswersTimes true (with_disk v (slices_state before.disk)) label answer (with_disk v (slices_state after.disk)))

-- ---- codes and bytes

-- the code of a refusal, and what it tells
abbrev pub IsFaultCode : QueryFault → Code → Info → Type 0
IsFaultCode (BeforeKept floor) said info = (said ≡ code.BeforeKept) × (info.a ≡ floor)
IsFaultCode (NotYet last) said info = (said ≡ code.NotYet) × (info.a ≡ last)
IsFaultCode EmptyInterval said info = said ≡ code.EmptyInterval
IsFaultCode Device said info = said ≡ code.Failed
IsFaultCode NoMemory said info = said ≡ code.NoMemory
IsFaultCode (Damaged start) said info = IsDamagedCode Archive start said info
IsFaultCode NeedsDisk said info = said ≡ code.NeedsArchive
IsFaultCode Stranger said info = said ≡ code.Stranger

-- a value is told as its bytes; where the key has none, the code says so
abbrev pub IsValueTold : Option Value → Code → Info → List ℕ → Type 0
IsValueTold None said info out = said ≡ code.None
IsValueTold (Some value) said info out = AreBytesTold (value_bytes value) said info out

-- the value that was found is told, or the code says why the query is refused
abbrev pub TellsValue : Result (Option Value) QueryFault → Code → Info → List ℕ → Type 0
TellsValue (Ok found) said info out = IsValueTold found said info out
TellsValue (Err why) said info out = IsFaultCode why said info

-- memory alone has answered
abbrev pub TellsRecent : ViewValue → Key → ℕ → Code → Info → List ℕ → Type 0
TellsRecent view key time said info out = (answer : Result (Option Value) QueryFault) × RecentAt view key time answer × TellsValue answer said info out

-- the store's runs have answered, where what is lent is read
abbrev pub TellsAt : Lent → Lent → ArchiveValue → ViewValue → Key → ℕ → Code → Info → List ℕ → Type 0
TellsAt before after runs view key time said info out =
    (answer : Result (Option Value) QueryFault) × FindsAt alone true (over before runs) view key time answer (over after runs) × TellsValue answer said info out

-- so it has over this archive
abbrev pub TellsOver : List ℕ → ArchiveValue → ViewValue → Key → ℕ → Code → Info → List ℕ → Type 0
TellsOver archive runs view key time said info out = (before after : Lent) × IsOver archive before × TellsAt before after runs view key time said info out

-- what was found is told, each as such a row
abbrev pub TellsRows : {T : Type 0} → (T → Shown) → Result (Vec T Global) QueryFault → Code → Info → List Row → List ℕ → Type 0
TellsRows shown (Ok found) said info rows out = AreTold (map shown found.items) said info rows out
TellsRows shown (Err why) said info rows out = IsFaultCode why said info

-- ---- what is asked

-- what a transaction of this number sees, or there is none
abbrev pub Sees : ℕ → Key → Engine → Code → Info → List ℕ → Type 0
Sees number key e said info out = MatchOption (transaction_under e number) (said ≡ code.Unknown) (λ txn. IsValueTold (seen_by txn key) said info out)

-- the records that it sees in a relation, and their values
abbrev pub SeesScan : ℕ → ℕ → Engine → Code → Info → List Row → List ℕ → Type 0
SeesScan number relation e said info rows out =
    MatchOption (transaction_under e number) (said ≡ code.Unknown)
    (λ txn. (said ≡ code.NoMemory) ⊎ ((found : List (ℕ × Value)) × IsScan (seen_by txn) relation found × AreTold (map shown_record found) said info rows out))

-- what the view of this number answers, or there is none
abbrev pub AsksRecent : ℕ → Key → ℕ → Engine → Code → Info → List ℕ → Type 0
AsksRecent number key time e said info out =
    MatchOption (view_under e number) (said ≡ code.Unknown) (λ view. TellsRecent view key time said info out)

-- what the view of this number answers over the archive that is lent; where none is, from memory alone
abbrev pub AsksAt : List ℕ → ℕ → Key → ℕ → Engine → Code → Info → List ℕ → Type 0
AsksAt archive number key time e said info out =
    MatchOption (view_under e number) (said
    ≡ code.Unknown) (λ view. MatchBool (is_none archive view) (TellsRecent view key time said info out)
    (TellsOver archive (archive_of e.store) view key time said info out))

-- so for a relation's records at a time
abbrev pub AsksScanAt : List ℕ → ℕ → ℕ → ℕ → Engine → Code → Info → List Row → List ℕ → Type 0
AsksScanAt archive number relation time e said info rows out =
    MatchOption (view_under e number) (said ≡ code.Unknown) (λ view. (answer : Result (Vec (ℕ × Value) Global) QueryFault)
    × LentScanAt archive (archive_of e.store) view relation time answer × TellsRows shown_record answer said info rows out)

-- so for a key's rows of an interval
abbrev pub AsksRows : List ℕ → ℕ → Key → ℕ → ℕ → Engine → Code → Info → List Row → List ℕ → Type 0
AsksRows archive number key a b e said info rows out =
    MatchOption (view_under e number) (said ≡ code.Unknown) (λ view. (answer : Result (Vec (Version Value) Global) QueryFault)
    × LentRows archive (archive_of e.store) view key a b answer × TellsRows (shown_version key.«record») answer said info rows out)

-- so for the rows of all records of a relation
abbrev pub AsksScanRows : List ℕ → ℕ → ℕ → ℕ → ℕ → Engine → Code → Info → List Row → List ℕ → Type 0
AsksScanRows archive number relation a b e said info rows out =
    MatchOption (view_under e number) (said ≡ code.Unknown) (λ view. (answer : Result (Vec (ℕ × Version Value) Global) QueryFault)
    × LentScanRows archive (archive_of e.store) view relation a b answer × TellsRows shown_entry answer said info rows out)
