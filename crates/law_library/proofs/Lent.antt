-- Queries of a view over an archive that is lent, whose bytes hold the view's runs.
use Rattle.std.proofs.Common.{◌≡◌, ◌<◌, ◌≤◌, ◌-◌, ◌==◌, ◌&&◌, ◌||◌, ◌^◌, ℕ, zero, suc, nat_lt, Bool, true, false, List, [], ◌∷◌, length, Option, Some}
use Rattle.std.proofs.Common.{Result, Ok, Err, Vec, MatchBool, MatchOption, refl, sym, ◌∙◌, ap, subst, inl, arith}
use Rattle.std.specs.Prelude.{slice_get, option_map, if◌then◌else◌}
use Rattle.std.specs.declared.alloc.Global.{Global}
use Rattle.std.proofs.lemmas.Bool.{eqb-true, ne_eqb}
use Rattle.disk.specs.Calls.{DiskState}
use Rattle.history.specs.declared.key.Key.{Key}
use Rattle.history.specs.declared.time.Version.{Version}
use Rattle.history.specs.Answers.{at_answer}
use Rattle.history.specs.Histories.{History}
use Rattle.history.proofs.Members.{Contains-nil}
use Rattle.law_image.specs.Values.{Value}
use Rattle.law_image.specs.Reading.{ArchiveRecord}
use Rattle.archive.specs.declared.run.RunEntry.{RunEntry}
use Rattle.archive.specs.Parts.{IsRight}
use Rattle.archive.specs.Readers.{kept_of}
use Rattle.archive.specs.Runs.{HoldRuns}
use Rattle.timequery.specs.Archives.{ArchiveValue}
use Rattle.timequery.specs.Asked.{alone, FindsScanAt, FindsRows, FindsScanRows}
use Rattle.timequery.specs.Homes.{ReadsHistory}
use Rattle.timequery.specs.View.{ViewValue, mark_of}
use Rattle.timequery.specs.declared.fault.QueryFault.{QueryFault}
use Rattle.timequery.specs.declared.fault.QueryFault.TheVariants.{BeforeKept, NotYet, EmptyInterval, Device, NoMemory, Damaged, NeedsDisk, Stranger}
use Rattle.any_store.specs.declared.engine.Engine.TheVariants.{Slots, Log}
use Rattle.any_store.specs.Values.{StoreValue, archive_of, disk_of}
use Rattle.law_refinement.specs.Homes.{AreArchived, ViewStands}
use Rattle.law_refinement.proofs.Asked.{view-reads}
use Rattle.law_refinement.specs.Views as views
use Rattle.law_refinement.proofs.Queries.{recent-answered, at-found, scan_at-found, between-found, scan_between-found}
use Rattle.law_any_store.specs.Standing.{ViewReads}
use Rattle.run.specs.Runs.{SaysRecent}
use Rattle.c_engine.specs.Held.{named, last_number, view_in, view_under}
use Rattle.c_engine.specs.Queries.{over, IsOver, is_none, takes_bytes, Over, TellsRecent, TellsOver, TellsRows}
use Rattle.c_engine.specs.Queries.{RecentAt, RecentScanAt, RecentRows, RecentScanRows, LentScanAt, LentRows, LentScanRows}
use Rattle.c_engine.specs.RelayState.{slices_state}
use Rattle.c_engine.specs.Rows.{shown_record, shown_version, shown_entry}
use Rattle.c_engine.specs.declared.asking.Lent.{Lent}
use Rattle.c_engine.specs.declared.code.Code.{Code}
use Rattle.c_engine.specs.declared.code.Code.TheVariants as code
use Rattle.c_engine.specs.declared.code.Info.{Info}
use Rattle.c_engine.specs.declared.code.Row.{Row}
use Rattle.c_engine.specs.declared.engine.Engine.{Engine}
use Rattle.c_engine.specs.declared.engine.Published.{Published}
use Rattle.law_library.specs.Answers.{TellsAt, TellsRecently, TellsScanAt, TellsBetween, TellsScanBetween, ViewAnswers}
use Rattle.law_library.specs.Hosts.{Host}

-- ---- the runs of a view in lent bytes

-- the bytes hold the view's runs, and those have what the history says
pub record HasRuns (archive : List ℕ) (view : ViewValue) (h : History Value) (floors : ℕ → ℕ) : Type 0 where
  pub lists : List (List ArchiveRecord)
  pub held : HoldRuns archive view.runs lists
  pub marks : view.reclaimed ≤ mark_of view.runs
  pub archived : AreArchived h floors (mark_of view.runs) lists

-- those of a store's disk do, in either layout
pub has-runs : (v : StoreValue) (view : ViewValue) (h : History Value) (floors : ℕ → ℕ) → ViewReads true v view h floors
    → HasRuns (disk_of v).areas.archive.bytes view h floors
has-runs (Slots s) view h floors reads =
    let runs = reads.runs refl in record { lists = runs.lists; held = runs.held; marks = runs.marks; archived = runs.archived }
has-runs (Log l) view h floors reads =
    let runs = reads.runs refl in record { lists = runs.lists; held = runs.held; marks = runs.marks; archived = runs.archived }

-- where there are no bytes no run takes any
none-taken : (archive : List ℕ) (runs : List RunEntry) (lists : List (List ArchiveRecord)) → length archive ≡ 0 → HoldRuns archive runs lists → (n : ℕ)
    → takes_bytes (slice_get runs n) ≡ false
none-taken archive [] lists none held n = refl
none-taken archive (run ∷ runs) [] none held n = absurd held
none-taken archive (run ∷ runs) (records ∷ lists) none held zero =
    let inside = held.0.held.inside in
    let long = held.0.length_is in
    let start : run.slot.start ≡ 0 = omega (arith, inside, long, none) in
    let len : run.slot.len ≡ 0 = omega (arith, inside, long, none) in
    ap (λ (k : ℕ). nat_lt 0 k || nat_lt 0 run.slot.len) start ∙ ap (λ (k : ℕ). nat_lt 0 0 || nat_lt 0 k) len
none-taken archive (run ∷ runs) (records ∷ lists) none held (suc n) = none-taken archive runs lists none held.1 n

is-lent : (archive : List ℕ) (view : ViewValue) (h : History Value) (floors : ℕ → ℕ) → HasRuns archive view h floors → is_none archive view ≡ false
is-lent archive view h floors runs = by-length (length archive == 0) refl
  where
    by-length : (b : Bool) → (length archive == 0) ≡ b → (b && takes_bytes (slice_get view.runs (length view.runs - 1))) ≡ false
    by-length true none = none-taken archive view.runs runs.lists (eqb-true (length archive) 0 none) runs.held (length view.runs - 1)
    by-length false some = refl

-- ---- what is found

module _ (archive : List ℕ) (runs : ArchiveValue) (view : ViewValue) (h : History Value) (floors : ℕ → ℕ) (stands : ViewStands view h floors)
    (has : HasRuns archive view h floors) where
  -- what is kept of lent bytes is right, and they hold the view's runs
  history-read : (before : Lent) → IsOver archive before → ReadsHistory true (kept_of before.reader) (slices_state before.disk) view h
  history-read before is =
      let bytes : (slices_state before.disk).areas.archive.bytes ≡ archive = ap (λ (d : DiskState). d.areas.archive.bytes) is.disk in
      view-reads true (kept_of before.reader) (slices_state before.disk) view h floors has.lists stands refl
      (subst (λ (kept : List (ℕ × List ℕ)). IsRight kept (slices_state before.disk).areas.archive.bytes) (sym is.kept)
      (record { each = λ from part there. absurd (Contains-nil (from, part) there) }))
      (subst (λ (a : List ℕ). HoldRuns a view.runs has.lists) (sym bytes) has.held) has.marks has.archived

  at-told : (key : Key) (time : ℕ) (said : Code) (info : Info) (out : List ℕ) → TellsOver archive runs view key time said info out
      → TellsAt h floors key time said info out
  at-told key time said info out tells =
      let before = tells.0 in
      let after = tells.1 in
      let found = tells.3 in (
        found.0,
        at-found alone (Unit {0}) true (over before runs) (over after runs) view h floors key time found.0 stands
            (λ sure. inl (history-read before tells.2)) found.1,
        found.2,
      )

  scan_at-told : (relation time : ℕ) (answer : Result (Vec (ℕ × Value) Global) QueryFault) (said : Code) (info : Info) (rows : List Row) (out : List ℕ)
      → Over archive runs (λ old new. FindsScanAt alone true old view relation time answer new) → TellsRows shown_record answer said info rows out
      → TellsScanAt h floors relation time said info rows out
  scan_at-told relation time answer said info rows out finds tells = (
    answer,
    scan_at-found alone (Unit {0}) true (over finds.0 runs) (over finds.1 runs) view h floors relation time answer stands
        (λ sure. inl (history-read finds.0 finds.2)) finds.3,
    tells,
  )

  between-told : (key : Key) (a b : ℕ) (answer : Result (Vec (Version Value) Global) QueryFault) (said : Code) (info : Info) (rows : List Row) (out : List ℕ)
      → Over archive runs (λ old new. FindsRows alone true old view key a b answer new) → TellsRows (shown_version key.«record») answer said info rows out
      → TellsBetween h floors key a b said info rows out
  between-told key a b answer said info rows out finds tells = (
    answer,
    between-found alone (Unit {0}) true (over finds.0 runs) (over finds.1 runs) view h floors key a b answer stands
        (λ sure. inl (history-read finds.0 finds.2)) finds.3,
    tells,
  )

  scan_between-told : (relation a b : ℕ) (answer : Result (Vec (ℕ × Version Value) Global) QueryFault) (said : Code) (info : Info) (rows : List Row)
      (out : List ℕ)
      → Over archive runs (λ old new. FindsScanRows alone true old view relation a b answer new) → TellsRows shown_entry answer said info rows out
      → TellsScanBetween h floors relation a b said info rows out
  scan_between-told relation a b answer said info rows out finds tells = (
    answer,
    scan_between-found alone (Unit {0}) true (over finds.0 runs) (over finds.1 runs) view h floors relation a b answer stands
        (λ sure. inl (history-read finds.0 finds.2)) finds.3,
    tells,
  )

recent-told : (view : ViewValue) (h : History Value) (floors : ℕ → ℕ) → ViewStands view h floors → (key : Key) (time : ℕ) (said : Code) (info : Info)
    (out : List ℕ) → TellsRecent view key time said info out → TellsRecently h floors key time said info out
recent-told view h floors stands key time said info out tells = (
  view.reclaimed,
  tells.0,
  stands.memory.marked,
  by-answer tells.0 tells.1 (recent-answered view h floors key time tells.0 stands tells.1),
  tells.2,
)
  where
    by-answer : (r : Result (Option Value) QueryFault) → RecentAt view key time r → views.SaysRecent view time (at_answer h floors key time) r
        → SaysRecent view.reclaimed time (at_answer h floors key time) r
    by-answer (Ok found) recent told = (recent.0, told)
    by-answer (Err (BeforeKept floor)) recent told = told
    by-answer (Err (NotYet late)) recent told = told
    by-answer (Err NeedsDisk) recent told = told
    by-answer (Err EmptyInterval) recent told = told
    by-answer (Err Device) recent told = told
    by-answer (Err NoMemory) recent told = absurd told
    by-answer (Err (Damaged start)) recent told = told
    by-answer (Err Stranger) recent told = told

-- ---- the view of a number

-- a number below the last one of a store names what stands under it
pub under : (e : Engine) (number : ℕ) (view : ViewValue) → number < 2 ^ 63 → view_in (named e.places number) ≡ Some view → view_under e number ≡ Some view
under e number view low is =
    let other : (number == last_number e.places) ≡ false = ne_eqb number (last_number e.places) (λ same. omega (arith, low, same)) in
    ap (λ (b : Bool). if b then option_map (λ (p : Published). p.view) e.before else view_in (named e.places number)) other ∙ is

module _ (host : Host) (number : ℕ) (view : ViewValue) (h : History Value) (floors : ℕ → ℕ) (is : view_under host.engine number ≡ Some view)
    (stands : ViewStands view h floors) (has : HasRuns host.areas.archive.bytes view h floors) where
  abbrev archive : List ℕ
  archive = host.areas.archive.bytes

  abbrev runs : ArchiveValue
  runs = archive_of host.engine.store

  lent : is_none archive view ≡ false
  lent = is-lent archive view h floors has

  pub answered : ViewAnswers host number h floors
  answered = record {
    at = λ key time said info out asks.
        let one = subst (λ (o : Option ViewValue). MatchOption o (said ≡ code.Unknown)
        (λ v. MatchBool (is_none archive v) (TellsRecent v key time said info out) (TellsOver archive runs v key time said info out))) is asks in
        at-told archive runs view h floors stands has key time said info out
        (subst (λ (b : Bool). MatchBool b (TellsRecent view key time said info out) (TellsOver archive runs view key time said info out)) lent one);
    recent = λ key time said info out asks. recent-told view h floors stands key time said info out
        (subst (λ (o : Option ViewValue). MatchOption o (said ≡ code.Unknown) (λ v. TellsRecent v key time said info out)) is asks);
    scan_at = λ relation time said info rows out asks.
        let one = subst (λ (o : Option ViewValue). MatchOption o (said ≡ code.Unknown) (λ v. (answer : Result (Vec (ℕ × Value) Global) QueryFault)
        × LentScanAt archive runs v relation time answer × TellsRows shown_record answer said info rows out)) is asks in
        scan_at-told archive runs view h floors stands has relation time one.0 said info rows out
        (subst (λ (b : Bool). MatchBool b (RecentScanAt view relation time one.0)
        (Over archive runs (λ old new. FindsScanAt alone true old view relation time one.0 new))) lent one.1) one.2;
    between = λ key a b said info rows out asks.
        let one = subst (λ (o : Option ViewValue). MatchOption o (said ≡ code.Unknown) (λ v. (answer : Result (Vec (Version Value) Global) QueryFault)
        × LentRows archive runs v key a b answer × TellsRows (shown_version key.«record») answer said info rows out)) is asks in
        between-told archive runs view h floors stands has key a b one.0 said info rows out
        (subst (λ (x : Bool). MatchBool x (RecentRows view key a b one.0)
        (Over archive runs (λ old new. FindsRows alone true old view key a b one.0 new))) lent one.1) one.2;
    scan_between = λ relation a b said info rows out asks.
        let one = subst (λ (o : Option ViewValue). MatchOption o (said ≡ code.Unknown) (λ v. (answer : Result (Vec (ℕ × Version Value) Global) QueryFault)
        × LentScanRows archive runs v relation a b answer × TellsRows shown_entry answer said info rows out)) is asks in
        scan_between-told archive runs view h floors stands has relation a b one.0 said info rows out
        (subst (λ (x : Bool). MatchBool x (RecentScanRows view relation a b one.0)
        (Over archive runs (λ old new. FindsScanRows alone true old view relation a b one.0 new))) lent one.1) one.2;
  }
