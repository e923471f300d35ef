-- What a view answers from memory alone is what the history of its moment says.
use Rattle.std.proofs.Common.{◌≡◌, ℕ, ◌<◌, ◌≤◌, nat_lt, true, false, Bor, List, Option, Some, None, Result, Ok, Err, Vec, MatchResult, refl, arith, ap, sym}
use Rattle.std.proofs.Common.{subst, ◌∙◌}
use Rattle.std.specs.declared.alloc.Global.{Global}
use Rattle.std.specs.Option.{option_copied}
use Rattle.std.proofs.lemmas.Bool.Decides.{nat_tests}
use Rattle.history.specs.declared.key.Key.{Key}
use Rattle.history.specs.declared.time.Version.{Version}
use Rattle.history.specs.Time.{value_at}
use Rattle.history.specs.Queries.{IsScanAt, IsScanBetween}
use Rattle.history.specs.Histories.{History, last, between}
use Rattle.history.specs.Answers as answers
use Rattle.history.specs.Machine.{Machine}
use Rattle.law_image.specs.Values.{Value}
use Rattle.chains.specs.KeyWrites.{writes_of}
use Rattle.chains.specs.Rows.{rows_in, scanned_rows}
use Rattle.chains.specs.Scans.{scanned}
use Rattle.timequery.specs.View.{ViewValue, AnswersAt, AnswersBetween, RefusesRecent, RefusesRecentScan, RefusesRecentRows, RefusesRecentWalk}
use Rattle.timequery.specs.declared.fault.QueryFault.{QueryFault}
use Rattle.timequery.specs.declared.fault.QueryFault.TheVariants as query
use Rattle.law_refinement.specs.Homes.{ViewStands}
use Rattle.law_refinement.specs.Views.{SaysRecent}
use Rattle.law_refinement.proofs.Queries.{scan-there, rows-there, scan-same, rows-same, scan_rows-same, time-kept, interval-before, interval-late}
use Rattle.law_refinement.proofs.Queries.{interval-empty, rows-kept, recent-answered}
use Rattle.shared.specs.Archives.{ArchiveSeen}
use Rattle.shared.specs.Moments.{ViewMoment, OfSeen, answer_copied}
use Rattle.shared.specs.Recent.{Recalls, RecallsScan, RecallsBetween, RecallsWalk, RecallsScanBetween}
use Rattle.shared.specs.Seen.{Seen}
use Rattle.shared.specs.Shared.{Shows}

-- ---- what is refused is what the history refuses

time-refused : {T X : Type 0} (held : T → X) (Found : X → Type 0) (view : ViewValue) (h : History Value) (floors : ℕ
    → ℕ) (relation time : ℕ) (fault : QueryFault) → ViewStands view h floors → (found : X) × Found found
    → RefusesRecentScan view relation time fault
    → Recalls view time held (answers.IsScanAnswer (answers.time_refusal (last h) (floors relation) time) Found) (Err fault)
time-refused held Found view h floors relation time (query.BeforeKept floor) stands some says =
    let same = stands.floor_is relation in
    let low : nat_lt time (floors relation) ≡ true = let before = says.0 in let below : time < floors relation = omega arith in grind (arith, nat_tests) in
    let named : floors relation ≡ floor = sym same ∙ sym says.1 in
    rw (low, named) refl
time-refused held Found view h floors relation time (query.NotYet late) stands some says =
    let same = stands.floor_is relation in
    let last_is = stands.last_is in
    let low : nat_lt time (floors relation) ≡ false = let from = says.0 in let above : floors relation ≤ time = omega arith in grind (arith, nat_tests) in
    let high : nat_lt (last h) time ≡ true = let after = says.1 in let above : last h < time = omega arith in grind (arith, nat_tests) in
    let named : last h ≡ late = sym last_is ∙ sym says.2 in
    rw (low, high, named) refl
time-refused held Found view h floors relation time query.NoMemory stands some says =
    (some.0, (time-kept view h floors relation time stands says.0 says.1, some.1))
time-refused held Found view h floors relation time query.NeedsDisk stands some says =
    (says.2, (some.0, (time-kept view h floors relation time stands says.0 says.1, some.1)))
time-refused held Found view h floors relation time query.Device stands some says = absurd says
time-refused held Found view h floors relation time (query.Damaged start) stands some says = absurd says
time-refused held Found view h floors relation time query.EmptyInterval stands some says = absurd says
time-refused held Found view h floors relation time query.Stranger stands some says = absurd says

rows-refused : {T X : Type 0} (held : T → X) (Is : Result X answers.QueryRefusal → Type 0) (view : ViewValue) (h : History Value) (floors : ℕ
    → ℕ) (relation a b : ℕ) (fault : QueryFault) → ViewStands view h floors
    → ((why : answers.QueryRefusal) → answers.interval_refusal (last h) (floors relation) a b ≡ Some why → Is (Err why))
    → (answers.interval_refusal (last h) (floors relation) a b ≡ None → (found : X) × Is (Ok found)) → RefusesRecentRows view relation a b fault
    → Recalls view a held Is (Err fault)
rows-refused held Is view h floors relation a b (query.BeforeKept named) stands refused kept says =
    let before = says.0 in
    let floor = stands.floor_is relation in
    refused (answers.BeforeKept named) (interval-before (last h) (floors relation) a b (omega arith)
    ∙ ap (λ (n : ℕ). Some (answers.BeforeKept n)) (sym floor ∙ sym says.1))
rows-refused held Is view h floors relation a b (query.NotYet named) stands refused kept says =
    let from = says.0 in
    let late = says.1 in
    let floor = stands.floor_is relation in
    let last_is = stands.last_is in
    refused (answers.NotYet named) (interval-late (last h) (floors relation) a b (omega arith) (omega arith)
    ∙ ap (λ (n : ℕ). Some (answers.NotYet n)) (sym last_is ∙ sym says.2))
rows-refused held Is view h floors relation a b query.EmptyInterval stands refused kept says =
    let from = says.0 in
    let upto = says.1 in
    let floor = stands.floor_is relation in
    let last_is = stands.last_is in
    refused answers.EmptyInterval (interval-empty (last h) (floors relation) a b (omega arith) (omega arith) says.2)
rows-refused held Is view h floors relation a b query.NoMemory stands refused kept says =
    kept (rows-kept view h floors relation a b stands says.0.from_floor says.0.upto_last says.0.not_empty)
rows-refused held Is view h floors relation a b query.NeedsDisk stands refused kept says =
    (says.1, kept (rows-kept view h floors relation a b stands says.0.from_floor says.0.upto_last says.0.not_empty))
rows-refused held Is view h floors relation a b query.Device stands refused kept says = absurd says
rows-refused held Is view h floors relation a b (query.Damaged start) stands refused kept says = absurd says
rows-refused held Is view h floors relation a b query.Stranger stands refused kept says = absurd says

-- ---- the answers

copied : (view : ViewValue) (key : Key) (time : ℕ) (r : Result (Option (Bor Value)) QueryFault)
    → MatchResult r (λ o. (view.reclaimed ≤ time)
    × AnswersAt view key.relation time (option_copied o) (value_at (writes_of view.state key) time)) (RefusesRecent view key.relation time)
    → MatchResult (answer_copied r) (λ o. (view.reclaimed ≤ time)
    × AnswersAt view key.relation time o (value_at (writes_of view.state key) time)) (RefusesRecent view key.relation time)
copied view key time (Ok o) says = says
copied view key time (Err why) says = says

scan-recalled : (view : ViewValue) (h : History Value) (floors : ℕ → ℕ) (relation time : ℕ) (r : Result (Vec (ℕ × Value) Global) QueryFault)
    → ViewStands view h floors
    → MatchResult r (λ found. (view.reclaimed ≤ time)
    × AnswersAt view relation time found.items (scanned relation time view.state)) (RefusesRecentScan view relation time)
    → RecallsScan view h floors relation time r
scan-recalled view h floors relation time (Ok found) stands says =
    let a = says.1 in (
      time-kept view h floors relation time stands a.from_floor a.upto_last,
      subst (IsScanAt h relation time) (sym a.is) (scan-same view h floors relation time stands a.from_floor a.upto_last says.0),
    )
scan-recalled view h floors relation time (Err fault) stands says =
    time-refused (λ (found : Vec (ℕ × Value) Global). found.items) (IsScanAt h relation time) view h floors relation time fault stands
    (scan-there h relation time) says

between-told : (view : ViewValue) (h : History Value) (floors : ℕ → ℕ) (key : Key) (a b : ℕ) (found : List (Version Value)) → ViewStands view h floors
    → (view.reclaimed ≤ a) × AnswersBetween view key.relation a b found (rows_in view.state a b key) → answers.between_answer h floors key a b ≡ Ok found
between-told view h floors key a b found stands says =
    let kept = says.1.kept in
    let from = kept.from_floor in
    let some = kept.not_empty in
    ap (λ (r : Option answers.QueryRefusal). answers.unless_refused r (between h key a b))
    (rows-kept view h floors key.relation a b stands kept.from_floor kept.upto_last kept.not_empty)
    ∙ ap (λ (x : List (Version Value)). Ok x) (sym (says.1.is ∙ rows-same view h floors key a b stands (omega arith) says.0))

between-refused : {T : Type 0} (held : T → List (Version Value)) (view : ViewValue) (h : History Value) (floors : ℕ
    → ℕ) (key : Key) (a b : ℕ) (fault : QueryFault) → ViewStands view h floors
    → RefusesRecentRows view key.relation a b fault → Recalls view a held (λ said. answers.between_answer h floors key a b ≡ said) (Err fault)
between-refused held view h floors key a b fault stands says =
    rows-refused held (λ said. answers.between_answer h floors key a b ≡ said) view h floors key.relation a b fault stands
    (λ why is. ap (λ (r : Option answers.QueryRefusal). answers.unless_refused r (between h key a b)) is) (λ none. (
      between h key a b,
      ap (λ (r : Option answers.QueryRefusal). answers.unless_refused r (between h key a b)) none,
    )) says

between-recalled : (view : ViewValue) (h : History Value) (floors : ℕ → ℕ) (key : Key) (a b : ℕ) (r : Result (Vec (Version Value) Global) QueryFault)
    → ViewStands view h floors
    → MatchResult r (λ rows. (view.reclaimed ≤ a)
    × AnswersBetween view key.relation a b rows.items (rows_in view.state a b key)) (RefusesRecentRows view key.relation a b)
    → RecallsBetween view h floors key a b r
between-recalled view h floors key a b (Ok found) stands says = between-told view h floors key a b found.items stands says
between-recalled view h floors key a b (Err fault) stands says =
    between-refused (λ (rows : Vec (Version Value) Global). rows.items) view h floors key a b fault stands says

walk-recalled : (view : ViewValue) (h : History Value) (floors : ℕ → ℕ) (key : Key) (a b : ℕ) (r : Result (List (Version Value)) QueryFault)
    → ViewStands view h floors
    → MatchResult r (λ walk. (view.reclaimed ≤ a)
    × AnswersBetween view key.relation a b walk (rows_in view.state a b key)) (RefusesRecentWalk view key.relation a b)
    → RecallsWalk view h floors key a b r
walk-recalled view h floors key a b (Ok found) stands says = between-told view h floors key a b found stands says
walk-recalled view h floors key a b (Err query.NoMemory) stands says = says
walk-recalled view h floors key a b (Err (query.BeforeKept floor)) stands says =
    between-refused (λ (rows : List (Version Value)). rows) view h floors key a b (query.BeforeKept floor) stands says
walk-recalled view h floors key a b (Err (query.NotYet newest)) stands says =
    between-refused (λ (rows : List (Version Value)). rows) view h floors key a b (query.NotYet newest) stands says
walk-recalled view h floors key a b (Err query.EmptyInterval) stands says =
    between-refused (λ (rows : List (Version Value)). rows) view h floors key a b query.EmptyInterval stands says
walk-recalled view h floors key a b (Err query.NeedsDisk) stands says =
    between-refused (λ (rows : List (Version Value)). rows) view h floors key a b query.NeedsDisk stands says
walk-recalled view h floors key a b (Err query.Device) stands says = says
walk-recalled view h floors key a b (Err (query.Damaged start)) stands says = says
walk-recalled view h floors key a b (Err query.Stranger) stands says = says

scan_between-recalled : (view : ViewValue) (h : History Value) (floors : ℕ → ℕ) (relation a b : ℕ) (r : Result (Vec (ℕ × Version Value) Global) QueryFault)
    → ViewStands view h floors
    → MatchResult r (λ rows. (view.reclaimed ≤ a)
    × AnswersBetween view relation a b rows.items (scanned_rows relation a b view.state)) (RefusesRecentRows view relation a b)
    → RecallsScanBetween view h floors relation a b r
scan_between-recalled view h floors relation a b (Ok found) stands says =
    let kept = says.1.kept in
    let from = kept.from_floor in
    let some = kept.not_empty in (
      rows-kept view h floors relation a b stands kept.from_floor kept.upto_last kept.not_empty,
      subst (IsScanBetween h relation a b) (sym says.1.is) (scan_rows-same view h floors relation a b stands (omega arith) says.0),
    )
scan_between-recalled view h floors relation a b (Err fault) stands says =
    rows-refused (λ (rows : Vec (ℕ × Version Value) Global). rows.items) (answers.IsScanBetweenAnswer h floors relation a b) view h floors relation a b fault
    stands
    (λ why is. is) (λ none. ((rows-there h relation a b).0, (none, (rows-there h relation a b).1))) says

-- ---- by a view of a shared store

module _ (start : Machine Value) (brand : ℕ) (archive : ArchiveSeen) (view : ViewValue) (seen : Seen) (v : ViewMoment) (is : record {
  shown = view;
  seen = seen;
} ≡ v) (s : Shows start brand archive view seen) where
  pub recent-says : (key : Key) (time : ℕ) (r : Result (Option (Bor Value)) QueryFault)
      → MatchResult r (λ o. (view.reclaimed ≤ time)
      × AnswersAt view key.relation time (option_copied o) (value_at (writes_of view.state key) time)) (RefusesRecent view key.relation time)
      → OfSeen start v.seen (λ m. SaysRecent v.shown time (answers.at_answer m.published m.floors key time) (answer_copied r))
  recent-says key time r says =
      subst (λ (x : ViewMoment). OfSeen start x.seen (λ m. SaysRecent x.shown time (answers.at_answer m.published m.floors key time) (answer_copied r))) is (
        s.machine,
        s.reached,
        s.seen_is,
        recent-answered view s.machine.published s.machine.floors key time (answer_copied r) s.stands (copied view key time r says),
      )

  pub scan-says : (relation time : ℕ) (r : Result (Vec (ℕ × Value) Global) QueryFault)
      → MatchResult r (λ found. (view.reclaimed ≤ time)
      × AnswersAt view relation time found.items (scanned relation time view.state)) (RefusesRecentScan view relation time)
      → OfSeen start v.seen (λ m. RecallsScan v.shown m.published m.floors relation time r)
  scan-says relation time r says =
      subst (λ (x : ViewMoment). OfSeen start x.seen (λ m. RecallsScan x.shown m.published m.floors relation time r)) is (
        s.machine,
        s.reached,
        s.seen_is,
        scan-recalled view s.machine.published s.machine.floors relation time r s.stands says,
      )

  pub between-says : (key : Key) (a b : ℕ) (r : Result (Vec (Version Value) Global) QueryFault)
      → MatchResult r (λ rows. (view.reclaimed ≤ a)
      × AnswersBetween view key.relation a b rows.items (rows_in view.state a b key)) (RefusesRecentRows view key.relation a b)
      → OfSeen start v.seen (λ m. RecallsBetween v.shown m.published m.floors key a b r)
  between-says key a b r says =
      subst (λ (x : ViewMoment). OfSeen start x.seen (λ m. RecallsBetween x.shown m.published m.floors key a b r)) is (
        s.machine,
        s.reached,
        s.seen_is,
        between-recalled view s.machine.published s.machine.floors key a b r s.stands says,
      )

  pub walk-says : (key : Key) (a b : ℕ) (r : Result (List (Version Value)) QueryFault)
      → MatchResult r (λ walk. (view.reclaimed ≤ a)
      × AnswersBetween view key.relation a b walk (rows_in view.state a b key)) (RefusesRecentWalk view key.relation a b)
      → OfSeen start v.seen (λ m. RecallsWalk v.shown m.published m.floors key a b r)
  walk-says key a b r says =
      subst (λ (x : ViewMoment). OfSeen start x.seen (λ m. RecallsWalk x.shown m.published m.floors key a b r)) is (
        s.machine,
        s.reached,
        s.seen_is,
        walk-recalled view s.machine.published s.machine.floors key a b r s.stands says,
      )

  pub scan_between-says : (relation a b : ℕ) (r : Result (Vec (ℕ × Version Value) Global) QueryFault)
      → MatchResult r (λ rows. (view.reclaimed ≤ a)
      × AnswersBetween view relation a b rows.items (scanned_rows relation a b view.state)) (RefusesRecentRows view relation a b)
      → OfSeen start v.seen (λ m. RecallsScanBetween v.shown m.published m.floors relation a b r)
  scan_between-says relation a b r says =
      subst (λ (x : ViewMoment). OfSeen start x.seen (λ m. RecallsScanBetween x.shown m.published m.floors relation a b r)) is (
        s.machine,
        s.reached,
        s.seen_is,
        scan_between-recalled view s.machine.published s.machine.floors relation a b r s.stands says,
      )
