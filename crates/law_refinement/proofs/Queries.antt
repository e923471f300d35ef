-- Queries are answered as the history of a view says.
use Rattle.std.proofs.Common.{◌≡◌, ℕ, ◌+◌, ◌^◌, ◌<◌, ◌≤◌, min, nat_lt, nat_le, Bool, true, false, List, [], Option, Some, None, Result, Ok, Err, Vec}
use Rattle.std.proofs.Common.{MatchResult, refl, arith, ap, sym, subst, ◌∙◌, ⊎_elim}
use Rattle.std.specs.Prelude.{◌⊎◌}
use Rattle.std.specs.declared.alloc.Global.{Global}
use Rattle.std.proofs.lemmas.Bool.Decides.{nat_tests}
use Rattle.history.specs.declared.key.Key.{Key}
use Rattle.history.specs.declared.time.Version.{Version}
use Rattle.history.specs.Key.{key_of}
use Rattle.history.specs.Time.{value_at}
use Rattle.history.specs.Queries.{IsScanAt, IsScanBetween, IsScanOfRows}
use Rattle.history.specs.Histories.{History, HasRisingTimes, last, state, between}
use Rattle.history.specs.Answers as answers
use Rattle.history.proofs.Histories.{rising-from_following, last_after-range}
use Rattle.law_image.specs.Values.{Value, IsValue}
use Rattle.chains.specs.KeyWrites.{writes_of}
use Rattle.chains.specs.Rows.{rows_in, scanned_rows}
use Rattle.chains.specs.Scans.{scanned}
use Rattle.chains.proofs.Shown.{scan_is}
use Rattle.chains.proofs.ShownRows.{scan_of_rows}
use Rattle.history.proofs.ScanNumbers.{numbers_of, state-written, between-written}
use Rattle.history.proofs.ScansMade.{scan-made, scan_of_rows-made}
use Rattle.timequery.specs.Asked.{Holding, FindsAt, FindsScanAt, FindsRows, FindsScanRows}
use Rattle.timequery.specs.View.{ViewValue, RefusesRecent, AnswersAt}
use Rattle.timequery.specs.Homes.{ReadsHistory, IsUndamaged, RefusesAt, RefusesRows}
use Rattle.timequery.specs.declared.fault.QueryFault.{QueryFault}
use Rattle.timequery.specs.declared.fault.QueryFault.TheVariants as query
use Rattle.floors.specs.Floors.{floor_at}
use Rattle.law_refinement.specs.Homes.{ViewStands}
use Rattle.law_refinement.specs.Laws.{SaysAt, Says, SaysScanAt, SaysBetween, SaysScanBetween}
use Rattle.law_refinement.specs.Views.{SaysRecent}
use Rattle.law_refinement.proofs.Held.{state-held, rows-held}

-- ---- scans exist

pub scan-there : (h : History Value) (relation time : ℕ) → (found : List (ℕ × Value)) × IsScanAt h relation time found
scan-there h relation time = scan-made (state h time) relation (numbers_of h) (λ number value is. state-written h time (key_of relation number) value is)

pub rows-there : (h : History Value) (relation a b : ℕ) → (found : List (ℕ × Version Value)) × IsScanBetween h relation a b found
rows-there h relation a b =
    scan_of_rows-made (λ key. between h key a b) relation (numbers_of h) (λ number some. between-written h (key_of relation number) a b some)

-- ---- what memory has from the reclaim mark on is the history's

rises : (view : ViewValue) (h : History Value) (floors : ℕ → ℕ) → ViewStands view h floors → HasRisingTimes 0 h
rises view h floors stands = rising-from_following IsValue [] h stands.history

value-same : (view : ViewValue) (h : History Value) (floors : ℕ → ℕ) (key : Key) (time : ℕ) → ViewStands view h floors
    → floor_at view.floors key.relation ≤ time → time ≤ view.last → view.reclaimed ≤ time → value_at (writes_of view.state key) time ≡ state h time key
value-same view h floors key time stands from upto recent =
    let up = rises view h floors stands in
    let range : last h < 2 ^ 63 = last_after-range 0 h (omega arith) up in
    let floor = stands.floor_is key.relation in
    let newest = stands.last_is in
    state-held stands.memory up key time (omega arith) recent (omega arith)

pub scan-same : (view : ViewValue) (h : History Value) (floors : ℕ → ℕ) (relation time : ℕ) → ViewStands view h floors → floor_at view.floors relation ≤ time
    → time ≤ view.last → view.reclaimed ≤ time → IsScanAt h relation time (scanned relation time view.state)
scan-same view h floors relation time stands from upto recent =
    let is = scan_is view.state relation time stands.memory.ordered in
    record {
      rising = is.rising;
      each = λ number value.
          let same = value-same view h floors (key_of relation number) time stands from upto recent in
          ((λ there. sym same ∙ (is.each number value).0 there), (λ says. (is.each number value).1 (same ∙ says)));
    }

pub rows-same : (view : ViewValue) (h : History Value) (floors : ℕ → ℕ) (key : Key) (a b : ℕ) → ViewStands view h floors → floor_at view.floors key.relation ≤ a
    → view.reclaimed ≤ a → rows_in view.state a b key ≡ between h key a b
rows-same view h floors key a b stands from recent = let floor =
    stands.floor_is key.relation in rows-held stands.memory (rises view h floors stands) key a b (omega arith) recent

pub scan_rows-same : (view : ViewValue) (h : History Value) (floors : ℕ → ℕ) (relation a b : ℕ) → ViewStands view h floors → floor_at view.floors relation ≤ a
    → view.reclaimed ≤ a → IsScanBetween h relation a b (scanned_rows relation a b view.state)
scan_rows-same view h floors relation a b stands from recent =
    let found = scanned_rows relation a b view.state in
    let scan = scan_of_rows view.state relation a b stands.memory.ordered in
    let held : Key → List (Version Value) = λ key. rows_in view.state a b (key_of relation key.record) in
    let written : Key → List (Version Value) = λ key. between h (key_of relation key.record) a b in
    let same : Path (Key → List (Version Value)) held written = λ i key. rows-same view h floors (key_of relation key.record) a b stands from recent i in
    let own : IsScanOfRows held relation found = record { numbers = scan.numbers; rising = scan.rising; each = scan.each; found_is = scan.found_is } in
    let shown = subst (λ (of : Key → List (Version Value)). IsScanOfRows of relation found) same own in
    record { numbers = shown.numbers; rising = shown.rising; each = shown.each; found_is = shown.found_is }

-- ---- what is refused is what the history refuses

pub time-kept : (view : ViewValue) (h : History Value) (floors : ℕ → ℕ) (relation time : ℕ) → ViewStands view h floors → floor_at view.floors relation ≤ time
    → time ≤ view.last → answers.time_refusal (last h) (floors relation) time ≡ None
time-kept view h floors relation time stands from upto =
    let floor = stands.floor_is relation in
    let last_is = stands.last_is in
    let low : nat_lt time (floors relation) ≡ false = let above : floors relation ≤ time = omega arith in grind (arith, nat_tests) in
    let high : nat_lt (last h) time ≡ false = let below : time ≤ last h = omega arith in grind (arith, nat_tests) in
    rw (low, high) refl

time-refused : {T X : Type 0} (Sure : Type 0) (held : T → X) (Found : X → Type 0) (view : ViewValue) (h : History Value) (floors : ℕ
    → ℕ) (relation time : ℕ) (fault : QueryFault) → ViewStands view h floors → (found : X) × Found found
    → RefusesAt view relation time fault → (Sure → IsUndamaged fault)
    → Says Sure held (answers.IsScanAnswer (answers.time_refusal (last h) (floors relation) time) Found) (Err fault)
time-refused Sure held Found view h floors relation time (query.BeforeKept floor) stands some says sound =
    let same = stands.floor_is relation in
    let low : nat_lt time (floors relation) ≡ true = let before = says.0 in let below : time < floors relation = omega arith in grind (arith, nat_tests) in
    let named : floors relation ≡ floor = sym same ∙ sym says.1 in
    rw (low, named) refl
time-refused Sure held Found view h floors relation time (query.NotYet late) stands some says sound =
    let same = stands.floor_is relation in
    let last_is = stands.last_is in
    let low : nat_lt time (floors relation) ≡ false = let from = says.0 in let above : floors relation ≤ time = omega arith in grind (arith, nat_tests) in
    let high : nat_lt (last h) time ≡ true = let after = says.1 in let above : last h < time = omega arith in grind (arith, nat_tests) in
    let named : last h ≡ late = sym last_is ∙ sym says.2 in
    rw (low, high, named) refl
time-refused Sure held Found view h floors relation time query.NoMemory stands some says sound =
    (some.0, (time-kept view h floors relation time stands says.0 says.1, some.1))
time-refused Sure held Found view h floors relation time query.Device stands some says sound =
    (some.0, (time-kept view h floors relation time stands says.0 says.1, some.1))
time-refused Sure held Found view h floors relation time (query.Damaged start) stands some says sound =
    (sound, (some.0, (time-kept view h floors relation time stands says.0 says.1, some.1)))
time-refused Sure held Found view h floors relation time query.EmptyInterval stands some says sound = absurd says
time-refused Sure held Found view h floors relation time query.NeedsDisk stands some says sound = absurd says
time-refused Sure held Found view h floors relation time query.Stranger stands some says sound = absurd says

interval-kept : (newest floor a b : ℕ) → floor ≤ min a b → b ≤ newest + 1 → a < b → answers.interval_refusal newest floor a b ≡ None
interval-kept newest floor a b from upto some =
    let low : nat_lt (min a b) floor ≡ false = grind (arith, nat_tests) in
    let high : nat_lt (newest + 1) b ≡ false = grind (arith, nat_tests) in
    let full : nat_le b a ≡ false = grind (arith, nat_tests) in
    rw (low, high, full) refl

pub interval-before : (newest floor a b : ℕ) → min a b < floor → answers.interval_refusal newest floor a b ≡ Some (answers.BeforeKept floor)
interval-before newest floor a b before =
    let low : nat_lt (min a b) floor ≡ true = grind (arith, nat_tests) in
    rw low refl

pub interval-late : (newest floor a b : ℕ) → floor ≤ min a b → newest + 1 < b → answers.interval_refusal newest floor a b ≡ Some (answers.NotYet newest)
interval-late newest floor a b from late =
    let low : nat_lt (min a b) floor ≡ false = grind (arith, nat_tests) in
    let high : nat_lt (newest + 1) b ≡ true = grind (arith, nat_tests) in
    rw (low, high) refl

pub interval-empty : (newest floor a b : ℕ) → floor ≤ min a b → b ≤ newest + 1 → b ≤ a → answers.interval_refusal newest floor a b ≡ Some answers.EmptyInterval
interval-empty newest floor a b from upto none =
    let low : nat_lt (min a b) floor ≡ false = grind (arith, nat_tests) in
    let high : nat_lt (newest + 1) b ≡ false = grind (arith, nat_tests) in
    let full : nat_le b a ≡ true = grind (arith, nat_tests) in
    rw (low, high, full) refl

-- the same of a view's bounds
pub rows-kept : (view : ViewValue) (h : History Value) (floors : ℕ → ℕ) (relation a b : ℕ) → ViewStands view h floors → floor_at view.floors relation ≤ min a b
    → b ≤ view.last + 1 → a < b → answers.interval_refusal (last h) (floors relation) a b ≡ None
rows-kept view h floors relation a b stands from upto some =
    let floor = stands.floor_is relation in
    let last_is = stands.last_is in
    interval-kept (last h) (floors relation) a b (omega arith) (omega arith) some

rows-refused : {T X : Type 0} (Sure : Type 0) (held : T → X) (Found : X → Type 0) (view : ViewValue) (h : History Value) (floors : ℕ
    → ℕ) (relation a b : ℕ) (fault : QueryFault) → ViewStands view h floors → (found : X) × Found found
    → RefusesRows view relation a b fault → (Sure → IsUndamaged fault)
    → Says Sure held (answers.IsScanAnswer (answers.interval_refusal (last h) (floors relation) a b) Found) (Err fault)
rows-refused Sure held Found view h floors relation a b (query.BeforeKept named) stands some says sound =
    let before = says.0 in
    let floor = stands.floor_is relation in
    interval-before (last h) (floors relation) a b (omega arith) ∙ ap (λ (n : ℕ). Some (answers.BeforeKept n)) (sym floor ∙ sym says.1)
rows-refused Sure held Found view h floors relation a b (query.NotYet named) stands some says sound =
    let from = says.0 in
    let late = says.1 in
    let floor = stands.floor_is relation in
    let last_is = stands.last_is in
    interval-late (last h) (floors relation) a b (omega arith) (omega arith) ∙ ap (λ (n : ℕ). Some (answers.NotYet n)) (sym last_is ∙ sym says.2)
rows-refused Sure held Found view h floors relation a b query.EmptyInterval stands some says sound =
    let from = says.0 in
    let upto = says.1 in
    let floor = stands.floor_is relation in
    let last_is = stands.last_is in
    interval-empty (last h) (floors relation) a b (omega arith) (omega arith) says.2
rows-refused Sure held Found view h floors relation a b query.NoMemory stands some says sound =
    (some.0, (rows-kept view h floors relation a b stands says.from_floor says.upto_last says.not_empty, some.1))
rows-refused Sure held Found view h floors relation a b query.Device stands some says sound =
    (some.0, (rows-kept view h floors relation a b stands says.0.from_floor says.0.upto_last says.0.not_empty, some.1))
rows-refused Sure held Found view h floors relation a b (query.Damaged start) stands some says sound =
    (sound, (some.0, (rows-kept view h floors relation a b stands says.0.from_floor says.0.upto_last says.0.not_empty, some.1)))
rows-refused Sure held Found view h floors relation a b query.NeedsDisk stands some says sound = absurd says
rows-refused Sure held Found view h floors relation a b query.Stranger stands some says sound = absurd says

-- ---- one answer in place of a scan

one-answer : {X : Type 0} (refusal : Option answers.QueryRefusal) (one : X) (said : Result X answers.QueryRefusal)
    → answers.IsScanAnswer refusal (λ x. x ≡ one) said → answers.unless_refused refusal one ≡ said
one-answer None one (Ok found) says = ap (λ x. Ok x) (sym says.1)
one-answer None one (Err why) says = absurd cc
one-answer (Some refusal) one (Ok found) says = let none = says.0 in absurd cc
one-answer {X} (Some refusal) one (Err why) says = ap (λ o. err-of o) says
  where
    err-of : Option answers.QueryRefusal → Result X answers.QueryRefusal
    err-of None = Err refusal
    err-of (Some other) = Err other

says-more : {T X : Type 0} (Sure : Type 0) (held : T → X) (P Q : Result X answers.QueryRefusal → Type 0) (answer : Result T QueryFault)
    → ((said : Result X answers.QueryRefusal) → P said → Q said) → Says Sure held P answer → Says Sure held Q answer
says-more Sure held P Q (Ok found) more says = λ sure. more _ (says sure)
says-more Sure held P Q (Err (query.BeforeKept floor)) more says = more _ says
says-more Sure held P Q (Err (query.NotYet time)) more says = more _ says
says-more Sure held P Q (Err query.EmptyInterval) more says = more _ says
says-more Sure held P Q (Err query.NoMemory) more says = (says.0, more _ says.1)
says-more Sure held P Q (Err query.Device) more says = (says.0, more _ says.1)
says-more Sure held P Q (Err (query.Damaged start)) more says = (says.0, (says.1.0, more _ says.1.1))
says-more Sure held P Q (Err query.NeedsDisk) more says = says
says-more Sure held P Q (Err query.Stranger) more says = says

-- ---- no run is damaged where nothing is read of one

recent-undamaged : (view : ViewValue) (relation time : ℕ) (fault : QueryFault) → view.reclaimed ≤ time → RefusesAt view relation time fault → IsUndamaged fault
recent-undamaged view relation time (query.BeforeKept floor) recent says = tt
recent-undamaged view relation time (query.NotYet late) recent says = tt
recent-undamaged view relation time query.EmptyInterval recent says = tt
recent-undamaged view relation time query.Device recent says = tt
recent-undamaged view relation time query.NoMemory recent says = tt
recent-undamaged view relation time (query.Damaged start) recent says = absurd (let below = says.2 in omega arith)
recent-undamaged view relation time query.NeedsDisk recent says = tt
recent-undamaged view relation time query.Stranger recent says = tt

rows-undamaged : (view : ViewValue) (relation a b : ℕ) (fault : QueryFault) → view.reclaimed ≤ a → RefusesRows view relation a b fault → IsUndamaged fault
rows-undamaged view relation a b (query.BeforeKept floor) recent says = tt
rows-undamaged view relation a b (query.NotYet late) recent says = tt
rows-undamaged view relation a b query.EmptyInterval recent says = tt
rows-undamaged view relation a b query.Device recent says = tt
rows-undamaged view relation a b query.NoMemory recent says = tt
rows-undamaged view relation a b (query.Damaged start) recent says = absurd (let below = says.1 in omega arith)
rows-undamaged view relation a b query.NeedsDisk recent says = tt
rows-undamaged view relation a b query.Stranger recent says = tt

-- ---- the queries

-- where it is sure, the disk tells its bytes and the view stands for the history, or memory has all from that time on
abbrev pub Knows : {W : Type 0} → Holding W → Bool → W → ViewValue → History Value → ℕ → Type 0 → Type 0
Knows held tells v view h from Sure = Sure → ReadsHistory tells (held.archive v).kept (held.disk v) view h ⊎ (view.reclaimed ≤ from)

at-refused : (Sure : Type 0) (view : ViewValue) (h : History Value) (floors : ℕ → ℕ) (key : Key) (time : ℕ) (fault : QueryFault) → ViewStands view h floors
    → RefusesAt view key.relation time fault → (Sure → IsUndamaged fault) → SaysAt Sure (answers.at_answer h floors key time) (Err fault)
at-refused Sure view h floors key time fault stands refused sound = by-fault fault refused sound
  where
    more : (fault : QueryFault) → RefusesAt view key.relation time fault → (Sure → IsUndamaged fault)
        → Says Sure (λ (o : Option Value). o) (λ said. answers.at_answer h floors key time ≡ said) (Err fault)
    more fault refused sound =
        says-more Sure (λ (o : Option Value). o) (answers.IsScanAnswer (answers.time_refusal (last h) (floors key.relation) time) (λ x. x
        ≡ state h time key)) (λ said. answers.at_answer h floors key time ≡ said) (Err fault)
        (one-answer (answers.time_refusal (last h) (floors key.relation) time) (state h time key))
        (time-refused Sure (λ (o : Option Value). o) (λ x. x ≡ state h time key) view h floors key.relation time fault stands (
          state h time key,
          refl,
        ) refused sound)

    by-fault : (fault : QueryFault) → RefusesAt view key.relation time fault → (Sure → IsUndamaged fault)
        → SaysAt Sure (answers.at_answer h floors key time) (Err fault)
    by-fault (query.BeforeKept floor) refused sound = more (query.BeforeKept floor) refused sound
    by-fault (query.NotYet late) refused sound = more (query.NotYet late) refused sound
    by-fault query.EmptyInterval refused sound = absurd refused
    by-fault query.Device refused sound = more query.Device refused sound
    by-fault query.NoMemory refused sound = more query.NoMemory refused sound
    by-fault (query.Damaged start) refused sound = more (query.Damaged start) refused sound
    by-fault query.NeedsDisk refused sound = absurd refused
    by-fault query.Stranger refused sound = absurd refused

at-recent : (view : ViewValue) (h : History Value) (floors : ℕ → ℕ) (key : Key) (time : ℕ) (o : Option Value) → ViewStands view h floors → view.reclaimed ≤ time
    → AnswersAt view key.relation time o (value_at (writes_of view.state key) time) → answers.at_answer h floors key time ≡ Ok o
at-recent view h floors key time o stands recent says =
    ap (λ (r : Option answers.QueryRefusal). answers.unless_refused r (state h time key))
    (time-kept view h floors key.relation time stands says.from_floor says.upto_last)
    ∙ ap (λ (x : Option Value). Ok x) (sym (says.is ∙ value-same view h floors key time stands says.from_floor says.upto_last recent))

pub at-found : {W : Type 0} (held : Holding W) (Sure : Type 0) (tells : Bool) (v new : W) (view : ViewValue) (h : History Value) (floors : ℕ
    → ℕ) (key : Key) (time : ℕ) (answer : Result (Option Value) QueryFault) → ViewStands view h floors → Knows held tells v view h time Sure
    → FindsAt held tells v view key time answer new → SaysAt Sure (answers.at_answer h floors key time) answer
at-found held Sure tells v new view h floors key time (Ok o) stands know finds = λ sure.
    ⊎_elim
    (λ (told : ReadsHistory tells (held.archive v).kept (held.disk v) view h). subst
    (λ (n : ℕ). answers.unless_refused (answers.time_refusal (last h) n time) (state h time key) ≡ Ok o) (stands.floor_is key.relation) (finds.only h told))
    (λ (recent : view.reclaimed ≤ time). at-recent view h floors key time o stands recent (finds.recent recent).1)
    (know sure)
at-found held Sure tells v new view h floors key time (Err fault) stands know finds =
    at-refused Sure view h floors key time fault stands finds.refused
    (λ sure. ⊎_elim (λ (told : ReadsHistory tells (held.archive v).kept (held.disk v) view h). finds.only h told)
    (λ (recent : view.reclaimed ≤ time). recent-undamaged view key.relation time fault recent finds.refused) (know sure))

pub scan_at-found : {W : Type 0} (held : Holding W) (Sure : Type 0) (tells : Bool) (v new : W) (view : ViewValue) (h : History Value) (floors : ℕ
    → ℕ) (relation time : ℕ) (answer : Result (Vec (ℕ × Value) Global) QueryFault) → ViewStands view h floors → Knows held tells v view h time Sure
    → FindsScanAt held tells v view relation time answer new → SaysScanAt Sure h floors relation time answer
scan_at-found held Sure tells v new view h floors relation time (Ok found) stands know finds = λ sure.
    ⊎_elim
    (λ (told : ReadsHistory tells (held.archive v).kept (held.disk v) view h). subst
    (λ (n : ℕ). answers.IsScanAnswer (answers.time_refusal (last h) n time) (IsScanAt h relation time) (Ok found.items)) (stands.floor_is relation)
    (finds.only h told))
    (λ (recent : view.reclaimed ≤ time).
    let says = (finds.recent recent).1 in (
      time-kept view h floors relation time stands says.from_floor says.upto_last,
      subst (IsScanAt h relation time) (sym says.is) (scan-same view h floors relation time stands says.from_floor says.upto_last recent),
    ))
    (know sure)
scan_at-found held Sure tells v new view h floors relation time (Err fault) stands know finds =
    time-refused Sure (λ (found : Vec (ℕ × Value) Global). found.items) (IsScanAt h relation time) view h floors relation time fault stands
    (scan-there h relation time) finds.refused
    (λ sure. ⊎_elim (λ (told : ReadsHistory tells (held.archive v).kept (held.disk v) view h). finds.only h told)
    (λ (recent : view.reclaimed ≤ time). recent-undamaged view relation time fault recent finds.refused) (know sure))

pub between-found : {W : Type 0} (held : Holding W) (Sure : Type 0) (tells : Bool) (v new : W) (view : ViewValue) (h : History Value) (floors : ℕ
    → ℕ) (key : Key) (a b : ℕ) (answer : Result (Vec (Version Value) Global) QueryFault) → ViewStands view h floors → Knows held tells v view h a Sure
    → FindsRows held tells v view key a b answer new → SaysBetween Sure h floors key a b answer
between-found held Sure tells v new view h floors key a b (Ok found) stands know finds = λ sure.
    ⊎_elim
    (λ (told : ReadsHistory tells (held.archive v).kept (held.disk v) view h). subst
    (λ (n : ℕ). answers.unless_refused (answers.interval_refusal (last h) n a b) (between h key a b)
    ≡ Ok found.items) (stands.floor_is key.relation) (finds.only h told))
    (λ (recent : view.reclaimed ≤ a).
    let says = (finds.recent recent).1 in
    let from = says.kept.from_floor in
    ap (λ (r : Option answers.QueryRefusal). answers.unless_refused r (between h key a b))
    (rows-kept view h floors key.relation a b stands says.kept.from_floor says.kept.upto_last says.kept.not_empty)
    ∙ ap (λ (x : List (Version Value)). Ok x) (sym (says.is ∙ rows-same view h floors key a b stands (omega arith) recent)))
    (know sure)
between-found held Sure tells v new view h floors key a b (Err fault) stands know finds =
    says-more Sure (λ (rows : Vec (Version Value) Global). rows.items)
    (answers.IsScanAnswer (answers.interval_refusal (last h) (floors key.relation) a b) (λ (vs : List (Version Value)). vs
    ≡ between h key a b)) (λ said. answers.between_answer h floors key a b ≡ said) (Err fault)
    (one-answer (answers.interval_refusal (last h) (floors key.relation) a b) (between h key a b))
    (rows-refused Sure (λ (rows : Vec (Version Value) Global). rows.items) (λ (vs : List (Version Value)). vs
    ≡ between h key a b) view h floors key.relation a b fault stands (between h key a b, refl) finds.refused
    (λ sure. ⊎_elim (λ (told : ReadsHistory tells (held.archive v).kept (held.disk v) view h). finds.only h told)
    (λ (recent : view.reclaimed ≤ a). rows-undamaged view key.relation a b fault recent finds.refused) (know sure)))

pub scan_between-found : {W : Type 0} (held : Holding W) (Sure : Type 0) (tells : Bool) (v new : W) (view : ViewValue) (h : History Value) (floors : ℕ
    → ℕ) (relation a b : ℕ) (answer : Result (Vec (ℕ × Version Value) Global) QueryFault) → ViewStands view h floors → Knows held tells v view h a Sure
    → FindsScanRows held tells v view relation a b answer new → SaysScanBetween Sure h floors relation a b answer
scan_between-found held Sure tells v new view h floors relation a b (Ok found) stands know finds = λ sure.
    ⊎_elim
    (λ (told : ReadsHistory tells (held.archive v).kept (held.disk v) view h). subst
    (λ (n : ℕ). answers.IsScanAnswer (answers.interval_refusal (last h) n a b) (IsScanBetween h relation a b) (Ok found.items)) (stands.floor_is relation)
    (finds.only h told))
    (λ (recent : view.reclaimed ≤ a).
    let says = (finds.recent recent).1 in
    let from = says.kept.from_floor in (
      rows-kept view h floors relation a b stands says.kept.from_floor says.kept.upto_last says.kept.not_empty,
      subst (IsScanBetween h relation a b) (sym says.is) (scan_rows-same view h floors relation a b stands (omega arith) recent),
    ))
    (know sure)
scan_between-found held Sure tells v new view h floors relation a b (Err fault) stands know finds =
    rows-refused Sure (λ (rows : Vec (ℕ × Version Value) Global). rows.items) (IsScanBetween h relation a b) view h floors relation a b fault stands
    (rows-there h relation a b) finds.refused
    (λ sure. ⊎_elim (λ (told : ReadsHistory tells (held.archive v).kept (held.disk v) view h). finds.only h told)
    (λ (recent : view.reclaimed ≤ a). rows-undamaged view relation a b fault recent finds.refused) (know sure))

-- ---- from memory alone

pub recent-answered : (view : ViewValue) (h : History Value) (floors : ℕ → ℕ) (key : Key) (time : ℕ) (answer : Result (Option Value) QueryFault)
    → ViewStands view h floors
    → MatchResult answer (λ o. (view.reclaimed ≤ time)
    × AnswersAt view key.relation time o (value_at (writes_of view.state key) time)) (RefusesRecent view key.relation time)
    → SaysRecent view time (answers.at_answer h floors key time) answer
recent-answered view h floors key time (Ok o) stands says = at-recent view h floors key time o stands says.0 says.1
recent-answered view h floors key time (Err (query.BeforeKept floor)) stands says =
    at-refused ⊥ view h floors key time (query.BeforeKept floor) stands says absurd
recent-answered view h floors key time (Err (query.NotYet late)) stands says = at-refused ⊥ view h floors key time (query.NotYet late) stands says absurd
recent-answered view h floors key time (Err query.NeedsDisk) stands says = (
  says.2,
  (
    state h time key,
    ap (λ (r : Option answers.QueryRefusal). answers.unless_refused r (state h time key)) (time-kept view h floors key.relation time stands says.0 says.1),
  ),
)
recent-answered view h floors key time (Err query.EmptyInterval) stands says = absurd says
recent-answered view h floors key time (Err query.Device) stands says = absurd says
recent-answered view h floors key time (Err query.NoMemory) stands says = absurd says
recent-answered view h floors key time (Err (query.Damaged start)) stands says = absurd says
recent-answered view h floors key time (Err query.Stranger) stands says = absurd says
