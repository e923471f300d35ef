-- A part of the archive behind all that a log names there.
use Rattle.std.proofs.Common.{◌≡◌, ℕ, zero, suc, ◌+◌, ◌-◌, ◌≤◌, List, [], ◌∷◌, ◌++◌, length, map, take, arith, ap, sym, subst, ◌∙◌, inl, inr}
use Rattle.std.proofs.Common.{append_assoc}
use Rattle.std.specs.Prelude.{flat_map}
use Rattle.std.specs.List.{AllByRecursion}
use Rattle.std.proofs.lemmas.List.{append-nil, map-append, take-map}
use Rattle.std.proofs.lemmas.List.Concat.{flat_map-cons}
use Rattle.std.proofs.lemmas.Grind.{flat_map-append}
use Rattle.history.proofs.Filters.{AllByRecursion-append}
use Rattle.wire.specs.declared.slot.Run.{Run}
use Rattle.law_layout.specs.Runs.{StoredRun}
use Rattle.law_layout.proofs.Lists.{weaker, all_of_front, all_of_back}
use Rattle.log_entries.specs.declared.entry.Archive.{Archive}
use Rattle.log_entries.specs.declared.entry.Entry.{Entry}
use Rattle.log_entries.specs.declared.entry.Entry.TheVariants.{Group, Archived, Floor}
use Rattle.log_entries.specs.declared.entry.Entry.TheVariants as entries
use Rattle.log_entries.specs.Ranges.{run_of}
use Rattle.law_log_layout.specs.HeapLog.{PlacedChain, PlacedRoll, HeapLog, Span, run_span, roll_span, spans_of, ShareNoByte, AreSpansApart, AreSpansInRow}
use Rattle.law_log_layout.specs.HeapLog.{archives_in, runs_behind, runs_from, with_chain}
use Rattle.law_log_layout.specs.Entries.{runs_with}
use Rattle.law_log_layout.proofs.GroupJoins.{none-more}
use Rattle.law_log_store.specs.Named.{IsBehind}

-- ---- lists

pub all-front : {X : Type 0} (P : X → Type 0) (n : ℕ) (xs : List X) → AllByRecursion P xs → AllByRecursion P (take n xs)
all-front P zero xs all = tt
all-front P (suc n) [] all = tt
all-front P (suc n) (x ∷ xs) all = (all.0, all-front P n xs all.1)

-- one more between the first of some and others
all-with : {X : Type 0} (P : X → Type 0) (n : ℕ) (xs ys : List X) (one : X) → AllByRecursion P (xs ++ ys) → P one
    → AllByRecursion P (take n xs ++ one ∷ ys)
all-with P zero xs ys one all is = (is, all_of_back P xs ys all)
all-with P (suc n) [] ys one all is = (is, all)
all-with P (suc n) (x ∷ xs) ys one all is = (all.0, all-with P n xs ys one all.1 is)

pub all-mapped : {X Y : Type 0} (P : Y → Type 0) (f : X → Y) (xs : List X) → AllByRecursion (λ (x : X). P (f x)) xs → AllByRecursion P (map f xs)
all-mapped P f [] all = tt
all-mapped P f (x ∷ xs) all = (all.0, all-mapped P f xs all.1)

pub all-unmapped : {X Y : Type 0} (P : Y → Type 0) (f : X → Y) (xs : List X) → AllByRecursion P (map f xs) → AllByRecursion (λ (x : X). P (f x)) xs
all-unmapped P f [] all = tt
all-unmapped P f (x ∷ xs) all = (all.0, all-unmapped P f xs all.1)

-- ---- the runs that stand

-- a run ends by this place
abbrev pub RunEnds : ℕ → Run → Type 0
RunEnds place run = run.start + run.len ≤ place

abbrev SpanEnds : ℕ → Span → Type 0
SpanEnds place s = s.start + s.len ≤ place

standing-behind : (P : Run → Type 0) (before : List Run) (e : Entry) → AllByRecursion P before → AllByRecursion P (archives_in e)
    → AllByRecursion P (runs_behind before e)
standing-behind P before (Group members) all more = all
standing-behind P before (Archived a) all more =
    AllByRecursion-append P (take (length before - a.runs) before) (run_of a ∷ []) (all-front P (length before - a.runs) before all) (more.0, tt)
standing-behind P before (Floor f) all more = all
standing-behind P before (entries.Base b) all more = AllByRecursion-append P before (map run_of b.archives) all more

-- they are some of those that the log has named
pub runs-standing : (P : Run → Type 0) (before : List Run) (chains : List PlacedChain) → AllByRecursion P before
    → AllByRecursion P (flat_map (λ (c : PlacedChain). archives_in c.entry) chains) → AllByRecursion P (runs_from before chains)
runs-standing P before [] all named = all
runs-standing P before (c ∷ cs) all named =
    let f : PlacedChain → List Run = λ (d : PlacedChain). archives_in d.entry in
    let whole : AllByRecursion P (f c ++ flat_map f cs) = subst (AllByRecursion P) (flat_map-cons f c cs) named in
    runs-standing P (runs_behind before c.entry) cs (standing-behind P before c.entry all (all_of_front P (f c) (flat_map f cs) whole))
    (all_of_back P (f c) (flat_map f cs) whole)

-- so each of them ends by a place that is behind all
pub stored-ends : (place : ℕ) (l : HeapLog) → map (λ (s : StoredRun). s.entry) l.runs ≡ runs_from [] l.chains → IsBehind place l
    → AllByRecursion (λ (s : StoredRun). s.entry.start + s.entry.len ≤ place) l.runs
stored-ends place l named behind =
    all-unmapped (RunEnds place) (λ (s : StoredRun). s.entry) l.runs
    (subst (AllByRecursion (RunEnds place)) (sym named) (runs-standing (RunEnds place) [] l.chains tt behind.runs))

-- ---- parts apart

later-alone : (place : ℕ) (s : Span) (ys : List Span) → place ≤ s.start → AllByRecursion (SpanEnds place) ys → AllByRecursion (ShareNoByte s) ys
later-alone place s [] le ends = tt
later-alone place s (y ∷ ys) le ends = (inr (inr (inr (omega (arith, ends.0, le)))), later-alone place s ys le ends.1)

back-apart : (xs ys : List Span) → AreSpansApart (xs ++ ys) → AreSpansApart ys
back-apart [] ys apart = apart
back-apart (x ∷ xs) ys apart = back-apart xs ys apart.1

spans-with : (n place : ℕ) (xs ys : List Span) (s : Span) → place ≤ s.start → AllByRecursion (SpanEnds place) xs → AllByRecursion (SpanEnds place) ys
    → AreSpansApart (xs ++ ys) → AreSpansApart (take n xs ++ s ∷ ys)
spans-with zero place xs ys s le ends also apart = (later-alone place s ys le also, back-apart xs ys apart)
spans-with (suc n) place [] ys s le ends also apart = (later-alone place s ys le also, apart)
spans-with (suc n) place (x ∷ xs) ys s le ends also apart = (
  all-with (ShareNoByte x) n xs ys s apart.0 (inr (inr (inl (omega (arith, ends.0, le))))),
  spans-with n place xs ys s le ends.1 also apart.1,
)

-- a run behind all, in the place of the last ones, has no byte of the others
pub apart-with : (place : ℕ) (l : HeapLog) (a : Archive) (s : StoredRun) → place ≤ s.entry.start
    → map (λ (r : StoredRun). r.entry) l.runs ≡ runs_from [] l.chains → IsBehind place l → AreSpansApart (spans_of l.runs l.rolls)
    → AreSpansApart (spans_of (runs_with l a s) l.rolls)
apart-with place l a s le named behind apart =
    let span : StoredRun → Span = λ (r : StoredRun). run_span r.entry in
    let n : ℕ = length l.runs - a.runs in
    let xs : List Span = map span l.runs in
    let ys : List Span = map roll_span l.rolls in
    let same : spans_of (runs_with l a s) l.rolls ≡ take n xs ++ (span s ∷ ys) =
    ap (λ (ss : List Span). ss ++ ys)
    (map-append span (take n l.runs) (s ∷ []) ∙ ap (λ (ss : List Span). ss ++ span s ∷ []) (sym (take-map span n l.runs)))
    ∙ append_assoc (take n xs) (span s ∷ []) ys in
    subst AreSpansApart (sym same)
    (spans-with n place xs ys (span s) le (all-mapped (SpanEnds place) span l.runs (stored-ends place l named behind))
    (all-mapped (SpanEnds place) roll_span l.rolls behind.rolls) apart)

-- ---- parts in a row

row-more : (place end : ℕ) (runs : List Run) (run : Run) → place ≤ end → end ≤ run.start → AllByRecursion (RunEnds end) runs
    → AreSpansInRow place (map run_span runs) → AreSpansInRow place (map run_span (runs ++ run ∷ []))
row-more place end [] run low le ends row = (omega (arith, low, le), tt)
row-more place end (r ∷ rs) run low le ends row = (row.0, row-more (r.start + r.len) end rs run ends.0 le ends.1 row.1)

archives-more : (chains : List PlacedChain) (c : PlacedChain) (run : Run) → archives_in c.entry ≡ run ∷ []
    → flat_map (λ (d : PlacedChain). archives_in d.entry) (chains ++ c ∷ []) ≡ flat_map (λ (d : PlacedChain). archives_in d.entry) chains ++ run ∷ []
archives-more chains c run is =
    let f : PlacedChain → List Run = λ (d : PlacedChain). archives_in d.entry in
    flat_map-append f chains (c ∷ []) ∙ ap (λ (rs : List Run). flat_map f chains ++ rs) (append-nil (f c) ∙ is)

-- a run behind all begins behind the last one
pub row-with : (place : ℕ) (l : HeapLog) (c : PlacedChain) (run : Run) → archives_in c.entry ≡ run ∷ [] → place ≤ run.start → IsBehind place l
    → AreSpansInRow 0 (map run_span (flat_map (λ (d : PlacedChain). archives_in d.entry) l.chains))
    → AreSpansInRow 0 (map run_span (flat_map (λ (d : PlacedChain). archives_in d.entry) (l.chains ++ c ∷ [])))
row-with place l c run is le behind row =
    let runs : List Run = flat_map (λ (d : PlacedChain). archives_in d.entry) l.chains in
    subst (λ (rs : List Run). AreSpansInRow 0 (map run_span rs)) (sym (archives-more l.chains c run is))
    (row-more 0 place runs run (omega arith) le behind.runs row)

-- ---- a chain more

-- one that names nothing in the archive
pub behind-same : (place : ℕ) (l : HeapLog) (c : PlacedChain) → archives_in c.entry ≡ [] → IsBehind place l → IsBehind place (with_chain l c)
behind-same place l c none behind = record {
  runs = subst (AllByRecursion (RunEnds place)) (sym (none-more (λ (d : PlacedChain). archives_in d.entry) l.chains c none)) behind.runs;
  rolls = behind.rolls;
}

-- one that names a run: its end is behind all
pub behind-more : (place : ℕ) (l : HeapLog) (c : PlacedChain) (run : Run) → archives_in c.entry ≡ run ∷ [] → place ≤ run.start → IsBehind place l
    → IsBehind (run.start + run.len) (with_chain l c)
behind-more place l c run is le behind = record {
  runs = subst (AllByRecursion (RunEnds (run.start + run.len))) (sym (archives-more l.chains c run is))
      (AllByRecursion-append (RunEnds (run.start + run.len)) (flat_map (λ (d : PlacedChain). archives_in d.entry) l.chains) (run ∷ [])
      (weaker (RunEnds place) (RunEnds (run.start + run.len)) (flat_map (λ (d : PlacedChain). archives_in d.entry) l.chains)
      (λ (r : Run) ends. omega (arith, ends, le)) behind.runs) (omega arith, tt));
  rolls = weaker (λ (r : PlacedRoll). r.roll.start + r.roll.len ≤ place) (λ (r : PlacedRoll). r.roll.start + r.roll.len ≤ run.start + run.len) l.rolls
      (λ (r : PlacedRoll) ends. omega (arith, ends, le)) behind.rolls;
}
