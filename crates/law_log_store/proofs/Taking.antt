-- The base that a reclaim computes may take the place of the front: where it lies, and what it names in the archive.
use Rattle.std.proofs.Common.{◌≡◌, ℕ, zero, suc, ◌+◌, ◌-◌, ◌<◌, ◌≤◌, Bool, true, false, cond, List, [], ◌∷◌, ◌++◌, length, map, take}
use Rattle.std.proofs.Common.{drop, Option, None, Some}
use Rattle.std.proofs.Common.{◌⊎◌, inl, inr, refl, arith, ap, sym, subst, ◌∙◌, append-nil, append_assoc, take-append-drop}
use Rattle.std.specs.Prelude.{filter, flat_map, option_to_list, Contains}
use Rattle.std.proofs.lemmas.List.Elements.{Contains-append_left, Contains-append_right, Contains-append_cases, Contains-push, Contains-push_cases}
use Rattle.std.specs.List.{AllByRecursion}
use Rattle.std.proofs.lemmas.List.{map-append, take-map}
use Rattle.std.proofs.lemmas.List.Concat.{flat_map-cons}
use Rattle.std.proofs.lemmas.Grind.{flat_map-append}
use Rattle.history.specs.Histories.{History, MayAllFollow}
use Rattle.history.proofs.Filters.{AllByRecursion-append}
use Rattle.wire.specs.Numbers.{u64_bytes}
use Rattle.wire.specs.declared.slot.Run.{Run}
use Rattle.law_image.specs.Values.{Value, IsValue}
use Rattle.law_image.specs.Reading.{Head, Reading}
use Rattle.law_image.specs.Log.{archive_mark, heads_of}
use Rattle.law_image.specs.StandsFor.{StandsFor, archived_upto, head_of}
use Rattle.law_image.proofs.HeapRuns.{last_mark, last_mark-is}
use Rattle.law_layout.specs.Runs.{StoredRun}
use Rattle.law_layout.proofs.Lists.{weaker, all_of_front, all_of_back}
use Rattle.law_log.specs.Chains.{reclaimed_by, told, TakesPlace}
use Rattle.group.specs.declared.commit_order.CommitHead.{CommitHead}
use Rattle.log_entries.specs.declared.entry.AnchorName.{AnchorName}
use Rattle.log_entries.specs.declared.entry.Base.{Base}
use Rattle.log_entries.specs.declared.entry.Entry.{Entry}
use Rattle.log_entries.specs.declared.entry.Entry.TheVariants.{Group, Archived, Floor}
use Rattle.log_entries.specs.declared.entry.Entry.TheVariants as entries
use Rattle.log_entries.specs.Ranges.{IsEntry, run_of}
use Rattle.log_extents.specs.Chains.{count_of, first_or, AreDistinct, IsNumberOf}
use Rattle.log_entries.specs.Spelling.{entry_bytes}
use Rattle.log_base.specs.Bases.{base_on, front_len, runs_from}
use Rattle.log_base.specs.Laws.{is_named_between, told_upto}
use Rattle.log_base.specs.Names.{AreNamesBetween, name_of, named_between}
use Rattle.log_base.proofs.NamesTold.{names-go_on}
use Rattle.log_base.proofs.RunsLeft.{rolls-left, runs-left}
use Rattle.log_base.proofs.TakesFront.{takes-live}
use Rattle.log_recovery.specs.Live.{LiveChainValue, live_of}
use Rattle.log_recovery.specs.Read.{all_archives, archives_named}
use Rattle.log_store.specs.Named.{NamedValue}
use Rattle.law_log_layout.specs.HeapLog.{AreChained, AreNamed, AreNamesOf, AreSpansApart, AreSpansInRow, ArePlaced, HeapLog, IsLogOf, IsName, IsPlaced}
use Rattle.law_log_layout.specs.HeapLog.{IsStoredRoll, PlacedAnchors, PlacedChain, PlacedRoll, ShareNoByte, Span, archives_in, chains_told, name_bytes}
use Rattle.law_log_layout.specs.HeapLog.{roll_span, rolls_in, run_span, runs_behind, spans_of}
use Rattle.law_log_layout.specs.HeapLog as layout
use Rattle.law_log_layout.specs.Reclaims.{MayTakePlace, NewBase, based_reading, placed_base, with_new_base}
use Rattle.law_log_layout.proofs.BasedShares.{in-place, tells-by}
use Rattle.law_log_layout.proofs.Joining.{all-new}
use Rattle.log_store.specs.Reclaims.{roll_of}
use Rattle.law_log_store.specs.Named.{IsBehind, IsNamedBy}
use Rattle.law_log_store.specs.Reclaiming.{IsRollBehind}
use Rattle.law_log_store.proofs.Archiving.{names-long}
use Rattle.law_log_store.proofs.Fronted.{chained-behind, first-of}
use Rattle.law_log_store.proofs.Spans.{RunEnds, all-mapped, runs-standing, stored-ends}

-- ---- parts in a row

abbrev SpanEnds : ℕ → Span → Type 0
SpanEnds place s = s.start + s.len ≤ place

-- what is in a row from a place on is so from an earlier one
row-earlier : (low high : ℕ) (ss : List Span) → low ≤ high → AreSpansInRow high ss → AreSpansInRow low ss
row-earlier low high [] le row = tt
row-earlier low high (s ∷ ss) le row = (omega (arith, le, row.0), row.1)

row-without : (place : ℕ) (xs ys : List Span) → AreSpansInRow place (xs ++ ys) → AreSpansInRow place ys
row-without place [] ys row = row
row-without place (x ∷ xs) ys row = row-earlier place (x.start + x.len) ys (omega (arith, row.0)) (row-without (x.start + x.len) xs ys row.1)

-- also without some in the middle
row-taken : (place n : ℕ) (xs ys : List Span) → AreSpansInRow place (xs ++ ys) → AreSpansInRow place (take n xs ++ ys)
row-taken place zero xs ys row = row-without place xs ys row
row-taken place (suc n) [] ys row = row
row-taken place (suc n) (x ∷ xs) ys row = (row.0, row-taken (x.start + x.len) n xs ys row.1)

-- one more behind all
row-end : (place end : ℕ) (ss : List Span) (s : Span) → place ≤ end → end ≤ s.start → AllByRecursion (SpanEnds end) ss → AreSpansInRow place ss
    → AreSpansInRow place (ss ++ s ∷ [])
row-end place end [] s low le ends row = (omega (arith, low, le), tt)
row-end place end (x ∷ xs) s low le ends row = (row.0, row-end (x.start + x.len) end xs s ends.0 le ends.1 row.1)

apart-end : (place : ℕ) (ss : List Span) (s : Span) → place ≤ s.start → AllByRecursion (SpanEnds place) ss → AreSpansApart ss → AreSpansApart (ss ++ s ∷ [])
apart-end place [] s le ends apart = (tt, tt)
apart-end place (x ∷ xs) s le ends apart = (
  AllByRecursion-append (ShareNoByte x) xs (s ∷ []) apart.0 (inr (inr (inl (omega (arith, ends.0, le)))), tt),
  apart-end place xs s le ends.1 apart.1,
)

-- ---- the runs that the front leaves

abbrev spans : List Run → List Span
spans runs = map run_span runs

spans-append : (xs ys : List Run) → spans (xs ++ ys) ≡ spans xs ++ spans ys
spans-append xs ys = map-append run_span xs ys

-- one chain more leaves some of those before it, and those that it names
row-behind : (place : ℕ) (before : List Run) (e : Entry) (rest : List Span) → AreSpansInRow place (spans before ++ (spans (archives_in e) ++ rest))
    → AreSpansInRow place (spans (runs_behind before e) ++ rest)
row-behind place before (Group members) rest row = row
row-behind place before (Archived a) rest row =
    let n : ℕ = length before - a.runs in
    let same : spans (take n before ++ run_of a ∷ []) ++ rest ≡ take n (spans before) ++ (run_span (run_of a) ∷ rest) =
    ap (λ (ss : List Span). ss ++ rest)
    (spans-append (take n before) (run_of a ∷ []) ∙ ap (λ (ss : List Span). ss ++ run_span (run_of a) ∷ []) (sym (take-map run_span n before)))
    ∙ append_assoc (take n (spans before)) (run_span (run_of a) ∷ []) rest in
    subst (AreSpansInRow place) (sym same) (row-taken place n (spans before) (run_span (run_of a) ∷ rest) row)
row-behind place before (Floor f) rest row = row
row-behind place before (entries.Base b) rest row =
    subst (AreSpansInRow place)
    (sym (ap (λ (ss : List Span). ss ++ rest) (spans-append before (map run_of b.archives)) ∙ append_assoc (spans before) (spans (map run_of b.archives)) rest))
    row

abbrev named-runs : List PlacedChain → List Run
named-runs chains = flat_map (λ (c : PlacedChain). archives_in c.entry) chains

row-left : (place : ℕ) (before : List Run) (chains : List PlacedChain) (rest : List Span)
    → AreSpansInRow place (spans before ++ (spans (named-runs chains) ++ rest)) → AreSpansInRow place (spans (layout.runs_from before chains) ++ rest)
row-left place before [] rest row = row
row-left place before (c ∷ cs) rest row =
    let f : PlacedChain → List Run = λ (d : PlacedChain). archives_in d.entry in
    let same : spans (named-runs (c ∷ cs)) ++ rest ≡ spans (archives_in c.entry) ++ (spans (named-runs cs) ++ rest) =
    ap (λ (rs : List Run). spans rs ++ rest) (flat_map-cons f c cs)
    ∙ ap (λ (ss : List Span). ss ++ rest) (spans-append (archives_in c.entry) (named-runs cs))
    ∙ append_assoc (spans (archives_in c.entry)) (spans (named-runs cs)) rest in
    row-left place (runs_behind before c.entry) cs rest
    (row-behind place before c.entry (spans (named-runs cs) ++ rest)
    (subst (λ (ss : List Span). AreSpansInRow place (spans before ++ ss)) same row))

-- ---- the roll

-- the roll with these names at this place, if there are some
abbrev pub roll_placed : ℕ → List Head → Option PlacedRoll
roll_placed place [] = None
roll_placed place (x ∷ xs) =
    Some (record { roll = record { start = place; len = length (flat_map name_bytes (x ∷ xs)) }; names = x ∷ xs })

pub roll-same : (place : ℕ) (new : List Head) → option_to_list (roll_of place (flat_map name_bytes new))
    ≡ map (λ (r : PlacedRoll). r.roll) (option_to_list (roll_placed place new))
unfolding u64_bytes
roll-same place [] = refl
roll-same place (x ∷ xs) = refl

pub roll-names : (place : ℕ) (new : List Head) → flat_map (λ (r : PlacedRoll). r.names) (option_to_list (roll_placed place new)) ≡ new
roll-names place [] = refl
roll-names place (x ∷ xs) = append-nil (x ∷ xs)

-- ---- the base in the place of the front

module _ (most root : ℕ) (l : HeapLog) (reading : Reading) (h : History Value) (floors : ℕ → ℕ) (is : IsLogOf most root l reading)
    (stands : StandsFor reading h floors) (upto : ℕ) (upto-is : upto ≡ archived_upto reading) (some : 0 < upto) (place : ℕ) (ends : IsBehind place l)
    (new : List Head) (each-name : AllByRecursion IsName new) (heads : List CommitHead)
    (in-memory : map name_of (named_between (reclaimed_by (chains_told is.names l.chains)) upto heads)
    ≡ filter (is_named_between (reclaimed_by (chains_told is.names l.chains)) upto) (heads_of (told (chains_told is.names l.chains))))
    (added : AreNamesBetween (reclaimed_by (chains_told is.names l.chains)) upto heads new) (anchor-name : AnchorName) (numbers : List ℕ)
    (anchors : PlacedAnchors) where
  abbrev lives : List LiveChainValue
  lives = map live_of l.chains

  abbrev count : ℕ
  count = front_len upto lives

  abbrev front : List PlacedChain
  front = take count l.chains

  abbrev back : List PlacedChain
  back = drop count l.chains

  abbrev base : Base
  base = base_on (take count lives) upto anchor-name (roll_of place (flat_map name_bytes new))

  abbrev more : Option PlacedRoll
  more = roll_placed place new

  abbrev made : NewBase
  made = record {
    numbers = numbers;
    link = first-of l.next back;
    base = base;
    anchors = anchors;
    rolls = l.rolls ++ option_to_list more;
    names = told_upto upto is.names l.chains;
  }

  pub split : l.chains ≡ front ++ back
  split = sym (take-append-drop count l.chains)

  log-is : reading.log ≡ told (chains_told is.names l.chains)
  log-is = ap (λ (r : Reading). r.log) is.reading_is

  mark-is : upto ≡ archive_mark (told (chains_told is.names l.chains))
  mark-is = upto-is ∙ ap archive_mark log-is

  reclaimed-by : reclaimed_by (chains_told is.names l.chains) ≤ upto
  reclaimed-by = let rules = is.rules in let low = rules.archived in omega (arith, low, mark-is)

  front-runs : map run_of base.archives ≡ layout.runs_from [] front
  front-runs = ap (λ (cs : List LiveChainValue). map run_of (runs_from [] cs)) (take-map live_of count l.chains) ∙ runs-left [] front

  base-rolls : map (λ (r : PlacedRoll). r.roll) (l.rolls ++ option_to_list more) ≡ base.rolls
  base-rolls =
      map-append (λ (r : PlacedRoll). r.roll) l.rolls (option_to_list more)
      ∙ (λ i. (is.rolls_named ∙ sym (rolls-left upto is.names l.chains (is.rules).each)) i ++ sym (roll-same place new) i)

  -- the new roll is stored behind all
  new-rolls : AllByRecursion IsStoredRoll (option_to_list more)
  new-rolls = by-names new each-name (added.in_order)
    where
      by-names : (xs : List Head) → AllByRecursion IsName xs → layout.AreNamedInOrder xs → AllByRecursion IsStoredRoll (option_to_list (roll_placed place xs))
      by-names [] each order = tt
      by-names (x ∷ xs) each order = (record { length_is = sym (names-long (x ∷ xs)); in_order = order; each = each }, tt)

  pub roll-behind : IsRollBehind more l
  roll-behind = by-names new
    where
      by-names : (xs : List Head) → IsRollBehind (roll_placed place xs) l
      by-names [] = tt
      by-names (x ∷ xs) = ends

  -- parts in the archive
  spans-end : AllByRecursion (SpanEnds place) (spans_of l.runs l.rolls)
  spans-end =
      AllByRecursion-append (SpanEnds place) (map (λ (s : StoredRun). run_span s.entry) l.runs) (map roll_span l.rolls)
      (all-mapped (SpanEnds place) (λ (s : StoredRun). run_span s.entry) l.runs (stored-ends place l is.runs_named ends))
      (all-mapped (SpanEnds place) roll_span l.rolls ends.rolls)

  apart-then : AreSpansApart (spans_of l.runs (l.rolls ++ option_to_list more))
  apart-then = by-names new
    where
      by-names : (xs : List Head) → AreSpansApart (spans_of l.runs (l.rolls ++ option_to_list (roll_placed place xs)))
      by-names [] = subst (λ (rs : List PlacedRoll). AreSpansApart (spans_of l.runs rs)) (sym (append-nil l.rolls)) is.archive_apart
      by-names (x ∷ xs) =
          let p : PlacedRoll = record { roll = record { start = place; len = length (flat_map name_bytes (x ∷ xs)) }; names = x ∷ xs } in
          let runs = map (λ (s : StoredRun). run_span s.entry) l.runs in
          let same : spans_of l.runs (l.rolls ++ p ∷ []) ≡ spans_of l.runs l.rolls ++ roll_span p ∷ [] =
          ap (λ (ss : List Span). runs ++ ss) (map-append roll_span l.rolls (p ∷ [])) ∙ sym (append_assoc runs (map roll_span l.rolls) (roll_span p ∷ [])) in
          subst AreSpansApart (sym same) (apart-end place (spans_of l.runs l.rolls) (roll_span p) (omega arith) spans-end is.archive_apart)

  rolls-row : AreSpansInRow 0 (map roll_span (l.rolls ++ option_to_list more))
  rolls-row = by-names new
    where
      by-names : (xs : List Head) → AreSpansInRow 0 (map roll_span (l.rolls ++ option_to_list (roll_placed place xs)))
      by-names [] = subst (λ (rs : List PlacedRoll). AreSpansInRow 0 (map roll_span rs)) (sym (append-nil l.rolls)) is.rolls_in_row
      by-names (x ∷ xs) =
          let p : PlacedRoll = record { roll = record { start = place; len = length (flat_map name_bytes (x ∷ xs)) }; names = x ∷ xs } in
          subst (AreSpansInRow 0) (sym (map-append roll_span l.rolls (p ∷ [])))
          (row-end 0 place (map roll_span l.rolls) (roll_span p) (omega arith) (omega arith) (all-mapped (SpanEnds place) roll_span l.rolls ends.rolls)
          is.rolls_in_row)

  runs-row : AreSpansInRow 0 (map run_span (named-runs (placed_base numbers (first-of l.next back) base ∷ back)))
  runs-row =
      let f : PlacedChain → List Run = λ (d : PlacedChain). archives_in d.entry in
      let old : spans (named-runs l.chains) ≡ spans (named-runs front) ++ spans (named-runs back) =
      ap (λ (cs : List PlacedChain). spans (named-runs cs)) split ∙ ap spans (flat_map-append f front back) ∙ spans-append (named-runs front)
      (named-runs back) in
      let then : spans (named-runs (placed_base numbers (first-of l.next back) base ∷ back)) ≡ spans (layout.runs_from [] front) ++ spans (named-runs back) =
      ap spans (flat_map-cons f (placed_base numbers (first-of l.next back) base) back)
      ∙ spans-append (map run_of base.archives) (named-runs back)
      ∙ ap (λ (rs : List Run). spans rs ++ spans (named-runs back)) front-runs in
      subst (AreSpansInRow 0) (sym then) (row-left 0 [] front (spans (named-runs back)) (subst (AreSpansInRow 0) old is.archives_in_row))

  are-names : AreNamesOf (l.rolls ++ option_to_list more) (told_upto upto is.names l.chains)
  are-names =
      names-go_on is.names new l.chains l.rolls (option_to_list more) upto heads is.rules is.rolls_named is.are_names reclaimed-by in-memory added
      (roll-names place new)

  takes : TakesPlace (chains_told is.names front) (chains_told is.names back) (layout.base_told (told_upto upto is.names l.chains) base)
  takes =
      takes-live is.names (told_upto upto is.names l.chains) l.chains upto anchor-name (roll_of place (flat_map name_bytes new)) is.rules mark-is some refl

  link-number : IsNumberOf most (first-of l.next back)
  link-number = by-chains back (all_of_back (IsPlaced most) front back (subst (AllByRecursion (IsPlaced most)) split is.placed))
    where
      by-chains : (cs : List PlacedChain) → AllByRecursion (IsPlaced most) cs → IsNumberOf most (first-of l.next cs)
      by-chains [] placed = is.next
      by-chains (c ∷ cs) placed = all-new (IsNumberOf most) c.numbers (first_or 0 c.numbers) (placed.0).in_range refl (placed.0).some

  -- Where its extents and those of its anchors are apart from all that stays, and its numbers are in their ranges.
  pub may-take : IsEntry most (entries.Base base) → 0 < length numbers → length numbers ≡ count_of (length (entry_bytes (entries.Base base)))
      → AllByRecursion (IsNumberOf most) numbers → ArePlaced most anchors → AreNamed (anchor-name ∷ []) anchors
      → AreDistinct (l.next ∷ anchors.numbers ++ (numbers ++ flat_map (λ (c : PlacedChain). c.numbers) back)) → MayTakePlace most l is.names front back made
  may-take entry some many range placed named apart = record {
    split = split;
    placed = record { entry = entry; some = some; count = many; in_range = range; link = link-number };
    chained = chained-behind root l.next count l.chains is.chained;
    apart = apart;
    anchors = placed;
    anchors_named = named;
    rolls_named = base-rolls;
    runs_named = front-runs;
    each_roll = AllByRecursion-append IsStoredRoll l.rolls (option_to_list more) is.each_roll new-rolls;
    archive_apart = apart-then;
    archives_in_row = runs-row;
    rolls_in_row = rolls-row;
    are_names = are-names;
    place = takes;
  }

  -- ---- what memory has of it

  abbrev end : ℕ
  end = place + length (flat_map name_bytes new)

  -- the same is archived
  mark-then : MayTakePlace most l is.names front back made → archived_upto (based_reading reading is.names made back) ≡ archived_upto reading
  mark-then may =
      let placed = in-place most l reading is.names front back made (tells-by most root l reading h floors is.names is stands is.are_names) may in
      let after = (based_reading reading is.names made back).log in
      last_mark-is 0 after ∙ ap (last_mark 0) placed.based.marks ∙ sym (last_mark-is 0 reading.log)

  -- and all that the log then names ends by there
  ends-then : IsBehind end (with_new_base l made back)
  ends-then = record {
    runs =
        let f : PlacedChain → List Run = λ (d : PlacedChain). archives_in d.entry in
        let named : AllByRecursion (RunEnds place) (named-runs front ++ named-runs back) =
        subst (AllByRecursion (RunEnds place)) (ap named-runs split ∙ flat_map-append f front back) ends.runs in
        let standing : AllByRecursion (RunEnds place) (map run_of base.archives) =
        subst (AllByRecursion (RunEnds place)) (sym front-runs)
        (runs-standing (RunEnds place) [] front tt (all_of_front (RunEnds place) (named-runs front) (named-runs back) named)) in
        let all : AllByRecursion (RunEnds place) (named-runs (placed_base numbers (first-of l.next back) base ∷ back)) =
        subst (AllByRecursion (RunEnds place)) (sym (flat_map-cons f (placed_base numbers (first-of l.next back) base) back))
        (AllByRecursion-append (RunEnds place) (map run_of base.archives) (named-runs back) standing
        (all_of_back (RunEnds place) (named-runs front) (named-runs back) named)) in
        weaker (RunEnds place) (RunEnds end) (named-runs (placed_base numbers (first-of l.next back) base ∷ back))
        (λ (run : Run) ends. omega (arith, ends)) all;
    rolls = AllByRecursion-append (λ (r : PlacedRoll). r.roll.start + r.roll.len ≤ end) l.rolls (option_to_list more)
        (weaker (λ (r : PlacedRoll). r.roll.start + r.roll.len ≤ place) (λ (r : PlacedRoll). r.roll.start + r.roll.len ≤ end) l.rolls
        (λ (r : PlacedRoll) ends. omega (arith, ends)) ends.rolls)
        (by-names new);
  }
    where
      by-names : (xs : List Head) → AllByRecursion (λ (r : PlacedRoll). r.roll.start + r.roll.len ≤ place + length (flat_map name_bytes xs))
          (option_to_list (roll_placed place xs))
      by-names [] = tt
      by-names (x ∷ xs) = (omega arith, tt)

  pub named-then : (named : NamedValue) → named.archives ≡ base.archives ++ all_archives back → named.rolls ≡ base.rolls → named.upto ≡ upto
      → named.end ≡ end → MayTakePlace most l is.names front back made
      → IsNamedBy named (with_new_base l made back) (based_reading reading is.names made back)
  named-then named archives rolls mark ends-at may = record {
    archives = archives
        ∙ sym (flat_map-cons (λ (c : PlacedChain). archives_named c.entry) (placed_base numbers (first-of l.next back) base) back);
    rolls = rolls ∙ sym base-rolls;
    upto = mark ∙ upto-is ∙ sym (mark-then may);
    end = subst (λ (n : ℕ). IsBehind n (with_new_base l made back)) (sym ends-at) ends-then;
  }

-- ---- names of commits

all-of : (P : Head → Type 0) (xs : List Head) → ((x : Head) → Contains xs x → P x) → AllByRecursion P xs
all-of P [] each = tt
all-of P (x ∷ xs) each =
    (each x (Contains-append_left (x ∷ []) xs x (Contains-push [] x)), all-of P xs (λ y has. each y (Contains-append_right (x ∷ []) xs y has)))

of-all : (P : Head → Type 0) (xs : List Head) → AllByRecursion P xs → (x : Head) → Contains xs x → P x
of-all P [] all x has = absurd (let within = has.1 in omega (arith, within))
of-all P (y ∷ ys) all x has = by-place (Contains-append_cases (y ∷ []) ys x has) (λ there. of-all P ys all.1 x there)
  where
    first : Contains [] x ⊎ (y ≡ x) → P x
    first (inl has) = absurd (let within = has.1 in omega (arith, within))
    first (inr same) = subst P same all.0

    by-place : Contains (y ∷ []) x ⊎ Contains ys x → (Contains ys x → P x) → P x
    by-place (inl has) rest = first (Contains-push_cases [] y x has)
    by-place (inr has) rest = rest has

filtered : (P : Head → Type 0) (test : Head → Bool) (xs : List Head) → AllByRecursion P xs → AllByRecursion P (filter test xs)
filtered P test [] all = tt
filtered P test (x ∷ xs) all = by-test (test x) (filtered P test xs all.1)
  where
    by-test : (b : Bool) → AllByRecursion P (filter test xs) → AllByRecursion P (cond b (x ∷ filter test xs) (filter test xs))
    by-test true rest = (all.0, rest)
    by-test false rest = rest

-- those of a history are in their ranges
history-names : (before h : History Value) → MayAllFollow IsValue before h → AllByRecursion IsName (map head_of h)
history-names before [] may = tt
history-names before (c ∷ cs) may =
    let one = may.0 in ((one.label, omega (arith, one.later), one.in_range), history-names (before ++ c ∷ []) cs may.1)

-- and so are those that a roll has
pub roll-names-in_range : (h : History Value) (mark upto : ℕ) (heads : List CommitHead) (new : List Head) → MayAllFollow IsValue [] h
    → map name_of (named_between mark upto heads) ≡ filter (is_named_between mark upto) (map head_of h) → AreNamesBetween mark upto heads new
    → AllByRecursion IsName new
roll-names-in_range h mark upto heads new may in-memory are =
    let all : AllByRecursion IsName (map name_of (named_between mark upto heads)) =
    subst (AllByRecursion IsName) (sym in-memory) (filtered IsName (is_named_between mark upto) (map head_of h) (history-names [] h may)) in
    all-of IsName new (λ x has. of-all IsName (map name_of (named_between mark upto heads)) all x ((are.same x).0 has))
