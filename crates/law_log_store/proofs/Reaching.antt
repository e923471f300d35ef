-- How far the archive reaches that a log names: where the last run and the last roll end.
use Rattle.std.proofs.Common.{◌≡◌, ℕ, ◌+◌, ◌*◌, ◌-◌, ◌≤◌, max, List, [], ◌∷◌, ◌++◌, length, map, take, refl, arith, ap, sym, ◌∙◌}
use Rattle.std.specs.Prelude.{flat_map}
use Rattle.std.specs.List.{AllByRecursion}
use Rattle.std.proofs.lemmas.List.{map-append}
use Rattle.std.proofs.lemmas.List.Concat.{flat_map-cons}
use Rattle.wire.specs.Numbers.{u64_bytes}
use Rattle.wire.specs.declared.slot.Run.{Run}
use Rattle.law_image.specs.Reading.{Head}
use Rattle.law_layout.specs.Runs.{StoredRun, IsStoredRun, HoldsRun}
use Rattle.law_layout.proofs.Lists.{weaker}
use Rattle.log_entries.specs.declared.entry.Entry.{Entry}
use Rattle.log_entries.specs.declared.entry.Entry.TheVariants.{Group, Archived, Floor}
use Rattle.log_entries.specs.declared.entry.Entry.TheVariants as entries
use Rattle.log_entries.specs.declared.entry.Roll.{Roll}
use Rattle.log_entries.specs.Ranges.{run_of}
use Rattle.law_log_layout.specs.HeapLog.{PlacedChain, PlacedRoll, HeapLog, Span, run_span, roll_span, AreSpansInRow, archives_in, rolls_in, runs_behind}
use Rattle.law_log_layout.specs.HeapLog.{runs_from, name_bytes, HoldsRoll, IsStoredRoll}
use Rattle.log_recovery.specs.Rules.{LogState, roll_part, row_end, state_behind, state_from}
use Rattle.law_log_store.specs.Named.{IsBehind}
use Rattle.law_log_store.proofs.Spans.{RunEnds}

-- ---- rows

end-joined : (place : ℕ) (xs ys : List Span) → row_end place (xs ++ ys) ≡ row_end (row_end place xs) ys
end-joined place [] ys = refl
end-joined place (x ∷ xs) ys = end-joined (x.start + x.len) xs ys

end-behind : (place : ℕ) (xs : List Span) → AreSpansInRow place xs → place ≤ row_end place xs
end-behind place [] row = omega arith
end-behind place (x ∷ xs) row = let rest = end-behind (x.start + x.len) xs row.1 in omega (arith, row.0, rest)

-- each run of a row ends where the row does, or before it
runs-end : (place : ℕ) (runs : List Run) → AreSpansInRow place (map run_span runs) → AllByRecursion (RunEnds (row_end place (map run_span runs))) runs
runs-end place [] row = tt
runs-end place (r ∷ rs) row = (end-behind (r.start + r.len) (map run_span rs) row.1, runs-end (r.start + r.len) rs row.1)

rolls-end : (place : ℕ) (rolls : List PlacedRoll) → AreSpansInRow place (map roll_span rolls)
    → AllByRecursion (λ (r : PlacedRoll). r.roll.start + r.roll.len ≤ row_end place (map roll_span rolls)) rolls
rolls-end place [] row = tt
rolls-end place (r ∷ rs) row = (end-behind (r.roll.start + r.roll.len) (map roll_span rs) row.1, rolls-end (r.roll.start + r.roll.len) rs row.1)

-- a row whose parts end by a place ends by it
row-within : (n place : ℕ) (runs : List Run) → place ≤ n → AllByRecursion (RunEnds n) runs → row_end place (map run_span runs) ≤ n
row-within n place [] low ends = low
row-within n place (r ∷ rs) low ends = row-within n (r.start + r.len) rs ends.0 ends.1

rolls-within : (n place : ℕ) (rolls : List PlacedRoll) → place ≤ n → AllByRecursion (λ (r : PlacedRoll). r.roll.start + r.roll.len ≤ n) rolls
    → row_end place (map roll_span rolls) ≤ n
rolls-within n place [] low ends = low
rolls-within n place (r ∷ rs) low ends = rolls-within n (r.roll.start + r.roll.len) rs ends.0 ends.1

-- ---- the ends that a log says

-- where the last run ends that its chains name
pub named-end : (mark : ℕ) (s : LogState) (chains : List PlacedChain)
    → (state_from mark s chains).runs_end ≡ row_end s.runs_end (map run_span (flat_map (λ (c : PlacedChain). archives_in c.entry) chains))
named-end mark s [] = refl
named-end mark s (c ∷ cs) =
    let f : PlacedChain → List Run = λ (d : PlacedChain). archives_in d.entry in
    named-end mark (state_behind mark s c.entry) cs
    ∙ sym (end-joined s.runs_end (map run_span (f c)) (map run_span (flat_map f cs)))
    ∙ ap (row_end s.runs_end) (sym (map-append run_span (f c) (flat_map f cs)))
    ∙ ap (λ (rs : List Run). row_end s.runs_end (map run_span rs)) (sym (flat_map-cons f c cs))

pub rolls-named-end : (mark : ℕ) (s : LogState) (chains : List PlacedChain)
    → (state_from mark s chains).rolls_end ≡ row_end s.rolls_end (map roll_part (flat_map (λ (c : PlacedChain). rolls_in c.entry) chains))
rolls-named-end mark s [] = refl
rolls-named-end mark s (c ∷ cs) =
    let f : PlacedChain → List Roll = λ (d : PlacedChain). rolls_in d.entry in
    rolls-named-end mark (state_behind mark s c.entry) cs
    ∙ sym (end-joined s.rolls_end (map roll_part (f c)) (map roll_part (flat_map f cs)))
    ∙ ap (row_end s.rolls_end) (sym (map-append roll_part (f c) (flat_map f cs)))
    ∙ ap (λ (rs : List Roll). row_end s.rolls_end (map roll_part rs)) (sym (flat_map-cons f c cs))

end-last : (place : ℕ) (runs : List Run) (run : Run) → row_end place (map run_span (runs ++ run ∷ [])) ≡ run.start + run.len
end-last place [] run = refl
end-last place (r ∷ rs) run = end-last (r.start + r.len) rs run

-- it is the last of those that stand
pub standing-end : (mark : ℕ) (s : LogState) (before : List Run) (chains : List PlacedChain) → row_end 0 (map run_span before) ≡ s.runs_end
    → row_end 0 (map run_span (runs_from before chains)) ≡ (state_from mark s chains).runs_end
standing-end mark s before [] same = same
standing-end mark s before (c ∷ cs) same = standing-end mark (state_behind mark s c.entry) (runs_behind before c.entry) cs (one c.entry)
  where
    one : (e : Entry) → row_end 0 (map run_span (runs_behind before e)) ≡ (state_behind mark s e).runs_end
    one (Group members) = same
    one (Archived a) = end-last 0 (take (length before - a.runs) before) (run_of a)
    one (Floor f) = same
    one (entries.Base b) =
        ap (row_end 0) (map-append run_span before (map run_of b.archives))
        ∙ end-joined 0 (map run_span before) (map run_span (map run_of b.archives))
        ∙ ap (λ (place : ℕ). row_end place (map run_span (map run_of b.archives))) same

-- ---- an archive that holds all

names-long : (xs : List Head) → length (flat_map name_bytes xs) ≡ 16 * length xs
unfolding u64_bytes
names-long [] = refl
names-long (a ∷ xs) = let rest = names-long xs in omega (arith, rest)

runs-held-within : (archive : List ℕ) (runs : List StoredRun) → AllByRecursion IsStoredRun runs → AllByRecursion (HoldsRun archive) runs
    → AllByRecursion (RunEnds (length archive)) (map (λ (s : StoredRun). s.entry) runs)
runs-held-within archive [] stored held = tt
runs-held-within archive (s ∷ runs) stored held =
    (let inside = (held.0).inside in let long = (stored.0).length_is in omega (arith, inside, long), runs-held-within archive runs stored.1 held.1)

pub rolls-held-within : (archive : List ℕ) (rolls : List PlacedRoll) → AllByRecursion IsStoredRoll rolls → AllByRecursion (HoldsRoll archive) rolls
    → AllByRecursion (λ (r : PlacedRoll). r.roll.start + r.roll.len ≤ length archive) rolls
rolls-held-within archive [] stored held = tt
rolls-held-within archive (r ∷ rolls) stored held = (
  let inside = (held.0).inside in let many = (stored.0).length_is in let long = names-long r.names in omega (arith, inside, many, long),
  rolls-held-within archive rolls stored.1 held.1,
)

roll-spans : (rolls : List PlacedRoll) → map roll_span rolls ≡ map roll_part (map (λ (r : PlacedRoll). r.roll) rolls)
roll-spans [] = refl
roll-spans (r ∷ rolls) = ap (λ (ss : List Span). roll_span r ∷ ss) (roll-spans rolls)

module _ (mark : ℕ) (s : LogState) (l : HeapLog) (at-start : (s.runs_end ≡ 0) × (s.rolls_end ≡ 0))
    (runs_named : map (λ (r : StoredRun). r.entry) l.runs ≡ runs_from [] l.chains)
    (rolls_named : map (λ (r : PlacedRoll). r.roll) l.rolls ≡ flat_map (λ (c : PlacedChain). rolls_in c.entry) l.chains)
    (runs_row : AreSpansInRow 0 (map run_span (flat_map (λ (c : PlacedChain). archives_in c.entry) l.chains)))
    (rolls_row : AreSpansInRow 0 (map roll_span l.rolls)) where
  abbrev pub end-said : ℕ
  end-said = max (state_from mark s l.chains).runs_end (state_from mark s l.chains).rolls_end

  runs-said : (state_from mark s l.chains).runs_end ≡ row_end 0 (map run_span (flat_map (λ (c : PlacedChain). archives_in c.entry) l.chains))
  runs-said =
      named-end mark s l.chains
      ∙ ap (λ (place : ℕ). row_end place (map run_span (flat_map (λ (c : PlacedChain). archives_in c.entry) l.chains))) at-start.0

  rolls-said : (state_from mark s l.chains).rolls_end ≡ row_end 0 (map roll_span l.rolls)
  rolls-said =
      rolls-named-end mark s l.chains
      ∙ ap (λ (place : ℕ). row_end place (map roll_part (flat_map (λ (c : PlacedChain). rolls_in c.entry) l.chains))) at-start.1
      ∙ ap (λ (rs : List Roll). row_end 0 (map roll_part rs)) (sym rolls_named)
      ∙ ap (row_end 0) (sym (roll-spans l.rolls))

  -- what it says is behind all that it names
  pub said-behind : IsBehind end-said l
  said-behind = record {
    runs = weaker (RunEnds (row_end 0 (map run_span (flat_map (λ (c : PlacedChain). archives_in c.entry) l.chains)))) (RunEnds end-said)
        (flat_map (λ (c : PlacedChain). archives_in c.entry) l.chains) (λ (r : Run) ends. omega (arith, ends, runs-said))
        (runs-end 0 (flat_map (λ (c : PlacedChain). archives_in c.entry) l.chains) runs_row);
    rolls = weaker (λ (r : PlacedRoll). r.roll.start + r.roll.len ≤ row_end 0 (map roll_span l.rolls))
        (λ (r : PlacedRoll). r.roll.start + r.roll.len ≤ end-said) l.rolls (λ (r : PlacedRoll) ends. omega (arith, ends, rolls-said))
        (rolls-end 0 l.rolls rolls_row);
  }

  -- and the archive that holds all of it reaches as far
  pub said-within : (archive : List ℕ) → AllByRecursion IsStoredRun l.runs → AllByRecursion IsStoredRoll l.rolls → AllByRecursion (HoldsRun archive) l.runs
      → AllByRecursion (HoldsRoll archive) l.rolls → end-said ≤ length archive
  said-within archive each_run each_roll runs rolls =
      let standing : row_end 0 (map run_span (runs_from [] l.chains)) ≡ (state_from mark s l.chains).runs_end =
      standing-end mark s [] l.chains (sym at-start.0) in
      let first = row-within (length archive) 0 (map (λ (r : StoredRun). r.entry) l.runs) (omega arith) (runs-held-within archive l.runs each_run runs) in
      let same : row_end 0 (map run_span (map (λ (r : StoredRun). r.entry) l.runs)) ≡ row_end 0 (map run_span (runs_from [] l.chains)) =
      ap (λ (rs : List Run). row_end 0 (map run_span rs)) runs_named in
      let second = rolls-within (length archive) 0 l.rolls (omega arith) (rolls-held-within archive l.rolls each_roll rolls) in
      omega (arith, standing, first, same, second, rolls-said)
