-- The parts of the archive that a log with the base names.
use Rattle.std.proofs.Common.{◌≡◌, ℕ, ◌+◌, ◌-◌, ◌≤◌, List, [], ◌∷◌, ◌++◌, length, map, take, drop, refl, ap, sym, subst, ◌∙◌, arith, inl, inr, append_assoc}
use Rattle.std.specs.Prelude.{flat_map}
use Rattle.std.specs.List.{AllByRecursion}
use Rattle.std.proofs.lemmas.List.{map-append, take-append-drop}
use Rattle.std.proofs.lemmas.Grind.{flat_map-append}
use Rattle.history.proofs.Filters.{AllByRecursion-append}
use Rattle.wire.specs.declared.slot.Run.{Run}
use Rattle.law_layout.specs.Runs.{StoredRun}
use Rattle.log_entries.specs.declared.entry.Entry.{Entry}
use Rattle.log_entries.specs.declared.entry.Entry.TheVariants.{Group, Archived, Floor}
use Rattle.log_entries.specs.declared.entry.Entry.TheVariants as entries
use Rattle.log_entries.specs.Ranges.{run_of}
use Rattle.law_log_layout.specs.HeapLog.{PlacedChain, PlacedRoll, Span, run_span, roll_span, spans_of, archives_in, runs_behind, runs_from, ShareNoByte}
use Rattle.law_log_layout.specs.HeapLog.{AreSpansApart, AreSpansInRow}
use Rattle.log_recovery.specs.Live.{live_of}
use Rattle.log_recovery.specs.Rules.{row_end}
use Rattle.log_base.specs.Bases.{runs_from as runs_at}
use Rattle.log_base.specs.Laws.{ComesBehind}
use Rattle.log_base.proofs.RunsLeft.{runs-live}

-- ---- parts in a row

row-lower : (low place : ℕ) (spans : List Span) → low ≤ place → AreSpansInRow place spans → AreSpansInRow low spans
row-lower low place [] le row = tt
row-lower low place (s ∷ spans) le row = (omega (arith, le, row.0), row.1)

end-rises : (place : ℕ) (spans : List Span) → AreSpansInRow place spans → place ≤ row_end place spans
end-rises place [] row = omega arith
end-rises place (s ∷ spans) row = omega (arith, row.0, end-rises (s.start + s.len) spans row.1)

end-lower : (low place : ℕ) (spans : List Span) → low ≤ place → row_end low spans ≤ row_end place spans
end-lower low place [] le = le
end-lower low place (s ∷ spans) le = omega arith

end-append : (place : ℕ) (xs ys : List Span) → row_end place (xs ++ ys) ≡ row_end (row_end place xs) ys
end-append place [] ys = refl
end-append place (x ∷ xs) ys = end-append (x.start + x.len) xs ys

row-front : (place : ℕ) (xs ys : List Span) → AreSpansInRow place (xs ++ ys) → AreSpansInRow place xs
row-front place [] ys row = tt
row-front place (x ∷ xs) ys row = (row.0, row-front (x.start + x.len) xs ys row.1)

row-back : (place : ℕ) (xs ys : List Span) → AreSpansInRow place (xs ++ ys) → AreSpansInRow (row_end place xs) ys
row-back place [] ys row = row
row-back place (x ∷ xs) ys row = row-back (x.start + x.len) xs ys row.1

row-join : (place : ℕ) (xs ys : List Span) → AreSpansInRow place xs → AreSpansInRow (row_end place xs) ys → AreSpansInRow place (xs ++ ys)
row-join place [] ys first second = second
row-join place (x ∷ xs) ys first second = (first.0, row-join (x.start + x.len) xs ys first.1 second)

-- ---- the runs that stand

abbrev spans : List Run → List Span
spans runs = map run_span runs

spans-append : (xs ys : List Run) → spans (xs ++ ys) ≡ spans xs ++ spans ys
spans-append xs ys = map-append run_span xs ys

-- some of these runs stand in a row, and end at this place or before it
record EndBy (place : ℕ) (runs : List Run) : Type 0 where
  pub row : AreSpansInRow 0 (spans runs)
  pub ends : row_end 0 (spans runs) ≤ place

taken-end : (place kept : ℕ) (runs : List Run) → EndBy place runs → EndBy place (take kept runs)
taken-end place kept runs by =
    let both : spans (take kept runs) ++ spans (drop kept runs) ≡ spans runs =
    sym (spans-append (take kept runs) (drop kept runs)) ∙ ap spans (take-append-drop kept runs) in
    let whole = subst (AreSpansInRow 0) (sym both) by.row in
    let rest = end-rises (row_end 0 (spans (take kept runs))) (spans (drop kept runs)) (row-back 0 (spans (take kept runs)) (spans (drop kept runs)) whole) in
    let all = end-append 0 (spans (take kept runs)) (spans (drop kept runs)) in
    let same = ap (row_end 0) both in
    record { row = row-front 0 (spans (take kept runs)) (spans (drop kept runs)) whole; ends = omega (arith, rest, all, same, by.ends) }

more-end : (place : ℕ) (runs more : List Run) → EndBy place runs → AreSpansInRow place (spans more) → EndBy (row_end place (spans more)) (runs ++ more)
more-end place runs more by row =
    let behind = row-lower (row_end 0 (spans runs)) place (spans more) by.ends row in
    let low = end-lower (row_end 0 (spans runs)) place (spans more) by.ends in
    let all = ap (row_end 0) (spans-append runs more) ∙ end-append 0 (spans runs) (spans more) in
    record {
      row = subst (AreSpansInRow 0) (sym (spans-append runs more)) (row-join 0 (spans runs) (spans more) by.row behind);
      ends = omega (arith, low, all);
    }

step-end : (place : ℕ) (before : List Run) (e : Entry) → EndBy place before → AreSpansInRow place (spans (archives_in e))
    → EndBy (row_end place (spans (archives_in e))) (runs_behind before e)
step-end place before (Group members) by row = by
step-end place before (Archived archive) by row =
    let kept = length before - archive.runs in
    more-end place (take kept before) (run_of archive ∷ []) (taken-end place kept before by) row
step-end place before (Floor floor) by row = by
step-end place before (entries.Base base) by row = more-end place before (map run_of base.archives) by row

abbrev named_in : List PlacedChain → List Run
named_in chains = flat_map (λ (c : PlacedChain). archives_in c.entry) chains

in-row-from : (place : ℕ) (before : List Run) (chains : List PlacedChain) (rest : List Run) → EndBy place before
    → AreSpansInRow place (spans (named_in chains ++ rest)) → AreSpansInRow 0 (spans (runs_from before chains ++ rest))
in-row-from place before [] rest by row =
    subst (AreSpansInRow 0) (sym (spans-append before rest))
    (row-join 0 (spans before) (spans rest) by.row (row-lower (row_end 0 (spans before)) place (spans rest) by.ends row))
in-row-from place before (c ∷ chains) rest by row =
    let own = archives_in c.entry in
    let others = named_in chains ++ rest in
    let parts : spans ((own ++ named_in chains) ++ rest) ≡ spans own ++ spans others =
    ap spans (append_assoc own (named_in chains) rest) ∙ spans-append own others in
    let split = subst (AreSpansInRow place) parts row in
    in-row-from (row_end place (spans own)) (runs_behind before c.entry) chains rest
    (step-end place before c.entry by (row-front place (spans own) (spans others) split)) (row-back place (spans own) (spans others) split)

-- the runs that stand behind a front, and those of the chains behind it, are in a row
pub in-row : (chains : List PlacedChain) (rest : List Run) → AreSpansInRow 0 (spans (named_in chains ++ rest))
    → AreSpansInRow 0 (spans (runs_from [] chains ++ rest))
in-row chains rest row = in-row-from 0 [] chains rest (record { row = tt; ends = omega arith }) row

-- so it is with the front as memory keeps it
pub runs-in_row : (chains : List PlacedChain) (n : ℕ) → AreSpansInRow 0 (spans (named_in chains))
    → AreSpansInRow 0 (spans (map run_of (runs_at [] (take n (map live_of chains))) ++ named_in (drop n chains)))
runs-in_row chains n row =
    let parts : named_in chains ≡ named_in (take n chains) ++ named_in (drop n chains) =
    ap named_in (sym (take-append-drop n chains)) ∙ flat_map-append (λ (c : PlacedChain). archives_in c.entry) (take n chains) (drop n chains) in
    subst (λ (l : List Run). AreSpansInRow 0 (spans (l ++ named_in (drop n chains)))) (sym (runs-live n chains))
    (in-row (take n chains) (named_in (drop n chains)) (subst (λ (l : List Run). AreSpansInRow 0 (spans l)) parts row))

-- ---- one part more, behind all others

abbrev EndsBefore : ℕ → Span → Type 0
EndsBefore place s = s.start + s.len ≤ place

last-ends : (place start : ℕ) (parts : List Span) → start ≤ place → AllByRecursion (EndsBefore place) parts → row_end start parts ≤ place
last-ends place start [] le all = le
last-ends place start (s ∷ parts) le all = last-ends place (s.start + s.len) parts all.0 all.1

pub row-more : (parts : List Span) (s : Span) → AreSpansInRow 0 parts → AllByRecursion (EndsBefore s.start) parts → AreSpansInRow 0 (parts ++ s ∷ [])
row-more parts s row all = row-join 0 parts (s ∷ []) row (last-ends s.start 0 parts (omega arith) all, tt)

pub apart-more : (parts : List Span) (s : Span) → AreSpansApart parts → AllByRecursion (EndsBefore s.start) parts → AreSpansApart (parts ++ s ∷ [])
apart-more [] s apart all = (tt, tt)
apart-more (t ∷ parts) s apart all = (
  AllByRecursion-append (ShareNoByte t) parts (s ∷ []) apart.0 (inr (inr (inl all.0)), tt),
  apart-more parts s apart.1 all.1,
)

all-behind : (P : Span → Type 0) (xs ys : List Span) → AllByRecursion P (xs ++ ys) → AllByRecursion P ys
all-behind P [] ys all = all
all-behind P (x ∷ xs) ys all = all-behind P xs ys all.1

pub comes-behind : (runs : List StoredRun) (rolls : List PlacedRoll) (r : PlacedRoll) → AreSpansInRow 0 (map roll_span rolls)
    → AreSpansApart (spans_of runs rolls) → AllByRecursion (EndsBefore r.roll.start) (spans_of runs rolls) → ComesBehind runs rolls r
comes-behind runs rolls r row apart all =
    let first = map (λ (s : StoredRun). run_span s.entry) runs in
    let more : map roll_span (rolls ++ r ∷ []) ≡ map roll_span rolls ++ roll_span r ∷ [] = map-append roll_span rolls (r ∷ []) in
    let whole : spans_of runs (rolls ++ r ∷ []) ≡ spans_of runs rolls ++ roll_span r ∷ [] =
    ap (λ (l : List Span). first ++ l) more ∙ sym (append_assoc first (map roll_span rolls) (roll_span r ∷ [])) in
    record {
      in_row = subst (AreSpansInRow 0) (sym more)
          (row-more (map roll_span rolls) (roll_span r) row (all-behind (EndsBefore r.roll.start) first (map roll_span rolls) all));
      apart = subst AreSpansApart (sym whole) (apart-more (spans_of runs rolls) (roll_span r) apart all);
    }
