-- Parts of the archive, in a row and apart.
use Rattle.std.proofs.Common.{◌≡◌, ℕ, ◌+◌, ◌<◌, ◌≤◌, ◌↔◌, ◌⊎◌, ⊎_elim, inl, inr, List, [], ◌∷◌, ◌++◌, map, refl, sym, ap, subst, arith}
use Rattle.std.specs.List.{AllByRecursion}
use Rattle.law_layout.proofs.Lists.{weaker, all_of_front, all_of_back}
use Rattle.law_log_layout.specs.HeapLog.{Span, ShareNoByte, AreSpansApart, AreSpansInRow}
use Rattle.log_recovery.specs.Ends.{EndsEarly}
use Rattle.log_recovery.proofs.Walking.{all_joined}

-- no part of the first ones has a byte in common with one of the others
abbrev pub AreCross : List Span → List Span → Type 0
AreCross [] others = Unit {0}
AreCross (s ∷ spans) others = AllByRecursion (ShareNoByte s) others × AreCross spans others

-- parts in a row begin at its place or behind it
behind_place : (place low : ℕ) (spans : List Span) → low ≤ place → AreSpansInRow place spans → AllByRecursion (λ (s : Span). low ≤ s.start) spans
behind_place place low [] le row = tt
behind_place place low (s ∷ spans) le row =
    (omega (arith, le, row.0), behind_place (s.start + s.len) low spans (omega (arith, le, row.0)) row.1)

-- so they are apart
pub row_is_apart : (place : ℕ) (spans : List Span) → AreSpansInRow place spans → AreSpansApart spans
row_is_apart place [] row = tt
row_is_apart place (s ∷ spans) row = (
  weaker (λ (t : Span). s.start + s.len ≤ t.start) (ShareNoByte s) spans (λ t le. inr (inr (inl le)))
      (behind_place (s.start + s.len) (s.start + s.len) spans (omega arith) row.1),
  row_is_apart (s.start + s.len) spans row.1,
)

-- one after the other, and the first ones with the others
pub joined_apart : (spans others : List Span) → AreSpansApart spans → AreSpansApart others → AreCross spans others → AreSpansApart (spans ++ others)
joined_apart [] others first second cross = second
joined_apart (s ∷ spans) others first second cross =
    (all_joined (ShareNoByte s) spans others first.0 cross.0, joined_apart spans others first.1 second cross.1)

pub apart_cross : (spans others : List Span) → AreSpansApart (spans ++ others) → AreCross spans others
apart_cross [] others apart = tt
apart_cross (s ∷ spans) others apart = (all_of_back (ShareNoByte s) spans others apart.0, apart_cross spans others apart.1)

-- a part that ends before these begin
pub first_is_apart : (s t : Span) (others : List Span) (place : ℕ) → AreSpansInRow place (t ∷ others) → (s.len ≡ 0) ⊎ (s.start + s.len ≤ t.start)
    → AllByRecursion (ShareNoByte s) (t ∷ others)
first_is_apart s t others place row (inl none) = weaker (λ (u : Span). u.start ≤ u.start) (ShareNoByte s) (t ∷ others) (λ u le. inl none) (every (t ∷ others))
  where
    every : (spans : List Span) → AllByRecursion (λ (u : Span). u.start ≤ u.start) spans
    every [] = tt
    every (u ∷ spans) = (omega arith, every spans)
first_is_apart s t others place row (inr ends) =
    weaker (λ (u : Span). s.start + s.len ≤ u.start) (ShareNoByte s) (t ∷ others) (λ u le. inr (inr (inl le)))
    (behind_place t.start (s.start + s.len) (t ∷ others) ends (omega arith, row.1))

-- and one of the others that ends before the first ones begin
shares_turned : (s t : Span) → (t.len ≡ 0) ⊎ (t.start + t.len ≤ s.start) → ShareNoByte s t
shares_turned s t (inl none) = inr (inl none)
shares_turned s t (inr ends) = inr (inr (inr ends))

all_turned : (t : Span) (spans : List Span) → (t.len ≡ 0) ⊎ AllByRecursion (λ (s : Span). t.start + t.len ≤ s.start) spans
    → AllByRecursion (λ (s : Span). ShareNoByte s t) spans
all_turned t [] is = tt
all_turned t (s ∷ spans) (inl none) = (inr (inl none), all_turned t spans (inl none))
all_turned t (s ∷ spans) (inr ends) = (inr (inr (inr ends.0)), all_turned t spans (inr ends.1))

pub other_is_apart : (s t : Span) (spans : List Span) (place : ℕ) → AreSpansInRow place (s ∷ spans) → (t.len ≡ 0) ⊎ (t.start + t.len ≤ s.start)
    → AllByRecursion (λ (u : Span). ShareNoByte u t) (s ∷ spans)
other_is_apart s t spans place row (inl none) = all_turned t (s ∷ spans) (inl none)
other_is_apart s t spans place row (inr ends) =
    all_turned t (s ∷ spans) (inr (behind_place s.start (t.start + t.len) (s ∷ spans) ends (omega arith, row.1)))

-- what is left to look at says the same
pub cross_more : (spans : List Span) (t : Span) (others : List Span) → AllByRecursion (λ (u : Span). ShareNoByte u t) spans → AreCross spans others
    → AreCross spans (t ∷ others)
cross_more [] t others shares cross = tt
cross_more (s ∷ spans) t others shares cross = ((shares.0, cross.0), cross_more spans t others shares.1 cross.1)

pub cross_less : (spans : List Span) (t : Span) (others : List Span) → AreCross spans (t ∷ others) → AreCross spans others
cross_less [] t others cross = tt
cross_less (s ∷ spans) t others cross = (cross.0.1, cross_less spans t others cross.1)

pub cross_none : (spans : List Span) → AreCross spans []
cross_none [] = tt
cross_none (s ∷ spans) = (tt, cross_none spans)

-- ---- the walk over both

-- what is left of two rows is in a row too, and says of both whether they are apart
pub record AreLeft (runs rolls runs_left rolls_left : List Span) : Type 0 where
  pub place : ℕ
  pub other_place : ℕ
  pub runs_row : AreSpansInRow place runs_left
  pub rolls_row : AreSpansInRow other_place rolls_left
  pub runs_early : AllByRecursion EndsEarly runs_left
  pub rolls_early : AllByRecursion EndsEarly rolls_left
  pub same : AreCross runs rolls ↔ AreCross runs_left rolls_left

pub left_starts : (runs rolls : List Span) → AreSpansInRow 0 runs → AreSpansInRow 0 rolls → AllByRecursion EndsEarly runs → AllByRecursion EndsEarly rolls
    → AreLeft runs rolls runs rolls
left_starts runs rolls runs_row rolls_row early late = record {
  place = 0;
  other_place = 0;
  runs_row = runs_row;
  rolls_row = rolls_row;
  runs_early = early;
  rolls_early = late;
  same = (λ cross. cross, λ cross. cross);
}

-- the first run ends before the first roll
pub left_run : (runs rolls : List Span) (s : Span) (others : List Span) (t : Span) (rest : List Span) → AreLeft runs rolls (s ∷ others) (t ∷ rest)
    → (s.len ≡ 0) ⊎ (s.start + s.len ≤ t.start) → AreLeft runs rolls others (t ∷ rest)
left_run runs rolls s others t rest left ends =
    let shares : AllByRecursion (ShareNoByte s) (t ∷ rest) = first_is_apart s t rest left.other_place left.rolls_row ends in
    record {
      place = s.start + s.len;
      other_place = left.other_place;
      runs_row = left.runs_row.1;
      rolls_row = left.rolls_row;
      runs_early = left.runs_early.1;
      rolls_early = left.rolls_early;
      same = (λ cross. (left.same.0 cross).1, λ cross. left.same.1 (shares, cross));
    }

-- the first roll ends before the first run
pub left_roll : (runs rolls : List Span) (s : Span) (others : List Span) (t : Span) (rest : List Span) → AreLeft runs rolls (s ∷ others) (t ∷ rest)
    → (t.len ≡ 0) ⊎ (t.start + t.len ≤ s.start) → AreLeft runs rolls (s ∷ others) rest
left_roll runs rolls s others t rest left ends =
    let shares : AllByRecursion (λ (u : Span). ShareNoByte u t) (s ∷ others) = other_is_apart s t others left.place left.runs_row ends in
    record {
      place = left.place;
      other_place = t.start + t.len;
      runs_row = left.runs_row;
      rolls_row = left.rolls_row.1;
      runs_early = left.runs_early;
      rolls_early = left.rolls_early.1;
      same = (λ cross. cross_less (s ∷ others) t rest (left.same.0 cross), λ cross. left.same.1 (cross_more (s ∷ others) t rest shares cross));
    }

-- where neither is so they have a byte in common
pub left_fails : (runs rolls : List Span) (s : Span) (others : List Span) (t : Span) (rest : List Span) → AreLeft runs rolls (s ∷ others) (t ∷ rest)
    → ((s.len ≡ 0) ⊎ (s.start + s.len ≤ t.start) → ⊥) → ((t.len ≡ 0) ⊎ (t.start + t.len ≤ s.start) → ⊥) → ¬ AreSpansApart (runs ++ rolls)
left_fails runs rolls s others t rest left first second = λ apart.
    let shares : ShareNoByte s t = (left.same.0 (apart_cross runs rolls apart)).0.0 in
    ⊎_elim (λ none. first (inl none)) (⊎_elim (λ none. second (inl none)) (⊎_elim (λ le. first (inr le)) (λ le. second (inr le)))) shares

-- and where none is left they are apart
pub left_ends : (runs rolls runs_left rolls_left : List Span) → AreSpansInRow 0 runs → AreSpansInRow 0 rolls → AreLeft runs rolls runs_left rolls_left
    → (runs_left ≡ []) ⊎ (rolls_left ≡ []) → AreSpansApart (runs ++ rolls)
left_ends runs rolls runs_left rolls_left runs_row rolls_row left (inl none) =
    joined_apart runs rolls (row_is_apart 0 runs runs_row) (row_is_apart 0 rolls rolls_row)
    (left.same.1 (subst (λ (l : List Span). AreCross l rolls_left) (sym none) tt))
left_ends runs rolls runs_left rolls_left runs_row rolls_row left (inr none) =
    joined_apart runs rolls (row_is_apart 0 runs runs_row) (row_is_apart 0 rolls rolls_row)
    (left.same.1 (subst (AreCross runs_left) (sym none) (cross_none runs_left)))
