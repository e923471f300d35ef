-- Chains of extents that are filled one after the other.
use Rattle.std.proofs.Common.{◌≡◌, ◌≢◌, ℕ, ◌+◌, ◌≤◌, ◌<◌, nat_le, true, false, Some, None, List, [], ◌∷◌, ◌++◌, length, map, drop, replicate, refl, sym, ◌∙◌}
use Rattle.std.proofs.Common.{ap, subst, arith, length-append, inl, inr}
use Rattle.std.specs.Prelude.{slice_get}
use Rattle.std.proofs.lemmas.Bool.{cases_lt}
use Rattle.std.proofs.lemmas.Bool.Decides.{nat_tests}
use Rattle.std.proofs.lemmas.List.{length-replicate}
use Rattle.deltas.specs.declared.«record».Record.{Record}
use Rattle.deltas.specs.declared.filled_extent.FilledExtent.{FilledExtent}
use Rattle.deltas.specs.Records.{spelling}
use Rattle.deltas.specs.Packing.{bodies_from, bodies}
use Rattle.deltas.specs.Chains.{first_number, images_of}
use Rattle.deltas.specs.Filling.{IsFilled, AreFilled, IsCountOf}
use Rattle.deltas.proofs.Holding.{spelling-some}

-- the images of records that are left: the first of them, and the others
pub one_image : (number : ℕ) (numbers : List ℕ) (records after : List Record) (image : List ℕ) (filled : FilledExtent) → records ≢ []
    → IsFilled number (first_number numbers) records image filled after
    → images_of (number ∷ numbers) (bodies (map spelling records)) ≡ image ∷ images_of numbers (bodies (map spelling after))
one_image number numbers records after image filled some is =
    ap (λ (l : List (List ℕ)). images_of (number ∷ numbers) l) (is.first.packed some)
    ∙ ap (λ (i : List ℕ). i ∷ images_of numbers (bodies (map spelling after))) (sym is.image_is)

pub one_body : (number next : ℕ) (records after : List Record) (image : List ℕ) (filled : FilledExtent) → records ≢ []
    → IsFilled number next records image filled after
    → length (bodies (map spelling records)) ≡ 1 + length (bodies (map spelling after))
one_body number next records after image filled some is = let len = ap (λ (l : List (List ℕ)). length l) (is.first.packed some) in omega (arith, len)

pub filled_is_packed : (numbers : List ℕ) (records : List Record) (images : List (List ℕ)) → AreFilled numbers records images
    → (length numbers ≡ length (bodies (map spelling records))) × (images ≡ images_of numbers (bodies (map spelling records)))
filled_is_packed [] records [] are = (sym (ap (λ (l : List Record). length (bodies (map spelling l))) are), refl)
filled_is_packed [] records (image ∷ images) are = absurd are
filled_is_packed (n ∷ ns) records [] are = absurd are
filled_is_packed (n ∷ ns) records (image ∷ images) are =
    let rest = filled_is_packed ns are.1 images are.4 in
    let count = rest.0 in
    let more = one_body n (first_number ns) records are.1 image are.0 are.2 are.3 in
    (omega (arith, count, more), ap (λ (l : List (List ℕ)). image ∷ l) rest.1 ∙ sym (one_image n ns records are.1 image are.0 are.2 are.3))

-- ---- counts

same_count : (a b : List ℕ) (pieces : List (List ℕ)) → length a ≡ length b → length (bodies_from a pieces) ≡ length (bodies_from b pieces)
same_count a b [] same = refl
same_count a b (piece ∷ pieces) same = elim (cases_lt 8176 (length a + length piece)) [
  | inl over ↦
      let no : nat_le (length a + length piece) 8176 ≡ false = grind (arith, nat_tests) in
      let no' : nat_le (length b + length piece) 8176 ≡ false = grind (arith, nat_tests) in
      rw (no, no') refl
  | inr fits ↦
      let yes : nat_le (length a + length piece) 8176 ≡ true = grind (arith, nat_tests) in
      let yes' : nat_le (length b + length piece) 8176 ≡ true = grind (arith, nat_tests) in
      rw (yes, yes') (same_count (a ++ piece) (b ++ piece) pieces (omega (arith, same, length-append a piece, length-append b piece)))
]

-- the records so far need that many extents, and the last of them is full up to there
pub record IsCounting (before left : List Record) (extents records used : ℕ) : Type 0 where
  pub bodies_are : extents + length (bodies_from (replicate used 0) (map spelling left)) ≡ 1 + length (bodies (map spelling before))
  pub counted : records + length left ≡ length before
  pub fits : used ≤ 8176
  pub few : extents ≤ records

pub none_counted : (before : List Record) → IsCounting before before 0 0 8176
none_counted before = record { bodies_are = first 8176 before (omega arith); counted = omega arith; fits = omega arith; few = omega arith }
  where
    first : (full : ℕ) (records : List Record) → 8176 ≤ full
        → 0 + length (bodies_from (replicate full 0) (map spelling records)) ≡ 1 + length (bodies (map spelling records))
    first full [] most = refl
    first full (r ∷ rs) most =
        let some = spelling-some r in
        let zeros : List ℕ = replicate full 0 in
        let len : length zeros ≡ full = length-replicate {A = ℕ} full 0 in
        let no : nat_le (length zeros + length (spelling r)) 8176 ≡ false = grind (arith, nat_tests) in
        rw no (omega arith)

pub begun_counted : (before rest : List Record) (r : Record) (extents records used : ℕ) → length (spelling r) ≤ 8176 → 8176 < used + length (spelling r)
    → IsCounting before (r ∷ rest) extents records used
    → IsCounting before rest (extents + 1) (records + 1) (length (spelling r))
begun_counted before rest r extents records used short over so_far =
    let bodies_are = so_far.bodies_are in
    let counted = so_far.counted in
    let few = so_far.few in
    let len : length (replicate {A = ℕ} used 0) ≡ used = length-replicate {A = ℕ} used 0 in
    let no : nat_le (length (replicate {A = ℕ} used 0) + length (spelling r)) 8176 ≡ false = grind (arith, nat_tests) in
    let step : length (bodies_from (replicate used 0) (spelling r ∷ map spelling rest)) ≡ 1 + length (bodies_from (spelling r) (map spelling rest)) =
    rw no (omega arith) in
    let same = same_count (replicate (length (spelling r)) 0) (spelling r) (map spelling rest) (length-replicate {A = ℕ} (length (spelling r)) 0) in
    record { bodies_are = omega (arith, bodies_are, step, same); counted = omega (arith, counted); fits = short; few = omega (arith, few) }

pub added_counted : (before rest : List Record) (r : Record) (extents records used : ℕ) → used + length (spelling r) ≤ 8176
    → IsCounting before (r ∷ rest) extents records used
    → IsCounting before rest extents (records + 1) (used + length (spelling r))
added_counted before rest r extents records used room so_far =
    let bodies_are = so_far.bodies_are in
    let counted = so_far.counted in
    let few = so_far.few in
    let len : length (replicate {A = ℕ} used 0) ≡ used = length-replicate {A = ℕ} used 0 in
    let yes : nat_le (length (replicate {A = ℕ} used 0) + length (spelling r)) 8176 ≡ true = grind (arith, nat_tests) in
    let step : length (bodies_from (replicate used 0) (spelling r ∷ map spelling rest))
    ≡ length (bodies_from (replicate used 0 ++ spelling r) (map spelling rest)) = rw yes refl in
    let same = same_count (replicate (used + length (spelling r)) 0) (replicate used 0 ++ spelling r) (map spelling rest)
    (omega (arith, length-replicate {A = ℕ} (used + length (spelling r)) 0, length-append (replicate used 0) (spelling r), len)) in
    record { bodies_are = omega (arith, bodies_are, step, same); counted = omega (arith, counted); fits = room; few = omega (arith, few) }

pub all_counted : (before left : List Record) (extents records used : ℕ) → None ≡ slice_get left 0 → IsCounting before left extents records used
    → IsCountOf before (record { extents = extents; records = records }) × (left ≡ [])
all_counted before [] extents records used end so_far =
    let bodies_are = so_far.bodies_are in
    let counted = so_far.counted in
    (record { extents = omega (arith, bodies_are); records = omega (arith, counted) }, refl)
all_counted before (r ∷ rest) extents records used end so_far = cc

-- the record that comes next
pub next_is : (left : List Record) (r : Record) → Some r ≡ slice_get left 0 → left ≡ r ∷ drop 1 left
next_is [] r is = cc
next_is (x ∷ rest) r is = let same : x ≡ r = cc in ap (λ y. y ∷ rest) same

pub next_begun : (before left after : List Record) (r : Record) (extents records used len : ℕ) → Some r ≡ slice_get left 0 → after ≡ drop 1 left
    → len ≡ length (spelling r) → len ≤ 4116 → 8176 < used + len → IsCounting before left extents records used
    → IsCounting before after (extents + 1) (records + 1) len
next_begun before left after r extents records used len next behind len_is short over so_far =
    subst (λ (l : List Record). IsCounting before l (extents + 1) (records + 1) len) (sym behind)
    (subst (λ n. IsCounting before (drop 1 left) (extents + 1) (records + 1) n) (sym len_is)
    (begun_counted before (drop 1 left) r extents records used (omega (arith, len_is, short)) (omega (arith, len_is, over))
    (subst (λ (l : List Record). IsCounting before l extents records used) (next_is left r next) so_far)))

pub next_added : (before left after : List Record) (r : Record) (extents records used len : ℕ) → Some r ≡ slice_get left 0 → after ≡ drop 1 left
    → len ≡ length (spelling r) → used + len ≤ 8176 → IsCounting before left extents records used
    → IsCounting before after extents (records + 1) (used + len)
next_added before left after r extents records used len next behind len_is room so_far =
    subst (λ (l : List Record). IsCounting before l extents (records + 1) (used + len)) (sym behind)
    (subst (λ n. IsCounting before (drop 1 left) extents (records + 1) (used + n)) (sym len_is)
    (added_counted before (drop 1 left) r extents records used (omega (arith, len_is, room))
    (subst (λ (l : List Record). IsCounting before l extents records used) (next_is left r next) so_far)))
