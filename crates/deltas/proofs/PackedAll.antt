-- Records that are packed one after the other.
use Rattle.std.proofs.Common.{◌≡◌, ℕ, ◌+◌, ◌≤◌, ◌<◌, nat_le, true, false, Some, None, List, [], ◌∷◌, ◌++◌, length, map, drop, refl, sym, ◌∙◌, ap, arith}
use Rattle.std.proofs.Common.{append_assoc}
use Rattle.std.specs.Prelude.{slice_get}
use Rattle.std.proofs.lemmas.Bool.Decides.{nat_tests}
use Rattle.deltas.specs.declared.«record».Record.{Record}
use Rattle.deltas.specs.Records.{spelling}
use Rattle.deltas.specs.Packing.{bodies_from, bodies}
use Rattle.deltas.proofs.FilledChains.{next_is}

-- the bodies so far, the one that is begun, and the records that are left
abbrev pub IsPacking : List Record → List Record → List (List ℕ) → List ℕ → Type 0
IsPacking before left packed body = packed ++ bodies_from body (map spelling left) ≡ bodies (map spelling before)

pub first_packed : (before after : List Record) (r : Record) (packed : List (List ℕ)) (body : List ℕ) → Some r ≡ slice_get before 0 → after ≡ drop 1 before
    → packed ≡ [] → body ≡ spelling r → IsPacking before after packed body
first_packed before after r packed body next behind none body_is =
    (λ i. none i ++ bodies_from (body_is i) (map spelling (behind i))) ∙ ap (λ (l : List Record). bodies (map spelling l)) (sym (next_is before r next))

pub next_begins : (before left after : List Record) (r : Record) (packed more : List (List ℕ)) (body next : List ℕ) → Some r ≡ slice_get left 0
    → after ≡ drop 1 left → 8176 < length body + length (spelling r) → more ≡ packed ++ body ∷ [] → next ≡ spelling r
    → IsPacking before left packed body → IsPacking before after more next
next_begins before left after r packed more body next there behind over more_is next_is' so_far =
    let no : nat_le (length body + length (spelling r)) 8176 ≡ false = grind (arith, nat_tests) in
    let step : bodies_from body (spelling r ∷ map spelling (drop 1 left)) ≡ body ∷ bodies_from (spelling r) (map spelling (drop 1 left)) = rw no refl in
    (λ i. more_is i ++ bodies_from (next_is' i) (map spelling (behind i)))
    ∙ append_assoc packed (body ∷ []) (bodies_from (spelling r) (map spelling (drop 1 left)))
    ∙ ap (λ (l : List (List ℕ)). packed ++ l) (sym step)
    ∙ ap (λ (l : List Record). packed ++ bodies_from body (map spelling l)) (sym (next_is left r there))
    ∙ so_far

pub next_joins : (before left after : List Record) (r : Record) (packed more : List (List ℕ)) (body next : List ℕ) → Some r ≡ slice_get left 0
    → after ≡ drop 1 left → length body + length (spelling r) ≤ 8176 → more ≡ packed → next ≡ body ++ spelling r
    → IsPacking before left packed body → IsPacking before after more next
next_joins before left after r packed more body next there behind room more_is next_is' so_far =
    let yes : nat_le (length body + length (spelling r)) 8176 ≡ true = grind (arith, nat_tests) in
    let step : bodies_from body (spelling r ∷ map spelling (drop 1 left)) ≡ bodies_from (body ++ spelling r) (map spelling (drop 1 left)) = rw yes refl in
    (λ i. more_is i ++ bodies_from (next_is' i) (map spelling (behind i)))
    ∙ ap (λ (l : List (List ℕ)). packed ++ l) (sym step)
    ∙ ap (λ (l : List Record). packed ++ bodies_from body (map spelling l)) (sym (next_is left r there))
    ∙ so_far

pub none_next : (left : List Record) → None ≡ slice_get left 0 → left ≡ []
none_next [] none = refl
none_next (r ∷ rest) none = cc

pub all_packed : (before left : List Record) (packed more : List (List ℕ)) (body : List ℕ) → None ≡ slice_get left 0 → more ≡ packed ++ body ∷ []
    → IsPacking before left packed body → more ≡ bodies (map spelling before)
all_packed before left packed more body end more_is so_far =
    more_is ∙ ap (λ (l : List Record). packed ++ bodies_from body (map spelling l)) (sym (none_next left end)) ∙ so_far
