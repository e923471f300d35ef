-- The rows of the versions that end after a mark.
use Rattle.std.proofs.Common.{◌≡◌, ℕ, ◌<◌, ◌≤◌, max, min, Bool, true, false, cond, List, [], ◌∷◌, ◌++◌, refl, ap, ◌∙◌, arith}
use Rattle.std.specs.Prelude.{filter}
use Rattle.std.proofs.lemmas.Bool.Decides.{nat_tests}
use Rattle.std.proofs.lemmas.List.Elements.{filter-append}
use Rattle.history.specs.declared.time.Version.{Version}
use Rattle.history.specs.Versions.{cut, lasts, rows, ends_after}
use Rattle.law_image.specs.Values.{Value}
use Rattle.timequery.specs.Homes.{rows_after}

pub rows-append : (vs ws : List (Version Value)) (a b : ℕ) → rows (vs ++ ws) a b ≡ rows vs a b ++ rows ws a b
rows-append [] ws a b = refl
rows-append (v ∷ vs) ws a b =
    let rest = rows-append vs ws a b in
    let part = cut a b v in
    let Goal : Bool → Type 0 = λ t. cond t (part ∷ rows (vs ++ ws) a b) (rows (vs ++ ws) a b) ≡ cond t (part ∷ rows vs a b) (rows vs a b) ++ rows ws a b in
    elim (lasts part) as Goal [ true ↦ ap (λ (us : List (Version Value)). part ∷ us) rest | false ↦ rest ]

pub after-append : (mark a b : ℕ) (vs ws : List (Version Value)) → rows_after mark a b (vs ++ ws) ≡ rows_after mark a b vs ++ rows_after mark a b ws
after-append mark a b vs ws =
    ap (λ (us : List (Version Value)). rows us a b) (filter-append (ends_after mark) vs ws)
    ∙ rows-append (filter (ends_after mark) vs) (filter (ends_after mark) ws) a b

-- ---- what is asked for up to a later time

cut-again : (a b end : ℕ) (v : Version Value) → b ≤ end → cut a b (cut a end v) ≡ cut a b v
cut-again a b end v later =
    let from : max (max v.from a) a ≡ max v.from a = omega arith in
    let to : min (min v.to end) b ≡ min v.to b = omega arith in
    λ i. record { from = from i; to = to i; value = v.value }

ends-again : (mark a end : ℕ) (v : Version Value) → mark < end → ends_after mark (cut a end v) ≡ ends_after mark v
ends-again mark a end v later = grind (arith, nat_tests)

none-shorter : (a b end : ℕ) (v : Version Value) → b ≤ end → lasts (cut a end v) ≡ false → lasts (cut a b v) ≡ false
none-shorter a b end v later none = grind (arith, nat_tests)

-- rows up to a later time than is wanted, and later than the mark, have the rows that are wanted
pub after-cut : (mark a b end : ℕ) (vs : List (Version Value)) → b ≤ end → mark < end → rows_after mark a b (rows vs a end) ≡ rows_after mark a b vs
after-cut mark a b end [] later past = refl
after-cut mark a b end (v ∷ vs) later past =
    let rest = after-cut mark a b end vs later past in
    let c = cut a end v in
    let long = rows vs a end in
    let Goal : Bool → Bool → Type 0 = λ l e. lasts c ≡ l → ends_after mark v ≡ e →
    rows_after mark a b (cond l (c ∷ long) long) ≡ rows (cond e (v ∷ filter (ends_after mark) vs) (filter (ends_after mark) vs)) a b in
    let all : (l e : Bool) → Goal l e = λ l e. elim l as (λ l. Goal l e) [
      | true ↦ elim e as (λ e. Goal true e) [
        | true ↦ λ is ends.
            let again : ends_after mark c ≡ true = ends-again mark a end v past ∙ ends in
            let same = cut-again a b end v later in
            rw again (ap (λ (x : Version Value). cond (lasts x) (x ∷ rows_after mark a b long) (rows_after mark a b long)) same
            ∙ ap (λ (us : List (Version Value)). cond (lasts (cut a b v)) (cut a b v ∷ us) us) rest)
        | false ↦ λ is ends.
            let again : ends_after mark c ≡ false = ends-again mark a end v past ∙ ends in
            rw again rest
      ]
      | false ↦ elim e as (λ e. Goal false e) [
        | true ↦ λ none ends.
            let shorter = none-shorter a b end v later none in
            rw shorter rest
        | false ↦ λ none ends. rest
      ]
    ] in
    all (lasts c) (ends_after mark v) refl refl
