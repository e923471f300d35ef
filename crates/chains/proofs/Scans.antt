-- The relation of a later key, and the first chain of a walk.
use Rattle.std.proofs.Common.{◌≡◌, ◌≤◌, ◌∙◌, ◌++◌, ℕ, true, List, [], ◌∷◌, Option, Some, drop, sym, ap, append-nil, append_assoc, arith}
use Rattle.std.specs.List.{slice_get}
use Rattle.std.proofs.lemmas.Bool.Decides.{nat_tests}
use Rattle.history.specs.declared.key.Key.{Key}
use Rattle.history.specs.Key.{key_lt}
use Rattle.chains.specs.KeyWrites.{KeyWrites}
use Rattle.chains.specs.Spots.{shown_of, shown_there}
use Rattle.chains.specs.Writes.{Value}

pub above-relation : (a b : Key) → key_lt a b ≡ true → a.relation ≤ b.relation
above-relation a b h = grind (arith, nat_tests)

pub head_is : (m : List KeyWrites) (c : KeyWrites) → Some c ≡ slice_get m 0 → m ≡ c ∷ drop 1 m
head_is [] c e = absurd (cc)
head_is (d ∷ ds) c e = let same : c ≡ d = cc in ap (λ x. x ∷ ds) (sym same)

-- what places show, and one more behind them
pub there-push : (xs : List (ℕ × Option Value)) (number : ℕ) (value : Option Value) → shown_there (xs ++ (number, value) ∷ []) ≡ shown_there xs
    ++ shown_of number value
there-push [] number value = append-nil (shown_of number value)
there-push (x ∷ xs) number value =
    ap (λ rest. shown_of x.0 x.1 ++ rest) (there-push xs number value) ∙ sym (append_assoc (shown_of x.0 x.1) (shown_there xs) (shown_of number value))
