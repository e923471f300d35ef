-- Words at the front of a text.
use Rattle.std.proofs.Common.{◌≡◌, ℕ, ◌+◌, ◌<◌, true, false, List, [], ◌∷◌, ◌++◌, length, get_or, take, drop, All, refl, sym, ap, ◌∙◌, take-append-drop, Bool}
use Rattle.std.proofs.Common.{cond, eqb, Option, Some, None}
use Rattle.std.specs.Prelude.{IsTrue, is_some, option_map, not}
use Rattle.std.specs.Borrow.{Bor}
use Rattle.std.specs.List.{onto_first}
use Rattle.std.proofs.lemmas.List.{drop_more}
use Rattle.std.proofs.lemmas.List.Splits.{slice_split_at}
use Rattle.script.specs.Words.{Text, words_of, words_left}

-- the first word ends at a space with none before it
pub words_of_read : (xs : Text) (i : ℕ) → i < length xs → eqb (get_or xs i 0) 32 ≡ true
    → All (λ x. eqb x 32 ≡ false) (take i xs) → words_of xs ≡ take i xs ∷ words_of (drop (i + 1) xs)
words_of_read xs i lt e h =
    let parts : xs ≡ take i xs ++ get_or xs i 0 ∷ drop (i + 1) xs = sym (take-append-drop i xs) ∙ ap (λ zs. take i xs ++ zs) (drop_more xs i 0 lt) in
    ap words_of parts ∙ slice_split_at (λ x. eqb x 32) (take i xs) (get_or xs i 0) (drop (i + 1) xs) h e

onto_first_some : (x : ℕ) (parts : List Text) → onto_first x parts ≡ [] → ⊥
onto_first_some x [] e = cc
onto_first_some x (part ∷ parts) e = cc

by_case : (b : Bool) (x : ℕ) (parts : List Text) → cond b ([] ∷ parts) (onto_first x parts) ≡ [] → ⊥
by_case true x parts e = cc
by_case false x parts e = onto_first_some x parts e

-- a text has a word
words_of_some : (text : Text) → words_of text ≡ [] → ⊥
words_of_some [] e = cc
words_of_some (x ∷ xs) e = by_case (eqb x 32) x (words_of xs) e

-- no word is left exactly where there is no rest
pub is_none_when_empty : (rest : Option (Bor Text)) (none : Bool) (words : List Text) → is_some rest ≡ not none
    → words_left (option_map (λ (text : Bor Text). text.now) rest) ≡ words → (IsTrue none → words ≡ []) × (words ≡ [] → IsTrue none)
is_none_when_empty None true words e view = (λ _. sym view, λ _. refl)
is_none_when_empty None false words e view = absurd (cc)
is_none_when_empty (Some text) true words e view = absurd (cc)
is_none_when_empty (Some text) false words e view = (λ (bad : false ≡ true). absurd (cc), λ empty. absurd (words_of_some text.now (view ∙ empty)))
