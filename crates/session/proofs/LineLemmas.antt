-- Lines are taken from the front of a text.
use Rattle.std.proofs.Common.{◌≡◌, ℕ, ◌+◌, ◌<◌, Bool, true, false, [], ◌∷◌, ◌++◌, length, refl, sym, ap, ap₂, Option, Some, None, ◌∙◌, arith, eqb, cond}
use Rattle.std.proofs.lemmas.Grind.{common_steps}
use Rattle.std.proofs.lemmas.Bool.Decides.{nat_tests}
use Rattle.std.specs.Io.BufRead.{drop_through, take_through, strip_last}
use Rattle.std.specs.Prelude.{IfSome}
use Rattle.std.specs.Io.BufRead.{DropsThrough}
use Rattle.session.specs.Texts.{Text}
use Rattle.session.specs.Lines.{Reads, lines_of, onto_line}

strip_cons : (x y : ℕ) (ys : Text) → strip_last 10 (x ∷ y ∷ ys) ≡ x ∷ strip_last 10 (y ∷ ys)
strip_cons x y ys = grind (arith, common_steps, nat_tests)

strip_one : (x : ℕ) → eqb x 10 ≡ false → strip_last 10 (x ∷ []) ≡ x ∷ []
strip_one x e = rw e refl

abbrev first : Text → Text
first xs = strip_last 10 (take_through 10 xs)

more_cases : (x y : ℕ) (t : Text) (b : Bool) → strip_last 10 (x ∷ cond b (y ∷ []) (y ∷ t)) ≡ x ∷ strip_last 10 (cond b (y ∷ []) (y ∷ t))
more_cases x y t true = strip_cons x y []
more_cases x y t false = strip_cons x y t

first_more : (x : ℕ) (xs : Text) → eqb x 10 ≡ false → first (x ∷ xs) ≡ x ∷ first xs
first_more x [] e = rw e (strip_one x e)
first_more x (y ∷ ys) e =
    let taken : take_through 10 (x ∷ y ∷ ys) ≡ x ∷ take_through 10 (y ∷ ys) = rw e refl in
    ap (strip_last 10) taken ∙ more_cases x y (take_through 10 ys) (eqb y 10)

by_test : {P : Type 0} (b : Bool) → (b ≡ true → P) → (b ≡ false → P) → P
by_test true f g = f refl
by_test false f g = g refl

strip_feed : (x : ℕ) → eqb x 10 ≡ true → strip_last 10 (x ∷ []) ≡ []
strip_feed x e = rw e refl

at_feed : (x : ℕ) (xs : Text) → eqb x 10 ≡ true → lines_of (x ∷ xs) ≡ strip_last 10 (take_through 10 (x ∷ xs)) ∷ lines_of (drop_through 10 (x ∷ xs))
at_feed x xs e =
    let left : lines_of (x ∷ xs) ≡ [] ∷ lines_of xs = rw e refl in
    let taken : take_through 10 (x ∷ xs) ≡ x ∷ [] = rw e refl in
    let dropped : drop_through 10 (x ∷ xs) ≡ xs = rw e refl in
    left ∙ ap₂ (λ (l : Text) (rest : Text). l ∷ lines_of rest) (sym (ap (strip_last 10) taken ∙ strip_feed x e)) (sym dropped)

within : (x : ℕ) (xs : Text) → eqb x 10 ≡ false → onto_line x (lines_of xs) ≡ (x ∷ first xs) ∷ lines_of (drop_through 10 xs)
    → lines_of (x ∷ xs) ≡ strip_last 10 (take_through 10 (x ∷ xs)) ∷ lines_of (drop_through 10 (x ∷ xs))
within x xs e more =
    let left : lines_of (x ∷ xs) ≡ onto_line x (lines_of xs) = rw e refl in
    let dropped : drop_through 10 (x ∷ xs) ≡ drop_through 10 xs = rw e refl in
    left ∙ more ∙ ap₂ (λ (l : Text) (rest : Text). l ∷ lines_of rest) (sym (first_more x xs e)) (sym dropped)

pub lines_first : (x : ℕ) (xs : Text) → lines_of (x ∷ xs) ≡ strip_last 10 (take_through 10 (x ∷ xs)) ∷ lines_of (drop_through 10 (x ∷ xs))
lines_first x [] = by_test (eqb x 10) (at_feed x []) (λ e. within x [] e refl)
lines_first x (y ∷ ys) = by_test (eqb x 10) (at_feed x (y ∷ ys)) (λ e. within x (y ∷ ys) e (ap (onto_line x) (lines_first y ys)))

pub reads_line : (old new : Option Text) (before taken line : Text) (n : ℕ) → before ≡ [] → IfSome old (λ xs. taken ≡ before ++ take_through 10 xs)
    → DropsThrough old new 10 → length taken ≡ length before + n → 0 < n → line ≡ strip_last 10 taken → Reads old new true line
reads_line None new before taken line n b bytes rest len some e = tt
reads_line (Some xs) None before taken line n b bytes rest len some e = let bad : None ≡ Some (drop_through 10 xs) = rest in absurd (cc)
reads_line (Some []) (Some ys) before taken line n b bytes rest len some e =
    let none : taken ≡ [] = bytes ∙ rw b refl in
    let zero : length taken ≡ 0 = rw none refl in
    absurd (omega arith)
reads_line (Some (x ∷ xs)) (Some ys) before taken line n b bytes rest len some e =
    let whole : taken ≡ take_through 10 (x ∷ xs) = bytes ∙ rw b refl in
    let left : ys ≡ drop_through 10 (x ∷ xs) = cc in
    lines_first x xs ∙ ap₂ (λ (l : Text) (r : Text). l ∷ lines_of r) (ap (strip_last 10) (sym whole) ∙ sym e) (sym left)
