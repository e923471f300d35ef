-- What several trees hold, one behind another.
use Rattle.std.proofs.Common.{◌≡◌, ℕ, zero, suc, ◌-◌, ◌<◌, ◌≤◌, Bool, List, [], ◌∷◌, ◌++◌, length, get_or, take, drop, None, Some, refl, ap, sym, ◌∙◌, arith}
use Rattle.std.proofs.Common.{append_assoc, append-nil}
use Rattle.std.specs.Prelude.{find}
use Rattle.std.proofs.lemmas.List.{take-append-drop, take_rest, drop_all}
use Rattle.std.proofs.Math.Seq.{drop-cons}
use Rattle.chains.specs.Shapes.{Shape, all_of, highest}
use Rattle.chains.proofs.Bounds.{find-found, find-past}

pub all_of-append : {E : Type 0} (ts us : List (Shape E)) → all_of (ts ++ us) ≡ all_of ts ++ all_of us
all_of-append [] us = refl
all_of-append {E} (t ∷ ts) us = ap (λ (xs : List E). t.chunks ++ xs) (all_of-append ts us) ∙ sym (append_assoc t.chunks (all_of ts) (all_of us))

pub all_of-push : {E : Type 0} (ts : List (Shape E)) (t : Shape E) → all_of (ts ++ t ∷ []) ≡ all_of ts ++ t.chunks
all_of-push {E} ts t = all_of-append ts (t ∷ []) ∙ ap (λ (xs : List E). all_of ts ++ xs) (append-nil t.chunks)

pub highest-append : {E : Type 0} (ts us : List (Shape E)) → highest us ≤ highest (ts ++ us)
highest-append [] us = omega arith
highest-append (t ∷ ts) us = omega (arith, highest-append ts us)

pub highest-take : {E : Type 0} (n : ℕ) (ts : List (Shape E)) → highest (take n ts) ≤ highest ts
highest-take zero ts = omega arith
highest-take (suc n) [] = omega arith
highest-take (suc n) (t ∷ ts) = omega (arith, highest-take n ts)

-- none of them is higher than the highest
pub at_low : {E : Type 0} (ts : List (Shape E)) (k : ℕ) (t : Shape E) → k < length ts → t ≡ get_or ts k t → t.height ≤ highest ts
at_low [] k t inside is = absurd (omega (arith, inside))
at_low {E} (u ∷ us) zero t inside is = let same = ap (λ (x : Shape E). x.height) is in omega (arith, same)
at_low (u ∷ us) (suc k) t inside is = omega (arith, at_low us k t (omega (arith, inside)) is)

-- those behind the first
abbrev pub behind : {X : Type 0} → List X → List X
behind rest = take (length rest - 1) (drop 1 rest)

pub first-of-rest : {X : Type 0} (rest : List X) (x : X) → 1 ≤ length rest → x ≡ get_or rest 0 x → rest ≡ x ∷ behind rest
first-of-rest [] x some is = absurd (omega (arith, some))
first-of-rest (c ∷ cs) x some is = λ i. sym is i ∷ sym (take_rest (c ∷ cs) 1) i

-- those before the last
abbrev pub before : {X : Type 0} → List X → List X
before xs = take (length xs - 1) xs

pub last-of : {X : Type 0} (xs : List X) (x : X) → 1 ≤ length xs → x ≡ get_or xs (length xs - 1) x → xs ≡ before xs ++ x ∷ []
last-of {X} xs x some is =
    let n = length xs - 1 in
    let end : drop (suc n) xs ≡ [] = drop_all (suc n) xs (omega (arith, some)) in
    sym (take-append-drop n xs)
    ∙ ap (λ (l : List X). before xs ++ l) (drop-cons xs n x (omega (arith, some)) ∙ (λ i. sym is i ∷ end i))

module _ {E : Type 0} (rest : List (Shape E)) {t : Shape E} (some : 1 ≤ length rest) (is : t ≡ get_or rest 0 t) where
  pub rest_is : rest ≡ t ∷ behind rest
  rest_is = first-of-rest rest t some is

  pub chunks_are : all_of rest ≡ t.chunks ++ all_of (behind rest)
  chunks_are = ap all_of rest_is

  pub first_low : t.height ≤ highest rest
  first_low = rw rest_is (omega arith)

  pub behind_low : highest (behind rest) ≤ highest rest
  behind_low = let whole = ap highest rest_is in omega (arith, whole)

  -- what is found in the first, and behind it
  pub find_first : (p : E → Bool) (x : E) → find p t.chunks ≡ Some x → find p (all_of rest) ≡ Some x
  find_first p x e = ap (λ (xs : List E). find p xs) chunks_are ∙ find-found p t.chunks (all_of (behind rest)) x e

  pub find_behind : (p : E → Bool) → find p t.chunks ≡ None → find p (all_of (behind rest)) ≡ find p (all_of rest)
  find_behind p e = sym (ap (λ (xs : List E). find p xs) chunks_are ∙ find-past p t.chunks (all_of (behind rest)) e)

-- what was put behind others, and a part that grows, are as much as they were with what came next
pub put-part : {X : Type 0} (f f' p p' p'' xs rest rest' total : List X) → f' ++ p' ≡ f ++ p → p'' ≡ p' ++ xs → rest ≡ xs ++ rest' → f ++ (p ++ rest) ≡ total
    → f' ++ (p'' ++ rest') ≡ total
put-part {X} f f' p p' p'' xs rest rest' total put grown first is =
    ap (λ (l : List X). f' ++ (l ++ rest')) grown
    ∙ ap (λ (l : List X). f' ++ l) (append_assoc p' xs rest')
    ∙ sym (append_assoc f' p' (xs ++ rest'))
    ∙ ap (λ (l : List X). l ++ (xs ++ rest')) put
    ∙ append_assoc f p (xs ++ rest')
    ∙ ap (λ (l : List X). f ++ (p ++ l)) (sym first)
    ∙ is

-- two parts put one after another
pub put-two : {X : Type 0} (f f2 f3 p q whole : List X) → f2 ≡ f ++ p → f3 ≡ f2 ++ q → whole ≡ p ++ q → f3 ≡ f ++ whole
put-two {X} f f2 f3 p q whole first second is =
    second ∙ ap (λ (l : List X). l ++ q) first ∙ append_assoc f p q ∙ ap (λ (l : List X). f ++ l) (sym is)

-- the last of them and those before it
pub popped : {E : Type 0} {ts : List (Shape E)} (us : List (Shape E)) (t : Shape E) → ts ≡ us ++ t ∷ [] → all_of ts ≡ all_of us ++ t.chunks
popped {E} {ts} us t is = ap all_of is ∙ all_of-push us t

pub popped_low : {E : Type 0} {ts : List (Shape E)} (us : List (Shape E)) (t : Shape E) → ts ≡ us ++ t ∷ [] → t.height ≤ highest ts
popped_low {E} {ts} us t is = let whole = ap highest is in omega (arith, whole, highest-append us (t ∷ []))

pub none-left : {E : Type 0} (rest : List (Shape E)) → length rest < 1 → all_of rest ≡ []
none-left [] none = refl
none-left (t ∷ ts) none = absurd (omega (arith, none))

pub nothing : {X : Type 0} (xs : List X) → length xs ≡ 0 → xs ≡ []
nothing [] none = refl
nothing (x ∷ xs) none = absurd (omega (arith, none))
