-- The lines of a log are written one after another.
use Rattle.std.proofs.Common.{◌≡◌, ℕ, ◌+◌, ◌<◌, ◌≤◌, List, [], ◌∷◌, ◌++◌, length, take, get_or, refl, sym, ap, subst, ◌∙◌, Option, append_assoc, append-nil}
use Rattle.std.proofs.lemmas.List.{take_more, take_all}
use Rattle.std.specs.Io.KnownBytes.{Appends}
use Rattle.std.proofs.KnownBytes.{Appends-nil, Appends-trans}
use Rattle.log_dump.specs.Dump.{Text, Each}

-- a text of each was written
abbrev pub Written : {X : Type 0} → (X → Text → Type 0) → List X → Option Text → Option Text → Type 0
Written P xs a b = (text : Text) × Each P xs text × Appends a b text

each_one : {X : Type 0} (P : X → Text → Type 0) (ys : List X) (x : X) (done piece : Text) → Each P ys done → P x piece
    → Each P (ys ++ x ∷ []) (done ++ piece)
each_one P [] x done piece none here = (piece, [], here, refl, ap (λ (t : Text). t ++ piece) none ∙ sym (append-nil piece))
each_one P (y ∷ ys) x done piece each here = (
  each.0,
  each.1 ++ piece,
  each.2,
  each_one P ys x each.1 piece each.3 here,
  ap (λ (t : Text). t ++ piece) each.4 ∙ append_assoc each.0 each.1 piece,
)

pub written_none : {X : Type 0} (P : X → Text → Type 0) (a : Option Text) → Written P [] a a
written_none P a = ([], refl, Appends-nil a)

pub written_one : {X : Type 0} (P : X → Text → Type 0) (a b c : Option Text) (xs : List X) (i : ℕ) (d : X) → i < length xs
    → Written P (take i xs) a b → ((piece : Text) × P (get_or xs i d) piece × Appends b c piece) → Written P (take (i + 1) xs) a c
written_one P a b c xs i d lt before here = (
  before.0 ++ here.0,
  subst (λ (l : List _). Each P l (before.0 ++ here.0)) (sym (take_more xs i d lt))
      (each_one P (take i xs) (get_or xs i d) before.0 here.0 before.1 here.1),
  Appends-trans a b c before.0 here.0 before.2 here.2,
)

pub written_all : {X : Type 0} (P : X → Text → Type 0) (a b : Option Text) (xs : List X) (i : ℕ) → length xs ≤ i
    → Written P (take i xs) a b → Written P xs a b
written_all P a b xs i past written = subst (λ (l : List _). Written P l a b) (take_all i xs past) written

-- the same of an element that is known by its place
pub written_item : {X : Type 0} (P : X → Text → Type 0) (a b c : Option Text) (xs : List X) (i : ℕ) (x : X) → x ≡ get_or xs i x → i < length xs
    → Written P (take i xs) a b → ((piece : Text) × P x piece × Appends b c piece) → Written P (take (i + 1) xs) a c
written_item P a b c xs i x is lt before here =
    written_one P a b c xs i x lt before (here.0, subst (λ (y : _). P y here.0) is here.1, here.2)

-- three texts are written, one after another
pub three_written : (a b c d : Option Text) (x y z : Text) → Appends a b x → Appends b c y → Appends c d z → Appends a d (x ++ (y ++ z))
three_written a b c d x y z first second third = Appends-trans a b d x (y ++ z) first (Appends-trans b c d y z second third)
