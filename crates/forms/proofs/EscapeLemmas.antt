-- A text is read byte by byte.
use Rattle.std.proofs.Common.{◌≡◌, ℕ, ◌+◌, ◌<◌, ◌==◌, if◌then◌else◌, Bool, true, false, [], ◌∷◌}
use Rattle.std.proofs.Common.{◌++◌, length, drop, get_or, refl, sym, ap, ◌∙◌, Option, Some, None, append_assoc}
use Rattle.std.specs.Option.{option_and_then}
use Rattle.std.proofs.lemmas.List.{drop_more}
use Rattle.forms.specs.Fields.{ReadsByte, Text, escaped_byte, prepended, unescaped, with_byte}

pub prepended-none : (o : Option Text) → prepended [] o ≡ o
prepended-none None = refl
prepended-none (Some ys) = refl

pub prepended-with : (xs : Text) (b : ℕ) (o : Option Text) → prepended xs (with_byte b o) ≡ prepended (xs ++ b ∷ []) o
prepended-with xs b None = refl
prepended-with xs b (Some ys) = ap Some (sym (append_assoc xs (b ∷ []) ys))

-- after a backslash the byte for which a letter stands is read
pub reads_escaped : (xs ys : Text) (is_after : Bool) (b m : ℕ) → is_after ≡ true → escaped_byte b ≡ Some m → ys ≡ xs ++ m ∷ []
    → (rest : Text) → prepended xs (unescaped is_after (b ∷ rest)) ≡ prepended ys (unescaped false rest)
reads_escaped xs ys is_after b m after is more rest =
    ap (λ (a : Bool). prepended xs (unescaped a (b ∷ rest))) after
    ∙ ap (λ (o : Option ℕ). prepended xs (option_and_then (λ (n : ℕ). with_byte n (unescaped false rest)) o)) is
    ∙ prepended-with xs m (unescaped false rest)
    ∙ ap (λ (zs : Text). prepended zs (unescaped false rest)) (sym more)

-- else the byte itself
pub reads_plain : (xs ys : Text) (is_after : Bool) (b : ℕ) → is_after ≡ false → (b == 92) ≡ false → ys ≡ xs ++ b ∷ []
    → (rest : Text) → prepended xs (unescaped is_after (b ∷ rest)) ≡ prepended ys (unescaped false rest)
reads_plain xs ys is_after b after is more rest =
    ap (λ (a : Bool). prepended xs (unescaped a (b ∷ rest))) after
    ∙ ap (λ (t : Bool). prepended xs (if t then unescaped true rest else with_byte b (unescaped false rest))) is
    ∙ prepended-with xs b (unescaped false rest)
    ∙ ap (λ (zs : Text). prepended zs (unescaped false rest)) (sym more)

-- what is left of a text, one byte on
pub reads_on : (text xs ys : Text) (is_after after : Bool) (i b : ℕ) → i < length text → b ≡ get_or text i 0
    → unescaped false text ≡ prepended xs (unescaped is_after (drop i text)) → ReadsByte xs is_after b ys (Some after)
    → unescaped false text ≡ prepended ys (unescaped after (drop (i + 1) text))
reads_on text xs ys is_after after i b lt is so_far reads =
    so_far
    ∙ ap (λ (left : Text). prepended xs (unescaped is_after left)) (drop_more text i 0 lt ∙ ap (λ (n : ℕ). n ∷ drop (i + 1) text) (sym is))
    ∙ reads (drop (i + 1) text)

pub reads_none : (text xs ys : Text) (is_after : Bool) (i b : ℕ) → i < length text → b ≡ get_or text i 0
    → unescaped false text ≡ prepended xs (unescaped is_after (drop i text)) → ReadsByte xs is_after b ys None → unescaped false text ≡ None
reads_none text xs ys is_after i b lt is so_far reads =
    so_far
    ∙ ap (λ (left : Text). prepended xs (unescaped is_after left)) (drop_more text i 0 lt ∙ ap (λ (n : ℕ). n ∷ drop (i + 1) text) (sym is))
    ∙ reads (drop (i + 1) text)
