use Rattle.std.proofs.Common.{◌≡◌, ℕ, List, Bool, true, false, refl}
use Rattle.std.specs.Str.{IsUtf8, is_utf8}
use Rattle.std.proofs.lemmas.Str.{IsUtf8-from_is_utf8, is_utf8-from_IsUtf8}
use Rattle.forms.proofs.text_field.as_text.Goals as goal

is_none : (bytes : List ℕ) → ¬ (IsUtf8 bytes) → (b : Bool) → is_utf8 bytes ≡ b → b ≡ false
is_none bytes not_text false e = refl
is_none bytes not_text true e = absurd (not_text (IsUtf8-from_is_utf8 bytes e))

pub returns-in-Ok : goal.returns-in-Ok
returns-in-Ok c = (c.in-Ok.ensures.cases.0, is_utf8-from_IsUtf8 c.args.bytes.now c.in-Ok.ensures.cases.1)

pub returns-in-Err : goal.returns-in-Err
returns-in-Err c = is_none c.args.bytes.now c.in-Err.ensures.cases.0 (is_utf8 c.args.bytes.now) refl
