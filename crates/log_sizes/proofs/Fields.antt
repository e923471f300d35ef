-- The bytes of a value's fields.
use Rattle.std.proofs.Common.{◌≡◌, List, [], ◌∷◌, ℕ, ◌+◌, length, refl, arith, length-append}
use Rattle.std.proofs.lemmas.List.Sums.{sum_by-cons}
use Rattle.law_image.specs.Values.{Value}
use Rattle.law_image.specs.Facts.{field_bytes}
use Rattle.wire.specs.Fields.{fields_bytes}

pub fields-len : (value : Value) → length (fields_bytes value) ≡ field_bytes value
fields-len [] = refl
fields-len (field ∷ fields) =
    omega (arith, fields-len fields, sum_by-cons (λ (f : List ℕ). 1 + length f) field fields, length-append field (fields_bytes fields))
