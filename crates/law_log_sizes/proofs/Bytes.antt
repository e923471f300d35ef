-- The bytes of anchors are those of their values.
use Rattle.std.proofs.Common.{◌≡◌, ℕ, ◌+◌, ◌*◌, ◌≤◌, List, [], ◌∷◌, length, Some, refl, arith, length-append}
use Rattle.std.specs.Prelude.{flat_map}
use Rattle.std.proofs.lemmas.List.Sums.{sum_by-cons}
use Rattle.history.specs.declared.key.Key.{Key}
use Rattle.std.specs.List.{AllByRecursion}
use Rattle.law_image.specs.Values.{Value, IsField, IsValue}
use Rattle.law_image.specs.Reading.{OldRecord}
use Rattle.law_image.specs.Facts.{field_bytes}
use Rattle.wire.specs.Numbers.{u16_bytes, u64_bytes}
use Rattle.wire.specs.Fields.{fields_bytes}
use Rattle.deltas.specs.Records.{spelling}
use Rattle.law_layout.specs.Records.{old_bytes}
use Rattle.law_log_sizes.specs.Sizes.{old_len}
use Rattle.law_log_sizes.proofs.Putting.{olds_len}

fields-len : (value : Value) → length (fields_bytes value) ≡ field_bytes value
fields-len [] = refl
fields-len (field ∷ fields) =
    let rest = fields-len fields in
    let sums = sum_by-cons (λ (f : List ℕ). 1 + length f) field fields in
    omega (arith, rest, sums, length-append field (fields_bytes fields))

pub old-len : (key : Key) (from : ℕ) (value : Value) → length (old_bytes (record { key = key; from = from; value = value })) ≡ old_len (Some value)
unfolding old_bytes spelling u16_bytes u64_bytes
old-len key from value = omega (arith, fields-len value)

pub bytes-len : (olds : List OldRecord) → length (flat_map old_bytes olds) ≡ olds_len olds
bytes-len [] = refl
bytes-len (old ∷ olds) =
    omega (arith, length-append (old_bytes old) (flat_map old_bytes olds), old-len old.key old.from old.value, bytes-len olds)

fields-few : (fields : Value) → AllByRecursion IsField fields → field_bytes fields ≤ 256 * length fields
fields-few [] each = omega arith
fields-few (field ∷ fields) each =
    omega (arith, sum_by-cons (λ (f : List ℕ). 1 + length f) field fields, each.0.short, fields-few fields each.1)

pub old-fits : (value : Value) → IsValue value → old_len (Some value) ≤ 4116
old-fits value is = omega (arith, fields-few value is.fields, is.few)
