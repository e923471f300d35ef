use Rattle.std.proofs.Common.{List, [], ◌∷◌, ℕ, ◌<◌, ◌≤◌, length, ap, arith, length-append}
use Rattle.wire.specs.Fields.{fields_bytes}
use Rattle.wire.specs.Values.{value_bytes}
use Rattle.archive.specs.Answers.{record_of}
use Rattle.archive.specs.Records.{head_bytes}
use Rattle.archive.proofs.Places.{length-head_bytes}
use Rattle.archive.proofs.encode.record_len.Goals as goal

pub returns-clause-is : goal.returns-clause-is
returns-clause-is c = λ head.
    let r = record_of head c.args.value.now in
    omega (
      arith,
      length-append (head_bytes r) (value_bytes c.args.value.now),
      length-head_bytes r,
      ap length c.spelled.ensures.is,
      ap (λ (fields : List (List ℕ)). length (fields_bytes fields)) c.fields.ensures,
    )

some-bytes : (fields : List (List ℕ)) → 0 < length fields → 1 ≤ length (fields_bytes fields)
some-bytes [] some = absurd (omega arith)
some-bytes (field ∷ fields) some = omega arith

pub returns-clause-least : goal.returns-clause-least
returns-clause-least c =
    let some = some-bytes c.args.value.now c.len-fields.ensures.value.some in
    omega (arith, some, ap length c.spelled.ensures.is, ap (λ (fields : List (List ℕ)). length (fields_bytes fields)) c.fields.ensures)
