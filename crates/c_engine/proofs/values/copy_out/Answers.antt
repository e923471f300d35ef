use Rattle.std.proofs.Common.{◌≡◌, ◌∙◌, ◌+◌, ◌-◌, ◌≤◌, ap, List, ℕ, length, ◌∷◌, arith}
use Rattle.wire.specs.Fields.{fields_bytes}
use Rattle.c_engine.proofs.Fronts.{front}
use Rattle.c_engine.proofs.values.copy_out.Goals as goal

pub returns-clause-copied : goal.returns-clause-copied
returns-clause-copied c =
    let is : c.spelled-spelled.result.now ≡ fields_bytes c.args.value.now =
    c.spelled-spelled.ensures.is ∙ ap (λ (v : List (List ℕ)). fields_bytes v) c.fields.ensures in
    let len : length c.spelled-spelled.result.now ≡ length (fields_bytes c.args.value.now) = ap (λ (s : List ℕ). length s) is in
    let some : 1 ≤ length c.args.out.now = omega (arith, c.if-out-len.false) in (
      omega (arith, len),
      front c.args.out.now (length c.spelled-spelled.result.now + 1 - 1) c.len.result c.copy_from_slice.new.self c.spelled-spelled.result.now some
          c.copy_from_slice.ensures.after
          ∙ (λ i. c.len.ensures.is i ∷ is i),
    )
