use Rattle.std.proofs.Common.{ℕ, ◌+◌, length, ap, ◌∙◌}
use Rattle.law_image.specs.Values.{Value}
use Rattle.law_image.specs.Facts.{field_bytes}
use Rattle.log_sizes.proofs.Fields.{fields-len}
use Rattle.log_sizes.proofs.lens.anchor_len.Goals as goal

pub returns-in-Some-clause-is : goal.returns-in-Some-clause-is
returns-in-Some-clause-is c =
    rw c.in-Some.is
    (ap (λ (n : ℕ). 20 + n) (ap length c.spelled.ensures.is ∙ fields-len c.fields.result.now ∙ ap (λ (v : Value). field_bytes v) c.fields.ensures))
