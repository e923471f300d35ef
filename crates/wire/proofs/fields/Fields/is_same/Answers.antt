use Rattle.std.proofs.Common.{◌≡◌, sym, ap, ◌∙◌, length}
use Rattle.wire.specs.Fields.{fields_bytes}
use Rattle.wire.proofs.FieldsRead.{fields_same}
use Rattle.wire.proofs.fields.Fields.is_same.Goals as goal

pub returns : goal.returns
returns c =
    let len : length c.args.self.now ≡ length c.args.other.now = sym c.count.ensures.is ∙ c.if-count.false ∙ c.count-2.ensures.is in (
      λ yes. fields_same c.args.self.now c.args.other.now len (sym c.spelled.ensures.is ∙ c.are_same.ensures.0 yes ∙ c.spelled-2.ensures.is),
      λ same. c.are_same.ensures.1 (c.spelled.ensures.is ∙ ap fields_bytes same ∙ sym c.spelled-2.ensures.is),
    )
