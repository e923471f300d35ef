use Rattle.std.proofs.Common.{sym, ◌∙◌}
use Rattle.wire.proofs.FieldsRead.{length-fields_at}
use Rattle.wire.proofs.fields.Fields.count.Goals as goal

pub returns-clause-is : goal.returns-clause-is
returns-clause-is c =
    rw (← c.self.view_is) (c.count.ensures ∙ sym (length-fields_at c.self.inside.spelled.count c.self.inside.spelled.bytes c.self.invariant.has))
