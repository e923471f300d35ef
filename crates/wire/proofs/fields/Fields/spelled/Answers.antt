use Rattle.std.proofs.Common.{sym, ◌∙◌}
use Rattle.wire.proofs.FieldsRead.{fields_all}
use Rattle.wire.proofs.fields.Fields.spelled.Goals as goal

pub returns-clause-is : goal.returns-clause-is
returns-clause-is c = rw (← c.self.view_is) (c.bytes.ensures ∙ sym (fields_all c.self.inside.spelled.count c.self.inside.spelled.bytes c.self.invariant))
