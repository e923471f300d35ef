use Rattle.std.proofs.Common.{◌-◌, ◌+◌, arith, slice_index}
use Rattle.wire.proofs.FieldsRead.{split_fields, whole_rest}
use Rattle.wire.proofs.fields.split.Goals as goal

pub returns-clause-has : goal.returns-clause-has
returns-clause-has c = rw (whole_rest (1 + slice_index c.args.bytes.now 0) c.args.bytes.now)
    (split_fields c.args.count (c.args.count - 1) c.args.bytes.now (omega arith) c.requires.has).has

pub returns-clause-fields : goal.returns-clause-fields
returns-clause-fields c = rw (whole_rest (1 + slice_index c.args.bytes.now 0) c.args.bytes.now)
    (split_fields c.args.count (c.args.count - 1) c.args.bytes.now (omega arith) c.requires.has).fields
