use Rattle.std.proofs.Common.{◌-◌, ◌+◌, arith}
use Rattle.wire.proofs.FieldsRead.{skip_step, none_more}
use Rattle.wire.proofs.fields.skip_fields.Goals as goal

pub loop-preserved : goal.loop-preserved
loop-preserved c =
    skip_step (c.args.count - c.loop.counter) (c.args.count - (c.loop.counter + 1)) c.args.count c.loop.rest.now c.in-Some.after.now c.args.bytes.now
    (omega arith) c.in-Some.ensures.0 c.in-Some.ensures.1 c.loop.invariant

pub returns-in_default : goal.returns-in_default
returns-in_default c = none_more (c.args.count - c.loop.counter) (c.args.count - (c.loop.counter + 1)) c.args.count c.loop.rest.now c.args.bytes.now
    (omega arith) c.in_default.ensures c.loop.invariant.0
