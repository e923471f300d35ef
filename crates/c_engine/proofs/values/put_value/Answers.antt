use Rattle.std.proofs.Common.{◌≤◌, length, sym, arith}
use Rattle.std.proofs.lemmas.List.{length-take-le}
use Rattle.c_engine.proofs.Written.{puts}
use Rattle.c_engine.proofs.values.put_value.Goals as goal

pub slice_bounds-parts-end-2 : goal.slice_bounds-parts-end-2
slice_bounds-parts-end-2 c = omega (arith, c.take_fields_of-count.ensures.few, c.take_fields_of-count.ensures.room)

pub slice_bounds-put-end : goal.slice_bounds-put-end
slice_bounds-put-end c =
    let within : c.take_fields_of-count.result ≤ length c.take_fields_of-count.new.parts =
    omega (arith, c.take_fields_of-count.ensures.few, c.take_fields_of-count.ensures.room) in
    sym (length-take-le c.take_fields_of-count.result c.take_fields_of-count.new.parts within)

pub returns : goal.returns
returns c =
    puts c.args.key c.args.txn.now c.put.new.self c.args.value.now _ c.put.result c.take_fields_of-count.ensures.are c.requires c.put.ensures.ok
    c.put.ensures.missing c.put.ensures.too_many c.put.ensures.bad c.put.ensures.err
