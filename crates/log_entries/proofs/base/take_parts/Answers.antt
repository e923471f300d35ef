use Rattle.std.proofs.Common.{rules, arith}
use Rattle.wire.proofs.FieldsRead.{whole_rest}
use Rattle.wire.proofs.Zeros.{AreBytes}
use Rattle.log_entries.proofs.Bases.{parts_read}
use Rattle.log_entries.proofs.base.take_parts.Goals as goal

pub returns : goal.returns
returns c =
    let small : AreBytes c.args.bytes.now = λ i. omega (arith, c.type_inv.bytes i) in
    let rolls = c.in_ok-rolls.ensures in
    let archives = c.in_ok-archives.ensures in
    let floors = c.in_ok-floors.ensures in
    parts_read c.args.bytes.now _ c.in_ok-rolls.rest.now c.in_ok-archives.rest.now c.in_ok-floors.rest.now c.read_upto.result c.read_anchors.result
    c.in_ok-rolls.rolls.items c.of.result c.in_ok-archives.archives.items c.of-2.result c.in_ok-floors.floors.items c.of-3.result
    small c.requires.long c.requires.kind (whole_rest 21 c.args.bytes.now) (search rules) (search rules) (search rules) (search rules) c.read_upto.ensures
    c.read_anchors.ensures
    rolls.each rolls.bytes rolls.all c.of.ensures archives.each archives.bytes archives.all c.of-2.ensures floors.each floors.bytes floors.all c.of-3.ensures
