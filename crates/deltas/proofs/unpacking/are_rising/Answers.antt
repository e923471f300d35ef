use Rattle.std.proofs.Common.{rules, ◌<◌, length, take, drop, ◌-◌, arith}
use Rattle.deltas.proofs.Left.{head_tail}
use Rattle.deltas.proofs.Rising.{none_rise, first_rises}
use Rattle.deltas.proofs.unpacking.are_rising.Goals as goal

pub returns-in_default : goal.returns-in_default
returns-in_default c = (λ yes. none_rise c.args.records.now (omega (arith, c.in_default.len_below)), λ sorted. search rules)

pub loop-rest-init : goal.loop-rest-init
loop-rest-init c =
    let some : 0 < length c.args.records.now = search rules in
    first_rises c.args.records.now (take (length c.args.records.now - 1) (drop 1 c.args.records.now)) c.first-item.result
    (head_tail c.args.records.now c.first-item.result some c.first-item.is)
