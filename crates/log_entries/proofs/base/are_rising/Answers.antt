use Rattle.std.proofs.Common.{arith}
use Rattle.log_entries.proofs.Bases.{first_rises, split_floors}
use Rattle.log_entries.proofs.base.are_rising.Goals as goal

pub loop-rest-init : goal.loop-rest-init
loop-rest-init c = first_rises c.args.floors.now _ _
    (split_floors c.args.floors.now (record { relation = 0; floor = 0 }) (omega (arith, c.in-len1-up.len_at_least)))
