use Rattle.std.proofs.Common.{◌≡◌, ℕ, map, take}
use Rattle.law_image.specs.Log.{floors_after}
use Rattle.law_log.specs.Chains.{floor_slot}
use Rattle.floors.specs.Floors.{floor_at}
use Rattle.law_log_layout.specs.HeapLog.{floor_told}
use Rattle.log_recovery.proofs.rules.with_raised.Given as goal

abbrev pub invariant-loop-floor : goal.invariant-loop-floor
invariant-loop-floor l =
    (relation : ℕ) → floor_at l.raised relation ≡ floors_after (floor_at l.floors) (map floor_slot (map floor_told (take l.floor-index l.more))) relation
