use Rattle.std.proofs.Common.{◌≡◌, ℕ, map, length}
use Rattle.law_image.specs.Log.{AreRisingAfter}
use Rattle.status.specs.Rules.{head_of}
use Rattle.law_layout.specs.Layouts.{later_than}
use Rattle.recovery.proofs.heap.later_than.Given as goal

abbrev pub invariant-loop-rest : goal.invariant-loop-rest
invariant-loop-rest l = (later_than l.fn.mark l.rest ≡ later_than l.fn.mark l.fn.entries) × (time : ℕ) × AreRisingAfter time (map head_of l.rest)

abbrev pub decreases-loop-rest : goal.decreases-loop-rest
decreases-loop-rest l = length l.rest
