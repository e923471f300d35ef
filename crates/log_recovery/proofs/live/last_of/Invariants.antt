use Rattle.std.proofs.Common.{◌≡◌, length, map}
use Rattle.law_image.specs.Log.{last_time_after}
use Rattle.law_log_layout.specs.HeapLog.{member_told}
use Rattle.log_recovery.specs.Members.{heads_told}
use Rattle.log_recovery.proofs.live.last_of.Given as goal

abbrev pub invariant-loop-member : goal.invariant-loop-member
invariant-loop-member l =
    last_time_after l.last (heads_told (map member_told l.rest)) ≡ last_time_after 0 (heads_told (map member_told l.fn.members))

abbrev pub decreases-loop-member : goal.decreases-loop-member
decreases-loop-member l = length l.rest
