use Rattle.std.proofs.Common.{◌≡◌, take}
use Rattle.std.specs.Prelude.{map}
use Rattle.law_image.specs.Log.{last_time_after}
use Rattle.status.specs.Rules.{head_of}
use Rattle.status.proofs.log_end.last_after.Given as goal

abbrev pub invariant-loop-member : goal.invariant-loop-member
invariant-loop-member l = l.last ≡ last_time_after l.before (map head_of (take l.member-index l.members))
