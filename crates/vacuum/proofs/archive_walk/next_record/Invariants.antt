use Rattle.std.proofs.Common.{◌≡◌, length}
use Rattle.vacuum.specs.Archives.{keys_within, records_at}
use Rattle.vacuum.proofs.archive_walk.next_record.Given as goal

abbrev pub invariant-loop-chain : goal.invariant-loop-chain
invariant-loop-chain l = records_at l.since l.upto l.place l.frozen ≡ records_at l.since l.upto l.initial.place l.frozen

abbrev pub decreases-loop-chain : goal.decreases-loop-chain
decreases-loop-chain l = length (keys_within l.place.bound l.frozen)
