use Rattle.std.proofs.Common.{◌≡◌, length}
use Rattle.deltas.specs.Records.{spelling}
use Rattle.log_entries.proofs.Lists.{SoFar}
use Rattle.log_recovery.specs.Anchored.{IsAnchorRecord}
use Rattle.log_recovery.proofs.anchors.take_records.Given as goal

abbrev pub invariant-loop : goal.invariant-loop
invariant-loop l = SoFar spelling (IsAnchorRecord l.mark) l.bytes l.found.items l.rest × (length l.found.items ≡ l.counter)
