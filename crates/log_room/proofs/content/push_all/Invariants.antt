use Rattle.std.proofs.Common.{◌≡◌, ◌++◌, length}
use Rattle.std.specs.List.{flat_map}
use Rattle.deltas.specs.Records.{spelling}
use Rattle.log_room.proofs.content.push_all.Given as goal

abbrev pub invariant-loop-record : goal.invariant-loop-record
invariant-loop-record g l =
    l.out.items ++ flat_map spelling (g.S.RecordSource.left l.source) ≡ l.initial.out.items ++ flat_map spelling (g.S.RecordSource.left l.initial.source)

abbrev pub decreases-loop-record : goal.decreases-loop-record
decreases-loop-record g l = length (g.S.RecordSource.left l.source)
