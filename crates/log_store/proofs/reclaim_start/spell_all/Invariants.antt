use Rattle.std.proofs.Common.{◌≡◌, ◌≤◌, ◌+◌, ◌++◌, length}
use Rattle.std.specs.Prelude.{flat_map}
use Rattle.deltas.specs.Records.{spelling}
use Rattle.log_store.proofs.reclaim_start.spell_all.Given as goal

abbrev pub invariant-loop-record : goal.invariant-loop-record
invariant-loop-record g l = record {
  bytes : l.bytes.items ++ flat_map spelling (g.S.RecordSource.left l.source) ≡ flat_map spelling (g.S.RecordSource.left l.initial.source);
  count : l.records + length (g.S.RecordSource.left l.source) ≡ length (g.S.RecordSource.left l.initial.source);
  few : l.records ≤ length l.bytes.items;
}

abbrev pub decreases-loop-record : goal.decreases-loop-record
decreases-loop-record g l = length (g.S.RecordSource.left l.source)
