use Rattle.std.proofs.Common.{◌≡◌, ◌++◌, map, length}
use Rattle.std.specs.Prelude.{flat_map}
use Rattle.law_log_layout.specs.HeapLog.{name_bytes}
use Rattle.log_base.specs.Names.{head_of}
use Rattle.log_base.proofs.names.spelled.Given as goal

abbrev pub invariant-loop-rest : goal.invariant-loop-rest
invariant-loop-rest l = l.bytes.items ++ flat_map name_bytes (map head_of l.rest) ≡ flat_map name_bytes (map head_of l.names)

abbrev pub decreases-loop-rest : goal.decreases-loop-rest
decreases-loop-rest l = length l.rest
