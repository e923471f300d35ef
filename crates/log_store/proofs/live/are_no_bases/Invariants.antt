use Rattle.std.proofs.Common.{◌↔◌, length}
use Rattle.std.specs.List.{AllByRecursion}
use Rattle.log_store.specs.Live.{IsNoBase}
use Rattle.log_store.proofs.live.are_no_bases.Given as goal

abbrev pub invariant-loop-rest : goal.invariant-loop-rest
invariant-loop-rest l = AllByRecursion IsNoBase l.rest ↔ AllByRecursion IsNoBase l.chains

abbrev pub decreases-loop-rest : goal.decreases-loop-rest
decreases-loop-rest l = length l.rest
