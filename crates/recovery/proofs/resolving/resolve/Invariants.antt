use Rattle.std.proofs.Common.{◌≡◌, ◌++◌, map}
use Rattle.std.specs.Prelude.{◌↔◌}
use Rattle.std.specs.List.{AllByRecursion}
use Rattle.deltas.specs.Records.{heap_record}
use Rattle.deltas.specs.Chains.{IsPermitted}
use Rattle.deltas.specs.declared.chain.Kinds.TheVariants.{OfCommit}
use Rattle.law_image.specs.Facts.{IsStored, write_of}
use Rattle.recovery.specs.Resolving.{before_of}
use Rattle.recovery.proofs.resolving.resolve.Given as goal

abbrev pub invariant-loop-entry : goal.invariant-loop-entry
invariant-loop-entry l =
    AllByRecursion (λ r. IsPermitted OfCommit r.content) l.entry-iterator.rest.items
    × (AllByRecursion (IsStored (before_of l.chains)) (map heap_record l.entry-iterator.rest.items)
    ↔ AllByRecursion (IsStored (before_of l.chains)) (map heap_record l.fn.records.items))
    × (l.writes.items ++ map (write_of (before_of l.chains)) (map heap_record l.entry-iterator.rest.items)
    ≡ map (write_of (before_of l.chains)) (map heap_record l.fn.records.items))
