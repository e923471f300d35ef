use Rattle.std.proofs.Common.{List, ◌++◌, length}
use Rattle.std.specs.List.{AllByRecursion}
use Rattle.wire.specs.Spelling.{IsRun}
use Rattle.archive.specs.declared.run.RunEntry.{RunEntry}
use Rattle.log_store.specs.Opens.{AreEntriesFrom}
use Rattle.log_store.proofs.opening.entries_of.Given as goal

abbrev pub invariant-loop-run : goal.invariant-loop-run
invariant-loop-run l =
    AllByRecursion IsRun l.rest
    × ((others : List RunEntry) → AreEntriesFrom l.mark l.rest others → AreEntriesFrom 0 l.fn.runs (l.entries.items ++ others))

abbrev pub decreases-loop-run : goal.decreases-loop-run
decreases-loop-run l = length l.rest
