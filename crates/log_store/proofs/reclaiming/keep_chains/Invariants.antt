use Rattle.std.proofs.Common.{◌≡◌, ◌≤◌, ◌+◌, ◌/◌, length}
use Rattle.std.specs.List.{AllByRecursion}
use Rattle.log_store.specs.Live.{HasNumbers}
use Rattle.log_store.specs.Reclaiming.{all_kept, kept_numbers}
use Rattle.log_store.proofs.reclaiming.keep_chains.Given as goal

abbrev pub invariant-loop-first : goal.invariant-loop-first
invariant-loop-first l = record {
  numbers : AllByRecursion HasNumbers l.rest;
  half : l.room.log + length (kept_numbers l.rest) + l.room.promised ≤ length l.room.used / 2;
  kept : all_kept l.room l.rest ≡ all_kept l.fn.room l.chains;
}

abbrev pub decreases-loop-first : goal.decreases-loop-first
decreases-loop-first l = length l.rest
