use Rattle.std.specs.Prelude.{IsTrue}
use Rattle.history.specs.Machine.{Machine}
use Rattle.law_image.specs.Values.{Value}
use Rattle.law_any_store.specs.Standing.{Stands}
use Rattle.workload.specs.Reading.{HasLastRounds}
use Rattle.workload.proofs.in_memory.holds_last_rounds.Given as goal

abbrev pub invariant-loop-number : goal.invariant-loop-number
invariant-loop-number g l =
    ((m : Machine Value) → Stands g.D.Disk.tells l.fn.store m → Stands g.D.Disk.tells l.store m)
    × (IsTrue g.D.Disk.tells → (m : Machine Value) → Stands g.D.Disk.tells l.fn.store m → HasLastRounds m l.number l.plan.rounds)
