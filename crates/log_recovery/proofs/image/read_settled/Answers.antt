use Rattle.std.proofs.Common.{List, map, sym, subst}
use Rattle.std.specs.List.{AllByRecursion}
use Rattle.law_layout.proofs.Lists.{all_of_back}
use Rattle.log_entries.specs.declared.entry.Roll.{Roll}
use Rattle.law_log_layout.specs.HeapLog.{run_span}
use Rattle.log_recovery.specs.Rules.{roll_part}
use Rattle.log_recovery.specs.Ends.{EndsEarly}
use Rattle.log_recovery.proofs.image.read_settled.Goals as goal

pub first_past-requires-clause-rolls : goal.first_past-requires-clause-rolls
first_past-requires-clause-rolls g c =
    let end = c.in-Ok-read_heap.heap.end in
    subst (λ (rolls : List Roll). AllByRecursion EndsEarly (map roll_part rolls)) (sym c.deref-2.ensures.value)
    (all_of_back EndsEarly (map run_span end.runs.items) (map roll_part end.rolls.items) c.in-Ok-read_heap.ensures.ends_early)
