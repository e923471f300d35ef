use Rattle.std.proofs.Common.{[]}
use Rattle.law_any_store.specs.Standing.{opened_in}
use Rattle.workload.proofs.in_memory.stress.Given as goal

abbrev pub ghost-stress_on : goal.ghost-stress_on
ghost-stress_on g a = opened_in a.store [] (λ relation. 0)
