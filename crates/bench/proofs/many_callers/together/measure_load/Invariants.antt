use Rattle.std.proofs.Common.{[]}
use Rattle.law_any_store.specs.Standing.{opened_in}
use Rattle.bench.proofs.many_callers.together.measure_load.Given as goal

abbrev pub ghost-run_load : goal.ghost-run_load
ghost-run_load g a = opened_in a.store [] (λ relation. 0)
