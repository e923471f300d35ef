use Rattle.std.proofs.Common.{[]}
use Rattle.law_any_store.specs.Standing.{opened_in}
use Rattle.bench.proofs.many_callers.holding.measure.Given as goal

abbrev pub ghost-run_over : goal.ghost-run_over
ghost-run_over g a = opened_in a.store [] (λ relation. 0)
