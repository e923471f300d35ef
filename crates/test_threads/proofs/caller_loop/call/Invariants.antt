use Rattle.std.proofs.Common.{◌<◌}
use Rattle.test_threads.proofs.caller_loop.call.Given as goal

abbrev pub invariant-loop : goal.invariant-loop
invariant-loop g l = 0 < l.share.parts
