use Rattle.std.proofs.Common.{vec_len}
use Rattle.test_calls.proofs.list_calls.answers_to.Given as goal

abbrev pub decreases-loop-held : goal.decreases-loop-held
decreases-loop-held l = vec_len l.places
