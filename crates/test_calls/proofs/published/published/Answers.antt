use Rattle.test_calls.proofs.WriteSets.{sorted_one}
use Rattle.test_calls.proofs.published.published.Goals as goal

pub with_commit-requires-clause-rising : goal.with_commit-requires-clause-rising
with_commit-requires-clause-rising c = sorted_one _
