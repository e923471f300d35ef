use Rattle.test_calls.proofs.WriteSets.{sorted_one}
use Rattle.test_calls.proofs.key_versions.long_chain.Goals as goal

pub with_commit-requires-clause-rising : goal.with_commit-requires-clause-rising
with_commit-requires-clause-rising c = sorted_one _
