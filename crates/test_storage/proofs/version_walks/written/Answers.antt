use Rattle.chains.proofs.Sorted.{sorted_one}
use Rattle.test_storage.proofs.version_walks.written.Goals as goal

pub with_commit-requires-clause-rising : goal.with_commit-requires-clause-rising
with_commit-requires-clause-rising c = sorted_one _
