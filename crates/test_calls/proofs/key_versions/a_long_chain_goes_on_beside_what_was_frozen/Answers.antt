use Rattle.test_calls.proofs.WriteSets.{sorted_one}
use Rattle.test_calls.proofs.key_versions.a_long_chain_goes_on_beside_what_was_frozen.Goals as goal

pub with_commit-requires-clause-rising : goal.with_commit-requires-clause-rising
with_commit-requires-clause-rising g c = sorted_one _
