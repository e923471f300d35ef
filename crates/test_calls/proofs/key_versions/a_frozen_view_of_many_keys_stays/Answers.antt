use Rattle.test_calls.proofs.WriteSets.{sorted_one}
use Rattle.test_calls.proofs.key_versions.a_frozen_view_of_many_keys_stays.Goals as goal

pub with_commit-requires-clause-rising : goal.with_commit-requires-clause-rising
with_commit-requires-clause-rising g c = sorted_one _
