use Rattle.std.proofs.Common.{refl}
use Rattle.test_calls.proofs.WriteSets.{sorted_one, sorted_two}
use Rattle.test_calls.proofs.key_versions.two_records.Goals as goal

pub with_commit-requires-clause-rising : goal.with_commit-requires-clause-rising
with_commit-requires-clause-rising c = sorted_one _

pub with_commit-requires-2-clause-rising : goal.with_commit-requires-2-clause-rising
with_commit-requires-2-clause-rising c = sorted_two _ _ (rw (c.in_ok-put-2.ensures, c.in_ok-put-3.ensures) refl)

pub with_commit-requires-3-clause-rising : goal.with_commit-requires-3-clause-rising
with_commit-requires-3-clause-rising c = sorted_one _
