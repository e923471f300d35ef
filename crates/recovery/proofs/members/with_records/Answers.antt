use Rattle.std.proofs.Common.{refl, ◌∙◌}
use Rattle.recovery.specs.Resolving.{before_of}
use Rattle.recovery.proofs.Stored.{rising_writes}
use Rattle.recovery.proofs.members.with_records.Goals as goal

pub into_commit-requires-clause-rising : goal.into_commit-requires-clause-rising
into_commit-requires-clause-rising c =
    let resolved = rw c.in-Some.is at c.in_ok-writes.ensures in
    rising_writes (before_of c.args.chains) c.args.records.items c.args.records.items c.deref.result.now refl (c.deref.ensures.value
    ∙ resolved.1) c.requires.records.rising
