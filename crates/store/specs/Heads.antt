-- The commits that a log names, as they stand in the commit order of an opened store.
use Rattle.std.specs.Prelude.{false}
use Rattle.group.specs.declared.commit_order.CommitHead.{CommitHead}
use Rattle.wire.specs.declared.slot.Member.{Member}

-- no ticket of it is out
abbrev pub head_as : Member → CommitHead
head_as member = record { time = member.time; label = member.label; awaited = false }
