use Rattle.std.proofs.Common.{◌-◌, take, drop}
use Rattle.commits.specs.Values.{versions_after}
use Rattle.commits.proofs.Kept.{AreLeft}
use Rattle.commits.proofs.groups.publish_first.Given as goal

abbrev pub invariant-loop : goal.invariant-loop
invariant-loop l =
    AreLeft l.versions l.queue.items (l.fn.count - l.counter) (versions_after l.fn.versions (take l.fn.count l.fn.queue.items))
    (drop l.fn.count l.fn.queue.items)
