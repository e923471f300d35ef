use Rattle.std.proofs.Common.{◌-◌, ℕ, List, ◌++◌, take, drop}
use Rattle.std.specs.List.{flat_map}
use Rattle.extents.specs.Usages.{with_usages, AreOut}
use Rattle.group.specs.Steps.{with_chains}
use Rattle.extents.specs.declared.usage.Usage.TheVariants.{Kept}
use Rattle.group.specs.Queued.{numbers_of}
use Rattle.group.specs.Values.{versions_after}
use Rattle.group.proofs.Publishing.{AreLeft}
use Rattle.group.proofs.steps.publish_first.Given as goal

abbrev pub invariant-loop : goal.invariant-loop
invariant-loop l =
    record {
      left : AreLeft l.versions l.extents l.queue.items (l.fn.count - l.counter) l.times (with_chains l.fn.times (take l.fn.count l.fn.queue.items))
          (versions_after l.fn.versions (take l.fn.count l.fn.queue.items))
          (with_usages l.fn.extents (flat_map numbers_of (take l.fn.count l.fn.queue.items)) Kept)
          (drop l.fn.count l.fn.queue.items);
      still : (others : List ℕ) → AreOut l.fn.extents (flat_map numbers_of l.fn.queue.items ++ others)
          → AreOut l.extents (flat_map numbers_of l.queue.items ++ others);
    }
