use Rattle.std.specs.Vec.Iter.{into_iter_items, into_iter_len}
use Rattle.extents.specs.Usages.{with_usages, AreOut}
use Rattle.group.specs.Taking.{LeftOut}
use Rattle.extents.specs.declared.usage.Usage.TheVariants.{Kept}
use Rattle.group.proofs.taking.keep_taken.Given as goal

abbrev pub invariant-loop-extent : goal.invariant-loop-extent
invariant-loop-extent l =
    AreOut l.fn.extents l.fn.taken.items → LeftOut l.extents (into_iter_items l.taken) (with_usages l.fn.extents l.fn.taken.items Kept) Kept

abbrev pub decreases-loop-extent : goal.decreases-loop-extent
decreases-loop-extent l = into_iter_len l.taken
