use Rattle.std.proofs.Common.{map}
use Rattle.std.specs.Vec.Iter.{into_iter_items, into_iter_len}
use Rattle.extents.specs.Usages.{with_usages, AreOut}
use Rattle.group.specs.Taking.{LeftOut}
use Rattle.extents.specs.declared.usage.Usage.TheVariants.{Kept}
use Rattle.group.proofs.taking.keep_all.Given as goal

abbrev pub invariant-loop-extent : goal.invariant-loop-extent
invariant-loop-extent l = AreOut l.fn.extents (map (λ s. s.extent) l.fn.stored.items)
    → LeftOut l.extents (map (λ s. s.extent) (into_iter_items l.stored)) (with_usages l.fn.extents (map (λ s. s.extent) l.fn.stored.items) Kept) Kept

abbrev pub decreases-loop-extent : goal.decreases-loop-extent
decreases-loop-extent l = into_iter_len l.stored
