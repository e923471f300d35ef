use Rattle.std.proofs.Common.{◌≡◌, ◌+◌, vec_len, vec_capacity}
use Rattle.extents.specs.Usages.{with_usages, used_count}
use Rattle.extents.specs.declared.usage.Usage.TheVariants.{Out}
use Rattle.group.specs.Taking.{AreLeastFree}
use Rattle.group.proofs.taking.take_extents.Given as goal

abbrev pub invariant-loop : goal.invariant-loop
invariant-loop l = record {
  many : vec_len l.taken ≡ l.counter;
  room : vec_capacity l.taken ≡ l.count;
  least : AreLeastFree l.fn.extents l.taken.items;
  usages : l.extents ≡ with_usages l.fn.extents l.taken.items Out;
  used : used_count l.extents ≡ used_count l.fn.extents + l.counter;
}
