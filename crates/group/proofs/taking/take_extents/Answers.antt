use Rattle.std.proofs.lemmas.Grind.{common_steps}
use Rattle.std.proofs.Common.{ℕ, List, sym, ap, subst, ◌∙◌, arith}
use Rattle.extents.specs.declared.usage.Usage.{Usage}
use Rattle.extents.specs.declared.usage.Usage.TheVariants.{Out}
use Rattle.extents.specs.Usages.{with_usage, with_usages, IsLeastFree}
use Rattle.group.specs.Taking.{AreLeastFree}
use Rattle.group.proofs.Taken.{with_usages-push, AreLeastFree-push}
use Rattle.group.proofs.taking.take_extents.Goals as goal

pub loop-preserved : goal.loop-preserved
loop-preserved c =
    let inv = c.loop.invariant in
    let start = c.args.extents.now in
    let items = c.loop.taken.items in
    let n = c.in-Ok.extent in
    record {
      many = omega (arith, c.push_reserved.ensures.len, inv.many);
      room = c.push_reserved.ensures.capacity ∙ inv.room;
      least = subst (λ (ns : List ℕ). AreLeastFree start ns) (sym c.push_reserved.ensures.items)
          (AreLeastFree-push start items n inv.least (subst (λ (us : List Usage). IsLeastFree us n) inv.usages c.in-Ok.ensures.taken.0));
      usages = c.in-Ok.ensures.taken.1 ∙ ap (λ (us : List Usage). with_usage us n Out) inv.usages ∙ sym (with_usages-push start items n Out)
          ∙ ap (λ (ns : List ℕ). with_usages start ns Out) (sym c.push_reserved.ensures.items);
      used = omega (arith, c.in-Ok.ensures.counted, inv.used);
    }

pub loop-init : goal.loop-init
loop-init c = grind (arith, common_steps)
