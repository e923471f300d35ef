use Rattle.std.proofs.Common.{◌≡◌, refl, sym, arith}
use Rattle.chains.specs.Branches.{older_in, IsOlder}
use Rattle.chains.specs.declared.older.Inside.TheVariants.{Wide}
use Rattle.chains.proofs.Shapes.{highest-take}
use Rattle.chains.proofs.older.Older.parts.Goals as goal

pub shared_whole_as_front-result : goal.shared_whole_as_front-result
shared_whole_as_front-result c =
    let inside : IsOlder (Wide c.in-Wide.count c.in-Wide.shared) = rw c.in-Wide.is at c.self.invariant in
    (omega (arith, inside.1), omega arith)

pub returns-in-Wide : goal.returns-in-Wide
returns-in-Wide c =
    let inside : IsOlder (Wide c.in-Wide.count c.in-Wide.shared) = rw c.in-Wide.is at c.self.invariant in
    let view : c.args.self.now ≡ older_in (Wide c.in-Wide.count c.in-Wide.shared) = sym (rw c.in-Wide.is at c.self.view_is) in
    let same : c.deref-in-Wide.result.now ≡ c.in-Wide.shared.value = c.deref-in-Wide.ensures in
    rw (view, same) (record {
      writes = refl;
      height = omega (arith, highest-take c.in-Wide.count c.in-Wide.shared.value);
      rising = inside.0;
      some = inside.2;
      forks = refl;
      together = refl;
    })
