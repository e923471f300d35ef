use Rattle.std.proofs.Common.{arith}
use Rattle.snapshot.proofs.Opened.{closed-below}
use Rattle.snapshot.proofs.open_table.OpenTable.close.Goals as goal

pub invariant_of-self : goal.invariant_of-self
invariant_of-self c =
    closed-below c.self.inside.places.items c.args.number c.min-self-inside.result (let was = c.self.invariant in omega (
      arith,
      c.min-self-inside.ensures,
    )) (omega (arith, c.min-self-inside.ensures))
