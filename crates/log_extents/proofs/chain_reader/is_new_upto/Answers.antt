use Rattle.std.proofs.Common.{refl}
use Rattle.log_extents.proofs.Numbers.{new_above}
use Rattle.log_extents.proofs.chain_reader.is_new_upto.Goals as goal

pub returns-then-greatest-number : goal.returns-then-greatest-number
returns-then-greatest-number c = (λ _. new_above c.args.greatest c.args.number c.args.others.now c.requires c.if-greatest-number.true, λ _. refl)
