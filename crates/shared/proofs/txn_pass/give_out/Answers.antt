use Rattle.std.proofs.Common.{rules}
use Rattle.shared.proofs.Passes.{gives_out}
use Rattle.shared.proofs.txn_pass.give_out.Goals as goal

pub load_as-requires : goal.load_as-requires
load_as-requires g c = let r = c.requires in (search rules, (search rules, (r.cell, gives_out _ _ g.K.Given.token r.writes r.fresh)))
