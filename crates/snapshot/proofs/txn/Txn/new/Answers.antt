use Rattle.std.proofs.lemmas.Grind.{common_steps}
use Rattle.std.proofs.Common.{sym, subst, arith}
use Rattle.snapshot.specs.Txn.{AreTxnWrites}
use Rattle.snapshot.proofs.TxnLemmas.{no_writes}
use Rattle.snapshot.proofs.txn.Txn.new.Goals as goal

pub invariant_of-result : goal.invariant_of-result
invariant_of-result c = subst (AreTxnWrites c.args.frozen c.args.snapshot) (sym c.new.ensures.items) (no_writes c.args.frozen c.args.snapshot)

pub returns : goal.returns
returns c = grind (arith, common_steps)
