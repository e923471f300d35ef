use Rattle.log_extents.proofs.Agreeing.{one_chain}
use Rattle.log_extents.proofs.Pieces.{chain_holds}
use Rattle.log_extents.proofs.laws.one_chain.Goals as goal

pub returns-clause-pieces : goal.returns-clause-pieces
returns-clause-pieces c = chain_holds

pub returns-clause-one : goal.returns-clause-one
returns-clause-one c = one_chain
