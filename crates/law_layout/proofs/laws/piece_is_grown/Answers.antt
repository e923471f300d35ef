use Rattle.law_layout.proofs.Grown.{grown_rests, grown_turns}
use Rattle.law_layout.proofs.laws.piece_is_grown.Goals as goal

pub returns-clause-rests : goal.returns-clause-rests
returns-clause-rests c = λ header slots calm a may growing sound settled rests. grown_rests header slots calm a may growing sound settled rests

pub returns-clause-turns : goal.returns-clause-turns
returns-clause-turns c =
    λ header slots slot stage calm a may growing sound settled room at. grown_turns header slots slot stage calm a may growing sound settled room at
