use Rattle.law_log_layout.proofs.BasedShares.{shares-based, small-base}
use Rattle.law_log_layout.proofs.behind.small_base_is_log.Goals as goal

pub returns-clause-shares : goal.returns-clause-shares
returns-clause-shares c = λ most root l reading h floors names front back n is stands are may plan small.
    shares-based most root l reading h floors names front back n is stands are may plan small

pub returns-clause-stands : goal.returns-clause-stands
returns-clause-stands c = λ most root l reading h floors names front back n is stands are may plan small.
    small-base most root l reading h floors names front back n is stands are may plan small
