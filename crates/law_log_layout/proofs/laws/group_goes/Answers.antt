use Rattle.std.proofs.Common.{[]}
use Rattle.law_log_layout.proofs.GroupGoes.{group-goes, group-ends}
use Rattle.law_log_layout.proofs.laws.group_goes.Goals as goal

pub returns-clause-goes : goal.returns-clause-goes
returns-clause-goes c = λ most root l reading h next floors numbers link members stage areas is stands group joins shares sound archive at.
    group-goes most root l reading h next floors numbers link members stage areas is stands group joins shares sound archive at

pub returns-clause-ends : goal.returns-clause-ends
returns-clause-ends c = λ parts. group-ends [] parts
