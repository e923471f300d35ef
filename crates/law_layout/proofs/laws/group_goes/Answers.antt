use Rattle.std.proofs.Common.{[], arith}
use Rattle.law_layout.specs.Layouts.{extents_of}
use Rattle.law_layout.proofs.Ways.{group_goes, group_ends}
use Rattle.law_layout.proofs.laws.group_goes.Goals as goal

pub returns-clause-goes : goal.returns-clause-goes
returns-clause-goes c = λ header layout reading h next floors group body start states laid stands rests joins long spelled goes.
    group_goes header layout reading h next floors group laid stands joins body long spelled start states rests goes

pub returns-clause-ends : goal.returns-clause-ends
returns-clause-ends c = λ group states n. group_ends [] (extents_of group.members) states (omega arith)
