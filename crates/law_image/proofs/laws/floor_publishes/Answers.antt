use Rattle.std.proofs.Common.{sym, subst}
use Rattle.history.specs.Machine.{Machine, MayRaise}
use Rattle.history.proofs.Machines.{in-the-making}
use Rattle.law_image.specs.Values.{Value, IsValue}
use Rattle.law_image.specs.StandsFor.{StandsFor}
use Rattle.law_image.specs.Plans.{with_floor}
use Rattle.law_image.proofs.FloorStep.{raise-may_come, floor-stands_for}
use Rattle.law_image.proofs.laws.floor_publishes.Goals as goal

pub returns-clause-may_come : goal.returns-clause-may_come
returns-clause-may_come c = λ reading m r stands may scope. raise-may_come reading m r stands may scope

pub returns-clause-publishes : goal.returns-clause-publishes
returns-clause-publishes c = λ reading old new r stands is step scope slots room.
    let may : MayRaise old r = in-the-making IsValue old is r step.1 in
    let left = floor-stands_for reading old.published old.floors stands r.scope r.floor (raise-may_come reading old r stands may scope) slots room in
    subst (λ (m : Machine Value). StandsFor (with_floor reading r.scope r.floor) m.published m.floors) (sym step.3) left
