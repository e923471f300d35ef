use Rattle.std.proofs.Common.{◌≡◌, [], length, take, drop, sym, subst, arith, take-append-drop, length-take}
use Rattle.history.specs.Machine.{Machine}
use Rattle.history.specs.Histories.{MayAllFollow}
use Rattle.history.proofs.Histories.{may_follow-behind, may_follow-front}
use Rattle.law_image.specs.Values.{Value, IsValue}
use Rattle.law_image.specs.Facts.{values_now}
use Rattle.law_image.specs.StandsFor.{StandsFor}
use Rattle.law_image.specs.Plans.{stored_members, with_group}
use Rattle.law_image.proofs.GroupStep.{group-stands_for}
use Rattle.law_image.proofs.Recent.{stored-is_group}
use Rattle.law_image.proofs.laws.group_publishes.Goals as goal

pub returns : goal.returns
returns c = λ reading old new size stands is few step room.
    let group = take old.group old.queue in
    let behind : MayAllFollow IsValue old.published old.queue = may_follow-behind IsValue [] old.published old.queue is.history in
    let may : MayAllFollow IsValue old.published group =
    may_follow-front IsValue old.published group (drop old.group old.queue)
    (subst (MayAllFollow IsValue old.published) (sym (take-append-drop old.group old.queue)) behind) in
    let count : length group ≡ old.group = omega (arith, length-take old.group old.queue, is.group_queued) in
    let members = stored_members (values_now reading) group in
    let left = group-stands_for reading old.published old.floors stands members group
    (stored-is_group reading old.published old.floors stands group may (omega (arith, count, step.1, step.2)) (omega (
      arith,
      count,
      is.group_few,
      few,
    ))) room in
    subst (λ (m : Machine Value). StandsFor (with_group reading members) m.published m.floors) (sym step.4) left
