use Rattle.std.proofs.Common.{◌<◌, ◌≤◌, inl, inr, ⊎_elim}
use Rattle.std.specs.Prelude.{Contains, nat_le, nat_lt}
use Rattle.std.proofs.lemmas.Bool.{cases_lt}
use Rattle.history.proofs.Orders.{is_lt, is_le}
use Rattle.history.proofs.Members.{Contains-filter, filter-Contains}
use Rattle.law_image.specs.Reading.{Member}
use Rattle.law_image.specs.StandsFor.{archived_upto}
use Rattle.law_image.specs.Plans.{with_anchors}
use Rattle.law_image.specs.PlansMade.{retired}
use Rattle.law_image.proofs.Standing.{facts-rise}
use Rattle.law_image.proofs.PlansMade.{archive-plan_is, reclaim-plan_is}
use Rattle.law_image.proofs.laws.plans_are.Goals as goal

pub returns-clause-archive : goal.returns-clause-archive
returns-clause-archive c = λ reading h floors upto stands. archive-plan_is reading (facts-rise reading h floors stands) upto

pub returns-clause-reclaim : goal.returns-clause-reclaim
returns-clause-reclaim c = λ reading h floors stands. reclaim-plan_is reading (facts-rise reading h floors stands)

pub returns-clause-retired : goal.returns-clause-retired
returns-clause-retired c = λ reading olds m. (
  λ has.
      ⊎_elim
      (λ (later : archived_upto reading < m.head.time). inr
      (Contains-filter (λ (x : Member). nat_lt (archived_upto reading) x.head.time) reading.members m has (is_lt later)))
      (λ (early : m.head.time ≤ archived_upto reading). inl
      (Contains-filter (λ (x : Member). nat_le x.head.time (archived_upto reading)) reading.members m has (is_le early)))
      (cases_lt (archived_upto reading) m.head.time),
  λ either.
      ⊎_elim
      (λ (gone : Contains (retired reading) m). (filter-Contains (λ (x : Member). nat_le x.head.time (archived_upto reading)) reading.members m gone).0)
      (λ (left : Contains (with_anchors reading olds).members m).
      (filter-Contains (λ (x : Member). nat_lt (archived_upto reading) x.head.time) reading.members m left).0)
      either,
)
