use Rattle.std.proofs.lemmas.Grind.{common_steps}
use Rattle.std.proofs.Common.{◌≤◌, ◌<◌, ℕ, List, ap, sym, ◌∙◌, subst, arith}
use Rattle.std.specs.Prelude.{Ok}
use Rattle.history.specs.Answers.{IsScanAtAnswer}
use Rattle.floors.specs.Floors.{floor_at}
use Rattle.law_image.specs.Values.{Value}
use Rattle.chains.specs.KeyWrites.{AreRising, IsOrdered}
use Rattle.chains.specs.Scans.{scanned}
use Rattle.timequery.specs.Homes.{ValuesOfBoth}
use Rattle.timequery.specs.View.{ViewValue}
use Rattle.timequery.proofs.Answering.{values-recent, values-of-both}
use Rattle.timequery.proofs.Scanned.{in-order}
use Rattle.timequery.proofs.view.View.values_at.Goals as goal

pub returns-then-self-time-clause-only : goal.returns-then-self-time-clause-only
returns-then-self-time-clause-only g c = λ h reads.
    let v = c.args.self.now in
    let bounds = c.in_ok-check_time.ensures in
    let ordered : IsOrdered v.state = subst (λ (w : ViewValue). IsOrdered w.state) c.self.view_is c.self.invariant.0 in
    let rising : AreRising v.state = subst (λ (w : ViewValue). AreRising w.state) c.self.view_is c.self.invariant.1 in
    let recent : v.reclaimed ≤ c.args.time = subst (λ (w : ViewValue). w.reclaimed ≤ c.args.time) c.self.view_is c.if-self-time.true in
    let is = c.in_ok-scan.ensures ∙ ap (λ (w : ViewValue). scanned c.args.relation c.args.time w.state) c.self.view_is in
    subst (λ (found : List (ℕ × Value)). IsScanAtAnswer h (floor_at v.floors) c.args.relation c.args.time (Ok found)) (sym is)
    (values-recent _ _ _ v h reads rising c.args.relation c.args.time ordered bounds.0 bounds.1 recent)

pub returns-clause-only : goal.returns-clause-only
returns-clause-only g c = λ h reads.
    let v = c.args.self.now in
    let bounds = c.in_ok-check_time.ensures in
    let rising : AreRising v.state = subst (λ (w : ViewValue). AreRising w.state) c.self.view_is c.self.invariant.1 in
    let order = in-order c.in_ok-rows.rows.items c.in_ok-rows.ensures.in_order in
    subst (λ (found : List (ℕ × Value)). IsScanAtAnswer h (floor_at v.floors) c.args.relation c.args.time (Ok found)) (sym c.in_ok-values_of.ensures)
    (values-of-both _ _ _ v h reads rising c.args.relation c.args.time c.in_ok-rows.rows.items bounds.0 bounds.1 order
    (c.in_ok-rows.ensures.only reads.lists reads.told reads.right reads.held))

pub returns-clause-exact : goal.returns-clause-exact
returns-clause-exact g c = λ told right.
    let v = c.args.self.now in
    let less : c.args.time < c.self.inside.reclaimed = omega (arith, c.if-self-time.false) in
    let below : c.args.time < v.reclaimed = subst (λ (w : ViewValue). c.args.time < w.reclaimed) c.self.view_is less in
    ValuesOfBoth below c.in_ok-rows.rows.items (c.in_ok-rows.ensures.exact told right) c.in_ok-values_of.ensures

pub returns-in_err-rows-clause-refused : goal.returns-in_err-rows-clause-refused
returns-in_err-rows-clause-refused g c = grind (arith, common_steps)

pub returns-in_err-rows-clause-exact : goal.returns-in_err-rows-clause-exact
returns-in_err-rows-clause-exact g c = grind (arith, common_steps)
