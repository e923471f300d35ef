use Rattle.std.proofs.lemmas.Grind.{common_steps}
use Rattle.std.proofs.Common.{◌≤◌, ℕ, List, ap, sym, ◌∙◌, subst, arith}
use Rattle.std.specs.Prelude.{Ok}
use Rattle.history.specs.declared.time.Version.{Version}
use Rattle.history.specs.Answers.{IsScanBetweenAnswer}
use Rattle.floors.specs.Floors.{floor_at}
use Rattle.law_image.specs.Values.{Value}
use Rattle.chains.specs.KeyWrites.{AreRising, IsOrdered}
use Rattle.chains.specs.Rows.{scanned_rows}
use Rattle.timequery.specs.View.{ViewValue}
use Rattle.timequery.proofs.Answering.{scan-recent, scan-of-both}
use Rattle.timequery.proofs.Both.{answers-third}
use Rattle.timequery.proofs.Scanned.{in-order}
use Rattle.timequery.proofs.view.View.scan_rows_between.Goals as goal

pub returns-then-self-a-clause-only : goal.returns-then-self-a-clause-only
returns-then-self-a-clause-only g c = λ h reads.
    let v = c.args.self.now in
    let inside = c.in_ok-check_interval.ensures in
    let ordered : IsOrdered v.state = subst (λ (w : ViewValue). IsOrdered w.state) c.self.view_is c.self.invariant.0 in
    let rising : AreRising v.state = subst (λ (w : ViewValue). AreRising w.state) c.self.view_is c.self.invariant.1 in
    let recent : v.reclaimed ≤ c.args.a = subst (λ (w : ViewValue). w.reclaimed ≤ c.args.a) c.self.view_is c.if-self-a.true in
    let is = c.in_ok-scan_rows.ensures ∙ ap (λ (w : ViewValue). scanned_rows c.args.relation c.args.a c.args.b w.state) c.self.view_is in
    subst (λ (found : List (ℕ × Version Value)). IsScanBetweenAnswer h (floor_at v.floors) c.args.relation c.args.a c.args.b (Ok found)) (sym is)
    (scan-recent _ _ _ v h reads rising c.args.relation c.args.a c.args.b ordered inside.from_floor inside.not_empty inside.upto_last recent)

pub returns-clause-only : goal.returns-clause-only
returns-clause-only g c = λ h reads.
    let v = c.args.self.now in
    let inside = c.in_ok-check_interval.ensures in
    let rising : AreRising v.state = subst (λ (w : ViewValue). AreRising w.state) c.self.view_is c.self.invariant.1 in
    answers-third c.scan_both.result _ _ _ c.scan_both.ensures.in_order (c.scan_both.ensures.only reads.lists reads.told reads.right reads.held)
    (λ found up each. scan-of-both _ _ _ v h reads rising c.args.relation c.args.a c.args.b found.items inside.from_floor inside.not_empty inside.upto_last
    (in-order found.items up) each)

pub returns-clause-exact : goal.returns-clause-exact
returns-clause-exact g c = grind (arith, common_steps)
