use Rattle.std.proofs.Common.{◌≡◌, ◌≤◌, ◌<◌, List, Option, Some, None, ap, sym, ◌∙◌, subst, arith}
use Rattle.std.specs.Prelude.{Ok}
use Rattle.std.proofs.lemmas.Result.{err_from_is_err_and}
use Rattle.history.specs.Time.{value_at}
use Rattle.law_image.specs.Values.{Value}
use Rattle.archive.specs.declared.run.RunEntry.{RunEntry}
use Rattle.archive.specs.Runs.{RunsEndBy, HoldRuns}
use Rattle.archive.specs.Searches.{archive_of, IsFaultIn}
use Rattle.archive.specs.Traces.{IsFound}
use Rattle.chains.specs.KeyWrites.{AreRising, writes_of}
use Rattle.timequery.specs.Homes.{InMemory, InRuns}
use Rattle.timequery.specs.View.{ViewValue}
use Rattle.timequery.proofs.Answering.{value-in-memory, value-recent, value-in-runs}
use Rattle.timequery.proofs.Both.{refused-at}
use Rattle.timequery.proofs.view.View.value_at.Goals as goal

pub returns-in-Some-clause-only : goal.returns-in-Some-clause-only
returns-in-Some-clause-only g c = λ h reads.
    let v = c.args.self.now in
    let bounds = c.in_ok-check_time.ensures in
    let rising : AreRising v.state = subst (λ (w : ViewValue). AreRising w.state) c.self.view_is c.self.invariant.1 in
    let there =
    subst (λ (w : ViewValue). value_at (writes_of w.state c.args.key) c.args.time ≡ Some c.in-Some.value.now) c.self.view_is (sym c.in-Some.ensures) in
    value-in-memory _ _ _ v h reads rising c.args.key c.args.time c.in-Some.value.now bounds.0 bounds.1 there
    ∙ ap (λ (x : Value). Ok (Some x)) (sym c.in_ok-share.ensures)

pub returns-in-Some-clause-exact : goal.returns-in-Some-clause-exact
returns-in-Some-clause-exact g c = λ told right.
    let there =
    subst (λ (w : ViewValue). value_at (writes_of w.state c.args.key) c.args.time ≡ Some c.in-Some.value.now) c.self.view_is (sym c.in-Some.ensures) in
    InMemory c.in-Some.value.now there (ap (λ (x : Value). Some x) c.in_ok-share.ensures)

pub returns-then-self-time-clause-only : goal.returns-then-self-time-clause-only
returns-then-self-time-clause-only g c = λ h reads.
    let v = c.args.self.now in
    let bounds = c.in_ok-check_time.ensures in
    let rising : AreRising v.state = subst (λ (w : ViewValue). AreRising w.state) c.self.view_is c.self.invariant.1 in
    let recent : v.reclaimed ≤ c.args.time = subst (λ (w : ViewValue). w.reclaimed ≤ c.args.time) c.self.view_is c.if-self-time.true in
    let none = subst (λ (w : ViewValue). value_at (writes_of w.state c.args.key) c.args.time ≡ None) c.self.view_is (sym c.in_default.ensures) in
    value-recent _ _ _ v h reads rising c.args.key c.args.time bounds.0 bounds.1 recent
    ∙ ap (λ (o : Option Value). Ok o) none

pub returns-in_err-find-clause-kept : goal.returns-in_err-find-clause-kept
returns-in_err-find-clause-kept g c = λ limit ends.
    let runs_are = c.as_slice.ensures ∙ ap (λ (w : ViewValue). w.runs) c.self.view_is in
    c.find.ensures.kept limit (subst (RunsEndBy limit) (sym runs_are) ends)

pub returns-in_err-find-clause-refused : goal.returns-in_err-find-clause-refused
returns-in_err-find-clause-refused g c =
    let v = c.args.self.now in
    let bounds = c.in_ok-check_time.ensures in
    let runs_are = c.as_slice.ensures ∙ ap (λ (w : ViewValue). w.runs) c.self.view_is in
    let less : c.args.time < c.self.inside.reclaimed = omega (arith, c.if-self-time.false) in
    let below : c.args.time < v.reclaimed = subst (λ (w : ViewValue). c.args.time < w.reclaimed) c.self.view_is less in
    let p = err_from_is_err_and c.from_residual-in_err-find.result c.from_residual-in_err-find.ensures.1 in
    rw (p.1, p.2) (refused-at v c.args.key.relation c.args.time _ bounds.0 bounds.1 below
    (subst (λ (rs : List RunEntry). IsFaultIn c.args.time rs c.in_err-find.field-0.0) runs_are c.in_err-find.ensures.damaged))

pub returns-in-None-clause-kept : goal.returns-in-None-clause-kept
returns-in-None-clause-kept g c = λ limit ends.
    let runs_are = c.as_slice.ensures ∙ ap (λ (w : ViewValue). w.runs) c.self.view_is in
    c.find.ensures.kept limit (subst (RunsEndBy limit) (sym runs_are) ends)

pub returns-in-None-clause-only : goal.returns-in-None-clause-only
returns-in-None-clause-only g c = λ h reads.
    let v = c.args.self.now in
    let bounds = c.in_ok-check_time.ensures in
    let rising : AreRising v.state = subst (λ (w : ViewValue). AreRising w.state) c.self.view_is c.self.invariant.1 in
    let runs_are = c.as_slice.ensures ∙ ap (λ (w : ViewValue). w.runs) c.self.view_is in
    let none = subst (λ (w : ViewValue). value_at (writes_of w.state c.args.key) c.args.time ≡ None) c.self.view_is (sym c.in_default.ensures) in
    let held = subst (λ (rs : List RunEntry). HoldRuns (archive_of (g.D.Disk.state c.args.disk.now)) rs reads.lists) (sym runs_are) reads.held in
    value-in-runs _ _ _ v h reads rising c.args.key c.args.time None bounds.0 bounds.1 none
    (sym c.in-None.is ∙ c.in_ok-find.ensures.only reads.lists reads.told reads.right held)

pub returns-in-None-clause-exact : goal.returns-in-None-clause-exact
returns-in-None-clause-exact g c = λ told right.
    let v = c.args.self.now in
    let runs_are = c.as_slice.ensures ∙ ap (λ (w : ViewValue). w.runs) c.self.view_is in
    let less : c.args.time < c.self.inside.reclaimed = omega (arith, c.if-self-time.false) in
    let below : c.args.time < v.reclaimed = subst (λ (w : ViewValue). c.args.time < w.reclaimed) c.self.view_is less in
    let none = subst (λ (w : ViewValue). value_at (writes_of w.state c.args.key) c.args.time ≡ None) c.self.view_is (sym c.in_default.ensures) in
    let found = subst (λ (rs : List RunEntry). IsFound (archive_of (g.D.Disk.state c.args.disk.now)) rs c.args.key c.args.time c.in_ok-find.field-0) runs_are
    (c.in_ok-find.ensures.exact told right) in
    InRuns below none (subst (IsFound (archive_of (g.D.Disk.state c.args.disk.now)) v.runs c.args.key c.args.time) c.in-None.is found)

pub returns-in-Some-2-clause-kept : goal.returns-in-Some-2-clause-kept
returns-in-Some-2-clause-kept g c = λ limit ends.
    let runs_are = c.as_slice.ensures ∙ ap (λ (w : ViewValue). w.runs) c.self.view_is in
    c.find.ensures.kept limit (subst (RunsEndBy limit) (sym runs_are) ends)

pub returns-in-Some-2-clause-only : goal.returns-in-Some-2-clause-only
returns-in-Some-2-clause-only g c = λ h reads.
    let v = c.args.self.now in
    let bounds = c.in_ok-check_time.ensures in
    let rising : AreRising v.state = subst (λ (w : ViewValue). AreRising w.state) c.self.view_is c.self.invariant.1 in
    let runs_are = c.as_slice.ensures ∙ ap (λ (w : ViewValue). w.runs) c.self.view_is in
    let none = subst (λ (w : ViewValue). value_at (writes_of w.state c.args.key) c.args.time ≡ None) c.self.view_is (sym c.in_default.ensures) in
    let held = subst (λ (rs : List RunEntry). HoldRuns (archive_of (g.D.Disk.state c.args.disk.now)) rs reads.lists) (sym runs_are) reads.held in
    let is : Some c.new.result ≡ c.in_ok-find.field-0 = ap (λ (x : Value). Some x) c.new.ensures ∙ sym c.in-Some-2.is in
    value-in-runs _ _ _ v h reads rising c.args.key c.args.time (Some c.new.result) bounds.0 bounds.1 none
    (is ∙ c.in_ok-find.ensures.only reads.lists reads.told reads.right held)

pub returns-in-Some-2-clause-exact : goal.returns-in-Some-2-clause-exact
returns-in-Some-2-clause-exact g c = λ told right.
    let v = c.args.self.now in
    let runs_are = c.as_slice.ensures ∙ ap (λ (w : ViewValue). w.runs) c.self.view_is in
    let less : c.args.time < c.self.inside.reclaimed = omega (arith, c.if-self-time.false) in
    let below : c.args.time < v.reclaimed = subst (λ (w : ViewValue). c.args.time < w.reclaimed) c.self.view_is less in
    let none = subst (λ (w : ViewValue). value_at (writes_of w.state c.args.key) c.args.time ≡ None) c.self.view_is (sym c.in_default.ensures) in
    let found = subst (λ (rs : List RunEntry). IsFound (archive_of (g.D.Disk.state c.args.disk.now)) rs c.args.key c.args.time c.in_ok-find.field-0) runs_are
    (c.in_ok-find.ensures.exact told right) in
    let is : c.in_ok-find.field-0 ≡ Some c.new.result = c.in-Some-2.is ∙ ap (λ (x : Value). Some x) (sym c.new.ensures) in
    InRuns below none (subst (IsFound (archive_of (g.D.Disk.state c.args.disk.now)) v.runs c.args.key c.args.time) is found)
