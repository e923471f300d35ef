use Rattle.std.proofs.Common.{◌≡◌, ◌⊎◌, ◌≤◌, ◌<◌, ◌++◌, [], ℕ, List, ap, sym, ◌∙◌, subst, arith}
use Rattle.std.specs.Prelude.{Ok}
use Rattle.std.proofs.lemmas.Result.{err_from_is_err_and}
use Rattle.history.specs.declared.time.Version.{Version}
use Rattle.law_image.specs.Values.{Value}
use Rattle.archive.specs.declared.run.RunEntry.{RunEntry}
use Rattle.archive.specs.Runs.{RunsEndBy, HoldRuns}
use Rattle.archive.specs.Searches.{archive_of, IsFaultIn}
use Rattle.archive.specs.Traces.{IsOfRuns, AreRowsOf}
use Rattle.chains.specs.KeyWrites.{AreRising}
use Rattle.chains.specs.Rows.{rows_in}
use Rattle.timequery.specs.Homes.{RowsOfBoth, rows_after, recent_rows}
use Rattle.timequery.specs.View.{ViewValue, mark_of}
use Rattle.timequery.proofs.Answering.{rows-recent, rows-of-both}
use Rattle.timequery.proofs.Both.{refused-rows, joined-rows, read-some}
use Rattle.timequery.proofs.view.View.rows_between.Goals as goal

pub returns-then-self-a-clause-only : goal.returns-then-self-a-clause-only
returns-then-self-a-clause-only g c = λ h reads.
    let v = c.args.self.now in
    let inside = c.in_ok-check_interval.ensures in
    let rising : AreRising v.state = subst (λ (w : ViewValue). AreRising w.state) c.self.view_is c.self.invariant.1 in
    let recent : v.reclaimed ≤ c.args.a = subst (λ (w : ViewValue). w.reclaimed ≤ c.args.a) c.self.view_is c.if-self-a.true in
    let is = c.in_ok-rows.ensures ∙ ap (λ (w : ViewValue). rows_in w.state c.args.a c.args.b c.args.key) c.self.view_is in
    rows-recent _ _ _ v h reads rising c.args.key c.args.a c.args.b inside.from_floor inside.not_empty inside.upto_last recent
    ∙ ap (λ (rs : List (Version Value)). Ok rs) (sym is)

pub returns-in_err-archived-clause-kept : goal.returns-in_err-archived-clause-kept
returns-in_err-archived-clause-kept g c = λ limit ends.
    let runs_are = c.as_slice.ensures ∙ ap (λ (w : ViewValue). w.runs) c.self.view_is in
    c.rows-2.ensures.kept limit (subst (RunsEndBy limit) (sym runs_are) ends)

pub returns-in_err-archived-clause-refused : goal.returns-in_err-archived-clause-refused
returns-in_err-archived-clause-refused g c =
    let v = c.args.self.now in
    let runs_are = c.as_slice.ensures ∙ ap (λ (w : ViewValue). w.runs) c.self.view_is in
    let less : c.args.a < c.self.inside.reclaimed = omega (arith, c.if-self-a.false) in
    let below : c.args.a < v.reclaimed = subst (λ (w : ViewValue). c.args.a < w.reclaimed) c.self.view_is less in
    let p = err_from_is_err_and c.from_residual-in_err-archived.result c.from_residual-in_err-archived.ensures.1 in
    rw (p.1, p.2) (refused-rows v c.args.key.relation c.args.a c.args.b _ c.in_ok-check_interval.ensures below
    (subst (λ (rs : List RunEntry). IsFaultIn c.args.a rs c.in_err-archived.field-0.0) runs_are c.in_err-archived.ensures.damaged))

pub returns-in_err-found-clause-kept : goal.returns-in_err-found-clause-kept
returns-in_err-found-clause-kept g c = λ limit ends.
    let runs_are = c.as_slice.ensures ∙ ap (λ (w : ViewValue). w.runs) c.self.view_is in
    c.rows-2.ensures.kept limit (subst (RunsEndBy limit) (sym runs_are) ends)

pub returns-in_err-recent-clause-kept : goal.returns-in_err-recent-clause-kept
returns-in_err-recent-clause-kept g c = λ limit ends.
    let runs_are = c.as_slice.ensures ∙ ap (λ (w : ViewValue). w.runs) c.self.view_is in
    c.rows-2.ensures.kept limit (subst (RunsEndBy limit) (sym runs_are) ends)

pub returns-in_err-add_rows_after-clause-kept : goal.returns-in_err-add_rows_after-clause-kept
returns-in_err-add_rows_after-clause-kept g c = λ limit ends.
    let runs_are = c.as_slice.ensures ∙ ap (λ (w : ViewValue). w.runs) c.self.view_is in
    c.rows-2.ensures.kept limit (subst (RunsEndBy limit) (sym runs_are) ends)

pub returns-clause-kept : goal.returns-clause-kept
returns-clause-kept g c = λ limit ends.
    let runs_are = c.as_slice.ensures ∙ ap (λ (w : ViewValue). w.runs) c.self.view_is in
    c.rows-2.ensures.kept limit (subst (RunsEndBy limit) (sym runs_are) ends)

pub returns-clause-only : goal.returns-clause-only
returns-clause-only g c = λ h reads.
    let v = c.args.self.now in
    let inside = c.in_ok-check_interval.ensures in
    let rising : AreRising v.state = subst (λ (w : ViewValue). AreRising w.state) c.self.view_is c.self.invariant.1 in
    let runs_are = c.as_slice.ensures ∙ ap (λ (w : ViewValue). w.runs) c.self.view_is in
    let held = subst (λ (rs : List RunEntry). HoldRuns (archive_of (g.D.Disk.state c.args.disk.now)) rs reads.lists) (sym runs_are) reads.held in
    let memory = c.in_ok-recent.ensures ∙ ap (λ (w : ViewValue). rows_in w.state c.args.a c.end_in_memory.result c.args.key) c.self.view_is in
    let mark_is = c.archive_mark.ensures.is ∙ ap (λ (w : ViewValue). mark_of w.runs) c.self.view_is in
    let all = c.in_ok-add_rows_after.ensures ∙ ap (λ (n : ℕ). c.in_ok-found.found.items ++ rows_after n c.args.a c.args.b c.in_ok-recent.recent.items)
    mark_is in
    rows-of-both _ _ _ v h reads rising c.args.key c.args.a c.args.b c.add_rows_after.new.found.items inside.from_floor inside.not_empty inside.upto_last
    (joined-rows v c.args.key c.args.a c.args.b c.end_in_memory.result c.in_ok-archived.archived.items c.in_ok-found.found.items c.in_ok-recent.recent.items
    c.add_rows_after.new.found.items c.in_ok-found.ensures memory all c.end_in_memory.ensures.later c.end_in_memory.ensures.past_mark
    ∙ ap (λ (rs : List (Version Value)). rs ++ recent_rows v c.args.a c.args.b c.args.key)
    (c.in_ok-archived.ensures.only reads.lists reads.told reads.right held))

pub returns-clause-exact : goal.returns-clause-exact
returns-clause-exact g c = λ told right.
    let v = c.args.self.now in
    let area = archive_of (g.D.Disk.state c.args.disk.now) in
    let inside = c.in_ok-check_interval.ensures in
    let runs_are = c.as_slice.ensures ∙ ap (λ (w : ViewValue). w.runs) c.self.view_is in
    let less : c.args.a < c.self.inside.reclaimed = omega (arith, c.if-self-a.false) in
    let below : c.args.a < v.reclaimed = subst (λ (w : ViewValue). c.args.a < w.reclaimed) c.self.view_is less in
    let memory = c.in_ok-recent.ensures ∙ ap (λ (w : ViewValue). rows_in w.state c.args.a c.end_in_memory.result c.args.key) c.self.view_is in
    let mark_is = c.archive_mark.ensures.is ∙ ap (λ (w : ViewValue). mark_of w.runs) c.self.view_is in
    let all = c.in_ok-add_rows_after.ensures ∙ ap (λ (n : ℕ). c.in_ok-found.found.items ++ rows_after n c.args.a c.args.b c.in_ok-recent.recent.items)
    mark_is in
    let of_runs = read-some inside.not_empty (subst (λ (rs : List RunEntry). ((c.args.b ≤ c.args.a) × (c.in_ok-archived.archived.items ≡ []))
    ⊎ ((c.args.a < c.args.b) × IsOfRuns (AreRowsOf area c.args.key c.args.a c.args.b) c.args.a rs c.in_ok-archived.archived.items)) runs_are
    (c.in_ok-archived.ensures.exact told right)) in
    RowsOfBoth below c.in_ok-archived.archived.items of_runs
    (joined-rows v c.args.key c.args.a c.args.b c.end_in_memory.result c.in_ok-archived.archived.items c.in_ok-found.found.items c.in_ok-recent.recent.items
    c.add_rows_after.new.found.items c.in_ok-found.ensures memory all c.end_in_memory.ensures.later c.end_in_memory.ensures.past_mark)
