use Rattle.std.proofs.Common.{◌++◌, ℕ, List, ap, sym, ◌∙◌, subst}
use Rattle.std.proofs.lemmas.Result.{err_from_is_err_and}
use Rattle.history.specs.declared.time.Version.{Version}
use Rattle.history.specs.Key.{key_of}
use Rattle.law_image.specs.Values.{Value}
use Rattle.archive.specs.declared.run.RunEntry.{RunEntry}
use Rattle.archive.specs.Runs.{RunsEndBy, HoldRuns}
use Rattle.archive.specs.Searches.{archive_of, IsFaultIn}
use Rattle.archive.specs.Traces.{IsOfRuns, AreScanRowsOf}
use Rattle.chains.specs.KeyWrites.{IsOrdered}
use Rattle.chains.specs.Rows.{scanned_rows}
use Rattle.timequery.specs.Homes.{recent_rows, scanned_after}
use Rattle.timequery.specs.View.{ViewValue, mark_of}
use Rattle.timequery.proofs.Both.{refused-runs, found-up, found-rows}
use Rattle.timequery.proofs.view.View.scan_both.Goals as goal

pub returns-in_err-archived-clause-kept : goal.returns-in_err-archived-clause-kept
returns-in_err-archived-clause-kept g c = λ limit ends.
    let runs_are = c.as_slice.ensures ∙ ap (λ (w : ViewValue). w.runs) c.self.view_is in
    c.scan.ensures.kept limit (subst (RunsEndBy limit) (sym runs_are) ends)

pub returns-in_err-archived-clause-refused : goal.returns-in_err-archived-clause-refused
returns-in_err-archived-clause-refused g c =
    let runs_are = c.as_slice.ensures ∙ ap (λ (w : ViewValue). w.runs) c.self.view_is in
    let p = err_from_is_err_and c.from_residual.result c.from_residual.ensures.1 in
    rw (p.1, p.2) (refused-runs c.args.a c.args.self.now.runs _
    (subst (λ (rs : List RunEntry). IsFaultIn c.args.a rs c.in_err-archived.field-0.0) runs_are c.in_err-archived.ensures.damaged))

pub returns-in_err-recent-clause-kept : goal.returns-in_err-recent-clause-kept
returns-in_err-recent-clause-kept g c = λ limit ends.
    let runs_are = c.as_slice.ensures ∙ ap (λ (w : ViewValue). w.runs) c.self.view_is in
    c.scan.ensures.kept limit (subst (RunsEndBy limit) (sym runs_are) ends)

pub returns-in_err-recent-2-clause-kept : goal.returns-in_err-recent-2-clause-kept
returns-in_err-recent-2-clause-kept g c = λ limit ends.
    let runs_are = c.as_slice.ensures ∙ ap (λ (w : ViewValue). w.runs) c.self.view_is in
    c.scan.ensures.kept limit (subst (RunsEndBy limit) (sym runs_are) ends)

pub returns-in_err-merged-clause-kept : goal.returns-in_err-merged-clause-kept
returns-in_err-merged-clause-kept g c = λ limit ends.
    let runs_are = c.as_slice.ensures ∙ ap (λ (w : ViewValue). w.runs) c.self.view_is in
    c.scan.ensures.kept limit (subst (RunsEndBy limit) (sym runs_are) ends)

pub returns-clause-kept : goal.returns-clause-kept
returns-clause-kept g c = λ limit ends.
    let runs_are = c.as_slice.ensures ∙ ap (λ (w : ViewValue). w.runs) c.self.view_is in
    c.scan.ensures.kept limit (subst (RunsEndBy limit) (sym runs_are) ends)

pub returns-clause-in_order : goal.returns-clause-in_order
returns-clause-in_order g c =
    let v = c.args.self.now in
    let ordered : IsOrdered v.state = subst (λ (w : ViewValue). IsOrdered w.state) c.self.view_is c.self.invariant.0 in
    let rows_are = c.in_ok-recent.ensures ∙ ap (λ (w : ViewValue). scanned_rows c.args.relation c.args.a c.end_in_memory.result w.state) c.self.view_is in
    let recent_are = c.in_ok-recent-2.ensures ∙ ap (λ (n : ℕ). scanned_after n c.args.a c.args.b c.in_ok-recent.recent.items)
    (c.archive_mark.ensures.is ∙ ap (λ (w : ViewValue). mark_of w.runs) c.self.view_is) in
    found-up v c.args.relation c.args.a c.args.b c.end_in_memory.result c.in_ok-archived.archived.items c.in_ok-recent.recent.items
    c.in_ok-recent-2.recent.items c.in_ok-merged.field-0.items ordered c.in_ok-archived.ensures.in_order rows_are recent_are c.in_ok-merged.ensures

pub returns-clause-only : goal.returns-clause-only
returns-clause-only g c = λ lists told right held number.
    let v = c.args.self.now in
    let runs_are = c.as_slice.ensures ∙ ap (λ (w : ViewValue). w.runs) c.self.view_is in
    let ordered : IsOrdered v.state = subst (λ (w : ViewValue). IsOrdered w.state) c.self.view_is c.self.invariant.0 in
    let rows_are = c.in_ok-recent.ensures ∙ ap (λ (w : ViewValue). scanned_rows c.args.relation c.args.a c.end_in_memory.result w.state) c.self.view_is in
    let recent_are = c.in_ok-recent-2.ensures ∙ ap (λ (n : ℕ). scanned_after n c.args.a c.args.b c.in_ok-recent.recent.items)
    (c.archive_mark.ensures.is ∙ ap (λ (w : ViewValue). mark_of w.runs) c.self.view_is) in
    let held_again = subst (λ (rs : List RunEntry). HoldRuns (archive_of (g.D.Disk.state c.args.disk.now)) rs lists) (sym runs_are) held in
    found-rows v c.args.relation c.args.a c.args.b c.end_in_memory.result c.in_ok-archived.archived.items c.in_ok-recent.recent.items
    c.in_ok-recent-2.recent.items c.in_ok-merged.field-0.items ordered c.in_ok-archived.ensures.in_order rows_are recent_are c.in_ok-merged.ensures
    c.end_in_memory.ensures.later c.end_in_memory.ensures.past_mark number
    ∙ ap (λ (vs : List (Version Value)). vs ++ recent_rows v c.args.a c.args.b (key_of c.args.relation number))
    (c.in_ok-archived.ensures.only lists told right held_again number)

pub returns-clause-exact : goal.returns-clause-exact
returns-clause-exact g c = λ told right.
    let v = c.args.self.now in
    let area = archive_of (g.D.Disk.state c.args.disk.now) in
    let runs_are = c.as_slice.ensures ∙ ap (λ (w : ViewValue). w.runs) c.self.view_is in
    let ordered : IsOrdered v.state = subst (λ (w : ViewValue). IsOrdered w.state) c.self.view_is c.self.invariant.0 in
    let rows_are = c.in_ok-recent.ensures ∙ ap (λ (w : ViewValue). scanned_rows c.args.relation c.args.a c.end_in_memory.result w.state) c.self.view_is in
    let recent_are = c.in_ok-recent-2.ensures ∙ ap (λ (n : ℕ). scanned_after n c.args.a c.args.b c.in_ok-recent.recent.items)
    (c.archive_mark.ensures.is ∙ ap (λ (w : ViewValue). mark_of w.runs) c.self.view_is) in
    let e = c.in_ok-archived.ensures.exact told right in
    let each = found-rows v c.args.relation c.args.a c.args.b c.end_in_memory.result c.in_ok-archived.archived.items c.in_ok-recent.recent.items
    c.in_ok-recent-2.recent.items c.in_ok-merged.field-0.items ordered c.in_ok-archived.ensures.in_order rows_are recent_are c.in_ok-merged.ensures
    c.end_in_memory.ensures.later c.end_in_memory.ensures.past_mark in
    record {
      archived = e.0;
      of_runs = subst (λ (rs : List RunEntry). IsOfRuns (AreScanRowsOf area c.args.relation c.args.a c.args.b) c.args.a rs e.0) runs_are e.1;
      in_order = found-up v c.args.relation c.args.a c.args.b c.end_in_memory.result c.in_ok-archived.archived.items c.in_ok-recent.recent.items
          c.in_ok-recent-2.recent.items c.in_ok-merged.field-0.items ordered c.in_ok-archived.ensures.in_order rows_are recent_are c.in_ok-merged.ensures;
      each = λ number. each number ∙ ap (λ (vs : List (Version Value)). vs ++ recent_rows v c.args.a c.args.b (key_of c.args.relation number)) (e.2 number);
    }
