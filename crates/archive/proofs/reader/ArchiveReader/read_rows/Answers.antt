use Rattle.std.proofs.Common.{ℕ, subst, length, take, List, ◌++◌, ◌∙◌, ap, sym, arith, refl}
use Rattle.std.specs.List.{flat_map}
use Rattle.std.proofs.lemmas.List.{append-nil}
use Rattle.std.proofs.lemmas.Option.{slice_get_read}
use Rattle.std.proofs.lemmas.Result.{err_from_is_err_and}
use Rattle.archive.specs.Answers.{rows_in}
use Rattle.archive.specs.Searches.{archive_of}
use Rattle.archive.specs.Traces.{IsWalked, IsWalkBroken}
use Rattle.archive.proofs.Damage.{right_among}
use Rattle.archive.proofs.Trace.{map_damaged, through_past, through_more, through_done, through_broken}
use Rattle.archive.proofs.Caching.{keeps_later}
use Rattle.archive.proofs.Searching.{reads_again, first_reads, keeps_on_state}
use Rattle.archive.proofs.Several.{held_ends, list_at, all_taken, heads_of_run, heads_without_run, fault_in}
use Rattle.archive.proofs.Walking.{more, past_rows}
use Rattle.archive.proofs.reader.ArchiveReader.read_rows.Goals as goal

pub loop-run-preserved-then-run-wanted : goal.loop-run-preserved-then-run-wanted
loop-run-preserved-then-run-wanted g c =
    let at = slice_get_read c.args.runs.now (length c.args.runs.now) c.loop-run.run-index c.run-item.result refl c.loop-run-test.true c.run-item.is in
    record {
      rises = c.loop-run.invariant.rises;
      disk = c.loop-run.invariant.disk;
      kept = c.loop-run.invariant.kept;
      heads = λ one. let same =
          heads_without_run c.args.wanted.now.a c.args.runs.now c.loop-run.run-index c.run-item.result at c.if-run-wanted.true in omega (
            arith,
            same,
            c.loop-run.invariant.heads one,
          );
      shown = λ lists told right hold.
          let here = list_at _ c.args.runs.now lists c.loop-run.run-index c.run-item.result hold at in
          let none = past_rows g.R.Row.shown c.args.wanted.now _ c.run-item.result here.0 here.1 c.if-run-wanted.true in
          c.loop-run.invariant.shown lists told right hold
          ∙ sym (append-nil (flat_map (rows_in g.R.Row.shown c.args.wanted.now) (take c.loop-run.run-index lists)))
          ∙ ap (λ vs. flat_map (rows_in g.R.Row.shown c.args.wanted.now) (take c.loop-run.run-index lists) ++ vs) (sym none)
          ∙ sym (more (rows_in g.R.Row.shown c.args.wanted.now) lists c.loop-run.run-index here.0 here.2);
      through = λ told right.
          let area = archive_of (g.D.Disk.state c.args.disk.now) in
          through_past (IsWalked g.R.Row.shown area c.args.wanted.now) c.args.wanted.now.a c.args.runs.now c.loop-run.run-index c.loop-run.rows.items
          (c.loop-run.invariant.through told right) c.run-item.result at c.if-run-wanted.true;
    }

pub returns-in_err-add_rows-clause-kept : goal.returns-in_err-add_rows-clause-kept
returns-in_err-add_rows-clause-kept g c = λ limit by.
    let at = slice_get_read c.args.runs.now (length c.args.runs.now) c.loop-run.run-index c.run-item.result refl c.loop-run-test.true c.run-item.is in
    keeps_on_state c.loop-run.invariant.disk (c.loop-run.invariant.kept limit by)
    (keeps_later (by c.loop-run.run-index c.run-item.result at) c.in_err-add_rows.ensures.looks.kept)

pub returns-in_err-add_rows-clause-damaged : goal.returns-in_err-add_rows-clause-damaged
returns-in_err-add_rows-clause-damaged g c =
    let at = slice_get_read c.args.runs.now (length c.args.runs.now) c.loop-run.run-index c.run-item.result refl c.loop-run-test.true c.run-item.is in
    let p = err_from_is_err_and c.from_residual.result c.from_residual.ensures.1 in
    rw (p.1, p.2) (fault_in c.args.wanted.now.a c.args.runs.now c.loop-run.run-index c.run-item.result _ at c.if-run-wanted.false
    c.in_err-add_rows.ensures.looks.damaged)

pub returns-in_err-add_rows-clause-only : goal.returns-in_err-add_rows-clause-only
returns-in_err-add_rows-clause-only g c = λ lists told right hold.
    let at = slice_get_read c.args.runs.now (length c.args.runs.now) c.loop-run.run-index c.run-item.result refl c.loop-run-test.true c.run-item.is in
    let here = list_at _ c.args.runs.now lists c.loop-run.run-index c.run-item.result hold at in
    let reads = reads_again (first_reads told right here.1) c.loop-run.invariant.disk (c.loop-run.invariant.kept _ (held_ends _ c.args.runs.now lists hold)) in
    let refusal = c.in_err-add_rows.ensures.only here.0 reads in
    let p = err_from_is_err_and c.from_residual.result c.from_residual.ensures.1 in
    rw (p.1, p.2) refusal

pub loop-run-preserved : goal.loop-run-preserved
loop-run-preserved g c =
    let at = slice_get_read c.args.runs.now (length c.args.runs.now) c.loop-run.run-index c.run-item.result refl c.loop-run-test.true c.run-item.is in
    record {
      rises = omega (arith, c.loop-run.invariant.rises, c.in_ok-add_rows.ensures.rises);
      disk = c.in_ok-add_rows.ensures.looks.disk ∙ c.loop-run.invariant.disk;
      kept = λ limit by. keeps_on_state c.loop-run.invariant.disk (c.loop-run.invariant.kept limit by)
          (keeps_later (by c.loop-run.run-index c.run-item.result at) c.in_ok-add_rows.ensures.looks.kept);
      heads = λ one. let beyond =
          heads_of_run c.args.wanted.now.a c.args.runs.now c.loop-run.run-index c.run-item.result at c.if-run-wanted.false in omega (
            arith,
            beyond,
            c.loop-run.invariant.heads one,
            c.in_ok-add_rows.ensures.heads one,
          );
      shown = λ lists told right hold.
          let here = list_at _ c.args.runs.now lists c.loop-run.run-index c.run-item.result hold at in
          let reads =
          reads_again (first_reads told right here.1) c.loop-run.invariant.disk (c.loop-run.invariant.kept _ (held_ends _ c.args.runs.now lists hold)) in
          c.in_ok-add_rows.ensures.only here.0 reads
          ∙ ap (λ vs. vs ++ (rows_in g.R.Row.shown c.args.wanted.now) here.0) (c.loop-run.invariant.shown lists told right hold)
          ∙ sym (more (rows_in g.R.Row.shown c.args.wanted.now) lists c.loop-run.run-index here.0 here.2);
      through = λ told right.
          let area = archive_of (g.D.Disk.state c.args.disk.now) in
          let now = right_among c.args.runs.now told right c.loop-run.invariant.disk c.loop-run.invariant.kept in
          let added = c.in_ok-add_rows.ensures.exact told now in
          through_more (IsWalked g.R.Row.shown area c.args.wanted.now) c.args.wanted.now.a c.args.runs.now c.loop-run.run-index c.loop-run.rows.items
          (c.loop-run.invariant.through told right) c.run-item.result at added.0 c.add_rows.new.rows.items c.if-run-wanted.false
          (subst (λ (xs : List ℕ). IsWalked g.R.Row.shown xs c.args.wanted.now c.run-item.result added.0) (ap archive_of c.loop-run.invariant.disk) added.1)
          added.2;
    }

pub returns-clause-only : goal.returns-clause-only
returns-clause-only g c = λ lists told right hold.
    c.loop-run.invariant.shown lists told right hold
    ∙ ap (λ ls. flat_map (rows_in g.R.Row.shown c.args.wanted.now) ls) (all_taken _ c.args.runs.now lists c.loop-run.run-index hold c.loop-run-test.false)

pub returns-in_err-add_rows-clause-exact : goal.returns-in_err-add_rows-clause-exact
returns-in_err-add_rows-clause-exact g c = λ told right.
    let area = archive_of (g.D.Disk.state c.args.disk.now) in
    let at = slice_get_read c.args.runs.now (length c.args.runs.now) c.loop-run.run-index c.run-item.result refl c.loop-run-test.true c.run-item.is in
    let now = right_among c.args.runs.now told right c.loop-run.invariant.disk c.loop-run.invariant.kept in
    let p = err_from_is_err_and c.from_residual.result c.from_residual.ensures.1 in
    rw (p.1, p.2) (through_broken (IsWalked g.R.Row.shown area c.args.wanted.now) c.args.wanted.now.a c.args.runs.now c.loop-run.run-index c.loop-run.rows.items
    (c.loop-run.invariant.through told right) c.run-item.result at (IsWalkBroken g.R.Row.shown area c.args.wanted.now) _ c.if-run-wanted.false
    c.in_err-add_rows.ensures.looks.damaged
    (map_damaged _ (λ start is. subst (λ (xs : List ℕ). IsWalkBroken g.R.Row.shown xs c.args.wanted.now c.run-item.result)
    (ap archive_of c.loop-run.invariant.disk) is) (c.in_err-add_rows.ensures.exact told now)))

pub returns-clause-exact : goal.returns-clause-exact
returns-clause-exact g c =
    λ told right. through_done _ c.args.wanted.now.a c.args.runs.now c.loop-run.run-index c.loop-run.rows.items (c.loop-run.invariant.through told right)
    c.loop-run-test.false
