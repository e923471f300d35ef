use Rattle.std.proofs.lemmas.Grind.{common_steps}
use Rattle.std.proofs.Common.{◌∙◌, ap, subst, arith}
use Rattle.std.specs.List.{flat_map}
use Rattle.archive.specs.Answers.{rows_of, with_record, rows_in}
use Rattle.archive.specs.Searches.{archive_of}
use Rattle.archive.specs.Traces.{IsWalked, IsOfRuns}
use Rattle.archive.proofs.Ordered.{scan_alone}
use Rattle.archive.proofs.reader.ArchiveReader.scan.Goals as goal

pub returns-clause-only : goal.returns-clause-only
returns-clause-only g c = λ lists told right hold number.
    c.in_ok-order_rows.ensures.same number
    ∙ ap (λ rows. rows_of number rows) (c.in_ok-rows.ensures.only lists told right hold)
    ∙ ap (λ w. rows_of number (flat_map (rows_in with_record w) lists)) c.of_relation.ensures
    ∙ scan_alone c.args.relation number c.args.a c.args.b _ c.args.runs.now lists hold

pub returns-clause-exact : goal.returns-clause-exact
returns-clause-exact g c = λ told right. (
  c.in_ok-rows.rows.items,
  subst (λ w. IsOfRuns (IsWalked with_record (archive_of (g.D.Disk.state c.args.disk.now)) w) w.a c.args.runs.now c.in_ok-rows.rows.items) c.of_relation.ensures
      (c.in_ok-rows.ensures.exact told right),
  c.in_ok-order_rows.ensures.same,
)

pub returns-in_err-rows-clause-exact : goal.returns-in_err-rows-clause-exact
returns-in_err-rows-clause-exact g c = grind (arith, common_steps)
