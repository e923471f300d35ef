use Rattle.any_store.specs.Values.{commits_of}
use Rattle.shared.specs.Kinds.{kind_of}
use Rattle.bench.proofs.many_callers.holding.run_over.Given as goal

abbrev pub ghost-new : goal.ghost-new
ghost-new g a = g.start

abbrev pub ghosts-run-L-Ledger : goal.ghosts-run-L-Ledger
ghosts-run-L-Ledger g a = record { name = a.opened.blank.name; parts = a.opened.blank.parts }

abbrev pub ghosts-run-L-Opening : goal.ghosts-run-L-Opening
ghosts-run-L-Opening g a = record {
  start = g.start;
  kind = kind_of a.opened.store;
  mark = (commits_of a.opened.store).mark;
  table = a.opened.cell.table.shared.table_id;
}
