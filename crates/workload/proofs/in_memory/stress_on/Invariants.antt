use Rattle.any_store.specs.Values.{commits_of}
use Rattle.shared.specs.Kinds.{kind_of}
use Rattle.workload.proofs.in_memory.stress_on.Given as goal

abbrev pub ghost-new : goal.ghost-new
ghost-new g a = g.start

abbrev pub ghosts-run_workers-L-Ledger : goal.ghosts-run_workers-L-Ledger
ghosts-run_workers-L-Ledger g a = record { name = a.opened.blank.name; parts = a.opened.blank.parts }

abbrev pub ghosts-run_workers-L-Opening : goal.ghosts-run_workers-L-Opening
ghosts-run_workers-L-Opening g a = record {
  start = g.start;
  kind = kind_of a.opened.store;
  mark = (commits_of a.opened.store).mark;
  table = a.opened.cell.table.shared.table_id;
}
