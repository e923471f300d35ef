use Rattle.std.proofs.Common.{[]}
use Rattle.history.specs.Machine.{opened_by}
use Rattle.any_store.specs.Values.{commits_of}
use Rattle.shared.specs.Kinds.{kind_of}
use Rattle.test_threads.proofs.vacuumed_log.a_vacuum_of_a_log_in_the_heap_reclaims.Given as goal

abbrev pub ghost-new : goal.ghost-new
ghost-new g a = opened_by 1024 [] (λ relation. 0)

abbrev pub ghosts-archives_and_reclaims-L-Ledger : goal.ghosts-archives_and_reclaims-L-Ledger
ghosts-archives_and_reclaims-L-Ledger g a = record { name = a.opened.blank.name; parts = a.opened.blank.parts }

abbrev pub ghosts-archives_and_reclaims-L-Opening : goal.ghosts-archives_and_reclaims-L-Opening
ghosts-archives_and_reclaims-L-Opening g a =
    record {
      start = opened_by 1024 [] (λ relation. 0);
      kind = kind_of a.opened.store;
      mark = (commits_of a.opened.store).mark;
      table = a.opened.cell.table.shared.table_id;
    }
