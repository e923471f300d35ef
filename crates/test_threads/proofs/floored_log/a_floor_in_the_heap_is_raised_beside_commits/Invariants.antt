use Rattle.std.proofs.Common.{[]}
use Rattle.history.specs.Machine.{opened_by}
use Rattle.any_store.specs.Values.{commits_of}
use Rattle.shared.specs.Kinds.{kind_of}
use Rattle.test_threads.proofs.floored_log.a_floor_in_the_heap_is_raised_beside_commits.Given as goal

abbrev pub ghost-new : goal.ghost-new
ghost-new g a = opened_by 1024 [] (λ relation. 0)

abbrev pub ghosts-refuses_below_its_floor-L-Ledger : goal.ghosts-refuses_below_its_floor-L-Ledger
ghosts-refuses_below_its_floor-L-Ledger g a = record { name = a.opened.blank.name; parts = a.opened.blank.parts }

abbrev pub ghosts-refuses_below_its_floor-L-Opening : goal.ghosts-refuses_below_its_floor-L-Opening
ghosts-refuses_below_its_floor-L-Opening g a =
    record {
      start = opened_by 1024 [] (λ relation. 0);
      kind = kind_of a.opened.store;
      mark = (commits_of a.opened.store).mark;
      table = a.opened.cell.table.shared.table_id;
    }
