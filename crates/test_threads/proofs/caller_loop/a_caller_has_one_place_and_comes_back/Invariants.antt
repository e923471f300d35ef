use Rattle.std.proofs.Common.{[]}
use Rattle.history.specs.Machine.{opened}
use Rattle.any_store.specs.Values.{commits_of}
use Rattle.shared.specs.Kinds.{kind_of}
use Rattle.test_threads.proofs.caller_loop.a_caller_has_one_place_and_comes_back.Given as goal

abbrev pub ghost-new : goal.ghost-new
ghost-new g a = opened [] (λ relation. 0)

abbrev pub ghosts-comes_back-L-Ledger : goal.ghosts-comes_back-L-Ledger
ghosts-comes_back-L-Ledger g a = record { name = a.opened.blank.name; parts = a.opened.blank.parts }

abbrev pub ghosts-comes_back-L-Opening : goal.ghosts-comes_back-L-Opening
ghosts-comes_back-L-Opening g a =
    record {
      start = opened [] (λ relation. 0);
      kind = kind_of a.opened.store;
      mark = (commits_of a.opened.store).mark;
      table = a.opened.cell.table.shared.table_id;
    }
