use Rattle.std.proofs.Common.{[]}
use Rattle.history.specs.Machine.{opened}
use Rattle.any_store.specs.Values.{commits_of}
use Rattle.shared.specs.Kinds.{kind_of}
use Rattle.test_threads.proofs.vacuum_loop.a_vacuum_goes_on_until_it_is_told_to_end.Given as goal

abbrev pub ghost-new : goal.ghost-new
ghost-new g a = opened [] (λ relation. 0)

abbrev pub ghosts-goes_on-L-Ledger : goal.ghosts-goes_on-L-Ledger
ghosts-goes_on-L-Ledger g a = record { name = a.opened.blank.name; parts = a.opened.blank.parts }

abbrev pub ghosts-goes_on-L-Opening : goal.ghosts-goes_on-L-Opening
ghosts-goes_on-L-Opening g a =
    record {
      start = opened [] (λ relation. 0);
      kind = kind_of a.opened.store;
      mark = (commits_of a.opened.store).mark;
      table = a.opened.cell.table.shared.table_id;
    }
