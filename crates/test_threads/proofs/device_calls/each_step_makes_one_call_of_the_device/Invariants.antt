use Rattle.std.proofs.Common.{[]}
use Rattle.history.specs.Machine.{opened}
use Rattle.any_store.specs.Values.{commits_of}
use Rattle.shared.specs.Kinds.{kind_of}
use Rattle.test_threads.proofs.device_calls.each_step_makes_one_call_of_the_device.Given as goal

abbrev pub ghost-new : goal.ghost-new
ghost-new g a = opened [] (λ relation. 0)

abbrev pub ghosts-one_call_a_holding-L-Ledger : goal.ghosts-one_call_a_holding-L-Ledger
ghosts-one_call_a_holding-L-Ledger g a = record { name = a.opened.blank.name; parts = a.opened.blank.parts }

abbrev pub ghosts-one_call_a_holding-L-Opening : goal.ghosts-one_call_a_holding-L-Opening
ghosts-one_call_a_holding-L-Opening g a =
    record {
      start = opened [] (λ relation. 0);
      kind = kind_of a.opened.store;
      mark = (commits_of a.opened.store).mark;
      table = a.opened.cell.table.shared.table_id;
    }
