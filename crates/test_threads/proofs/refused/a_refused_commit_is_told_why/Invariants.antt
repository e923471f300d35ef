use Rattle.std.proofs.Common.{[]}
use Rattle.history.specs.Machine.{opened}
use Rattle.any_store.specs.Values.{commits_of}
use Rattle.shared.specs.Kinds.{kind_of}
use Rattle.test_threads.proofs.refused.a_refused_commit_is_told_why.Given as goal

abbrev pub ghost-new : goal.ghost-new
ghost-new g a = opened [] (λ relation. 0)

abbrev pub ghosts-refuses_commits-L-Ledger : goal.ghosts-refuses_commits-L-Ledger
ghosts-refuses_commits-L-Ledger g a = record { name = a.opened.blank.name; parts = a.opened.blank.parts }

abbrev pub ghosts-refuses_commits-L-Opening : goal.ghosts-refuses_commits-L-Opening
ghosts-refuses_commits-L-Opening g a =
    record {
      start = opened [] (λ relation. 0);
      kind = kind_of a.opened.store;
      mark = (commits_of a.opened.store).mark;
      table = a.opened.cell.table.shared.table_id;
    }
