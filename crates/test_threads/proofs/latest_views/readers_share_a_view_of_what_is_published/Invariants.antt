use Rattle.std.proofs.Common.{[]}
use Rattle.history.specs.Machine.{opened}
use Rattle.any_store.specs.Values.{commits_of}
use Rattle.shared.specs.Kinds.{kind_of}
use Rattle.test_threads.proofs.latest_views.readers_share_a_view_of_what_is_published.Given as goal

abbrev pub ghost-new : goal.ghost-new
ghost-new g a = opened [] (λ relation. 0)

abbrev pub ghosts-shows_what_is_published-L-Ledger : goal.ghosts-shows_what_is_published-L-Ledger
ghosts-shows_what_is_published-L-Ledger g a = record { name = a.opened.blank.name; parts = a.opened.blank.parts }

abbrev pub ghosts-shows_what_is_published-L-Opening : goal.ghosts-shows_what_is_published-L-Opening
ghosts-shows_what_is_published-L-Opening g a =
    record {
      start = opened [] (λ relation. 0);
      kind = kind_of a.opened.store;
      mark = (commits_of a.opened.store).mark;
      table = a.opened.cell.table.shared.table_id;
    }
