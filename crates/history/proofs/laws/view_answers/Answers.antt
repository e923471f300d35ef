use Rattle.std.proofs.Common.{[]}
use Rattle.history.proofs.Histories.{rising-from_following}
use Rattle.history.proofs.Views.{view-at, view-between, recent-at, recent-between}
use Rattle.history.proofs.ViewScans.{view-scans, view-scans_rows}
use Rattle.history.proofs.laws.view_answers.Goals as goal

pub returns-clause-at : goal.returns-clause-at
returns-clause-at g c = λ view h key t history is. view-at view h is (rising-from_following g.V.Stored.IsValue [] h history) key t

pub returns-clause-between : goal.returns-clause-between
returns-clause-between g c = λ view h key a b history is. view-between view h is (rising-from_following g.V.Stored.IsValue [] h history) key a b

pub returns-clause-recent_at : goal.returns-clause-recent_at
returns-clause-recent_at g c = λ view h key t history is recent. recent-at view h is (rising-from_following g.V.Stored.IsValue [] h history) key t recent

pub returns-clause-recent_between : goal.returns-clause-recent_between
returns-clause-recent_between g c =
    λ view h key a b history is recent. recent-between view h is (rising-from_following g.V.Stored.IsValue [] h history) key a b recent

pub returns-clause-scan_at : goal.returns-clause-scan_at
returns-clause-scan_at g c =
    λ view h relation t answer history is. view-scans view h is (rising-from_following g.V.Stored.IsValue [] h history) relation t answer

pub returns-clause-scan_between : goal.returns-clause-scan_between
returns-clause-scan_between g c =
    λ view h relation a b answer history is. view-scans_rows view h is (rising-from_following g.V.Stored.IsValue [] h history) relation a b answer
