use Rattle.std.proofs.Common.{ℕ, ◌↔◌, ap, subst, ◌∙◌}
use Rattle.history.specs.Answers.{at_answer, between_answer, IsScanAtAnswer, IsScanBetweenAnswer}
use Rattle.history.specs.Views.{IsScanAtView, IsScanBetweenView}
use Rattle.history.proofs.Views.{view-at, view-between}
use Rattle.history.proofs.ViewScans.{view-scans, view-scans_rows}
use Rattle.law_image.specs.Views.{view_of}
use Rattle.law_image.proofs.Kept.{is-view, floors-are}
use Rattle.law_image.proofs.Standing.{rises}
use Rattle.law_image.proofs.laws.image_answers.Goals as goal

pub returns-clause-view : goal.returns-clause-view
returns-clause-view c = λ reading h floors stands. is-view reading h floors stands

pub returns-clause-at : goal.returns-clause-at
returns-clause-at c = λ reading h floors key t stands.
    view-at (view_of reading) h (is-view reading h floors stands) (rises reading h floors stands) key t
    ∙ ap (λ (f : ℕ → ℕ). at_answer h f key t) (floors-are reading h floors stands)

pub returns-clause-between : goal.returns-clause-between
returns-clause-between c = λ reading h floors key a b stands.
    view-between (view_of reading) h (is-view reading h floors stands) (rises reading h floors stands) key a b
    ∙ ap (λ (f : ℕ → ℕ). between_answer h f key a b) (floors-are reading h floors stands)

pub returns-clause-scan_at : goal.returns-clause-scan_at
returns-clause-scan_at c = λ reading h floors relation t answer stands.
    subst (λ (f : ℕ → ℕ). IsScanAtView (view_of reading) relation t answer ↔ IsScanAtAnswer h f relation t answer) (floors-are reading h floors stands)
    (view-scans (view_of reading) h (is-view reading h floors stands) (rises reading h floors stands) relation t answer)

pub returns-clause-scan_between : goal.returns-clause-scan_between
returns-clause-scan_between c = λ reading h floors relation a b answer stands.
    subst (λ (f : ℕ → ℕ). IsScanBetweenView (view_of reading) relation a b answer
    ↔ IsScanBetweenAnswer h f relation a b answer) (floors-are reading h floors stands)
    (view-scans_rows (view_of reading) h (is-view reading h floors stands) (rises reading h floors stands) relation a b answer)
