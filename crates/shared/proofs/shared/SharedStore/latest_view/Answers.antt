use Rattle.shared.proofs.Fronts.{later-then}
use Rattle.shared.proofs.Moments.{holds-then}
use Rattle.shared.proofs.shared.SharedStore.latest_view.Goals as goal

pub returns-in-None-clause-holds : goal.returns-in-None-clause-holds
returns-in-None-clause-holds g c = holds-then _ _ _ _ c.in_ok-found.ensures.later c.view_to_keep.ensures.holds

pub returns-in-None-clause-later : goal.returns-in-None-clause-later
returns-in-None-clause-later g c = later-then _ _ _ c.in_ok-found.ensures.later c.view_to_keep.ensures.later
