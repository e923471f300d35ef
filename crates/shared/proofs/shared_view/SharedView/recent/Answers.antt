use Rattle.shared.proofs.Recent.{recent-says}
use Rattle.shared.proofs.shared_view.SharedView.recent.Goals as goal

pub returns : goal.returns
returns g c = recent-says _ _ _ _ _ _ c.self.view_is c.self.invariant c.args.key c.args.time c.recent.result c.recent.ensures
