use Rattle.shared.proofs.Recent.{between-says}
use Rattle.shared.proofs.shared_view.SharedView.recent_between.Goals as goal

pub returns : goal.returns
returns g c = between-says _ _ _ _ _ _ c.self.view_is c.self.invariant c.args.key c.args.a c.args.b c.recent_between.result c.recent_between.ensures
