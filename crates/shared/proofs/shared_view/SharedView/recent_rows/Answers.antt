use Rattle.shared.proofs.Recent.{walk-says}
use Rattle.shared.proofs.shared_view.SharedView.recent_rows.Goals as goal

pub returns : goal.returns
returns g c = walk-says _ _ _ _ _ _ c.self.view_is c.self.invariant c.args.key c.args.a c.args.b c.recent_rows.result c.recent_rows.ensures
