use Rattle.shared.proofs.Recent.{scan-says}
use Rattle.shared.proofs.shared_view.SharedView.recent_scan.Goals as goal

pub returns : goal.returns
returns g c = scan-says _ _ _ _ _ _ c.self.view_is c.self.invariant c.args.relation c.args.time c.recent_scan.result c.recent_scan.ensures
