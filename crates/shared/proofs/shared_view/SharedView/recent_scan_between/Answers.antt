use Rattle.shared.proofs.Recent.{scan_between-says}
use Rattle.shared.proofs.shared_view.SharedView.recent_scan_between.Goals as goal

pub returns : goal.returns
returns g c =
    scan_between-says _ _ _ _ _ _ c.self.view_is c.self.invariant c.args.relation c.args.a c.args.b c.recent_scan_between.result c.recent_scan_between.ensures
