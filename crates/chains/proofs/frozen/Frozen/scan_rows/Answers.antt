use Rattle.std.proofs.Common.{◌≡◌, List, subst}
use Rattle.chains.specs.KeyWrites.{KeyWrites}
use Rattle.chains.specs.Rows.{scanned_rows}
use Rattle.chains.proofs.frozen.Frozen.scan_rows.Goals as goal

pub returns : goal.returns
returns c =
    let shown : c.add_records.new.found.items ≡ scanned_rows c.args.relation c.args.a c.args.b c.self.inside.keys =
    rw c.new-found.ensures.items at c.in_ok-add_records.ensures in
    subst (λ (m : List KeyWrites). c.add_records.new.found.items ≡ scanned_rows c.args.relation c.args.a c.args.b m) c.self.view_is shown
