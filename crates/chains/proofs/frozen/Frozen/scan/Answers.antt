use Rattle.std.proofs.Common.{◌≡◌, ◌∙◌, List, subst}
use Rattle.chains.specs.KeyWrites.{KeyWrites}
use Rattle.chains.specs.Rows.{of_relation}
use Rattle.chains.specs.Scans.{scanned, shown_value}
use Rattle.chains.proofs.Relations.{scanned-is}
use Rattle.chains.proofs.frozen.Frozen.scan.Goals as goal

pub returns : goal.returns
returns c =
    let shown : c.add_values.new.found.items ≡ of_relation c.args.relation (shown_value c.args.time) c.self.inside.keys =
    rw c.new-found.ensures.items at c.in_ok-add_values.ensures in
    subst (λ (m : List KeyWrites). c.add_values.new.found.items ≡ scanned c.args.relation c.args.time m) c.self.view_is (shown
    ∙ scanned-is c.args.relation c.args.time c.self.inside.keys)
