use Rattle.std.proofs.Common.{◌∙◌, sym}
use Rattle.chains.specs.Rows.{versions_upto}
use Rattle.chains.proofs.Found.{no-versions}
use Rattle.chains.proofs.row_walk.looked_at.Goals as goal

pub returns-then-near_count-eq0-clause-is : goal.returns-then-near_count-eq0-clause-is
returns-then-near_count-eq0-clause-is c =
    λ end. sym (no-versions (versions_upto end c.args.writes.now) (sym c.if-near_count-eq0.true ∙ c.near_count.ensures.is end))
