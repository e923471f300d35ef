use Rattle.std.proofs.Common.{◌∙◌, ap}
use Rattle.chains.specs.Spots.{shown_there}
use Rattle.chains.proofs.Scans.{there-push}
use Rattle.chains.proofs.scanning.add_spot.Goals as goal

pub returns : goal.returns
returns c =
    rw (c.key.ensures, c.spot.ensures) at
    (ap shown_there c.in_ok-push.ensures.items ∙ there-push c.args.spots.now.items c.key.result.record c.spot.result)
