use Rattle.std.proofs.Common.{subst}
use Rattle.std.specs.Prelude.{IfErr}
use Rattle.disk.specs.Calls.{DiskState}
use Rattle.any_store.specs.Formats.{FormatRefuses}
use Rattle.any_store.proofs.formatting.format.Goals as goal

pub returns-clause-refuses : goal.returns-clause-refuses
returns-clause-refuses g c =
    let new : DiskState = g.D.Disk.state c.format_as.new.disk in
    subst (λ (s : DiskState). IfErr c.format_as.result (λ fault. FormatRefuses g.D.Disk.tells c.args.layout s fault new)) c.in_ok-is_taken.ensures.same
    c.format_as.ensures.refuses
