use Rattle.std.proofs.Common.{◌∙◌, ap, inr}
use Rattle.disk.specs.Areas.{Areas}
use Rattle.log_store.specs.Formats.{headed}
use Rattle.log_store.proofs.Formats.{refused_so}
use Rattle.log_store.proofs.formatting.write_store.Goals as goal

pub returns-in_err-put_header-clause-stop : goal.returns-in_err-put_header-clause-stop
returns-in_err-put_header-clause-stop g c =
    λ told. refused_so _ c.from_residual-in_err-put_header.result (inr (c.put_header.ensures.stop told
    ∙ ap (λ (a : Areas). record a { status = (g.D.Disk.state c.put_header.new.disk).areas.status }) (c.in_ok-zero_first.ensures.zeroed told)))

pub returns-clause-formatted : goal.returns-clause-formatted
returns-clause-formatted g c =
    λ told. c.in_ok-put_header.ensures.headed told
    ∙ ap (λ (a : Areas). record a { status = headed c.args.extents a.status }) (c.in_ok-zero_first.ensures.zeroed told)
