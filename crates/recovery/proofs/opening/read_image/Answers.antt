use Rattle.std.proofs.Common.{subst}
use Rattle.std.specs.Prelude.{IfErr}
use Rattle.disk.specs.Areas.{Image}
use Rattle.recovery.specs.Faults.{IsImageFault}
use Rattle.recovery.proofs.OneAnswer.{opening_answer}
use Rattle.recovery.proofs.Settling.{settles_then_reads, most_then_reads}
use Rattle.recovery.proofs.opening.read_image.Goals as goal

pub returns-clause-opens : goal.returns-clause-opens
returns-clause-opens g c = λ told header layout reading opening.
    opening_answer header _ layout reading c.read_settled.result opening
    (subst (λ (image : Image). IfErr c.read_settled.result (IsImageFault image)) (c.in_ok-settle.ensures.read told) (c.read_settled.ensures.fault told))

pub returns-clause-moments : goal.returns-clause-moments
returns-clause-moments g c = settles_then_reads _ _ _ _ c.read_settled.result c.in_ok-settle.ensures.moments c.read_settled.ensures.reads

pub returns-clause-most : goal.returns-clause-most
returns-clause-most g c =
    most_then_reads (g.D.Disk.state c.args.disk.now) (g.D.Disk.state c.settle.new.disk) (g.D.Disk.state c.read_settled.new.disk) c.read_settled.result
    c.in_ok-settle.ensures.most c.read_settled.ensures.reads
