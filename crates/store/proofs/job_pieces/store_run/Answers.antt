use Rattle.std.proofs.Common.{arith}
use Rattle.store.specs.declared.job.JobWork.TheVariants.{Archive}
use Rattle.store.specs.Jobs.{writing}
use Rattle.store.proofs.JobSteps.{synced-all, wrote-some}
use Rattle.store.proofs.job_pieces.store_run.Goals as goal

pub returns-then-left-eq0 : goal.returns-then-left-eq0
returns-then-left-eq0 g c = λ log turn archived runs_end archive.
    synced-all _ c.args.writer.left c.args.run c.args.writer (writing (Archive c.args.run c.args.writer)) _ _ _
    (omega (arith, c.left.ensures, c.if-left-eq0.true)) (c.sync_stored.ensures log turn archived runs_end archive)

pub returns-else-left-eq0 : goal.returns-else-left-eq0
returns-else-left-eq0 g c = λ log turn archived runs_end archive.
    wrote-some _ c.args.writer.left c.args.run c.args.writer (writing (Archive c.args.run c.args.writer)) _ _ _
    (omega (arith, c.left.ensures, c.if-left-eq0.false)) (c.write_run.ensures log turn archived runs_end archive)
