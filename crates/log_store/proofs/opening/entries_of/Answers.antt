use Rattle.log_store.proofs.Entries.{no_more}
use Rattle.log_store.proofs.opening.entries_of.Goals as goal

pub returns : goal.returns
returns c =
    no_more c.loop-run.mark c.args.runs.now c.loop-run.rest.now c.loop-run.entries.items c.loop-run.invariant.1 c.in_default.ensures.cases
