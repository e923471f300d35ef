use Rattle.law_log_steps.proofs.ArchiveStarts.{archive-starts}
use Rattle.law_log_steps.proofs.laws.archive_starts.Goals as goal

pub returns : goal.returns
returns c = λ tells old new upto answer m step is starts. archive-starts tells old new upto answer m step is starts
