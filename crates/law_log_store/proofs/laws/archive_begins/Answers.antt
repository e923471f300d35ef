use Rattle.law_log_store.proofs.ArchiveBegins.{archive-begins}
use Rattle.law_log_store.proofs.laws.archive_begins.Goals as goal

pub returns : goal.returns
returns c = λ v new upto h queue floors step none no_reclaim room later by_last in_range holds s begins.
    archive-begins v upto h queue floors step none no_reclaim room later by_last in_range holds s new begins
