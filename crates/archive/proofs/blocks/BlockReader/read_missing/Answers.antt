use Rattle.std.proofs.Common.{rules}
use Rattle.archive.proofs.Caching.{keeps_later}
use Rattle.archive.proofs.blocks.BlockReader.read_missing.Goals as goal

pub returns-in_err-there-clause-kept : goal.returns-in_err-there-clause-kept
returns-in_err-there-clause-kept g c = keeps_later (search rules) c.in_err-there.ensures.kept

pub returns-clause-kept : goal.returns-clause-kept
returns-clause-kept g c = keeps_later (search rules) c.in_ok-there.ensures.kept
