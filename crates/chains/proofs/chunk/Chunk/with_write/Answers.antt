use Rattle.chains.specs.Stamps.{write_of_loan}
use Rattle.chains.proofs.Kept.{rising-push}
use Rattle.chains.proofs.chunk.Chunk.with_write.Goals as goal

pub of-requires-clause-rising : goal.of-requires-clause-rising
of-requires-clause-rising c =
    rw (
      c.in_ok-put_last.ensures.ok,
      c.in_ok-longer.ensures,
      c.as_slice.ensures.is,
    ) (rising-push 0 c.args.self.now (write_of_loan c.args.write) c.as_slice.ensures.rising c.requires.later c.requires.in_range)
