use Rattle.std.specs.Option.{option_copied}
use Rattle.history.specs.Versions.{versions}
use Rattle.chains.specs.KeyWrites.{writes_in}
use Rattle.chains.proofs.RowWalks.{no-rows_empty}
use Rattle.chains.proofs.row_walk.next_chunk.Goals as goal

pub returns-then-upto-time : goal.returns-then-upto-time
returns-then-upto-time c = no-rows_empty (versions (writes_in (option_copied c.args.chain))) c.args.time c.args.upto c.if-upto-time.true
