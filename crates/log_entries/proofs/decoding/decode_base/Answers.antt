use Rattle.log_entries.specs.Spelling.{entry_bytes}
use Rattle.log_entries.proofs.Decoded.{no_base}
use Rattle.log_entries.proofs.decoding.decode_base.Goals as goal

pub returns-in_default : goal.returns-in_default
returns-in_default c = no_base c.args.most c.args.bytes.now c.requires (rw c.in_default.is at c.in_ok-base.ensures)

pub returns : goal.returns
unfolding entry_bytes
returns c = rw c.in-Some.is at c.in_ok-base.ensures
