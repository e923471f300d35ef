use Rattle.log_entries.specs.Spelling.{entry_bytes}
use Rattle.log_entries.proofs.Decoded.{no_group}
use Rattle.log_entries.proofs.decoding.decode_group.Goals as goal

pub returns-in_default : goal.returns-in_default
returns-in_default c = λ most. no_group most c.args.bytes.now c.requires (rw c.in_default.is at c.in_ok-members.ensures)

pub returns : goal.returns
unfolding entry_bytes
returns c = λ most. rw c.in-Some.is at c.in_ok-members.ensures
