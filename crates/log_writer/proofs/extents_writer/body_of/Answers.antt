use Rattle.std.proofs.Common.{◌*◌}
use Rattle.log_writer.proofs.Parts.{slice-part}
use Rattle.log_writer.proofs.extents_writer.body_of.Goals as goal

pub returns : goal.returns
returns c = slice-part (8168 * c.args.index) c.min.result 8168 c.args.content.now c.min.ensures
