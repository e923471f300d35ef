use Rattle.std.proofs.Common.{ap, ◌∙◌, ℕ, List, slice_set}
use Rattle.log_writer.proofs.Whole.{with_gate}
use Rattle.log_writer.proofs.extents_writer.image_of.Goals as goal

pub returns : goal.returns
returns c =
    ap (λ (bytes : List ℕ). slice_set bytes 0 c.args.gate) c.fill_extent.ensures
    ∙ with_gate c.args.gate c.args.number c.args.next c.args.link c.args.body.now
