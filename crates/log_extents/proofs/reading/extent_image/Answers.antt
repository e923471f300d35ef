use Rattle.std.proofs.Common.{ℕ, List, ap}
use Rattle.std.specs.Prelude.{slice_set}
use Rattle.log_extents.specs.Extents.{linked_bytes}
use Rattle.log_extents.proofs.reading.extent_image.Goals as goal

pub returns : goal.returns
unfolding linked_bytes
returns c = ap (λ (l : List ℕ). slice_set l 0 c.args.extent.gate) c.fill_extent.ensures
