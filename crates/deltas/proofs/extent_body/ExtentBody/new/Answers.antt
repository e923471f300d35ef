use Rattle.std.proofs.Common.{vec_len}
use Rattle.deltas.proofs.Bodies.{none_begun}
use Rattle.deltas.proofs.extent_body.ExtentBody.new.Goals as goal

pub invariant_of-result : goal.invariant_of-result
invariant_of-result c = none_begun c.resize.new.self.items c.in_ok-image.image.items
    (vec_len c.in_ok-image.image) c.in_ok-resize.ensures.items c.in_ok-image.ensures.items c.in_ok-image.ensures.len
