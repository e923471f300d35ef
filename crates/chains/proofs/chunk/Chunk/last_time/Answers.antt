use Rattle.std.proofs.Common.{◌≡◌, ◌∙◌, ◌-◌, Some, length, sym}
use Rattle.std.specs.List.{slice_get}
use Rattle.chains.proofs.Kept.{last_time-get}
use Rattle.chains.proofs.chunk.Chunk.last_time.Goals as goal

pub returns-in-Some-clause-is : goal.returns-in-Some-clause-is
returns-in-Some-clause-is c =
    let ps = c.args.self.now in
    let is : slice_get ps (length ps - 1) ≡ Some c.in-Some.w.now = rw c.as_slice.ensures.is at (sym c.in-Some.ensures.value) in
    c.time.ensures ∙ sym (last_time-get 0 ps c.in-Some.w.now is)
