use Rattle.std.proofs.Common.{◌≡◌, ℕ, ◌+◌, ◌-◌, ◌*◌, List, ap, ◌∙◌, arith}
use Rattle.std.specs.Prelude.{slice_range}
use Rattle.law_layout.specs.Extents.{extent_start}
use Rattle.recovery.specs.Walk.{extent_at}
use Rattle.recovery.proofs.chain.read_into.Goals as goal

pub returns-in-Ok-clause-bytes : goal.returns-in-Ok-clause-bytes
unfolding extent_at
returns-in-Ok-clause-bytes g c = λ told.
    let heap : List ℕ = (g.D.Disk.state c.args.disk.now).areas.heap.bytes in
    let start : (c.args.number - 1) * 8192 ≡ extent_start c.args.number = omega arith in
    c.in-Ok.ensures.bytes told
    ∙ ap (λ (n : ℕ). slice_range heap ((c.args.number - 1) * 8192) ((c.args.number - 1) * 8192 + n)) c.requires.len
    ∙ ap (λ (at : ℕ). slice_range heap at (at + 8192)) start
