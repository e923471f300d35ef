use Rattle.std.proofs.Common.{◌≡◌, arith}
use Rattle.std.proofs.lemmas.Bool.Decides.{nat_tests}
use Rattle.chains.proofs.chunk.Chunk.is_kept.Goals as goal

pub returns : goal.returns
returns c = λ kept.
    let none : c.ended_by.result ≡ 0 = grind (arith, nat_tests) in
    rw (none, c.as_slice.ensures.is) at c.ended_by.ensures.kept
