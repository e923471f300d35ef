use Rattle.std.proofs.Common.{refl, rules}
use Rattle.std.specs.Prelude.{IsTrue, true}
use Rattle.status.proofs.Headers.{zeros_behind, zeros_from-one, zeros_from-other}
use Rattle.status.proofs.front.zeros_follow.Goals as goal

pub returns-then-has_pieces : goal.returns-then-has_pieces
returns-then-has_pieces c =
    let yes : IsTrue true = search rules in
    rw (zeros_from-other c.args.profile (c.if-has_pieces.ensures.some.0 yes))
    (zeros_behind 271 241 c.args.front.now c.are_zeros.result refl c.told-front c.are_zeros.ensures)

pub returns-else-has_pieces : goal.returns-else-has_pieces
returns-else-has_pieces c =
    rw (zeros_from-one c.args.profile (c.if-has_pieces.ensures.none.0 refl))
    (zeros_behind 16 496 c.args.front.now c.are_zeros-else-has_pieces.result refl c.told-front c.are_zeros-else-has_pieces.ensures)
