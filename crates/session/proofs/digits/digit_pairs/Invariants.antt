use Rattle.std.proofs.Common.{◌≡◌, length, take, map}
use Rattle.session.specs.Digits.{pair_text}
use Rattle.session.proofs.digits.digit_pairs.Given as goal

abbrev pub invariant-loop-i : goal.invariant-loop-i
invariant-loop-i l = (length l.pairs ≡ 16) × (take l.i l.pairs ≡ map pair_text (take l.i l.block))
