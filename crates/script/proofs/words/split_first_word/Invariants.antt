use Rattle.std.proofs.Common.{◌≡◌, false, take, All, eqb}
use Rattle.script.proofs.words.split_first_word.Given as goal

abbrev pub invariant-loop-at : goal.invariant-loop-at
invariant-loop-at l = All (λ x. eqb x 32 ≡ false) (take l.at l.text)
