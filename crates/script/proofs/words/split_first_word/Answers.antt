use Rattle.std.proofs.Common.{◌≡◌, ℕ, false, take_all, eqb, eq-eqb}
use Rattle.std.proofs.lemmas.Bool.{ne_eqb}
use Rattle.std.proofs.lemmas.List.{take_rest}
use Rattle.std.proofs.lemmas.List.Elements.{All-more}
use Rattle.std.proofs.lemmas.List.Splits.{slice_split_none}
use Rattle.script.proofs.WordLemmas.{words_of_read}
use Rattle.script.proofs.words.split_first_word.Goals as goal

pub returns-then-byte-eq32 : goal.returns-then-byte-eq32
returns-then-byte-eq32 c =
    rw take_rest (words_of_read c.args.text.now c.loop-at.at c.loop-at-test.true (eq-eqb _ 32 c.if-byte-eq32.true) c.loop-at.invariant)

pub loop-at-preserved : goal.loop-at-preserved
loop-at-preserved c =
    All-more (λ (x : ℕ). eqb x 32 ≡ false) c.args.text.now c.loop-at.at 0 c.loop-at-test.true c.loop-at.invariant (ne_eqb _ 32 c.if-byte-eq32.false)

pub returns : goal.returns
returns c = slice_split_none _ _ (rw (take_all _ _ c.loop-at-test.false) at c.loop-at.invariant)
