use Rattle.std.proofs.Common.{arith, take, length, ap, sym, ◌≡◌, ◌<◌, ℕ, List, map, ◌∙◌, ◌∷◌, [], ◌++◌, length-set}
use Rattle.std.proofs.lemmas.List.{map_more, take_more_set, take_all}
use Rattle.session.specs.Digits.{pair_text}
use Rattle.session.proofs.digits.digit_pairs.Goals as goal

pub loop-i-preserved : goal.loop-i-preserved
loop-i-preserved c =
    let among : c.loop-i.i < length c.args.block.now = omega arith in (
      length-set c.loop-i.pairs c.loop-i.i c.digit_pair.result ∙ c.loop-i.invariant.0,
      take_more_set c.loop-i.pairs c.loop-i.i c.digit_pair.result (omega (arith, c.loop-i.invariant.0))
          ∙ ap (λ (t : List (List ℕ)). t ++ c.digit_pair.result ∷ []) c.loop-i.invariant.1
          ∙ ap (λ (t : List ℕ). map pair_text (take c.loop-i.i c.args.block.now) ++ t ∷ []) c.digit_pair.ensures
          ∙ sym (map_more pair_text c.args.block.now c.loop-i.i 0 among),
    )

pub returns : goal.returns
returns c =
    let whole : take c.loop-i.i c.loop-i.pairs ≡ c.loop-i.pairs = take_all _ _ (omega (arith, c.loop-i.invariant.0)) in
    let all : take c.loop-i.i c.args.block.now ≡ c.args.block.now = take_all _ _ (omega arith) in
    sym whole ∙ c.loop-i.invariant.1 ∙ ap (map pair_text) all
