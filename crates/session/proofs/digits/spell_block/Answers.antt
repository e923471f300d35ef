use Rattle.std.proofs.Common.{ap, sym, ◌≡◌, ◌∙◌, List, ℕ, rules}
use Rattle.std.specs.List.{flat_map}
use Rattle.hex.specs.Hex.{encode_lower}
use Rattle.session.proofs.HexLemmas.{pairs-encode}
use Rattle.session.proofs.digits.spell_block.Goals as goal

pub returns : goal.returns
returns c =
    let spelled : c.as_flattened.result.now ≡ encode_lower c.args.block.now =
    c.as_flattened.ensures.value ∙ ap (flat_map (λ (pair : List ℕ). pair)) c.digit_pairs-pairs.ensures ∙ pairs-encode c.args.block.now in
    rw (sym spelled) (search rules)
