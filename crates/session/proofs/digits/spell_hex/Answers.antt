use Rattle.std.proofs.Common.{Some, List, ℕ, [], refl, ◌≡◌, ◌++◌, take, ◌/◌, length}
use Rattle.std.specs.List.{flat_map}
use Rattle.std.proofs.lemmas.List.{take_all}
use Rattle.hex.specs.Hex.{encode_lower}
use Rattle.session.proofs.HexLemmas.{whole_written, blocks-encode}
use Rattle.session.proofs.TextLemmas.{written_more}
use Rattle.session.proofs.digits.spell_hex.Goals as goal

pub loop-block-preserved : goal.loop-block-preserved
loop-block-preserved c =
    written_more (λ (b : List ℕ). encode_lower b) (Some c.args.text.now.items) (Some c.loop-block.text.items) (Some c.spell_block.new.text.items)
    c.as_chunks.result.0.now c.loop-block.block-index [] _ c.loop-block-test.true c.loop-block.invariant c.in_ok-spell_block.ensures refl

pub returns : goal.returns
returns c =
    let bytes : List ℕ = c.args.bytes.now in
    let all : take c.loop-block.block-index c.as_chunks.result.0.now ≡ c.as_chunks.result.0.now = take_all _ _ c.loop-block-test.false in
    let whole : flat_map (λ (b : List ℕ). encode_lower b) (take c.loop-block.block-index c.as_chunks.result.0.now) ++ encode_lower c.as_chunks.result.1.now
    ≡ encode_lower bytes =
    rw (all, c.as_chunks.ensures.front, c.as_chunks.ensures.back) (blocks-encode 16 (length bytes / 16) bytes) in
    whole_written c.spell_rest.result c.args.text.now.items c.loop-block.text.items c.spell_rest.new.text.items _ _ _ c.spell_rest.ensures
    c.loop-block.invariant whole
