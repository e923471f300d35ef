use Rattle.std.proofs.Common.{ap, sym, ◌≡◌, ◌∙◌, take, length, List, ℕ, rules, arith}
use Rattle.std.specs.List.{flat_map}
use Rattle.std.proofs.lemmas.Bool.Decides.{nat_tests}
use Rattle.hex.specs.Hex.{encode_lower}
use Rattle.session.proofs.HexLemmas.{encode-none, front-encode}
use Rattle.session.proofs.digits.spell_rest.Goals as goal

pub returns-then-is_empty : goal.returns-then-is_empty
returns-then-is_empty c = encode-none c.args.text.now.items c.args.bytes.now (grind (arith, nat_tests))

pub returns : goal.returns
returns c =
    let bytes : List ℕ = c.args.bytes.now in
    let spelled : c.as_flattened.result.now ≡ encode_lower bytes =
    c.as_flattened.ensures.value
    ∙ ap (λ (l : List (List ℕ)). flat_map (λ (pair : List ℕ). pair) (take (length bytes) l)) c.digit_pairs-pairs.ensures
    ∙ front-encode bytes c.copy_from_slice.new.self _ c.copy_from_slice.ensures.after in
    rw (sym spelled) (search rules)
