use Rattle.std.proofs.Common.{Some, take, List, ℕ}
use Rattle.std.specs.List.{flat_map}
use Rattle.std.specs.Io.KnownBytes.{Appends}
use Rattle.hex.specs.Hex.{encode_lower}
use Rattle.session.proofs.digits.spell_hex.Given as goal

abbrev pub invariant-loop-block : goal.invariant-loop-block
invariant-loop-block l = Appends (Some l.initial.text.items) (Some l.text.items) (flat_map (λ (b : List ℕ). encode_lower b) (take l.block-index l.blocks))
