use Rattle.std.proofs.Common.{Some, take}
use Rattle.std.specs.List.{flat_map}
use Rattle.std.specs.Io.KnownBytes.{Appends}
use Rattle.shell.specs.Styled.{pair_text}
use Rattle.shell.proofs.styled.spell_pairs.Given as goal

abbrev pub invariant-loop-pair : goal.invariant-loop-pair
invariant-loop-pair l = Appends (Some l.initial.text.items) (Some l.text.items) (flat_map (pair_text l.form l.width) (take l.pair-index l.found))
