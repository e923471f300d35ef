use Rattle.std.proofs.Common.{Some, take, map}
use Rattle.std.specs.List.{flat_map}
use Rattle.std.specs.Io.KnownBytes.{Appends}
use Rattle.log_facts.specs.Texts as told
use Rattle.log_facts.specs.Names.{named_as}
use Rattle.log_facts.proofs.lines.spell_numbers.Given as goal

abbrev pub invariant-loop-number : goal.invariant-loop-number
invariant-loop-number l = Appends (Some l.initial.text.items) (Some l.text.items) (flat_map told.number_line (map named_as (take l.number-index l.numbers)))
