use Rattle.std.proofs.Common.{take, map}
use Rattle.std.specs.List.{flat_map}
use Rattle.log_facts.specs.Json.{Adds}
use Rattle.log_facts.specs.Texts as told
use Rattle.log_facts.specs.Names.{named_as}
use Rattle.log_facts.proofs.json_info.write_numbers.Given as goal

abbrev pub invariant-loop-number : goal.invariant-loop-number
invariant-loop-number l = Adds l.initial.line l.line (flat_map told.number_tokens (map named_as (take l.number-index l.numbers)))
