use Rattle.std.proofs.Common.{take}
use Rattle.std.specs.List.{flat_map}
use Rattle.log_facts.specs.Json.{Adds}
use Rattle.log_facts.specs.Texts as told
use Rattle.log_facts.proofs.json_info.write_each_floor.Given as goal

abbrev pub invariant-loop-floor : goal.invariant-loop-floor
invariant-loop-floor l = Adds l.initial.line l.line (flat_map told.floor_tokens (take l.floor-index l.floors))
