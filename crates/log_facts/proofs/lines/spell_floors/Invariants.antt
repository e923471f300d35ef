use Rattle.std.proofs.Common.{Some, take}
use Rattle.std.specs.List.{flat_map}
use Rattle.std.specs.Io.KnownBytes.{Appends}
use Rattle.log_facts.specs.Texts as told
use Rattle.log_facts.proofs.lines.spell_floors.Given as goal

abbrev pub invariant-loop-floor : goal.invariant-loop-floor
invariant-loop-floor l = Appends (Some l.initial.text.items) (Some l.text.items) (flat_map told.floor_line (take l.floor-index l.floors))
