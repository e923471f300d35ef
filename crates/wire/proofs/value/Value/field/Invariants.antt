use Rattle.std.proofs.Common.{◌≡◌, ◌-◌}
use Rattle.std.specs.Prelude.{slice_get}
use Rattle.wire.proofs.value.Value.field.Given as goal

abbrev pub invariant-loop : goal.invariant-loop
invariant-loop l = slice_get l.left (l.index - l.counter) ≡ slice_get l.self l.index
