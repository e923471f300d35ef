use Rattle.std.proofs.Common.{◌≡◌, ◌-◌, ◌↔◌}
use Rattle.wire.specs.Fields.{HasFields, rest_at}
use Rattle.wire.proofs.fields.skip_fields.Given as goal

abbrev pub invariant-loop : goal.invariant-loop
invariant-loop l = (HasFields (l.count - l.counter) l.rest ↔ HasFields l.count l.bytes) × (rest_at (l.count - l.counter) l.rest ≡ rest_at l.count l.bytes)
