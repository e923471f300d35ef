use Rattle.std.proofs.Common.{◌≡◌, map, take}
use Rattle.session.proofs.transacting.slices.Given as goal

abbrev pub invariant-loop-field : goal.invariant-loop-field
invariant-loop-field l = map (λ part. part.now) l.parts.items ≡ map (λ f. f.items) (take l.field-index l.fields)
