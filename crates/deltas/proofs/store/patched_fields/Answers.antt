use Rattle.std.proofs.Common.{rules, ◌≡◌, ◌==◌, ◌%◌, false, ◌∷◌, ◌/◌}
use Rattle.law_image.specs.Facts.{patched}
use Rattle.deltas.proofs.Writes.{patched_clear, patched_out, field_stays}
use Rattle.deltas.proofs.store.patched_fields.Goals as goal

pub loop-field-preserved-then-not-is_changed : goal.loop-field-preserved-then-not-is_changed
loop-field-preserved-then-not-is_changed c =
    let clear : (c.loop-field.mask % 2 == 1) ≡ false = search rules in
    field_stays c.loop-field.mask c.loop-field.fields c.in_ok-fields.fields c.loop-field.news c.loop-field.news c.loop-field.olds c.take_field.new.self _
    c.in-Some.field.now c.in-Some.ensures.next c.in_ok-fields.ensures
    (patched_clear c.loop-field.mask c.in-Some.field.now c.loop-field.news c.take_field.new.self clear) c.loop-field.invariant

pub loop-field-preserved-in_default-take_field : goal.loop-field-preserved-in_default-take_field
loop-field-preserved-in_default-take_field c =
    let out : patched c.loop-field.mask c.loop-field.news (c.in-Some.field.now ∷ c.take_field.new.self)
    ≡ c.in-Some.field.now ∷ patched (c.loop-field.mask / 2) c.take_field-in-Some.new.self c.take_field.new.self =
    rw (c.in_default-take_field.ensures.next.0, c.in_default-take_field.ensures.next.1)
    (patched_out c.loop-field.mask c.in-Some.field.now c.take_field.new.self) in
    field_stays c.loop-field.mask c.loop-field.fields c.in_ok-fields-2.fields c.loop-field.news c.take_field-in-Some.new.self c.loop-field.olds
    c.take_field.new.self _ c.in-Some.field.now c.in-Some.ensures.next c.in_ok-fields-2.ensures out c.loop-field.invariant
