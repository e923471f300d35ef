use Rattle.std.proofs.Common.{◌<◌, length, arith, ap}
use Rattle.wire.proofs.FieldsRead.{one_more, length-fields_at}
use Rattle.wire.proofs.fields.Fields.push.Goals as goal

pub invariant_of-self-2 : goal.invariant_of-self-2
invariant_of-self-2 c =
    let spelled = c.self.inside.spelled in
    let few : spelled.count < 16 = (let n = length-fields_at spelled.count spelled.bytes c.self.invariant.has in let size =
    ap (λ f. length f) c.self.view_is in omega (arith, n, size, c.requires.few)) in
    rw (c.in_ok-push.ensures.ok) (one_more spelled.count spelled.bytes c.args.field.now c.self.invariant
    (λ i. omega (arith, c.type_inv.field i)) c.requires.short few).0

pub returns : goal.returns
returns c =
    let spelled = c.self.inside.spelled in
    let few : spelled.count < 16 = (let n = length-fields_at spelled.count spelled.bytes c.self.invariant.has in let size =
    ap (λ f. length f) c.self.view_is in omega (arith, n, size, c.requires.few)) in
    rw (c.in_ok-push.ensures.ok, ← c.self.view_is) (one_more spelled.count spelled.bytes c.args.field.now c.self.invariant
    (λ i. omega (arith, c.type_inv.field i)) c.requires.short few).1
