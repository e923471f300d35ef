use Rattle.std.proofs.Common.{◌∙◌, ap}
use Rattle.deltas.specs.Extents.{extent_bytes}
use Rattle.deltas.proofs.Bodies.{sealed}
use Rattle.deltas.proofs.extent_body.seal.Goals as goal

pub returns : goal.returns
returns c =
    let number = c.args.number in
    let next = c.args.next in
    let b = c.body.inside in
    c.of_all.ensures
    ∙ sealed number next b.used b.image.len b.image.items c.deref_mut.result.now c.put_header.new.image c.body.invariant b.image.ok.0 c.deref_mut.ensures.value
    c.put_header.ensures
    ∙ ap (λ l. extent_bytes (record { number = number; next = next; body = l })) c.body.view_is
