use Rattle.std.proofs.Common.{◌≡◌, length, map, arith, ap, ◌∙◌}
use Rattle.deltas.specs.Extents.{extent_bytes}
use Rattle.deltas.specs.Chains.{chain_of}
use Rattle.group.proofs.Sealed.{length-sealed}
use Rattle.group.proofs.sealing.seal_all.Goals as goal

pub stored_together-requires-clause-lengths : goal.stored_together-requires-clause-lengths
stored_together-requires-clause-lengths c =
    ap length (c.in-Ok.ensures ∙ ap (λ ns. map extent_bytes (chain_of ns c.args.bodies.items)) c.deref.ensures.value)
    ∙ length-sealed c.args.extents.items c.args.bodies.items c.requires

pub stored_together-requires-clause-room : goal.stored_together-requires-clause-room
stored_together-requires-clause-room c =
    let images : length c.in-Ok.images.items ≡ length c.args.extents.items =
    ap length (c.in-Ok.ensures ∙ ap (λ ns. map extent_bytes (chain_of ns c.args.bodies.items)) c.deref.ensures.value)
    ∙ length-sealed c.args.extents.items c.args.bodies.items c.requires in
    omega (arith, images, c.in-Ok-with_capacity.ensures.exact, c.len.ensures, c.deref.ensures.len, ap length c.deref.ensures.value)
