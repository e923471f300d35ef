use Rattle.std.proofs.Common.{refl}
use Rattle.log_extents.proofs.Bytes.{head_in_front}
use Rattle.log_extents.proofs.filling.fill_extent.Goals as goal

pub returns : goal.returns
returns c =
    head_in_front c.args.number c.args.next c.args.link _ c.args.image.now c.put_body.new.part c.put_head.new.image c.args.body.now c.told-image refl
    c.put_body.ensures c.put_head.ensures
