use Rattle.deltas.proofs.Filled.{header_in_front}
use Rattle.deltas.proofs.filling.fill_extent.Goals as goal

pub returns : goal.returns
returns g c =
    let filled = c.fill_body-filled.ensures in record {
      body = filled.0;
      first = filled.1;
      image_is = header_in_front c.args.number c.args.next c.fill_body-filled.result.used c.args.image.now c.fill_body-filled.new.body c.put_header.new.image
          filled.0 c.told-image filled.1.fits filled.1.used filled.2 c.put_header.ensures;
    }
