use Rattle.std.proofs.Common.{[], Result, Ok, Err}
use Rattle.std.specs.Prelude.{OnOk}
use Rattle.disk.specs.Areas.{Areas, Image, LeavesImage, image_of}
use Rattle.recovery.specs.declared.fault.FormatFault.{FormatFault}
use Rattle.any_store.specs.Formats.{IsFormatted}
use Rattle.any_store.specs.declared.formatting.Layout.{Layout}
use Rattle.law_any_store.specs.Formatted.{header_of}
use Rattle.law_any_store.specs.Standing.{IsImageOf}
use Rattle.law_any_store.proofs.Formatted.{formatted-leaves, formatted-stands}
use Rattle.run.proofs.opening.format.Goals as goal

by-result : (layout : Layout) (old new : Areas) (r : Result (Unit {0}) FormatFault) → OnOk r (IsFormatted layout old new)
    → OnOk r ((image : Image) → LeavesImage new image → IsImageOf (header_of layout) image [] (λ relation. 0))
by-result layout old new (Ok u) is = λ image left. formatted-leaves layout old new image is left
by-result layout old new (Err why) is = tt

read-by-result : (layout : Layout) (old new : Areas) (r : Result (Unit {0}) FormatFault) → OnOk r (IsFormatted layout old new)
    → OnOk r (IsImageOf (header_of layout) (image_of new) [] (λ relation. 0))
read-by-result layout old new (Ok u) is = formatted-stands layout old new is
read-by-result layout old new (Err why) is = tt

pub returns : goal.returns
returns g c = record {
  bad_size = c.format.ensures.bad_size;
  occupied = c.format.ensures.occupied;
  free = c.format.ensures.free;
  refuses = c.format.ensures.refuses;
  stands = λ told. by-result c.args.layout (g.D.Disk.state c.args.disk.now).areas (g.D.Disk.state c.format.new.disk).areas c.format.result
      (c.format.ensures.formatted told);
  reads = λ told. read-by-result c.args.layout (g.D.Disk.state c.args.disk.now).areas (g.D.Disk.state c.format.new.disk).areas c.format.result
      (c.format.ensures.formatted told);
}
