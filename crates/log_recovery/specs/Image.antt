-- What the image of a store says whose log lies in the heap.
use Rattle.std.specs.Prelude.{length}
use Rattle.std.specs.List.{AllByRecursion}
use Rattle.disk.specs.Areas.{Image}
use Rattle.log_roots.specs.Roots.{root_of}
use Rattle.log_recovery.specs.declared.image.LogRecovered.{LogRecovered}
use Rattle.log_recovery.specs.Opening.{ReadsRoots, EndsWithin}
use Rattle.log_recovery.specs.Ends.{end_parts}
use Rattle.log_recovery.specs.Read.{IsHeapRead}

-- The image is read, and this is what it says. Each run that stands, and each roll, ends within the archive.
pub record IsReadFrom (image : Image) (read : LogRecovered) : Type 0 where
  pub roots : ReadsRoots image.status read.roots
  pub heap : IsHeapRead read.roots.extents (root_of read.roots) image.heap read.heap
  pub within : AllByRecursion (EndsWithin (length image.archive)) (end_parts read.heap.end)
