-- The areas of a disk by number.
use Rattle.std.specs.Prelude.{ℕ}
use Rattle.disk.specs.declared.area.Area.{Area}
use Rattle.disk.specs.declared.area.Area.TheVariants.{Status, Heap, Archive}

-- the number of an area
abbrev pub area_number : Area → ℕ
area_number Status = 0
area_number Heap = 1
area_number Archive = 2
