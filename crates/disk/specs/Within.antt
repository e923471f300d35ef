-- What a stop within a call of a disk may leave.
use Rattle.std.specs.Prelude.{ℕ, ◌⊎◌, List, length, Ok}
use Rattle.disk.specs.declared.area.Area.{Area}
use Rattle.disk.specs.Areas.{Areas, Image, AreSound, LeavesImage, LeavesNoMore, while_written}
use Rattle.disk.specs.Calls.{Writes}

-- A stop within a call leaves what one before it or what one after it may leave: a sync writes nothing, and while a write is made its places are as loose as
-- after it (the law WithinWrite).
abbrev pub LeavesWithin : Areas → Areas → Image → Type 0
LeavesWithin old new image = LeavesImage old image ⊎ LeavesImage new image

-- while a write is made, a stop leaves nothing that one after it may not leave
abbrev pub WithinWrite : Type 0
WithinWrite =
    (area : Area) (at : ℕ) (bytes : List ℕ) (old new : Areas) → AreSound old → Writes area at bytes (Ok tt) old new
    → LeavesNoMore new (while_written area at (length bytes) old)
