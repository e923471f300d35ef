use Rattle.std.proofs.Common.{refl}
use Rattle.log_dump.specs.Dump.{group_line}
use Rattle.log_dump.proofs.lines.write_item.Goals as goal

pub returns-in_ok-writeln-in-Group : goal.returns-in_ok-writeln-in-Group
returns-in_ok-writeln-in-Group g c =
    rw c.in-Group.is (group_line c.in-Group.head c.in-Group.extents, refl, c.in_ok-writeln-in-Group.ensures.bytes)
