use Rattle.std.proofs.KnownBytes.{Appends-trans}
use Rattle.log_dump.specs.Dump.{next_line, used_line}
use Rattle.log_dump.proofs.dump.write_end.Goals as goal

pub returns-in_ok-writeln-in-Right-2 : goal.returns-in_ok-writeln-in-Right-2
returns-in_ok-writeln-in-Right-2 g c =
    let extents = c.in-Right.extents in
    rw c.in-Right.is (Appends-trans (g.W.Write.contents c.args.output.now) (g.W.Write.contents c.writeln.new.self)
    (g.W.Write.contents c.writeln-in-Right.new.self) (next_line extents.next) (used_line extents.used c.args.most) c.in_ok-writeln-in-Right.ensures.bytes
    c.in_ok-writeln-in-Right-2.ensures.bytes)
