use Rattle.std.proofs.Common.{ℕ, ◌++◌, length, refl, subst}
use Rattle.std.specs.Io.KnownBytes.{Appends}
use Rattle.status.specs.Header.{total}
use Rattle.shell.proofs.DumpLemmas.{three_written}
use Rattle.shell.specs.Dump.{header_line, used_line}
use Rattle.shell.proofs.dump.write_dump.Goals as goal

pub returns : goal.returns
returns g c =
    let lines = c.in_ok-write_slots.ensures in
    let front = c.in_ok-write_header.ensures in
    let end = subst (λ (n : ℕ). Appends (g.W.Write.contents c.write_slots.new.output) (g.W.Write.contents c.writeln.new.self)
    (used_line (length c.args.slots.now) n)) c.total-all.ensures c.in_ok-writeln.ensures.bytes in (
      header_line c.args.header.now ++ (lines.0 ++ used_line (length c.args.slots.now) (total c.args.header.now)),
      (lines.0, lines.1, refl),
      three_written (g.W.Write.contents c.args.output.now) (g.W.Write.contents c.write_header.new.output) (g.W.Write.contents c.write_slots.new.output)
          (g.W.Write.contents c.writeln.new.self) (header_line c.args.header.now) lines.0
          (used_line (length c.args.slots.now) (total c.args.header.now)) front lines.2 end,
    )
