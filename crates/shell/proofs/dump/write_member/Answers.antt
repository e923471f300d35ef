use Rattle.std.proofs.Common.{◌++◌, refl}
use Rattle.std.specs.Prelude.{codes}
use Rattle.shell.proofs.DumpLemmas.{three_written}
use Rattle.shell.specs.Dump.{member_front}
use Rattle.shell.proofs.dump.write_member.Goals as goal

pub returns : goal.returns
returns g c =
    let shown = c.in_ok-write_instant.ensures in (
      member_front c.args.member.now ++ (shown.0 ++ codes "\n"),
      (shown.0, shown.1, refl),
      three_written (g.W.Write.contents c.args.output.now) (g.W.Write.contents c.write.new.self) (g.W.Write.contents c.write_instant.new.output)
          (g.W.Write.contents c.writeln.new.self) (member_front c.args.member.now) shown.0 (codes "\n")
          c.in_ok-write.ensures.bytes shown.2 c.in_ok-writeln.ensures.bytes,
    )
