use Rattle.std.proofs.Common.{◌++◌, refl}
use Rattle.std.specs.Prelude.{codes}
use Rattle.log_dump.proofs.Written.{three_written}
use Rattle.log_dump.specs.Dump.{commit_front}
use Rattle.log_dump.proofs.lines.write_commit.Goals as goal

pub returns : goal.returns
returns g c =
    let shown = c.in_ok-write_instant.ensures in
    let front = commit_front c.args.label c.args.time c.args.records in (
      front ++ (shown.0 ++ codes "\n"),
      (shown.0, shown.1, refl),
      three_written (g.W.Write.contents c.args.output.now) (g.W.Write.contents c.write.new.self) (g.W.Write.contents c.write_instant.new.output)
          (g.W.Write.contents c.writeln.new.self) front shown.0 (codes "\n") c.in_ok-write.ensures.bytes shown.2 c.in_ok-writeln.ensures.bytes,
    )
