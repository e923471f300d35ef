use Rattle.std.proofs.Common.{◌≡◌, ◌++◌, List, refl, subst}
use Rattle.std.proofs.KnownBytes.{Appends-trans}
use Rattle.wire.specs.declared.slot.Member.{Member}
use Rattle.shell.specs.Dump.{Each, IsMemberLine, commit_line}
use Rattle.shell.proofs.dump.write_slot.Goals as goal

pub returns-in_ok-write_members-in-Commit : goal.returns-in_ok-write_members-in-Commit
returns-in_ok-write_members-in-Commit g c =
    let lines = c.in_ok-write_members-in-Commit.ensures in
    let same : c.as_slice.result.now ≡ c.in-Commit.members.items = cc in
    rw c.in-Commit.is (
      commit_line c.args.slot.now.number ++ lines.0,
      (lines.0, subst (λ (members : List Member). Each IsMemberLine members lines.0) same lines.1, refl),
      Appends-trans (g.W.Write.contents c.args.output.now) (g.W.Write.contents c.writeln.new.self) (g.W.Write.contents c.write_members.new.output)
          (commit_line c.args.slot.now.number) lines.0 c.in_ok-writeln-in-Commit.ensures.bytes lines.2,
    )
