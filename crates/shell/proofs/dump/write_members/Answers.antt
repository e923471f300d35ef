use Rattle.shell.proofs.DumpLemmas.{written_all, written_none, written_one}
use Rattle.shell.specs.Dump.{IsMemberLine}
use Rattle.shell.proofs.dump.write_members.Goals as goal

pub loop-member-init : goal.loop-member-init
loop-member-init g c = written_none IsMemberLine (g.W.Write.contents c.args.output.now)

pub loop-member-preserved : goal.loop-member-preserved
loop-member-preserved g c = written_one IsMemberLine (g.W.Write.contents c.args.output.now) (g.W.Write.contents c.loop-member.output)
    (g.W.Write.contents c.write_member.new.output) c.args.members.now c.loop-member.member-index _ c.loop-member-test.true c.loop-member.invariant
    c.in_ok-write_member.ensures

pub returns : goal.returns
returns g c = written_all IsMemberLine (g.W.Write.contents c.args.output.now) (g.W.Write.contents c.loop-member.output) c.args.members.now
    c.loop-member.member-index c.loop-member-test.false c.loop-member.invariant
