use Rattle.std.proofs.Common.{take}
use Rattle.shell.proofs.DumpLemmas.{Written}
use Rattle.shell.specs.Dump.{IsMemberLine}
use Rattle.shell.proofs.dump.write_members.Given as goal

abbrev pub invariant-loop-member : goal.invariant-loop-member
invariant-loop-member g l = Written IsMemberLine (take l.member-index l.members) (g.W.Write.contents l.initial.output) (g.W.Write.contents l.output)
