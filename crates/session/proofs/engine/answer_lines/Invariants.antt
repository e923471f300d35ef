use Rattle.std.proofs.Common.{◌+◌, ◌-◌, ◌^◌}
use Rattle.session.proofs.RunLemmas.{SoFar}
use Rattle.session.specs.Streams.{lines_read, text_left, text_said}
use Rattle.session.proofs.engine.answer_lines.Given as goal

abbrev pub invariant-loop-session : goal.invariant-loop-session
invariant-loop-session g l =
    SoFar g.D.Disk.tells (text_left g.R.Read.remaining l.initial.input) (text_left g.R.Read.remaining l.input) (lines_read l.initial.input + 1)
    (lines_read l.input + 1)
    l.initial.session l.session (text_said g.W.Write.contents l.initial.output) (text_said g.W.Write.contents l.output)

-- each line is counted
abbrev pub decreases-loop-session : goal.decreases-loop-session
decreases-loop-session g l = 2 ^ 64 - lines_read l.input
