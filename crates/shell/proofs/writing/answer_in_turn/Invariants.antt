use Rattle.std.proofs.Common.{Bor, length, map}
use Rattle.session.specs.Session.{State, Step}
use Rattle.session.specs.Texts.{Text}
use Rattle.session.specs.declared.reply.Reply.{Reply}
use Rattle.session.specs.declared.reply.Reply.TheVariants as reply
use Rattle.shell.specs.Writing.{AnswersInTurn}
use Rattle.shell.proofs.writing.answer_in_turn.Given as goal

-- however the rest is answered, so are all the lines
abbrev pub invariant-loop-rest : goal.invariant-loop-rest
invariant-loop-rest g l = (r : Reply) (new : State)
    → AnswersInTurn (Step g.D.Disk.tells) l.last (map (λ (line : Bor Text). line.now) l.rest) l.session r new
    → AnswersInTurn (Step g.D.Disk.tells) reply.Ok (map (λ (line : Bor Text). line.now) l.initial.rest) l.initial.session r new

abbrev pub decreases-loop-rest : goal.decreases-loop-rest
decreases-loop-rest g l = length l.rest
