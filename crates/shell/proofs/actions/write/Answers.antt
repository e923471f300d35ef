use Rattle.std.proofs.Common.{List, inr, subst}
use Rattle.session.specs.Session.{State, Step, fresh}
use Rattle.session.specs.Texts.{Text}
use Rattle.session.specs.declared.reply.Reply.TheVariants as reply
use Rattle.shell.specs.Writing.{AnswersInTurn, all_lines}
use Rattle.shell.proofs.actions.write.Goals as goal

pub returns : goal.returns
returns g c = inr (inr (inr (record {
  opened = c.in-Ok-open.store;
  opens = c.in-Ok-open.ensures.ok;
  answer = c.answer_write-reply.result;
  asked = c.answer_write-reply.new.session;
  does = subst (λ (lines : List Text). AnswersInTurn (Step g.D.Disk.tells) reply.Ok lines (fresh c.in-Ok-open.store) c.answer_write-reply.result
      c.answer_write-reply.new.session) c.in-Ok.ensures
      (subst (λ (s : State). AnswersInTurn (Step g.D.Disk.tells) reply.Ok (all_lines c.in-Ok.lines) s c.answer_write-reply.result
      c.answer_write-reply.new.session) c.in-Ok-new.ensures.ok c.answer_write-reply.ensures);
  told = c.tell.ensures;
  closes = c.close-2.ensures;
})))
