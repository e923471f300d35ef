use Rattle.std.proofs.Common.{refl, inr, subst}
use Rattle.session.specs.Streams.{IsFront}
use Rattle.session.specs.Texts.{text_of}
use Rattle.session.specs.declared.reply.Reply.{Reply}
use Rattle.session.proofs.engine.reopen.Goals as goal

pub returns-in-Ok-clause-turned : goal.returns-in-Ok-clause-turned
returns-in-Ok-clause-turned g c =
    let said = c.in-Err-write_reply.ensures in
    let front = subst (λ (r : Reply). IsFront said.0.0 (text_of r)) c.opened_reply-opened.ensures said.0.1 in
    (said.0.0, inr (_, c.in-Ok.session, c.in-Ok.ensures, c.close.ensures, front, refl), said.0.2)
