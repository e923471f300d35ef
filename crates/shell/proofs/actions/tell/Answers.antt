use Rattle.std.proofs.Common.{refl}
use Rattle.session.specs.Texts.{text_of}
use Rattle.shell.specs.Acts.{told}
use Rattle.shell.proofs.Said.{either-said, said-by, told-refused, told-said}
use Rattle.shell.proofs.actions.tell.Goals as goal

pub returns-then-is_refusal : goal.returns-then-is_refusal
returns-then-is_refusal g c =
    told-refused c.is_refusal.result (told g.W.Write.contents 1 c.args.output.now c.write_reply-said.new.output) c.args.reply.now c.is_refusal.ensures
    c.if-is_refusal.true (
      refl,
      either-said (told g.W.Write.contents 1 c.args.output.now c.write_reply-said.new.output) (text_of c.args.reply.now) c.write_reply-said.result
          c.write_reply-said.ensures,
    )

pub returns : goal.returns
returns g c =
    told-said c.is_refusal.result (told g.W.Write.contents c.status_of.result c.args.output.now c.write_reply-said.new.output) c.args.reply.now
    c.is_refusal.ensures c.if-is_refusal.false
    (said-by (told g.W.Write.contents c.status_of.result c.args.output.now c.write_reply-said.new.output) (text_of c.args.reply.now) c.write_reply-said.result
    c.write_reply-said.ensures c.status_of.ensures)
