use Rattle.std.proofs.Common.{refl}
use Rattle.session.specs.Texts.{text_of}
use Rattle.shell.specs.Acts.{told}
use Rattle.shell.proofs.Said.{either-said}
use Rattle.shell.proofs.actions.refuse_reply.Goals as goal

pub returns : goal.returns
returns g c = (
  refl,
  either-said (told g.W.Write.contents 1 c.args.output.now c.write_reply.new.output) (text_of c.args.refusal.now) c.write_reply.result
      c.write_reply.ensures,
)
