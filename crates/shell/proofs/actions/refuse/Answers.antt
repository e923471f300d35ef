use Rattle.std.proofs.Common.{refl}
use Rattle.session.specs.Texts.{refusal_line}
use Rattle.shell.specs.Acts.{told}
use Rattle.shell.proofs.Said.{either-said}
use Rattle.shell.proofs.actions.refuse.Goals as goal

pub returns : goal.returns
returns g c = (
  refl,
  either-said (told g.W.Write.contents 1 c.args.output.now c.write_reply.new.output) (refusal_line c.args.fault) c.write_reply.result
      c.write_reply.ensures,
)
