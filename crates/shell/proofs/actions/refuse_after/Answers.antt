use Rattle.std.proofs.Common.{◌++◌, refl}
use Rattle.session.specs.Texts.{text_of}
use Rattle.shell.specs.Acts.{told}
use Rattle.shell.specs.Vacuums.{archived_line}
use Rattle.shell.proofs.Said.{either-said}
use Rattle.shell.proofs.actions.refuse_after.Goals as goal

pub returns : goal.returns
returns g c = (
  refl,
  either-said (told g.W.Write.contents 1 c.args.output.now c.say_refused_after.new.output) (archived_line c.args.counts
      ++ text_of c.args.refusal.now) c.say_refused_after.result c.say_refused_after.ensures,
)
