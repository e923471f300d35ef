use Rattle.std.proofs.Common.{◌++◌, refl}
use Rattle.session.specs.Texts.{open_line}
use Rattle.shell.specs.Acts.{told}
use Rattle.shell.proofs.Said.{either-said}
use Rattle.shell.proofs.showing.refuse_behind.Goals as goal

pub returns : goal.returns
returns g c = (
  refl,
  either-said (told g.W.Write.contents 1 c.args.output.now c.say_cut_off.new.output) (c.args.text.now ++ open_line c.args.fault)
      c.say_cut_off.result c.say_cut_off.ensures,
)
