use Rattle.std.proofs.Common.{refl, subst}
use Rattle.forms.specs.declared.style.Style.{Style}
use Rattle.script.specs.declared.line.Line.TheVariants as line
use Rattle.shell.specs.Acts.{Asks, told}
use Rattle.shell.proofs.actions.ask_at.Goals as goal

pub returns-in-Some : goal.returns-in-Some
returns-in-Some g c = rw c.in-Some.is (subst (λ (style : Style). Asks g.D.Disk.tells style (g.D.Disk.state c.args.disk)
    (λ store. line.At c.args.key c.in-Some.time) (told g.W.Write.contents c.ask.result.0 c.args.output.now c.ask.new.output) (g.D.Disk.state c.ask.result.1))
    c.plain.ensures c.ask.ensures)

pub returns-in-None : goal.returns-in-None
returns-in-None g c = rw c.in-None.is (refl, c.refuse.ensures)
