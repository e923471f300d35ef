use Rattle.std.proofs.Common.{subst}
use Rattle.forms.specs.declared.style.Style.{Style}
use Rattle.script.specs.declared.line.Line.TheVariants as line
use Rattle.shell.specs.Acts.{Asks, told}
use Rattle.shell.proofs.actions.ask_between.Goals as goal

pub returns-in-Some-Some : goal.returns-in-Some-Some
returns-in-Some-Some g c = rw (c.in-Some-Some.is-0, c.in-Some-Some.is-1) (subst (λ (style : Style). Asks g.D.Disk.tells style (g.D.Disk.state c.args.disk)
    (λ store. line.Between c.args.key c.in-Some-Some.a c.in-Some-Some.b) (told g.W.Write.contents c.ask.result.0 c.args.output.now c.ask.new.output)
    (g.D.Disk.state c.ask.result.1)) c.plain.ensures c.ask.ensures)
