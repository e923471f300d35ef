use Rattle.session.specs.Streams.{text_said}
use Rattle.shell.specs.Acts.{given, told}
use Rattle.shell.proofs.Kept.{acts-kept}
use Rattle.shell.proofs.Keeping.{keeps-acts}
use Rattle.shell.proofs.Said.{acts-status}
use Rattle.shell.proofs.actions.act.Goals as goal

pub returns-clause-acts : goal.returns-clause-acts
returns-clause-acts g c =
    acts-kept g.D.Disk.tells c.args.action (g.D.Disk.state c.args.disk) (g.D.Disk.state c.perform-status.result.1)
    (given g.R.Read.remaining c.args.input.now c.perform-status.new.input)
    (told g.W.Write.contents c.perform-status.result.0 c.args.output.now c.perform-status.new.output)
    (told g.W.Write.contents c.give_out.result c.args.output.now c.give_out.new.output)
    (c.give_out.ensures (text_said g.W.Write.contents c.args.output.now)) c.perform-status.ensures

pub returns-clause-promise : goal.returns-clause-promise
returns-clause-promise g c =
    λ tells. keeps-acts g.D.Disk.tells c.args.action (g.D.Disk.state c.args.disk) (g.D.Disk.state c.perform-status.result.1)
    (given g.R.Read.remaining c.args.input.now c.perform-status.new.input)
    (told g.W.Write.contents c.give_out.result c.args.output.now c.give_out.new.output) tells (g.met.D.Disk.sound c.args.disk tells) (returns-clause-acts g c)

pub returns-clause-status : goal.returns-clause-status
returns-clause-status g c =
    acts-status g.D.Disk.tells c.args.action (g.D.Disk.state c.args.disk) (g.D.Disk.state c.perform-status.result.1)
    (given g.R.Read.remaining c.args.input.now c.perform-status.new.input)
    (told g.W.Write.contents c.give_out.result c.args.output.now c.give_out.new.output) (returns-clause-acts g c)
