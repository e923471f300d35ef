use Rattle.shell.specs.Acts.{told}
use Rattle.shell.proofs.Said.{told-plainly, told-styled}
use Rattle.shell.proofs.actions.tell_in.Goals as goal

pub returns-then-is_plain : goal.returns-then-is_plain
returns-then-is_plain g c =
    told-plainly c.args.style c.is_plain.result (told g.W.Write.contents c.tell.result c.args.output.now c.tell.new.output) c.args.reply.now c.is_plain.ensures
    c.if-is_plain.true c.tell.ensures

pub returns : goal.returns
returns g c =
    told-styled c.args.style c.is_plain.result (told g.W.Write.contents c.tell_as.result c.args.output.now c.tell_as.new.output) c.args.reply.now
    c.is_plain.ensures c.if-is_plain.false c.tell_as.ensures
