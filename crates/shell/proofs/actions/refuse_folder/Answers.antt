use Rattle.session.specs.Streams.{text_said}
use Rattle.session.specs.Texts.{open_line}
use Rattle.shell.specs.Acts.{told}
use Rattle.shell.proofs.Kept.{refused-kept}
use Rattle.shell.proofs.actions.refuse_folder.Goals as goal

pub returns : goal.returns
returns g c =
    refused-kept (told g.W.Write.contents c.refuse-status.result c.args.output.now c.refuse-status.new.output)
    (told g.W.Write.contents c.give_out.result c.args.output.now c.give_out.new.output) (open_line c.args.fault)
    (c.give_out.ensures (text_said g.W.Write.contents c.args.output.now)) c.refuse-status.ensures
