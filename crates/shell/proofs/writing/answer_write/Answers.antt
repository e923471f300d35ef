use Rattle.session.specs.Session.{Step}
use Rattle.shell.proofs.Turns.{same-lines}
use Rattle.shell.proofs.writing.answer_write.Goals as goal

pub returns : goal.returns
returns g c =
    same-lines (Step g.D.Disk.tells) c.args.session.now c.answer_in_turn.new.session c.answer_in_turn.result c.as_slice.result.now c.as_slice-2.result.now
    c.as_slice-3.result.now c.as_slice-4.result.now c.as_slice-5.result.now _ c.args.lines.now.change.items c.args.lines.now.submit.items _ _
    c.as_slice.ensures c.as_slice-2.ensures.value c.as_slice-3.ensures.value c.as_slice-4.ensures c.as_slice-5.ensures c.answer_in_turn.ensures
