use Rattle.std.proofs.Common.{◌≡◌}
use Rattle.forms.specs.Lines.{IsTimesText}
use Rattle.session.specs.declared.reply.Reply.TheVariants as reply
use Rattle.shell.specs.Acts.{told}
use Rattle.shell.specs.Styled.{IsRowsText, IsTextOf, records_text}
use Rattle.shell.proofs.Said.{listed-said, so-said}
use Rattle.shell.proofs.actions.tell_as.Goals as goal

pub returns-in-Found : goal.returns-in-Found
returns-in-Found g c = rw c.in-Found.is (so-said (IsTextOf c.args.style (reply.Found c.in-Found.value))
    (told g.W.Write.contents c.tell_text.result c.args.output.now c.tell_text.new.output) c.found_lines.result c.found_lines.ensures c.tell_text.ensures)

pub returns-in-Rows : goal.returns-in-Rows
returns-in-Rows g c = rw c.in-Rows.is (listed-said (λ rows text. IsRowsText c.args.style rows text) c.deref.result.now c.in-Rows.rows.items
    (told g.W.Write.contents c.tell_text-in-Rows.result c.args.output.now c.tell_text-in-Rows.new.output) c.row_lines.result c.deref.ensures.value
    c.row_lines.ensures c.tell_text-in-Rows.ensures)

pub returns-in-Records : goal.returns-in-Records
returns-in-Records g c = rw c.in-Records.is (listed-said (λ found text. text ≡ records_text c.args.style.form found) c.deref-in-Records.result.now
    c.in-Records.found.items (told g.W.Write.contents c.tell_text-in-Records.result c.args.output.now c.tell_text-in-Records.new.output)
    c.record_lines.result c.deref-in-Records.ensures.value c.record_lines.ensures c.tell_text-in-Records.ensures)

pub returns-in-Times : goal.returns-in-Times
returns-in-Times g c = rw c.in-Times.is (listed-said (λ times text. IsTimesText c.args.style times text) c.deref-in-Times.result.now c.in-Times.times.items
    (told g.W.Write.contents c.tell_text-in-Times.result c.args.output.now c.tell_text-in-Times.new.output) c.time_lines.result
    c.deref-in-Times.ensures.value c.time_lines.ensures c.tell_text-in-Times.ensures)
