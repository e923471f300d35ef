use Rattle.std.proofs.Common.{Some}
use Rattle.forms.proofs.EachLemmas.{written_all, written_none, written_one}
use Rattle.forms.specs.Lines as told
use Rattle.forms.proofs.lines.spell_pieces.Goals as goal

pub loop-time-init : goal.loop-time-init
loop-time-init c = written_none (told.IsTimePiece c.args.style) (Some c.args.text.now.items)

pub loop-time-preserved : goal.loop-time-preserved
loop-time-preserved c = written_one (told.IsTimePiece c.args.style) (Some c.args.text.now.items) (Some c.loop-time.text.items)
    (Some c.spell_piece.new.text.items) c.args.times.now c.loop-time.time-index 0 c.loop-time-test.true c.loop-time.invariant c.in_ok-spell_piece.ensures

pub returns : goal.returns
returns c = written_all (told.IsTimePiece c.args.style) (Some c.args.text.now.items) (Some c.loop-time.text.items) c.args.times.now
    c.loop-time.time-index c.loop-time-test.false c.loop-time.invariant
