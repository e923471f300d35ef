use Rattle.session.specs.Session.{Step}
use Rattle.shell.proofs.Turns.{turn-refused}
use Rattle.shell.proofs.writing.answer_in_turn.Goals as goal

pub returns-then-is_refusal : goal.returns-then-is_refusal
returns-then-is_refusal g c =
    c.loop-rest.invariant c.answer_text-last.result c.answer_text-last.new.session
    (turn-refused (Step g.D.Disk.tells) c.loop-rest.last c.loop-rest.rest.now _ c.loop-rest.session c.answer_text-last.new.session c.answer_text-last.result
    c.in-len1-up.len_at_least c.answer_text-last.ensures c.is_refusal.result c.is_refusal.ensures c.if-is_refusal.true)
