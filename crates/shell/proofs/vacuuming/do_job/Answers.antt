use Rattle.std.proofs.Common.{sym, ◌∙◌}
use Rattle.shell.proofs.vacuuming.do_job.Goals as goal

pub returns : goal.returns
returns g c = (
  c.answer-begun.result,
  c.answer-begun.new.session,
  c.answer-finished.result,
  c.answer-begun.ensures,
  sym c.is_refusal.ensures ∙ c.if-is_refusal.false,
  c.answer-finished.ensures,
  sym c.is_refusal-2.ensures ∙ c.if-is_refusal-2.false,
)
