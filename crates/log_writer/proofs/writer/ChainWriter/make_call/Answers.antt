use Rattle.std.proofs.Common.{◌<◌, length, ap, arith}
use Rattle.std.proofs.lemmas.Bool.Decides.{nat_tests}
use Rattle.std.proofs.lemmas.Result.{err_from_is_err_and}
use Rattle.log_writer.specs.Writer.{stage_of}
use Rattle.log_writer.specs.declared.writer.Step.TheVariants as step
use Rattle.log_writer.proofs.Calls.{stage-is, next-part, call-more, leads-more, call-last, leads-last}
use Rattle.log_writer.proofs.writer.ChainWriter.make_call.Goals as goal

pub returns-in_ok-write_extent-in-Writing-clause-call : goal.returns-in_ok-write_extent-in-Writing-clause-call
returns-in_ok-write_extent-in-Writing-clause-call g c = λ told.
    let w = c.args.self.now in
    let written = c.in-Writing.written in
    let at = stage-is _ w (step.Writing written) (ap (stage_of _) c.in-Writing.is) c.self.view_is in
    call-more w written (next-part w written (grind (arith, nat_tests, c.if-written-len.true, c.len.ensures))) _ _ _ at
    (λ p rest is. c.in_ok-write_extent-in-Writing.ensures.call p rest is told)

pub returns-in_err-write_extent-in-Writing-clause-call : goal.returns-in_err-write_extent-in-Writing-clause-call
returns-in_err-write_extent-in-Writing-clause-call g c = λ told.
    let w = c.args.self.now in
    let written = c.in-Writing.written in
    let at = stage-is _ w (step.Writing written) (ap (stage_of _) c.in-Writing.is) c.self.view_is in
    let e = err_from_is_err_and c.from_residual.result c.from_residual.ensures.1 in
    rw (e.1, e.2) (call-more w written (next-part w written (grind (arith, nat_tests, c.if-written-len.true, c.len.ensures))) _ _ _ at
    (λ p rest is. c.in_err-write_extent-in-Writing.ensures.call p rest is told))

pub returns-in_ok-write_extent-in-Writing-clause-leads : goal.returns-in_ok-write_extent-in-Writing-clause-leads
returns-in_ok-write_extent-in-Writing-clause-leads g c =
    let w = c.args.self.now in
    let written = c.in-Writing.written in
    let at = stage-is _ w (step.Writing written) (ap (stage_of _) c.in-Writing.is) c.self.view_is in
    let lt : written < length w.numbers = grind (arith, nat_tests, c.if-written-len.true, c.len.ensures) in
    let l = leads-more w written (next-part w written lt) at in
    (l.0, l.1, omega (arith, lt))

pub returns-in_ok-write_gate-in-Writing-2-clause-call : goal.returns-in_ok-write_gate-in-Writing-2-clause-call
returns-in_ok-write_gate-in-Writing-2-clause-call g c = λ told.
    let w = c.args.self.now in
    let written = c.in-Writing-2.field-0 in
    let at = stage-is _ w (step.Writing written) (ap (stage_of _) c.in-Writing-2.is) c.self.view_is in
    call-last _ w written _ _ _ (grind (
      arith,
      nat_tests,
      c.if-written-len.false,
      c.len.ensures,
    )) at c.self.view_is (c.in_ok-write_gate-in-Writing-2.ensures.call told)

pub returns-in_err-write_gate-in-Writing-2-clause-call : goal.returns-in_err-write_gate-in-Writing-2-clause-call
returns-in_err-write_gate-in-Writing-2-clause-call g c = λ told.
    let w = c.args.self.now in
    let written = c.in-Writing-2.field-0 in
    let at = stage-is _ w (step.Writing written) (ap (stage_of _) c.in-Writing-2.is) c.self.view_is in
    let e = err_from_is_err_and c.from_residual-in_err-write_gate-in-Writing-2.result c.from_residual-in_err-write_gate-in-Writing-2.ensures.1 in
    rw (e.1, e.2) (call-last _ w written _ _ _ (grind (
      arith,
      nat_tests,
      c.if-written-len.false,
      c.len.ensures,
    )) at c.self.view_is (c.in_err-write_gate-in-Writing-2.ensures.call told))

pub returns-in_ok-write_gate-in-Writing-2-clause-leads : goal.returns-in_ok-write_gate-in-Writing-2-clause-leads
returns-in_ok-write_gate-in-Writing-2-clause-leads g c =
    let w = c.args.self.now in
    let written = c.in-Writing-2.field-0 in
    let at = stage-is _ w (step.Writing written) (ap (stage_of _) c.in-Writing-2.is) c.self.view_is in
    let l = leads-last w written (grind (arith, nat_tests, c.if-written-len.false, c.len.ensures)) at in
    (l.0, l.1, tt)
