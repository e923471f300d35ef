use Rattle.std.proofs.Common.{length, ap, arith}
use Rattle.std.proofs.lemmas.Bool.Decides.{nat_tests}
use Rattle.log_writer.specs.Whole.{WholeState}
use Rattle.log_writer.proofs.Whole.{left-count}
use Rattle.log_writer.proofs.extents_writer.ExtentsWriter.is_written.Goals as goal

pub returns-clause-yes : goal.returns-clause-yes
returns-clause-yes c = λ is.
    let w = c.self.inside in
    let many = left-count w.gate w.link w.numbers.items w.content.items w.written c.self.invariant.within in
    let seen = ap (λ (v : WholeState). length v.left) c.self.view_is in
    grind (arith, nat_tests, is, many, seen, c.len.ensures)

pub returns-clause-no : goal.returns-clause-no
returns-clause-no c = λ is.
    let w = c.self.inside in
    let many = left-count w.gate w.link w.numbers.items w.content.items w.written c.self.invariant.within in
    let seen = ap (λ (v : WholeState). length v.left) c.self.view_is in
    grind (arith, nat_tests, is, many, seen, c.len.ensures)
