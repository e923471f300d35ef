use Rattle.std.proofs.lemmas.Grind.{common_steps}
use Rattle.std.proofs.Common.{rules, ℕ, ap, subst, IsTrue, arith}
use Rattle.std.proofs.lemmas.Result.{err_from_is_err_and}
use Rattle.archive.specs.Answers.{head_of, is_wanted}
use Rattle.archive.specs.Searches.{archive_of}
use Rattle.archive.specs.Damages.{IsValueBroken}
use Rattle.archive.specs.Traces.{HasPart}
use Rattle.archive.proofs.Trace.{map_damaged}
use Rattle.archive.proofs.Walking.{row_shown}
use Rattle.archive.proofs.reader.ArchiveReader.add_row.Goals as goal

pub returns-in_err-value-clause-exact : goal.returns-in_err-value-clause-exact
returns-in_err-value-clause-exact g c = λ told right at.
    let part : HasPart c.args.wanted.now c.args.placed.now.head = omega arith in
    let p = err_from_is_err_and c.from_residual.result c.from_residual.ensures.1 in
    let Wanted : ℕ → Type 0 =
    λ _. HasPart c.args.wanted.now c.args.placed.now.head
    × IsValueBroken (archive_of (g.D.Disk.state c.args.disk.now)) c.args.run.now c.args.placed.now.number in
    rw (p.1, p.2) (map_damaged {Q = Wanted} _ (λ start is. (part, is)) (c.in_err-value.ensures.exact told right at))

pub returns-clause-only : goal.returns-clause-only
returns-clause-only g c = λ records r reads placed.
    let value = c.in_ok-value.ensures.only records r reads placed in
    let wanted : IsTrue (is_wanted c.args.wanted.now (head_of r)) = subst (λ h. IsTrue (is_wanted c.args.wanted.now h)) placed.head c.requires.wanted in
    let part : HasPart c.args.wanted.now (head_of r) = subst (λ h. HasPart c.args.wanted.now h) placed.head (omega arith) in
    let row = row_shown g.R.Row.shown c.args.wanted.now r wanted part in
    let number = ap (λ h. h.key.record) placed.head in
    let from = ap (λ h. h.from) placed.head in
    let to = ap (λ h. h.to) placed.head in
    search rules

pub returns-clause-exact : goal.returns-clause-exact
returns-clause-exact g c = grind (arith, common_steps)
