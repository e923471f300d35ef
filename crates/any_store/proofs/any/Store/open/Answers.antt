use Rattle.std.proofs.Common.{◌≡◌, ◌∙◌, true, false, sym, subst, inl, inr}
use Rattle.disk.specs.Calls.{DiskState}
use Rattle.store.specs.Opens as slot_opens
use Rattle.log_store.specs.Opens as log_opens
use Rattle.any_store.proofs.any.Store.open.Goals as goal

pub returns-in-Err-open-clause-err : goal.returns-in-Err-open-clause-err
returns-in-Err-open-clause-err g c =
    inr (inl (
      (λ told. (c.in-Ok-true.ensures.has told).0 c.in-Ok-true.field-0-test),
      subst (λ (d : DiskState). log_opens.OpenRefuses g.D.Disk.tells d c.in-Err-open.refused.0 (g.D.Disk.state c.in-Err-open.refused.1))
          c.in-Ok-true.ensures.same c.in-Err-open.ensures.err,
    ))

pub returns-in-Ok-clause-ok : goal.returns-in-Ok-clause-ok
returns-in-Ok-clause-ok g c = record {
  engine = subst (λ (d : DiskState). log_opens.Opens g.D.Disk.tells d c.args.mark c.in-Ok.store) c.in-Ok-true.ensures.same c.in-Ok.ensures.ok;
  layout = λ told. (c.in-Ok-true.ensures.has told).0 c.in-Ok-true.field-0-test;
}

pub returns-in-Ok-open-clause-ok : goal.returns-in-Ok-open-clause-ok
returns-in-Ok-open-clause-ok g c = record {
  engine = subst (λ (d : DiskState). slot_opens.Opens g.D.Disk.tells d c.args.mark c.in-Ok-open.store) c.in-Ok-false.ensures.same c.in-Ok-open.ensures.ok;
  layout = λ told has.
      let is = (c.in-Ok-false.ensures.has told).1 has in
      let no : true ≡ false = sym is ∙ c.in-Ok-false.field-0-test in cc;
}
