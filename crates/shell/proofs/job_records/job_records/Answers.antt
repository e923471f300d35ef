use Rattle.std.proofs.Common.{◌≡◌, ◌∙◌, true, false, refl, sym, subst, inl, inr}
use Rattle.std.proofs.lemmas.Result.{IfErr-weaker, IfOk-weaker}
use Rattle.std.specs.Prelude.{IfErr, IfOk, IsTrue}
use Rattle.disk.specs.Calls.{DiskState}
use Rattle.log_store.specs.Formats.{HasLogHeader}
use Rattle.shell.specs.Vacuums.{HeapNames, LacksHeap, LacksSlots, SlotsName}
use Rattle.shell.proofs.job_records.job_records.Goals as goal

pub returns-in-Ok-false-clause-names : goal.returns-in-Ok-false-clause-names
returns-in-Ok-false-clause-names g c =
    let none : IsTrue g.D.Disk.tells → ¬ HasLogHeader (g.D.Disk.state c.args.disk.now).areas.status.bytes =
    (λ tells has.
    let is = (c.in-Ok-false.ensures.has tells).1 has in
    let no : true ≡ false = sym is ∙ c.in-Ok-false.field-0-test in cc) in
    IfOk-weaker c.slot_records.result _ _ (λ counts names. inl (none, names))
    (subst (λ (d : DiskState). IfOk c.slot_records.result (λ counts. SlotsName g.D.Disk.tells c.args.upto d counts
    (g.D.Disk.state c.slot_records.new.disk))) c.in-Ok-false.ensures.same c.slot_records.ensures.names)

pub returns-in-Ok-false-clause-fault : goal.returns-in-Ok-false-clause-fault
returns-in-Ok-false-clause-fault g c =
    let none : IsTrue g.D.Disk.tells → ¬ HasLogHeader (g.D.Disk.state c.args.disk.now).areas.status.bytes =
    (λ tells has.
    let is = (c.in-Ok-false.ensures.has tells).1 has in
    let no : true ≡ false = sym is ∙ c.in-Ok-false.field-0-test in cc) in
    IfErr-weaker c.slot_records.result _ _ (λ why lacks. inl (none, lacks))
    (subst (λ (d : DiskState). IfErr c.slot_records.result (λ why. LacksSlots g.D.Disk.tells d why (g.D.Disk.state c.slot_records.new.disk)))
    c.in-Ok-false.ensures.same c.slot_records.ensures.fault)

pub returns-in-Ok-true-clause-names : goal.returns-in-Ok-true-clause-names
returns-in-Ok-true-clause-names g c =
    IfOk-weaker c.heap_records.result _ _ (λ counts names. inr (λ tells. (c.in-Ok-true.ensures.has tells).0 c.in-Ok-true.field-0-test, names))
    (subst (λ (d : DiskState). IfOk c.heap_records.result (λ counts. HeapNames g.D.Disk.tells c.args.upto d counts
    (g.D.Disk.state c.heap_records.new.disk))) c.in-Ok-true.ensures.same c.heap_records.ensures.names)

pub returns-in-Ok-true-clause-fault : goal.returns-in-Ok-true-clause-fault
returns-in-Ok-true-clause-fault g c =
    IfErr-weaker c.heap_records.result _ _ (λ why lacks. inr (inl (λ tells. (c.in-Ok-true.ensures.has tells).0 c.in-Ok-true.field-0-test, lacks)))
    (subst (λ (d : DiskState). IfErr c.heap_records.result (λ why. LacksHeap g.D.Disk.tells d why (g.D.Disk.state c.heap_records.new.disk)))
    c.in-Ok-true.ensures.same c.heap_records.ensures.fault)

pub returns-in-Err-clause-fault : goal.returns-in-Err-clause-fault
returns-in-Err-clause-fault g c = inr (inr (refl, c.in-Err.ensures.same))
