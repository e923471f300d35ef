use Rattle.std.proofs.Common.{◌≡◌, ◌⊎◌, ◌∙◌, true, false, sym, subst, inl, inr}
use Rattle.disk.specs.Calls.{DiskState}
use Rattle.shell.specs.Acts.{HasNoInfo, Tells, TellsHeap, told}
use Rattle.shell.proofs.showing.info_by_layout.Goals as goal

pub returns-in-Ok-false : goal.returns-in-Ok-false
returns-in-Ok-false g c =
    inl (
      (λ tells has.
          let is = (c.in-Ok-false.ensures.has tells).1 has in
          let no : true ≡ false = sym is ∙ c.in-Ok-false.field-0-test in cc),
      subst (λ (d : DiskState). Tells g.D.Disk.tells d c.args.json (told g.W.Write.contents c.info.result.0 c.args.output.now c.info.new.output)
          (g.D.Disk.state c.info.result.1)) c.in-Ok-false.ensures.same c.info.ensures,
    )

pub returns-in-Ok-true : goal.returns-in-Ok-true
returns-in-Ok-true g c =
    let output = told g.W.Write.contents c.info_of_heap.result.0 c.args.output.now c.info_of_heap.new.output in
    inr (inl (
      (λ tells. (c.in-Ok-true.ensures.has tells).0 c.in-Ok-true.field-0-test),
      subst (λ (d : DiskState). TellsHeap g.D.Disk.tells d c.args.json output (g.D.Disk.state c.info_of_heap.result.1)
          ⊎ HasNoInfo g.D.Disk.tells d output (g.D.Disk.state c.info_of_heap.result.1)) c.in-Ok-true.ensures.same c.info_of_heap.ensures,
    ))

pub returns-in-Err : goal.returns-in-Err
returns-in-Err g c = inr (inr (c.in-Err.ensures.same, c.refuse.ensures))
