use Rattle.std.proofs.Common.{ℕ, ◌++◌, codes, subst, inl, inr}
use Rattle.std.specs.Fmt.{decimal}
use Rattle.shell.specs.Acts.{IsSaid, told}
use Rattle.shell.proofs.Said.{said-by}
use Rattle.shell.proofs.actions.tell_slots.Goals as goal

pub returns-in-Ok : goal.returns-in-Ok
returns-in-Ok g c =
    let o = told g.W.Write.contents c.status_of.result c.args.output.now c.write_numbered.new.output in
    inl (
      c.in-Ok.header,
      c.in-Ok.ensures.found,
      subst (λ (n : ℕ). IsSaid o (codes "slots " ++ (decimal n ++ codes "\n"))) c.total.ensures
          (said-by o (codes "slots " ++ (decimal c.total.result ++ codes "\n")) c.write_numbered.result c.write_numbered.ensures c.status_of.ensures),
      c.in-Ok.ensures.same,
    )

pub returns-in-Err : goal.returns-in-Err
returns-in-Err g c = inr (c.in-Err.fault, (c.in-Err.ensures.fault, c.in-Err.ensures.only, c.in-Err.ensures.same), c.refuse_log.ensures)
