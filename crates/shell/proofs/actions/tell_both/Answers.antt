use Rattle.std.proofs.Common.{◌++◌, inl, inr}
use Rattle.shell.specs.Acts.{told}
use Rattle.shell.specs.Vacuums.{archived_line, reclaimed_line}
use Rattle.shell.proofs.Said.{said-by}
use Rattle.shell.proofs.actions.tell_both.Goals as goal

pub returns-in-Ok : goal.returns-in-Ok
returns-in-Ok g c =
    inl (
      c.in-Ok.counts,
      c.in-Ok.ensures.names,
      said-by (told g.W.Write.contents c.status_of.result c.args.output.now c.say_both.new.output) (archived_line c.in-Ok.counts
          ++ reclaimed_line c.in-Ok.counts) c.say_both.result c.say_both.ensures c.status_of.ensures,
    )

pub returns-in-Err : goal.returns-in-Err
returns-in-Err g c = inr (c.in-Err.fault, c.in-Err.ensures.fault, c.refuse.ensures)
