use Rattle.std.proofs.lemmas.Grind.{common_steps}
use Rattle.std.proofs.Common.{List, ap, sym, ◌∙◌, arith}
use Rattle.archive.specs.declared.run.RunEntry.{RunEntry}
use Rattle.timequery.specs.View.{mark_of}
use Rattle.timequery.proofs.Marks.{mark-last}
use Rattle.timequery.proofs.runs.Runs.archive_mark.Goals as goal

pub returns-clause-is : goal.returns-clause-is
returns-clause-is c =
    mark-last 0 c.as_slice.result.now c.in-Some.run'.now (sym c.in-Some.ensures.value) ∙ ap (λ (rs : List RunEntry). mark_of rs) c.as_slice.ensures

pub returns-clause-in_range : goal.returns-clause-in_range
returns-clause-in_range c = grind (arith, common_steps)
