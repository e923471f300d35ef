use Rattle.std.proofs.Common.{true}
use Rattle.crossbeam_utils.specs.Seq.{cell_view}
use Rattle.shared.proofs.noting.see_failure.Given as goal

abbrev pub ghost-see_next : goal.ghost-see_next
ghost-see_next g a = record (cell_view a.writer.now).seen { failed = true }
