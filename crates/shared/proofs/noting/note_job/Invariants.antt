use Rattle.crossbeam_utils.specs.Seq.{cell_view}
use Rattle.shared.specs.Shared.{raised_seen}
use Rattle.shared.proofs.noting.note_job.Given as goal

abbrev pub ghost-see_next : goal.ghost-see_next
ghost-see_next g a = raised_seen g.raising (cell_view a.writer.now).seen
