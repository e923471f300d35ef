use Rattle.law_layout.proofs.Ways.{layout_again}
use Rattle.law_layout.proofs.laws.frame_reads.Goals as goal

pub returns : goal.returns
returns c = λ header layout old new held has. layout_again header layout old new held has
