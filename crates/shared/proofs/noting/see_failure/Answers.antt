use Rattle.std.proofs.Common.{rules}
use Rattle.crossbeam_utils.specs.Seq.{cell_view}
use Rattle.shared.proofs.Fronts.{later-failed}
use Rattle.shared.proofs.noting.see_failure.Goals as goal

pub see_next-requires : goal.see_next-requires
see_next-requires g c =
    let later = later-failed (cell_view c.args.writer.now).seen in
    search rules
