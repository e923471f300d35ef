use Rattle.std.proofs.Common.{rules}
use Rattle.crossbeam_utils.specs.Seq.{cell_view}
use Rattle.shared.proofs.Stepping.{later-queued}
use Rattle.shared.proofs.noting.queue_commit.Goals as goal

pub queue_next-requires : goal.queue_next-requires
queue_next-requires g c =
    let later = later-queued (cell_view c.args.writer.now).seen (record { time = c.args.time; label = c.args.label; writes = g.writes }) in
    search rules
