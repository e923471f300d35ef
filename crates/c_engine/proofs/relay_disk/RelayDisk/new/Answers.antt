use Rattle.std.proofs.Common.{sym, ap, ◌∙◌}
use Rattle.disk.specs.Areas.{Areas, Image}
use Rattle.c_engine.specs.LastWrites.{writes_of, last_writes}
use Rattle.c_engine.proofs.Relaying.{none_noted}
use Rattle.c_engine.proofs.relay_disk.RelayDisk.new.Goals as goal

pub invariant_of-result-clause-noted : goal.invariant_of-result-clause-noted
invariant_of-result-clause-noted c =
    let image : Image = record { status = c.args.areas.now.status.now; heap = c.args.areas.now.heap.now; archive = c.args.areas.now.archive.now } in
    ∣ none_noted (writes_of c.none.result) image c.none.ensures ∙ ap (λ (a : Areas). last_writes a) (sym c.then.ensures) ∣₁
