use Rattle.std.proofs.Common.{◌≡◌, List, ◌++◌, None, slice_get, sym, ap, ◌∙◌, append-nil}
use Rattle.std.specs.List.{flat_map}
use Rattle.deltas.specs.declared.«record».Record.{Record}
use Rattle.deltas.specs.Records.{spelling}
use Rattle.deltas.proofs.PackedAll.{none_next}
use Rattle.log_room.proofs.content.push_all.Goals as goal

pub returns : goal.returns
returns g c =
    let end : None ≡ slice_get (g.S.RecordSource.left c.loop-record.source) 0 = rw c.in_default.is at c.peek.ensures in
    sym (append-nil c.loop-record.out.items)
    ∙ ap (λ (rest : List Record). c.loop-record.out.items ++ flat_map spelling rest) (sym (none_next _ end))
    ∙ c.loop-record.invariant
