use Rattle.std.proofs.Common.{◌≡◌, ◌∙◌, List, ap, sym}
use Rattle.log_shown.specs.declared.items.LogItem.{LogItem}
use Rattle.log_facts.specs.HeapTexts.{heap_info_text}
use Rattle.log_facts.proofs.HeapFaults.{damage_told, fault_told}
use Rattle.log_facts.proofs.heap_info.read_heap_info.Goals as goal

pub returns-in-Err-clause-fault : goal.returns-in-Err-clause-fault
returns-in-Err-clause-fault g c = λ told.
    let areas = (g.D.Disk.state c.args.disk.now).areas in
    fault_told areas.status.bytes areas.heap.bytes c.in-Err.fault (c.in-Err.ensures.fault told)

pub returns-in-Damaged-clause-fault : goal.returns-in-Damaged-clause-fault
returns-in-Damaged-clause-fault g c = λ told.
    let areas = (g.D.Disk.state c.args.disk.now).areas in
    damage_told areas.status.bytes areas.heap.bytes c.in-Ok.shown c.in-Damaged.place (c.in-Ok.ensures.shown told) c.in-Damaged.is

pub returns-in-Ok-heap_info_text-clause-info : goal.returns-in-Ok-heap_info_text-clause-info
returns-in-Ok-heap_info_text-clause-info g c = record {
  shown = c.in-Ok.shown;
  extents = c.in-Right.extents;
  stands = c.in-Ok.ensures.shown;
  right = c.in-Right.is;
  text_is = c.in-Ok-heap_info_text.ensures
      ∙ ap (λ (items : List LogItem). heap_info_text c.args.json c.in-Ok.shown.roots items c.in-Right.extents) c.as_slice.ensures.value;
}
