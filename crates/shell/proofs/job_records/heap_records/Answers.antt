use Rattle.log_facts.proofs.HeapFaults.{damage_told, fault_told}
use Rattle.shell.proofs.job_records.heap_records.Goals as goal

pub returns-in-Err-clause-fault : goal.returns-in-Err-clause-fault
returns-in-Err-clause-fault g c =
    let areas = (g.D.Disk.state c.args.disk.now).areas in
    (λ told. fault_told areas.status.bytes areas.heap.bytes c.in-Err.fault (c.in-Err.ensures.fault told), c.in-Err.ensures.reads)

pub returns-in-Right-clause-names : goal.returns-in-Right-clause-names
returns-in-Right-clause-names g c = record {
  shown = c.in-Ok.shown;
  extents = _;
  stands = c.in-Ok.ensures.shown;
  right = c.in-Right.is;
  counts_are = cc;
  same = c.in-Ok.ensures.reads;
}

pub returns-clause-fault : goal.returns-clause-fault
returns-clause-fault g c =
    let areas = (g.D.Disk.state c.args.disk.now).areas in (
      λ told. damage_told areas.status.bytes areas.heap.bytes c.in-Ok.shown c.in-Damaged.place (c.in-Ok.ensures.shown told) c.in-Damaged.is,
      c.in-Ok.ensures.reads,
    )
