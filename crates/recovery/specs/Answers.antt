-- What the answers of an opening say of the disk's calls.
use Rattle.std.specs.Prelude.{Result, Ok, Err}
use Rattle.disk.specs.Calls.{DiskState, counted}
use Rattle.recovery.specs.declared.fault.OpenFault.{OpenFault}
use Rattle.recovery.specs.declared.fault.OpenFault.TheVariants.{NotAStore, Damaged, Device, NoMemory}

-- after reads: a refused one was counted, and nothing else has changed
abbrev pub after_fault : OpenFault → DiskState → DiskState
after_fault NotAStore s = s
after_fault (Damaged area place) s = s
after_fault Device s = record s { refused = counted s.refused }
after_fault NoMemory s = s

-- the disk after reads with this answer: nothing but a refusal is counted
abbrev pub after_reads : {T : Type 0} → Result T OpenFault → DiskState → DiskState
after_reads (Ok x) s = s
after_reads (Err fault) s = after_fault fault s
