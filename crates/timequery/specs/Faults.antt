-- Faults of the archive as faults of a query.
use Rattle.disk.specs.Calls.{DiskState, counted}
use Rattle.std.specs.Prelude.{Result, Ok, Err}
use Rattle.archive.specs.declared.fault.ArchiveFault.{ArchiveFault}
use Rattle.archive.specs.declared.fault.ArchiveFault.TheVariants as archive
use Rattle.timequery.specs.declared.fault.QueryFault.{QueryFault}
use Rattle.timequery.specs.declared.fault.QueryFault.TheVariants.{BeforeKept, NotYet, EmptyInterval, Device, NoMemory, Damaged, NeedsDisk, Stranger}

-- a fault of the archive as a query answers it
abbrev pub query_fault : ArchiveFault → QueryFault
query_fault archive.Device = Device
query_fault archive.NoMemory = NoMemory
query_fault (archive.Damaged start) = Damaged start

-- A query writes and syncs nothing. It answers Device where a read was refused, and no other read was.
abbrev pub after_query : {T : Type 0} → Result T QueryFault → DiskState → DiskState
after_query (Ok found) state = state
after_query (Err Device) state = record state { refused = counted state.refused }
after_query (Err (BeforeKept floor)) state = state
after_query (Err (NotYet last)) state = state
after_query (Err EmptyInterval) state = state
after_query (Err NoMemory) state = state
after_query (Err (Damaged start)) state = state
after_query (Err NeedsDisk) state = state
after_query (Err Stranger) state = state
