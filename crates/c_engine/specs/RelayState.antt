-- What the disks of a host show.
use Rattle.std.specs.Prelude.{Option, None, Some}
use Rattle.disk.specs.Areas.{Areas, Image, settled_on, while_written}
use Rattle.disk.specs.Calls.{DiskState}
use Rattle.c_engine.specs.declared.relay_disk.RelayDisk.{RelayDisk}
use Rattle.c_engine.specs.declared.slice_disk.Range.{Range}
use Rattle.c_engine.specs.declared.slice_disk.SliceDisk.{SliceDisk}

-- the bytes that are lent
abbrev pub lent : SliceDisk → Image
lent d = record { status = d.status.now; heap = d.heap.now; archive = d.archive.now }

-- these areas where a write of this range may have been made in part
abbrev pub torn_at : Option Range → Areas → Areas
torn_at None areas = areas
torn_at (Some range) areas = while_written range.area range.at range.len areas

-- the bytes that are lent, all of them synced but where a write was refused, and the counts
abbrev pub slices_state : SliceDisk → DiskState
slices_state d = record { areas = torn_at d.torn (settled_on (lent d)); made = d.made; refused = d.refused }

-- the areas as the noted calls leave them, and the counts
abbrev pub relay_state : RelayDisk → DiskState
relay_state d = record { areas = d.shadow.areas; made = d.made; refused = d.refused }
