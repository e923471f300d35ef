-- Where a store has its log.
use Rattle.std.specs.Prelude.{is_some, if◌then◌else◌}
use Rattle.disk.specs.declared.area.Area.{Area}
use Rattle.disk.specs.declared.area.Area.TheVariants.{Status, Heap}
use Rattle.any_store.specs.declared.engine.Engine.TheVariants.{Slots, Log}
use Rattle.any_store.specs.Values.{StoreValue}

-- the area of its log
abbrev pub log_area : StoreValue → Area
log_area (Slots s) = Status
log_area (Log l) = Heap

-- the area of the gate by which a job counts: where the log lies in the heap, a reclaim turns the status area to the root that names its base
abbrev pub job_area : StoreValue → Area
job_area (Slots s) = Status
job_area (Log l) = if is_some l.reclaim then Status else Heap
