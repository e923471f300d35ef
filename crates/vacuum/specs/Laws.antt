-- What a walk goes over is the plan.
use Rattle.std.specs.Prelude.{◌≡◌, ℕ, List}
use Rattle.history.specs.declared.key.Key.{Key}
use Rattle.history.specs.Versions.{versions}
use Rattle.chains.specs.KeyWrites.{KeyWrites, writes_of}
use Rattle.law_image.specs.Reading.{Reading}
use Rattle.law_image.specs.Log.{floor_of}
use Rattle.law_image.specs.Facts.{heap_versions}
use Rattle.law_image.specs.StandsFor.{archived_upto}
use Rattle.law_image.specs.Plans.{IsArchivePlan, IsReclaimPlan}
use Rattle.floors.specs.Floors.{floor_at}
use Rattle.vacuum.specs.declared.archive_walk.Since.{Since}
use Rattle.vacuum.specs.Archives.{AreInMemory, records_of}
use Rattle.vacuum.specs.Anchors.{anchors_of}

-- in memory stands of each key what the heap has
abbrev pub HoldsHeap : Reading → List KeyWrites → Type 0
HoldsHeap reading frozen = (key : Key) → heap_versions reading key ≡ versions (writes_of frozen key)

-- where these are the mark and the floors, the records of a walk over what ended after them are the plan of an archive
abbrev pub ArchiveIsWalked : Type 0
ArchiveIsWalked = (reading : Reading) (frozen : List KeyWrites) (since : Since) (upto : ℕ) → AreInMemory frozen → HoldsHeap reading frozen
    → archived_upto reading ≡ since.mark → ((relation : ℕ) → floor_of reading.log relation ≡ floor_at since.floors relation)
    → IsArchivePlan reading upto (records_of since upto frozen)

-- and those that stand at the archive mark are the plan of a reclaim
abbrev pub ReclaimIsWalked : Type 0
ReclaimIsWalked = (reading : Reading) (frozen : List KeyWrites) (mark : ℕ) → AreInMemory frozen → HoldsHeap reading frozen
    → archived_upto reading ≡ mark → IsReclaimPlan reading (anchors_of mark frozen)
