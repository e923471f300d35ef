-- What a note makes of the areas of a disk.
use Rattle.std.specs.Prelude.{[]}
use Rattle.disk.specs.Areas.{Areas, settled_on, with_area, written, synced, area_of}
use Rattle.c_engine.specs.declared.shadow.Note.{Note}
use Rattle.c_engine.specs.declared.shadow.Note.TheVariants.{Holds, Writes, Syncs}

-- three areas without a byte
abbrev pub empty_areas : Areas
empty_areas = settled_on (record { status = []; heap = []; archive = [] })

-- the areas once the note has come to pass
abbrev pub areas_after : Areas → Note → Areas
areas_after areas (Holds status heap archive) = settled_on (record { status = status.now; heap = heap.now; archive = archive.now })
areas_after areas (Writes area at bytes) = with_area area (written at bytes.now (area_of areas area)) areas
areas_after areas (Syncs area) = with_area area (synced (area_of areas area)) areas
