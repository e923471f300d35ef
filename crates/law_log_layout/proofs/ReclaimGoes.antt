-- The way from the old root to the base of a reclaim, told of histories.
use Rattle.std.proofs.Common.{ℕ, Bool, List, refl, ⊎_elim}
use Rattle.byteorder.specs.Endian.{little_bytes}
use Rattle.history.specs.Histories.{History}
use Rattle.disk.specs.Areas.{Areas, Image, AreSound, MayLeave}
use Rattle.law_image.specs.Values.{Value}
use Rattle.law_image.specs.Reading.{Reading}
use Rattle.law_image.specs.StandsFor.{StandsFor}
use Rattle.deltas.specs.Extents.{extent_start}
use Rattle.log_writer.specs.Turns.{Part}
use Rattle.law_log_layout.specs.HeapLog.{HeapLog, heap_parts, HeapStandsFor, IsLogOf}
use Rattle.law_log_layout.specs.Roots.{other, IsHeaderApart, Stage, Writing, Syncing, Turning, Settling, Done, IsAt, MayBe, MayBecome}
use Rattle.law_log_layout.specs.Laws.{KeepsArchive, KeepsLog, RootStandsFor, IsReclaimWay}
use Rattle.law_log_layout.specs.Beside.{NamesRootOf}
use Rattle.law_log_layout.proofs.Parts.{all-left, closed-left}
use Rattle.law_log_layout.proofs.GroupGoes.{rolls-left, runs-left}
use Rattle.law_log_layout.proofs.RootBeside.{root-beside}

-- where either of two claims gives a third, so does what may be of them
of-before : (stage : Stage) (A B C : Type 0) → (A → C) → (B → C) → MayBe stage A B → C
of-before Writing A B C f g is = f is
of-before Syncing A B C f g is = f is
of-before Turning A B C f g is = f is
of-before Settling A B C f g is = ⊎_elim f g is
of-before Done A B C f g is = g is

of-within : (stage : Stage) (A B C : Type 0) → (A → C) → (B → C) → MayBecome stage A B → C
of-within Writing A B C f g is = f is
of-within Syncing A B C f g is = f is
of-within Turning A B C f g is = ⊎_elim f g is
of-within Settling A B C f g is = ⊎_elim f g is
of-within Done A B C f g is = g is

-- what a stop may leave of heap and archive stands for what the log tells
pub log-stands : (most root : ℕ) (l : HeapLog) (reading : Reading) (h : History Value) (floors : ℕ → ℕ) (areas : Areas) (heap archive : List ℕ)
    → IsLogOf most root l reading → StandsFor reading h floors → KeepsLog l areas.heap → KeepsArchive l areas.archive
    → MayLeave areas.heap heap → MayLeave areas.archive archive → HeapStandsFor most root heap archive h floors
log-stands most root l reading h floors areas heap archive is stands log runs heap_left archive_left = record {
  log = l;
  reading = reading;
  is_log = is;
  stands = stands;
  held = record {
    parts = all-left (heap_parts l) areas.heap heap log.parts heap_left;
    ends = closed-left (extent_start l.next) areas.heap heap log.ends heap_left;
    rolls = rolls-left l.rolls areas.archive archive runs.rolls archive_left;
    runs = runs-left l.runs areas.archive archive runs.runs archive_left;
  };
}

pub reclaim-goes : (most : ℕ) (header : List Part) (turned : Bool) (old new : ℕ) (l based : HeapLog) (reading after : Reading) (h : History Value)
    (floors : ℕ → ℕ) (stage : Stage) (areas : Areas)
    → IsHeaderApart header → AreSound areas
    → IsLogOf most old l reading → StandsFor reading h floors → KeepsLog l areas.heap → KeepsArchive l areas.archive
    → IsLogOf most new based after → StandsFor after h floors → KeepsLog based areas.heap → KeepsArchive based areas.archive
    → IsAt header turned (little_bytes 4 old) (little_bytes 4 new) stage areas.status
    → IsReclaimWay most header turned old new h floors stage areas
reclaim-goes most header turned old new l based reading after h floors stage areas apart sound is stands log runs is_new new_stands new_log new_runs at =
    let Stands : ℕ → List ℕ → List ℕ → Type 0 = λ root heap archive. HeapStandsFor most root heap archive h floors in
    let way = root-beside (Stands old) (Stands new) header turned (little_bytes 4 old) (little_bytes 4 new) stage areas apart refl refl sound
    (λ heap archive heap_left archive_left. log-stands most old l reading h floors areas heap archive is stands log runs heap_left archive_left)
    (λ heap archive heap_left archive_left.
    log-stands most new based after h floors areas heap archive is_new new_stands new_log new_runs heap_left archive_left) at in
    let old-names : (image : Image) → NamesRootOf header turned (little_bytes 4 old) (Stands old) image → RootStandsFor most header image h floors =
    λ image names. record { turned = turned; root = old; names = names.0; stands = names.1 } in
    let new-names : (image : Image) → NamesRootOf header (other turned) (little_bytes 4 new) (Stands new) image → RootStandsFor most header image h floors =
    λ image names. record { turned = other turned; root = new; names = names.0; stands = names.1 } in
    record {
      before = λ image left. of-before stage _ _ (RootStandsFor most header image h floors) (old-names image) (new-names image) (way.before image left);
      within = λ result next image call left.
          of-within stage _ _ (RootStandsFor most header image h floors) (old-names image) (new-names image) (way.within result next image call left);
      leads = way.leads;
    }
