-- A store that is opened stands for the history of its image over another disk too, if that has the same areas.
use Rattle.std.proofs.Common.{◌≡◌, ℕ, ◌≤◌, Bool, true, false, List, Option, Some, None, MatchBool, refl, sym, ◌∙◌, subst, inl, inr}
use Rattle.std.specs.List.{AllByRecursion}
use Rattle.disk.specs.Areas.{Areas, AreSound, Image, LeavesImage, settled_on}
use Rattle.disk.specs.Calls.{DiskState, fresh_on}
use Rattle.archive.specs.Runs.{HoldRuns}
use Rattle.archive.specs.Parts.{IsRight}
use Rattle.chains.specs.KeyWrites.{IsOrdered}
use Rattle.history.specs.Histories.{History}
use Rattle.history.specs.Machine.{Machine, opened}
use Rattle.law_image.specs.Values.{Value}
use Rattle.law_image.specs.Reading.{ArchiveRecord, Reading}
use Rattle.log_store.specs.Values.{LogStoreValue, IsInStep}
use Rattle.log_store.specs.declared.job.Job.{Job}
use Rattle.log_store.specs.declared.job.JobStage.{JobStage}
use Rattle.log_store.specs.declared.job.JobStage.TheVariants.{Writing, Ready, Entering}
use Rattle.log_store.specs.declared.job.JobWork.{JobWork}
use Rattle.log_writer.specs.Writer.{WriterState}
use Rattle.status.specs.declared.header.Header.{Header}
use Rattle.store.specs.Opens as slot_opens
use Rattle.store.specs.Values as slots
use Rattle.any_store.specs.declared.engine.Engine.TheVariants.{Slots, Log}
use Rattle.any_store.specs.Opens.{Opens}
use Rattle.any_store.specs.Values.{StoreValue, disk_of, with_disk}
use Rattle.law_log_layout.specs.HeapLog.{HeapLog, HoldsRoll, heap_parts, placed_group, turn_of}
use Rattle.law_log_layout.specs.Laws.{KeepsArchive, KeepsLog}
use Rattle.law_log_layout.specs.Turns.{IsAt}
use Rattle.law_log_store.specs.Reclaiming.{HasReclaim, HasRoots}
use Rattle.law_log_store.specs.Standing.{HasCommits, HasTurn, HasJob, HasStage, IsAtRest, StandsOnHeap, StopsBy, StopsOnHeap}
use Rattle.law_log_store.specs.Standing.{HasAllWritten, placed_entry}
use Rattle.law_log_steps.specs.Store.{IsLeft, IsStoreOf, IsWriting}
use Rattle.law_log_queries.specs.Archive.{RunsStand, NamesStand}
use Rattle.law_refinement.proofs.Growing.{as-still}
use Rattle.law_refinement.specs.OnDisk as slot_images
use Rattle.law_refinement.specs.Stands as slot_stands
use Rattle.law_refinement.specs.Stands.{StandsStill}
use Rattle.law_opening.proofs.Opened.{opened-stands}
use Rattle.law_any_store.specs.Standing.{Stands, AnyHeader, IsImageOf, opened_as}
use Rattle.law_any_store.proofs.Opened.{open-stands, open-header}

-- ---- a store whose log lies in the heap

module _ (l : LogStoreValue) (disk : DiskState) (same : disk.areas ≡ l.disk.areas) where
  abbrev other : LogStoreValue
  other = record l { disk = disk }

  over-step : IsInStep l → IsInStep other
  over-step is =
      record {
        contents = is.contents;
        bytes = is.bytes;
        promised = is.promised;
        few = is.few;
        many = is.many;
        counted = is.counted;
        turn = is.turn;
        beside = is.beside;
        place = is.place;
        live = is.live;
        reclaim = is.reclaim;
      }

  over-commits : (h queue : History Value) → HasCommits l h queue → HasCommits other h queue
  over-commits h queue is = record { ordered = is.ordered; values = is.values; told = is.told; contents = is.contents; may = is.may }

  over-rest : (log : HeapLog) → IsAtRest l log → IsAtRest other log
  over-rest log is = record { log = subst (λ (a : Areas). KeepsLog log a.heap) (sym same) is.log; room = is.room; live = is.live }

  over-stage : (log : HeapLog) (reading : Reading) (made : List ArchiveRecord) (work : JobWork) (k : JobStage) → HasStage l log reading made work k
      → HasStage other log reading made work k
  over-stage log reading made work (Writing writer) is = over-rest log is
  over-stage log reading made work (Ready waited) is = over-rest log is
  over-stage log reading made work (Entering w) is = record {
    content = is.content;
    joins = is.joins;
    shares = is.shares;
    at = subst (λ (a : Areas). IsAt (heap_parts log) (turn_of log.next (placed_entry w work)) w.stage a.heap) (sym same) is.at;
    room = is.room;
    live = is.live;
  }

  over-job : (log : HeapLog) (reading : Reading) (made : List ArchiveRecord) (j : Option Job) → HasJob l log reading made j → HasJob other log reading made j
  over-job log reading made None is = over-rest log is
  over-job log reading made (Some job) is = over-stage log reading made job.work job.stage is

  over-turn : (t : Option WriterState) (queue : History Value) (log : HeapLog) (reading : Reading) (made : List ArchiveRecord) (h : History Value)
      → HasTurn l queue log reading made h t → HasTurn other queue log reading made h t
  over-turn None queue log reading made h is = over-job log reading made l.job is
  over-turn (Some w) queue log reading made h is = record {
    group = is.group;
    told = is.told;
    is_group = is.is_group;
    content = is.content;
    joins = is.joins;
    shares = is.shares;
    at = subst (λ (a : Areas). IsAt (heap_parts log) (turn_of log.next (placed_group w.numbers w.link is.group)) w.stage a.heap) (sym same) is.at;
    room = is.room;
    live = is.live;
    alone = is.alone;
    beside = is.beside;
  }

  -- what is written of a run is there
  over-written : (made : List ArchiveRecord) (j : Option Job) → HasAllWritten made j l.disk.areas.archive → HasAllWritten made j disk.areas.archive
  over-written made j is = subst (λ (a : Areas). HasAllWritten made j a.archive) (sym same) is

  over-heap : (h queue : History Value) (floors : ℕ → ℕ) → StandsOnHeap l h queue floors → StandsOnHeap other h queue floors
  over-heap h queue floors is = record {
    l = is.l;
    reading = is.reading;
    made = is.made;
    is_log = is.is_log;
    stands = is.stands;
    archive = subst (λ (a : Areas). KeepsArchive is.l a.archive) (sym same) is.archive;
    status = subst (λ (a : Areas). HasRoots l.roots l.reclaim a.status) (sym same) is.status;
    sound = subst AreSound (sym same) is.sound;
    commits = over-commits h queue is.commits;
    facts = is.facts;
    anchors = is.anchors;
    turn = over-turn l.turn queue is.l is.reading is.made h is.turn;
    job = is.job;
    written = over-written is.made l.job is.written;
    named = is.named;
    reach = subst (λ (a : Areas). l.named.end ≤ a.archive.firm) (sym same) is.reach;
    spare = is.spare;
    reclaim = subst (λ (a : Areas). HasReclaim l.roots l.job l.named.end a.heap a.archive is.l is.reading l.reclaim) (sym same) is.reclaim;
  }

  over-stops : (failed : Bool) (h queue : History Value) (floors : ℕ → ℕ) → StopsBy failed l h queue floors → StopsBy failed other h queue floors
  over-stops failed h queue floors is image left = is image (subst (λ (a : Areas). LeavesImage a image) same left)

  over-disk : (b : Bool) (h queue : History Value) (floors : ℕ → ℕ) → MatchBool b (StopsOnHeap l h queue floors) (StandsOnHeap l h queue floors)
      → MatchBool b (StopsOnHeap other h queue floors) (StandsOnHeap other h queue floors)
  over-disk true h queue floors is = over-stops l.commits.failed h queue floors is
  over-disk false h queue floors is = over-heap h queue floors is

  over-left : (m : Machine Value) → IsLeft true l m → IsLeft true other m
  over-left m (inl gate) = inl gate
  over-left m (inr calm) = inr (record { gate = calm.gate; stops = λ told. over-stops false m.published m.queue m.floors (calm.stops told) })

  over-writing : (m : Machine Value) → IsWriting true l m → IsWriting true other m
  over-writing m is = record {
    most = is.most;
    group = is.group;
    raising = is.raising;
    made = is.made;
    gate = is.gate;
    left = λ fails. over-left m (is.left fails);
  }

  over-store : (m : Machine Value) → IsStoreOf true l m → IsStoreOf true other m
  over-store m is = record {
    memory = is.memory;
    machine = is.machine;
    writing = over-writing m is.writing;
    fresh = is.fresh;
    marks = record { reclaimed = is.marks.reclaimed; base = is.marks.base; job = is.marks.job; reclaim = is.marks.reclaim };
    ends = is.ends;
    disk = λ told. over-disk l.commits.failed m.published m.queue m.floors (is.disk told);
  }

  over-runs : (h : History Value) (floors : ℕ → ℕ) → RunsStand l h floors → RunsStand other h floors
  over-runs h floors is = record {
    lists = is.lists;
    held = subst (λ (a : Areas). HoldRuns a.archive.bytes l.archive.runs is.lists) (sym same) is.held;
    marks = is.marks;
    by_last = is.by_last;
    archived = is.archived;
    right = subst (λ (a : Areas). IsRight l.archive.kept a.archive.bytes) (sym same) is.right;
    near = is.near;
    ends = is.ends;
    named = is.named;
  }

  -- what the log names of commits in the archive
  over-names : (h : History Value) → NamesStand l h → NamesStand other h
  over-names h is = record {
    rolls = is.rolls;
    names = is.names;
    lie = record {
      rolls_are = is.lie.rolls_are;
      each = is.lie.each;
      held = subst (λ (a : Areas). AllByRecursion (HoldsRoll a.archive.bytes) is.rolls) (sym same) is.lie.held;
      stored = is.lie.stored;
      are_names = is.lie.are_names;
      by_mark = is.lie.by_mark;
    };
    ends = is.ends;
    others = is.others;
    are = is.are;
    late = is.late;
    by_last = is.by_last;
  }

  over-log : (m : Machine Value) → Stands true (Log l) m → Stands true (Log other) m
  over-log m is = (
    over-step is.0,
    record {
      store = over-store m is.1.store;
      place = is.1.place;
      runs = λ told. over-runs m.published m.floors (is.1.runs told);
      names = λ told. over-names m.published (is.1.names told);
    },
  )

-- ---- in either layout

pub over-has : (v : StoreValue) (disk : DiskState) → disk_of (with_disk v disk) ≡ disk
over-has (Slots s) disk = refl
over-has (Log l) disk = refl

-- the areas of a store that is opened are those of the image, all of them synced
pub opened-areas : (bytes : Image) (mark : ℕ) (v : StoreValue) → Opens true (fresh_on bytes) mark v → (disk_of v).areas ≡ settled_on bytes
opened-areas bytes mark (Slots s) opens = opens.engine.settled refl
opened-areas bytes mark (Log l) opens = opens.engine.settled refl

slots-over : (bytes : Image) (mark : ℕ) (s : slots.StoreValue) (disk : DiskState) (header : Header) (h : History Value) (floors : ℕ → ℕ)
    → slot_opens.Opens true (fresh_on bytes) mark s → disk.areas ≡ s.disk.areas → AreSound (settled_on bytes) → slot_images.IsImageOf header bytes h floors
    → slot_stands.Stands true (record s { disk = disk }) (opened h floors)
slots-over bytes mark s disk header h floors o same sound image =
    let ordered : IsOrdered o.recovered.chains = subst (λ (w : slots.StoreValue). IsOrdered w.transactions.versions) o.new_is o.ordered in
    let still : StandsStill true (record s { disk = disk }) (opened h floors) =
    subst (λ (w : slots.StoreValue). StandsStill true (record w { disk = disk }) (opened h floors)) (sym o.new_is)
    (opened-stands (fresh_on bytes) mark disk o.recovered s.archive header h floors (o.read refl) o.unread image (same ∙ o.settled refl) ordered sound true) in
    as-still true (record s { disk = disk }) (opened h floors) still

pub opened-over : (bytes : Image) (mark : ℕ) (v : StoreValue) (disk : DiskState) (header : AnyHeader) (h : History Value) (floors : ℕ → ℕ)
    → Opens true (fresh_on bytes) mark v → disk.areas ≡ (disk_of v).areas → AreSound (settled_on bytes) → IsImageOf header bytes h floors
    → Stands true (with_disk v disk) (opened_as header h floors)
opened-over bytes mark (Slots s) disk (Slots header) h floors opens same sound image =
    slots-over bytes mark s disk header h floors opens.engine same sound image
opened-over bytes mark (Slots s) disk (Log roots) h floors opens same sound image =
    absurd (open-header true (fresh_on bytes) mark (Slots s) (Log roots) h floors opens refl image)
opened-over bytes mark (Log l) disk (Slots header) h floors opens same sound image =
    absurd (open-header true (fresh_on bytes) mark (Log l) (Slots header) h floors opens refl image)
opened-over bytes mark (Log l) disk (Log roots) h floors opens same sound image =
    over-log l disk same (opened_as (Log roots) h floors) (open-stands true (fresh_on bytes) mark (Log l) (Log roots) h floors opens refl sound image)
