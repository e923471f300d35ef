-- A store that is opened on an image that stands for a history.
use Rattle.std.proofs.Common.{◌≡◌, ◌≢◌, ℕ, ◌≤◌, ◌==◌, Bool, false, IsTrue, List, [], ◌∷◌, ◌++◌, length, map, Option, Some, None, MatchBool, refl, arith, ap}
use Rattle.std.proofs.Common.{sym, subst, ◌∙◌, inl}
use Rattle.law_refinement.proofs.Jobs.{built-slots}
use Rattle.law_image.proofs.Forms.{in-slots}
use Rattle.std.specs.Prelude.{Contains, IsSome, IsNone}
use Rattle.std.proofs.lemmas.Bool.Decides.{nat_tests}
use Rattle.std.specs.List.{AllByRecursion}
use Rattle.std.proofs.lemmas.List.{append-nil, length-map}
use Rattle.std.proofs.lemmas.List.Sorted.{IsPermutation-refl}
use Rattle.disk.specs.Areas.{Areas, Image, AreSound, LeavesImage, image_of, settled_on}
use Rattle.disk.specs.declared.area.Area.TheVariants.{Status, Heap, Archive}
use Rattle.disk.specs.Calls.{DiskState}
use Rattle.history.specs.declared.key.Key.{Key}
use Rattle.history.specs.Histories as histories
use Rattle.history.specs.Histories.{Commit, History, HasRisingTimes, last}
use Rattle.history.specs.Fronts.{OnFront}
use Rattle.history.specs.Machine.{opened}
use Rattle.history.specs.declared.time.TimedWrite.{TimedWrite}
use Rattle.history.specs.Time.{IsRisingAfter, writes_after}
use Rattle.history.proofs.Machines.{opened-machine}
use Rattle.history.proofs.Members.{Contains-nil}
use Rattle.law_image.specs.Values.{Value, IsValue}
use Rattle.law_image.specs.Reading.{Head, Slot, Commits, Archived, Reclaimed, Floor, Reading, ArchiveRecord}
use Rattle.law_image.specs.Reading as readings
use Rattle.law_image.specs.Log.{is_in_heap, archive_mark, floor_of, floors_after, AreRisingAfter, last_time_after, IsScopeOf, MayAllCome}
use Rattle.history.specs.Floors.{raised}
use Rattle.law_image.specs.Facts.{old_writes, heap_facts}
use Rattle.law_image.specs.StandsFor.{head_of, archived_upto, reclaimed_upto, AreRunsOf, IsSlotLog}
use Rattle.law_image.proofs.Standing.{last_time-heads, heads-rising, rises, facts-rise, archived-range, floor-range}
use Rattle.chains.specs.KeyWrites.{IsOrdered, writes_of}
use Rattle.chains.specs.Writes.{last_time, kept_after}
use Rattle.extents.specs.declared.usage.Usage.{Usage}
use Rattle.extents.specs.Usages.{IsKept}
use Rattle.group.specs.CommitOrder as orders
use Rattle.status.specs.declared.header.Header.{Header}
use Rattle.status.specs.Header.{total}
use Rattle.status.specs.Rules.{row_end, log_of, AreInRow}
use Rattle.law_layout.specs.Extents.{Extent}
use Rattle.law_layout.specs.Layouts.{Layout, live}
use Rattle.law_layout.specs.Runs.{StoredRun}
use Rattle.archive.specs.Runs.{HoldRuns, RunsEndBy}
use Rattle.archive.specs.Searches.{archive_of}
use Rattle.wire.specs.declared.slot.Run.{Run}
use Rattle.law_layout.specs.Keeping.{RestsAs}
use Rattle.law_layout.specs.Opening.{unread, unread_layout}
use Rattle.law_layout.proofs.OpensAsOne.{opens_once}
use Rattle.law_layout.proofs.Ways.{synced_rests}
use Rattle.recovery.specs.declared.recovered.Recovered.{Recovered}
use Rattle.wire.specs.declared.slot.Member.{Member}
use Rattle.status.specs.Rules as rules
use Rattle.recovery.specs.HeapReads.{numbers_in}
use Rattle.recovery.specs.ReadsImage.{IsOpening, IsReadAs, IsReadFrom}
use Rattle.recovery.specs.Laws.{IsHistoryRead}
use Rattle.recovery.proofs.HistoryRead.{stands_opening, history_read, anchors_upto, facts_are}
use Rattle.group.specs.Order.{IsInOrder}
use Rattle.store.specs.Heads.{head_as}
use Rattle.store.specs.Values.{ArchiveValue, StoreValue, IsInStep}
use Rattle.store.specs.Opens.{Opens, opened_on, IsUnread}
use Rattle.recovery.specs.RunEntries.{runs_named, AreEntriesOf}
use Rattle.archive.specs.declared.run.RunEntry.{RunEntry}
use Rattle.store.proofs.Opened.{rising-opened, last-opened}
use Rattle.law_refinement.specs.Standing.{Name, name_of, name_at, HasWrites, HasForgotten, StandsInMemory}
use Rattle.law_refinement.specs.OnDisk.{IsImageOf, Works, StandsOnDisk}
use Rattle.law_refinement.specs.Homes.{AreArchived, RunsStand}
use Rattle.law_refinement.specs.Stands.{AreOfProfile, Stands, StandsStill}
use Rattle.law_refinement.proofs.Growing.{as-still}
use Rattle.law_refinement.proofs.HeapForgets.{heap-forgot}
use Rattle.law_refinement.proofs.Held.{last-held}
use Rattle.law_opening.specs.Laws.{IsOfHeader, ImageHasHeader}
use Rattle.law_opening.proofs.Runs.{runs-hold, runs-end, marks-are}
use Rattle.law_opening.proofs.Times.{opened-times, opened-long}
use Rattle.law_opening.proofs.Versions.{latest-upto}

-- ---- the disk, once it is synced

settled-sound : (areas : Areas) → AreSound areas → AreSound (settled_on (image_of areas))
settled-sound areas sound Status = record { firm = omega arith; settled = λ none. refl; are_bytes = (sound Status).are_bytes }
settled-sound areas sound Heap = record { firm = omega arith; settled = λ none. refl; are_bytes = (sound Heap).are_bytes }
settled-sound areas sound Archive = record { firm = omega arith; settled = λ none. refl; are_bytes = (sound Archive).are_bytes }

-- a stop leaves just the image
settled-left : (image left : Image) → LeavesImage (settled_on image) left → left ≡ image
settled-left image left leaves =
    let status = leaves.status.settled refl in
    let heap = leaves.heap.settled refl in
    let archive = leaves.archive.settled refl in
    λ i. record { status = status i; heap = heap i; archive = archive i }

-- ---- the commits that the log names

named : (items : List Member) (h : History Value) → map rules.head_of items ≡ map head_of h → map name_at (map head_as items) ≡ map name_of h
named [] [] same = refl
named [] (c ∷ cs) same = absurd cc
named (n ∷ ns) [] same = absurd cc
named (n ∷ ns) (c ∷ cs) same =
    let first : rules.head_of n ≡ head_of c = cc in
    let rest : map rules.head_of ns ≡ map head_of cs = cc in
    let one : name_at (head_as n) ≡ name_of c = ap (λ (x : Head). record { time = x.time; label = x.label }) first in
    ap (λ (x : Name). x ∷ map name_at (map head_as ns)) one ∙ ap (λ (xs : List Name). name_of c ∷ xs) (named ns cs rest)

kept-numbers : (usages : List Usage) (es : List Extent) → AllByRecursion (IsKept usages) (numbers_in es)
    → AllByRecursion (λ (e : Extent). IsKept usages e.number) es
kept-numbers usages [] kept = tt
kept-numbers usages (e ∷ es) kept = (kept.0, kept-numbers usages es kept.1)

-- the front of rising writes
rising-first-of : (xs ys : List (TimedWrite Value)) (t : ℕ) → IsRisingAfter t (xs ++ ys) → IsRisingAfter t xs
rising-first-of [] ys t up = tt
rising-first-of (x ∷ xs) ys t up = (up.0, up.1, rising-first-of xs ys x.time up.2)

-- ---- what was read

-- where no floor is of one relation, relations have the same one
one-alike : (before : ℕ → ℕ) (profile : ℕ) → profile ≢ 3 → (scope : Option ℕ) (floor : ℕ) → IsScopeOf profile scope
    → ((relation : ℕ) → before relation ≡ before 0) → (relation : ℕ) → raised scope floor before relation ≡ raised scope floor before 0
one-alike before profile other None floor is same relation = refl
one-alike before profile other (Some only) floor is same relation =
    let test : (profile == 3) ≡ false = grind (arith, nat_tests, other) in
    absurd (let no : IsNone (Some only) = subst (λ (b : Bool). MatchBool b (IsSome (Some only)) (IsNone (Some only))) test is in cc)

after-alike : (profile : ℕ) → profile ≢ 3 → (log before : List Slot) (floors : ℕ → ℕ) → MayAllCome profile before log
    → ((relation : ℕ) → floors relation ≡ floors 0) → (relation : ℕ) → floors_after floors log relation ≡ floors_after floors log 0
after-alike profile other [] before floors may same relation = same relation
after-alike profile other (Commits heads ∷ log) before floors may same relation =
    after-alike profile other log (before ++ Commits heads ∷ []) floors may.1 same relation
after-alike profile other (Archived upto ∷ log) before floors may same relation =
    after-alike profile other log (before ++ Archived upto ∷ []) floors may.1 same relation
after-alike profile other (Reclaimed upto ∷ log) before floors may same relation =
    after-alike profile other log (before ++ Reclaimed upto ∷ []) floors may.1 same relation
after-alike profile other (Floor scope floor ∷ log) before floors may same relation =
    after-alike profile other log (before ++ Floor scope floor
    ∷ []) (raised scope floor floors) may.1 (one-alike floors profile other scope floor (may.0).0 same) relation

alike : (profile : ℕ) → profile ≢ 3 → (log before : List Slot) → MayAllCome profile before log → (relation : ℕ) → floor_of log relation ≡ floor_of log 0
alike profile other log before may relation = after-alike profile other log before (λ q. 0) may (λ q. refl) relation

module _ (old : DiskState) (mark : ℕ) (disk : DiskState) (r : Recovered) (archive : ArchiveValue) (header : Header) (h : History Value) (floors : ℕ → ℕ)
    (read : IsReadFrom (image_of old.areas) r) (fresh : IsUnread r.runs.items archive) (image : IsImageOf header (image_of old.areas) h floors)
    (settled : disk.areas ≡ settled_on (image_of old.areas)) (ordered : IsOrdered r.chains) (sound : AreSound old.areas) where
  opening : IsOpening header (image_of old.areas) (unread_layout image.layout) (unread image.reading)
  opening = stands_opening header (image_of old.areas) image.layout image.reading h floors image.laid image.held image.stands image.profile_built image.built

  same : (r.header ≡ header) × (read.layout ≡ unread_layout image.layout) × (read.reading ≡ unread image.reading)
  same = opens_once r.header header (image_of old.areas) read.layout (unread_layout image.layout) read.reading (unread image.reading) read.opening.opens
      opening.opens

  is : IsReadAs (unread_layout image.layout) (unread image.reading) r
  is = subst (λ (l : Layout). IsReadAs l (unread image.reading) r) same.1 (subst (λ (x : Reading). IsReadAs read.layout x r) same.2 read.is)

  so : IsHistoryRead h floors r
  so = history_read header (image_of old.areas) image.layout image.reading h floors image.laid image.held image.stands image.profile_built image.built r read

  rising : HasRisingTimes 0 h
  rising = rises image.reading h floors image.stands

  marked : r.reclaimed ≡ reclaimed_upto image.reading
  marked = is.reclaimed

  -- it has forgotten what ended by the mark
  forgot : HasForgotten r.reclaimed r.chains
  forgot key =
      let facts : writes_of r.chains key ≡ heap_facts image.reading key = is.writes key in
      ap (λ (ws : List (TimedWrite Value)). kept_after r.reclaimed ws) facts
      ∙ ap (λ (n : ℕ). kept_after n (heap_facts image.reading key)) marked
      ∙ heap-forgot image.reading h floors image.stands key
      ∙ sym facts

  abbrev anchors : Key → List (TimedWrite Value)
  anchors key = old_writes image.reading.anchors key

  abbrev later : Key → List (TimedWrite Value)
  later key = writes_after (reclaimed_upto image.reading) (histories.writes_of h key)

  versions_held : HasWrites floors r.reclaimed r.chains h
  versions_held = record {
    ordered = ordered;
    marked = let reached = image.stands.homes.marks in let upto = archived-range image.reading h floors image.stands in omega (arith, marked);
    before = anchors;
    rising = λ key. rising-first-of (anchors key) (later key) 0
        (subst (λ (ws : List (TimedWrite Value)). IsRisingAfter 0 ws)
        (facts_are header (image_of old.areas) image.layout image.reading h floors image.laid image.held image.stands image.profile_built image.built key)
        (facts-rise image.reading h floors image.stands key));
    early = λ key. subst (λ (n : ℕ). last_time (anchors key) ≤ n) (sym marked)
        (anchors_upto (reclaimed_upto image.reading) 0 image.reading.anchors key image.stands.opens.reads.anchor_times (omega arith));
    writes = λ key.
        is.writes key
        ∙ facts_are header (image_of old.areas) image.layout image.reading h floors image.laid image.held image.stands image.profile_built image.built key
        ∙ ap (λ (n : ℕ). anchors key ++ writes_after n (histories.writes_of h key)) (sym marked);
    at_home = so.versions_are;
  }

  -- ---- memory

  many : length r.commits.items ≡ length h
  many = sym (length-map r.commits.items rules.head_of) ∙ ap (λ (l : List Head). length l) so.commits ∙ length-map h head_of

  heads_rise : orders.IsRisingAfter 0 (map head_as r.commits.items)
  heads_rise = rising-opened 0 r.commits.items (subst (λ (l : List Head). AreRisingAfter 0 l) (sym so.commits) (heads-rising 0 h rising))

  heads_last : orders.last_time (map head_as r.commits.items) ≡ last h
  heads_last = last-opened 0 r.commits.items ∙ ap (λ (l : List Head). last_time_after 0 l) so.commits ∙ last_time-heads 0 h

  memory : StandsInMemory (opened_on mark r archive disk).transactions (opened h floors)
  memory = record {
    names = named r.commits.items h so.commits ∙ ap (λ (l : History Value). map name_of l) (sym (append-nil h));
    rising = heads_rise;
    published = many;
    versions = versions_held;
    forgot = forgot;
    recent = λ snapshot there. absurd (Contains-nil snapshot there);
    queue = tt;
    fresh = λ turning. absurd cc;
    group = refl;
    most = refl;
    staged = λ staged. absurd staged;
    snapshots = IsPermutation-refl [];
    floors = so.floors_are;
    failed = refl;
  }

  -- ---- what holds of the store by itself

  has_room : r.used ≤ total r.header
  has_room = let fits = image.held.log.opens.fits in let all = ap total same.0 in let used = is.used in omega (arith, fits, all, used)

  few_slots : total r.header ≤ 65536
  few_slots = let few = image.held.log.opens.has_room.few in let all = ap total same.0 in omega (arith, few, all)

  order : IsInOrder (opened_on mark r archive disk).transactions
  order = record {
    split = omega (arith, length-map r.commits.items head_as);
    pending = tt;
    latest = (let upto = latest-upto (last h) r.chains ordered (last-held versions_held rising) in omega (arith, upto, heads_last), tt);
    group_within = omega arith;
    group_few = omega arith;
    stage_fits = refl;
    stored = tt;
    out = record { each = tt; distinct = tt };
    room = omega (arith, has_room);
    slots_few = few_slots;
  }

  in_step : IsInStep (opened_on mark r archive disk)
  in_step = record { slots = omega arith; used = refl; turns = λ works. record { turning = refl; writing = refl; turn = tt; job = tt } }

  -- ---- the disk

  rests : RestsAs header image.layout disk.areas
  rests = subst (λ (areas : Areas). RestsAs header image.layout areas) (sym settled) (synced_rests header image.layout (image_of old.areas) image.held)

  works : Works header (opened_on mark r archive disk) (opened h floors)
  works = record {
    log = record {
      layout = image.layout;
      reading = image.reading;
      laid = image.laid;
      stands = image.stands;
      built = image.built;
      used = is.used;
      archived = is.archived;
      reclaimed = marked;
      runs_end = ap (row_end 0) (is.runs).runs_are;
    };
    heap = record {
      kept = kept-numbers r.extents (live image.layout) is.extents.kept;
      times = opened-times header image.layout image.reading (unread image.reading) r image.laid is;
      times_long = opened-long r;
      facts = is.writes;
    };
    packed = tt;
    group = record { rested = disk.areas.status; rests = refl; at = rests };
    job = tt;
    sound = subst (λ (areas : Areas). AreSound areas) (sym settled) (settled-sound old.areas sound);
  }

  leaves : (left : Image) → LeavesImage disk.areas left → OnFront (IsImageOf header left) (opened h floors)
  leaves left may =
      let just : left ≡ image_of old.areas = settled-left (image_of old.areas) left (subst (λ (areas : Areas). LeavesImage areas left) settled may) in
      inl (subst (λ (i : Image). IsImageOf header i h floors) (sym just) image)

  on_disk : StandsOnDisk (opened_on mark r archive disk) (opened h floors)
  on_disk = record {
    header = header;
    profile = ap (λ (x : Header). x.profile) same.0;
    slots = ap total same.0;
    pieces = ap (λ (x : Header). x.pieces) same.0;
    profile_built = image.profile_built;
    leaves = leaves;
    works = λ works_on. works;
  }

  -- its log is one of slots
  form : IsSlotLog image.reading
  form = in-slots image.reading (ap is_in_heap image.laid.heap.profile_is ∙ built-slots header.profile image.profile_built) image.stands.opens.reads.form

  -- the floors are of the header's profile
  of_profile : AreOfProfile image.reading.profile floors
  of_profile =
      λ other relation. sym (image.stands.opens.floors_given relation) ∙ alike image.reading.profile other image.reading.log [] (form).log relation
      ∙ image.stands.opens.floors_given 0

  -- ---- the runs

  runs_stand : RunsStand (opened_on mark r archive disk) (opened h floors)
  runs_stand =
      let laid = image.laid in
      let entries = subst (λ (runs : List RunEntry). AreEntriesOf image.layout.slots runs) (sym fresh.runs_are) is.runs in
      let area : archive_of disk ≡ old.areas.archive.bytes = ap (λ (areas : Areas). areas.archive.bytes) settled in
      let lists : map (λ (s : StoredRun). s.records) image.layout.runs ≡ image.reading.runs = laid.runs.runs_are in
      let ruled : AreRunsOf [] (log_of image.layout.slots) (map (λ (s : StoredRun). s.records) image.layout.runs) =
      (let a = sym laid.heap.log_is in let b = sym lists in subst (λ (p : List readings.Slot × List (List ArchiveRecord)). AreRunsOf [] p.0 p.1) (λ i. (
        a i,
        b i,
      )) (form).runs) in
      let archived_is : r.archived ≡ archived_upto image.reading = is.archived in
      record {
        lists = image.reading.runs;
        held = subst (λ (bytes : List ℕ). HoldRuns bytes archive.runs image.reading.runs) (sym area)
            (subst (λ (l : List (List ArchiveRecord)). HoldRuns old.areas.archive.bytes archive.runs l) lists
            (runs-hold old.areas.archive.bytes image.layout.slots image.layout.runs archive.runs ruled laid.runs.entries_are laid.runs.each_run image.held.runs
            entries));
        ends = subst (λ (runs : List RunEntry). RunsEndBy (row_end 0 (runs_named runs)) archive.runs) fresh.runs_are
            (runs-end 0 archive.runs (subst (λ (runs : List Run). AreInRow 0 runs) (sym entries.runs_are) laid.heap.in_row));
        mark = marks-are image.layout.slots 0 archive.runs entries.runs_are ∙ ap (λ (l : List readings.Slot). archive_mark l) laid.heap.log_is
            ∙ sym is.archived;
        marks = (let marks = image.stands.homes.marks in let reclaimed = is.reclaimed in omega arith);
        by_last = (let range = archived-range image.reading h floors image.stands in omega arith);
        archived = subst (λ (a : ℕ). AreArchived h floors a image.reading.runs) (sym archived_is) image.stands.homes.in_archive;
        right = record {
          each = λ from bytes there. absurd (Contains-nil (
            from,
            bytes,
          ) (subst (λ (parts : List (ℕ × List ℕ)). Contains parts (from, bytes)) fresh.kept there));
        };
        near = record {
          each = λ from bytes there. absurd (Contains-nil (
            from,
            bytes,
          ) (subst (λ (parts : List (ℕ × List ℕ)). Contains parts (from, bytes)) fresh.kept there));
        };
      }

  pub opened-stands : (tells : Bool) → StandsStill tells (opened_on mark r archive disk) (opened h floors)
  opened-stands tells = record {
    memory = memory;
    machine = opened-machine IsValue h floors image.stands.opens.history (floor-range image.reading h floors image.stands);
    order = order;
    in_step = in_step;
    gate = λ works. refl;
    raises = record {
      is = refl;
      scope = tt;
      of_profile = subst (λ (n : ℕ). AreOfProfile n floors) (image.laid.heap.profile_is ∙ sym (ap (λ (x : Header). x.profile) same.0)) of_profile;
    };
    marks = (
      let order = image.stands.homes.marks in omega (arith, marked, is.archived, order),
      (let upto = archived-range image.reading h floors image.stands in omega (arith, is.archived, upto)),
    );
    job = tt;
    disk = λ tells_so. on_disk;
    place = tt;
    runs = λ tells_so. runs_stand;
  }

pub open-stands : (tells : Bool) (old : DiskState) (mark : ℕ) (v : StoreValue) (header : Header) (h : History Value) (floors : ℕ → ℕ)
    → Opens tells old mark v → IsTrue tells → AreSound old.areas → IsImageOf header (image_of old.areas) h floors → Stands tells v (opened h floors)
open-stands tells old mark v header h floors opens told sound image =
    let ordered : IsOrdered opens.recovered.chains = subst (λ (w : StoreValue). IsOrdered w.transactions.versions) opens.new_is opens.ordered in
    as-still tells v (opened h floors) (subst (λ (w : StoreValue). StandsStill tells w (opened h floors)) (sym opens.new_is)
    (opened-stands old mark v.disk opens.recovered v.archive header h floors (opens.read told) opens.unread image (opens.settled told) ordered sound tells))

-- ---- the header

-- a store that is opened on such an image has its header
pub open-header : (tells : Bool) (old : DiskState) (mark : ℕ) (v : StoreValue) (header : Header) (h : History Value) (floors : ℕ → ℕ) → Opens tells old mark v
    → IsTrue tells → IsImageOf header (image_of old.areas) h floors → IsOfHeader v header
open-header tells old mark v header h floors opens told image =
    let read = opens.read told in
    let opening =
    stands_opening header (image_of old.areas) image.layout image.reading h floors image.laid image.held image.stands image.profile_built image.built in
    let same : opens.recovered.header ≡ header =
    (opens_once opens.recovered.header header (image_of old.areas) read.layout (unread_layout image.layout) read.reading (unread image.reading)
    read.opening.opens opening.opens).0 in
    record {
      profile = ap (λ (w : StoreValue). w.log.profile) opens.new_is ∙ ap (λ (x : Header). x.profile) same;
      slots = ap (λ (w : StoreValue). w.log.slots) opens.new_is ∙ ap total same;
      pieces = ap (λ (w : StoreValue). w.log.pieces) opens.new_is ∙ ap (λ (x : Header). x.pieces) same;
    }

pub image-header : ImageHasHeader
image-header tells header image h floors told is = record {
  reads = record { stands = is.held.log.header_is; built = is.profile_built };
  recovered =
      λ disk mark again same opens. open-header tells disk mark again header h floors opens told
      (subst (λ (i : Image). IsImageOf header i h floors) (sym same) is);
}
