-- A store that opening answers.
use Rattle.std.proofs.Common.{◌≡◌, ◌≢◌, ℕ, suc, ◌+◌, ◌≤◌, ◌<◌, ◌^◌, Bool, true, false, IsTrue, List, [], ◌∷◌, ◌++◌, length, map, replicate, cond, Option, None}
use Rattle.std.proofs.Common.{Some, Ok, refl, sym, ap, subst, ◌∙◌, arith}
use Rattle.std.specs.Prelude.{nat_lt, option_map, option_to_list}
use Rattle.std.specs.List.{AllByRecursion, cons_option}
use Rattle.std.specs.List.Sorted.{IsStrictlySortedBy}
use Rattle.std.specs.declared.alloc.Global.{Global}
use Rattle.std.specs.declared.vec.Vec.{Vec}
use Rattle.std.proofs.lemmas.List.{append-nil, append_assoc, length-map, length-append}
use denote.RawPtr.{null_ptr}
use Rattle.disk.specs.Areas.{AreaState, Areas, Image, AreSound, IsSound, LeavesNoMore, area_of, image_of, synced, with_area}
use Rattle.disk.specs.Calls.{DiskState, top}
use Rattle.disk.specs.declared.area.Area.{Area}
use Rattle.disk.specs.declared.area.Area.TheVariants.{Status, Heap, Archive}
use Rattle.history.specs.declared.key.Key.{Key}
use Rattle.history.specs.declared.key.KeyWrite.{KeyWrite}
use Rattle.history.specs.declared.time.TimedWrite.{TimedWrite}
use Rattle.history.specs.Key.{key_cmp, write_in}
use Rattle.history.specs.Histories as histories
use Rattle.history.specs.Histories.{Commit, History, commits_after}
use Rattle.history.specs.Queries.{values_after}
use Rattle.history.proofs.Filters.{AllByRecursion-filter}
use Rattle.law_image.specs.Values.{Value}
use Rattle.law_image.specs.Reading as readings
use Rattle.law_image.specs.Reading.{Head, OldRecord, Reading}
use Rattle.law_image.specs.Log.{AreRisingAfter, heads_of, last_time, archive_mark, reclaim_mark}
use Rattle.law_image.specs.Facts.{old_writes, heap_commits, values_at_mark, commits_from, commit_read, write_of}
use Rattle.law_image.specs.StandsFor.{head_of, IsChain as IsMember}
use Rattle.law_image.proofs.Standing.{heads-rising, rises}
use Rattle.deltas.specs.declared.«record».Record.{Record}
use Rattle.deltas.specs.Records.{old_record, old_record_of}
use Rattle.chains.specs.KeyWrites.{KeyWrites, writes_of, with_write, with_commit, IsOrdered}
use Rattle.chains.specs.Writes.{written}
use Rattle.chains.proofs.Order.{ordered-with_write}
use Rattle.chains.proofs.Commits.{writes_of-with_commit}
use Rattle.extents.specs.declared.usage.Usage.{Usage}
use Rattle.extents.specs.declared.usage.Usage.TheVariants.{Free}
use Rattle.extents.specs.Usages.{IsKept, IsNoneOf}
use Rattle.wire.specs.Spelling as wire
use Rattle.wire.specs.declared.slot.Member.{Member as Entry}
use Rattle.wire.specs.declared.slot.Body.{Body}
use Rattle.wire.specs.declared.slot.Body.TheVariants as bodies
use Rattle.wire.specs.declared.slot.Slot.{Slot}
use Rattle.status.specs.declared.header.Header.{Header}
use Rattle.status.specs.Kept.{kept_of}
use Rattle.status.specs.Rules as rules
use Rattle.status.specs.Rules.{runs_in, runs_of, row_end}
use Rattle.wire.specs.declared.slot.Run.{Run}
use Rattle.law_layout.specs.Extents.{Extent}
use Rattle.law_layout.specs.Layouts.{StoredMember, IsStoredMember, live, entries_of}
use Rattle.law_layout.specs.Opening.{unread, unread_layout}
use Rattle.law_layout.proofs.Layouts.{live_extents_are}
use Rattle.recovery.specs.declared.recovered.Recovered.{Recovered}
use Rattle.recovery.specs.declared.recovered.LiveChain.{LiveChain}
use Rattle.recovery.specs.Walk.{claimed}
use Rattle.recovery.specs.Chains.{live_named}
use Rattle.recovery.specs.HeapReads.{numbers_in, live_of}
use Rattle.recovery.specs.Anchored.{anchor_writes}
use Rattle.recovery.specs.ReadsImage.{IsOpening, KeepsOnly, IsReadAs, IsReadFrom}
use Rattle.recovery.specs.Settling.{IsSync, Settles, last_moment}
use Rattle.recovery.proofs.Claims.{free_all, kept_all, still_free}
use Rattle.recovery.proofs.AnchorChains.{ordered_anchors, anchored_writes, keys_of}
use Rattle.recovery.proofs.RightChains.{numbered_of}
use Rattle.recovery.proofs.OpenedHeap.{entries_in_range, runs_in_range}
use Rattle.recovery.proofs.HistoryRead.{stands_opening}
use Rattle.recovery.proofs.Settling.{settles_three}
use Rattle.store.specs.Values.{ArchiveValue, StoreValue}
use Rattle.archive.specs.declared.run.RunEntry.{RunEntry}
use Rattle.recovery.specs.RunEntries.{runs_named, AreEntriesOf, AreMarkedFrom}
use Rattle.recovery.proofs.RunEntries.{entries_made, go_on}
use Rattle.store.specs.Opens.{IsUnread, Opens, opened_on}
use Rattle.law_refinement.specs.OnDisk.{IsImageOf}

-- a list as a Vec
vec_of : {X : Type 0} → Global → (xs : List X) → length xs < 2 ^ 63 → Vec X Global
vec_of alloc xs few = record { ptr = null_ptr; len = length xs; cap = length xs; alloc = alloc; items = xs; ok = (refl, omega arith); small = few }

-- ---- the versions of a history

abbrev chains_from : List KeyWrites → History Value → List KeyWrites
chains_from m [] = m
chains_from m (c ∷ cs) = chains_from (with_commit m c.time c.writes) cs

abbrev AreSorted : History Value → Type 0
AreSorted h = AllByRecursion (λ (c : Commit Value). IsStrictlySortedBy key_cmp (map (λ (w : KeyWrite Value). w.key) c.writes)) h

ordered-commit : (time : ℕ) (ws : List (KeyWrite Value)) (m : List KeyWrites) → IsOrdered m → IsOrdered (with_commit m time ws)
ordered-commit time [] m o = o
ordered-commit time (w ∷ ws) m o =
    ordered-commit time ws (with_write m w.key (record { time = time; write = w.write }))
    (ordered-with_write w.key (record { time = time; write = w.write }) m o)

chains_ordered : (m : List KeyWrites) (h : History Value) → IsOrdered m → IsOrdered (chains_from m h)
chains_ordered m [] o = o
chains_ordered m (c ∷ cs) o = chains_ordered (with_commit m c.time c.writes) cs (ordered-commit c.time c.writes m o)

writes-cons : (c : Commit Value) (cs : History Value) (key : Key) → histories.writes_of (c ∷ cs) key ≡ written c.time c.writes key ++ histories.writes_of cs key
writes-cons c cs key =
    let timed : Option Value → TimedWrite Value = λ write. record { time = c.time; write = write } in
    elim (write_in c.writes key) as (λ (o : Option (Option Value)). cons_option (option_map timed o) (histories.writes_of cs key)
    ≡ option_to_list (option_map timed o) ++ histories.writes_of cs key) [
      | None ↦ refl
      | Some w ↦ refl
    ]

chains_writes : (m : List KeyWrites) (h : History Value) (key : Key) → IsOrdered m → AreSorted h → writes_of (chains_from m h) key ≡ writes_of m key
    ++ histories.writes_of h key
chains_writes m [] key o sorted = sym (append-nil (writes_of m key))
chains_writes m (c ∷ cs) key o sorted =
    chains_writes (with_commit m c.time c.writes) cs key (ordered-commit c.time c.writes m o) sorted.1
    ∙ ap (λ (l : List (TimedWrite Value)). l ++ histories.writes_of cs key) (writes_of-with_commit c.time m c.writes key o sorted.0)
    ∙ append_assoc (writes_of m key) (written c.time c.writes key) (histories.writes_of cs key)
    ∙ ap (λ (l : List (TimedWrite Value)). writes_of m key ++ l) (sym (writes-cons c cs key))

keys_read : (before : Key → Option Value) (rs : List readings.HeapRecord) → map (λ (w : KeyWrite Value). w.key) (map (write_of before) rs)
    ≡ map (λ (r : readings.HeapRecord). r.key) rs
keys_read before [] = refl
keys_read before (r ∷ rs) = ap (λ (l : List Key). r.key ∷ l) (keys_read before rs)

commits_sorted : (before : Key → Option Value) (ms : List readings.Member) → AllByRecursion IsMember ms → AreSorted (commits_from before ms)
commits_sorted before [] each = tt
commits_sorted before (m ∷ ms) each = (
  subst (IsStrictlySortedBy key_cmp) (sym (keys_read before m.records)) (each.0).rising,
  commits_sorted (values_after before (commit_read before m)) ms each.1,
)

-- a history has as many commits later than a time, or fewer
fewer_after : (mark : ℕ) (h : History Value) → length (commits_after mark h) ≤ length h
fewer_after mark [] = omega arith
fewer_after mark (c ∷ cs) =
    let rest = fewer_after mark cs in
    elim (nat_lt mark c.time) as (λ (b : Bool). length (cond b (c ∷ commits_after mark cs) (commits_after mark cs)) ≤ suc (length cs)) [
      | true ↦ omega arith
      | false ↦ omega arith
    ]

olds_again : (olds : List OldRecord) → map old_record (map old_record_of olds) ≡ olds
olds_again [] = refl
olds_again (o ∷ olds) = ap (λ (l : List OldRecord). o ∷ l) (olds_again olds)

-- ---- the log

entry_as : Head → Entry
entry_as head = record { label = head.label; time = head.time; first = 0; extents = 0; records = 0 }

entries_again : (heads : List Head) → map rules.head_of (map entry_as heads) ≡ heads
unfolding entry_as
entries_again [] = refl
entries_again (h ∷ hs) = ap (λ (l : List Head). h ∷ l) (entries_again hs)

few_heads : (t : ℕ) (heads : List Head) → AreRisingAfter t heads → t < 2 ^ 63 → t + length heads < 2 ^ 63
few_heads t [] rising low = omega arith
few_heads t (h ∷ hs) rising low = let rest = few_heads h.time hs rising.2 rising.1 in let later = rising.0 in omega arith

one_run : (body : Body) → length (runs_in body) ≤ 1
one_run (bodies.Commit members) = omega arith
one_run (bodies.Archived run) = omega arith
one_run (bodies.Reclaimed anchors) = omega arith
one_run (bodies.Floor relation floor) = omega arith

few_runs : (slots : List Slot) → length (runs_of slots) ≤ length slots
few_runs [] = omega arith
few_runs (s ∷ slots) = let one = one_run s.body in let rest = few_runs slots in omega (arith, length-append (runs_in s.body) (runs_of slots))

-- ---- the heap

each_entry : (members : List StoredMember) → AllByRecursion wire.IsMember (map (λ (s : StoredMember). s.entry) members)
    → AllByRecursion (λ (s : StoredMember). wire.IsMember s.entry) members
each_entry [] all = tt
each_entry (s ∷ members) all = (all.0, each_entry members all.1)

abbrev HasFew : StoredMember → Type 0
HasFew s = length (numbers_in s.extents) < 2 ^ 63

few_extents : (members : List StoredMember) → AllByRecursion IsStoredMember members → AllByRecursion (λ (s : StoredMember). wire.IsMember s.entry) members
    → AllByRecursion HasFew members
few_extents [] stored ranges = tt
few_extents (s ∷ members) stored ranges = (
  let long = ((stored.0).chain).extents_are in let most = (ranges.0).extents_high in let few =
      (ranges.0).records in omega (arith, length-map s.extents (λ (e : Extent). e.number)),
  few_extents members stored.1 ranges.1,
)

abbrev chains_live : Global → (members : List StoredMember) → AllByRecursion HasFew members → List LiveChain
chains_live alloc [] few = []
chains_live alloc (s ∷ members) few = record { time = s.entry.time; extents = vec_of alloc (numbers_in s.extents) few.0 } ∷ chains_live alloc members few.1

live_again : (alloc : Global) (members : List StoredMember) (few : AllByRecursion HasFew members) → map live_named (chains_live alloc members few)
    ≡ map live_of members
unfolding vec_of
live_again alloc [] few = refl
live_again alloc (s ∷ members) few = ap (λ (l : List (ℕ × List ℕ)). (s.entry.time, numbers_in s.extents) ∷ l) (live_again alloc members few.1)

live_many : (alloc : Global) (members : List StoredMember) (few : AllByRecursion HasFew members) → length (chains_live alloc members few) ≡ length members
live_many alloc [] few = refl
live_many alloc (s ∷ members) few = ap suc (live_many alloc members few.1)

kept_each : (usages : List Usage) (es : List Extent) → AllByRecursion (λ (e : Extent). IsKept usages e.number) es
    → AllByRecursion (IsKept usages) (numbers_in es)
kept_each usages [] kept = tt
kept_each usages (e ∷ es) kept = (kept.0, kept_each usages es kept.1)

none_of : (number : ℕ) (es : List Extent) → IsNoneOf number (numbers_in es) → AllByRecursion (λ (e : Extent). number ≢ e.number) es
none_of number [] none = tt
none_of number (e ∷ es) none = ((λ same. none.0 (sym same)), none_of number es none.1)

-- ---- what is read of an image that stands for a history

module _ (alloc : Global) (header : Header) (image : Image) (h : History Value) (floors : ℕ → ℕ) (is : IsImageOf header image h floors) where
  -- the anchors, as the records that they are stored as
  anchors : List Record
  anchors = map old_record_of is.reading.anchors

  anchors_rise : IsStrictlySortedBy key_cmp (map (λ (r : Record). r.key) anchors)
  unfolding anchors
  anchors_rise = subst (IsStrictlySortedBy key_cmp) (sym (keys_of is.reading.anchors)) is.stands.opens.reads.anchors

  anchors_ordered : IsOrdered (map anchor_writes anchors)
  anchors_ordered = ordered_anchors anchors anchors_rise

  anchors_writes : (key : Key) → writes_of (map anchor_writes anchors) key ≡ old_writes is.reading.anchors key
  unfolding anchors
  anchors_writes key = anchored_writes anchors key anchors_rise ∙ ap (λ (olds : List OldRecord). old_writes olds key) (olds_again is.reading.anchors)

  rising : AreRisingAfter 0 (heads_of is.reading.log)
  rising = subst (AreRisingAfter 0) (sym is.stands.opens.commits) (heads-rising 0 h (rises is.reading h floors is.stands))

  commits_few : length (map entry_as (heads_of is.reading.log)) < 2 ^ 63
  commits_few = let few = few_heads 0 (heads_of is.reading.log) rising (omega arith) in omega (arith, length-map (heads_of is.reading.log) entry_as)

  runs_ranged : AllByRecursion wire.IsRun (runs_of is.layout.slots)
  runs_ranged = runs_in_range header.profile is.layout.slots (λ n slot at. (is.held.log.opens.each_spelled n slot at).in_range)

  opening : IsOpening header image (unread_layout is.layout) (unread is.reading)
  opening = stands_opening header image is.layout is.reading h floors is.laid is.held is.stands is.profile_built is.built

  -- its runs, each with what stood before its slot
  entries : (runs : List RunEntry) × AreEntriesOf is.layout.slots runs
  entries = entries_made is.layout.slots runs_ranged

  runs_few : length entries.0 < 2 ^ 63
  runs_few =
      let few = few_runs is.layout.slots in
      let fits = is.held.log.opens.fits in
      let most = is.held.log.opens.has_room.few in
      let named : length (runs_named entries.0) ≡ length (runs_of is.layout.slots) = ap (λ (l : List Run). length l) (entries.1).runs_are in
      omega (arith, length-map entries.0 (λ (e : RunEntry). e.slot))

  ranges : AllByRecursion (λ (s : StoredMember). wire.IsMember s.entry) is.layout.members
  ranges = each_entry is.layout.members
      (subst (AllByRecursion wire.IsMember) (sym is.laid.heap.entries_are)
      (AllByRecursion-filter wire.IsMember (λ (entry : Entry). nat_lt (reclaim_mark is.reading.log) entry.time) (entries_of is.layout.slots)
      (entries_in_range header.profile is.layout.slots (λ n slot at. (is.held.log.opens.each_spelled n slot at).in_range))))

  few : AllByRecursion HasFew is.layout.members
  few = few_extents is.layout.members is.laid.heap.each_member ranges

  heads_many : length is.layout.members ≡ length is.reading.members
  heads_many = sym (length-map is.layout.members (λ (s : StoredMember). s.member)) ∙ ap (λ (l : List readings.Member). length l) is.laid.heap.members_are

  commits_many : (before : Key → Option Value) (ms : List readings.Member) → length (commits_from before ms) ≡ length ms
  commits_many before [] = refl
  commits_many before (m ∷ ms) = ap suc (commits_many (values_after before (commit_read before m)) ms)

  members_few : length (chains_live alloc is.layout.members few) < 2 ^ 63
  members_few =
      let many = live_many alloc is.layout.members few in
      let made : length (heap_commits is.reading) ≡ length is.reading.members = commits_many (values_at_mark is.reading) is.reading.members in
      let all : length (heap_commits is.reading) ≡ length (commits_after (reclaim_mark is.reading.log) h) =
      ap (λ (l : History Value). length l) is.stands.opens.write_sets in
      let fewer = fewer_after (reclaim_mark is.reading.log) h in
      let heads : length (heads_of is.reading.log) ≡ length h = ap (λ (l : List Head). length l) is.stands.opens.commits ∙ length-map h head_of in
      let low = few_heads 0 (heads_of is.reading.log) rising (omega arith) in
      omega (arith, heads_many)

  recovered : Recovered
  recovered = record {
    header = header;
    used = length is.layout.slots;
    commits = vec_of alloc (map entry_as (heads_of is.reading.log)) commits_few;
    floors = kept_of is.reading.log;
    archived = archive_mark is.reading.log;
    reclaimed = reclaim_mark is.reading.log;
    runs = vec_of alloc entries.0 runs_few;
    runs_end = row_end 0 (runs_named entries.0);
    extents = claimed (replicate 65536 Free) (numbers_in (live is.layout));
    live = vec_of alloc (chains_live alloc is.layout.members few) members_few;
    chains = chains_from (map anchor_writes anchors) (heap_commits is.reading);
    last = last_time is.reading.log;
  }

  extents_kept : KeepsOnly (claimed (replicate 65536 Free) (numbers_in (live is.layout))) (numbers_in (live is.layout))
  extents_kept =
      let numbered = numbered_of (live is.layout) (live_extents_are header is.layout is.reading is.laid) in
      record {
        kept = kept_each (claimed (replicate 65536 Free) (numbers_in (live is.layout))) (live is.layout)
            (kept_all (replicate 65536 Free) (live is.layout) numbered);
        free = λ number low high none. still_free (replicate 65536 Free) (live is.layout) number numbered (none_of number (live is.layout) none)
            (free_all number low high);
      }

  read_as : IsReadAs (unread_layout is.layout) (unread is.reading) recovered
  unfolding recovered vec_of
  read_as = record {
    used = refl;
    commits = entries_again (heads_of is.reading.log);
    floors = refl;
    archived = refl;
    reclaimed = refl;
    runs = entries.1;
    extents = extents_kept;
    live_are = live_again alloc is.layout.members few;
    writes = λ key.
        chains_writes (map anchor_writes anchors) (heap_commits is.reading) key anchors_ordered
        (commits_sorted (values_at_mark is.reading) is.reading.members is.stands.opens.reads.chains)
        ∙ ap (λ (l : List (TimedWrite Value)). l ++ histories.writes_of (heap_commits is.reading) key) (anchors_writes key);
    last_is = refl;
  }

  read_from : IsReadFrom image recovered
  unfolding recovered
  read_from = record {
    layout = unread_layout is.layout;
    reading = unread is.reading;
    opening = opening;
    is = read_as;
  }

  -- nothing of its archive is read
  pub nothing_read : ArchiveValue
  nothing_read = record { runs = entries.0; next = []; kept = [] }

  is_unread : IsUnread recovered.runs.items nothing_read
  unfolding recovered vec_of nothing_read
  is_unread = record { runs_are = refl; next = refl; kept = refl }

  marked : AreMarkedFrom 0 recovered.runs.items
  unfolding recovered vec_of
  marked = go_on is.layout.slots 0 entries.0 (entries.1).runs_are (entries.1).marks_are

  read_ordered : IsOrdered recovered.chains
  unfolding recovered
  read_ordered = chains_ordered (map anchor_writes anchors) (heap_commits is.reading) anchors_ordered

-- ---- the disk

synced_sound : (a : AreaState) → IsSound a → IsSound (synced a)
synced_sound a sound = record { firm = omega arith; settled = λ none. refl; are_bytes = sound.are_bytes }

-- a disk on which one area more is synced, and one call more counted
abbrev one_synced : Area → DiskState → DiskState
one_synced area d = record { areas = with_area area (synced (area_of d.areas area)) d.areas; made = d.made + 1; refused = d.refused }

is_synced : (tells : Bool) (area : Area) (d : DiskState) → d.made < top → IsSync tells area d (one_synced area d)
is_synced tells area d low = record {
  answer = Ok tt;
  counts = record { made = omega arith; refused = refl; full = λ full. absurd (omega arith) };
  areas = λ told. record { synced = refl; same = tt };
}

all_synced : DiskState → DiskState
all_synced d = one_synced Archive (one_synced Heap (one_synced Status d))

opens_all : (tells : Bool) (d : DiskState) → AreSound d.areas → d.made + 3 ≤ top → Settles tells d (all_synced d)
unfolding all_synced
opens_all tells d sound low = settles_three tells d (one_synced Status d) (one_synced Heap (one_synced Status d)) (all_synced d)
    (is_synced tells Status d (omega arith))
    (is_synced tells Heap (one_synced Status d) (omega arith))
    (is_synced tells Archive (one_synced Heap (one_synced Status d)) (omega arith))
    (λ told. sound) (λ told. after_status) (λ told. after_heap)
  where
    after_status : AreSound (one_synced Status d).areas
    after_status Status = synced_sound d.areas.status (sound Status)
    after_status Heap = sound Heap
    after_status Archive = sound Archive

    after_heap : AreSound (one_synced Heap (one_synced Status d)).areas
    after_heap Status = synced_sound d.areas.status (sound Status)
    after_heap Heap = synced_sound d.areas.heap (sound Heap)
    after_heap Archive = sound Archive

last_left : (P : DiskState → Type 0) (d : DiskState) (moments : List DiskState) → P d → AllByRecursion P moments → P (last_moment d moments)
last_left P d [] first all = first
last_left P d (m ∷ moments) first all = last_left P m moments all.0 all.1

-- what is left at the last moment
settles_left : (tells : Bool) (old new : DiskState) → Settles tells old new → IsTrue tells → LeavesNoMore old.areas new.areas
settles_left tells old new settles told =
    subst (λ (a : Areas). LeavesNoMore old.areas a) (sym (ap (λ (d : DiskState). d.areas) settles.reads))
    (last_left (λ d. LeavesNoMore old.areas d.areas) old settles.moments (record { each = λ image left. left }) (settles.left told))

-- ---- a store

pub open-answers : (alloc : Global) (tells : Bool) (old : DiskState) (mark : ℕ) (header : Header) (h : History Value) (floors : ℕ → ℕ)
    → AreSound old.areas → old.made + 3 ≤ top → IsImageOf header (image_of old.areas) h floors → (v : StoreValue) × Opens tells old mark v
unfolding all_synced
open-answers alloc tells old mark header h floors sound low is =
    let r : Recovered = recovered alloc header (image_of old.areas) h floors is in
    let settles = opens_all tells old sound low in
    let archive = nothing_read alloc header (image_of old.areas) h floors is in (
      opened_on mark r archive (all_synced old),
      record {
        recovered = r;
        read = λ told. read_from alloc header (image_of old.areas) h floors is;
        new_is = refl;
        marked = marked alloc header (image_of old.areas) h floors is;
        unread = is_unread alloc header (image_of old.areas) h floors is;
        ordered = read_ordered alloc header (image_of old.areas) h floors is;
        settled = λ told. refl;
        left = settles_left tells old (all_synced old) settles;
        moments = settles;
        made = λ few. omega arith;
        refused = refl;
      },
    )
