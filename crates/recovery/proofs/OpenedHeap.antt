-- From the chains that were read of a heap to what its image opens as.
use Rattle.std.proofs.Common.{◌≡◌, ◌≢◌, ℕ, zero, suc, nat_lt, List, [], ◌∷◌, ◌++◌, map, length, replicate, Some, refl, sym, ap, subst, ◌∙◌, arith}
use Rattle.std.specs.Prelude.{filter, slice_get}
use Rattle.std.specs.List.{AllByRecursion}
use Rattle.history.proofs.Filters.{AllByRecursion-append, AllByRecursion-filter}
use Rattle.disk.specs.Areas.{Image}
use Rattle.wire.specs.Spelling.{InRange, IsMember, IsRun, Rises}
use Rattle.wire.specs.declared.slot.Member.{Member}
use Rattle.wire.specs.declared.slot.Body.{Body}
use Rattle.wire.specs.declared.slot.Body.TheVariants.{Commit, Archived, Reclaimed, Floor}
use Rattle.wire.specs.declared.slot.Slot.{Slot}
use Rattle.law_image.specs.Reading as readings
use Rattle.law_image.specs.Log.{heads_of, last_time_after, archive_mark}
use Rattle.chains.specs.KeyWrites.{KeyWrites, writes_of as chain_writes_of}
use Rattle.extents.specs.declared.usage.Usage.{Usage}
use Rattle.extents.specs.declared.usage.Usage.TheVariants.{Free}
use Rattle.extents.specs.Usages.{IsKept, IsNoneOf}
use Rattle.status.specs.declared.header.Header.{Header}
use Rattle.status.specs.Kept.{kept_of}
use Rattle.status.specs.Rules.{head_of, log_of, runs_in, runs_of}
use Rattle.law_layout.specs.Extents.{Extent, HoldsExtent}
use Rattle.law_layout.specs.Layouts.{StoredMember, IsStoredMember, Layout, extents_of, entries_of, later_than, no_anchors, anchors_after}
use Rattle.law_layout.specs.Opening.{EndsWithin, mark_of}
use Rattle.law_layout.proofs.Rules.{rules_say}
use Rattle.law_layout.proofs.Live.{parts_of_live}
use Rattle.disk.specs.declared.area.Area.TheVariants.{Status, Heap, Archive}
use Rattle.recovery.specs.declared.fault.OpenFault.{OpenFault}
use Rattle.recovery.specs.declared.fault.OpenFault.TheVariants.{NotAStore, Damaged, Device, NoMemory}
use Rattle.recovery.specs.declared.recovered.HeapRead.{HeapRead}
use Rattle.recovery.specs.declared.recovered.Recovered.{Recovered}
use Rattle.recovery.specs.RunEntries.{AreEntriesOf}
use Rattle.recovery.specs.Faults.{ReadsStatus, IsRunsFault, IsImageFault}
use Rattle.recovery.specs.ReadsImage.{IsOpening, KeepsOnly, IsReadFrom}
use Rattle.recovery.specs.Walk.{claimed}
use Rattle.recovery.specs.Chains.{live_named}
use Rattle.recovery.specs.HeapReads.{values_of, numbers_in, HoldsMembers, HoldsEntries, IsMembersFault}
use Rattle.recovery.proofs.Heads.{entry_heads, later_heads}
use Rattle.recovery.proofs.Claims.{IsNumbered, free_all, kept_all, still_free}
use Rattle.recovery.proofs.HeldMembers.{numbered_all, numbered_anchors}

-- ---- the ranges of what the slots name

members_in_range : (time : ℕ) (ms : List Member) → Rises time ms → AllByRecursion IsMember ms
members_in_range time [] rises = tt
members_in_range time (m ∷ ms) rises = (rises.0, members_in_range m.time ms rises.2)

range_in : (profile : ℕ) (body : Body) (slots : List Slot) → InRange profile body → AllByRecursion IsMember (entries_of slots) → (s : Slot) → s.body ≡ body
    → AllByRecursion IsMember (entries_of (s ∷ slots))
range_in profile (Commit members) slots range rest s is =
    rw is (AllByRecursion-append IsMember members.items (entries_of slots) (members_in_range 0 members.items range.rises) rest)
range_in profile (Archived run) slots range rest s is = rw is rest
range_in profile (Reclaimed anchors) slots range rest s is = rw is rest
range_in profile (Floor relation floor) slots range rest s is = rw is rest

pub entries_in_range : (profile : ℕ) (slots : List Slot) → ((n : ℕ) (slot : Slot) → slice_get slots n ≡ Some slot → InRange profile slot.body)
    → AllByRecursion IsMember (entries_of slots)
entries_in_range profile [] ranges = tt
entries_in_range profile (s ∷ slots) ranges =
    range_in profile s.body slots (ranges zero s refl) (entries_in_range profile slots (λ n slot is. ranges (suc n) slot is)) s refl

runs_range_in : (profile : ℕ) (body : Body) → InRange profile body → AllByRecursion IsRun (runs_in body)
runs_range_in profile (Commit members) range = tt
runs_range_in profile (Archived run) range = (range, tt)
runs_range_in profile (Reclaimed anchors) range = tt
runs_range_in profile (Floor relation floor) range = tt

pub runs_in_range : (profile : ℕ) (slots : List Slot) → ((n : ℕ) (slot : Slot) → slice_get slots n ≡ Some slot → InRange profile slot.body)
    → AllByRecursion IsRun (runs_of slots)
runs_in_range profile [] ranges = tt
runs_in_range profile (s ∷ slots) ranges =
    AllByRecursion-append IsRun (runs_in s.body) (runs_of slots) (runs_range_in profile s.body (ranges zero s refl))
    (runs_in_range profile slots (λ n slot is. ranges (suc n) slot is))

pub later_in_range : (mark : ℕ) (entries : List Member) → AllByRecursion IsMember entries → AllByRecursion IsMember (later_than mark entries)
later_in_range mark entries each = AllByRecursion-filter IsMember (λ (entry : Member). nat_lt mark entry.time) entries each

-- ---- what is read

heads_stored : (members : List StoredMember) → AllByRecursion IsStoredMember members
    → map (λ (m : readings.Member). m.head) (map (λ (s : StoredMember). s.member) members) ≡ map head_of (map (λ (s : StoredMember). s.entry) members)
heads_stored [] each = refl
heads_stored (m ∷ members) each =
    let first = (each.0).head_is in
    let rest = heads_stored members each.1 in
    λ i. first i ∷ rest i

kept_numbers : (usages : List Usage) (es : List Extent) → AllByRecursion (λ e. IsKept usages e.number) es → AllByRecursion (IsKept usages) (numbers_in es)
kept_numbers usages [] kept = tt
kept_numbers usages (e ∷ es) kept = (kept.0, kept_numbers usages es kept.1)

none_of : (number : ℕ) (es : List Extent) → IsNoneOf number (numbers_in es) → AllByRecursion (λ e. number ≢ e.number) es
none_of number [] none = tt
none_of number (e ∷ es) none = ((λ same. none.0 (sym same)), none_of number es none.1)

keeps_only : (usages : List Usage) (es : List Extent) → AllByRecursion IsNumbered es → usages ≡ claimed (replicate 65536 Free) (numbers_in es)
    → KeepsOnly usages (numbers_in es)
keeps_only usages es numbered are =
    subst (λ (us : List Usage). KeepsOnly us (numbers_in es)) (sym are)
    (record {
      kept = kept_numbers (claimed (replicate 65536 Free) (numbers_in es)) es (kept_all (replicate 65536 Free) es numbered);
      free = λ number low high none. still_free (replicate 65536 Free) es number numbered (none_of number es none) (free_all number low high);
    })

length-log : (slots : List Slot) → length (log_of slots) ≡ length slots
length-log [] = refl
length-log (s ∷ slots) = ap suc (length-log slots)

layout_of : List Slot → List Extent → List StoredMember → Layout
layout_of slots chain members = record { slots = slots; anchors = chain; members = members; runs = [] }

reading_of : Header → List Slot → List readings.OldRecord → List StoredMember → readings.Reading
reading_of header slots olds members = record {
  profile = header.profile;
  slots = header.slots;
  pieces = header.pieces;
  log = log_of slots;
  members = map (λ (s : StoredMember). s.member) members;
  anchors = olds;
  runs = [];
}

-- what was read besides the header
pub record IsGathered (slots : List Slot) (read : HeapRead) (r : Recovered) : Type 0 where
  pub used : r.used ≡ length slots
  pub commits : map head_of r.commits.items ≡ map head_of (entries_of slots)
  pub floors : r.floors ≡ kept_of (log_of slots)
  pub archived : r.archived ≡ archive_mark (log_of slots)
  pub reclaimed : r.reclaimed ≡ mark_of slots
  pub runs : AreEntriesOf slots r.runs.items
  pub extents : r.extents ≡ read.extents
  pub live : r.live.items ≡ read.live.items
  pub chains : r.chains ≡ read.chains
  pub last_is : r.last ≡ last_time_after 0 (map head_of (entries_of slots))

-- the chains that the slots name are read
abbrev pub HoldsSlots : List ℕ → List Slot → HeapRead → Type 0
HoldsSlots heap slots read = HoldsEntries heap (mark_of slots) (anchors_after no_anchors slots) (later_than (mark_of slots) (entries_of slots)) read

abbrev pub IsSlotsFault : List ℕ → List Slot → OpenFault → Type 0
IsSlotsFault heap slots fault = IsMembersFault heap (mark_of slots) (anchors_after no_anchors slots) (later_than (mark_of slots) (entries_of slots)) fault

module _ (image : Image) (header : Header) (slots : List Slot) (reads : ReadsStatus image.status header slots) where
  pub members_fail : (fault : OpenFault) → IsSlotsFault image.heap slots fault → IsImageFault image fault
  members_fail NotAStore fails = absurd fails
  members_fail (Damaged Status place) fails = absurd fails
  members_fail (Damaged Heap place) fails = record { header = header; slots = slots; reads = reads; fails = fails }
  members_fail (Damaged Archive place) fails = absurd fails
  members_fail Device fails = tt
  members_fail NoMemory fails = tt

  -- all chains are right, and a run ends past the archive
  pub runs_fail : (read : HeapRead) (fault : OpenFault) → HoldsSlots image.heap slots read → IsRunsFault (length image.archive) (runs_of slots) fault
      → IsImageFault image fault
  runs_fail read NotAStore holds fails = absurd fails
  runs_fail read (Damaged Status place) holds fails = absurd fails
  runs_fail read (Damaged Heap place) holds fails = absurd fails
  runs_fail read (Damaged Archive place) holds fails = record {
    header = header;
    slots = slots;
    reads = reads;
    holds = record { anchors = holds.anchored; members = holds.members; entries_are = holds.entries_are; are = holds.holds.are };
    fails = fails;
  }
  runs_fail read Device holds fails = tt
  runs_fail read NoMemory holds fails = absurd fails

  -- the image opens so, and is read
  pub image_read : (read : HeapRead) (r : Recovered) → r.header ≡ header → HoldsSlots image.heap slots read
      → AllByRecursion (EndsWithin (length image.archive)) (runs_of slots) → IsGathered slots read r → IsReadFrom image r
  unfolding layout_of reading_of
  image_read read r header_is holds within gathered =
      let members : List StoredMember = holds.members in
      let anchored = holds.anchored in
      let are = anchored.are in
      let chain : List Extent = anchored.chain in
      let olds : List readings.OldRecord = anchored.olds in
      let held : HoldsMembers image.heap (mark_of slots) chain olds members read = holds.holds in
      let parts = parts_of_live image.heap chain (values_of olds) members are.apart held.are in
      let rules = rules_say header.profile slots reads.log.rules in
      let heads : heads_of (log_of slots) ≡ map head_of (entries_of slots) = sym (entry_heads slots) in
      let fits = reads.log.opens.fits in
      let long = length-log slots in
      record {
        layout = layout_of slots chain members;
        reading = reading_of header slots olds members;
        opening = subst (λ (h : Header). IsOpening h image (layout_of slots chain members) (reading_of header slots olds members)) (sym header_is) (record {
          built = reads.header_reads.built;
          opens = record {
            log = record { header_is = reads.header_reads.stands; opens = reads.log.opens; ended = reads.log.ended; rules = reads.log.rules };
            lays_out = record {
              profile_is = refl;
              slots_are = refl;
              pieces_are = refl;
              log_is = refl;
              members_are = refl;
              entries_are = holds.entries_are;
              each_member = parts.stored;
              anchors_are = are.is_chain;
              apart = parts.apart;
              in_row = rules.1;
            };
            reads = record {
              header = reads.header_reads.stands.front.numbers;
              log = rules.0;
              fits = omega arith;
              members =
                  heads_stored members parts.stored
                  ∙ ap (λ (l : List Member). map head_of l) holds.entries_are
                  ∙ later_heads (mark_of slots) (entries_of slots)
                  ∙ ap (λ (l : List readings.Head). filter (λ head. nat_lt (mark_of slots) head.time) l) (sym heads);
              each_member = parts.rules;
              stored = parts.spellings;
              anchors = are.rising;
              anchor_times = are.times;
            };
            extents = AllByRecursion-append (HoldsExtent image.heap) chain (extents_of members) are.held parts.held;
            runs_end = within;
            no_runs = refl;
            no_run_records = refl;
          };
        });
        is = record {
          used = gathered.used;
          commits = gathered.commits ∙ sym heads;
          floors = gathered.floors;
          archived = gathered.archived;
          reclaimed = gathered.reclaimed;
          runs = gathered.runs;
          extents =
              keeps_only r.extents (chain ++ extents_of members)
              (numbered_all image.heap chain (values_of olds) members (numbered_anchors image.heap (mark_of slots) (anchors_after no_anchors slots) anchored)
              held.are) (gathered.extents ∙ held.extents);
          live_are = ap (λ l. map live_named l) gathered.live ∙ held.live;
          writes = λ key. ap (λ (m : List KeyWrites). chain_writes_of m key) gathered.chains ∙ held.writes key;
          last_is = gathered.last_is ∙ ap (λ (l : List readings.Head). last_time_after 0 l) (sym heads);
        };
      }
