-- An image has one answer.
use Rattle.std.proofs.Common.{◌≡◌, inl, inr, ℕ, suc, ◌<◌, List, [], ◌∷◌, map, length, take, Some, Result, Ok, Err, refl, sym, ap, subst, ◌∙◌, arith}
use Rattle.std.specs.Prelude.{slice_get, IfErr, ◌⊎◌}
use Rattle.std.specs.List.{AllByRecursion}
use Rattle.std.proofs.lemmas.Bool.{cases_eq, cases_order}
use Rattle.std.proofs.lemmas.Option.{slice_get_within}
use Rattle.disk.specs.Areas.{Image}
use Rattle.disk.specs.declared.area.Area.TheVariants.{Status, Heap, Archive}
use Rattle.wire.proofs.Again.{one_slot}
use Rattle.wire.specs.declared.slot.Slot.{Slot}
use Rattle.law_image.specs.Reading.{Reading}
use Rattle.law_image.specs.Log.{heads_of, last_time, archive_mark, reclaim_mark}
use Rattle.law_image.specs.Facts.{heap_facts}
use Rattle.extents.specs.declared.usage.Usage.{Usage}
use Rattle.extents.specs.declared.usage.Usage.TheVariants.{Free, Kept}
use Rattle.extents.specs.Usages.{IsFree, IsKept, IsNoneOf}
use Rattle.extents.proofs.Frames.{are_apart}
use Rattle.status.specs.declared.header.Header.{Header}
use Rattle.status.specs.declared.fault.LogFault.TheVariants as log
use Rattle.status.specs.Log.{body_at, OpensWith}
use Rattle.status.specs.Rules.{MayFollow, runs_of}
use Rattle.status.specs.Kept.{kept_of}
use Rattle.status.specs.Reading.{ReadsHeader, HoldsLog, IsDamaged}
use Rattle.status.proofs.Opening.{only_log, one_log}
use Rattle.law_layout.specs.Layouts.{Layout, live}
use Rattle.law_layout.specs.Opening.{FailsHeap, FailsRuns}
use Rattle.law_layout.proofs.Once.{one_header}
use Rattle.law_layout.proofs.Unique.{slot_within}
use Rattle.law_layout.proofs.OpensAsOne as one
use Rattle.recovery.specs.declared.recovered.Recovered.{Recovered}
use Rattle.recovery.specs.declared.fault.OpenFault.{OpenFault}
use Rattle.recovery.specs.declared.fault.OpenFault.TheVariants.{NotAStore, Damaged, Device, NoMemory}
use Rattle.recovery.specs.Faults.{ReadsStatus, FailsStatusAt, FailsHeapAt, FailsArchiveAt, IsReadFault, IsImageFault}
use Rattle.recovery.specs.ReadsImage.{IsOpening, KeepsOnly, IsReadFrom}
use Rattle.recovery.specs.HeapReads.{numbers_in, live_of}
use Rattle.recovery.specs.RunEntries.{AreEntriesOf}
use Rattle.recovery.proofs.RunEntries.{one_list}
use Rattle.recovery.specs.Laws.{SaySame}

-- ---- the status area

same_header : (status : List ℕ) (a b : Header) → ReadsHeader status a → ReadsHeader status b → a ≡ b
same_header status a b reads_a reads_b = one_header a b (take 512 status) reads_a.stands.front reads_b.stands.front

not_damaged : (header : Header) (status : List ℕ) (slots : List Slot) (n : ℕ) → HoldsLog header status slots → ¬ IsDamaged header status n
not_damaged header status slots n holds damaged = only_log one_slot header status (Err (log.Damaged n)) slots tt damaged holds

same_log : (header : Header) (status : List ℕ) (a b : List Slot) → HoldsLog header status a → HoldsLog header status b → a ≡ b
same_log header status a b holds_a holds_b = one_log one_slot header status b a holds_b holds_a

agree : (header : Header) (status : List ℕ) (a b : List Slot) → OpensWith header status a → OpensWith header status b → (n : ℕ) (x y : Slot) → slice_get a n
    ≡ Some x → slice_get b n ≡ Some y → x ≡ y
agree header status a b opens_a opens_b n x y is_x is_y =
    let within : n < length a = slice_get_within a n x is_x in
    let fits = opens_a.fits in
    let few = opens_a.has_room.few in
    one_slot header.profile n (body_at status n) x y (omega arith) (opens_a.each_spelled n x is_x) (opens_b.each_spelled n y is_y)

same_front : (a b : List Slot) → length a < length b → ((n : ℕ) (x y : Slot) → slice_get a n ≡ Some x → slice_get b n ≡ Some y → x ≡ y) → take (length a) b ≡ a
same_front [] b long same = refl
same_front (x ∷ a) [] long same = absurd (omega arith)
same_front (x ∷ a) (y ∷ b) long same =
    let first : y ≡ x = sym (same 0 x y refl refl) in
    let others : take (length a) b ≡ a = same_front a b (omega arith) (λ n. same (suc n)) in
    λ i. first i ∷ others i

no_earlier : (header : Header) (status : List ℕ) (m n : ℕ) → IsDamaged header status m → IsDamaged header status n → m < n → ⊥
no_earlier header status m n a b earlier =
    let long_a = a.number in
    let long_b = b.number in
    let slot = slot_within b.before m (omega arith) in
    let front : take (length a.before) b.before ≡ a.before =
    same_front a.before b.before (omega arith) (agree header status a.before b.before a.opens b.opens) in
    let may = b.rules m slot.0 slot.1 in
    a.bad.no_slot slot.0 (b.opens.each_spelled m slot.0 slot.1)
    (subst (λ (before : List Slot). MayFollow header.profile before slot.0) (sym (ap (λ (k : ℕ). take k b.before) long_a) ∙ front) may)

one_damage : (header : Header) (status : List ℕ) (m n : ℕ) → IsDamaged header status m → IsDamaged header status n → m ≡ n
one_damage header status m n a b = elim (cases_order m n) [
  | inl same ↦ same
  | inr (inl earlier) ↦ absurd (no_earlier header status m n a b earlier)
  | inr (inr later) ↦ absurd (no_earlier header status n m b a later)
]

-- ---- two faults

same_status : (status : List ℕ) (h k : Header) (a b : List Slot) → ReadsStatus status h a → ReadsStatus status k b → a ≡ b
same_status status h k a b reads_a reads_b =
    let same = same_header status k h reads_b.header_reads reads_a.header_reads in
    same_log h status a b reads_a.log (subst (λ (x : Header). HoldsLog x status b) same reads_b.log)

status_or_more : {X : Type 0} (status : List ℕ) (n : ℕ) (header : Header) (slots : List Slot) → FailsStatusAt status n → ReadsStatus status header slots → X
status_or_more status n header slots fails reads =
    let same = same_header status fails.header header fails.header_reads reads.header_reads in
    absurd (not_damaged header status slots n reads.log (subst (λ (h : Header). IsDamaged h status n) same fails.damaged))

one_status : (status : List ℕ) (m n : ℕ) → FailsStatusAt status m → FailsStatusAt status n → m ≡ n
one_status status m n a b =
    let same = same_header status b.header a.header b.header_reads a.header_reads in
    one_damage a.header status m n a.damaged (subst (λ (h : Header). IsDamaged h status n) same b.damaged)

one_heap : (image : Image) (m n : ℕ) → FailsHeapAt image m → FailsHeapAt image n → m ≡ n
one_heap image m n a b =
    let same = same_status image.status b.header a.header b.slots a.slots b.reads a.reads in
    one.one_heap_fault image.heap a.slots m n a.fails (subst (λ (l : List Slot). FailsHeap image.heap l n) same b.fails)

one_archive : (image : Image) (m n : ℕ) → FailsArchiveAt image m → FailsArchiveAt image n → m ≡ n
one_archive image m n a b =
    let same = same_status image.status b.header a.header b.slots a.slots b.reads a.reads in
    one.one_run_fault (length image.archive) (runs_of a.slots) m n a.fails
    (subst (λ (l : List Slot). FailsRuns (length image.archive) (runs_of l) n) same b.fails)

heap_or_archive : {X : Type 0} (image : Image) (m n : ℕ) → FailsHeapAt image m → FailsArchiveAt image n → X
heap_or_archive image m n a b =
    let same = same_status image.status a.header b.header a.slots b.slots a.reads b.reads in
    absurd (one.held_no_fault image.heap b.slots m b.holds (subst (λ (l : List Slot). FailsHeap image.heap l m) same a.fails))

pub one_fault : (image : Image) (a b : OpenFault) → IsImageFault image a → IsImageFault image b → IsReadFault a ⊎ (IsReadFault b ⊎ (a ≡ b))
one_fault image Device b fails_a fails_b = inl tt
one_fault image NoMemory b fails_a fails_b = inl tt
one_fault image NotAStore Device fails_a fails_b = inr (inl tt)
one_fault image NotAStore NoMemory fails_a fails_b = inr (inl tt)
one_fault image NotAStore NotAStore fails_a fails_b = inr (inr refl)
one_fault image NotAStore (Damaged Status n) fails_a fails_b = absurd (fails_a fails_b.header fails_b.header_reads)
one_fault image NotAStore (Damaged Heap n) fails_a fails_b = absurd (fails_a fails_b.header fails_b.reads.header_reads)
one_fault image NotAStore (Damaged Archive n) fails_a fails_b = absurd (fails_a fails_b.header fails_b.reads.header_reads)
one_fault image (Damaged area m) Device fails_a fails_b = inr (inl tt)
one_fault image (Damaged area m) NoMemory fails_a fails_b = inr (inl tt)
one_fault image (Damaged Status m) NotAStore fails_a fails_b = absurd (fails_b fails_a.header fails_a.header_reads)
one_fault image (Damaged Heap m) NotAStore fails_a fails_b = absurd (fails_b fails_a.header fails_a.reads.header_reads)
one_fault image (Damaged Archive m) NotAStore fails_a fails_b = absurd (fails_b fails_a.header fails_a.reads.header_reads)
one_fault image (Damaged Status m) (Damaged Status n) fails_a fails_b = inr (inr (ap (Damaged Status) (one_status image.status m n fails_a fails_b)))
one_fault image (Damaged Status m) (Damaged Heap n) fails_a fails_b = status_or_more image.status m fails_b.header fails_b.slots fails_a fails_b.reads
one_fault image (Damaged Status m) (Damaged Archive n) fails_a fails_b = status_or_more image.status m fails_b.header fails_b.slots fails_a fails_b.reads
one_fault image (Damaged Heap m) (Damaged Status n) fails_a fails_b = status_or_more image.status n fails_a.header fails_a.slots fails_b fails_a.reads
one_fault image (Damaged Heap m) (Damaged Heap n) fails_a fails_b = inr (inr (ap (Damaged Heap) (one_heap image m n fails_a fails_b)))
one_fault image (Damaged Heap m) (Damaged Archive n) fails_a fails_b = heap_or_archive image m n fails_a fails_b
one_fault image (Damaged Archive m) (Damaged Status n) fails_a fails_b = status_or_more image.status n fails_a.header fails_a.slots fails_b fails_a.reads
one_fault image (Damaged Archive m) (Damaged Heap n) fails_a fails_b = heap_or_archive image n m fails_b fails_a
one_fault image (Damaged Archive m) (Damaged Archive n) fails_a fails_b = inr (inr (ap (Damaged Archive) (one_archive image m n fails_a fails_b)))

-- ---- an image that opens

opening_reads : (header : Header) (image : Image) (layout : Layout) (reading : Reading) → IsOpening header image layout reading
    → ReadsStatus image.status header layout.slots
opening_reads header image layout reading opening = record {
  header_reads = record { stands = opening.opens.log.header_is; built = opening.built };
  log = record { opens = opening.opens.log.opens; rules = opening.opens.log.rules; ended = opening.opens.log.ended };
}

pub opening_only : (header : Header) (image : Image) (layout : Layout) (reading : Reading) (fault : OpenFault) → IsOpening header image layout reading
    → IsImageFault image fault → IsReadFault fault
opening_only header image layout reading NotAStore opening fails = fails header (opening_reads header image layout reading opening).header_reads
opening_only header image layout reading (Damaged Status n) opening fails =
    status_or_more image.status n header layout.slots fails (opening_reads header image layout reading opening)
opening_only header image layout reading (Damaged Heap n) opening fails =
    let same = same_status image.status fails.header header fails.slots layout.slots fails.reads (opening_reads header image layout reading opening) in
    (one.opens_no_fault header image layout reading n opening.opens).0 (subst (λ (l : List Slot). FailsHeap image.heap l n) same fails.fails)
opening_only header image layout reading (Damaged Archive n) opening fails =
    let same = same_status image.status fails.header header fails.slots layout.slots fails.reads (opening_reads header image layout reading opening) in
    (one.opens_no_fault header image layout reading n opening.opens).1
    (subst (λ (l : List Slot). FailsRuns (length image.archive) (runs_of l) n) same fails.fails)
opening_only header image layout reading Device opening fails = tt
opening_only header image layout reading NoMemory opening fails = tt

-- so the answer to it is Ok, unless the device or memory gave out
pub opening_answer : {T : Type 0} (header : Header) (image : Image) (layout : Layout) (reading : Reading) (result : Result T OpenFault)
    → IsOpening header image layout reading → IfErr result (IsImageFault image) → IfErr result IsReadFault
opening_answer header image layout reading (Ok x) opening fails = tt
opening_answer header image layout reading (Err fault) opening fails = opening_only header image layout reading fault opening fails

-- ---- two openings

-- a number is one of these, or none
one_or_none : (P : ℕ → Type 0) (numbers : List ℕ) (n : ℕ) → AllByRecursion P numbers → P n ⊎ IsNoneOf n numbers
one_or_none P [] n all = inr tt
one_or_none P (m ∷ ms) n all = elim (cases_eq m n) [
  | inl same ↦ inl (subst P same all.0)
  | inr other ↦ elim (one_or_none P ms n all.1) [
    | inl found ↦ inl found
    | inr none ↦ inr (other, none)
  ]
]

not_both : {X : Type 0} (usages : List Usage) (n : ℕ) → IsKept usages n → IsFree usages n → X
not_both usages n kept free = absurd (are_apart usages Kept Free n n (λ same. cc) kept free refl)

kept_too : (us vs : List Usage) (numbers : List ℕ) (n : ℕ) → KeepsOnly us numbers → KeepsOnly vs numbers → IsKept us n → IsKept vs n
kept_too us vs numbers n keeps_u keeps_v kept = elim (one_or_none (IsKept vs) numbers n keeps_v.kept) [
  | inl found ↦ found
  | inr none ↦ not_both us n kept (keeps_u.free n kept.low kept.high none)
]

free_too : (us vs : List Usage) (numbers : List ℕ) (n : ℕ) → KeepsOnly us numbers → KeepsOnly vs numbers → IsFree us n → IsFree vs n
free_too us vs numbers n keeps_u keeps_v free = elim (one_or_none (IsKept us) numbers n keeps_u.kept) [
  | inl found ↦ not_both us n found free
  | inr none ↦ keeps_v.free n free.low free.high none
]

pub same_read : (image : Image) (r s : Recovered) → IsReadFrom image r → IsReadFrom image s → SaySame r s
same_read image r s reads_r reads_s =
    let same =
    one.opens_once r.header s.header image reads_r.layout reads_s.layout reads_r.reading reads_s.reading reads_r.opening.opens reads_s.opening.opens in
    let is_r = reads_r.is in
    let is_s = reads_s.is in
    let layout : reads_s.layout ≡ reads_r.layout = sym same.1 in
    let reading : reads_s.reading ≡ reads_r.reading = sym same.2 in
    let keeps_s : KeepsOnly s.extents (numbers_in (live reads_r.layout)) =
    subst (λ (l : Layout). KeepsOnly s.extents (numbers_in (live l))) layout is_s.extents in
    record {
      headers = same.0;
      lengths = is_r.used ∙ ap (λ (l : Layout). length l.slots) same.1 ∙ sym is_s.used;
      names = is_r.commits ∙ ap (λ (x : Reading). heads_of x.log) same.2 ∙ sym is_s.commits;
      floors = is_r.floors ∙ ap (λ (x : Reading). kept_of x.log) same.2 ∙ sym is_s.floors;
      archives = is_r.archived ∙ ap (λ (x : Reading). archive_mark x.log) same.2 ∙ sym is_s.archived;
      reclaims = is_r.reclaimed ∙ ap (λ (x : Reading). reclaim_mark x.log) same.2 ∙ sym is_s.reclaimed;
      runs_are = one_list reads_r.layout.slots r.runs.items s.runs.items is_r.runs (subst (λ (l : Layout). AreEntriesOf l.slots s.runs.items) layout is_s.runs);
      kept = λ n low high. (kept_too r.extents s.extents _ n is_r.extents keeps_s, kept_too s.extents r.extents _ n keeps_s is_r.extents);
      free = λ n low high. (free_too r.extents s.extents _ n is_r.extents keeps_s, free_too s.extents r.extents _ n keeps_s is_r.extents);
      live_are = is_r.live_are ∙ ap (λ (l : Layout). map live_of l.members) same.1 ∙ sym is_s.live_are;
      writes = λ key. is_r.writes key ∙ ap (λ (x : Reading). heap_facts x key) same.2 ∙ sym (is_s.writes key);
      lasts = is_r.last_is ∙ ap (λ (x : Reading). last_time x.log) same.2 ∙ sym is_s.last_is;
    }
