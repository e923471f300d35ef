-- An image opens as one reading, and where it opens no check fails; of checks that fail one is the first.
use Rattle.std.proofs.Common.{◌≡◌, inl, inr, ℕ, List, [], ◌∷◌, ◌++◌, map, length, Option, refl, sym, ap, subst, ◌∙◌, arith}
use Rattle.std.specs.Prelude.{flat_map}
use Rattle.std.specs.List.{AllByRecursion}
use Rattle.disk.specs.Areas.{Image}
use Rattle.wire.specs.declared.slot.Member.{Member as Entry}
use Rattle.wire.specs.declared.slot.Run.{Run}
use Rattle.wire.specs.declared.slot.Slot.{Slot}
use Rattle.status.specs.declared.header.Header.{Header}
use Rattle.status.specs.Rules.{log_of, runs_of}
use Rattle.history.specs.declared.key.Key.{Key}
use Rattle.law_image.specs.Values.{Value}
use Rattle.law_image.specs.Reading as readings
use Rattle.law_image.specs.Facts.{latest, old_writes}
use Rattle.deltas.specs.declared.«record».Record.{Record}
use Rattle.deltas.specs.Records as deltas
use Rattle.deltas.specs.Records.{spelling, content_of, record_of, old_record_of, heap_content, heap_record, old_record}
use Rattle.deltas.proofs.OneList.{one_list}
use Rattle.law_layout.specs.Records.{record_bytes, old_bytes, IsRecord, IsOldRecord}
use Rattle.law_layout.specs.Extents.{Extent}
use Rattle.law_layout.specs.Layouts.{StoredMember, Layout, entries_of, later_than, anchors_after, no_anchors}
use Rattle.law_layout.specs.Opening.{Opens, EndsWithin, AreLive, FailsAt, AreLiveAnchors, HasAnchors, values_left, mark_of, FailsHeap, HoldsHeap, FailsRuns}
use Rattle.law_layout.proofs.Once.{one_header, one_held_log, one_member, one_live, none_fails, one_anchors, opens_heap}

-- ---- records of one spelling

content_again : (content : readings.Content) → heap_content (content_of content) ≡ content
content_again (readings.Anchor value) = refl
content_again (readings.Delta mask changed) = refl
content_again readings.Gone = refl

records_again : (rs : List readings.HeapRecord) → map heap_record (map record_of rs) ≡ rs
records_again [] = refl
records_again (r ∷ rs) =
    let content = content_again r.content in
    let rest = records_again rs in
    λ i. record { key = r.key; content = content i } ∷ rest i

spelled : (rs : List readings.HeapRecord) → flat_map spelling (map record_of rs) ≡ flat_map record_bytes rs
unfolding record_bytes
spelled [] = refl
spelled (r ∷ rs) = ap (λ l. spelling (record_of r) ++ l) (spelled rs)

each_record : (rs : List readings.HeapRecord) → AllByRecursion IsRecord rs → AllByRecursion deltas.IsRecord (map record_of rs)
each_record [] each = tt
each_record (r ∷ rs) each = (each.0, each_record rs each.1)

pub records_once : (a b : List readings.HeapRecord) → AllByRecursion IsRecord a → AllByRecursion IsRecord b → flat_map record_bytes a ≡ flat_map record_bytes b
    → a ≡ b
records_once a b are_a are_b same =
    sym (records_again a)
    ∙ ap (λ (l : List Record). map heap_record l) (one_list (map record_of a) (map record_of b) (each_record a are_a) (each_record b are_b) (spelled a ∙ same
    ∙ sym (spelled b)))
    ∙ records_again b

olds_again : (rs : List readings.OldRecord) → map old_record (map old_record_of rs) ≡ rs
olds_again [] = refl
olds_again (r ∷ rs) = ap (λ l. r ∷ l) (olds_again rs)

olds_spelled : (rs : List readings.OldRecord) → flat_map spelling (map old_record_of rs) ≡ flat_map old_bytes rs
unfolding old_bytes
olds_spelled [] = refl
olds_spelled (r ∷ rs) = ap (λ l. spelling (old_record_of r) ++ l) (olds_spelled rs)

each_old : (rs : List readings.OldRecord) → AllByRecursion IsOldRecord rs → AllByRecursion deltas.IsRecord (map old_record_of rs)
each_old [] each = tt
each_old (r ∷ rs) each = let from = (each.0).from in (record { key = (each.0).key; content = (omega arith, (each.0).value) }, each_old rs each.1)

pub olds_once : (a b : List readings.OldRecord) → AllByRecursion IsOldRecord a → AllByRecursion IsOldRecord b → flat_map old_bytes a ≡ flat_map old_bytes b → a
    ≡ b
olds_once a b are_a are_b same =
    sym (olds_again a)
    ∙ ap (λ (l : List Record). map old_record l) (one_list (map old_record_of a) (map old_record_of b) (each_old a are_a) (each_old b are_b) (olds_spelled a
    ∙ same ∙ sym (olds_spelled b)))
    ∙ olds_again b

-- ---- one reading

same_layout : (a b : Layout) → a.slots ≡ b.slots → a.anchors ≡ b.anchors → a.members ≡ b.members → a.runs ≡ b.runs → a ≡ b
same_layout a b slots anchors members runs = λ i. record { slots = slots i; anchors = anchors i; members = members i; runs = runs i }

same_reading : (a b : readings.Reading) → a.profile ≡ b.profile → a.slots ≡ b.slots → a.pieces ≡ b.pieces → a.log ≡ b.log → a.members ≡ b.members → a.anchors
    ≡ b.anchors → a.runs ≡ b.runs → a ≡ b
same_reading a b profile slots pieces log members anchors runs =
    λ i. record { profile = profile i; slots = slots i; pieces = pieces i; log = log i; members = members i; anchors = anchors i; runs = runs i }

-- of one header and one log
one_reading : (header : Header) (image : Image) (a b : Layout) (r s : readings.Reading) → a.slots ≡ b.slots → Opens header image a r → Opens header image b s
    → (a ≡ b) × (r ≡ s)
one_reading header image a b r s slots opens_a opens_b =
    let heap_a = opens_heap records_once olds_once header image a r opens_a in
    let heap_b = opens_heap records_once olds_once header image b s opens_b in
    let has_b : HasAnchors image.heap (mark_of a.slots) (anchors_after no_anchors a.slots) = record {
      chain = heap_b.0.chain;
      olds = heap_b.0.olds;
      are = subst (λ (l : List Slot). AreLiveAnchors image.heap (mark_of l) (anchors_after no_anchors l) heap_b.0.chain heap_b.0.olds) (sym slots) heap_b.0.are;
    } in
    let anchors = one_anchors records_once olds_once image.heap (mark_of a.slots) (anchors_after no_anchors a.slots) heap_a.0 has_b in
    let chains : a.anchors ≡ b.anchors = sym heap_a.1 ∙ anchors.0 ∙ heap_b.1 in
    let olds : r.anchors ≡ s.anchors = sym heap_a.2 ∙ anchors.1 ∙ heap_b.2 in
    let entries : map (λ (m : StoredMember). m.entry) a.members ≡ map (λ (m : StoredMember). m.entry) b.members =
    heap_a.3 ∙ ap (λ (l : List Slot). later_than (mark_of l) (entries_of l)) slots ∙ sym heap_b.3 in
    let live : AreLive image.heap a.anchors (λ key. latest (old_writes r.anchors key)) b.members =
    subst (λ (es : List Extent). AreLive image.heap es (λ key. latest (old_writes r.anchors key)) b.members) (sym chains)
    (subst (λ (l : List readings.OldRecord). AreLive image.heap b.anchors (λ key. latest (old_writes l key)) b.members) (sym olds) heap_b.4) in
    let members : a.members ≡ b.members =
    one_live records_once olds_once image.heap a.anchors (λ key. latest (old_writes r.anchors key)) a.members b.members heap_a.4 live entries in
    let la = opens_a.lays_out in
    let lb = opens_b.lays_out in (
      same_layout a b slots chains members (opens_a.no_runs ∙ sym opens_b.no_runs),
      same_reading r s (la.profile_is ∙ sym lb.profile_is) (la.slots_are ∙ sym lb.slots_are) (la.pieces_are ∙ sym lb.pieces_are)
          (sym la.log_is ∙ ap log_of slots ∙ lb.log_is)
          (sym la.members_are ∙ ap (λ (l : List StoredMember). map (λ m. m.member) l) members ∙ lb.members_are)
          olds (opens_a.no_run_records ∙ sym opens_b.no_run_records),
    )

pub opens_once : (header header' : Header) (image : Image) (layout layout' : Layout) (reading reading' : readings.Reading) → Opens header image layout reading
    → Opens header' image layout' reading'
    → (header ≡ header') × (layout ≡ layout') × (reading ≡ reading')
opens_once header header' image layout layout' reading reading' opens opens' =
    let same : header ≡ header' = one_header header header' _ opens.log.header_is.front opens'.log.header_is.front in
    let moved : Opens header image layout' reading' = subst (λ (h : Header). Opens h image layout' reading') (sym same) opens' in
    let slots : layout.slots ≡ layout'.slots = one_held_log header image.status layout.slots layout'.slots opens.log moved.log in
    let rest = one_reading header image layout layout' reading reading' slots opens moved in
    (same, rest.0, rest.1)

-- ---- no check fails

no_run_fails : (len : ℕ) (runs : List Run) (place : ℕ) → AllByRecursion (EndsWithin len) runs → ¬ FailsRuns len runs place
no_run_fails len [] place ends fails = fails
no_run_fails len (run ∷ runs) place ends (inl fails) = let past = fails.1 in let within = ends.0 in absurd (omega arith)
no_run_fails len (run ∷ runs) place ends (inr fails) = no_run_fails len runs place ends.1 fails.1

pub opens_no_fault : (header : Header) (image : Image) (layout : Layout) (reading : readings.Reading) (place : ℕ) → Opens header image layout reading
    → ¬ FailsHeap image.heap layout.slots place × ¬ FailsRuns (length image.archive) (runs_of layout.slots) place
opens_no_fault header image layout reading place opens = (
  no_heap_fails,
  no_run_fails (length image.archive) (runs_of layout.slots) place opens.runs_end,
)
  where
    no_heap_fails : ¬ FailsHeap image.heap layout.slots place
    no_heap_fails (inl fails) = fails.1 (opens_heap records_once olds_once header image layout reading opens).0
    no_heap_fails (inr fails) =
        let heap = opens_heap records_once olds_once header image layout reading opens in
        let same = one_anchors records_once olds_once image.heap (mark_of layout.slots) (anchors_after no_anchors layout.slots) heap.0 fails.0 in
        let chain : fails.0.chain ≡ layout.anchors = sym same.0 ∙ heap.1 in
        let olds : fails.0.olds ≡ reading.anchors = sym same.1 ∙ heap.2 in
        none_fails records_once olds_once image.heap layout.anchors (λ key. latest (old_writes reading.anchors key)) layout.members place heap.4
        (subst (λ (l : List Entry). FailsAt image.heap layout.anchors (λ key. latest (old_writes reading.anchors key)) l place) (sym heap.3)
        (subst (λ (es : List Extent). FailsAt image.heap es (λ key. latest (old_writes reading.anchors key))
        (later_than (mark_of layout.slots) (entries_of layout.slots)) place) chain
        (subst (λ (l : List readings.OldRecord). FailsAt image.heap fails.0.chain (λ key. latest (old_writes l key))
        (later_than (mark_of layout.slots) (entries_of layout.slots)) place) olds fails.1)))

-- ---- one first fault

one_place_at : (heap : List ℕ) (taken : List Extent) (before : Key → Option Value) (entries : List Entry) (p q : ℕ) → FailsAt heap taken before entries p
    → FailsAt heap taken before entries q → p ≡ q
one_place_at heap taken before [] p q a b = absurd a
one_place_at heap taken before (e ∷ entries) p q (inl a) (inl b) = a.0 ∙ sym b.0
one_place_at heap taken before (e ∷ entries) p q (inl a) (inr b) = absurd (a.1 (record { found = b.0; entry_is = b.1; is = b.2 }))
one_place_at heap taken before (e ∷ entries) p q (inr a) (inl b) = absurd (b.1 (record { found = a.0; entry_is = a.1; is = a.2 }))
one_place_at heap taken before (e ∷ entries) p q (inr a) (inr b) =
    let same : a.0 ≡ b.0 = one_member records_once olds_once heap taken before a.0 b.0 a.2 b.2 (a.1 ∙ sym b.1) in
    one_place_at heap (taken ++ b.0.extents) (values_left before b.0) entries p q
    (subst (λ (s : StoredMember). FailsAt heap (taken ++ s.extents) (values_left before s) entries p) same a.3) b.3

pub one_heap_fault : (heap : List ℕ) (slots : List Slot) (p q : ℕ) → FailsHeap heap slots p → FailsHeap heap slots q → p ≡ q
one_heap_fault heap slots p q (inl a) (inl b) = a.0 ∙ sym b.0
one_heap_fault heap slots p q (inl a) (inr b) = absurd (a.1 b.0)
one_heap_fault heap slots p q (inr a) (inl b) = absurd (b.1 a.0)
one_heap_fault heap slots p q (inr a) (inr b) =
    let same = one_anchors records_once olds_once heap (mark_of slots) (anchors_after no_anchors slots) a.0 b.0 in
    let entries : List Entry = later_than (mark_of slots) (entries_of slots) in
    one_place_at heap b.0.chain (λ key. latest (old_writes b.0.olds key)) entries p q
    (subst (λ (es : List Extent). FailsAt heap es (λ key. latest (old_writes b.0.olds key)) entries p) same.0
    (subst (λ (l : List readings.OldRecord). FailsAt heap a.0.chain (λ key. latest (old_writes l key)) entries p) same.1 a.1)) b.1

-- where all chains are right none fails
pub held_no_fault : (heap : List ℕ) (slots : List Slot) (place : ℕ) → HoldsHeap heap slots → ¬ FailsHeap heap slots place
held_no_fault heap slots place holds (inl fails) = fails.1 holds.anchors
held_no_fault heap slots place holds (inr fails) =
    let same = one_anchors records_once olds_once heap (mark_of slots) (anchors_after no_anchors slots) fails.0 holds.anchors in
    let entries : List Entry = later_than (mark_of slots) (entries_of slots) in
    none_fails records_once olds_once heap holds.anchors.chain (λ key. latest (old_writes holds.anchors.olds key)) holds.members place holds.are
    (subst (λ (l : List Entry). FailsAt heap holds.anchors.chain (λ key. latest (old_writes holds.anchors.olds key)) l place) (sym holds.entries_are)
    (subst (λ (es : List Extent). FailsAt heap es (λ key. latest (old_writes holds.anchors.olds key)) entries place) same.0
    (subst (λ (l : List readings.OldRecord). FailsAt heap fails.0.chain (λ key. latest (old_writes l key)) entries place) same.1 fails.1)))

pub one_run_fault : (len : ℕ) (runs : List Run) (p q : ℕ) → FailsRuns len runs p → FailsRuns len runs q → p ≡ q
one_run_fault len [] p q a b = absurd a
one_run_fault len (run ∷ runs) p q (inl a) (inl b) = a.0 ∙ sym b.0
one_run_fault len (run ∷ runs) p q (inl a) (inr b) = let past = a.1 in let within = b.0 in absurd (omega arith)
one_run_fault len (run ∷ runs) p q (inr a) (inl b) = let past = b.1 in let within = a.0 in absurd (omega arith)
one_run_fault len (run ∷ runs) p q (inr a) (inr b) = one_run_fault len runs p q a.1 b.1
