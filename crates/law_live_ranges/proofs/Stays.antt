-- What the log names stays, call after call.
use Rattle.std.proofs.Common.{◌≡◌, ℕ, ◌+◌, ◌<◌, Bool, IsTrue, List, [], ◌∷◌, refl, sym, ap, subst, ◌∙◌, inl, inr, arith}
use Rattle.std.specs.Prelude.{◌⊎◌, slice_index}
use Rattle.std.specs.List.{AllByRecursion}
use Rattle.disk.specs.Areas.{Areas, Image, MayLeave, LeavesImage, IsSound, area_of, image_of, IsUntouched}
use Rattle.disk.specs.Calls.{DiskState}
use Rattle.disk.specs.declared.area.Area.{Area}
use Rattle.disk.specs.declared.area.Area.TheVariants.{Status, Heap, Archive}
use Rattle.extents.specs.declared.usage.Usage.{Usage}
use Rattle.extents.specs.Usages.{IsKept}
use Rattle.law_image.specs.Reading.{Reading}
use Rattle.status.specs.declared.header.Header.{Header}
use Rattle.status.specs.Rules.{row_end}
use Rattle.law_layout.specs.Extents.{Extent}
use Rattle.law_layout.specs.Layouts.{Layout, live}
use Rattle.recovery.specs.HeapReads.{numbers_in}
use Rattle.recovery.specs.ReadsImage.{IsOpening}
use Rattle.store.specs.Values.{StoreValue}
use Rattle.store.specs.Opens.{Opens}
use Rattle.law_live_ranges.specs.Named.{IsNamed, IsLeft, IsGivenUpIn, LeavesNamed, WritesBehind, IsTyped, bytes_in}
use Rattle.law_live_ranges.specs.Laws.{IsCall, Began, Aborted, Submitting, Redeeming, Pumped, Archiving, Reclaiming, RaisingFloor, Growing, JobPumped, Viewed}
use Rattle.law_live_ranges.specs.Laws.{AskedAt, AskedScan, AskedRows, AskedScanRows, AreCalls, end_of, IsGivenUpAmong, StaysNamed, HasNamed}
use Rattle.law_live_ranges.proofs.Places.{same_left, left_twice}
use Rattle.law_live_ranges.proofs.Naming.{LeavesAll, leaves_named, leaves_itself, behind_by}
use Rattle.law_live_ranges.proofs.Calls.{began, aborted, redeemed, submitted, archiving, reclaiming, raising_floor, starting_growth, asked}
use Rattle.law_live_ranges.proofs.Pumping.{pumped}
use Rattle.law_live_ranges.proofs.Jobs.{job_pumped}

-- ---- a store that opened

pub opened_behind : (tells : Bool) (disk : DiskState) (mark : ℕ) (v : StoreValue) → Opens tells disk mark v → WritesBehind v
opened_behind tells disk mark v opens = behind_by v _ _ (ap (λ (s : StoreValue). s.job) opens.new_is) (ap (λ (s : StoreValue). s.runs_end) opens.new_is) tt

each_kept : (us : List Usage) (es : List Extent) → AllByRecursion (IsKept us) (numbers_in es) → AllByRecursion (λ e. IsKept us e.number) es
each_kept us [] kept = tt
each_kept us (e ∷ es) kept = (kept.0, each_kept us es kept.1)

pub opened_names : (tells : Bool) (disk : DiskState) (mark : ℕ) (v : StoreValue) → Opens tells disk mark v → IsTrue tells
    → (header : Header) × (layout : Layout) × (reading : Reading) × IsOpening header (image_of disk.areas) layout reading × HasNamed header layout v
opened_names tells disk mark v opens told =
    let read = opens.read told in
    let usages : v.transactions.usages ≡ opens.recovered.extents = ap (λ (s : StoreValue). s.transactions.usages) opens.new_is in
    let kept = each_kept opens.recovered.extents (live read.layout) (((read.is).extents).kept) in (
      opens.recovered.header,
      read.layout,
      read.reading,
      read.opening,
      record {
        pieces = ap (λ (s : StoreValue). s.log.pieces) opens.new_is;
        slots = ap (λ (s : StoreValue). s.log.used) opens.new_is ∙ (read.is).used;
        extents = subst (λ (us : List Usage). AllByRecursion (λ (e : Extent). IsKept us e.number) (live read.layout)) (sym usages) kept;
        runs = ap (λ (s : StoreValue). s.runs_end) opens.new_is ∙ ap (row_end 0) ((read.is).runs).runs_are;
      },
    )

-- ---- calls

pub call_leaves : (tells : Bool) (old new : StoreValue) → IsTyped tells old → WritesBehind old → IsCall tells old new → LeavesNamed tells old new
    × WritesBehind new
call_leaves tells old new typed behind call = by_call call
  where
    all : LeavesAll tells old new × WritesBehind new → LeavesNamed tells old new × WritesBehind new
    all (leaves, after) = (leaves_named tells old new leaves, after)

    by_call : IsCall tells old new → LeavesNamed tells old new × WritesBehind new
    by_call (Began answer is) = all (began tells old new answer is behind)
    by_call (Aborted txn is) = all (aborted tells old new txn is behind)
    by_call (Submitting txn label now answer is) = all (submitted tells old new txn label now answer is behind)
    by_call (Redeeming ticket answer is) = all (redeemed tells old new ticket answer is behind)
    by_call (Pumped answer is) = all (pumped tells old new answer is typed behind)
    by_call (Archiving upto answer is) = all (archiving tells old new upto answer is behind)
    by_call (Reclaiming answer is) = all (reclaiming tells old new answer is typed behind)
    by_call (RaisingFloor scope time answer is) = all (raising_floor tells old new scope time answer is behind)
    by_call (Growing answer is) = all (starting_growth tells old new answer is behind)
    by_call (JobPumped answer is) = job_pumped tells old new answer is typed behind
    by_call (Viewed same) = all (leaves_itself tells old new same, subst WritesBehind (sym same) behind)
    by_call (AskedAt view key time answer is) = all (asked tells old new view time _ _ _ _ answer is behind)
    by_call (AskedScan view relation time answer is) = all (asked tells old new view time _ _ _ _ answer is behind)
    by_call (AskedRows view key a b answer is) = all (asked tells old new view a _ _ _ _ answer is behind)
    by_call (AskedScanRows view relation a b answer is) = all (asked tells old new view a _ _ _ _ answer is behind)

-- what a call leaves, and those after it
then_stays : (tells : Bool) (v w : StoreValue) (ws : List StoreValue) (area : Area) (k : ℕ)
    → (IsTrue tells → IsLeft k (area_of v.disk.areas area) (area_of w.disk.areas area)) → StaysNamed tells w (end_of w ws) area k ⊎ IsGivenUpAmong w ws area k
    → StaysNamed tells v (end_of w ws) area k ⊎ IsGivenUpAmong v (w ∷ ws) area k
then_stays tells v w ws area k left (inl stays) =
    inl (record {
      left = λ told. left_twice k (area_of v.disk.areas area) (area_of w.disk.areas area) (area_of (end_of w ws).disk.areas area) (left told)
          (stays.left told);
      named = stays.named;
    })
then_stays tells v w ws area k left (inr given) = inr (inr given)

-- so it is of what is named still, and what the first gave up is given up
first_stays : (tells : Bool) (v w : StoreValue) (ws : List StoreValue) (area : Area) (k : ℕ)
    → (IsTrue tells → IsLeft k (area_of v.disk.areas area) (area_of w.disk.areas area))
    → (IsNamed w area k → StaysNamed tells w (end_of w ws) area k ⊎ IsGivenUpAmong w ws area k)
    → IsNamed w area k ⊎ IsGivenUpIn v w area k → StaysNamed tells v (end_of w ws) area k ⊎ IsGivenUpAmong v (w ∷ ws) area k
first_stays tells v w ws area k left rest (inl still) = then_stays tells v w ws area k left (rest still)
first_stays tells v w ws area k left rest (inr given) = inr (inl given)

pub calls_leave : (tells : Bool) (v : StoreValue) (ws : List StoreValue) → IsTyped tells v → WritesBehind v → AreCalls tells v ws
    → ((area : Area) (k : ℕ) → IsNamed v area k → StaysNamed tells v (end_of v ws) area k ⊎ IsGivenUpAmong v ws area k) × WritesBehind (end_of v ws)
calls_leave tells v [] typed behind calls = (
  λ area k named. inl (record { left = λ told. same_left k (area_of v.disk.areas area) (area_of v.disk.areas area) refl; named = named }),
  behind,
)
calls_leave tells v (w ∷ ws) typed behind calls =
    let one = call_leaves tells v w typed behind calls.0 in
    let rest = calls_leave tells w ws calls.1 one.1 calls.2 in
    (λ area k named. first_stays tells v w ws area k (λ told. (one.0).left told area k named) (rest.0 area k) ((one.0).named area k named), rest.1)

-- ---- a stop

left_of : (areas : Areas) (image : Image) (area : Area) → LeavesImage areas image → MayLeave (area_of areas area) (bytes_in image area)
left_of areas image Status left = left.status
left_of areas image Heap left = left.heap
left_of areas image Archive left = left.archive

pub stop_leaves : (tells : Bool) (old new : StoreValue) (image : Image) → IsTyped tells old → IsTrue tells → LeavesImage new.disk.areas image
    → (area : Area) (k : ℕ) → IsLeft k (area_of old.disk.areas area) (area_of new.disk.areas area) → k < (area_of old.disk.areas area).firm
    → IsUntouched k (k + 1) (area_of old.disk.areas area).loose
    → slice_index (bytes_in image area) k ≡ slice_index (area_of old.disk.areas area).bytes k
stop_leaves tells old new image typed told left area k is firm untouched =
    let sound : IsSound (area_of old.disk.areas area) = typed.sound told area in
    let long = sound.firm in
    (left_of new.disk.areas image area left).kept k (is.firm firm) (is.untouched untouched) ∙ is.read (omega arith)
