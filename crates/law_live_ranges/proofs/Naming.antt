-- What stays named.
use Rattle.std.proofs.Common.{◌≡◌, ◌≢◌, ℕ, zero, suc, ◌+◌, ◌<◌, ◌≤◌, Bool, IsTrue, true, false, cond, nat_lt, ◌==◌, ◌&&◌, List, [], ◌∷◌, ◌++◌, map, length}
use Rattle.std.proofs.Common.{take, min, slice_get, Option, Some, refl, sym, ap, subst, inl, inr, arith, MatchOption}
use Rattle.std.specs.List.{AllByRecursion, flat_map}
use Rattle.std.proofs.lemmas.Bool.{cases_order}
use Rattle.disk.specs.Areas.{IsApart, area_of}
use Rattle.disk.specs.Calls.{DiskState}
use Rattle.disk.specs.declared.area.Area.{Area}
use Rattle.disk.specs.declared.area.Area.TheVariants.{Status, Heap, Archive}
use Rattle.deltas.specs.Extents.{extent_start}
use Rattle.extents.specs.declared.usage.Usage.{Usage}
use Rattle.extents.specs.declared.usage.Usage.TheVariants.{Out, Kept}
use Rattle.extents.specs.Usages.{IsKept, IsOut, with_usage, with_usages}
use Rattle.extents.proofs.Frames.{other_stays, are_apart, used_stays}
use Rattle.group.specs.Queued.{QueuedValue, numbers_of}
use Rattle.group.specs.Taking.{AreLeastFree}
use Rattle.group.specs.declared.queued.StoredExtent.{StoredExtent}
use Rattle.group.specs.Steps.{extent_at, extent_of, grouped}
use Rattle.group.specs.Values.{TransactionsValue}
use Rattle.group.specs.declared.stage.GroupStage.{GroupStage}
use Rattle.group.specs.declared.stage.GroupStage.TheVariants.{NoGroup, Storing, Stored, Turning}
use Rattle.store.specs.Values.{StoreValue, KeepsJob}
use Rattle.store.specs.declared.job.Job.{Job}
use Rattle.law_live_ranges.specs.Named.{IsInKept, IsNamed, IsLeft, LeavesNamed, IsBehindRuns, WritesBehind}
use Rattle.law_live_ranges.proofs.Places.{same_left}

-- ---- extents

-- where others are taken
pub kept_taken : (us : List Usage) (ns : List ℕ) (n : ℕ) → AreLeastFree us ns → IsKept us n → IsKept (with_usages us ns Out) n
kept_taken us [] n least kept = kept
kept_taken us (m ∷ ms) n least kept = kept_taken (with_usage us m Out) ms n least.1 (used_stays us m n Out Kept (least.0).free (λ same. cc) kept)

-- and where others, that are out, are published or given back
pub kept_beside : (us : List Usage) (ns : List ℕ) (usage : Usage) (n : ℕ) → AllByRecursion (λ m. (1 ≤ m) × (n ≢ m)) ns → IsKept us n
    → IsKept (with_usages us ns usage) n
kept_beside us [] usage n others kept = kept
kept_beside us (m ∷ ms) usage n others kept =
    kept_beside (with_usage us m usage) ms usage n others.1 (other_stays us m n usage Kept (others.0).0 (others.0).1 kept)

pub kept_published : (us : List Usage) (ns : List ℕ) (n : ℕ) → AllByRecursion (λ m. (1 ≤ m) × (n ≢ m)) ns → IsKept us n → IsKept (with_usages us ns Kept) n
kept_published us ns n others kept = kept_beside us ns Kept n others kept

pub others_of : (us : List Usage) (ns : List ℕ) (n : ℕ) → AllByRecursion (IsOut us) ns → IsKept us n → AllByRecursion (λ m. (1 ≤ m) × (n ≢ m)) ns
others_of us [] n out kept = tt
others_of us (m ∷ ms) n out kept = (((out.0).low, are_apart us Kept Out n m (λ same. cc) kept out.0), others_of us ms n out.1 kept)

-- an extent that is out lies apart from each that is kept
pub heap_apart : (v : StoreValue) (k n : ℕ) (image : List ℕ) → IsOut v.transactions.usages n → length image ≡ 8192 → IsInKept v k
    → IsApart k (k + 1) (extent_start n, length image)
heap_apart v k n image out long is =
    let m : ℕ = is.number in
    let differ : m ≢ n = are_apart v.transactions.usages Kept Out m n (λ same. cc) is.kept out in
    let low_m : 1 ≤ m = (is.kept).low in
    let low_n : 1 ≤ n = out.low in
    let low : extent_start m ≤ k = is.low in
    let high : k < extent_start m + 8192 = is.high in
    elim (cases_order m n) [
      | inl same ↦ absurd (differ same)
      | inr (inl less) ↦ inl (omega arith)
      | inr (inr more) ↦ inr (omega arith)
    ]

-- ---- commits that wait

pub all_front : (P : ℕ → Type 0) (xs ys : List ℕ) → AllByRecursion P (xs ++ ys) → AllByRecursion P xs
all_front P [] ys all = tt
all_front P (x ∷ xs) ys all = (all.0, all_front P xs ys all.1)

pub all_back : (P : ℕ → Type 0) (xs ys : List ℕ) → AllByRecursion P (xs ++ ys) → AllByRecursion P ys
all_back P [] ys all = all
all_back P (x ∷ xs) ys all = all_back P xs ys all.1

pub all_joined : (P : ℕ → Type 0) (xs ys : List ℕ) → AllByRecursion P xs → AllByRecursion P ys → AllByRecursion P (xs ++ ys)
all_joined P [] ys a b = b
all_joined P (x ∷ xs) ys a b = (a.0, all_joined P xs ys a.1 b)

out_stored : (us : List Usage) (stored : List StoredExtent) (e : ℕ) (s : StoredExtent) → AllByRecursion (IsOut us) (map (λ (x : StoredExtent). x.extent) stored)
    → slice_get stored e ≡ Some s → IsOut us s.extent
out_stored us [] e s all found = absurd cc
out_stored us (x ∷ xs) zero s all found = let same : x ≡ s = cc in subst (λ (z : StoredExtent). IsOut us z.extent) same all.0
out_stored us (x ∷ xs) (suc e) s all found = out_stored us xs e s all.1 found

out_queued : (us : List Usage) (queue : List QueuedValue) (m e : ℕ) (s : StoredExtent) → AllByRecursion (IsOut us) (flat_map numbers_of queue)
    → extent_at (slice_get queue m) e ≡ Some s → IsOut us s.extent
out_queued us [] m e s all found = absurd cc
out_queued us (q ∷ qs) zero e s all found = out_stored us q.stored e s (all_front (IsOut us) (numbers_of q) (flat_map numbers_of qs) all) found
out_queued us (q ∷ qs) (suc m) e s all found = out_queued us qs m e s (all_back (IsOut us) (numbers_of q) (flat_map numbers_of qs) all) found

-- the extent that is to be written is out
pub out_next : (us : List Usage) (queue : List QueuedValue) (stage : GroupStage) (s : StoredExtent) → AllByRecursion (IsOut us) (flat_map numbers_of queue)
    → extent_of queue stage ≡ Some s → IsOut us s.extent
out_next us queue NoGroup s all found = absurd cc
out_next us queue (Storing member extent) s all found = out_queued us queue member extent s all found
out_next us queue Stored s all found = absurd cc
out_next us queue Turning s all found = absurd cc

-- and so are those of the first that wait
pub out_first : (us : List Usage) (n : ℕ) (queue : List QueuedValue) → AllByRecursion (IsOut us) (flat_map numbers_of queue)
    → AllByRecursion (IsOut us) (flat_map numbers_of (take n queue))
out_first us zero queue all = tt
out_first us (suc n) [] all = tt
out_first us (suc n) (q ∷ qs) all = all_joined (IsOut us) (numbers_of q) (flat_map numbers_of (take n qs))
    (all_front (IsOut us) (numbers_of q) (flat_map numbers_of qs) all) (out_first us n qs (all_back (IsOut us) (numbers_of q) (flat_map numbers_of qs) all))

-- ---- names

pub slots_named : (old new : StoreValue) (k : ℕ) → old.log.used ≤ new.log.used → old.log.pieces ≤ new.log.pieces → IsNamed old Status k → IsNamed new Status k
slots_named old new k used pieces is =
    (let low = is.0 in omega (arith, low, used), elim is.1 [ inl gate ↦ inl (omega (arith, gate, pieces)) | inr slot ↦ inr slot ])

pub named_by : (old new : StoreValue) → ((n : ℕ) → IsKept old.transactions.usages n → IsKept new.transactions.usages n) → old.log.used ≤ new.log.used
    → old.log.pieces ≤ new.log.pieces → old.runs_end ≤ new.runs_end
    → (area : Area) (k : ℕ) → IsNamed old area k → IsNamed new area k
named_by old new kept used pieces runs Status k is = slots_named old new k used pieces is
named_by old new kept used pieces runs Heap k is = record { number = is.number; kept = kept is.number is.kept; low = is.low; high = is.high }
named_by old new kept used pieces runs Archive k is = omega (arith, is, runs)

pub kept_same : (us vs : List Usage) → vs ≡ us → (n : ℕ) → IsKept us n → IsKept vs n
kept_same us vs same n kept = subst (λ (l : List Usage). IsKept l n) (sym same) kept

-- what the log named is as it was, and all of it is named still
pub record LeavesAll (tells : Bool) (old new : StoreValue) : Type 0 where
  pub left : IsTrue tells → (area : Area) (k : ℕ) → IsNamed old area k → IsLeft k (area_of old.disk.areas area) (area_of new.disk.areas area)
  pub named : (area : Area) (k : ℕ) → IsNamed old area k → IsNamed new area k

-- then nothing is given up
pub leaves_named : (tells : Bool) (old new : StoreValue) → LeavesAll tells old new → LeavesNamed tells old new
leaves_named tells old new all = record { left = all.left; named = λ area k is. inl (all.named area k is) }

-- a store in whose place another stands, which names the same and has the same disk
pub carried : (tells : Bool) (old middle new : StoreValue) → ((area : Area) (k : ℕ) → IsNamed old area k → IsNamed middle area k) → middle.disk ≡ old.disk
    → LeavesAll tells middle new → LeavesAll tells old new
carried tells old middle new named same leaves = record {
  left = λ told area k is. subst (λ (d : DiskState). IsLeft k (area_of d.areas area) (area_of new.disk.areas area)) same
      (leaves.left told area k (named area k is));
  named = λ area k is. leaves.named area k (named area k is);
}

-- a store that keeps its disk and what its log names
pub disk_stays : (tells : Bool) (old new : StoreValue) → ((area : Area) (k : ℕ) → IsNamed old area k → IsNamed new area k) → new.disk ≡ old.disk
    → LeavesAll tells old new
disk_stays tells old new named same = record {
  left = λ told area k is. same_left k (area_of old.disk.areas area) (area_of new.disk.areas area) (ap (λ (d : DiskState). area_of d.areas area) same);
  named = named;
}

pub leaves_itself : (tells : Bool) (old new : StoreValue) → new ≡ old → LeavesAll tells old new
leaves_itself tells old new same = subst (λ (w : StoreValue). LeavesAll tells old w) (sym same) (disk_stays tells old old (λ area k is. is) refl)

-- ---- jobs

pub behind_by : (new : StoreValue) (o : Option Job) (end : ℕ) → new.job ≡ o → new.runs_end ≡ end
    → MatchOption o (Unit {0}) (λ (job : Job). IsBehindRuns end job.work) → WritesBehind new
behind_by new o end job_is end_is behind =
    let at_end : MatchOption o (Unit {0}) (λ (job : Job). IsBehindRuns new.runs_end job.work) =
    subst (λ (x : ℕ). MatchOption o (Unit {0}) (λ (job : Job). IsBehindRuns x job.work)) (sym end_is) behind in
    subst (λ (x : Option Job). MatchOption x (Unit {0}) (λ (job : Job). IsBehindRuns new.runs_end job.work)) (sym job_is) at_end

pub behind_kept : (old new : StoreValue) → KeepsJob old new → WritesBehind old → WritesBehind new
behind_kept old new keeps behind = behind_by new old.job old.runs_end keeps.job keeps.runs_end behind

-- a group that begins changes no usage
pub grouped_usages : (v : TransactionsValue) → (grouped v).usages ≡ v.usages
grouped_usages v =
    elim ((v.group == 0) && nat_lt 0 (length v.queue)) as (λ b. (cond b (record v { group = min (length v.queue) 16; stage = Storing 0 0 }) v).usages
    ≡ v.usages) [ true ↦ refl | false ↦ refl ]

pub grouped_queue : (v : TransactionsValue) → (grouped v).queue ≡ v.queue
grouped_queue v =
    elim ((v.group == 0) && nat_lt 0 (length v.queue)) as (λ b. (cond b (record v { group = min (length v.queue) 16; stage = Storing 0 0 }) v).queue
    ≡ v.queue) [ true ↦ refl | false ↦ refl ]
