-- Commits published one after another, and extents that change together.
use Rattle.std.proofs.Common.{◌≡◌, ◌≢◌, ℕ, zero, suc, ◌-◌, ◌≤◌, List, [], ◌∷◌, ◌++◌, length, take, drop, map, get_or, slice_set, refl, arith, ap, sym, subst}
use Rattle.std.proofs.Common.{◌∙◌}
use Rattle.std.specs.List.{AllByRecursion, flat_map}
use Rattle.std.proofs.lemmas.List.{append_assoc, append-nil, get_or-set_other}
use Rattle.std.proofs.lemmas.List.Concat.{flat_map-cons}
use Rattle.chains.specs.KeyWrites.{KeyWrites}
use Rattle.extents.specs.declared.usage.Usage.{Usage}
use Rattle.extents.specs.declared.usage.Usage.TheVariants.{Free, Out, Kept}
use Rattle.extents.specs.Usages.{HasUsage, IsFree, IsOut, with_usage, with_usages, IsNoneOf, AreDistinct, AreOut}
use Rattle.extents.proofs.Frames.{first_changed, list_taken, are_apart, now_has}
use Rattle.group.specs.Queued.{QueuedValue, numbers_of, stored_as}
use Rattle.group.specs.declared.queued.StoredExtent.{StoredExtent}
use Rattle.group.specs.Taking.{AreLeastFree}
use Rattle.group.specs.Values.{versions_after}
use Rattle.group.specs.Steps.{with_chains}
use Rattle.extents.specs.Times.{with_times}

-- ---- usages of many

pub with_usages-append : (usages : List Usage) (xs ys : List ℕ) (usage : Usage)
    → with_usages usages (xs ++ ys) usage ≡ with_usages (with_usages usages xs usage) ys usage
with_usages-append usages [] ys usage = refl
with_usages-append usages (x ∷ xs) ys usage = with_usages-append (with_usage usages x usage) xs ys usage

all-front : (P : ℕ → Type 0) (xs ys : List ℕ) → AllByRecursion P (xs ++ ys) → AllByRecursion P xs
all-front P [] ys all = tt
all-front P (x ∷ xs) ys all = (all.0, all-front P xs ys all.1)

distinct-front : (xs ys : List ℕ) → AreDistinct (xs ++ ys) → AreDistinct xs
distinct-front [] ys distinct = tt
distinct-front (x ∷ xs) ys distinct = (all-front (λ n. n ≢ x) xs ys distinct.0, distinct-front xs ys distinct.1)

pub out-front : (usages : List Usage) (xs ys : List ℕ) → AreOut usages (xs ++ ys) → AreOut usages xs
out-front usages xs ys out = record { each = all-front (IsOut usages) xs ys out.each; distinct = distinct-front xs ys out.distinct }

pub out-rest : (usages : List Usage) (xs ys : List ℕ) (usage : Usage) → AreOut usages (xs ++ ys) → AreOut (with_usages usages xs usage) ys
out-rest usages [] ys usage out = out
out-rest usages (x ∷ xs) ys usage out = out-rest (with_usage usages x usage) xs ys usage (first_changed usages (xs ++ ys) x usage out)

pub out-taken : (usages : List Usage) (ms ns : List ℕ) → AreOut usages ms → AreLeastFree usages ns → AreOut (with_usages usages ns Out) (ms ++ ns)
out-taken usages ms [] out least = subst (λ (xs : List ℕ). AreOut usages xs) (sym (append-nil ms)) out
  where
    append-nil : (xs : List ℕ) → xs ++ [] ≡ xs
    append-nil [] = refl
    append-nil (x ∷ xs) = ap (λ zs. x ∷ zs) (append-nil xs)
out-taken usages ms (n ∷ ns) out least =
    subst (λ (xs : List ℕ). AreOut (with_usages (with_usage usages n Out) ns Out) xs) (append_assoc ms (n ∷ []) ns)
    (out-taken (with_usage usages n Out) (ms ++ n ∷ []) ns (list_taken usages ms n out least.0.free) least.1)

-- ---- the same extents in another order

all-both : (P : ℕ → Type 0) (xs ys : List ℕ) → AllByRecursion P xs → AllByRecursion P ys → AllByRecursion P (xs ++ ys)
all-both P [] ys front rest = rest
all-both P (x ∷ xs) ys front rest = (front.0, all-both P xs ys front.1 rest)

all-rest : (P : ℕ → Type 0) (xs ys : List ℕ) → AllByRecursion P (xs ++ ys) → AllByRecursion P ys
all-rest P [] ys all = all
all-rest P (x ∷ xs) ys all = all-rest P xs ys all.1

all-moved : (P : ℕ → Type 0) (x : ℕ) (xs ys : List ℕ) → AllByRecursion P (x ∷ xs ++ ys) → AllByRecursion P (xs ++ x ∷ ys)
all-moved P x xs ys all = all-both P xs (x ∷ ys) (all-front P xs ys all.1) (all.0, all-rest P xs ys all.1)

distinct-moved : (x : ℕ) (xs ys : List ℕ) → AreDistinct (x ∷ xs ++ ys) → AreDistinct (xs ++ x ∷ ys)
distinct-moved x [] ys distinct = distinct
distinct-moved x (z ∷ zs) ys distinct =
    (all-moved (λ n. n ≢ z) x zs ys ((λ e. distinct.0.0 (sym e)), distinct.1.0), distinct-moved x zs ys (distinct.0.1, distinct.1.1))

-- the first one may come behind others
out-moved : (usages : List Usage) (x : ℕ) (xs ys : List ℕ) → AreOut usages (x ∷ xs ++ ys) → AreOut usages (xs ++ x ∷ ys)
out-moved usages x xs ys out = record { each = all-moved (IsOut usages) x xs ys out.each; distinct = distinct-moved x xs ys out.distinct }

pub out-swapped : (usages : List Usage) (xs ys : List ℕ) → AreOut usages (xs ++ ys) → AreOut usages (ys ++ xs)
out-swapped usages [] ys out = subst (λ (ns : List ℕ). AreOut usages ns) (sym (nil-behind ys)) out
  where
    nil-behind : (zs : List ℕ) → zs ++ [] ≡ zs
    nil-behind [] = refl
    nil-behind (z ∷ zs) = ap (λ ns. z ∷ ns) (nil-behind zs)
out-swapped usages (x ∷ xs) ys out =
    let behind : AreOut usages (xs ++ (ys ++ x ∷ [])) = subst (λ (ns : List ℕ). AreOut usages ns) (append_assoc xs ys (x ∷ [])) (moved-last (xs ++ ys) out) in
    subst (λ (ns : List ℕ). AreOut usages ns) (append_assoc ys (x ∷ []) xs) (out-swapped usages xs (ys ++ x ∷ []) behind)
  where
    moved-last : (zs : List ℕ) → AreOut usages (x ∷ zs) → AreOut usages (zs ++ x ∷ [])
    moved-last zs first = out-moved usages x zs [] (subst (λ (ns : List ℕ). AreOut usages (x ∷ ns)) (sym (append-nil zs)) first)

-- those of the queue and those of a job, once the first of the queue are kept
pub out-beside : (usages : List Usage) (xs ys zs : List ℕ) (usage : Usage) → AreOut usages ((xs ++ ys) ++ zs) → AreOut (with_usages usages xs usage) (ys ++ zs)
out-beside usages xs ys zs usage out = out-rest usages xs (ys ++ zs) usage (subst (λ (ns : List ℕ). AreOut usages ns) (append_assoc xs ys zs) out)

-- more are out for those that wait
pub out-joined : (usages : List Usage) (xs zs ns : List ℕ) → AreOut usages (xs ++ zs) → AreLeastFree usages ns
    → AreOut (with_usages usages ns Out) ((xs ++ ns) ++ zs)
out-joined usages xs zs ns out least =
    let taken : AreOut (with_usages usages ns Out) ((zs ++ xs) ++ ns) = out-taken usages (zs ++ xs) ns (out-swapped usages xs zs out) least in
    out-swapped (with_usages usages ns Out) zs (xs ++ ns) (subst (λ (ks : List ℕ). AreOut (with_usages usages ns Out) ks) (append_assoc zs xs ns) taken)

-- others are out for a job
pub out-reserved : (usages : List Usage) (xs zs ns : List ℕ) → AreOut usages (xs ++ zs) → AreLeastFree usages ns
    → AreOut (with_usages usages ns Out) zs × AreOut (with_usages (with_usages usages ns Out) zs Free) (xs ++ ns)
out-reserved usages xs zs ns out least =
    let taken : AreOut (with_usages usages ns Out) ((zs ++ xs) ++ ns) = out-taken usages (zs ++ xs) ns (out-swapped usages xs zs out) least in
    let apart : AreOut (with_usages usages ns Out) (zs ++ (xs ++ ns)) =
    subst (λ (ks : List ℕ). AreOut (with_usages usages ns Out) ks) (append_assoc zs xs ns) taken in
    (out-front (with_usages usages ns Out) zs (xs ++ ns) apart, out-rest (with_usages usages ns Out) zs (xs ++ ns) Free apart)

-- what is out stays out where no such usage changes
pub out-still : (usages after : List Usage) (ns : List ℕ) → ((n : ℕ) → IsOut usages n → IsOut after n) → AreOut usages ns → AreOut after ns
out-still usages after ns stays out = record { each = each ns out.each; distinct = out.distinct }
  where
    each : (ks : List ℕ) → AllByRecursion (IsOut usages) ks → AllByRecursion (IsOut after) ks
    each [] all = tt
    each (k ∷ ks) all = (stays k all.0, each ks all.1)

-- ---- extents that are given back at once

set-back : {A : Type 0} (xs : List A) (i : ℕ) (a b d : A) → get_or xs i d ≡ b → slice_set (slice_set xs i a) i b ≡ xs
set-back [] i a b d is = refl
set-back (x ∷ xs) zero a b d is = ap (λ z. z ∷ xs) (sym is)
set-back (x ∷ xs) (suc i) a b d is = ap (λ zs. x ∷ zs) (set-back xs i a b d is)

set-swap : {A : Type 0} (xs : List A) (i j : ℕ) (a b : A) → i ≢ j → slice_set (slice_set xs i a) j b ≡ slice_set (slice_set xs j b) i a
set-swap [] i j a b apart = refl
set-swap (x ∷ xs) zero zero a b apart = absurd (apart refl)
set-swap (x ∷ xs) zero (suc j) a b apart = refl
set-swap (x ∷ xs) (suc i) zero a b apart = refl
set-swap (x ∷ xs) (suc i) (suc j) a b apart = ap (λ zs. x ∷ zs) (set-swap xs i j a b (λ e. apart (ap suc e)))

-- a change of another extent may come before
change-swap : (usages : List Usage) (ns : List ℕ) (n : ℕ) (a b : Usage) → 1 ≤ n → AllByRecursion (λ m. 1 ≤ m) ns → IsNoneOf n ns
    → with_usage (with_usages usages ns a) n b ≡ with_usages (with_usage usages n b) ns a
change-swap usages [] n a b low lows apart = refl
change-swap usages (m ∷ ms) n a b low lows apart =
    change-swap (with_usage usages m a) ms n a b low lows.1 apart.1
    ∙ ap (λ (us : List Usage). with_usages us ms a) (set-swap usages (m - 1) (n - 1) a b (λ e. apart.0 (let least = lows.0 in omega arith)))

frees-lows : (usages : List Usage) (ns : List ℕ) → AllByRecursion (IsFree usages) ns → AllByRecursion (λ m. 1 ≤ m) ns
frees-lows usages [] all = tt
frees-lows usages (n ∷ ns) all = (all.0.low, frees-lows usages ns all.1)

taken_back : (usages : List Usage) (ns : List ℕ) → AllByRecursion (IsFree usages) ns → AreDistinct ns → with_usages (with_usages usages ns Out) ns Free ≡ usages
taken_back usages [] all distinct = refl
taken_back usages (n ∷ ns) all distinct =
    ap (λ (us : List Usage). with_usages us ns Free)
    (change-swap (with_usage usages n Out) ns n Out Free all.0.low (frees-lows usages ns all.1) distinct.0
    ∙ ap (λ (us : List Usage). with_usages us ns Out) (set-back usages (n - 1) Out Free Kept all.0.is))
    ∙ taken_back usages ns all.1 distinct.1

-- what is free when another was taken was free before
free-before : (usages : List Usage) (n m : ℕ) → IsFree usages n → IsFree (with_usage usages n Out) m → IsFree usages m × (m ≢ n)
free-before usages n m free later =
    let out : HasUsage Out (with_usage usages n Out) n = now_has usages n Out Free (λ e. cc) free in
    let apart : m ≢ n = are_apart (with_usage usages n Out) Free Out m n (λ e. cc) later out in
    let low = later.low in let low' = free.low in
    let places : m - 1 ≢ n - 1 = λ e. apart (omega arith) in
    (record { low = later.low; high = later.high; is = sym (get_or-set_other usages (n - 1) (m - 1) Out Kept places) ∙ later.is }, apart)

all-before : (usages : List Usage) (n : ℕ) (ms : List ℕ) → IsFree usages n → AllByRecursion (IsFree (with_usage usages n Out)) ms
    → AllByRecursion (IsFree usages) ms × IsNoneOf n ms
all-before usages n [] free all = (tt, tt)
all-before usages n (m ∷ ms) free all =
    let one = free-before usages n m free all.0 in
    let rest = all-before usages n ms free all.1 in
    ((one.0, rest.0), (one.1, rest.1))

least-frees : (usages : List Usage) (ns : List ℕ) → AreLeastFree usages ns → AllByRecursion (IsFree usages) ns × AreDistinct ns
least-frees usages [] least = (tt, tt)
least-frees usages (n ∷ ns) least =
    let rest = least-frees (with_usage usages n Out) ns least.1 in
    let before = all-before usages n ns least.0.free rest.0 in
    ((least.0.free, before.0), (before.1, rest.1))

pub given_back : (usages : List Usage) (ns : List ℕ) → AreLeastFree usages ns → with_usages (with_usages usages ns Out) ns Free ≡ usages
given_back usages ns least = let frees = least-frees usages ns least in taken_back usages ns frees.0 frees.1

pub now_out : (usages : List Usage) (ns : List ℕ) → AreLeastFree usages ns → AreOut (with_usages usages ns Out) ns
now_out usages ns least = out-taken usages [] ns (record { each = tt; distinct = tt }) least

-- ---- commits that are still to be published

pub record AreLeft (versions : List KeyWrites) (usages : List Usage) (queue : List QueuedValue) (left : ℕ) (times all_times : List ℕ)
    (all_versions : List KeyWrites) (all_usages : List Usage) (rest : List QueuedValue) : Type 0 where
  pub within : left ≤ length queue
  pub queue_is : drop left queue ≡ rest
  pub versions_are : versions_after versions (take left queue) ≡ all_versions
  pub usages_are : with_usages usages (flat_map numbers_of (take left queue)) Kept ≡ all_usages
  pub times_are : with_chains times (take left queue) ≡ all_times
  pub out : AreOut usages (flat_map numbers_of queue)

-- the extents of the first one are out
pub first-out : {versions : List KeyWrites} {usages : List Usage} {q : QueuedValue} {qs : List QueuedValue} {left : ℕ} {times all_times : List ℕ}
    {all_versions : List KeyWrites} {all_usages : List Usage} {rest : List QueuedValue}
    → AreLeft versions usages (q ∷ qs) left times all_times all_versions all_usages rest → AreOut usages (numbers_of q)
first-out {versions} {usages} {q} {qs} are =
    out-front usages (numbers_of q) (flat_map numbers_of qs) (subst (λ (ns : List ℕ). AreOut usages ns) (flat_map-cons numbers_of q qs) are.out)

-- one of them is published
pub one_less : {versions : List KeyWrites} {usages : List Usage} {q : QueuedValue} {qs : List QueuedValue} (left : ℕ) {times all_times : List ℕ}
    {all_versions : List KeyWrites} {all_usages : List Usage} {rest : List QueuedValue}
    → AreLeft versions usages (q ∷ qs) (suc left) times all_times all_versions all_usages rest
    → AreLeft q.after (with_usages usages (numbers_of q) Kept) qs left (with_times times (numbers_of q) q.entry.time) all_times all_versions all_usages rest
one_less {versions} {usages} {q} {qs} left are = record {
  within = omega (arith, are.within);
  queue_is = are.queue_is;
  versions_are = are.versions_are;
  times_are = are.times_are;
  usages_are = sym (with_usages-append usages (numbers_of q) (flat_map numbers_of (take left qs)) Kept)
      ∙ ap (λ (ns : List ℕ). with_usages usages ns Kept) (sym (flat_map-cons numbers_of q (take left qs))) ∙ are.usages_are;
  out = out-rest usages (numbers_of q) (flat_map numbers_of qs) Kept (subst (λ (ns : List ℕ). AreOut usages ns) (flat_map-cons numbers_of q qs) are.out);
}

-- ---- a commit that joins those that wait

pub numbers-stored : (ns : List ℕ) (images : List (List ℕ)) → length images ≡ length ns → map (λ (s : StoredExtent). s.extent) (stored_as ns images) ≡ ns
numbers-stored [] images same = refl
numbers-stored (n ∷ ns) [] same = absurd (omega arith)
numbers-stored (n ∷ ns) (image ∷ images) same = ap (λ zs. n ∷ zs) (numbers-stored ns images (omega arith))

pub length-stored : (ns : List ℕ) (images : List (List ℕ)) → length images ≡ length ns → length (stored_as ns images) ≡ length ns
length-stored [] images same = refl
length-stored (n ∷ ns) [] same = absurd (omega arith)
length-stored (n ∷ ns) (image ∷ images) same = ap suc (length-stored ns images (omega arith))
