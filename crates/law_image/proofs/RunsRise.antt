-- The versions of a key in the runs of a log, one after another, rise by the times at which they end.
use Rattle.std.proofs.Common.{◌≡◌, ℕ, ◌<◌, ◌≤◌, Bool, true, false, cond, List, [], ◌∷◌, ◌++◌, Some, None, refl, ap, sym, subst, ◌∙◌, arith, ⊎_elim}
use Rattle.std.specs.Prelude.{filter, flat_map, MatchBool}
use Rattle.std.specs.List.{AllByRecursion, cons_option}
use Rattle.std.specs.declared.cmp.Ordering.TheVariants.{Less}
use Rattle.std.proofs.lemmas.Bool.Decides.{nat_tests}
use Rattle.history.specs.declared.key.Key.{Key}
use Rattle.history.specs.declared.time.Version.{Version}
use Rattle.history.specs.Key.{key_cmp, same_key}
use Rattle.history.specs.Versions.{FollowOneAnotherFrom}
use Rattle.history.proofs.Members.{IsRisingBy}
use Rattle.law_image.specs.Values.{Value}
use Rattle.law_image.specs.Reading.{Slot, Commits, Archived, Reclaimed, Floor, ArchiveRecord, Reading}
use Rattle.law_image.specs.Log.{archive_mark, floor_of, AllCome, MayCome, MayComeInHeap, is_in_heap}
use Rattle.law_image.specs.Facts.{run_versions}
use Rattle.law_image.specs.StandsFor.{IsArchived, AreInOrder, AreRunsBy, no_floors, IsSlotLog, IsHeapLog}
use Rattle.law_image.proofs.Logs.{archive_mark-append}
use Rattle.law_image.proofs.Forms.{of-either}

pub rising-by_earlier : {X : Type 0} (f : X → ℕ) (n m : ℕ) (xs : List X) → n ≤ m → IsRisingBy f m xs → IsRisingBy f n xs
rising-by_earlier f n m [] le up = tt
rising-by_earlier f n m (x ∷ xs) le up = (omega (arith, up.0), up.1)

pub rising-by_append : {X : Type 0} (f : X → ℕ) (n m : ℕ) (xs ys : List X) → n ≤ m → IsRisingBy f n xs → AllByRecursion (λ x. f x ≤ m) xs → IsRisingBy f m ys
    → IsRisingBy f n (xs ++ ys)
rising-by_append f n m [] ys le up below up' = rising-by_earlier f n m ys le up'
rising-by_append f n m (x ∷ xs) ys le up below up' = (up.0, rising-by_append f (f x) m xs ys below.0 up.1 below.1 up')

pub rising-by_filter : {X : Type 0} (f : X → ℕ) (p : X → Bool) (n : ℕ) (xs : List X) → IsRisingBy f n xs → IsRisingBy f n (filter p xs)
rising-by_filter f p n [] up = tt
rising-by_filter {X} f p n (x ∷ xs) up =
    let rest = rising-by_filter f p (f x) xs up.1 in
    elim (p x) as (λ b. IsRisingBy f n (cond b (x ∷ filter p xs) (filter p xs))) [
      | true ↦ (up.0, rest)
      | false ↦ rising-by_earlier f n (f x) (filter p xs) (omega (arith, up.0)) rest
    ]

pub apart-rising : (s : ℕ) (vs : List (Version Value)) → FollowOneAnotherFrom s vs → IsRisingBy (λ v. v.to) s vs
apart-rising s [] apart = tt
apart-rising s (v ∷ vs) apart = (omega (arith, apart.0, apart.1), apart-rising v.to vs apart.2)

less_trans : (a b c : Key) → key_cmp a b ≡ Less → key_cmp b c ≡ Less → key_cmp a c ≡ Less
less_trans a b c h k = grind (arith, nat_tests)

other_key : (a b key : Key) → key_cmp a b ≡ Less → same_key a key ≡ true → same_key b key ≡ false
other_key a b key less same = grind (arith, nat_tests)

-- behind a greater key there is none of this one
beyond : (a key : Key) (s : ArchiveRecord) (rest : List ArchiveRecord) → same_key a key ≡ true → key_cmp a s.key ≡ Less → AreInOrder (s ∷ rest)
    → run_versions key (s ∷ rest) ≡ []
beyond a key s [] same less order = let other : same_key s.key key ≡ false = other_key a s.key key less same in rw other refl
beyond a key s (t ∷ rest) same less order =
    let other : same_key s.key key ≡ false = other_key a s.key key less same in
    let next : key_cmp a t.key ≡ Less =
    ⊎_elim (λ (l : key_cmp s.key t.key ≡ Less). less_trans a s.key t.key less l) (λ (e : (s.key ≡ t.key)
    × (s.version.to ≤ t.version.from)). subst (λ k. key_cmp a k ≡ Less) e.0 less) order.0 in
    rw other (beyond a key t rest same next order.1)

-- behind a record of a key, its others rise
after-record : (mark : ℕ) (floors : ℕ → ℕ) (upto : ℕ) (key : Key) (r : ArchiveRecord) (rest : List ArchiveRecord) → same_key r.key key ≡ true
    → AreInOrder (r ∷ rest) → AllByRecursion (IsArchived mark floors upto) rest
    → IsRisingBy (λ v. v.to) r.version.to (run_versions key rest)
after-record mark floors upto key r [] same order each = tt
after-record mark floors upto key r (s ∷ rest) same order each =
    ⊎_elim
    (λ (less : key_cmp r.key s.key ≡ Less). subst (IsRisingBy (λ (v : Version Value). v.to) r.version.to) (sym (beyond r.key key s rest same less order.1)) tt)
    (λ (e : (r.key ≡ s.key) × (r.version.to ≤ s.version.from)).
    let same' : same_key s.key key ≡ true = ap (λ k. same_key k key) (sym e.0) ∙ same in
    let later : r.version.to < s.version.to = omega (arith, e.1, (each.0).lasts) in
    let rest' = after-record mark floors upto key s rest same' order.1 each.1 in
    rw same' (later, rest'))
    order.0

tail-order : (r : ArchiveRecord) (rest : List ArchiveRecord) → AreInOrder (r ∷ rest) → AreInOrder rest
tail-order r [] order = tt
tail-order r (s ∷ rest) order = order.1

run-rising : (mark : ℕ) (floors : ℕ → ℕ) (upto : ℕ) (key : Key) (run : List ArchiveRecord) → AreInOrder run → AllByRecursion (IsArchived mark floors upto) run
    → IsRisingBy (λ v. v.to) mark (run_versions key run)
run-rising mark floors upto key [] order each = tt
run-rising mark floors upto key (r ∷ rest) order each =
    let Goal : Bool → Type 0 =
    λ b. same_key r.key key ≡ b → IsRisingBy (λ (v : Version Value). v.to) mark (cons_option (cond b (Some r.version) None) (run_versions key rest)) in
    let all : (b : Bool) → Goal b = λ b. elim b as Goal [
      | true ↦ λ e. ((each.0).after_mark, after-record mark floors upto key r rest e order each.1)
      | false ↦ λ e. run-rising mark floors upto key rest (tail-order r rest order) each.1
    ] in
    all (same_key r.key key) refl

run-by : (mark : ℕ) (floors : ℕ → ℕ) (upto : ℕ) (key : Key) (run : List ArchiveRecord) → AllByRecursion (IsArchived mark floors upto) run
    → AllByRecursion (λ v. v.to ≤ upto) (run_versions key run)
run-by mark floors upto key [] each = tt
run-by mark floors upto key (r ∷ rest) each =
    elim (same_key r.key key) as (λ b. AllByRecursion (λ (v : Version Value). v.to ≤ upto)
    (cons_option (cond b (Some r.version) None) (run_versions key rest))) [
      | true ↦ ((each.0).by_upto, run-by mark floors upto key rest each.1)
      | false ↦ run-by mark floors upto key rest each.1
    ]

-- the marks of the runs rise where each slot may come after those before it
module _ (May : List Slot → Slot → Type 0) (floors : List Slot → ℕ → ℕ) (marks_rise : (before : List Slot) (upto : ℕ) → May before (Archived upto)
    → archive_mark before ≤ upto) (key : Key) where
  pub runs-rise : (before log : List Slot) (runs : List (List ArchiveRecord)) → AllCome May before log → AreRunsBy floors before log runs
      → IsRisingBy (λ v. v.to) (archive_mark before) (flat_map (run_versions key) runs)
  runs-rise before [] [] may are = tt
  runs-rise before [] (run ∷ runs) may are = absurd are
  runs-rise before (Commits heads ∷ slots) runs may are =
      subst (λ n. IsRisingBy (λ (v : Version Value). v.to) n (flat_map (run_versions key) runs)) (archive_mark-append 0 before (Commits heads
      ∷ [])) (runs-rise (before ++ Commits heads ∷ []) slots runs may.1 are)
  runs-rise before (Archived upto ∷ slots) [] may are = tt
  runs-rise before (Archived upto ∷ slots) (run ∷ runs) may are =
      rising-by_append (λ (v : Version Value). v.to) (archive_mark before) upto (run_versions key run) (flat_map (run_versions key) runs)
      (marks_rise before upto may.0)
      (run-rising (archive_mark before) (floors before) upto key run (are.0).in_order (are.0).each)
      (run-by (archive_mark before) (floors before) upto key run (are.0).each)
      (subst (λ n. IsRisingBy (λ (v : Version Value). v.to) n (flat_map (run_versions key) runs)) (archive_mark-append 0 before (Archived upto
      ∷ [])) (runs-rise (before ++ Archived upto ∷ []) slots runs may.1 are.1))
  runs-rise before (Reclaimed upto ∷ slots) runs may are =
      subst (λ n. IsRisingBy (λ (v : Version Value). v.to) n (flat_map (run_versions key) runs)) (archive_mark-append 0 before (Reclaimed upto
      ∷ [])) (runs-rise (before ++ Reclaimed upto ∷ []) slots runs may.1 are)
  runs-rise before (Floor scope floor ∷ slots) runs may are =
      subst (λ n. IsRisingBy (λ (v : Version Value). v.to) n (flat_map (run_versions key) runs)) (archive_mark-append 0 before (Floor scope floor
      ∷ [])) (runs-rise (before ++ Floor scope floor ∷ []) slots runs may.1 are)

-- so it is of an image that reads, whatever the form of its log
pub runs-rising : (reading : Reading) (key : Key) → MatchBool (is_in_heap reading.profile) (IsHeapLog reading) (IsSlotLog reading)
    → IsRisingBy (λ v. v.to) 0 (flat_map (run_versions key) reading.runs)
runs-rising reading key form =
    of-either (is_in_heap reading.profile) (IsHeapLog reading) (IsSlotLog reading)
    (IsRisingBy (λ (v : Version Value). v.to) 0 (flat_map (run_versions key) reading.runs))
    (λ is. runs-rise MayComeInHeap no_floors (λ before upto may. omega (arith, may.0)) key [] reading.log reading.runs (is.log).each is.runs)
    (λ is. runs-rise (MayCome reading.profile) floor_of (λ before upto may. omega (arith, may.0)) key [] reading.log reading.runs is.log is.runs)
    form
