-- What the starts of jobs say of the machine, in either layout.
use Rattle.std.proofs.Common.{◌≡◌, ℕ, ◌<◌, ◌≤◌, ◌==◌, nat_lt, nat_le, Bool, true, false, cond, List, [], ◌∷◌, Some, None, Option, is_some, min, ◌⊎◌, ⊎_elim}
use Rattle.std.proofs.Common.{Result, Ok, Err, MatchOption, refl, sym, ◌∙◌, ap, subst, inl, inr, arith}
use Rattle.std.specs.Prelude.{Contains}
use Rattle.std.proofs.lemmas.List.Sorted.{IsPermutation-sym, Contains-permutation}
use Rattle.std.proofs.lemmas.Bool.{cases_lt}
use Rattle.std.proofs.lemmas.Bool.Decides.{nat_tests}
use Rattle.history.specs.Histories.{last}
use Rattle.history.specs.Machine.{Machine}
use Rattle.history.proofs.Members.{Contains-head, Contains-tail}
use Rattle.law_image.specs.Values.{Value}
use Rattle.status.specs.Growth.{next_piece}
use Rattle.status.specs.GrowthState.{GrowthState}
use Rattle.commits.specs.Calls as log_calls
use Rattle.commits.specs.Values as commits
use Rattle.snapshot.specs.OpenTable.{lesser, least_with, least_open}
use Rattle.group.specs.Reclaims.{oldest}
use Rattle.group.specs.Values.{spare}
use Rattle.store.specs.Archives.{BeginsRun}
use Rattle.store.specs.Archives as archives
use Rattle.store.specs.Calls as slot_calls
use Rattle.store.specs.Growths.{BeginsPiece}
use Rattle.store.specs.Growths as growths
use Rattle.store.specs.Reclaims.{below, refusal_for_use, BeginsReclaim}
use Rattle.store.specs.Reclaims as reclaims
use Rattle.store.specs.Values as slot_values
use Rattle.store.specs.declared.job.StartFault.{StartFault}
use Rattle.store.specs.declared.job.StartFault.TheVariants as start
use Rattle.log_store.specs.Archives.{has_archive_room}
use Rattle.log_store.specs.Archives as log_archives
use Rattle.log_store.specs.Reclaims as log_reclaims
use Rattle.log_store.specs.Values.{LogStoreValue}
use Rattle.log_store.specs.Values as log_values
use Rattle.log_store.specs.declared.job.StartFault as log_starts
use Rattle.log_store.specs.declared.job.StartFault.TheVariants as log_fault
use Rattle.any_store.specs.declared.engine.Engine.TheVariants.{Slots, Log}
use Rattle.any_store.specs.Values.{StoreValue, is_log}
use Rattle.any_store.specs.Jobs.{none_of, told_start, BeginsNone, StartsArchive, StartsReclaim, StartsGrowth}
use Rattle.law_commits.specs.Standing.{StandsInMemory}
use Rattle.law_commits.proofs.Names as log_names
use Rattle.law_refinement.specs.Standing.{snapshots_of}
use Rattle.law_refinement.specs.Stands as slots
use Rattle.law_refinement.proofs.Memory.{last-is}
use Rattle.law_any_store.specs.Standing.{Stands}
use Rattle.law_any_store.specs.Starts.{ArchiveSays, ReclaimSays, GrowSays}

-- ---- where the log is slots

-- what an archive's start says of the machine
slots-start : (tells : Bool) (v v' : slot_values.StoreValue) (m : Machine Value) (upto : ℕ) (r : Result (Unit {0}) StartFault) → slots.Stands tells v m
    → archives.StartsArchive v upto r v'
    → ArchiveSays false m upto r
slots-start tells v v' m upto r stands starts =
    by-tests v.transactions.failed refl (is_some v.job) (nat_le upto v.archived) (nat_lt (slot_calls.last v) upto) refl (spare v.transactions == 0) starts
  where
    at-last : slot_calls.last v ≡ last m.published
    at-last = last-is v.transactions m stands.memory

    says : (x : Result (Unit {0}) StartFault) → r ≡ x → ArchiveSays false m upto x → ArchiveSays false m upto r
    says x is so = subst (λ (y : Result (Unit {0}) StartFault). ArchiveSays false m upto y) (sym is) so

    begins : v.transactions.failed ≡ false → nat_lt (slot_calls.last v) upto ≡ false → (x : Result (Unit {0}) StartFault) → BeginsRun v upto x v'
        → ArchiveSays false m upto x
    begins on early (Ok done) is =
        (sym stands.memory.failed ∙ on, (let low : upto ≤ slot_calls.last v = grind (arith, nat_tests) in omega (arith, low, at-last)))
    begins on early (Err start.ArchiveFull) is = tt
    begins on early (Err start.NoMemory) is = tt
    begins on early (Err start.NotGrowable) is = absurd is.0
    begins on early (Err start.Failed) is = absurd is.0
    begins on early (Err start.WrongProfile) is = absurd is.0
    begins on early (Err start.JobBusy) is = absurd is.0
    begins on early (Err start.NothingToDo) is = absurd is.0
    begins on early (Err (start.NotYet time)) is = absurd is.0
    begins on early (Err start.StatusFull) is = absurd is.0
    begins on early (Err (start.InUse time)) is = absurd is.0
    begins on early (Err start.HeapFull) is = absurd is.0

    by-tests : (a : Bool) → v.transactions.failed ≡ a → (b c d : Bool) → nat_lt (slot_calls.last v) upto ≡ d → (e : Bool)
        → MatchOption (cond a (Some start.Failed)
        (cond b (Some start.JobBusy)
        (cond c (Some start.NothingToDo) (cond d (Some (start.NotYet (slot_calls.last v))) (cond e (Some start.StatusFull) None))))) (BeginsRun v upto r v')
        (λ why. (r ≡ Err why) × (v' ≡ v))
        → ArchiveSays false m upto r
    by-tests true on b c d late e is = says (Err start.Failed) is.0 (sym stands.memory.failed ∙ on)
    by-tests false on true c d late e is = says (Err start.JobBusy) is.0 tt
    by-tests false on false true d late e is = says (Err start.NothingToDo) is.0 tt
    by-tests false on false false true late e is =
        says (Err (start.NotYet (slot_calls.last v))) is.0 (at-last, (let low : slot_calls.last v < upto = grind (arith, nat_tests) in omega (arith, low)))
    by-tests false on false false false late true is = says (Err start.StatusFull) is.0 refl
    by-tests false on false false false late false is = begins on late r is

below-is : (o : Option ℕ) (mark snapshot : ℕ) → below o mark ≡ Some snapshot → o ≡ Some snapshot
below-is None mark snapshot is = absurd cc
below-is (Some s) mark snapshot is = by-test (nat_lt s mark) is
  where
    by-test : (b : Bool) → cond b (Some s) None ≡ Some snapshot → Some s ≡ Some snapshot
    by-test true is = is
    by-test false is = absurd cc

-- the lesser of two is one of them
lesser-one : (least : Option ℕ) (t snapshot : ℕ) → lesser least (Some t) ≡ Some snapshot → (least ≡ Some snapshot) ⊎ (t ≡ snapshot)
lesser-one None t snapshot is = inr cc
lesser-one (Some a) t snapshot is =
    let same : min a t ≡ snapshot = cc in
    ⊎_elim
    (λ (less : a < t). let own : a ≡ snapshot = omega (arith, less, same) in inl (ap (λ (n : ℕ). Some n) own))
    (λ (most : t ≤ a). let own : t ≡ snapshot = omega (arith, most, same) in inr own)
    (cases_lt a t)

lesser-none : (least : Option ℕ) (snapshot : ℕ) → lesser least None ≡ Some snapshot → least ≡ Some snapshot
lesser-none None snapshot is = is
lesser-none (Some a) snapshot is = is

-- the least snapshot is that of an open transaction
least-among : (places : List (Option ℕ)) (least : Option ℕ) (snapshot : ℕ) → least_with least places ≡ Some snapshot → (least ≡ Some snapshot)
    ⊎ Contains (snapshots_of places) snapshot
least-among [] least snapshot is = inl is
least-among (None ∷ ps) least snapshot is = by (least-among ps (lesser least None) snapshot is)
  where
    by : (lesser least None ≡ Some snapshot) ⊎ Contains (snapshots_of ps) snapshot → (least ≡ Some snapshot) ⊎ Contains (snapshots_of ps) snapshot
    by (inl own) = inl (lesser-none least snapshot own)
    by (inr more) = inr more
least-among (Some t ∷ ps) least snapshot is = by (least-among ps (lesser least (Some t)) snapshot is)
  where
    own : (least ≡ Some snapshot) ⊎ (t ≡ snapshot) → (least ≡ Some snapshot) ⊎ Contains (t ∷ snapshots_of ps) snapshot
    own (inl before) = inl before
    own (inr this) = inr (Contains-head t (snapshots_of ps) snapshot this)

    by : (lesser least (Some t) ≡ Some snapshot) ⊎ Contains (snapshots_of ps) snapshot → (least ≡ Some snapshot) ⊎ Contains (t ∷ snapshots_of ps) snapshot
    by (inl either) = own (lesser-one least t snapshot either)
    by (inr more) = inr (Contains-tail t (snapshots_of ps) snapshot more)

least-open : (opened : List (Option ℕ)) (snapshot : ℕ) → least_open opened ≡ Some snapshot → Contains (snapshots_of opened) snapshot
least-open opened snapshot is = by (least-among opened None snapshot is)
  where
    by : (◌≡◌ {A = Option ℕ} None (Some snapshot)) ⊎ Contains (snapshots_of opened) snapshot → Contains (snapshots_of opened) snapshot
    by (inl none) = absurd cc
    by (inr there) = there

-- what a reclaim's start says of the machine
slots-reclaim : (tells : Bool) (v v' : slot_values.StoreValue) (m : Machine Value) (r : Result (Unit {0}) StartFault) → slots.Stands tells v m
    → reclaims.StartsReclaim v r v'
    → ReclaimSays false m r
slots-reclaim tells v v' m r stands starts = by-tests v.transactions.failed refl (is_some v.job) (v.archived == v.transactions.reclaimed) starts
  where
    says : (x : Result (Unit {0}) StartFault) → r ≡ x → ReclaimSays false m x → ReclaimSays false m r
    says x is so = subst (λ (y : Result (Unit {0}) StartFault). ReclaimSays false m y) (sym is) so

    begins : v.transactions.failed ≡ false → (x : Result (Unit {0}) StartFault) → BeginsReclaim v x v' → ReclaimSays false m x
    begins on (Ok done) is = (sym stands.memory.failed ∙ on)
    begins on (Err start.HeapFull) is = tt
    begins on (Err start.NoMemory) is = tt
    begins on (Err start.Failed) is = absurd is.0
    begins on (Err start.WrongProfile) is = absurd is.0
    begins on (Err start.JobBusy) is = absurd is.0
    begins on (Err start.NothingToDo) is = absurd is.0
    begins on (Err (start.NotYet time)) is = absurd is.0
    begins on (Err (start.InUse time)) is = absurd is.0
    begins on (Err start.StatusFull) is = absurd is.0
    begins on (Err start.ArchiveFull) is = absurd is.0
    begins on (Err start.NotGrowable) is = absurd is.0

    in-use : (snapshot : ℕ) → below (oldest v.transactions) v.archived ≡ Some snapshot → Contains m.snapshots snapshot
    in-use snapshot is =
        Contains-permutation (snapshots_of v.transactions.opened) m.snapshots snapshot
        (IsPermutation-sym m.snapshots (snapshots_of v.transactions.opened) stands.memory.snapshots)
        (least-open v.transactions.opened snapshot (below-is (oldest v.transactions) v.archived snapshot is))

    by-room : v.transactions.failed ≡ false → (e : Bool)
        → MatchOption (cond e (Some start.StatusFull) None) (BeginsReclaim v r v') (λ why. (r ≡ Err why) × (v' ≡ v)) → ReclaimSays false m r
    by-room on true is = says (Err start.StatusFull) is.0 refl
    by-room on false is = begins on r is

    by-use : v.transactions.failed ≡ false → (o : Option ℕ) → below (oldest v.transactions) v.archived ≡ o
        → MatchOption (refusal_for_use v o) (BeginsReclaim v r v') (λ why. (r ≡ Err why) × (v' ≡ v)) → ReclaimSays false m r
    by-use on (Some snapshot) low is = says (Err (start.InUse snapshot)) is.0 (in-use snapshot low)
    by-use on None low is = by-room on (spare v.transactions == 0) is

    by-tests : (a : Bool) → v.transactions.failed ≡ a → (b c : Bool)
        → MatchOption (cond a (Some start.Failed)
        (cond b (Some start.JobBusy) (cond c (Some start.NothingToDo) (refusal_for_use v (below (oldest v.transactions) v.archived)))))
        (BeginsReclaim v r v') (λ why. (r ≡ Err why) × (v' ≡ v))
        → ReclaimSays false m r
    by-tests true on b c is = says (Err start.Failed) is.0 (sym stands.memory.failed ∙ on)
    by-tests false on true c is = says (Err start.JobBusy) is.0 tt
    by-tests false on false true is = says (Err start.NothingToDo) is.0 tt
    by-tests false on false false is = by-use on (below (oldest v.transactions) v.archived) refl is

-- what it says of the machine
slots-grow : (tells : Bool) (v v' : slot_values.StoreValue) (m : Machine Value) (r : Result (Unit {0}) StartFault) → slots.Stands tells v m
    → growths.StartsGrowth v r v'
    → GrowSays m r
slots-grow tells v v' m r stands starts = by-tests v.transactions.failed refl (is_some v.job) starts
  where
    says : (x : Result (Unit {0}) StartFault) → r ≡ x → GrowSays m x → GrowSays m r
    says x is so = subst (λ (y : Result (Unit {0}) StartFault). GrowSays m y) (sym is) so

    by-piece : v.transactions.failed ≡ false → (o : Option GrowthState) → BeginsPiece v o r v' → GrowSays m r
    by-piece on None is = says (Err start.NotGrowable) is.0 tt
    by-piece on (Some growth) is = says (Ok tt) is.0 (sym stands.memory.failed ∙ on)

    by-tests : (a : Bool) → v.transactions.failed ≡ a → (b : Bool)
        → MatchOption (cond a (Some start.Failed) (cond b (Some start.JobBusy) None)) (BeginsPiece v (next_piece v.log) r v') (λ why. (r ≡ Err why) × (v' ≡ v))
        → GrowSays m r
    by-tests true on b is = says (Err start.Failed) is.0 (sym stands.memory.failed ∙ on)
    by-tests false on true is = says (Err start.JobBusy) is.0 tt
    by-tests false on false is = by-piece on (next_piece v.log) is

-- ---- where it lies in the heap

-- what an archive's start says of the machine
log-start : (tells : Bool) (l l' : LogStoreValue) (m : Machine Value) (upto : ℕ) (said : Result (Unit {0}) log_starts.StartFault) → Stands tells (Log l) m
    → log_archives.StartsArchive l upto said l'
    → ArchiveSays true m upto (told_start said)
log-start tells l l' m upto said is starts =
    by-tests l.commits.failed refl (log_values.is_busy l) (nat_le upto l.named.upto) (nat_lt (commits.last l.commits) upto) refl
    (has_archive_room l upto) starts
  where
    memory : StandsInMemory l.commits m
    memory = let store = (is.1).store in store.memory

    at-last : commits.last l.commits ≡ last m.published
    at-last = log_names.last-is l.commits m memory

    says : (x : Result (Unit {0}) log_starts.StartFault) → said ≡ x → ArchiveSays true m upto (told_start x) → ArchiveSays true m upto (told_start said)
    says x same so = subst (λ (y : Result (Unit {0}) log_starts.StartFault). ArchiveSays true m upto (told_start y)) (sym same) so

    begins : l.commits.failed ≡ false → nat_lt (commits.last l.commits) upto ≡ false → (x : Result (Unit {0}) log_starts.StartFault)
        → log_archives.BeginsRun l upto x l' → ArchiveSays true m upto (told_start x)
    begins on early (Ok done) begun =
        (sym memory.failed ∙ on, (let low : upto ≤ commits.last l.commits = grind (arith, nat_tests) in omega (arith, low, at-last)))
    begins on early (Err log_fault.ArchiveFull) refused = tt
    begins on early (Err log_fault.NoMemory) refused = tt
    begins on early (Err log_fault.Failed) refused = absurd refused.0
    begins on early (Err log_fault.WrongProfile) refused = absurd refused.0
    begins on early (Err log_fault.JobBusy) refused = absurd refused.0
    begins on early (Err log_fault.NothingToDo) refused = absurd refused.0
    begins on early (Err (log_fault.NotYet time)) refused = absurd refused.0
    begins on early (Err (log_fault.InUse time)) refused = absurd refused.0
    begins on early (Err log_fault.HeapFull) refused = absurd refused.0

    by-tests : (a : Bool) → l.commits.failed ≡ a → (b c d : Bool) → nat_lt (commits.last l.commits) upto ≡ d → (e : Bool)
        → MatchOption (cond a (Some log_fault.Failed)
        (cond b (Some log_fault.JobBusy)
        (cond c (Some log_fault.NothingToDo) (cond d (Some (log_fault.NotYet (commits.last l.commits))) (cond e None (Some log_fault.HeapFull))))))
        (log_archives.BeginsRun l upto said l') (λ why. (said ≡ Err why) × (l' ≡ l))
        → ArchiveSays true m upto (told_start said)
    by-tests true on b c d late e is = says (Err log_fault.Failed) is.0 (sym memory.failed ∙ on)
    by-tests false on true c d late e is = says (Err log_fault.JobBusy) is.0 tt
    by-tests false on false true d late e is = says (Err log_fault.NothingToDo) is.0 tt
    by-tests false on false false true late e is =
        says (Err (log_fault.NotYet (commits.last l.commits))) is.0
        (at-last, (let low : commits.last l.commits < upto = grind (arith, nat_tests) in omega (arith, low)))
    by-tests false on false false false late false is = says (Err log_fault.HeapFull) is.0 refl
    by-tests false on false false false late true is = begins on late said is

-- the snapshot that a reclaim would leave without its versions is that of an open transaction
log-in-use : (l : LogStoreValue) (m : Machine Value) → StandsInMemory l.commits m → (o : Option ℕ) → log_calls.oldest l.commits ≡ o → (mark snapshot : ℕ)
    → log_reclaims.refusal_for_use o mark ≡ Some (log_fault.InUse snapshot) → Contains m.snapshots snapshot
log-in-use l m memory None least mark snapshot is = absurd cc
log-in-use l m memory (Some s) least mark snapshot is = by-test (nat_lt s mark) is
  where
    by-test : (b : Bool) → cond b (Some (log_fault.InUse s)) None ≡ Some (log_fault.InUse snapshot) → Contains m.snapshots snapshot
    by-test true same =
        let own : s ≡ snapshot = cc in
        Contains-permutation (snapshots_of l.commits.opened) m.snapshots snapshot
        (IsPermutation-sym m.snapshots (snapshots_of l.commits.opened) memory.snapshots)
        (least-open l.commits.opened snapshot (least ∙ ap (λ (n : ℕ). Some n) own))
    by-test false same = absurd cc

-- what a reclaim's start says of the machine
log-reclaim : (tells : Bool) (l l' : LogStoreValue) (m : Machine Value) (said : Result (Unit {0}) log_starts.StartFault) → Stands tells (Log l) m
    → log_reclaims.StartsReclaim l said l'
    → ReclaimSays true m (told_start said)
log-reclaim tells l l' m said is starts = by-tests l.commits.failed refl (log_values.is_busy l) (log_reclaims.has_nothing l) starts
  where
    memory : StandsInMemory l.commits m
    memory = let store = (is.1).store in store.memory

    says : (x : Result (Unit {0}) log_starts.StartFault) → said ≡ x → ReclaimSays true m (told_start x) → ReclaimSays true m (told_start said)
    says x same so = subst (λ (y : Result (Unit {0}) log_starts.StartFault). ReclaimSays true m (told_start y)) (sym same) so

    begins : l.commits.failed ≡ false → (x : Result (Unit {0}) log_starts.StartFault) → log_reclaims.BeginsReclaim l x l' → ReclaimSays true m (told_start x)
    begins on (Ok done) begun = sym memory.failed ∙ on
    begins on (Err log_fault.HeapFull) refused = tt
    begins on (Err log_fault.ArchiveFull) refused = refl
    begins on (Err log_fault.NoMemory) refused = tt
    begins on (Err log_fault.Failed) refused = absurd refused.0
    begins on (Err log_fault.WrongProfile) refused = absurd refused.0
    begins on (Err log_fault.JobBusy) refused = absurd refused.0
    begins on (Err log_fault.NothingToDo) refused = absurd refused.0
    begins on (Err (log_fault.NotYet time)) refused = absurd refused.0
    begins on (Err (log_fault.InUse time)) refused = absurd refused.0

    by-use : l.commits.failed ≡ false → (o : Option ℕ) → log_calls.oldest l.commits ≡ o
        → MatchOption (log_reclaims.refusal_for_use o l.named.upto) (log_reclaims.BeginsReclaim l said l') (λ why. (said ≡ Err why) × (l' ≡ l))
        → ReclaimSays true m (told_start said)
    by-use on None least is = begins on said is
    by-use on (Some s) least is = by-mark (nat_lt s l.named.upto) refl is
      where
        by-mark : (b : Bool) → nat_lt s l.named.upto ≡ b
            → MatchOption (cond b (Some (log_fault.InUse s)) None) (log_reclaims.BeginsReclaim l said l') (λ why. (said ≡ Err why) × (l' ≡ l))
            → ReclaimSays true m (told_start said)
        by-mark true low refused =
            says (Err (log_fault.InUse s)) refused.0
            (log-in-use l m memory (Some s) least l.named.upto s (ap (λ (b : Bool). cond b (Some (log_fault.InUse s)) None) low))
        by-mark false low begun = begins on said begun

    by-tests : (a : Bool) → l.commits.failed ≡ a → (b c : Bool)
        → MatchOption (cond a (Some log_fault.Failed)
        (cond b (Some log_fault.JobBusy)
        (cond c (Some log_fault.NothingToDo) (log_reclaims.refusal_for_use (log_calls.oldest l.commits) l.named.upto))))
        (log_reclaims.BeginsReclaim l said l') (λ why. (said ≡ Err why) × (l' ≡ l))
        → ReclaimSays true m (told_start said)
    by-tests true on b c is = says (Err log_fault.Failed) is.0 (sym memory.failed ∙ on)
    by-tests false on true c is = says (Err log_fault.JobBusy) is.0 tt
    by-tests false on false true is = says (Err log_fault.NothingToDo) is.0 tt
    by-tests false on false false is = by-use on (log_calls.oldest l.commits) refl is

module _ (tells : Bool) (why : StartFault) (answer : Result (Unit {0}) StartFault) (l l' : LogStoreValue) (m : Machine Value) (is : Stands tells (Log l) m)
    (Says : Result (Unit {0}) StartFault → Type 0) where
  -- a store that works begins none for this reason, and one that has failed says so
  none-says : (m.failed ≡ true → Says (Err start.Failed)) → Says (Err why) → BeginsNone why answer l l' → Says answer
  none-says failed works none = by-failed l.commits.failed refl none.0
    where
      by-failed : (b : Bool) → l.commits.failed ≡ b → answer ≡ Err (none_of b why) → Says answer
      by-failed true fails said = let store = (is.1).store in subst Says (sym said) (failed (sym store.memory.failed ∙ fails))
      by-failed false on said = subst Says (sym said) works

-- ---- in either

pub start-says : (tells : Bool) (old new : StoreValue) (upto : ℕ) (answer : Result (Unit {0}) StartFault) (m : Machine Value) → Stands tells old m
    → StartsArchive old upto answer new → ArchiveSays (is_log old) m upto answer
start-says tells (Slots s) (Slots s') upto answer m is starts = slots-start tells s s' m upto answer is starts
start-says tells (Slots s) (Log l') upto answer m is starts = absurd starts
start-says tells (Log l) (Slots s') upto answer m is starts = absurd starts
start-says tells (Log l) (Log l') upto answer m is starts =
    subst (λ (a : Result (Unit {0}) StartFault). ArchiveSays true m upto a) (sym starts.2) (log-start tells l l' m upto starts.0 is starts.1)

pub reclaim-says : (tells : Bool) (old new : StoreValue) (answer : Result (Unit {0}) StartFault) (m : Machine Value) → Stands tells old m
    → StartsReclaim old answer new → ReclaimSays (is_log old) m answer
reclaim-says tells (Slots s) (Slots s') answer m is starts = slots-reclaim tells s s' m answer is starts
reclaim-says tells (Slots s) (Log l') answer m is starts = absurd starts
reclaim-says tells (Log l) (Slots s') answer m is starts = absurd starts
reclaim-says tells (Log l) (Log l') answer m is starts =
    subst (λ (a : Result (Unit {0}) StartFault). ReclaimSays true m a) (sym starts.2) (log-reclaim tells l l' m starts.0 is starts.1)

pub grow-says : (tells : Bool) (old new : StoreValue) (answer : Result (Unit {0}) StartFault) (m : Machine Value) → Stands tells old m
    → StartsGrowth old answer new → GrowSays m answer
grow-says tells (Slots s) (Slots s') answer m is starts = slots-grow tells s s' m answer is starts
grow-says tells (Slots s) (Log l') answer m is starts = absurd starts
grow-says tells (Log l) (Slots s') answer m is starts = absurd starts
grow-says tells (Log l) (Log l') answer m is starts = none-says tells start.NotGrowable answer l l' m is (GrowSays m) (λ failed. failed) tt starts
