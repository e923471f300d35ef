-- What the starts of jobs answer, in either layout.
use Rattle.std.proofs.Common.{◌≡◌, ℕ, ◌<◌, ◌≤◌, ◌==◌, nat_le, nat_lt, Bool, true, false, cond, is_some, Option, None, Some, Result, Ok, Err, MatchOption}
use Rattle.std.proofs.Common.{refl, sym, ap}
use Rattle.std.proofs.Common.{◌∙◌, subst, arith}
use Rattle.std.proofs.lemmas.Bool.Decides.{nat_tests}
use Rattle.history.specs.Histories.{last}
use Rattle.history.specs.Machine.{Machine}
use Rattle.law_image.specs.Values.{Value}
use Rattle.group.specs.Reclaims.{oldest}
use Rattle.group.specs.Values.{spare}
use Rattle.status.specs.Growth.{next_piece}
use Rattle.status.specs.GrowthState.{GrowthState}
use Rattle.store.specs.Values.{StoreValue}
use Rattle.store.specs.Calls as stores
use Rattle.store.specs.Archives.{StartsArchive, BeginsRun}
use Rattle.store.specs.Reclaims.{StartsReclaim, BeginsReclaim, below, refusal_for_use}
use Rattle.store.specs.Growths.{StartsGrowth, BeginsPiece}
use Rattle.store.specs.declared.job.StartFault.{StartFault}
use Rattle.store.specs.declared.job.StartFault.TheVariants as fault
use Rattle.commits.specs.Calls.{oldest as log_oldest}
use Rattle.commits.specs.Values as commits
use Rattle.log_store.specs.Archives as log_archives
use Rattle.log_store.specs.Jobs as log_jobs
use Rattle.log_store.specs.Reclaims as log_reclaims
use Rattle.log_store.specs.Values.{LogStoreValue}
use Rattle.log_store.specs.Values as log_values
use Rattle.log_store.specs.declared.job.StartFault.{StartFault as LogFault}
use Rattle.log_store.specs.declared.job.StartFault.TheVariants as log_fault
use Rattle.any_store.specs.Jobs as jobs
use Rattle.any_store.specs.Jobs.{none_of, told_start}
use Rattle.any_store.specs.Values as any
use Rattle.any_store.specs.Values.{is_log}
use Rattle.any_store.specs.declared.engine.Engine.TheVariants.{Slots, Log}
use Rattle.law_commits.specs.Standing as log_standing
use Rattle.law_refinement.specs.Standing.{StandsInMemory}
use Rattle.law_refinement.proofs.FloorStarts.{in-use}
use Rattle.law_refinement.proofs.Memory.{last-is}
use Rattle.law_any_store.specs.Standing.{Stands}
use Rattle.law_any_store.proofs.Memory.{last-published}
use Rattle.shared.specs.Shared.{ArchiveSays, ReclaimSays, GrowthSays}
use Rattle.shared.proofs.Engines.{in-memory}

-- ---- archives

-- of slots
slots-archive : (old new : StoreValue) (upto : ℕ) (m : Machine Value) (r : Result (Unit {0}) StartFault) → StandsInMemory old.transactions m
    → StartsArchive old upto r new → ArchiveSays false m upto r
slots-archive old new upto m r stands starts =
    by-tests old.transactions.failed refl (is_some old.job) (nat_le upto old.archived) (nat_lt (stores.last old) upto) refl (spare old.transactions == 0) starts
  where
    said : (x : Result (Unit {0}) StartFault) → r ≡ x → ArchiveSays false m upto x → ArchiveSays false m upto r
    said x is says = subst (λ (y : Result (Unit {0}) StartFault). ArchiveSays false m upto y) (sym is) says

    last-of : stores.last old ≡ last m.published
    last-of = last-is old.transactions m stands

    by-run : m.failed ≡ false → upto ≤ last m.published → (x : Result (Unit {0}) StartFault) → BeginsRun old upto x new → ArchiveSays false m upto x
    by-run works by-last (Ok done) is = (works, by-last)
    by-run works by-last (Err fault.ArchiveFull) is = (works, by-last)
    by-run works by-last (Err fault.NoMemory) is = (works, by-last)
    by-run works by-last (Err fault.Failed) is = absurd is.0
    by-run works by-last (Err fault.WrongProfile) is = absurd is.0
    by-run works by-last (Err fault.JobBusy) is = absurd is.0
    by-run works by-last (Err fault.NothingToDo) is = absurd is.0
    by-run works by-last (Err (fault.NotYet time)) is = absurd is.0
    by-run works by-last (Err (fault.InUse time)) is = absurd is.0
    by-run works by-last (Err fault.StatusFull) is = absurd is.0
    by-run works by-last (Err fault.HeapFull) is = absurd is.0
    by-run works by-last (Err fault.NotGrowable) is = absurd is.0

    by-tests : (a : Bool) → old.transactions.failed ≡ a → (b c d : Bool) → nat_lt (stores.last old) upto ≡ d → (e : Bool)
        → MatchOption (cond a (Some fault.Failed)
        (cond b (Some fault.JobBusy)
        (cond c (Some fault.NothingToDo) (cond d (Some (fault.NotYet (stores.last old))) (cond e (Some fault.StatusFull) None)))))
        (BeginsRun old upto r new) (λ why. (r ≡ Err why) × (new ≡ old))
        → ArchiveSays false m upto r
    by-tests true failed b c d late e is = said (Err fault.Failed) is.0 (sym stands.failed ∙ failed)
    by-tests false works true c d late e is = said (Err fault.JobBusy) is.0 (sym stands.failed ∙ works)
    by-tests false works false true d late e is = said (Err fault.NothingToDo) is.0 (sym stands.failed ∙ works)
    by-tests false works false false true late e is =
        let later : stores.last old < upto = grind (arith, nat_tests) in
        said (Err (fault.NotYet (stores.last old))) is.0 (sym stands.failed ∙ works, omega (arith, later, last-of), last-of)
    by-tests false works false false false late true is =
        let by-last : upto ≤ stores.last old = grind (arith, nat_tests) in
        said (Err fault.StatusFull) is.0 (refl, sym stands.failed ∙ works, omega (arith, by-last, last-of))
    by-tests false works false false false late false is =
        let by-last : upto ≤ stores.last old = grind (arith, nat_tests) in
        by-run (sym stands.failed ∙ works) (omega (arith, by-last, last-of)) r is

-- of one whose log lies in the heap
log-archive : (old new : LogStoreValue) (upto : ℕ) (m : Machine Value) (r : Result (Unit {0}) LogFault) → old.commits.failed ≡ m.failed
    → commits.last old.commits ≡ last m.published → log_archives.StartsArchive old upto r new → ArchiveSays true m upto (told_start r)
log-archive old new upto m r same last-of starts =
    by-tests old.commits.failed refl (log_values.is_busy old) (nat_le upto old.named.upto) (nat_lt (commits.last old.commits) upto) refl
    (log_archives.has_archive_room old upto) starts
  where
    said : (x : Result (Unit {0}) LogFault) → r ≡ x → ArchiveSays true m upto (told_start x) → ArchiveSays true m upto (told_start r)
    said x is says = subst (λ (y : Result (Unit {0}) LogFault). ArchiveSays true m upto (told_start y)) (sym is) says

    by-run : m.failed ≡ false → upto ≤ last m.published → (x : Result (Unit {0}) LogFault) → log_archives.BeginsRun old upto x new
        → ArchiveSays true m upto (told_start x)
    by-run works by-last (Ok done) is = (works, by-last)
    by-run works by-last (Err log_fault.ArchiveFull) is = (works, by-last)
    by-run works by-last (Err log_fault.NoMemory) is = (works, by-last)
    by-run works by-last (Err log_fault.Failed) is = absurd is.0
    by-run works by-last (Err log_fault.WrongProfile) is = absurd is.0
    by-run works by-last (Err log_fault.JobBusy) is = absurd is.0
    by-run works by-last (Err log_fault.NothingToDo) is = absurd is.0
    by-run works by-last (Err (log_fault.NotYet time)) is = absurd is.0
    by-run works by-last (Err (log_fault.InUse time)) is = absurd is.0
    by-run works by-last (Err log_fault.HeapFull) is = absurd is.0

    by-tests : (a : Bool) → old.commits.failed ≡ a → (b c d : Bool) → nat_lt (commits.last old.commits) upto ≡ d → (e : Bool)
        → MatchOption (cond a (Some log_fault.Failed)
        (cond b (Some log_fault.JobBusy)
        (cond c (Some log_fault.NothingToDo) (cond d (Some (log_fault.NotYet (commits.last old.commits))) (cond e None (Some log_fault.HeapFull))))))
        (log_archives.BeginsRun old upto r new) (λ why. (r ≡ Err why) × (new ≡ old))
        → ArchiveSays true m upto (told_start r)
    by-tests true failed b c d late e is = said (Err log_fault.Failed) is.0 (sym same ∙ failed)
    by-tests false works true c d late e is = said (Err log_fault.JobBusy) is.0 (sym same ∙ works)
    by-tests false works false true d late e is = said (Err log_fault.NothingToDo) is.0 (sym same ∙ works)
    by-tests false works false false true late e is =
        let later : commits.last old.commits < upto = grind (arith, nat_tests) in
        said (Err (log_fault.NotYet (commits.last old.commits))) is.0 (sym same ∙ works, omega (arith, later, last-of), last-of)
    by-tests false works false false false late false is =
        let by-last : upto ≤ commits.last old.commits = grind (arith, nat_tests) in
        said (Err log_fault.HeapFull) is.0 (refl, sym same ∙ works, omega (arith, by-last, last-of))
    by-tests false works false false false late true is =
        let by-last : upto ≤ commits.last old.commits = grind (arith, nat_tests) in
        by-run (sym same ∙ works) (omega (arith, by-last, last-of)) r is

-- what the beginning of an archive answers
pub archive-says : (tells : Bool) (old new : any.StoreValue) (upto : ℕ) (m : Machine Value) (r : Result (Unit {0}) StartFault) → Stands tells old m
    → jobs.StartsArchive old upto r new → ArchiveSays (is_log old) m upto r
archive-says tells (Slots s) (Slots s') upto m r stands starts = slots-archive s s' upto m r stands.memory starts
archive-says tells (Slots s) (Log l') upto m r stands starts = absurd starts
archive-says tells (Log l) (Slots s') upto m r stands starts = absurd starts
archive-says tells (Log l) (Log l') upto m r stands starts =
    subst (λ (x : Result (Unit {0}) StartFault). ArchiveSays true m upto x) (sym starts.2)
    (log-archive l l' upto m starts.0 (in-memory tells (Log l) m stands).failed (last-published tells (Log l) m stands) starts.1)

-- ---- reclaims

-- of slots
slots-reclaim : (old new : StoreValue) (m : Machine Value) (r : Result (Unit {0}) StartFault) → StandsInMemory old.transactions m → StartsReclaim old r new
    → ReclaimSays false m r
slots-reclaim old new m r stands starts =
    by-tests old.transactions.failed refl (is_some old.job) (old.archived == old.transactions.reclaimed) (below (oldest old.transactions) old.archived) refl
    starts
  where
    said : (x : Result (Unit {0}) StartFault) → r ≡ x → ReclaimSays false m x → ReclaimSays false m r
    said x is says = subst (λ (y : Result (Unit {0}) StartFault). ReclaimSays false m y) (sym is) says

    by-anchors : m.failed ≡ false → (x : Result (Unit {0}) StartFault) → BeginsReclaim old x new → ReclaimSays false m x
    by-anchors works (Ok done) is = works
    by-anchors works (Err fault.HeapFull) is = works
    by-anchors works (Err fault.NoMemory) is = works
    by-anchors works (Err fault.Failed) is = absurd is.0
    by-anchors works (Err fault.WrongProfile) is = absurd is.0
    by-anchors works (Err fault.JobBusy) is = absurd is.0
    by-anchors works (Err fault.NothingToDo) is = absurd is.0
    by-anchors works (Err (fault.NotYet time)) is = absurd is.0
    by-anchors works (Err (fault.InUse time)) is = absurd is.0
    by-anchors works (Err fault.StatusFull) is = absurd is.0
    by-anchors works (Err fault.ArchiveFull) is = absurd is.0
    by-anchors works (Err fault.NotGrowable) is = absurd is.0

    by-room : m.failed ≡ false → (e : Bool) → MatchOption (cond e (Some fault.StatusFull) None) (BeginsReclaim old r new) (λ why. (r ≡ Err why) × (new ≡ old))
        → ReclaimSays false m r
    by-room works true is = said (Err fault.StatusFull) is.0 (refl, works)
    by-room works false is = by-anchors works r is

    by-use : m.failed ≡ false → (o : Option ℕ) → below (oldest old.transactions) old.archived ≡ o
        → MatchOption (refusal_for_use old o) (BeginsReclaim old r new) (λ why. (r ≡ Err why) × (new ≡ old)) → ReclaimSays false m r
    by-use works (Some snapshot) used is =
        said (Err (fault.InUse snapshot)) is.0 (works, (old.archived, in-use old.transactions.opened m.snapshots old.archived snapshot stands.snapshots used))
    by-use works None used is = by-room works (spare old.transactions == 0) is

    by-tests : (a : Bool) → old.transactions.failed ≡ a → (b c : Bool) (o : Option ℕ) → below (oldest old.transactions) old.archived ≡ o
        → MatchOption (cond a (Some fault.Failed) (cond b (Some fault.JobBusy) (cond c (Some fault.NothingToDo) (refusal_for_use old o))))
        (BeginsReclaim old r new) (λ why. (r ≡ Err why) × (new ≡ old)) → ReclaimSays false m r
    by-tests true failed b c o used is = said (Err fault.Failed) is.0 (sym stands.failed ∙ failed)
    by-tests false works true c o used is = said (Err fault.JobBusy) is.0 (sym stands.failed ∙ works)
    by-tests false works false true o used is = said (Err fault.NothingToDo) is.0 (sym stands.failed ∙ works)
    by-tests false works false false o used is = by-use (sym stands.failed ∙ works) o used is

-- of one whose log lies in the heap
log-reclaim : (old new : LogStoreValue) (m : Machine Value) (r : Result (Unit {0}) LogFault) → log_standing.StandsInMemory old.commits m
    → log_reclaims.StartsReclaim old r new → ReclaimSays true m (told_start r)
log-reclaim old new m r stands starts = by-tests old.commits.failed refl (log_values.is_busy old) (log_reclaims.has_nothing old) starts
  where
    said : (x : Result (Unit {0}) LogFault) → r ≡ x → ReclaimSays true m (told_start x) → ReclaimSays true m (told_start r)
    said x is says = subst (λ (y : Result (Unit {0}) LogFault). ReclaimSays true m (told_start y)) (sym is) says

    by-base : m.failed ≡ false → (x : Result (Unit {0}) LogFault) → log_reclaims.BeginsReclaim old x new → ReclaimSays true m (told_start x)
    by-base works (Ok done) is = works
    by-base works (Err log_fault.HeapFull) is = works
    by-base works (Err log_fault.ArchiveFull) is = (refl, works)
    by-base works (Err log_fault.NoMemory) is = works
    by-base works (Err log_fault.Failed) is = absurd is.0
    by-base works (Err log_fault.WrongProfile) is = absurd is.0
    by-base works (Err log_fault.JobBusy) is = absurd is.0
    by-base works (Err log_fault.NothingToDo) is = absurd is.0
    by-base works (Err (log_fault.NotYet time)) is = absurd is.0
    by-base works (Err (log_fault.InUse time)) is = absurd is.0

    by-use : m.failed ≡ false → (o : Option ℕ) → log_oldest old.commits ≡ o
        → MatchOption (log_reclaims.refusal_for_use o old.named.upto) (log_reclaims.BeginsReclaim old r new) (λ why. (r ≡ Err why) × (new ≡ old))
        → ReclaimSays true m (told_start r)
    by-use works None least is = by-base works r is
    by-use works (Some s) least is = by-mark (nat_lt s old.named.upto) refl is
      where
        by-mark : (b : Bool) → nat_lt s old.named.upto ≡ b
            → MatchOption (cond b (Some (log_fault.InUse s)) None) (log_reclaims.BeginsReclaim old r new) (λ why. (r ≡ Err why) × (new ≡ old))
            → ReclaimSays true m (told_start r)
        by-mark false high begun = by-base works r begun
        by-mark true low refused =
            let used : below (log_oldest old.commits) old.named.upto ≡ Some s =
            ap (λ (o : Option ℕ). below o old.named.upto) least ∙ ap (λ (b : Bool). cond b (Some s) None) low in
            said (Err (log_fault.InUse s)) refused.0 (works, (old.named.upto, in-use old.commits.opened m.snapshots old.named.upto s stands.snapshots used))

    by-tests : (a : Bool) → old.commits.failed ≡ a → (b c : Bool)
        → MatchOption (cond a (Some log_fault.Failed)
        (cond b (Some log_fault.JobBusy)
        (cond c (Some log_fault.NothingToDo) (log_reclaims.refusal_for_use (log_oldest old.commits) old.named.upto))))
        (log_reclaims.BeginsReclaim old r new) (λ why. (r ≡ Err why) × (new ≡ old))
        → ReclaimSays true m (told_start r)
    by-tests true failed b c is = said (Err log_fault.Failed) is.0 (sym stands.failed ∙ failed)
    by-tests false works true c is = said (Err log_fault.JobBusy) is.0 (sym stands.failed ∙ works)
    by-tests false works false true is = said (Err log_fault.NothingToDo) is.0 (sym stands.failed ∙ works)
    by-tests false works false false is = by-use (sym stands.failed ∙ works) (log_oldest old.commits) refl is

-- what the beginning of a reclaim answers
pub reclaim-says : (tells : Bool) (old new : any.StoreValue) (m : Machine Value) (r : Result (Unit {0}) StartFault) → Stands tells old m
    → jobs.StartsReclaim old r new → ReclaimSays (is_log old) m r
reclaim-says tells (Slots s) (Slots s') m r stands starts = slots-reclaim s s' m r stands.memory starts
reclaim-says tells (Slots s) (Log l') m r stands starts = absurd starts
reclaim-says tells (Log l) (Slots s') m r stands starts = absurd starts
reclaim-says tells (Log l) (Log l') m r stands starts =
    subst (λ (x : Result (Unit {0}) StartFault). ReclaimSays true m x) (sym starts.2) (log-reclaim l l' m starts.0 (in-memory tells (Log l) m stands) starts.1)

-- ---- growths

-- of slots, by whether the store has failed
slots-growth : (old new : StoreValue) (m : Machine Value) (r : Result (Unit {0}) StartFault) → old.transactions.failed ≡ m.failed → StartsGrowth old r new
    → GrowthSays m r
slots-growth old new m r same starts = by-tests old.transactions.failed refl (is_some old.job) starts
  where
    said : (x : Result (Unit {0}) StartFault) → r ≡ x → GrowthSays m x → GrowthSays m r
    said x is says = subst (λ (y : Result (Unit {0}) StartFault). GrowthSays m y) (sym is) says

    by-piece : old.transactions.failed ≡ false → (o : Option GrowthState) → BeginsPiece old o r new → GrowthSays m r
    by-piece works None is = said (Err fault.NotGrowable) is.0 (sym same ∙ works)
    by-piece works (Some growth) is = said (Ok tt) is.0 (sym same ∙ works)

    by-tests : (failed : Bool) → old.transactions.failed ≡ failed → (busy : Bool)
        → MatchOption (cond failed (Some fault.Failed) (cond busy (Some fault.JobBusy) None)) (BeginsPiece old (next_piece old.log) r new) (λ why. (r ≡ Err why)
        × (new ≡ old)) → GrowthSays m r
    by-tests true failed busy is = said (Err fault.Failed) is.0 (sym same ∙ failed)
    by-tests false works true is = said (Err fault.JobBusy) is.0 (sym same ∙ works)
    by-tests false works false is = by-piece works (next_piece old.log) is

-- what the beginning of a growth answers
pub growth-says : (tells : Bool) (old new : any.StoreValue) (m : Machine Value) (r : Result (Unit {0}) StartFault) → Stands tells old m
    → jobs.StartsGrowth old r new → GrowthSays m r
growth-says tells (Slots s) (Slots s') m r stands starts = slots-growth s s' m r stands.memory.failed starts
growth-says tells (Slots s) (Log l') m r stands starts = absurd starts
growth-says tells (Log l) (Slots s') m r stands starts = absurd starts
growth-says tells (Log l) (Log l') m r stands starts =
    subst (λ (x : Result (Unit {0}) StartFault). GrowthSays m x) (sym starts.0) (by-failure l.commits.failed (sym (in-memory tells (Log l) m stands).failed))
  where
    by-failure : (b : Bool) → m.failed ≡ b → GrowthSays m (Err (none_of b fault.NotGrowable))
    by-failure true fails = fails
    by-failure false works = works

-- ---- floors

-- a start that is refused for another reason than that is one of a store that works
first-works : (failed : Bool) (rest : Option StartFault) (Begins : Type 0) (r : Result (Unit {0}) StartFault) (old new : StoreValue)
    → MatchOption (cond failed (Some fault.Failed) rest) Begins (λ why. (r ≡ Err why) × (new ≡ old)) → (r ≡ Err fault.Failed → ⊥) → failed ≡ false
first-works true rest Begins r old new is other = absurd (other is.0)
first-works false rest Begins r old new is other = refl

-- so it is where the log lies in the heap
log-works : (old new : LogStoreValue) (scope : Option ℕ) (floor : ℕ) (said : Result (Unit {0}) LogFault) → log_jobs.StartsFloor old scope floor said new
    → (said ≡ Err log_fault.Failed → ⊥) → old.commits.failed ≡ false
log-works old new None floor said starts other = by-failure old.commits.failed starts
  where
    by-failure : (b : Bool)
        → MatchOption (cond b (Some log_fault.Failed) (Some log_fault.WrongProfile)) (log_jobs.BeginsFloor old None floor said new) (λ why. (said ≡ Err why)
        × (new ≡ old)) → b ≡ false
    by-failure true is = absurd (other is.0)
    by-failure false is = refl
log-works old new (Some relation) floor said starts other = by-failure old.commits.failed starts
  where
    by-failure : (b : Bool)
        → MatchOption (cond b (Some log_fault.Failed) (log_jobs.floor_refusal_of old relation floor)) (log_jobs.BeginsFloor old (Some relation) floor said new)
        (λ why. (said ≡ Err why) × (new ≡ old)) → b ≡ false
    by-failure true is = absurd (other is.0)
    by-failure false is = refl

-- so is one of a floor
pub floor-works : (tells : Bool) (old new : any.StoreValue) (scope : Option ℕ) (floor : ℕ) (r : Result (Unit {0}) StartFault) (m : Machine Value)
    → Stands tells old m → jobs.StartsFloor old scope floor r new → (r ≡ Err fault.Failed → ⊥) → m.failed ≡ false
floor-works tells (Slots s) (Slots s') scope floor r m stands starts other =
    sym stands.memory.failed ∙ first-works s.transactions.failed _ _ r s s' starts other
floor-works tells (Slots s) (Log l') scope floor r m stands starts other = absurd starts
floor-works tells (Log l) (Slots s') scope floor r m stands starts other = absurd starts
floor-works tells (Log l) (Log l') scope floor r m stands starts other =
    sym (in-memory tells (Log l) m stands).failed
    ∙ log-works l l' scope floor starts.0 starts.1 (λ failed. other (starts.2 ∙ ap told_start failed))
