-- The calls that ask nothing of the disk are steps of the machine.
use Rattle.std.proofs.Common.{◌≡◌, ℕ, ◌<◌, ◌≤◌, ◌^◌, ◌==◌, Bool, true, false, List, [], ◌∷◌, length, take, Option, None, Some, Result, Ok, Err, MatchBool, cond}
use Rattle.std.proofs.Common.{refl, arith, ap, sym, subst, ◌∙◌, ⊎_elim}
use Rattle.std.specs.Prelude.{◌⊎◌, IsPermutation, Contains}
use Rattle.std.specs.List.{AllByRecursion, list_all}
use Rattle.std.proofs.lemmas.Bool.Decides.{nat_tests}
use Rattle.std.proofs.lemmas.List.Sorted.{IsPermutation-refl, IsPermutation-sym, IsPermutation-cons, IsPermutation-trans, Contains-permutation}
use Rattle.history.specs.declared.key.Key.{Key}
use Rattle.history.specs.Histories.{last, state, HasRisingTimes}
use Rattle.history.specs.Time.{value_at}
use Rattle.history.proofs.Histories.{last_after-range}
use Rattle.history.specs.Machine.{Machine, commit_order, IsMachine, IsKeptSnapshot}
use Rattle.history.specs.Steps.{Step, Aborted, begun}
use Rattle.history.proofs.Members.{Contains-cons_cases, Contains-head, Contains-tail, Contains-nil}
use Rattle.law_image.specs.Values.{Value, IsValue}
use Rattle.chains.specs.KeyWrites.{writes_of}
use Rattle.snapshot.specs.OpenTable.{snapshot_of, with_opened, with_closed}
use Rattle.snapshot.specs.Txn.{TxnValue}
use Rattle.group.specs.CommitOrder.{last_time}
use Rattle.group.specs.declared.answers.BeginFault.{BeginFault}
use Rattle.group.specs.declared.answers.BeginFault.TheVariants as fault
use Rattle.group.specs.Values.{TransactionsValue, is_own, is_snapshot, is_of_value, over}
use Rattle.group.specs.Calls as calls
use Rattle.law_refinement.specs.Standing.{StandsInMemory, snapshots_of}
use Rattle.law_refinement.specs.Laws.{BeginsAs}
use Rattle.law_refinement.proofs.Openings.{opened_one, closed_one}
use Rattle.law_refinement.proofs.Names.{last-named, front-named, rising-named}
use Rattle.law_refinement.proofs.Conflicts.{rising-front}
use Rattle.law_refinement.proofs.Held.{state-held}

-- the last published time is that of the published history
pub last-is : (v : TransactionsValue) (m : Machine Value) → StandsInMemory v m → calls.last v ≡ last m.published
last-is v m stands =
    ap (λ (n : ℕ). last_time (take n v.heads)) stands.published
    ∙ last-named 0 (take (length m.published) v.heads) m.published (front-named v.heads m.published m.queue stands.names)

-- the commits of its memory rise
pub published-rises : (v : TransactionsValue) (m : Machine Value) → StandsInMemory v m → HasRisingTimes 0 m.published
published-rises v m stands = rising-front 0 m.published m.queue (rising-named 0 v.heads (commit_order m) stands.names stands.rising)

pub all-of : (P : ℕ → Type 0) (xs : List ℕ) (y : ℕ) → AllByRecursion P xs → Contains xs y → P y
all-of P [] y all has = absurd (Contains-nil y has)
all-of P (x ∷ xs) y all has = ⊎_elim (λ (is : x ≡ y). subst P is all.0) (λ (more : Contains xs y). all-of P xs y all.1 more) (Contains-cons_cases x xs y has)

-- what memory has of a key at a kept time that is not forgotten is the history's
pub sees-at : (v : TransactionsValue) (m : Machine Value) → StandsInMemory v m → (time : ℕ) → IsKeptSnapshot m.floors (last m.published) time
    → v.reclaimed ≤ time → (key : Key) → value_at (writes_of v.versions key) time ≡ state m.published time key
sees-at v m stands time kept recent key =
    let rising = published-rises v m stands in
    let range : last m.published < 2 ^ 63 = last_after-range 0 m.published (omega arith) rising in
    let early = kept.published in
    state-held stands.versions rising key time (kept.kept key.relation) recent (omega arith)

-- so it is at the time of the last commit
pub begun-sees : (v : TransactionsValue) (m : Machine Value) → StandsInMemory v m → IsMachine IsValue m → (snapshot : ℕ) → snapshot ≡ last m.published
    → (key : Key) → value_at (writes_of v.versions key) snapshot ≡ state m.published snapshot key
begun-sees v m stands machine snapshot newest key =
    let marked = stands.versions.marked in
    sees-at v m stands snapshot (record {
      published = omega arith;
      kept = λ relation. let reached = machine.floors_reached relation in omega arith;
    }) (omega arith) key

-- the snapshots once one more is open, and once one is closed
pub opened-were : (opened : List (Option ℕ)) (number snapshot : ℕ) → snapshot_of number opened ≡ None → (s : ℕ)
    → Contains (snapshots_of (with_opened opened number snapshot)) s → (snapshot ≡ s) ⊎ Contains (snapshots_of opened) s
opened-were opened number snapshot none s is =
    Contains-cons_cases snapshot (snapshots_of opened) s
    (Contains-permutation (snapshots_of (with_opened opened number snapshot)) (snapshot ∷ snapshots_of opened) s
    (IsPermutation-sym (snapshot ∷ snapshots_of opened) (snapshots_of (with_opened opened number snapshot)) (opened_one opened number snapshot none)) is)

pub closed-were : (opened : List (Option ℕ)) (number snapshot : ℕ) → snapshot_of number opened ≡ Some snapshot → (s : ℕ)
    → Contains (snapshots_of (with_closed opened number)) s → Contains (snapshots_of opened) s
closed-were opened number snapshot is s there =
    let rest = snapshots_of (with_closed opened number) in
    Contains-permutation (snapshot
    ∷ rest) (snapshots_of opened) s (IsPermutation-sym (snapshots_of opened) (snapshot
    ∷ rest) (closed_one opened number snapshot is)) (Contains-tail snapshot rest s there)

-- with one more open
pub opens-one : (v : TransactionsValue) (m : Machine Value) (number snapshot : ℕ) → StandsInMemory v m → snapshot_of number v.opened ≡ None → snapshot
    ≡ last m.published
    → StandsInMemory (record v { opened = with_opened v.opened number snapshot }) (begun m)
opens-one v m number snapshot stands fresh newest = record {
  names = stands.names;
  rising = stands.rising;
  published = stands.published;
  versions = stands.versions;
  forgot = stands.forgot;
  recent = λ s is.
      let marked = stands.versions.marked in
      ⊎_elim (λ (same : snapshot
      ≡ s). omega arith) (λ (old : Contains (snapshots_of v.opened) s). stands.recent s old) (opened-were v.opened number snapshot fresh s is);
  queue = stands.queue;
  fresh = stands.fresh;
  group = stands.group;
  most = stands.most;
  staged = stands.staged;
  snapshots = subst (λ (s : ℕ). IsPermutation (s ∷ m.snapshots) (snapshots_of (with_opened v.opened number snapshot))) newest
      (IsPermutation-trans (snapshot ∷ m.snapshots) (snapshot ∷ snapshots_of v.opened) (snapshots_of (with_opened v.opened number snapshot))
      (IsPermutation-cons snapshot m.snapshots (snapshots_of v.opened) stands.snapshots) (opened_one v.opened number snapshot fresh));
  floors = stands.floors;
  failed = stands.failed;
}

pub begin-step : (old new : TransactionsValue) (answer : Result TxnValue BeginFault) (m : Machine Value) → StandsInMemory old m → calls.Begins old answer new
    → BeginsAs m answer new
begin-step old new (Ok txn) m stands begins =
    let is : txn.snapshot ≡ last m.published = begins.snapshot ∙ last-is old m stands in (
      (sym stands.failed ∙ begins.works, is, refl),
      subst (λ (v : TransactionsValue). StandsInMemory v (begun m)) (sym begins.new_is) (opens-one old m txn.number txn.snapshot stands begins.fresh is),
    )
begin-step old new (Err fault.NoMemory) m stands begins =
    ((sym stands.failed ∙ begins.0, refl), subst (λ (v : TransactionsValue). StandsInMemory v m) (sym begins.1) stands)
begin-step old new (Err fault.Failed) m stands begins =
    ((sym stands.failed ∙ begins.0, refl), subst (λ (v : TransactionsValue). StandsInMemory v m) (sym begins.1) stands)

-- with one less open
pub closes-so : (v : TransactionsValue) (m : Machine Value) (number snapshot : ℕ) → StandsInMemory v m → snapshot_of number v.opened ≡ Some snapshot
    → (rest : List ℕ) × IsPermutation m.snapshots (snapshot ∷ rest) × StandsInMemory (over v number) (record m { snapshots = rest })
closes-so v m number snapshot stands is =
    let rest = snapshots_of (with_closed v.opened number) in
    let moved = IsPermutation-trans m.snapshots (snapshots_of v.opened) (snapshot ∷ rest) stands.snapshots (closed_one v.opened number snapshot is) in (
      rest,
      moved,
      record {
        names = stands.names;
        rising = stands.rising;
        published = stands.published;
        versions = stands.versions;
        forgot = stands.forgot;
        recent = λ s there. stands.recent s (closed-were v.opened number snapshot is s there);
        queue = stands.queue;
        fresh = stands.fresh;
        group = stands.group;
        most = stands.most;
        staged = stands.staged;
        snapshots = IsPermutation-refl rest;
        floors = stands.floors;
        failed = stands.failed;
      },
    )

closes-one : (v : TransactionsValue) (m : Machine Value) (number snapshot : ℕ) → StandsInMemory v m → snapshot_of number v.opened ≡ Some snapshot
    → (after : Machine Value) × Step IsValue m (Aborted snapshot) after × StandsInMemory (over v number) after
closes-one v m number snapshot stands is = let so = closes-so v m number snapshot stands is in (record m { snapshots = so.0 }, (so.0, so.1, refl), so.2)

-- the snapshot of an open transaction is not forgotten
pub recent-open : (v : TransactionsValue) (m : Machine Value) (number snapshot : ℕ) → StandsInMemory v m → snapshot_of number v.opened ≡ Some snapshot
    → v.reclaimed ≤ snapshot
recent-open v m number snapshot stands is =
    let rest = snapshots_of (with_closed v.opened number) in
    stands.recent snapshot (Contains-permutation (snapshot
    ∷ rest) (snapshots_of v.opened) snapshot (IsPermutation-sym (snapshots_of v.opened) (snapshot
    ∷ rest) (closed_one v.opened number snapshot is)) (Contains-head snapshot rest snapshot refl))

-- and at the snapshot of an open transaction
pub open-sees : (v : TransactionsValue) (m : Machine Value) → StandsInMemory v m → IsMachine IsValue m → (number snapshot : ℕ) → snapshot_of number v.opened
    ≡ Some snapshot → (key : Key) → value_at (writes_of v.versions key) snapshot ≡ state m.published snapshot key
open-sees v m stands machine number snapshot is key =
    let rest = snapshots_of (with_closed v.opened number) in
    let there : Contains (snapshots_of v.opened) snapshot =
    Contains-permutation (snapshot
    ∷ rest) (snapshots_of v.opened) snapshot (IsPermutation-sym (snapshots_of v.opened) (snapshot
    ∷ rest) (closed_one v.opened number snapshot is)) (Contains-head snapshot rest snapshot refl) in
    let kept =
    all-of (IsKeptSnapshot m.floors (last m.published)) m.snapshots snapshot machine.snapshots
    (Contains-permutation (snapshots_of v.opened) m.snapshots snapshot (IsPermutation-sym m.snapshots (snapshots_of v.opened) stands.snapshots) there) in
    sees-at v m stands snapshot kept (stands.recent snapshot there) key

-- a snapshot that is found is that of the number
found-snapshot : (o : Option ℕ) (time : ℕ) → is_snapshot o time ≡ true → o ≡ Some time
found-snapshot None time is = absurd cc
found-snapshot (Some s) time is = let same : s ≡ time = grind (arith, nat_tests) in ap (λ (n : ℕ). Some n) same

-- the store's own transaction has its number and its snapshot there
pub own-is : (v : TransactionsValue) (txn : TxnValue) → is_own v txn ≡ true → snapshot_of txn.number v.opened ≡ Some txn.snapshot
own-is v txn own =
    found-snapshot (snapshot_of txn.number v.opened) txn.snapshot
    (middle (txn.mark == v.mark) (is_snapshot (snapshot_of txn.number v.opened) txn.snapshot) (list_all (is_of_value v.versions txn.snapshot) txn.writes) own)
  where
    middle : (a b c : Bool) → cond a (cond b c false) false ≡ true → b ≡ true
    middle true true c h = refl
    middle true false c h = absurd cc
    middle false b c h = absurd cc

abort-cases : (b : Bool) (old new : TransactionsValue) (txn : TxnValue) (m : Machine Value) → is_own old txn ≡ b → StandsInMemory old m → new
    ≡ cond b (over old txn.number) old
    → MatchBool b ((after : Machine Value) × Step IsValue m (Aborted txn.snapshot) after × StandsInMemory new after) (StandsInMemory new m)
abort-cases true old new txn m own stands is =
    let gives = closes-one old m txn.number txn.snapshot stands (own-is old txn own) in
    (gives.0, gives.1, subst (λ (v : TransactionsValue). StandsInMemory v gives.0) (sym is) gives.2)
abort-cases false old new txn m own stands is = subst (λ (v : TransactionsValue). StandsInMemory v m) (sym is) stands

pub abort-step : (old new : TransactionsValue) (txn : TxnValue) (m : Machine Value) → StandsInMemory old m → calls.Aborts old txn new
    → MatchBool (is_own old txn) ((after : Machine Value) × Step IsValue m (Aborted txn.snapshot) after × StandsInMemory new after) (StandsInMemory new m)
abort-step old new txn m stands aborts = abort-cases (is_own old txn) old new txn m refl stands aborts
