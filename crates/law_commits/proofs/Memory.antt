-- A transaction begins and is given up.
use Rattle.std.proofs.Common.{◌≡◌, ℕ, ◌≤◌, ◌==◌, Bool, true, false, List, ◌∷◌, Option, None, Some, Result, Ok, Err, MatchBool, cond, refl, arith, ap, sym}
use Rattle.std.proofs.Common.{subst, ◌∙◌, ⊎_elim}
use Rattle.std.specs.Prelude.{IsPermutation, Contains}
use Rattle.std.specs.List.{list_all}
use Rattle.std.proofs.lemmas.Bool.Decides.{nat_tests}
use Rattle.std.proofs.lemmas.List.Sorted.{IsPermutation-refl, IsPermutation-sym, IsPermutation-cons, IsPermutation-trans, Contains-permutation}
use Rattle.history.specs.declared.key.Key.{Key}
use Rattle.history.specs.Time.{value_at}
use Rattle.history.specs.Histories.{last, state}
use Rattle.history.specs.Machine.{Machine, IsMachine, IsKeptSnapshot}
use Rattle.history.specs.Steps.{Aborted, begun}
use Rattle.history.proofs.Histories.{last_after-range}
use Rattle.history.proofs.Members.{Contains-head}
use Rattle.law_image.specs.Values.{Value, IsValue}
use Rattle.chains.specs.KeyWrites.{writes_of}
use Rattle.snapshot.specs.OpenTable.{snapshot_of, with_opened, with_closed}
use Rattle.snapshot.specs.Txn.{TxnValue}
use Rattle.group.specs.Values.{is_snapshot, is_of_value}
use Rattle.group.specs.declared.answers.BeginFault.{BeginFault}
use Rattle.group.specs.declared.answers.BeginFault.TheVariants as fault
use Rattle.commits.specs.Values.{CommitsValue, is_own, over}
use Rattle.commits.specs.Calls.{Begins, Aborts}
use Rattle.law_refinement.specs.Standing.{snapshots_of}
use Rattle.law_refinement.proofs.Openings.{opened_one, closed_one}
use Rattle.law_refinement.proofs.Memory.{opened-were, closed-were}
use Rattle.law_refinement.proofs.Held.{state-held}
use Rattle.law_commits.specs.Standing.{StandsInMemory}
use Rattle.law_commits.specs.Laws.{BeginsTo, Goes}
use Rattle.law_commits.proofs.Names.{last-is}
use Rattle.law_commits.proofs.Order.{published-rises}

-- ---- begin

-- with one more open
opens-one : (v : CommitsValue) (m : Machine Value) (number snapshot : ℕ) → StandsInMemory v m → snapshot_of number v.opened ≡ None → snapshot
    ≡ last m.published
    → StandsInMemory (record v { opened = with_opened v.opened number snapshot }) (begun m)
opens-one v m number snapshot stands fresh newest =
    record {
      names = stands.names;
      rising = stands.rising;
      versions = stands.versions;
      forgot = stands.forgot;
      recent = λ s is.
          let marked = stands.versions.marked in
          ⊎_elim (λ (same : snapshot
          ≡ s). omega arith) (λ (old : Contains (snapshots_of v.opened) s). stands.recent s old) (opened-were v.opened number snapshot fresh s is);
      queue = stands.queue;
      snapshots = subst (λ (s : ℕ). IsPermutation (s ∷ m.snapshots) (snapshots_of (with_opened v.opened number snapshot))) newest
          (IsPermutation-trans (snapshot ∷ m.snapshots) (snapshot ∷ snapshots_of v.opened) (snapshots_of (with_opened v.opened number snapshot))
          (IsPermutation-cons snapshot m.snapshots (snapshots_of v.opened) stands.snapshots) (opened_one v.opened number snapshot fresh));
      floors = stands.floors;
      failed = stands.failed;
    }

pub begin-step : (old new : CommitsValue) (answer : Result TxnValue BeginFault) (m : Machine Value) → StandsInMemory old m → Begins old answer new
    → BeginsTo m answer new
begin-step old new (Ok txn) m stands begins =
    let is : txn.snapshot ≡ last m.published = begins.snapshot ∙ last-is old m stands in (
      (sym stands.failed ∙ begins.works, is, refl),
      subst (λ (v : CommitsValue). StandsInMemory v (begun m)) (sym begins.new_is) (opens-one old m txn.number txn.snapshot stands begins.fresh is),
    )
begin-step old new (Err fault.NoMemory) m stands begins =
    ((sym stands.failed ∙ begins.0, refl), subst (λ (v : CommitsValue). StandsInMemory v m) (sym begins.1) stands)
begin-step old new (Err fault.Failed) m stands begins =
    ((sym stands.failed ∙ begins.0, refl), subst (λ (v : CommitsValue). StandsInMemory v m) (sym begins.1) stands)

-- ---- abort

-- with one less open
pub closes-so : (v : CommitsValue) (m : Machine Value) (number snapshot : ℕ) → StandsInMemory v m → snapshot_of number v.opened ≡ Some snapshot
    → (rest : List ℕ) × IsPermutation m.snapshots (snapshot ∷ rest) × StandsInMemory (over v number) (record m { snapshots = rest })
closes-so v m number snapshot stands is =
    let rest = snapshots_of (with_closed v.opened number) in
    let moved = IsPermutation-trans m.snapshots (snapshots_of v.opened) (snapshot ∷ rest) stands.snapshots (closed_one v.opened number snapshot is) in (
      rest,
      moved,
      record {
        names = stands.names;
        rising = stands.rising;
        versions = stands.versions;
        forgot = stands.forgot;
        recent = λ s there. stands.recent s (closed-were v.opened number snapshot is s there);
        queue = stands.queue;
        snapshots = IsPermutation-refl rest;
        floors = stands.floors;
        failed = stands.failed;
      },
    )

-- a snapshot that is found is that of the number
found-snapshot : (o : Option ℕ) (time : ℕ) → is_snapshot o time ≡ true → o ≡ Some time
found-snapshot None time is = absurd cc
found-snapshot (Some s) time is = let same : s ≡ time = grind (arith, nat_tests) in ap (λ (n : ℕ). Some n) same

-- the store's own transaction has its number and its snapshot there
pub own-is : (v : CommitsValue) (txn : TxnValue) → is_own v txn ≡ true → snapshot_of txn.number v.opened ≡ Some txn.snapshot
own-is v txn own =
    found-snapshot (snapshot_of txn.number v.opened) txn.snapshot
    (middle (txn.mark == v.mark) (is_snapshot (snapshot_of txn.number v.opened) txn.snapshot) (list_all (is_of_value v.versions txn.snapshot) txn.writes) own)
  where
    middle : (a b c : Bool) → cond a (cond b c false) false ≡ true → b ≡ true
    middle true true c h = refl
    middle true false c h = absurd cc
    middle false b c h = absurd cc

-- and writes that fit it
pub own-writes : (v : CommitsValue) (txn : TxnValue) → is_own v txn ≡ true → list_all (is_of_value v.versions txn.snapshot) txn.writes ≡ true
own-writes v txn own =
    third (txn.mark == v.mark) (is_snapshot (snapshot_of txn.number v.opened) txn.snapshot) (list_all (is_of_value v.versions txn.snapshot) txn.writes) own
  where
    third : (a b c : Bool) → cond a (cond b c false) false ≡ true → c ≡ true
    third true true c h = h
    third true false c h = absurd cc
    third false b c h = absurd cc

abort-cases : (b : Bool) (old new : CommitsValue) (txn : TxnValue) (m : Machine Value) → is_own old txn ≡ b → StandsInMemory old m → new
    ≡ cond b (over old txn.number) old
    → MatchBool b (Goes new m (Aborted txn.snapshot)) (StandsInMemory new m)
abort-cases true old new txn m own stands is =
    let gives = closes-so old m txn.number txn.snapshot stands (own-is old txn own) in (
      record m { snapshots = gives.0 },
      (gives.0, gives.1, refl),
      subst (λ (v : CommitsValue). StandsInMemory v (record m { snapshots = gives.0 })) (sym is) gives.2,
    )
abort-cases false old new txn m own stands is = subst (λ (v : CommitsValue). StandsInMemory v m) (sym is) stands

pub abort-step : (old new : CommitsValue) (txn : TxnValue) (m : Machine Value) → StandsInMemory old m → Aborts old txn new
    → MatchBool (is_own old txn) (Goes new m (Aborted txn.snapshot)) (StandsInMemory new m)
abort-step old new txn m stands aborts = abort-cases (is_own old txn) old new txn m refl stands aborts

-- ---- what an open transaction sees

-- the snapshot of an open transaction is not forgotten
pub recent-open : (v : CommitsValue) (m : Machine Value) (number snapshot : ℕ) → StandsInMemory v m → snapshot_of number v.opened ≡ Some snapshot
    → v.reclaimed ≤ snapshot
recent-open v m number snapshot stands is =
    let rest = snapshots_of (with_closed v.opened number) in
    stands.recent snapshot (Contains-permutation (snapshot
    ∷ rest) (snapshots_of v.opened) snapshot (IsPermutation-sym (snapshots_of v.opened) (snapshot
    ∷ rest) (closed_one v.opened number snapshot is)) (Contains-head snapshot rest snapshot refl))

-- what memory has of a key at a kept time that is not forgotten is the history's
pub sees-at : (v : CommitsValue) (m : Machine Value) → StandsInMemory v m → IsMachine IsValue m → (time : ℕ)
    → IsKeptSnapshot m.floors (last m.published) time → v.reclaimed ≤ time → (key : Key)
    → value_at (writes_of v.versions key) time ≡ state m.published time key
sees-at v m stands machine time kept recent key =
    let rising = published-rises v m stands machine in
    let range = last_after-range 0 m.published (omega arith) rising in
    let early = kept.published in
    state-held stands.versions rising key time (kept.kept key.relation) recent (omega (arith, range, early))
