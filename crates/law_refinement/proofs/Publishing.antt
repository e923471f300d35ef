-- A group begins, goes its way and is published.
use Rattle.std.proofs.Common.{◌≡◌, ◌≢◌, ℕ, zero, suc, ◌+◌, ◌-◌, ◌<◌, ◌≤◌, ◌==◌, nat_lt, slice_get, min, Option, None, Some, Bool, true, false, List, [], ◌∷◌}
use Rattle.std.proofs.Common.{◌++◌, length, take, drop, map, refl, arith, ap, sym, subst, ◌∙◌, append_assoc, length-append}
use Rattle.std.proofs.lemmas.Bool.Decides.{nat_tests}
use Rattle.history.specs.declared.key.Key.{Key}
use Rattle.history.specs.Histories as histories
use Rattle.history.specs.Histories.{History, HasRisingTimes}
use Rattle.history.specs.Machine.{Machine, Gate, commit_order, IsMachine}
use Rattle.history.proofs.Histories.{rising-from_following}
use Rattle.history.specs.Steps as steps
use Rattle.history.specs.Steps.{Event, Run}
use Rattle.law_image.specs.Values.{Value, IsValue}
use Rattle.chains.specs.KeyWrites.{KeyWrites, writes_of}
use Rattle.group.specs.Queued.{QueuedValue}
use Rattle.group.specs.Values.{TransactionsValue, versions_after, mark_after, is_turning}
use Rattle.group.specs.Steps as groups
use Rattle.group.specs.declared.stage.GroupStage.{GroupStage}
use Rattle.group.specs.declared.stage.GroupStage.TheVariants.{NoGroup, Storing, Stored, Turning}
use Rattle.law_refinement.specs.Standing.{name_of, HasWrites, HasForgotten, AllWait, IsStaged, StandsInMemory}
use Rattle.law_refinement.specs.Laws.{begins_in}
use Rattle.law_refinement.proofs.Held.{many-more}
use Rattle.law_refinement.proofs.Orders.{memory-beside}
use Rattle.law_refinement.proofs.Waiting.{ordered-behind, forgot-behind, fresh-waits, fresh-mark}
use Rattle.law_refinement.proofs.Conflicts.{rising-front, rising-behind, behind-group}
use Rattle.law_refinement.proofs.Packed.{as-many, wait-front}

-- ---- the queue and the machine's

rest-waits : (n reclaimed : ℕ) (before : List KeyWrites) (qs : List QueuedValue) (cs : History Value) → AllWait reclaimed before qs cs
    → AllWait reclaimed (versions_after before (take n qs)) (drop n qs) (drop n cs)
rest-waits zero reclaimed before qs cs all = all
rest-waits (suc n) reclaimed before [] [] all = tt
rest-waits (suc n) reclaimed before [] (c ∷ cs) all = absurd all
rest-waits (suc n) reclaimed before (q ∷ qs) [] all = absurd all
rest-waits (suc n) reclaimed before (q ∷ qs) (c ∷ cs) all = rest-waits n reclaimed q.after qs cs all.1

taken-and-rest : (n : ℕ) (cs : History Value) → take n cs ++ drop n cs ≡ cs
taken-and-rest zero cs = refl
taken-and-rest (suc n) [] = refl
taken-and-rest (suc n) (c ∷ cs) = ap (λ (ds : History Value). c ∷ ds) (taken-and-rest n cs)

length-taken : (n : ℕ) (cs : History Value) → n ≤ length cs → length (take n cs) ≡ n
length-taken zero cs low = refl
length-taken (suc n) [] low = absurd (omega arith)
length-taken (suc n) (c ∷ cs) low = ap suc (length-taken n cs (omega arith))

-- ---- what each step leaves

-- what is not told apart from a stage on its way
pub restaged : (v : TransactionsValue) (m : Machine Value) (stage : GroupStage) → StandsInMemory v m → (IsStaged stage → 0 < v.group)
    → (is_turning stage ≡ true → mark_after v.reclaimed (take v.group v.queue) ≡ v.reclaimed)
    → StandsInMemory (groups.at_stage stage v) m
restaged v m stage stands staged fresh = record {
  names = stands.names;
  rising = stands.rising;
  published = stands.published;
  versions = stands.versions;
  forgot = stands.forgot;
  recent = stands.recent;
  queue = stands.queue;
  fresh = fresh;
  group = stands.group;
  most = stands.most;
  staged = staged;
  snapshots = stands.snapshots;
  floors = stands.floors;
  failed = stands.failed;
}

-- nor is where the gate is
pub regated : (v : TransactionsValue) (m : Machine Value) (gate : Gate) → StandsInMemory v m → StandsInMemory v (steps.gated m gate)
regated v m gate stands = memory-beside v v.pending v.usages v.reserved v.slots v.used m m.raising gate stands

pub breaks : (v : TransactionsValue) (m : Machine Value) → StandsInMemory v m → StandsInMemory (groups.broken v) (steps.broken m)
breaks v m stands = record {
  names = stands.names;
  rising = stands.rising;
  published = stands.published;
  versions = stands.versions;
  forgot = stands.forgot;
  recent = stands.recent;
  queue = stands.queue;
  fresh = stands.fresh;
  group = stands.group;
  most = stands.most;
  staged = stands.staged;
  snapshots = stands.snapshots;
  floors = stands.floors;
  failed = refl;
}

pub publishes : (v : TransactionsValue) (m : Machine Value) → StandsInMemory v m → IsMachine IsValue m → is_turning v.stage ≡ true
    → StandsInMemory (groups.published v) (steps.group_published m)
publishes v m stands machine turning =
    let g = m.group in
    let few = machine.group_queued in
    let rising : HasRisingTimes 0 (commit_order m) = rising-from_following IsValue [] (commit_order m) machine.history in
    let whole : (m.published ++ take g m.queue) ++ drop g m.queue ≡ commit_order m =
    append_assoc m.published (take g m.queue) (drop g m.queue) ∙ ap (λ (h : History Value). m.published ++ h) (taken-and-rest g m.queue) in
    let front : HasRisingTimes 0 (m.published ++ take g m.queue) =
    rising-front 0 (m.published ++ take g m.queue) (drop g m.queue) (subst (λ (h : History Value). HasRisingTimes 0 h) (sym whole) rising) in
    let same : g ≡ v.group = sym stands.group in
    let taken : AllWait v.reclaimed v.versions (take v.group v.queue) (take v.group m.queue) =
    wait-front v.group v.reclaimed v.versions v.queue m.queue stands.queue in
    let has : HasWrites m.floors v.reclaimed (versions_after v.versions (take v.group v.queue)) (m.published ++ take g m.queue) =
    many-more stands.versions (rising-front 0 m.published (take g m.queue) front) (versions_after v.versions (take v.group v.queue)) (take g m.queue)
    machine.floors_reached (rising-behind 0 m.published (take g m.queue) front)
    (ordered-behind v.reclaimed v.versions (take v.group v.queue) (take v.group m.queue) stands.versions.ordered taken)
    (subst (λ (n : ℕ). (key : Key) → writes_of (versions_after v.versions (take v.group v.queue)) key ≡ writes_of v.versions key
    ++ histories.writes_of (take n m.queue) key) (sym same) (behind-group v m stands turning)) in
    let waits : AllWait v.reclaimed (versions_after v.versions (take v.group v.queue)) (drop v.group v.queue) (drop v.group m.queue) =
    rest-waits v.group v.reclaimed v.versions v.queue m.queue stands.queue in
    let many : length (m.published ++ take g m.queue) ≡ length m.published + g = simp length-append (omega (arith, length-taken g m.queue few)) in
    record {
      names = stands.names ∙ sym (ap (λ (h : History Value). map name_of h) whole);
      rising = stands.rising;
      published = omega (arith, many, stands.published, stands.group);
      versions = has;
      forgot = subst (λ (n : ℕ). HasForgotten n (versions_after v.versions (take v.group v.queue))) (stands.fresh turning)
          (forgot-behind v.reclaimed v.reclaimed v.versions (take v.group v.queue) (take v.group m.queue) stands.forgot taken);
      recent = stands.recent;
      queue = subst (λ (n : ℕ). AllWait v.reclaimed (versions_after v.versions (take v.group v.queue)) (drop v.group v.queue) (drop n m.queue)) (sym same)
          waits;
      fresh = λ none. absurd cc;
      group = refl;
      most = stands.most;
      staged = λ none. absurd none;
      snapshots = stands.snapshots;
      floors = stands.floors;
      failed = stands.failed;
    }

-- ---- the versions that a group leaves forget what ended by the mark

turning-staged : (s : GroupStage) → is_turning s ≡ true → IsStaged s
turning-staged NoGroup turning = absurd cc
turning-staged (Storing member extent) turning = tt
turning-staged Stored turning = tt
turning-staged Turning turning = tt

pub freshens : (v : TransactionsValue) (m : Machine Value) → StandsInMemory v m → IsMachine IsValue m → StandsInMemory (groups.freshened v) m
freshens v m stands machine = record {
  names = stands.names;
  rising = stands.rising;
  published = stands.published;
  versions = stands.versions;
  forgot = stands.forgot;
  recent = stands.recent;
  queue = fresh-waits v.reclaimed v.versions (v.group - 1) v.queue m.queue stands.queue;
  fresh = λ turning. by-place turning (slice_get v.queue (v.group - 1)) refl;
  group = stands.group;
  most = stands.most;
  staged = stands.staged;
  snapshots = stands.snapshots;
  floors = stands.floors;
  failed = stands.failed;
}
  where
    by-place : is_turning v.stage ≡ true → (o : Option QueuedValue) → slice_get v.queue (v.group - 1) ≡ o
        → mark_after v.reclaimed (take v.group (groups.fresh_at v.reclaimed (v.group - 1) v.queue o)) ≡ v.reclaimed
    by-place turning None none = stands.fresh turning
    by-place turning (Some q) some =
        fresh-mark v.reclaimed v.reclaimed v.versions v.group v.queue m.queue q (stands.staged (turning-staged v.stage turning)) some stands.queue

there-is : {X : Type 0} (n : ℕ) (xs : List X) → n < length xs → slice_get xs n ≢ None
there-is n [] low none = absurd (omega (arith, low))
there-is zero (x ∷ xs) low none = absurd cc
there-is (suc n) (x ∷ xs) low none = there-is n xs (omega (arith, low)) none

-- and then they have forgotten it
pub fresh-marks : (v : TransactionsValue) (m : Machine Value) → StandsInMemory v m → 0 < v.group → v.group ≤ length v.queue
    → mark_after v.reclaimed (take v.group (groups.freshened v).queue) ≡ v.reclaimed
fresh-marks v m stands some within = by-place (slice_get v.queue (v.group - 1)) refl
  where
    by-place : (o : Option QueuedValue) → slice_get v.queue (v.group - 1) ≡ o
        → mark_after v.reclaimed (take v.group (groups.fresh_at v.reclaimed (v.group - 1) v.queue o)) ≡ v.reclaimed
    by-place None none = absurd (there-is (v.group - 1) v.queue (omega (arith, some, within)) none)
    by-place (Some q) found = fresh-mark v.reclaimed v.reclaimed v.versions v.group v.queue m.queue q some found stands.queue

-- ---- a group begins

grouped-stands : (v : TransactionsValue) (m : Machine Value) → StandsInMemory v m → 0 < length v.queue
    → StandsInMemory (record v { group = min (length v.queue) 16; stage = Storing 0 0 }) (steps.grouped m)
grouped-stands v m stands some =
    let same = as-many v.reclaimed v.versions v.queue m.queue stands.queue in
    record {
      names = stands.names;
      rising = stands.rising;
      published = stands.published;
      versions = stands.versions;
      forgot = stands.forgot;
      recent = stands.recent;
      queue = stands.queue;
      fresh = λ turning. absurd cc;
      group = omega (arith, same, stands.most);
      most = stands.most;
      staged = λ stage. omega arith;
      snapshots = stands.snapshots;
      floors = stands.floors;
      failed = stands.failed;
    }

-- the machine of a store whose group may have begun
pub record Begins (v : TransactionsValue) (m : Machine Value) : Type 0 where
  pub mid : Machine Value
  -- it differs in its group alone
  pub is : mid ≡ record m { group = mid.group }
  pub run : (later : List (Event Value)) (after : Machine Value) → Run IsValue mid later after → Run IsValue m (begins_in m ++ later) after
  pub stands : StandsInMemory (groups.grouped v) mid
  pub works : mid.failed ≡ m.failed
  pub gate : mid.gate ≡ m.gate
  pub few : mid.group ≤ length mid.queue

pub begins : (v : TransactionsValue) (m : Machine Value) → StandsInMemory v m → IsMachine IsValue m → m.failed ≡ false → Begins v m
begins v m stands machine works =
    by-tests (m.group == 0) refl (nat_lt 0 (length m.queue)) refl
  where
    many : length v.queue ≡ length m.queue
    many = as-many v.reclaimed v.versions v.queue m.queue stands.queue

    by-tests : (a : Bool) → (m.group == 0) ≡ a → (b : Bool) → nat_lt 0 (length m.queue) ≡ b → Begins v m
    by-tests true none true some =
        let group : m.group ≡ 0 = grind (arith, nat_tests) in
        let waits : 0 < length m.queue = grind (arith, nat_tests) in
        let here : (v.group == 0) ≡ true = ap (λ (n : ℕ). n == 0) stands.group ∙ none in
        let there : nat_lt 0 (length v.queue) ≡ true = ap (λ (n : ℕ). nat_lt 0 n) many ∙ some in
        let queued : m.queue ≢ [] = λ empty. let zero : length m.queue ≡ 0 =
        ap (λ (h : History Value). length h) empty in absurd (omega (arith, zero, waits)) in
        record {
          mid = steps.grouped m;
          is = refl;
          run = λ later after goes. rw (none, some) (steps.grouped m, (works, group, queued, refl), goes);
          stands = rw (here, there) (grouped-stands v m stands (omega (arith, many, waits)));
          works = refl;
          gate = refl;
          few = omega arith;
        }
    by-tests true none false idle =
        let here : (v.group == 0) ≡ true = ap (λ (n : ℕ). n == 0) stands.group ∙ none in
        let there : nat_lt 0 (length v.queue) ≡ false = ap (λ (n : ℕ). nat_lt 0 n) many ∙ idle in
        record {
          mid = m;
          is = refl;
          run = λ later after goes. rw (none, idle) goes;
          stands = rw (here, there) stands;
          works = refl;
          gate = refl;
          few = machine.group_queued;
        }
    by-tests false some b any =
        let here : (v.group == 0) ≡ false = ap (λ (n : ℕ). n == 0) stands.group ∙ some in
        record { mid = m; is = refl; run = λ later after goes. rw some goes; stands = rw here stands; works = refl; gate = refl; few = machine.group_queued }
