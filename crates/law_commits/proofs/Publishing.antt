-- A group is published.
use Rattle.std.proofs.Common.{◌≡◌, ℕ, zero, suc, ◌+◌, ◌≤◌, List, [], ◌∷◌, ◌++◌, length, take, drop, map, refl, arith, ap, sym, subst, ◌∙◌, append_assoc}
use Rattle.std.proofs.Common.{length-append, Option, Some, None}
use Rattle.std.specs.Prelude.{MatchOption}
use Rattle.std.specs.List.{AllByRecursion}
use Rattle.history.specs.Floors.{Raising}
use Rattle.history.specs.Histories.{History, HasRisingTimes, IsHistory, last}
use Rattle.history.specs.Machine.{Machine, commit_order, IsRaisable, IsKeptSnapshot, IsMachine}
use Rattle.history.proofs.Histories.{last_after-append}
use Rattle.history.proofs.Runs.{last-later}
use Rattle.history.specs.Steps as steps
use Rattle.law_image.specs.Values.{Value, IsValue}
use Rattle.commits.specs.Values.{CommitsValue, versions_after}
use Rattle.commits.specs.Steps.{members, published, broken}
use Rattle.law_refinement.specs.Standing.{name_of, HasForgotten}
use Rattle.law_refinement.proofs.Conflicts.{rising-front, rising-behind}
use Rattle.law_refinement.proofs.Held.{many-more}
use Rattle.law_refinement.proofs.Submitting.{order-rising}
use Rattle.law_commits.specs.Standing.{AllWait, StandsInMemory}
use Rattle.law_commits.specs.Laws.{IsFresh, with_published}
use Rattle.law_commits.proofs.Waiting.{as-many, wait-front, rest-waits, ordered-behind, forgot-behind}
use Rattle.law_commits.proofs.Order.{writes-behind}

pub taken-and-rest : (n : ℕ) (cs : History Value) → take n cs ++ drop n cs ≡ cs
taken-and-rest zero cs = refl
taken-and-rest (suc n) [] = refl
taken-and-rest (suc n) (c ∷ cs) = ap (λ (ds : History Value). c ∷ ds) (taken-and-rest n cs)

length-taken : (n : ℕ) (cs : History Value) → n ≤ length cs → length (take n cs) ≡ n
length-taken zero cs low = refl
length-taken (suc n) [] low = absurd (omega arith)
length-taken (suc n) (c ∷ cs) low = ap suc (length-taken n cs (omega arith))

-- the commit order stays as it was
pub same-order : (m : Machine Value) (n : ℕ) → (m.published ++ take n m.queue) ++ drop n m.queue ≡ commit_order m
same-order m n =
    append_assoc m.published (take n m.queue) (drop n m.queue) ∙ ap (λ (h : History Value). m.published ++ h) (taken-and-rest n m.queue)

pub publishes : (v : CommitsValue) (m : Machine Value) → StandsInMemory v m → IsMachine IsValue m → v.group ≤ length v.queue → IsFresh v
    → StandsInMemory (published v) (with_published v.group m)
publishes v m stands machine within fresh =
    let g = v.group in
    let size = as-many v.reclaimed v.versions v.queue m.queue stands.queue in
    let rising : HasRisingTimes 0 (commit_order m) = order-rising m machine in
    let front : HasRisingTimes 0 (m.published ++ take g m.queue) =
    rising-front 0 (m.published ++ take g m.queue) (drop g m.queue) (subst (λ (h : History Value). HasRisingTimes 0 h) (sym (same-order m g)) rising) in
    let taken : AllWait v.reclaimed v.versions (members v) (take g m.queue) = wait-front g v.reclaimed v.versions v.queue m.queue stands.queue in
    let n = stands.names in
    let long : length (m.published ++ take g m.queue) ≡ length m.published + g =
    simp length-append (omega (arith, length-taken g m.queue (omega (arith, size, within)))) in
    record {
      names =
          record {
            before = n.before;
            early = n.early;
            kept = n.kept;
            late = n.late;
            heads_are = n.heads_are;
            kept_of = n.kept_of;
            names = n.names ∙ sym (ap (λ (h : History Value). map name_of h) (same-order m g));
            count = n.count + g;
            published_are = let was = n.published_are in omega arith;
            many = let was = n.many in omega (arith, long, was);
          };
      rising = stands.rising;
      versions = many-more stands.versions (rising-front 0 m.published (take g m.queue) front) (versions_after v.versions (members v)) (take g m.queue)
          machine.floors_reached (rising-behind 0 m.published (take g m.queue) front)
          (ordered-behind v.reclaimed v.versions (members v) (take g m.queue) stands.versions.ordered taken)
          (λ key. writes-behind v.reclaimed v.versions (members v) (take g m.queue) key stands.forgot fresh taken);
      forgot = subst (λ (mark : ℕ). HasForgotten mark (versions_after v.versions (members v))) fresh
          (forgot-behind v.reclaimed v.reclaimed v.versions (members v) (take g m.queue) stands.forgot taken);
      recent = stands.recent;
      queue = rest-waits g v.reclaimed v.versions v.queue m.queue stands.queue;
      snapshots = stands.snapshots;
      floors = stands.floors;
      failed = stands.failed;
    }

pub breaks : (v : CommitsValue) (m : Machine Value) → StandsInMemory v m → StandsInMemory (broken v) (steps.broken m)
breaks v m stands = record {
  names = stands.names;
  rising = stands.rising;
  versions = stands.versions;
  forgot = stands.forgot;
  recent = stands.recent;
  queue = stands.queue;
  snapshots = stands.snapshots;
  floors = stands.floors;
  failed = refl;
}

-- ---- the machine after it

all-kept : (floors : ℕ → ℕ) (s t : ℕ) (snapshots : List ℕ) → s ≤ t → AllByRecursion (IsKeptSnapshot floors s) snapshots
    → AllByRecursion (IsKeptSnapshot floors t) snapshots
all-kept floors s t [] le all = tt
all-kept floors s t (x ∷ xs) le all = (
  record { published = let early = all.0.published in omega (arith, early, le); kept = all.0.kept },
  all-kept floors s t xs le all.1,
)

raise-later : (floors : ℕ → ℕ) (s t : ℕ) (snapshots : List ℕ) (o : Option Raising) → s ≤ t → MatchOption o (Unit {0}) (IsRaisable floors s snapshots)
    → MatchOption o (Unit {0}) (IsRaisable floors t snapshots)
raise-later floors s t snapshots None le may = tt
raise-later floors s t snapshots (Some r) le may =
    record { rises = may.rises; upto_last = let early = may.upto_last in omega (arith, early, le); in_use = may.in_use }

pub published-machine : (m : Machine Value) (n : ℕ) → IsMachine IsValue m → m.group ≡ 0 → IsMachine IsValue (with_published n m)
published-machine m n machine none =
    let rising = order-rising m machine in
    let front : HasRisingTimes 0 (m.published ++ take n m.queue) =
    rising-front 0 (m.published ++ take n m.queue) (drop n m.queue) (subst (λ (h : History Value). HasRisingTimes 0 h) (sym (same-order m n)) rising) in
    let more = last-later (last m.published) (take n m.queue) (rising-behind 0 m.published (take n m.queue) front) in
    let grows : last m.published ≤ last (m.published ++ take n m.queue) = omega (arith, more, last_after-append 0 m.published (take n m.queue)) in
    record {
      history = subst (λ (h : History Value). IsHistory IsValue h) (sym (same-order m n)) machine.history;
      group_few = machine.group_few;
      group_queued = omega (arith, none);
      floors_reached = λ relation. let reached = machine.floors_reached relation in omega (arith, reached, grows);
      snapshots = all-kept m.floors (last m.published) (last (m.published ++ take n m.queue)) m.snapshots grows machine.snapshots;
      raising = raise-later m.floors (last m.published) (last (m.published ++ take n m.queue)) m.snapshots m.raising grows machine.raising;
    }
