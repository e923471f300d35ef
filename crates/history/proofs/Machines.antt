-- What every run of the machine keeps.
use Rattle.std.proofs.Common.{◌≡◌, ℕ, ◌≤◌, Bool, true, false, cond, List, [], ◌∷◌, ◌++◌, length, take, drop, Option, Some, None, refl, ap, sym, subst, ◌∙◌}
use Rattle.std.proofs.Common.{arith, take-append-drop, length-append, ⊎_elim}
use Rattle.std.specs.Prelude.{Contains, IsPermutation, MatchOption}
use Rattle.std.specs.List.{AllByRecursion}
use Rattle.std.proofs.lemmas.List.{append-nil}
use Rattle.std.proofs.lemmas.List.Sorted.{IsPermutation-sym, Contains-permutation}
use Rattle.history.specs.Floors.{Raising, covers, raised}
use Rattle.history.specs.Histories.{History, last_after, last, IsHistory, HasRisingTimes}
use Rattle.history.specs.Machine.{Machine, Gate, Due, MayBeOpen, commit_order, opened, opened_by, IsRaisable, MayRaise, IsKeptSnapshot, IsMachine}
use Rattle.history.specs.Submissions.{Decision, Reads, Conflicts, Ends, Queues}
use Rattle.history.specs.Steps.{Event, Began, BeginRefused, Aborted, Decided, Refused, GroupBegan, Published, FloorStarted, FloorRefused, FloorPublished}
use Rattle.history.specs.Steps.{GateDue, GateWritten, Broke, begun, decided, grouped, group_published, floor_started, floor_published, gated, broken, GivesUp}
use Rattle.history.specs.Steps.{Step, Run}
use Rattle.history.proofs.Members.{Contains-cons_cases, Contains-head, Contains-tail, Contains-nil}
use Rattle.history.proofs.Histories.{last_after-append, rising-from_following}
use Rattle.history.proofs.Runs.{last-later, step-history}

-- ---- lists

all-of : {X : Type 0} (P : X → Type 0) (xs : List X) (x : X) → AllByRecursion P xs → Contains xs x → P x
all-of P [] x all has = absurd (Contains-nil x has)
all-of P (y ∷ ys) x all has = ⊎_elim (λ (is : y ≡ x). subst P is all.0) (λ (more : Contains ys x). all-of P ys x all.1 more) (Contains-cons_cases y ys x has)

of-all : {X : Type 0} (P : X → Type 0) (xs : List X) → ((x : X) → Contains xs x → P x) → AllByRecursion P xs
of-all P [] each = tt
of-all P (x ∷ xs) each = (each x (Contains-head x xs x refl), of-all P xs (λ y has. each y (Contains-tail x xs y has)))

-- what holds of all holds of those that are left
all-left : {X : Type 0} (P : X → Type 0) (xs : List X) (x : X) (rest : List X) → IsPermutation xs (x ∷ rest) → AllByRecursion P xs → AllByRecursion P rest
all-left P xs x rest moved all =
    of-all P rest (λ y has. all-of P xs y all (Contains-permutation (x ∷ rest) xs y (IsPermutation-sym xs (x ∷ rest) moved) (Contains-tail x rest y has)))

all-map : {X : Type 0} (P Q : X → Type 0) (xs : List X) → ((x : X) → P x → Q x) → AllByRecursion P xs → AllByRecursion Q xs
all-map P Q [] weaker all = tt
all-map P Q (x ∷ xs) weaker all = (weaker x all.0, all-map P Q xs weaker all.1)

all-both : {X : Type 0} (P Q R : X → Type 0) (xs : List X) → ((x : X) → P x → Q x → R x) → AllByRecursion P xs → AllByRecursion Q xs → AllByRecursion R xs
all-both P Q R [] joined all all' = tt
all-both P Q R (x ∷ xs) joined all all' = (joined x all.0 all'.0, all-both P Q R xs joined all.1 all'.1)

option-map : {X : Type 0} (P Q : X → Type 0) (o : Option X) → ((x : X) → P x → Q x) → MatchOption o (Unit {0}) P → MatchOption o (Unit {0}) Q
option-map P Q None weaker have = tt
option-map P Q (Some x) weaker have = weaker x have

-- ---- times

rising-front : {V : Type 0} (t : ℕ) (xs ys : History V) → HasRisingTimes t (xs ++ ys) → HasRisingTimes t xs
rising-front t [] ys up = tt
rising-front t (c ∷ cs) ys up = (up.0, up.1, rising-front c.time cs ys up.2)

rising-behind : {V : Type 0} (t : ℕ) (xs ys : History V) → HasRisingTimes t (xs ++ ys) → HasRisingTimes (last_after t xs) ys
rising-behind t [] ys up = up
rising-behind t (c ∷ cs) ys up = rising-behind c.time cs ys up.2

-- what is published last is not earlier once a group is published
last-grows : {V : Type 0} (IsValue : V → Type 0) (m : Machine V) → IsHistory IsValue (commit_order m)
    → last m.published ≤ last (m.published ++ take m.group m.queue)
last-grows {V} IsValue m history =
    let up : HasRisingTimes 0 (m.published ++ m.queue) = rising-from_following IsValue [] (commit_order m) history in
    let behind : HasRisingTimes (last m.published) m.queue = rising-behind 0 m.published m.queue up in
    let front : HasRisingTimes (last m.published) (take m.group m.queue) =
    rising-front (last m.published) (take m.group m.queue) (drop m.group m.queue)
    (subst (HasRisingTimes (last m.published)) (sym (take-append-drop m.group m.queue)) behind) in
    let later = last-later (last m.published) (take m.group m.queue) front in
    omega (arith, later, last_after-append 0 m.published (take m.group m.queue))

-- ---- the machine after each step

kept-later : (floors : ℕ → ℕ) (s t snapshot : ℕ) → s ≤ t → IsKeptSnapshot floors s snapshot → IsKeptSnapshot floors t snapshot
kept-later floors s t snapshot le kept = record { published = omega (arith, kept.published); kept = kept.kept }

raise-later : (floors : ℕ → ℕ) (s t : ℕ) (snapshots : List ℕ) (r : Raising) → s ≤ t → IsRaisable floors s snapshots r → IsRaisable floors t snapshots r
raise-later floors s t snapshots r le may = record { rises = may.rises; upto_last = omega (arith, may.upto_last); in_use = may.in_use }

pub opened_by-machine : {V : Type 0} (IsValue : V → Type 0) (most : ℕ) (h : History V) (floors : ℕ → ℕ) → IsHistory IsValue h
    → ((relation : ℕ) → floors relation ≤ last h) → IsMachine IsValue (opened_by most h floors)
opened_by-machine IsValue most h floors history reached = record {
  history = subst (IsHistory IsValue) (sym (append-nil h)) history;
  group_few = omega arith;
  group_queued = omega arith;
  floors_reached = reached;
  snapshots = tt;
  raising = tt;
}

pub opened-machine : {V : Type 0} (IsValue : V → Type 0) (h : History V) (floors : ℕ → ℕ) → IsHistory IsValue h → ((relation : ℕ) → floors relation ≤ last h)
    → IsMachine IsValue (opened h floors)
opened-machine IsValue h floors history reached = opened_by-machine IsValue 16 h floors history reached

module _ {V : Type 0} (IsValue : V → Type 0) (old : Machine V) (is : IsMachine IsValue old) where
  after-begun : IsHistory IsValue (commit_order old) → IsMachine IsValue (begun old)
  after-begun history = record {
    history = history;
    group_few = is.group_few;
    group_queued = is.group_queued;
    floors_reached = is.floors_reached;
    snapshots = (record { published = omega arith; kept = is.floors_reached }, is.snapshots);
    raising =
        option-map (MayRaise old) (MayRaise (begun old)) old.raising (λ r may. record {
          rises = may.rises;
          upto_last = may.upto_last;
          in_use = (may.upto_last, may.in_use);
        }) is.raising;
  }

  -- a transaction is over, and the queue may be longer
  after-given_up : (queue : History V) (snapshot : ℕ) (rest : List ℕ) → length old.queue ≤ length queue → IsPermutation old.snapshots (snapshot ∷ rest)
      → IsHistory IsValue (old.published ++ queue)
      → IsMachine IsValue (record old { queue = queue; snapshots = rest })
  after-given_up queue snapshot rest longer moved history = record {
    history = history;
    group_few = is.group_few;
    group_queued = omega (arith, is.group_queued);
    floors_reached = is.floors_reached;
    snapshots = all-left (IsKeptSnapshot old.floors (last old.published)) old.snapshots snapshot rest moved is.snapshots;
    raising = option-map (MayRaise old) (IsRaisable old.floors (last old.published) rest) old.raising
        (λ r may. record {
          rises = may.rises;
          upto_last = may.upto_last;
          in_use = all-left (λ s. r.floor ≤ s) old.snapshots snapshot rest moved may.in_use;
        }) is.raising;
  }

  after-grouped : IsMachine IsValue (grouped old)
  after-grouped = record {
    history = is.history;
    group_few = omega arith;
    group_queued = omega arith;
    floors_reached = is.floors_reached;
    snapshots = is.snapshots;
    raising = is.raising;
  }

  after-published : IsHistory IsValue (commit_order (group_published old)) → IsMachine IsValue (group_published old)
  after-published history =
      let grows = last-grows IsValue old is.history in
      let end = last (old.published ++ take old.group old.queue) in
      record {
        history = history;
        group_few = omega arith;
        group_queued = omega arith;
        floors_reached = λ relation. omega (arith, is.floors_reached relation, grows);
        snapshots =
            all-map (IsKeptSnapshot old.floors (last old.published)) (IsKeptSnapshot old.floors end) old.snapshots
            (λ s kept. kept-later old.floors (last old.published) end s grows kept) is.snapshots;
        raising =
            option-map (MayRaise old) (IsRaisable old.floors end old.snapshots) old.raising
            (λ r may. raise-later old.floors (last old.published) end old.snapshots r grows may) is.raising;
      }

  after-started : (r : Raising) → MayRaise old r → IsMachine IsValue (floor_started old r)
  after-started r may = record {
    history = is.history;
    group_few = is.group_few;
    group_queued = is.group_queued;
    floors_reached = is.floors_reached;
    snapshots = is.snapshots;
    raising = may;
  }

  raised-by : (r : Raising) (bound : ℕ) (relation : ℕ) → r.floor ≤ bound → old.floors relation ≤ bound → raised r.scope r.floor old.floors relation ≤ bound
  raised-by r bound relation a b = elim (covers r.scope relation) as (λ c. cond c r.floor (old.floors relation) ≤ bound) [ true ↦ a | false ↦ b ]

  -- no floor falls where one is raised
  raised-over : (r : Raising) (relation : ℕ) → MayRaise old r → old.floors relation ≤ raised r.scope r.floor old.floors relation
  raised-over r relation may =
      let Goal : Bool → Type 0 = λ b. covers r.scope relation ≡ b → old.floors relation ≤ cond b r.floor (old.floors relation) in
      let all : (b : Bool) → Goal b = λ b. elim b as Goal [
        | true ↦ λ e. omega (arith, may.rises relation e)
        | false ↦ λ e. omega arith
      ] in
      all (covers r.scope relation) refl

  pub in-the-making : (r : Raising) → old.raising ≡ Some r → MayRaise old r
  in-the-making r started = subst (λ o. MatchOption o (Unit {0}) (MayRaise old)) started is.raising

  after-raised : (r : Raising) → MayRaise old r → IsMachine IsValue (floor_published old r)
  after-raised r may = record {
    history = is.history;
    group_few = is.group_few;
    group_queued = is.group_queued;
    floors_reached = λ relation. raised-by r (last old.published) relation may.upto_last (is.floors_reached relation);
    snapshots =
        all-both (IsKeptSnapshot old.floors (last old.published)) (λ s. r.floor ≤ s) (IsKeptSnapshot (raised r.scope r.floor old.floors) (last old.published))
        old.snapshots
        (λ s kept above. record { published = kept.published; kept = λ relation. raised-by r s relation above (kept.kept relation) }) is.snapshots may.in_use;
    raising = tt;
  }

  after-gated : (gate : Gate) → IsMachine IsValue (gated old gate)
  after-gated gate = record {
    history = is.history;
    group_few = is.group_few;
    group_queued = is.group_queued;
    floors_reached = is.floors_reached;
    snapshots = is.snapshots;
    raising = is.raising;
  }

  after-broken : IsMachine IsValue (broken old)
  after-broken = record {
    history = is.history;
    group_few = is.group_few;
    group_queued = is.group_queued;
    floors_reached = is.floors_reached;
    snapshots = is.snapshots;
    raising = is.raising;
  }

  -- the queue after a decision, and what else it leaves
  decided-machine : (answer : Decision V) (snapshot : ℕ) (rest : List ℕ) → IsPermutation (decided old answer).snapshots (snapshot ∷ rest)
      → IsHistory IsValue (commit_order (decided old answer)) → IsMachine IsValue (record (decided old answer) { snapshots = rest })
  decided-machine answer snapshot rest moved history =
      elim answer as (λ (d : Decision V). IsPermutation (decided old d).snapshots (snapshot ∷ rest) → IsHistory IsValue (commit_order (decided old d))
      → IsMachine IsValue (record (decided old d) { snapshots = rest })) [
        | Reads ↦ λ m h. after-given_up old.queue snapshot rest (omega arith) m h
        | Conflicts key ↦ λ m h. after-given_up old.queue snapshot rest (omega arith) m h
        | Ends ↦ λ m h. after-given_up old.queue snapshot rest (omega arith) m h
        | Queues c ↦ λ m h. after-given_up (old.queue ++ c ∷ []) snapshot rest (omega (arith, length-append old.queue (c ∷ []))) m h
      ] moved history

pub step-machine : {V : Type 0} (IsValue : V → Type 0) (old new : Machine V) (event : Event V) → IsMachine IsValue old → Step IsValue old event new
    → IsMachine IsValue new
step-machine IsValue old new (Began snapshot) is step = subst (IsMachine IsValue) (sym step.2) (after-begun IsValue old is is.history)
step-machine IsValue old new (BeginRefused why) is step = subst (IsMachine IsValue) (sym step.1) is
step-machine IsValue old new (Aborted snapshot) is step =
    subst (IsMachine IsValue) (sym step.2) (after-given_up IsValue old is old.queue snapshot step.0 (omega arith) step.1 is.history)
step-machine {V} IsValue old new (Decided s answer) is step =
    let history : IsHistory IsValue (commit_order (decided old answer)) =
    subst (λ (m : Machine V). IsHistory IsValue (commit_order m)) step.3.2 (step-history IsValue old new (Decided s answer) is.history step) in
    subst (IsMachine IsValue) (sym step.3.2) (decided-machine IsValue old is answer s.snapshot step.3.0 step.3.1 history)
step-machine IsValue old new (Refused s why) is step =
    subst (IsMachine IsValue) (sym step.1.2) (after-given_up IsValue old is old.queue s.snapshot step.1.0 (omega arith) step.1.1 is.history)
step-machine IsValue old new GroupBegan is step = subst (IsMachine IsValue) (sym step.3) (after-grouped IsValue old is)
step-machine {V} IsValue old new (Published size) is step =
    let history : IsHistory IsValue (commit_order (group_published old)) =
    subst (λ (m : Machine V). IsHistory IsValue (commit_order m)) step.4 (step-history IsValue old new (Published size) is.history step) in
    subst (IsMachine IsValue) (sym step.4) (after-published IsValue old is history)
step-machine IsValue old new (FloorStarted r) is step = subst (IsMachine IsValue) (sym step.3) (after-started IsValue old is r step.2)
step-machine IsValue old new (FloorRefused r why) is step = subst (IsMachine IsValue) (sym step.2) is
step-machine IsValue old new (FloorPublished r) is step =
    subst (IsMachine IsValue) (sym step.3) (after-raised IsValue old is r (in-the-making IsValue old is r step.1))
step-machine IsValue old new (GateDue change) is step = subst (IsMachine IsValue) (sym step.3) (after-gated IsValue old is (Due change))
step-machine IsValue old new (GateWritten change) is step = subst (IsMachine IsValue) (sym step.2) (after-gated IsValue old is (MayBeOpen change))
step-machine IsValue old new Broke is step = subst (IsMachine IsValue) (sym step.1) (after-broken IsValue old is)

pub run-machine : {V : Type 0} (IsValue : V → Type 0) (old new : Machine V) (events : List (Event V)) → IsMachine IsValue old → Run IsValue old events new
    → IsMachine IsValue new
run-machine IsValue old new [] is run = subst (IsMachine IsValue) (sym run) is
run-machine IsValue old new (event ∷ events) is run = run-machine IsValue run.0 new events (step-machine IsValue old run.0 event is run.1) run.2

-- ---- floors

floors-decided : {V : Type 0} (m : Machine V) (answer : Decision V) (relation : ℕ) → (decided m answer).floors relation ≡ m.floors relation
floors-decided m Reads relation = refl
floors-decided m (Conflicts key) relation = refl
floors-decided m Ends relation = refl
floors-decided m (Queues c) relation = refl

same-floors : {V : Type 0} (old m new : Machine V) (relation : ℕ) → m.floors relation ≡ old.floors relation → new ≡ m
    → old.floors relation ≤ new.floors relation
same-floors {V} old m new relation same is = omega (arith, same, ap (λ (x : Machine V). x.floors relation) is)

step-floors : {V : Type 0} (IsValue : V → Type 0) (old new : Machine V) (event : Event V) (relation : ℕ) → IsMachine IsValue old → Step IsValue old event new
    → old.floors relation ≤ new.floors relation
step-floors IsValue old new (Began snapshot) relation is step = same-floors old (begun old) new relation refl step.2
step-floors IsValue old new (BeginRefused why) relation is step = same-floors old old new relation refl step.1
step-floors IsValue old new (Aborted snapshot) relation is step = same-floors old (record old { snapshots = step.0 }) new relation refl step.2
step-floors IsValue old new (Decided s answer) relation is step =
    same-floors old (record (decided old answer) { snapshots = step.3.0 }) new relation (floors-decided old answer relation) step.3.2
step-floors IsValue old new (Refused s why) relation is step = same-floors old (record old { snapshots = step.1.0 }) new relation refl step.1.2
step-floors IsValue old new GroupBegan relation is step = same-floors old (grouped old) new relation refl step.3
step-floors IsValue old new (Published size) relation is step = same-floors old (group_published old) new relation refl step.4
step-floors IsValue old new (FloorStarted r) relation is step = same-floors old (floor_started old r) new relation refl step.3
step-floors IsValue old new (FloorRefused r why) relation is step = same-floors old old new relation refl step.2
step-floors {V} IsValue old new (FloorPublished r) relation is step =
    omega (arith, raised-over IsValue old is r relation (in-the-making IsValue old is r step.1), ap (λ (x : Machine V). x.floors relation) step.3)
step-floors IsValue old new (GateDue change) relation is step = same-floors old (gated old (Due change)) new relation refl step.3
step-floors IsValue old new (GateWritten change) relation is step = same-floors old (gated old (MayBeOpen change)) new relation refl step.2
step-floors IsValue old new Broke relation is step = same-floors old (broken old) new relation refl step.1

pub run-floors : {V : Type 0} (IsValue : V → Type 0) (old new : Machine V) (events : List (Event V)) (relation : ℕ) → IsMachine IsValue old
    → Run IsValue old events new → old.floors relation ≤ new.floors relation
run-floors IsValue old new [] relation is run = same-floors old old new relation refl run
run-floors IsValue old new (event ∷ events) relation is run =
    let first = step-floors IsValue old run.0 event relation is run.1 in
    let rest = run-floors IsValue run.0 new events relation (step-machine IsValue old run.0 event is run.1) run.2 in
    omega (arith, first, rest)

-- ---- a machine that has failed

not_both : (b : Bool) → b ≡ true → b ≡ false → ⊥
not_both b h k = absurd (let no : true ≡ false = sym h ∙ k in cc)

given_up : {V : Type 0} (old new : Machine V) (snapshot : ℕ) → GivesUp old snapshot new → new ≡ record old { snapshots = new.snapshots }
given_up {V} old new snapshot gives = gives.2 ∙ ap (λ (l : List ℕ). record old { snapshots = l }) (ap (λ (m : Machine V). m.snapshots) (sym gives.2))

refused-failed : {V : Type 0} (old new : Machine V) (event : Event V) (IsValue : V → Type 0) → old.failed ≡ true → Step IsValue old event new → new
    ≡ record old { snapshots = new.snapshots }
refused-failed old new (Began snapshot) IsValue failed step = absurd (not_both old.failed failed step.0)
refused-failed {V} old new (BeginRefused why) IsValue failed step =
    step.1 ∙ ap (λ (l : List ℕ). record old { snapshots = l }) (ap (λ (m : Machine V). m.snapshots) (sym step.1))
refused-failed old new (Aborted snapshot) IsValue failed step = given_up old new snapshot step
refused-failed old new (Decided s answer) IsValue failed step = absurd (not_both old.failed failed step.0)
refused-failed old new (Refused s why) IsValue failed step = given_up old new s.snapshot step.1
refused-failed old new GroupBegan IsValue failed step = absurd (not_both old.failed failed step.0)
refused-failed old new (Published size) IsValue failed step = absurd (not_both old.failed failed step.0)
refused-failed old new (FloorStarted r) IsValue failed step = absurd (not_both old.failed failed step.0)
refused-failed old new (FloorRefused r why) IsValue failed step = absurd (not_both old.failed failed step.0)
refused-failed old new (FloorPublished r) IsValue failed step = absurd (not_both old.failed failed step.0)
refused-failed old new (GateDue change) IsValue failed step = absurd (not_both old.failed failed step.0)
refused-failed old new (GateWritten change) IsValue failed step = absurd (not_both old.failed failed step.0)
refused-failed old new Broke IsValue failed step = absurd (not_both old.failed failed step.0)

pub run-failed : {V : Type 0} (IsValue : V → Type 0) (old new : Machine V) (events : List (Event V)) → old.failed ≡ true → Run IsValue old events new → new
    ≡ record old { snapshots = new.snapshots }
run-failed {V} IsValue old new [] failed run = run ∙ ap (λ (l : List ℕ). record old { snapshots = l }) (ap (λ (m : Machine V). m.snapshots) (sym run))
run-failed {V} IsValue old new (event ∷ events) failed run =
    let mid = run.0 in
    let first : mid ≡ record old { snapshots = mid.snapshots } = refused-failed old mid event IsValue failed run.1 in
    let rest : new ≡ record mid { snapshots = new.snapshots } = run-failed IsValue mid new events (ap (λ (m : Machine V). m.failed) first ∙ failed) run.2 in
    rest ∙ ap (λ (m : Machine V). record m { snapshots = new.snapshots }) first
