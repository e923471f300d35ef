-- A floor begins: it is one that may be raised, and may come next in the log. Or it is refused as the machine says.
use Rattle.std.proofs.Common.{rules, ◌≡◌, ◌≢◌, ℕ, ◌+◌, ◌<◌, ◌≤◌, ◌==◌, min, nat_le, nat_lt, Bool, true, false, cond, List, [], ◌∷◌, Option, None, Some, is_some}
use Rattle.std.proofs.Common.{◌||◌, refl, arith, ap, sym, subst, ◌∙◌, ⊎_elim, inl, inr}
use Rattle.std.specs.Prelude.{◌⊎◌, Contains, IsPermutation, IsTrue}
use Rattle.std.specs.List.{AllByRecursion}
use Rattle.std.proofs.lemmas.Bool.Decides.{nat_tests}
use Rattle.history.specs.Floors.{Raising, covers, covered}
use Rattle.floors.specs.Floors.{floor_at}
use Rattle.history.specs.FloorStarts as floors
use Rattle.history.specs.FloorStarts.{least, in_use_below, in_use_refusal}
use Rattle.history.specs.Histories as histories
use Rattle.history.specs.Machine.{Machine, MayRaise}
use Rattle.history.specs.Steps.{Step, FloorStarted, FloorRefused, floor_started}
use Rattle.history.proofs.Machines.{run-machine}
use Rattle.std.proofs.lemmas.Bool.{cases_lt}
use Rattle.std.proofs.lemmas.List.Sorted.{IsPermutation-sym, Contains-permutation}
use Rattle.history.proofs.Members.{Contains-head, Contains-tail, Contains-cons_cases, Contains-nil}
use Rattle.law_image.specs.Values.{Value, IsValue}
use Rattle.wire.specs.Spelling.{IsRelationOf}
use Rattle.law_image.proofs.Standing.{last-range}
use Rattle.snapshot.specs.OpenTable.{lesser, least_with, least_open}
use Rattle.status.specs.declared.header.Header.{Header}
use Rattle.status.proofs.Rules.{scope_is as scope-of}
use Rattle.group.specs.Values.{TransactionsValue, spare}
use Rattle.group.specs.Reclaims.{oldest}
use Rattle.store.specs.Calls as stores
use Rattle.store.specs.Values.{StoreValue, IsInStep, turn_of, lent_to}
use Rattle.store.specs.Reclaims.{below, refusal_for_use}
use Rattle.store.specs.Floors.{IsRelation, is_wrong_profile, floor_refusal, with_floor}
use Rattle.store.specs.declared.job.Job.{Job}
use Rattle.store.specs.declared.job.StartFault.{StartFault}
use Rattle.store.specs.declared.job.StartFault.TheVariants as fault
use Rattle.law_refinement.specs.Calls.{raising_to}
use Rattle.law_refinement.specs.Standing.{StandsInMemory, snapshots_of}
use Rattle.law_refinement.specs.OnDisk.{OfFloor, IsNextFloor, IsRested, Works}
use Rattle.law_refinement.specs.Stands.{job_gate, raising_of, RaisesFloor, StandsBeside as Stands}
use Rattle.law_refinement.proofs.Archiving.{lent-memory, lent-order}
use Rattle.law_refinement.proofs.Memory.{last-is}
use Rattle.law_refinement.proofs.Orders.{memory-beside}
use Rattle.law_refinement.proofs.Pumping.{goes-on-working}
use Rattle.law_refinement.proofs.Reclaiming.{not-in-use, least-is-low, none-reads-below}
use Rattle.law_refinement.proofs.Working.{none-there, working, gate-beside}

-- ---- the refusals

-- what holds where no floor is refused
record MayBegin (v : StoreValue) (scope : Option ℕ) (floor : ℕ) : Type 0 where
  pub works : v.transactions.failed ≡ false
  pub scope_is : is_wrong_profile v.log.profile scope ≡ false
  pub free : v.job ≡ None
  pub rises : floor_at (stores.floors v) (covered scope) < floor
  pub by_last : floor ≤ stores.last v
  pub unused : below (oldest v.transactions) floor ≡ None
  pub room : 0 < spare v.transactions

-- the tests in their order
record Tests (v : StoreValue) (scope : Option ℕ) (floor : ℕ) (a w b c d : Bool) : Type 0 where
  pub failed : v.transactions.failed ≡ a
  pub wrong : is_wrong_profile v.log.profile scope ≡ w
  pub busy : is_some v.job ≡ b
  pub low : nat_le floor (floor_at (stores.floors v) (covered scope)) ≡ c
  pub high : nat_lt (stores.last v) floor ≡ d

abbrev Refusal : StoreValue → ℕ → Bool → Bool → Bool → Bool → Bool → Option StartFault
Refusal v floor a w b c d =
    cond a (Some fault.Failed)
    (cond w (Some fault.WrongProfile)
    (cond b (Some fault.JobBusy)
    (cond c (Some fault.NothingToDo) (cond d (Some (fault.NotYet (stores.last v))) (refusal_for_use v (below (oldest v.transactions) floor))))))

may-begin : (v : StoreValue) (scope : Option ℕ) (floor : ℕ) → floor_refusal v scope floor ≡ None → MayBegin v scope floor
may-begin v scope floor none =
    by-tests v.transactions.failed (is_wrong_profile v.log.profile scope) (is_some v.job) (nat_le floor (floor_at (stores.floors v) (covered scope)))
    (nat_lt (stores.last v) floor)
    (record { failed = refl; wrong = refl; busy = refl; low = refl; high = refl }) none
  where
    by-tests : (a w b c d : Bool) → Tests v scope floor a w b c d → Path (Option StartFault) (Refusal v floor a w b c d) None → MayBegin v scope floor
    by-tests true w b c d tests is = absurd cc
    by-tests false true b c d tests is = absurd cc
    by-tests false false true c d tests is = absurd cc
    by-tests false false false true d tests is = absurd cc
    by-tests false false false false true tests is = absurd cc
    by-tests false false false false false tests is =
        let unused = not-in-use v (below (oldest v.transactions) floor) is in
        let low = tests.low in
        let high = tests.high in
        record {
          works = tests.failed;
          scope_is = tests.wrong;
          free = none-there v.job tests.busy;
          rises = grind (arith, nat_tests);
          by_last = grind (arith, nat_tests);
          unused = unused.0;
          room = unused.1;
        }

-- ---- the machine says so too

-- why a floor is refused: as the machine says, or because a job runs or the log has no slot for it
abbrev pub Refuses : Machine Value → Raising → StartFault → Type 0
Refuses m r fault.NothingToDo = Step IsValue m (FloorRefused r floors.NothingToDo) m
Refuses m r (fault.NotYet time) = Step IsValue m (FloorRefused r (floors.NotYet time)) m
Refuses m r (fault.InUse snapshot) = Step IsValue m (FloorRefused r (floors.InUse snapshot)) m
Refuses m r fault.Failed = m.failed ≡ true
Refuses m r fault.WrongProfile = Unit {0}
Refuses m r fault.JobBusy = Unit {0}
Refuses m r fault.StatusFull = Unit {0}
Refuses m r fault.ArchiveFull = ⊥
Refuses m r fault.HeapFull = ⊥
Refuses m r fault.NotGrowable = ⊥
Refuses m r fault.NoMemory = ⊥

-- the least open snapshot is one of them
least-taken : (o : Option ℕ) (snapshot n : ℕ) → lesser o (Some snapshot) ≡ Some n → (o ≡ Some n) ⊎ (snapshot ≡ n)
least-taken None snapshot n is = inr cc
least-taken (Some a) snapshot n is =
    let same : min a snapshot ≡ n = cc in
    ⊎_elim (λ (low : a ≤ snapshot). inl (ap (λ (x : ℕ). Some x) (omega (arith, same, low)))) (λ (high : snapshot < a). inr (omega (arith, same, high)))
    (cases-le a snapshot)
  where
    cases-le : (x y : ℕ) → (x ≤ y) ⊎ (y < x)
    cases-le x y = ⊎_elim (λ (low : x < y + 1). inl (omega (arith, low))) (λ (high : y + 1 ≤ x). inr (omega (arith, high))) (cases_lt x (y + 1))

least-there : (places : List (Option ℕ)) (o : Option ℕ) (n : ℕ) → least_with o places ≡ Some n → (o ≡ Some n) ⊎ Contains (snapshots_of places) n
least-there [] o n is = inl is
least-there (None ∷ places) None n is = least-there places None n is
least-there (None ∷ places) (Some a) n is = least-there places (Some a) n is
least-there (Some s ∷ places) o n is = ⊎_elim
    (λ (early : lesser o (Some s)
    ≡ Some n). ⊎_elim (λ (before : o ≡ Some n). inl before) (λ (own : s ≡ n). inr (Contains-head s (snapshots_of places) n own)) (least-taken o s n early))
    (λ (later : Contains (snapshots_of places) n). inr (Contains-tail s (snapshots_of places) n later))
    (least-there places (lesser o (Some s)) n is)

-- so is the machine's
machine-low : (s : ℕ) (ss : List ℕ) (x : ℕ) → Contains (s ∷ ss) x → least s ss ≤ x
machine-low s [] x there = ⊎_elim (λ (own : s ≡ x). omega (arith, own)) (λ (no : Contains [] x). absurd (Contains-nil x no)) (Contains-cons_cases s [] x there)
machine-low s (t ∷ ss) x there = ⊎_elim
    (λ (own : s ≡ x). (let first = machine-low (min s t) ss (min s t) (Contains-head (min s t) ss (min s t) refl) in omega (arith, own, first)))
    (λ (more : Contains (t ∷ ss) x). ⊎_elim
    (λ (own : t ≡ x). (let first = machine-low (min s t) ss (min s t) (Contains-head (min s t) ss (min s t) refl) in omega (arith, own, first)))
    (λ (rest : Contains ss x). machine-low (min s t) ss x (Contains-tail (min s t) ss x rest))
    (Contains-cons_cases t ss x more))
    (Contains-cons_cases s (t ∷ ss) x there)

machine-there : (s : ℕ) (ss : List ℕ) → Contains (s ∷ ss) (least s ss)
machine-there s [] = Contains-head s [] s refl
machine-there s (t ∷ ss) = ⊎_elim
    (λ (own : min s t ≡ least (min s t) ss). ⊎_elim
    (λ (first : s < t). Contains-head s (t ∷ ss) (least (min s t) ss) (omega (arith, own, first)))
    (λ (second : t ≤ s). Contains-tail s (t ∷ ss) (least (min s t) ss) (Contains-head t ss (least (min s t) ss) (omega (arith, own, second))))
    (cases_lt s t))
    (λ (rest : Contains ss (least (min s t) ss)). Contains-tail s (t ∷ ss) (least (min s t) ss) (Contains-tail t ss (least (min s t) ss) rest))
    (Contains-cons_cases (min s t) ss (least (min s t) ss) (machine-there (min s t) ss))

-- where the store's least is below the floor, the machine's is it
machine-least : (snapshots : List ℕ) (floor n : ℕ) → Contains snapshots n → ((x : ℕ) → Contains snapshots x → n ≤ x) → n < floor
    → in_use_refusal (in_use_below snapshots floor) ≡ Some (floors.InUse n)
machine-least [] floor n there low below = absurd (Contains-nil n there)
machine-least (s ∷ ss) floor n there low below =
    let up = low (least s ss) (machine-there s ss) in
    let down = machine-low s ss n there in
    let same : least s ss ≡ n = omega (arith, up, down) in
    let test : nat_lt (least s ss) floor ≡ true = grind (arith, nat_tests) in
    rw test (ap (λ (k : ℕ). Some (floors.InUse k)) same)

below-is : (o : Option ℕ) (floor n : ℕ) → below o floor ≡ Some n → (o ≡ Some n) × (n < floor)
below-is None floor n is = absurd cc
below-is (Some k) floor n is =
    elim (nat_lt k floor) as (λ (b : Bool). nat_lt k floor ≡ b → Path (Option ℕ) (cond b (Some k) None) (Some n) → (Some k ≡ Some n) × (n < floor)) [
      | true ↦ λ test said. let same : k ≡ n = cc in (said, (let low : k < floor = grind (arith, nat_tests) in omega (arith, low, same)))
      | false ↦ λ test said. absurd cc
    ] refl is

pub in-use : (places : List (Option ℕ)) (snapshots : List ℕ) (floor snapshot : ℕ) → IsPermutation snapshots (snapshots_of places)
    → below (least_open places) floor ≡ Some snapshot → in_use_refusal (in_use_below snapshots floor) ≡ Some (floors.InUse snapshot)
in-use places snapshots floor snapshot same is =
    let least-is = below-is (least_open places) floor snapshot is in
    let there : Contains (snapshots_of places) snapshot =
    ⊎_elim (λ (no : None ≡ Some snapshot). absurd cc) (λ (has : Contains (snapshots_of places) snapshot). has) (least-there places None snapshot least-is.0)
    in
    machine-least snapshots floor snapshot
    (Contains-permutation (snapshots_of places) snapshots snapshot (IsPermutation-sym snapshots (snapshots_of places) same) there)
    (λ x has. least-is-low places snapshot x least-is.0 (Contains-permutation snapshots (snapshots_of places) x same has)) least-is.1

pub refuses : (tells : Bool) (v : StoreValue) (scope : Option ℕ) (floor : ℕ) (m : Machine Value) → Stands tells v m → (why : StartFault)
    → floor_refusal v scope floor ≡ Some why → Refuses m (raising_to scope floor) why
refuses tells v scope floor m stands why some =
    by-tests v.transactions.failed (is_wrong_profile v.log.profile scope) (is_some v.job) (nat_le floor (floor_at (stores.floors v) (covered scope)))
    (nat_lt (stores.last v) floor)
    (record { failed = refl; wrong = refl; busy = refl; low = refl; high = refl }) some
  where
    r : Raising
    r = raising_to scope floor

    given : (said : StartFault) → Refuses m r said → Path (Option StartFault) (Some said) (Some why) → Refuses m r why
    given said refuses is = let same : said ≡ why = cc in subst (Refuses m r) same refuses

    low-is : (b : Bool) → nat_le floor (floor_at (stores.floors v) (covered scope)) ≡ b → nat_le floor (m.floors (covered scope)) ≡ b
    low-is b is = ap (nat_le floor) (sym (stands.memory.floors (covered scope))) ∙ is

    high-is : (b : Bool) → nat_lt (stores.last v) floor ≡ b → nat_lt (histories.last m.published) floor ≡ b
    high-is b is = ap (λ (n : ℕ). nat_lt n floor) (sym (last-is v.transactions m stands.memory)) ∙ is

    by-use : (o : Option ℕ) → below (oldest v.transactions) floor ≡ o → nat_le floor (m.floors (covered scope)) ≡ false
        → nat_lt (histories.last m.published) floor ≡ false → m.failed ≡ false → refusal_for_use v o ≡ Some why → Refuses m r why
    by-use (Some snapshot) used low high works is =
        given (fault.InUse snapshot) (works, rw (low, high) (in-use v.transactions.opened m.snapshots floor snapshot stands.memory.snapshots used), refl) is
    by-use None used low high works is =
        elim (spare v.transactions == 0) as (λ (b : Bool). Path (Option StartFault) (cond b (Some fault.StatusFull) None) (Some why) → Refuses m r why) [
          | true ↦ λ full. given fault.StatusFull tt full
          | false ↦ λ no. absurd cc
        ] is

    by-tests : (a w b c d : Bool) → Tests v scope floor a w b c d → Path (Option StartFault) (Refusal v floor a w b c d) (Some why) → Refuses m r why
    by-tests true w b c d tests is = given fault.Failed (sym stands.memory.failed ∙ tests.failed) is
    by-tests false true b c d tests is = given fault.WrongProfile tt is
    by-tests false false true c d tests is = given fault.JobBusy tt is
    by-tests false false false true d tests is =
        (let low = low-is true tests.low in given fault.NothingToDo (sym stands.memory.failed ∙ tests.failed, rw low refl, refl) is)
    by-tests false false false false true tests is =
        let low = low-is false tests.low in
        let high = high-is true tests.high in
        given (fault.NotYet (stores.last v)) (
          sym stands.memory.failed ∙ tests.failed,
          rw (low, high) (ap (λ (n : ℕ). Some (floors.NotYet n)) (sym (last-is v.transactions m stands.memory))),
          refl,
        ) is
    by-tests false false false false false tests is =
        by-use (below (oldest v.transactions) floor) refl (low-is false tests.low) (high-is false tests.high) (sym stands.memory.failed ∙ tests.failed) is

-- ---- the floor begins

-- no snapshot of the machine's is below it
all-reached : (snapshots : List ℕ) (floor : ℕ) → ((s : ℕ) → Contains snapshots s → floor ≤ s) → AllByRecursion (λ (s : ℕ). floor ≤ s) snapshots
all-reached [] floor each = tt
all-reached (s ∷ ss) floor each = (each s (Contains-head s ss s refl), all-reached ss floor (λ x there. each x (Contains-tail s ss x there)))

started-memory : (v : TransactionsValue) (m : Machine Value) (r : Raising) → StandsInMemory v m → StandsInMemory v (floor_started m r)
started-memory v m r stands = memory-beside v v.pending v.usages v.reserved v.slots v.used m (Some r) m.gate stands

-- the floor is of the store's profile
of-relations : (profile : ℕ) (scope : Option ℕ) → is_wrong_profile profile scope ≡ false → IsRelation scope → IsRelationOf profile scope
of-relations profile None right named = grind (arith, nat_tests)
of-relations profile (Some only) right named = (grind (arith, nat_tests), named)

-- each floor that it covers is below it
all-rise : (v : StoreValue) (m : Machine Value) (scope : Option ℕ) (floor : ℕ) → StandsInMemory v.transactions m → RaisesFloor v m → MayBegin v scope floor
    → (relation : ℕ) → IsTrue (covers scope relation) → m.floors relation < floor
all-rise v m None floor memory raises may relation covered =
    let other : v.log.profile ≢ 3 = of-relations v.log.profile None may.scope_is tt in
    let one = raises.of_profile other relation in
    let same = memory.floors 0 in
    let above = may.rises in
    omega (arith, one, same, above)
all-rise v m (Some only) floor memory raises may relation covered =
    let same = memory.floors only in
    let above = may.rises in
    let one : only ≡ relation = search (rules, covered) in
    subst (λ (r : ℕ). m.floors r < floor) one (omega (arith, same, above))

module _ (header : Header) (v : StoreValue) (scope : Option ℕ) (floor : ℕ) (m : Machine Value) (memory : StandsInMemory v.transactions m)
    (raises : RaisesFloor v m) (may : MayBegin v scope floor) (named : IsRelation scope) (profile : v.log.profile ≡ header.profile) (w : Works header v m) where
  next : IsNextFloor w.log.reading m.published scope floor
  next = record {
    scope_is =
        of-relations w.log.reading.profile scope (subst (λ (n : ℕ). is_wrong_profile n scope ≡ false) (profile
        ∙ sym w.log.laid.heap.profile_is) may.scope_is) named;
    rises = λ relation covered.
        (let given = w.log.stands.opens.floors_given relation in let above = all-rise v m scope floor memory raises may relation covered in omega (
          arith,
          given,
          above,
        ));
    by_last = omega (arith, may.by_last, last-is v.transactions m memory);
    in_range = omega (arith, may.by_last, last-is v.transactions m memory, last-range w.log.reading m.published m.floors w.log.stands);
  }

  begun-works : Works header (with_floor v scope floor) (floor_started m (raising_to scope floor))
  begun-works = record {
    log = w.log;
    heap = w.heap;
    packed = w.packed;
    group = record {
      rested = w.group.rested;
      rests = subst (λ (o : Option Job). IsRested header w.log.layout (turn_of o) w.group.rested v.disk.areas.status) may.free w.group.rests;
      at = w.group.at;
    };
    job = record { product = OfFloor scope floor; made = (refl, refl); next = next; at = tt };
    sound = w.sound;
  }

pub begins : (tells : Bool) (v : StoreValue) (scope : Option ℕ) (floor : ℕ) (m : Machine Value) → Stands tells v m → floor_refusal v scope floor ≡ None
    → IsRelation scope
    → Step IsValue m (FloorStarted (raising_to scope floor)) (floor_started m (raising_to scope floor))
    × Stands tells (with_floor v scope floor) (floor_started m (raising_to scope floor))
begins tells v scope floor m stands none named =
    let r : Raising = raising_to scope floor in
    let may = may-begin v scope floor none in
    let works : m.failed ≡ false = sym stands.memory.failed ∙ may.works in
    let raisable : MayRaise m r = record {
      rises = all-rise v m scope floor stands.memory stands.raises may;
      upto_last = omega (arith, may.by_last, last-is v.transactions m stands.memory);
      in_use = all-reached m.snapshots floor
          (λ s there. none-reads-below v.transactions.opened floor may.unused s
          (Contains-permutation m.snapshots (snapshots_of v.transactions.opened) s stands.memory.snapshots there));
    } in
    let step : Step IsValue m (FloorStarted r) (floor_started m r) = (works, stands.raises.is ∙ ap raising_of may.free, raisable, refl) in
    let free : lent_to v.job ≡ 0 = ap lent_to may.free in
    let in_step : IsInStep (with_floor v scope floor) = record {
      slots = omega (arith, free, stands.in_step.slots, stands.order.room, may.room);
      used = stands.in_step.used;
      turns = λ on.
          let was = stands.in_step.turns on in record {
            turning = was.turning;
            writing = was.writing ∙ ap (λ (o : Option Job). is_some v.turn || is_some (turn_of o)) may.free;
            turn = was.turn;
            job = tt;
          };
    } in (
      step,
      goes-on-working tells v (with_floor v scope floor) m (floor_started m r) stands works (record {
        memory = started-memory _ m r (lent-memory v.transactions m stands.memory);
        machine = run-machine IsValue m (floor_started m r) (FloorStarted r ∷ []) stands.machine (floor_started m r, step, refl);
        order = lent-order v.transactions may.room stands.order;
        in_step = in_step;
        gate = λ on. stands.gate on ∙ gate-beside v.turn v.job _ (ap job_gate may.free) refl;
        raises = record {
          is = refl;
          scope = scope-of v.log.profile scope (of-relations v.log.profile scope may.scope_is named);
          of_profile = stands.raises.of_profile;
        };
        marks = stands.marks;
        job = refl;
      }) works refl refl refl
          (λ told. let c = working tells v m stands works told in begun-works c.header v scope floor m stands.memory stands.raises may named c.profile c.works),
    )
