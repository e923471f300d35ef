-- The beginning of a floor is the machine's.
use Rattle.std.proofs.Common.{rules, ◌≡◌, ℕ, ◌<◌, ◌≤◌, ◌^◌, nat_le, nat_lt, ◌&&◌, ◌||◌, Bool, true, false, cond, List, [], ◌∷◌}
use Rattle.std.proofs.Common.{Option, None, Some, is_some, Result, Ok, Err, refl, arith, ap, sym, subst, ◌∙◌}
use Rattle.std.specs.Prelude.{IsTrue, MatchBool, MatchOption, Contains}
use Rattle.std.specs.List.{AllByRecursion}
use Rattle.std.proofs.lemmas.Bool.Decides.{nat_tests}
use Rattle.std.proofs.lemmas.List.Sorted.{Contains-permutation}
use Rattle.history.specs.Floors.{Raising, covered}
use Rattle.history.specs.FloorStarts as floors
use Rattle.history.specs.Histories as histories
use Rattle.history.specs.Machine.{Machine, MayRaise}
use Rattle.history.specs.Steps.{Step, FloorStarted, floor_started}
use Rattle.history.proofs.Machines.{run-machine}
use Rattle.history.proofs.Members.{Contains-head, Contains-tail}
use Rattle.floors.specs.Floors.{floor_at}
use Rattle.law_image.specs.Values.{Value, IsValue}
use Rattle.snapshot.specs.OpenTable.{least_open}
use Rattle.log_writer.specs.Writer.{WriterState}
use Rattle.log_room.specs.Rooms.{has_entry_room}
use Rattle.log_room.specs.Bases as bases
use Rattle.commits.specs.Values.{last}
use Rattle.commits.specs.Calls.{oldest}
use Rattle.store.specs.Reclaims.{below}
use Rattle.log_store.specs.Values.{LogStoreValue, IsInStep, is_busy}
use Rattle.log_store.specs.Jobs.{with_floor, StartsFloor, BeginsFloor, floor_refusal, refusal_for_use, has_floor_room, base_parts}
use Rattle.log_store.specs.declared.job.Job.{Job}
use Rattle.log_store.specs.declared.job.StartFault.{StartFault}
use Rattle.log_store.specs.declared.job.StartFault.TheVariants as start
use Rattle.law_refinement.specs.Calls.{raising_to}
use Rattle.law_refinement.specs.Standing.{snapshots_of}
use Rattle.law_refinement.proofs.FloorStarts.{in-use}
use Rattle.law_refinement.proofs.Reclaiming.{none-reads-below}
use Rattle.law_commits.proofs.Names.{last-is}
use Rattle.law_log_store.specs.Standing.{StandsOnHeap, StopsOnHeap}
use Rattle.law_log_store.proofs.Jobs.{floor-begins}
use Rattle.law_log_steps.specs.Store.{gate_of, raising_of, IsStoreOf}
use Rattle.law_log_steps.specs.Laws.{StartsOn}
use Rattle.law_log_steps.proofs.InStep.{floor-in-step}
use Rattle.law_log_steps.proofs.Jobs.{making-memory}

-- ---- the tests in their order

record Tests (v : LogStoreValue) (relation floor : ℕ) (a b c d : Bool) : Type 0 where
  failed : v.commits.failed ≡ a
  busy : is_busy v ≡ b
  low : nat_le floor (floor_at v.commits.floors relation) ≡ c
  high : nat_lt (last v.commits) floor ≡ d

abbrev Refusal : LogStoreValue → ℕ → ℕ → Bool → Bool → Bool → Bool → Option StartFault
Refusal v relation floor a b c d =
    cond a (Some start.Failed)
    (cond b (Some start.JobBusy)
    (cond c (Some start.NothingToDo)
    (cond d (Some (start.NotYet (last v.commits))) (refusal_for_use (oldest v.commits) floor (has_floor_room v relation)))))

none-there : {T : Type 0} (o : Option T) → is_some o ≡ false → o ≡ None
none-there None none = refl
none-there (Some x) some = absurd (let no : true ≡ false = some in cc)

pub neither : (a b : Bool) → (a || b) ≡ false → (a ≡ false) × (b ≡ false)
neither true b both = absurd (let no : true ≡ false = both in cc)
neither false b both = (refl, both)

-- neither a job runs nor a reclaim
pub none-runs : (v : LogStoreValue) → is_busy v ≡ false → (v.job ≡ None) × (v.reclaim ≡ None)
none-runs v idle =
    let both = neither (is_some v.job) (is_some v.reclaim) idle in
    (none-there v.job both.0, none-there v.reclaim both.1)

-- what holds where none fails
pub record MayBegin (v : LogStoreValue) (relation floor : ℕ) : Type 0 where
  pub works : v.commits.failed ≡ false
  pub free : v.job ≡ None
  pub unmade : v.reclaim ≡ None
  pub rises : floor_at v.commits.floors relation < floor
  pub by_last : floor ≤ last v.commits
  pub unused : below (oldest v.commits) floor ≡ None
  pub room : IsTrue (has_entry_room v.room)

room-left : (b : Bool) → Path (Option StartFault) (cond b None (Some start.HeapFull)) None → IsTrue b
room-left true is = refl
room-left false is = absurd cc

unused-is : (o : Option ℕ) (floor : ℕ) (room : Bool) → refusal_for_use o floor room ≡ None → (below o floor ≡ None) × IsTrue room
unused-is None floor room is = (refl, room-left room is)
unused-is (Some k) floor room is =
    elim (nat_lt k floor) as (λ (b : Bool). Path (Option StartFault) (cond b (Some (start.InUse k)) (cond room None (Some start.HeapFull))) None
    → Path (Option ℕ) (cond b (Some k) None) None × IsTrue room) [
      | true ↦ λ said. absurd cc
      | false ↦ λ said. (refl, room-left room said)
    ] is

-- its entry has room then
pub first-is : (a b : Bool) → IsTrue (a && b) → IsTrue a
first-is true b both = refl
first-is false b both = absurd cc

entry-room : (v : LogStoreValue) (relation : ℕ) → IsTrue (has_floor_room v relation) → IsTrue (has_entry_room v.room)
entry-room v relation room =
    first-is (has_entry_room v.room) (nat_lt 0 (floor_at v.commits.floors relation) || bases.has_floor_room v.room (base_parts v)) room

pub may-begin : (v : LogStoreValue) (relation floor : ℕ) → floor_refusal v (Some relation) floor ≡ None → MayBegin v relation floor
may-begin v relation floor none =
    by-tests v.commits.failed (is_busy v) (nat_le floor (floor_at v.commits.floors relation)) (nat_lt (last v.commits) floor)
    (record { failed = refl; busy = refl; low = refl; high = refl }) none
  where
    by-tests : (a b c d : Bool) → Tests v relation floor a b c d → Path (Option StartFault) (Refusal v relation floor a b c d) None → MayBegin v relation floor
    by-tests true b c d tests is = absurd cc
    by-tests false true c d tests is = absurd cc
    by-tests false false true d tests is = absurd cc
    by-tests false false false true tests is = absurd cc
    by-tests false false false false tests is =
        let unused = unused-is (oldest v.commits) floor (has_floor_room v relation) is in
        let low = tests.low in
        let high = tests.high in
        let idle = none-runs v tests.busy in
        record {
          works = tests.failed;
          free = idle.0;
          unmade = idle.1;
          rises = grind (arith, nat_tests);
          by_last = grind (arith, nat_tests);
          unused = unused.0;
          room = entry-room v relation unused.1;
        }

-- no snapshot of these is below it
all-reached : (snapshots : List ℕ) (floor : ℕ) → ((s : ℕ) → Contains snapshots s → floor ≤ s) → AllByRecursion (λ (s : ℕ). floor ≤ s) snapshots
all-reached [] floor each = tt
all-reached (s ∷ ss) floor each = (each s (Contains-head s ss s refl), all-reached ss floor (λ x there. each x (Contains-tail s ss x there)))

-- ---- the machine says so too

module _ (tells : Bool) (v : LogStoreValue) (m : Machine Value) (is : IsStoreOf tells v m) (relation floor : ℕ) where
  abbrev r : Raising
  r = raising_to (Some relation) floor

  refuses : (why : StartFault) → floor_refusal v (Some relation) floor ≡ Some why → StartsOn tells m r (Err why) v
  refuses why some =
      by-tests v.commits.failed (is_busy v) (nat_le floor (floor_at v.commits.floors relation)) (nat_lt (last v.commits) floor)
      (record { failed = refl; busy = refl; low = refl; high = refl }) some
    where
      given : (said : StartFault) → StartsOn tells m r (Err said) v → Path (Option StartFault) (Some said) (Some why) → StartsOn tells m r (Err why) v
      given said starts is = let same : said ≡ why = cc in subst (λ (f : StartFault). StartsOn tells m r (Err f) v) same starts

      low-is : (b : Bool) → nat_le floor (floor_at v.commits.floors relation) ≡ b → nat_le floor (m.floors relation) ≡ b
      low-is b so = ap (nat_le floor) (sym (is.memory.floors relation)) ∙ so

      high-is : (b : Bool) → nat_lt (last v.commits) floor ≡ b → nat_lt (histories.last m.published) floor ≡ b
      high-is b so = ap (λ (n : ℕ). nat_lt n floor) (sym (last-is v.commits m is.memory)) ∙ so

      full : (b : Bool) → Path (Option StartFault) (cond b None (Some start.HeapFull)) (Some why) → StartsOn tells m r (Err why) v
      full true so = absurd cc
      full false so = given start.HeapFull is so

      by-use : (o : Option ℕ) → oldest v.commits ≡ o → nat_le floor (m.floors relation) ≡ false → nat_lt (histories.last m.published) floor ≡ false
          → m.failed ≡ false → refusal_for_use o floor (has_floor_room v relation) ≡ Some why → StartsOn tells m r (Err why) v
      by-use None none low high works so = full (has_floor_room v relation) so
      by-use (Some k) least low high works so =
          elim (nat_lt k floor) as (λ (b : Bool). nat_lt k floor ≡ b
          → Path (Option StartFault) (cond b (Some (start.InUse k)) (cond (has_floor_room v relation) None (Some start.HeapFull))) (Some why)
          → StartsOn tells m r (Err why) v) [
            | true ↦ λ test said.
                let used : below (least_open v.commits.opened) floor ≡ Some k = rw least (rw test refl) in
                given (start.InUse k)
                ((works, rw (low, high) (in-use v.commits.opened m.snapshots floor k is.memory.snapshots used), refl), is) said
            | false ↦ λ test said. full (has_floor_room v relation) said
          ] refl so

      by-tests : (a b c d : Bool) → Tests v relation floor a b c d → Path (Option StartFault) (Refusal v relation floor a b c d) (Some why)
          → StartsOn tells m r (Err why) v
      by-tests true b c d tests so = given start.Failed (sym is.memory.failed ∙ tests.failed, is) so
      by-tests false true c d tests so = given start.JobBusy is so
      by-tests false false true d tests so =
          let low = low-is true tests.low in given start.NothingToDo ((sym is.memory.failed ∙ tests.failed, rw low refl, refl), is) so
      by-tests false false false true tests so =
          let low = low-is false tests.low in
          let high = high-is true tests.high in
          given (start.NotYet (last v.commits)) (
            (
              sym is.memory.failed ∙ tests.failed,
              rw (low, high) (ap (λ (n : ℕ). Some (floors.NotYet n)) (sym (last-is v.commits m is.memory))),
              refl,
            ),
            is,
          ) so
      by-tests false false false false tests so =
          by-use (oldest v.commits) refl (low-is false tests.low) (high-is false tests.high) (sym is.memory.failed ∙ tests.failed) so

  begins : floor_refusal v (Some relation) floor ≡ None → relation < 2 ^ 16 → StartsOn tells m r (Ok tt) (with_floor v relation floor)
  begins none range = (step, stands)
    where
      may : MayBegin v relation floor
      may = may-begin v relation floor none

      works : m.failed ≡ false
      works = sym is.memory.failed ∙ may.works

      above : m.floors relation < floor
      above = let same = is.memory.floors relation in let low = may.rises in omega (arith, same, low)

      upto : floor ≤ histories.last m.published
      upto = let same = last-is v.commits m is.memory in let low = may.by_last in omega (arith, same, low)

      raisable : MayRaise m r
      raisable = record {
        rises = λ other covered.
            let one : relation ≡ other = search (rules, covered) in
            subst (λ (n : ℕ). m.floors n < floor) one above;
        upto_last = upto;
        in_use = all-reached m.snapshots floor
            (λ s there. none-reads-below v.commits.opened floor may.unused s
            (Contains-permutation m.snapshots (snapshots_of v.commits.opened) s is.memory.snapshots there));
      }

      step : Step IsValue m (FloorStarted r) (floor_started m r)
      step = (works, is.writing.raising ∙ ap raising_of may.free, raisable, refl)

      job : Option Job
      job = (with_floor v relation floor).job

      same-gate : (t : Option WriterState) → gate_of t v.job ≡ gate_of t (with_floor v relation floor).job
      same-gate None = ap (λ (j : Option Job). gate_of None j) may.free
      same-gate (Some w) = refl

      stands : IsStoreOf tells (with_floor v relation floor) (floor_started m r)
      stands = record {
        memory = making-memory v.commits m (Some r) m.gate is.memory;
        machine = run-machine IsValue m (floor_started m r) (FloorStarted r ∷ []) is.machine (floor_started m r, step, refl);
        writing = record {
          most = is.writing.most;
          group = is.writing.group;
          raising = refl;
          made = refl;
          gate = λ on. is.writing.gate on ∙ same-gate v.turn;
          left = λ fails. absurd (let no : false ≡ true = sym works ∙ fails in cc);
        };
        fresh = is.fresh;
        marks = record { reclaimed = is.marks.reclaimed; base = is.marks.base; job = tt; reclaim = is.marks.reclaim };
        ends = is.ends;
        disk = λ told. subst (λ (b : Bool). MatchBool b (StopsOnHeap (with_floor v relation floor) m.published m.queue m.floors)
            (StandsOnHeap (with_floor v relation floor) m.published m.queue m.floors)) (sym may.works)
            (floor-begins v relation floor m.published m.queue m.floors may.free may.unmade may.room above upto range
            (subst (λ (b : Bool). MatchBool b (StopsOnHeap v m.published m.queue m.floors) (StandsOnHeap v m.published m.queue m.floors)) may.works
            (is.disk told)));
      }

-- ---- the start

-- the store stays in step
pub starts-in-step : (old new : LogStoreValue) (scope : Option ℕ) (floor : ℕ) (answer : Result (Unit {0}) StartFault) → IsInStep old
    → StartsFloor old scope floor answer new → IsInStep new
starts-in-step old new scope floor answer is starts = by-refusal (floor_refusal old scope floor) refl starts
  where
    begun : (s : Option ℕ) (a : Result (Unit {0}) StartFault) → floor_refusal old s floor ≡ None → BeginsFloor old s floor a new → IsInStep new
    begun None a none begins = absurd begins
    begun (Some relation) (Ok done) none begins =
        let may = may-begin old relation floor none in
        subst IsInStep (sym begins.1) (floor-in-step old relation floor may.free may.unmade may.room is)
    begun (Some relation) (Err why) none begins = subst IsInStep (sym begins.1) is

    by-refusal : (o : Option StartFault) → floor_refusal old scope floor ≡ o
        → MatchOption o (BeginsFloor old scope floor answer new) (λ why. (answer ≡ Err why) × (new ≡ old)) → IsInStep new
    by-refusal None none begins = begun scope answer none begins
    by-refusal (Some why) some refused = subst IsInStep (sym refused.1) is

pub floor-starts : (tells : Bool) (old new : LogStoreValue) (scope : Option ℕ) (floor : ℕ) (answer : Result (Unit {0}) StartFault) (m : Machine Value)
    → IsStoreOf tells old m → StartsFloor old scope floor answer new → StartsOn tells m (raising_to scope floor) answer new
floor-starts tells old new None floor answer m is starts = by-failed old.commits.failed refl starts
  where
    r : Raising
    r = raising_to None floor

    refused : (why : StartFault) → StartsOn tells m r (Err why) old → (answer ≡ Err why) × (new ≡ old) → StartsOn tells m r answer new
    refused why so said =
        subst (λ (a : Result (Unit {0}) StartFault). StartsOn tells m r a new) (sym said.0)
        (subst (λ (v : LogStoreValue). StartsOn tells m r (Err why) v) (sym said.1) so)

    by-failed : (b : Bool) → old.commits.failed ≡ b
        → MatchOption (cond b (Some start.Failed) (Some start.WrongProfile)) (BeginsFloor old None floor answer new) (λ why. (answer ≡ Err why) × (new ≡ old))
        → StartsOn tells m r answer new
    by-failed true failed said = refused start.Failed (sym is.memory.failed ∙ failed, is) said
    by-failed false works said = refused start.WrongProfile (refl, is) said
floor-starts tells old new (Some relation) floor answer m is starts = by-refusal (floor_refusal old (Some relation) floor) refl starts
  where
    r : Raising
    r = raising_to (Some relation) floor

    by-answer : (a : Result (Unit {0}) StartFault) → floor_refusal old (Some relation) floor ≡ None → BeginsFloor old (Some relation) floor a new
        → StartsOn tells m r a new
    by-answer (Ok done) none begun =
        subst (λ (v : LogStoreValue). StartsOn tells m r (Ok done) v) (sym begun.1) (begins tells old m is relation floor none begun.0)
    by-answer (Err why) none memory =
        subst (λ (f : StartFault). StartsOn tells m r (Err f) new) (sym memory.0)
        (subst (λ (v : LogStoreValue). StartsOn tells m r (Err start.NoMemory) v) (sym memory.1) (refl, is))

    by-refusal : (o : Option StartFault) → floor_refusal old (Some relation) floor ≡ o
        → MatchOption o (BeginsFloor old (Some relation) floor answer new) (λ why. (answer ≡ Err why) × (new ≡ old)) → StartsOn tells m r answer new
    by-refusal None none begun = by-answer answer none begun
    by-refusal (Some why) some said =
        subst (λ (a : Result (Unit {0}) StartFault). StartsOn tells m r a new) (sym said.0)
        (subst (λ (v : LogStoreValue). StartsOn tells m r (Err why) v) (sym said.1) (refuses tells old m is relation floor why some))
