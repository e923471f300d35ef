-- A reclaim begins: its chain of anchors is the plan of a reclaim that may come next.
use Rattle.std.proofs.Common.{◌≡◌, ◌≢◌, ℕ, ◌-◌, ◌<◌, ◌≤◌, ◌^◌, ◌==◌, nat_lt, Bool, true, false, cond, List, [], ◌∷◌, length, Option, None, Some, is_some, ◌||◌}
use Rattle.std.proofs.Common.{Result, Ok, Err, MatchOption, refl, arith, ap, sym, subst, ◌∙◌, ⊎_elim}
use Rattle.std.specs.Prelude.{Contains}
use Rattle.std.specs.List.{AllByRecursion}
use Rattle.std.proofs.lemmas.Bool.{cases_lt}
use Rattle.std.proofs.lemmas.Bool.Decides.{nat_tests}
use Rattle.history.specs.declared.time.TimedWrite.{TimedWrite}
use Rattle.history.specs.Time.{IsRisingAfter}
use Rattle.history.specs.Versions.{versions}
use Rattle.history.specs.Machine.{Machine}
use Rattle.history.proofs.Members.{Contains-cons_cases, Contains-nil}
use Rattle.law_image.specs.Values.{Value}
use Rattle.law_image.proofs.Standing.{last-range, facts-rise}
use Rattle.extents.specs.declared.usage.Usage.{Usage}
use Rattle.extents.specs.declared.usage.Usage.TheVariants.{Out}
use Rattle.extents.specs.Usages.{with_usage}
use Rattle.chains.specs.Writes.{Write}
use Rattle.chains.specs.KeyWrites.{KeyWrites}
use Rattle.snapshot.specs.OpenTable.{lesser, least_with, least_open}
use Rattle.deltas.specs.Chains.{IsNumber}
use Rattle.status.specs.declared.header.Header.{Header}
use Rattle.law_layout.specs.Layouts.{live}
use Rattle.vacuum.specs.Archives.{AreInMemory}
use Rattle.vacuum.proofs.Plans.{reclaim_plan-is}
use Rattle.law_layout.proofs.Lists.{weaker}
use Rattle.group.specs.Taking.{AreLeastFree}
use Rattle.group.specs.Order.{IsInOrder}
use Rattle.group.specs.Values.{TransactionsValue, spare, with_slot_lent}
use Rattle.group.specs.Submits.{free_count}
use Rattle.group.specs.Reclaims.{oldest, with_reserved}
use Rattle.group.proofs.Reclaiming.{keeps-reserved}
use Rattle.store.specs.Values.{StoreValue, IsInStep, turn_of, lent_to}
use Rattle.store.specs.Reclaims.{below, refusal_for_use, reclaim_refusal, anchors_of, anchor_bodies, with_reclaim, BeginsReclaim, StartsReclaim}
use Rattle.store.specs.declared.job.Job.{Job}
use Rattle.store.specs.declared.job.StartFault.{StartFault}
use Rattle.store.specs.declared.job.StartFault.TheVariants as fault
use Rattle.store.proofs.ReclaimStarts.{too-full}
use Rattle.law_refinement.specs.Standing.{StandsInMemory, Reclaims, snapshots_of}
use Rattle.law_refinement.specs.OnDisk.{OfAnchors, IsNextChain, IsRested, Works}
use Rattle.law_refinement.specs.Stands.{HasMarks, job_gate, raising_of, StandsBeside as Stands}
use Rattle.law_refinement.proofs.Pumping.{raises-so}
use Rattle.law_refinement.proofs.Working.{none-there, gate-beside}
use Rattle.law_refinement.proofs.Orders.{memory-beside, order-beside}
use Rattle.law_refinement.proofs.Retired.{reserved-live}
use Rattle.law_refinement.proofs.Chains.{begun, begun-named, begun-filling, begun-chain, begun-range}
use Rattle.law_refinement.proofs.Ranges.{IsInRange, each-chain, all-rising, facts-in-range, anchors-in-range}

-- ---- the refusals

-- what holds where no reclaim is refused before its anchors are counted
pub record MayReclaim (v : StoreValue) : Type 0 where
  pub free : v.job ≡ None
  pub other : v.archived ≢ v.transactions.reclaimed
  pub none_below : below (oldest v.transactions) v.archived ≡ None
  pub room : 0 < spare v.transactions

pub not-in-use : (v : StoreValue) (o : Option ℕ) → refusal_for_use v o ≡ None → (o ≡ None) × (0 < spare v.transactions)
not-in-use v (Some snapshot) is = absurd cc
not-in-use v None is =
    elim (spare v.transactions == 0) as (λ (b : Bool). (spare v.transactions == 0) ≡ b → Path (Option StartFault) (cond b (Some fault.StatusFull) None) None
    → Path (Option ℕ) None None × (0 < spare v.transactions)) [
      | true ↦ λ test said. absurd cc
      | false ↦ λ test said. (refl, grind (arith, nat_tests))
    ] refl is

pub may-reclaim : (v : StoreValue) → reclaim_refusal v ≡ None → MayReclaim v
may-reclaim v none = by-tests v.transactions.failed refl (is_some v.job) refl (v.archived == v.transactions.reclaimed) refl none
  where
    by-tests : (a : Bool) → v.transactions.failed ≡ a → (b : Bool) → is_some v.job ≡ b → (c : Bool) → (v.archived == v.transactions.reclaimed) ≡ c
        → Path (Option StartFault)
        (cond a (Some fault.Failed)
        (cond b (Some fault.JobBusy) (cond c (Some fault.NothingToDo) (refusal_for_use v (below (oldest v.transactions) v.archived))))) None → MayReclaim v
    by-tests true a b c d e is = absurd cc
    by-tests false a true c d e is = absurd cc
    by-tests false a false c true e is = absurd cc
    by-tests false a false c false e is =
        let unused = not-in-use v (below (oldest v.transactions) v.archived) is in
        record {
          free = none-there v.job c;
          other = λ same. (let test : (v.archived == v.transactions.reclaimed) ≡ true = grind (arith, nat_tests) in cc);
          none_below = unused.0;
          room = unused.1;
        }

-- ---- the open transactions

abbrev AtMost : Option ℕ → ℕ → Type 0
AtMost None snapshot = ⊥
AtMost (Some least) snapshot = least ≤ snapshot

lesser-by : (least place : Option ℕ) (snapshot : ℕ) → AtMost least snapshot → AtMost (lesser least place) snapshot
lesser-by None place snapshot by = absurd by
lesser-by (Some a) None snapshot by = by
lesser-by (Some a) (Some b) snapshot by = omega (arith, by)

lesser-own : (least : Option ℕ) (snapshot : ℕ) → AtMost (lesser least (Some snapshot)) snapshot
lesser-own None snapshot = omega arith
lesser-own (Some a) snapshot = omega arith

least-by : (places : List (Option ℕ)) (least : Option ℕ) (snapshot : ℕ) → AtMost least snapshot → AtMost (least_with least places) snapshot
least-by [] least snapshot by = by
least-by (p ∷ ps) least snapshot by = least-by ps (lesser least p) snapshot (lesser-by least p snapshot by)

least-of : (places : List (Option ℕ)) (least : Option ℕ) (snapshot : ℕ) → Contains (snapshots_of places) snapshot → AtMost (least_with least places) snapshot
least-of [] least snapshot there = absurd (Contains-nil snapshot there)
least-of (None ∷ ps) least snapshot there = least-of ps (lesser least None) snapshot there
least-of (Some s ∷ ps) least snapshot there = ⊎_elim
    (λ (same : s ≡ snapshot). subst (λ (n : ℕ). AtMost (least_with (lesser least (Some s)) ps) n) same
    (least-by ps (lesser least (Some s)) s (lesser-own least s)))
    (λ (more : Contains (snapshots_of ps) snapshot). least-of ps (lesser least (Some s)) snapshot more)
    (Contains-cons_cases s (snapshots_of ps) snapshot there)

not-below : (o : Option ℕ) (mark snapshot : ℕ) → below o mark ≡ None → AtMost o snapshot → mark ≤ snapshot
not-below None mark snapshot none by = absurd by
not-below (Some least) mark snapshot none by =
    elim (nat_lt least mark) as (λ (b : Bool). nat_lt least mark ≡ b → Path (Option ℕ) (cond b (Some least) None) None → mark ≤ snapshot) [
      | true ↦ λ test said. absurd cc
      | false ↦ λ test said. let late : mark ≤ least = grind (arith, nat_tests) in omega (arith, late, by)
    ] refl none

-- the least open snapshot is no later than any
pub least-is-low : (places : List (Option ℕ)) (least snapshot : ℕ) → least_open places ≡ Some least → Contains (snapshots_of places) snapshot → least ≤ snapshot
least-is-low places least snapshot is there = subst (λ (o : Option ℕ). AtMost o snapshot) is (least-of places None snapshot there)

-- where none is below the mark, no open transaction reads below it
pub none-reads-below : (places : List (Option ℕ)) (mark : ℕ) → below (least_open places) mark ≡ None → (snapshot : ℕ) → Contains (snapshots_of places) snapshot
    → mark ≤ snapshot
none-reads-below places mark none snapshot there = not-below (least_open places) mark snapshot none (least-of places None snapshot there)

-- ---- what is taken

least-numbered : (us : List Usage) (ns : List ℕ) → AreLeastFree us ns → AllByRecursion IsNumber ns
least-numbered us [] least = tt
least-numbered us (n ∷ ns) least = let free = least.0.free in ((free.low, free.high), least-numbered (with_usage us n Out) ns least.1)

-- the heap has no room for more records than a count holds
few-anchors : (v : StoreValue) → reclaim_refusal v ≡ None → length (anchor_bodies v) ≤ free_count v.transactions → length (anchors_of v) < 2 ^ 32
few-anchors v none fits = ⊎_elim
    (λ (few : length (anchors_of v) < 2 ^ 32). few)
    (λ (many : 2 ^ 32 ≤ length (anchors_of v)).
    let said =
    subst (λ (o : Option StartFault). MatchOption o (BeginsReclaim v (Err fault.HeapFull) v)
    (λ why. (Path (Result (Unit {0}) StartFault) (Err fault.HeapFull) (Err why)) × (v ≡ v))) none (too-full v (anchors_of v) none refl many) in
    let test : nat_lt (free_count v.transactions) (length (anchor_bodies v)) ≡ true = said.0 in
    let less : free_count v.transactions < length (anchor_bodies v) = grind (arith, nat_tests) in
    absurd (omega (arith, less, fits)))
    (cases_lt (length (anchors_of v)) (2 ^ 32))

-- ---- the reclaim begins

begun-memory : (v : TransactionsValue) (numbers : List ℕ) (m : Machine Value) → StandsInMemory v m → StandsInMemory (with_slot_lent (with_reserved v numbers)) m
begun-memory v numbers m stands = memory-beside v v.pending (with_reserved v numbers).usages numbers (v.slots - 1) v.used m m.raising m.gate stands

pub begun-order : (v : TransactionsValue) (numbers : List ℕ) → 0 < spare v → AreLeastFree v.usages numbers → IsInOrder v
    → IsInOrder (with_slot_lent (with_reserved v numbers))
begun-order v numbers room least order =
    order-beside (with_reserved v numbers) v.opened (v.slots - 1) v.used v.floors v.failed (omega (arith, order.room, room)) (omega (
      arith,
      order.slots_few,
    )) (keeps-reserved v numbers order least)

module _ (header : Header) (v : StoreValue) (m : Machine Value) (memory : StandsInMemory v.transactions m) (order : IsInOrder v.transactions)
    (marks : HasMarks v m) (w : Works header v m)
    (none : reclaim_refusal v ≡ None) (numbers : List ℕ) (least : AreLeastFree v.transactions.usages numbers) (many : length numbers
    ≡ length (anchor_bodies v)) (fits : length (anchor_bodies v) ≤ free_count v.transactions) where
  may : MayReclaim v
  may = may-reclaim v none

  later : v.transactions.reclaimed < v.archived
  later = ⊎_elim (λ (less : v.transactions.reclaimed < v.archived). less)
      (λ (no : v.archived ≤ v.transactions.reclaimed). let low = marks.0 in absurd (may.other (omega (arith, no, low))))
      (cases_lt v.transactions.reclaimed v.archived)

  low : v.archived < 2 ^ 63
  low = let by = marks.1 in omega (arith, by, last-range w.log.reading m.published m.floors w.log.stands)

  chains : AllByRecursion (λ (c : KeyWrites). IsRisingAfter 0 c.writes × AllByRecursion (IsInRange c.key) c.writes) v.transactions.versions
  chains =
      each-chain (λ key ws. IsRisingAfter 0 ws × AllByRecursion (IsInRange key) ws) (λ key. (tt, tt)) v.transactions.versions memory.versions.ordered (λ key.
      subst (λ (ws : List Write). IsRisingAfter 0 ws × AllByRecursion (IsInRange key) ws) (sym (w.heap.facts key)) (
        facts-rise w.log.reading m.published m.floors w.log.stands key,
        facts-in-range w.log.reading m.published m.floors key w.log.stands w.log.laid.heap.anchors_are.each,
      ))

  in-memory : AreInMemory v.transactions.versions
  in-memory = record {
    ordered = memory.versions.ordered;
    rising = all-rising v.transactions.versions
        (weaker (λ (c : KeyWrites). IsRisingAfter 0 c.writes
        × AllByRecursion (IsInRange c.key) c.writes) (λ (c : KeyWrites). IsRisingAfter 0 c.writes) v.transactions.versions (λ c both. both.0) chains);
  }

  numbered : AllByRecursion IsNumber numbers
  numbered = least-numbered v.transactions.usages numbers least

  -- the chain of its anchors may come next
  pub next-chain : IsNextChain w.log.reading (begun v numbers)
  next-chain = record {
    plan = reclaim_plan-is w.log.reading v.transactions.versions in-memory (λ key. ap (λ (ws : List (TimedWrite Value)). versions ws) (sym (w.heap.facts key)))
        v.archived (sym w.log.archived);
    upto = w.log.archived;
    later = omega (arith, w.log.archived, w.log.reclaimed, later);
    chain = begun-chain v numbers numbered many
        (anchors-in-range v.archived v.transactions.versions low
        (weaker (λ (c : KeyWrites). IsRisingAfter 0 c.writes
        × AllByRecursion (IsInRange c.key) c.writes) (λ (c : KeyWrites). AllByRecursion (IsInRange c.key) c.writes) v.transactions.versions
        (λ c both. both.1) chains));
    in_range = begun-range v numbers numbered many (omega (arith, later)) low (omega (arith, many, fits)) (few-anchors v none fits);
  }

  pub begun-works : Works header (with_reclaim v numbers) m
  begun-works = record {
    log = w.log;
    heap = record {
      kept = reserved-live v.transactions numbers (live w.log.layout) order least w.heap.kept;
      times = w.heap.times;
      times_long = w.heap.times_long;
      facts = w.heap.facts;
    };
    packed = w.packed;
    group = record {
      rested = w.group.rested;
      rests = subst (λ (o : Option Job). IsRested header w.log.layout (turn_of o) w.group.rested v.disk.areas.status) may.free w.group.rests;
      at = w.group.at;
    };
    job = record {
      product = OfAnchors (begun v numbers);
      made = (refl, begun-named v numbers numbered many);
      next = next-chain;
      at = begun-filling v numbers numbered many v.disk.areas.heap;
    };
    sound = w.sound;
  }

pub reclaim-start-stands : (tells : Bool) (old new : StoreValue) (answer : Result (Unit {0}) StartFault) (m : Machine Value) → Stands tells old m
    → StartsReclaim old answer new → Stands tells new m
reclaim-start-stands tells old new answer m stands starts = by-refusal (reclaim_refusal old) refl starts
  where
    begins : reclaim_refusal old ≡ None → (answer : Result (Unit {0}) StartFault) → BeginsReclaim old answer new → Stands tells new m
    begins none (Err why) is = subst (λ (x : StoreValue). Stands tells x m) (sym is.1) stands
    begins none (Ok done) is =
        let may = may-reclaim old none in
        let ns = is.1.numbers in
        let free : lent_to old.job ≡ 0 = ap lent_to may.free in
        let in_step : IsInStep (with_reclaim old ns) = record {
          slots = omega (arith, free, stands.in_step.slots, stands.order.room, may.room);
          used = stands.in_step.used;
          turns = λ on.
              let was = stands.in_step.turns on in record {
                turning = was.turning;
                writing = was.writing ∙ ap (λ (o : Option Job). is_some old.turn || is_some (turn_of o)) may.free;
                turn = was.turn;
                job = tt;
              };
        } in
        let recent = none-reads-below old.transactions.opened old.archived may.none_below in
        let job : Reclaims old.archived old.archived false old.transactions.opened old.transactions.pending old.transactions.versions =
        record { is = refl; recent = recent; made = λ turning. absurd cc } in
        subst (λ (x : StoreValue). Stands tells x m) (sym is.1.new_is) (record {
          memory = begun-memory old.transactions ns m stands.memory;
          machine = stands.machine;
          order = begun-order old.transactions ns may.room is.1.least stands.order;
          in_step = in_step;
          gate = λ on. stands.gate on ∙ gate-beside old.turn old.job _ (ap job_gate may.free) refl;
          raises = raises-so old (with_reclaim old ns) m m stands.raises refl refl refl (stands.raises.is ∙ ap raising_of may.free);
          marks = stands.marks;
          job = job;
          disk = λ told.
              let d = stands.disk told in record {
                header = d.header;
                profile = d.profile;
                slots = d.slots;
                pieces = d.pieces;
                profile_built = d.profile_built;
                leaves = d.leaves;
                works = λ works. begun-works d.header old m stands.memory stands.order stands.marks (d.works works) none ns is.1.least is.1.many is.0;
              };
        })

    by-refusal : (o : Option StartFault) → reclaim_refusal old ≡ o → MatchOption o (BeginsReclaim old answer new) (λ why. (answer ≡ Err why) × (new ≡ old))
        → Stands tells new m
    by-refusal None none is = begins none answer is
    by-refusal (Some why) some is = subst (λ (x : StoreValue). Stands tells x m) (sym is.1) stands
