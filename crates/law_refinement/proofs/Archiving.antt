-- An archive begins: its run is the plan of an archive that may come next.
use Rattle.std.proofs.Common.{◌≡◌, ℕ, ◌+◌, ◌-◌, ◌<◌, ◌≤◌, ◌^◌, ◌==◌, nat_lt, nat_le, Bool, true, false, cond, List, [], ◌∷◌, ◌++◌, length, map, take, drop}
use Rattle.std.proofs.Common.{Option, None, Some, is_some, ◌||◌, Result, Ok, Err, MatchOption, refl, arith, ap, sym, subst, ◌∙◌, append_assoc}
use Rattle.std.specs.Prelude.{filter, slice_range}
use Rattle.std.specs.List.{AllByRecursion, flat_map}
use Rattle.std.proofs.lemmas.Bool.Decides.{nat_tests}
use Rattle.history.specs.declared.key.Key.{Key}
use Rattle.history.specs.declared.time.Version.{Version}
use Rattle.history.specs.declared.time.TimedWrite.{TimedWrite}
use Rattle.history.specs.Key.{IsKey}
use Rattle.history.specs.Time.{IsRisingAfter}
use Rattle.history.specs.Versions.{versions, ends_after, ends_by}
use Rattle.history.specs.Machine.{Machine, IsMachine}
use Rattle.history.proofs.Filters.{AllByRecursion-append}
use Rattle.law_image.specs.Values.{Value, IsValue}
use Rattle.law_image.specs.Reading.{ArchiveRecord}
use Rattle.law_image.specs.PlansMade.{archive_record}
use Rattle.law_image.proofs.Standing.{rises, last-range}
use Rattle.disk.specs.Parts.{HoldsPart}
use Rattle.wire.specs.Numbers.{u16_bytes, u64_bytes}
use Rattle.wire.specs.Values.{value_bytes}
use Rattle.wire.specs.Spelling.{IsRun}
use Rattle.archive.specs.Records as kept
use Rattle.archive.specs.Runs as written
use Rattle.chains.specs.Writes.{Write}
use Rattle.chains.specs.KeyWrites.{KeyWrites}
use Rattle.law_layout.specs.Records.{archive_bytes, IsArchiveRecord}
use Rattle.law_layout.specs.Runs.{run_bytes, index_from}
use Rattle.law_layout.proofs.RunWays.{row-within}
use Rattle.law_layout.proofs.Lists.{weaker}
use Rattle.status.specs.declared.header.Header.{Header}
use Rattle.vacuum.specs.Archives.{AreInMemory, key_records, since_of, records_of, run_of}
use Rattle.vacuum.specs.declared.archive_walk.Since.{Since}
use Rattle.vacuum.proofs.Plans.{archive_plan-is}
use Rattle.group.specs.Order.{IsInOrder}
use Rattle.group.specs.Values.{TransactionsValue, spare, with_slot_lent}
use Rattle.store.specs.Calls as stores
use Rattle.archive.specs.declared.run.RunEntry.{RunEntry}
use Rattle.store.specs.Archives.{refusal_now, since_now, archive_of, with_archive, BeginsRun, StartsArchive}
use Rattle.store.specs.Values.{StoreValue, IsInStep, turn_of, lent_to}
use Rattle.store.specs.declared.job.Job.{Job}
use Rattle.store.specs.declared.job.StartFault.{StartFault}
use Rattle.store.specs.declared.job.StartFault.TheVariants as fault
use Rattle.law_refinement.specs.Standing.{StandsInMemory}
use Rattle.law_refinement.specs.OnDisk.{OfRun, IsNextRun, IsRested, Works}
use Rattle.law_refinement.specs.Stands.{job_gate, raising_of, StandsBeside as Stands}
use Rattle.law_refinement.proofs.Pumping.{raises-so}
use Rattle.law_refinement.proofs.Working.{none-there, gate-beside}
use Rattle.law_refinement.proofs.Held.{rising-held}
use Rattle.law_refinement.proofs.Memory.{last-is}
use Rattle.law_refinement.proofs.Orders.{memory-beside, order-beside}
use Rattle.law_refinement.proofs.JobPumping.{keeps-parts}
use Rattle.law_refinement.proofs.Ranges.{IsInRange, each-chain, all-rising, versions-in-range, facts-in-range}

-- ---- a run has one spelling

record-same : (r : ArchiveRecord) → kept.record_bytes r ≡ archive_bytes r
unfolding archive_bytes kept.head_bytes u16_bytes u64_bytes
record-same r =
    let relation = u16_bytes r.key.relation in
    let number = u64_bytes r.key.record in
    let from = u64_bytes r.version.from in
    let to = u64_bytes r.version.to in
    let value = value_bytes r.version.value in
    append_assoc relation (number ++ (from ++ to)) value
    ∙ ap (λ (l : List ℕ). relation ++ l) (append_assoc number (from ++ to) value ∙ ap (λ (l : List ℕ). number ++ l) (append_assoc from to value))
    ∙ sym (append_assoc relation number (from ++ (to ++ value)))

records-same : (rs : List ArchiveRecord) → written.records_bytes rs ≡ flat_map archive_bytes rs
unfolding written.records_bytes
records-same [] = refl
records-same (r ∷ rs) = let one = record-same r in let rest = records-same rs in λ i. one i ++ rest i

index-same : (place : ℕ) (rs : List ArchiveRecord) → written.index_bytes place rs ≡ index_from place rs
unfolding written.index_bytes
index-same place [] = refl
index-same place (r ∷ rs) =
    ap (λ (l : List ℕ). u64_bytes place ++ l)
    (ap (λ (bytes : List ℕ). written.index_bytes (place + length bytes) rs) (record-same r) ∙ index-same (place + length (archive_bytes r)) rs)

pub run-same : (rs : List ArchiveRecord) → written.run_bytes rs ≡ run_bytes rs
unfolding run_bytes
run-same rs = let one = records-same rs in let rest = index-same 0 rs in λ i. one i ++ rest i

-- ---- what is in range

-- what memory has are the facts of the heap
pub memory-in-range : (header : Header) (v : StoreValue) (m : Machine Value) → StandsInMemory v.transactions m → Works header v m
    → AllByRecursion (λ (c : KeyWrites). IsRisingAfter 0 c.writes × AllByRecursion (IsInRange c.key) c.writes) v.transactions.versions
memory-in-range header v m memory w =
    let rising = rises w.log.reading m.published m.floors w.log.stands in
    each-chain (λ key ws. IsRisingAfter 0 ws × AllByRecursion (IsInRange key) ws) (λ key. (tt, tt)) v.transactions.versions memory.versions.ordered (λ key. (
      rising-held memory.versions rising key,
      subst (λ (ws : List Write). AllByRecursion (IsInRange key) ws) (sym (w.heap.facts key))
          (facts-in-range w.log.reading m.published m.floors key w.log.stands w.log.laid.heap.anchors_are.each),
    ))

-- ---- the records are in range

filtered-in-range : (key : Key) (after upto : ℕ) (vs : List (Version Value)) → upto < 2 ^ 63
    → AllByRecursion (λ (v : Version Value). IsKey key × IsValue v.value) vs
    → AllByRecursion IsArchiveRecord (map (archive_record key) (filter (ends_by upto) (filter (ends_after after) vs)))
filtered-in-range key after upto [] low each = tt
filtered-in-range key after upto (v ∷ vs) low each =
    let rest = filtered-in-range key after upto vs low each.1 in
    elim (nat_lt after v.to) as
    (λ (b : Bool). AllByRecursion IsArchiveRecord
    (map (archive_record key) (filter (ends_by upto) (cond b (v ∷ filter (ends_after after) vs) (filter (ends_after after) vs))))) [
      | true ↦ elim (nat_le v.to upto) as (λ (b : Bool). nat_le v.to upto ≡ b
          → AllByRecursion IsArchiveRecord
          (map (archive_record key) (cond b (v ∷ filter (ends_by upto) (filter (ends_after after) vs))
          (filter (ends_by upto) (filter (ends_after after) vs))))) [
            | true ↦ λ by. (
              record { key = (each.0).0; to = (let at : v.to ≤ upto = grind (arith, nat_tests) in omega (arith, at, low)); value = (each.0).1 },
              rest,
            )
            | false ↦ λ by. rest
          ] refl
      | false ↦ rest
    ]

records-in-range : (since : Since) (upto : ℕ) (m : List KeyWrites) → upto < 2 ^ 63
    → AllByRecursion (λ (c : KeyWrites). AllByRecursion (IsInRange c.key) c.writes) m → AllByRecursion IsArchiveRecord (records_of since upto m)
records-in-range since upto [] low each = tt
records-in-range since upto (c ∷ cs) low each =
    let after : ℕ = since_of since c.key.relation in
    AllByRecursion-append IsArchiveRecord (key_records after upto c) (records_of since upto cs)
    (filtered-in-range c.key after upto (versions c.writes) low (versions-in-range c.key c.writes each.0)) (records-in-range since upto cs low each.1)

-- ---- the refusals

-- what holds where no archive is refused before its run is counted
record MayBegin (v : StoreValue) (upto : ℕ) : Type 0 where
  pub free : v.job ≡ None
  pub later : v.archived < upto
  pub by_last : upto ≤ stores.last v
  pub room : 0 < spare v.transactions

may-begin : (v : StoreValue) (upto : ℕ) → refusal_now v upto ≡ None → MayBegin v upto
may-begin v upto none =
    by-tests v.transactions.failed refl (is_some v.job) refl (nat_le upto v.archived) refl (nat_lt (stores.last v) upto) refl (spare v.transactions == 0) refl
    none
  where
    by-tests : (a : Bool) → v.transactions.failed ≡ a → (b : Bool) → is_some v.job ≡ b → (c : Bool) → nat_le upto v.archived ≡ c → (d : Bool)
        → nat_lt (stores.last v) upto ≡ d → (e : Bool) → (spare v.transactions == 0) ≡ e
        → Path (Option StartFault)
        (cond a (Some fault.Failed)
        (cond b (Some fault.JobBusy)
        (cond c (Some fault.NothingToDo) (cond d (Some (fault.NotYet (stores.last v))) (cond e (Some fault.StatusFull) None))))) None → MayBegin v upto
    by-tests true a b c d e f g h i is = absurd cc
    by-tests false a true c d e f g h i is = absurd cc
    by-tests false a false c true e f g h i is = absurd cc
    by-tests false a false c false e true g h i is = absurd cc
    by-tests false a false c false e false g true i is = absurd cc
    by-tests false a false c false e false g false i is =
        record { free = none-there v.job c; later = grind (arith, nat_tests); by_last = grind (arith, nat_tests); room = grind (arith, nat_tests) }

-- ---- the archive begins

pub lent-memory : (v : TransactionsValue) (m : Machine Value) → StandsInMemory v m → StandsInMemory (with_slot_lent v) m
lent-memory v m stands = memory-beside v v.pending v.usages v.reserved (v.slots - 1) v.used m m.raising m.gate stands

pub lent-order : (v : TransactionsValue) → 0 < spare v → IsInOrder v → IsInOrder (with_slot_lent v)
lent-order v room order =
    order-beside v v.opened (v.slots - 1) v.used v.floors v.failed (omega (arith, order.room, room)) (omega (arith, order.slots_few)) order

-- nothing is held at a place within the content
none-held : (at : ℕ) (content : List ℕ) → at ≤ length content → HoldsPart at [] content
none-held at content within = record { inside = omega (arith, within); is = empty }
  where
    empty : slice_range content at (at + 0) ≡ []
    empty = (let none : at + 0 - at ≡ 0 = omega arith in ap (λ (n : ℕ). take n (drop at content)) none)

module _ (header : Header) (v : StoreValue) (m : Machine Value) (memory : StandsInMemory v.transactions m) (machine : IsMachine IsValue m)
    (w : Works header v m)
    (upto : ℕ) (may : MayBegin v upto) (range : upto < 2 ^ 63 → IsRun (run_of upto v.runs_end (archive_of v upto))) where
  low : upto < 2 ^ 63
  low = omega (arith, may.by_last, last-is v.transactions m memory, last-range w.log.reading m.published m.floors w.log.stands)

  chains : AllByRecursion (λ (c : KeyWrites). IsRisingAfter 0 c.writes × AllByRecursion (IsInRange c.key) c.writes) v.transactions.versions
  chains = memory-in-range header v m memory w

  in-memory : AreInMemory v.transactions.versions
  in-memory = record {
    ordered = memory.versions.ordered;
    rising = all-rising v.transactions.versions
        (weaker (λ (c : KeyWrites). IsRisingAfter 0 c.writes
        × AllByRecursion (IsInRange c.key) c.writes) (λ (c : KeyWrites). IsRisingAfter 0 c.writes) v.transactions.versions (λ c both. both.0) chains);
  }

  next-run : IsNextRun w.log.layout w.log.reading m.published (record { entry = run_of upto v.runs_end (archive_of v upto); records = archive_of v upto })
  next-run = record {
    plan = archive_plan-is w.log.reading v.transactions.versions in-memory (λ key. ap (λ (ws : List (TimedWrite Value)). versions ws) (sym (w.heap.facts key)))
        (since_now v) upto (sym w.log.archived) (λ relation. w.log.stands.opens.floors_given relation ∙ sym (memory.floors relation));
    later = omega (arith, w.log.archived, may.later);
    by_last = omega (arith, may.by_last, last-is v.transactions m memory);
    stored = record {
      length_is = ap (λ (l : List ℕ). length l) (sym (run-same (archive_of v upto)));
      records_are = refl;
      each = records-in-range (since_now v) upto v.transactions.versions low
          (weaker (λ (c : KeyWrites). IsRisingAfter 0 c.writes
          × AllByRecursion (IsInRange c.key) c.writes) (λ (c : KeyWrites). AllByRecursion (IsInRange c.key) c.writes) v.transactions.versions
          (λ c both. both.1) chains);
    };
    behind = w.log.runs_end;
    in_range = range low;
  }

  begun-works : (entry : RunEntry) → Works header (with_archive v upto entry) m
  begun-works entry = record {
    log = w.log;
    heap = w.heap;
    packed = w.packed;
    group = record {
      rested = w.group.rested;
      rests = subst (λ (o : Option Job). IsRested header w.log.layout (turn_of o) w.group.rested v.disk.areas.status) may.free w.group.rests;
      at = w.group.at;
    };
    job = record {
      product = OfRun (record { entry = run_of upto v.runs_end (archive_of v upto); records = archive_of v upto });
      made = refl;
      next = next-run;
      at = record {
        front = [];
        whole = run-same (archive_of v upto);
        place = omega arith;
        held = none-held v.runs_end v.disk.areas.archive.bytes
            (let within = row-within header w.log.layout w.log.reading v.disk.areas w.log.laid w.sound (keeps-parts header v m w).runs in omega (
              arith,
              within,
              w.log.runs_end,
            ));
      };
    };
    sound = w.sound;
  }

pub archive-start-stands : (tells : Bool) (old new : StoreValue) (upto : ℕ) (answer : Result (Unit {0}) StartFault) (m : Machine Value) → Stands tells old m
    → StartsArchive old upto answer new → Stands tells new m
archive-start-stands tells old new upto answer m stands starts = by-refusal (refusal_now old upto) refl starts
  where
    begins : refusal_now old upto ≡ None → (answer : Result (Unit {0}) StartFault) → BeginsRun old upto answer new → Stands tells new m
    begins none (Err why) is = subst (λ (x : StoreValue). Stands tells x m) (sym is.1) stands
    begins none (Ok done) is =
        let may = may-begin old upto none in
        let memory = lent-memory old.transactions m stands.memory in
        let order = lent-order old.transactions may.room stands.order in
        let free : lent_to old.job ≡ 0 = ap lent_to may.free in
        let in_step : IsInStep (with_archive old upto is.2.entry) = record {
          slots = omega (arith, free, stands.in_step.slots, stands.order.room, may.room);
          used = stands.in_step.used;
          turns = λ on.
              let was = stands.in_step.turns on in record {
                turning = was.turning;
                writing = was.writing ∙ ap (λ (o : Option Job). is_some old.turn || is_some (turn_of o)) may.free;
                turn = was.turn;
                job = tt;
              };
        } in
        subst (λ (x : StoreValue). Stands tells x m) (sym is.2.new_is) (record {
          memory = memory;
          machine = stands.machine;
          order = order;
          in_step = in_step;
          gate = λ on. stands.gate on ∙ gate-beside old.turn old.job _ (ap job_gate may.free) refl;
          raises = raises-so old (with_archive old upto is.2.entry) m m stands.raises refl refl refl (stands.raises.is ∙ ap raising_of may.free);
          marks = stands.marks;
          job = (let low = may.later in omega (arith, low), (let by = may.by_last in omega (arith, by, last-is old.transactions m stands.memory)));
          disk = λ told.
              let d = stands.disk told in record {
                header = d.header;
                profile = d.profile;
                slots = d.slots;
                pieces = d.pieces;
                profile_built = d.profile_built;
                leaves = d.leaves;
                works = λ works. begun-works d.header old m stands.memory stands.machine (d.works works) upto may is.1 is.2.entry;
              };
        })

    by-refusal : (o : Option StartFault) → refusal_now old upto ≡ o → MatchOption o (BeginsRun old upto answer new) (λ why. (answer ≡ Err why) × (new ≡ old))
        → Stands tells new m
    by-refusal None none is = begins none answer is
    by-refusal (Some why) some is = subst (λ (x : StoreValue). Stands tells x m) (sym is.1) stands
