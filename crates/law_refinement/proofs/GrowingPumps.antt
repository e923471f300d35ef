-- A group's step beside a piece in the making is the same step on the calm status area.
use Rattle.std.proofs.Common.{◌≡◌, ℕ, ◌+◌, ◌<◌, ◌≤◌, ◌++◌, ◌==◌, ◌&&◌, nat_lt, min, cond, Bool, true, false, IsTrue, is_some, List, length, Option, None, Some}
use Rattle.std.proofs.Common.{Result, Ok, Err, IsErr, MatchBool, MatchOption, MatchResult, refl, sym, ap, subst, ◌∙◌, inl, inr, arith}
use Rattle.std.specs.Prelude.{OnOk}
use Rattle.std.proofs.lemmas.Bool.{cases_eq}
use Rattle.std.proofs.lemmas.List.{length-map, length-take}
use Rattle.disk.specs.Areas.{AreaState, Areas, MayLeave, IsSound, AreSound}
use Rattle.disk.specs.Calls.{DiskState, Counts, Writes, Syncs, MadeInPart, top}
use Rattle.disk.specs.declared.area.Area.TheVariants.{Heap}
use Rattle.disk.specs.declared.area.DeviceFault.{DeviceFault}
use Rattle.wire.specs.declared.slot.Body.{Body}
use Rattle.wire.specs.Spelling.{spelling}
use Rattle.deltas.specs.Extents.{extent_start}
use Rattle.history.specs.Machine.{Machine}
use Rattle.history.specs.Steps.{Run}
use Rattle.law_image.specs.Values.{Value, IsValue}
use Rattle.status.specs.declared.header.Header.{Header}
use Rattle.status.specs.Header.{total}
use Rattle.status.specs.Growth.{may_be_open}
use Rattle.status.specs.GrowthState.{GrowthState}
use Rattle.status.specs.SlotCalls.{SlotStage, IsSlotCall}
use Rattle.status.specs.SlotCalls as slots
use Rattle.status.specs.TurnState.{TurnState, LogState}
use Rattle.law_layout.specs.Growing.{IsGrowing, LeftBeside}
use Rattle.law_layout.proofs.Growing.{growth_leaves}
use Rattle.law_layout.proofs.CalmCalls.{slot_is_calm}
use Rattle.group.specs.declared.answers.Did.{Did}
use Rattle.group.specs.declared.answers.PumpFault.{PumpFault}
use Rattle.group.specs.declared.answers.PumpFault.TheVariants as pump
use Rattle.group.specs.declared.queued.StoredExtent.{StoredExtent}
use Rattle.group.specs.Values.{TransactionsValue}
use Rattle.group.specs.Order.{IsInOrder, StageFits}
use Rattle.group.specs.Steps.{next_step, next_extent, grouped, entries, IsCommitOf, members, due}
use Rattle.group.specs.declared.stage.GroupStage.{GroupStage}
use Rattle.group.specs.declared.stage.GroupStage.TheVariants.{Storing}
use Rattle.group.proofs.Kept.{advance-is, keeps-grouped}
use Rattle.group.specs.Queued.{QueuedValue}
use Rattle.group.specs.declared.stage.NextStep.{NextStep}
use Rattle.group.specs.declared.stage.NextStep.TheVariants as step
use Rattle.store.specs.Jobs.{growing}
use Rattle.store.specs.Pumps.{Pumps, TakesStep, Calls, Steps, WritesExtent, SyncsHeap, TurnsSlot, TurnFails, IsTurned, MayBeginSlot, started, freshly, taken}
use Rattle.store.specs.Pumps.{disk_answer}
use Rattle.store.specs.Values.{StoreValue, KeepsJob, IsOnItsWay, turn_of}
use Rattle.law_refinement.specs.Laws.{begins_in, ends_in}
use Rattle.law_refinement.specs.Stands.{Stands, StandsStill, StandsGrowing, GrowsBeside, without_growth}
use Rattle.law_refinement.proofs.Naming.{spelling-long}
use Rattle.law_refinement.specs.OnDisk.{StandsOnDisk}
use Rattle.law_refinement.proofs.Working.{claims-some}
use Rattle.law_refinement.proofs.Jobs.{sound-at}
use Rattle.law_refinement.proofs.Pumping.{commit-is, begin-is}
use Rattle.law_refinement.proofs.Whole as whole
use Rattle.law_refinement.proofs.Growing.{as-still, as-growing, by-kind, header-stays}

-- ---- calls of the disk

-- a disk with another status area
abbrev on_calm : DiskState → AreaState → DiskState
on_calm d calm = record d { areas = record d.areas { status = calm } }

counts-calm : (r : Result (Unit {0}) DeviceFault) (old new : DiskState) (calm next : AreaState) → Counts r old new → (old.made ≡ top → next ≡ calm)
    → Counts r (on_calm old calm) (on_calm new next)
counts-calm r old new calm next c same = record {
  made = c.made;
  refused = c.refused;
  full = λ at. let f = c.full at in let is = same at in (f.0, λ i. record (f.1 i) { status = is i });
}

heap-part : (calm : AreaState) (at n : ℕ) (old new : Areas) → MadeInPart Heap at n old new
    → MadeInPart Heap at n (record old { status = calm }) (record new { status = calm })
heap-part calm at n old new (inl same) = inl (ap (λ (x : Areas). record x { status = calm }) same)
heap-part calm at n old new (inr tears) = inr (record { torn = tears.torn; areas = ap (λ (x : Areas). record x { status = calm }) tears.areas })

heap-write : (calm : AreaState) (at : ℕ) (bytes : List ℕ) (r : Result (Unit {0}) DeviceFault) (old new : Areas) → Writes Heap at bytes r old new
    → Writes Heap at bytes r (record old { status = calm }) (record new { status = calm })
heap-write calm at bytes (Ok done) old new call =
    record { written = ap (λ (x : Areas). record x { status = calm }) call.written; in_part = heap-part calm at (length bytes) old new call.in_part }
heap-write calm at bytes (Err fault) old new call = record { written = tt; in_part = heap-part calm at (length bytes) old new call.in_part }

heap-sync : (calm : AreaState) (r : Result (Unit {0}) DeviceFault) (old new : Areas) → Syncs Heap r old new
    → Syncs Heap r (record old { status = calm }) (record new { status = calm })
heap-sync calm (Ok done) old new call = record { synced = ap (λ (x : Areas). record x { status = calm }) call.synced; same = tt }
heap-sync calm (Err fault) old new call = record { synced = tt; same = ap (λ (x : Areas). record x { status = calm }) call.same }

-- the status area is as it was
write-alone : (at : ℕ) (bytes : List ℕ) (r : Result (Unit {0}) DeviceFault) (old new : Areas) → Writes Heap at bytes r old new → new.status ≡ old.status
write-alone at bytes r old new call = by-part call.in_part
  where
    by-part : MadeInPart Heap at (length bytes) old new → new.status ≡ old.status
    by-part (inl same) = ap (λ (x : Areas). x.status) same
    by-part (inr tears) = ap (λ (x : Areas). x.status) tears.areas

sync-alone : (r : Result (Unit {0}) DeviceFault) (old new : Areas) → Syncs Heap r old new → new.status ≡ old.status
sync-alone (Ok done) old new call = ap (λ (x : Areas). x.status) call.synced
sync-alone (Err fault) old new call = ap (λ (x : Areas). x.status) call.same

-- ---- a call of the group's slot

-- it is the same call on the calm area
record SlotCalm {T : Type 0} (header : Header) (growth : GrowthState) (calm : AreaState) (number : ℕ) (body : List ℕ) (stage : SlotStage)
    (result : Result T PumpFault) (old new : DiskState) : Type 0 where
  pub next : AreaState
  pub at_top : old.made ≡ top → next ≡ calm
  pub call : IsSlotCall number body stage (disk_answer result) (record old.areas { status = calm }) (record new.areas { status = next })
  pub sound : IsSound next
  pub goes : OnOk (disk_answer result) (IsGrowing header growth.stage next new.areas.status)
  pub leaves : (content : List ℕ) → MayLeave new.areas.status content → LeftBeside header (IsTrue (may_be_open growth.stage)) next content

refused-calm : (number : ℕ) (body : List ℕ) (stage : SlotStage) (r : Result (Unit {0}) DeviceFault) (old new : Areas) (calm : AreaState) → IsErr r → new ≡ old
    → IsSlotCall number body stage r old new
    → IsSlotCall number body stage r (record old { status = calm }) (record new { status = calm })
refused-calm number body stage (Ok done) old new calm err same call = absurd (let no : false ≡ true = err in cc)
refused-calm number body slots.Begun (Err fault) old new calm err same call =
    record { written = tt; in_part = inl (ap (λ (x : Areas). record x { status = calm }) same) }
refused-calm number body slots.BodyWritten (Err fault) old new calm err same call =
    record { synced = tt; same = ap (λ (x : Areas). record x { status = calm }) same }
refused-calm number body slots.BodySynced (Err fault) old new calm err same call =
    record { written = tt; in_part = inl (ap (λ (x : Areas). record x { status = calm }) same) }
refused-calm number body slots.GateWritten (Err fault) old new calm err same call =
    record { synced = tt; same = ap (λ (x : Areas). record x { status = calm }) same }
refused-calm number body slots.Opened (Err fault) old new calm err same call = absurd call

refused-goes : (X : Type 0) (r : Result (Unit {0}) DeviceFault) → IsErr r → OnOk r X
refused-goes X (Ok done) err = absurd (let no : false ≡ true = err in cc)
refused-goes X (Err fault) err = tt

slot-calm : {T : Type 0} (header : Header) (growth : GrowthState) (calm : AreaState) (number : ℕ) (body : List ℕ) (stage : SlotStage)
    (result : Result T PumpFault) (old new : DiskState)
    → IsGrowing header growth.stage calm old.areas.status → IsSound calm → AreSound old.areas → AreSound new.areas → number < total header
    → (stage ≡ slots.Begun → length body ≡ 511)
    → Counts (disk_answer result) old new → IsSlotCall number body stage (disk_answer result) old.areas new.areas
    → SlotCalm header growth calm number body stage result old new
slot-calm header growth calm number body stage result old new growing sound-calm sound sound-new among whole counts call = elim (cases_eq old.made top) [
  | inl at ↦ (let full = counts.full at in
      record {
        next = calm;
        at_top = λ _. refl;
        call = refused-calm number body stage (disk_answer result) old.areas new.areas calm full.0 full.1 call;
        sound = sound-calm;
        goes = refused-goes (IsGrowing header growth.stage calm new.areas.status) (disk_answer result) full.0;
        leaves = λ content left. growth_leaves header growth.stage calm old.areas.status content growing sound-calm
            (subst (λ (x : Areas). MayLeave x.status content) full.1 left);
      })
  | inr below ↦ (let k = slot_is_calm header growth.stage calm number body old.areas new.areas growing sound-calm sound sound-new among stage
      (disk_answer result) whole call in
      record {
        next = k.next;
        at_top = λ at. absurd (below at);
        call = subst (λ (x : Areas). IsSlotCall number body stage (disk_answer result) (record old.areas { status = calm }) (record x { status = k.next }))
            (sym k.alone) k.call;
        sound = k.sound;
        goes = k.goes;
        leaves = k.leaves;
      })
]

-- ---- what is known before a step

-- a piece is in the making beside the calm area, and the group that stands has a slot
record Side (tells : Bool) (growth : GrowthState) (v : StoreValue) (calm : AreaState) (header : Header) (new : StoreValue) : Type 0 where
  pub job : v.job ≡ Some (growing growth)
  pub sound : IsTrue tells → IsSound calm
  pub real : IsTrue tells → AreSound v.disk.areas
  pub after : IsTrue tells → AreSound new.disk.areas
  pub growing : (told : IsTrue tells) → IsGrowing header growth.stage calm v.disk.areas.status
  pub among : (told : IsTrue tells) → 0 < v.transactions.group → v.log.used < total header

-- the same step on the calm area, and what is written of the piece beside that
record Lifted (tells : Bool) (growth : GrowthState) (Takes : StoreValue → StoreValue
    → Type 0) (v : StoreValue) (calm : AreaState) (header : Header) (new : StoreValue) : Type 0 where
  pub next : AreaState
  pub takes : Takes (without_growth v calm) (without_growth new next)
  pub job : new.job ≡ v.job
  pub profile : new.log.profile ≡ v.log.profile
  pub slots : new.log.slots ≡ v.log.slots
  pub pieces : new.log.pieces ≡ v.log.pieces
  pub sound : IsTrue tells → IsSound next
  pub growing : (told : IsTrue tells) → new.transactions.failed ≡ false → IsGrowing header growth.stage next new.disk.areas.status
  pub left : (told : IsTrue tells) (content : List ℕ) → MayLeave new.disk.areas.status content
      → LeftBeside header (IsTrue (may_be_open growth.stage)) next content

keeps-without : (v new : StoreValue) (calm next : AreaState) → KeepsJob v new → KeepsJob (without_growth v calm) (without_growth new next)
keeps-without v new calm next keeps = record { job = refl; archived = keeps.archived; runs_end = keeps.runs_end; archive = keeps.archive }

module _ (tells : Bool) (growth : GrowthState) (v : StoreValue) (calm : AreaState) (header : Header) (new : StoreValue)
    (side : Side tells growth v calm header new) where
  -- ---- no call of the status area

  beside-same : new.disk.areas.status ≡ v.disk.areas.status → (told : IsTrue tells) → IsGrowing header growth.stage calm new.disk.areas.status
  beside-same same told = subst (λ (a : AreaState). IsGrowing header growth.stage calm a) (sym same) (side.growing told)

  left-same : (IsTrue tells → new.disk.areas.status ≡ v.disk.areas.status) → (told : IsTrue tells) (content : List ℕ) → MayLeave new.disk.areas.status content
      → LeftBeside header (IsTrue (may_be_open growth.stage)) calm content
  left-same same told content left =
      growth_leaves header growth.stage calm v.disk.areas.status content (side.growing told) (side.sound told)
      (subst (λ (a : AreaState). MayLeave a content) (same told) left)

  unchanged : (Takes : StoreValue → StoreValue → Type 0) → Takes (without_growth v calm) (without_growth v calm) → new ≡ v
      → Lifted tells growth Takes v calm header new
  unchanged Takes takes is = record {
    next = calm;
    takes = subst (λ (x : StoreValue). Takes (without_growth v calm) (without_growth x calm)) (sym is) takes;
    job = ap (λ (x : StoreValue). x.job) is;
    profile = ap (λ (x : StoreValue). x.log.profile) is;
    slots = ap (λ (x : StoreValue). x.log.slots) is;
    pieces = ap (λ (x : StoreValue). x.log.pieces) is;
    sound = side.sound;
    growing = λ told works. beside-same (ap (λ (x : StoreValue). x.disk.areas.status) is) told;
    left = left-same (λ told. ap (λ (x : StoreValue). x.disk.areas.status) is);
  }

  -- a step of the heap
  module _ (what : Did) (after : TransactionsValue) (answer : Result Did PumpFault) (steps : Steps what after v answer new) where
    steps-calm : Steps what after (without_growth v calm) answer (without_growth new calm)
    steps-calm = record { answer = steps.answer; log = steps.log; turn = steps.turn; job = keeps-without v new calm calm steps.job }

    of-heap : (Takes : StoreValue → StoreValue → Type 0) → (IsTrue tells → new.disk.areas.status ≡ v.disk.areas.status)
        → Takes (without_growth v calm) (without_growth new calm) → Lifted tells growth Takes v calm header new
    of-heap Takes same takes = record {
      next = calm;
      takes = takes;
      job = steps.job.job;
      profile = ap (λ (l : LogState). l.profile) steps.log;
      slots = ap (λ (l : LogState). l.slots) steps.log;
      pieces = ap (λ (l : LogState). l.pieces) steps.log;
      sound = side.sound;
      growing = λ told works. beside-same (same told) told;
      left = left-same same;
    }

  heap-calls : (answer : Result Did PumpFault) (Call : Result (Unit {0}) DeviceFault → Areas → Areas → Type 0)
      → ((r : Result (Unit {0}) DeviceFault) → Call r v.disk.areas new.disk.areas
      → Call r (record v.disk.areas { status = calm }) (record new.disk.areas { status = calm }))
      → Calls tells Call answer v.disk new.disk → Calls tells Call answer (on_calm v.disk calm) (on_calm new.disk calm)
  heap-calls answer Call to call =
      record {
        areas = λ told. to (disk_answer answer) (call.areas told);
        counts = counts-calm (disk_answer answer) v.disk new.disk calm calm call.counts (λ _. refl);
      }

  extent-lifted : (stored : StoredExtent) (answer : Result Did PumpFault) → WritesExtent tells stored v answer new
      → Lifted tells growth (λ a b. WritesExtent tells stored a answer b) v calm header new
  extent-lifted stored answer takes =
      of-heap _ _ answer takes.steps (λ a b. WritesExtent tells stored a answer b)
      (λ told. write-alone _ stored.image (disk_answer answer) v.disk.areas new.disk.areas (takes.call.areas told)) (record {
        whole = takes.whole;
        call = heap-calls answer (Writes Heap (extent_start stored.extent) stored.image)
            (λ r call. heap-write calm (extent_start stored.extent) stored.image r v.disk.areas new.disk.areas call) takes.call;
        steps = steps-calm _ _ answer takes.steps;
      })

  sync-lifted : (answer : Result Did PumpFault) → SyncsHeap tells v answer new → Lifted tells growth (λ a b. SyncsHeap tells a answer b) v calm header new
  sync-lifted answer takes =
      of-heap _ _ answer takes.steps (λ a b. SyncsHeap tells a answer b)
      (λ told. sync-alone (disk_answer answer) v.disk.areas new.disk.areas (takes.call.areas told)) (record {
        call = heap-calls answer (Syncs Heap) (λ r call. heap-sync calm r v.disk.areas new.disk.areas call) takes.call;
        steps = steps-calm _ _ answer takes.steps;
      })

  -- ---- a call of the group's slot, of a store with other transactions and another log

  turned-calm : (s : SlotStage) (t : TurnState) (w : StoreValue) (what : Did) (next : AreaState) → IsTurned s t w what new
      → IsTurned s t (without_growth w calm) what (without_growth new next)
  turned-calm slots.Begun t w what next is = is
  turned-calm slots.BodyWritten t w what next is = is
  turned-calm slots.BodySynced t w what next is = is
  turned-calm slots.GateWritten t w what next is = is
  turned-calm slots.Opened t w what next is = is

  answer-calm : (t : TurnState) (w : StoreValue) (answer : Result Did PumpFault) (next : AreaState)
      → MatchResult answer (λ what. IsTurned t.stage t w what new) (λ why. TurnFails w why new)
      → MatchResult answer (λ what. IsTurned t.stage t (without_growth w calm) what (without_growth new next))
      (λ why. TurnFails (without_growth w calm) why (without_growth new next))
  answer-calm t w (Ok what) next is = turned-calm t.stage t w what next is
  answer-calm t w (Err why) next is = record { fault = is.fault; transactions = is.transactions; log = is.log; turn = is.turn }

  -- the log has as many slots as before
  record SameRoom (w : StoreValue) : Type 0 where
    pub profile : new.log.profile ≡ w.log.profile
    pub slots : new.log.slots ≡ w.log.slots
    pub pieces : new.log.pieces ≡ w.log.pieces

  room-of : (w : StoreValue) (log : LogState) → new.log ≡ log → log.profile ≡ w.log.profile → log.slots ≡ w.log.slots → log.pieces ≡ w.log.pieces → SameRoom w
  room-of w log is profile slots pieces = record {
    profile = ap (λ (l : LogState). l.profile) is ∙ profile;
    slots = ap (λ (l : LogState). l.slots) is ∙ slots;
    pieces = ap (λ (l : LogState). l.pieces) is ∙ pieces;
  }

  turned-room : (s : SlotStage) (t : TurnState) (w : StoreValue) (what : Did) → IsTurned s t w what new → SameRoom w
  turned-room slots.Begun t w what is = room-of w w.log is.2 refl refl refl
  turned-room slots.BodyWritten t w what is = room-of w w.log is.2 refl refl refl
  turned-room slots.BodySynced t w what is = room-of w w.log is.2 refl refl refl
  turned-room slots.GateWritten t w what is = room-of w (record w.log { used = t.number + 1; writing = false }) is.2 refl refl refl
  turned-room slots.Opened t w what is = absurd is

  answer-room : (t : TurnState) (w : StoreValue) (answer : Result Did PumpFault)
      → MatchResult answer (λ what. IsTurned t.stage t w what new) (λ why. TurnFails w why new) → SameRoom w
  answer-room t w (Ok what) is = turned-room t.stage t w what is
  answer-room t w (Err why) is = room-of w w.log is.log refl refl refl

  -- where the device refused the call the store has failed
  goes-if-on : (X : Type 0) (t : TurnState) (w : StoreValue) (answer : Result Did PumpFault)
      → MatchResult answer (λ what. IsTurned t.stage t w what new) (λ why. TurnFails w why new) → OnOk (disk_answer answer) X → new.transactions.failed ≡ false
      → X
  goes-if-on X t w (Ok what) is goes works = goes
  goes-if-on X t w (Err why) is goes works = absurd (let no : true ≡ false = sym (ap (λ (x : TransactionsValue). x.failed) is.transactions) ∙ works in cc)

  turn-lifted : (t : TurnState) (w : StoreValue) (answer : Result Did PumpFault) → w.disk ≡ v.disk → w.job ≡ v.job
      → ((told : IsTrue tells) → t.number < total header) → (t.stage ≡ slots.Begun → length t.body ≡ 511) → TurnsSlot tells t w answer new
      → Lifted tells growth (λ a b. TurnsSlot tells t a answer b) w calm header new
  turn-lifted t w answer disk job among whole takes = by-tells tells refl
    where
      room : SameRoom w
      room = answer-room t w answer takes.answer

      by-tells : (b : Bool) → tells ≡ b → Lifted tells growth (λ a b. TurnsSlot tells t a answer b) w calm header new
      by-tells false untold =
          let none : IsTrue tells → ⊥ = λ told. (let no : false ≡ true = sym untold ∙ told in cc) in
          record {
            next = calm;
            takes = record {
              call = record {
                areas = λ told. absurd (none told);
                counts = counts-calm (disk_answer answer) w.disk new.disk calm calm takes.call.counts (λ _. refl);
              };
              answer = answer-calm t w answer calm takes.answer;
              job = keeps-without w new calm calm takes.job;
            };
            job = takes.job.job;
            profile = room.profile;
            slots = room.slots;
            pieces = room.pieces;
            sound = λ told. absurd (none told);
            growing = λ told works. absurd (none told);
            left = λ told content left. absurd (none told);
          }
      by-tells true is =
          let told : IsTrue tells = is in
          let k : SlotCalm header growth calm t.number t.body t.stage answer w.disk new.disk =
          slot-calm header growth calm t.number t.body t.stage answer w.disk new.disk
          (subst (λ (d : DiskState). IsGrowing header growth.stage calm d.areas.status) (sym disk) (side.growing told)) (side.sound told)
          (subst (λ (d : DiskState). AreSound d.areas) (sym disk) (side.real told)) (side.after told) (among told) whole takes.call.counts
          (takes.call.areas told) in
          record {
            next = k.next;
            takes = record {
              call = record { areas = λ _. k.call; counts = counts-calm (disk_answer answer) w.disk new.disk calm k.next takes.call.counts k.at_top };
              answer = answer-calm t w answer k.next takes.answer;
              job = keeps-without w new calm k.next takes.job;
            };
            job = takes.job.job;
            profile = room.profile;
            slots = room.slots;
            pieces = room.pieces;
            sound = λ _. k.sound;
            growing = λ _ works. goes-if-on (IsGrowing header growth.stage k.next new.disk.areas.status) t w answer takes.answer k.goes works;
            left = λ _ content left. k.leaves content left;
          }

-- ---- by the step that comes next

-- in a step of its slot a group stands
abbrev GroupIn : NextStep → ℕ → Type 0
GroupIn step.Idle group = Unit {0}
GroupIn step.WriteExtent group = Unit {0}
GroupIn step.SyncHeap group = Unit {0}
GroupIn step.BeginSlot group = 0 < group
GroupIn step.AdvanceSlot group = 0 < group

module _ (tells : Bool) (growth : GrowthState) (v : StoreValue) (calm : AreaState) (header : Header) (new : StoreValue)
    (side : Side tells growth v calm header new) (order : IsInOrder v.transactions) (turn : MatchOption v.turn (Unit {0}) (λ t. (t.number ≡ v.log.used)
    × IsOnItsWay t.stage)) where
  -- no slot is the job's
  still : turn_of v.job ≡ None
  still = ap turn_of side.job

  first-long : (body : Body) → IsCommitOf (entries v.transactions) body → length (spelling v.log.profile (record { number = v.log.used; body = body })) ≡ 511
  first-long body commit =
      let few : length (entries v.transactions) ≤ 16 =
      omega (
        arith,
        length-map (members v.transactions) (λ (q : QueuedValue). q.entry),
        length-take v.transactions.group v.transactions.queue,
        order.group_few,
      ) in
      subst (λ (b : Body). length (spelling v.log.profile (record { number = v.log.used; body = b }))
      ≡ 511) (sym (commit-is (entries v.transactions) body commit))
      (spelling-long v.log.profile v.log.used (entries v.transactions) few)

  -- the same of another relation that holds of the calm stores
  relift : (Takes Takes' : StoreValue → StoreValue → Type 0) → (l : Lifted tells growth Takes v calm header new)
      → Takes' (without_growth v calm) (without_growth new l.next) → Lifted tells growth Takes' v calm header new
  relift Takes Takes' l takes = record {
    next = l.next;
    takes = takes;
    job = l.job;
    profile = l.profile;
    slots = l.slots;
    pieces = l.pieces;
    sound = l.sound;
    growing = l.growing;
    left = l.left;
  }

  begin-lifted : (answer : Result Did PumpFault) → 0 < v.transactions.group → MayBeginSlot tells v answer new
      → Lifted tells growth (λ a b. MayBeginSlot tells a answer b) v calm header new
  begin-lifted answer some (inl short) =
      unchanged tells growth v calm header new side (λ a b. MayBeginSlot tells a answer b) (inl (short.0, short.1, refl)) short.2
  begin-lifted answer some (inr first) =
      let t : TurnState =
      record { number = v.log.used; body = spelling v.log.profile (record { number = v.log.used; body = first.body }); stage = slots.Begun } in
      let l = turn-lifted tells growth v calm header new side t (taken (freshly v)) answer refl refl (λ told. side.among told some)
      (λ begun. first-long first.body first.commit) first.turns in
      record {
        next = l.next;
        takes = inr (record { body = first.body; commit = first.commit; turns = l.takes });
        job = l.job;
        profile = l.profile;
        slots = l.slots;
        pieces = l.pieces;
        sound = l.sound;
        growing = l.growing;
        left = l.left;
      }

  advance-lifted : (o : Option TurnState) → v.turn ≡ o → (answer : Result Did PumpFault) → 0 < v.transactions.group
      → MatchOption o ⊥ (λ turn. TurnsSlot tells turn v answer new)
      → Lifted tells growth (λ a b. MatchOption o ⊥ (λ turn. TurnsSlot tells turn a answer b)) v calm header new
  advance-lifted None at answer some takes = absurd takes
  advance-lifted (Some t) at answer some takes =
      let mine : (t.number ≡ v.log.used) × IsOnItsWay t.stage =
      subst (λ (o : Option TurnState). MatchOption o (Unit {0}) (λ u. (u.number ≡ v.log.used) × IsOnItsWay u.stage)) at turn in
      turn-lifted tells growth v calm header new side t v answer refl refl (λ told. let low = side.among told some in omega (arith, mine.0, low))
      (λ begun. absurd (subst IsOnItsWay begun mine.1)) takes

  group-some : (s : NextStep) → due v.transactions ≡ s → GroupIn s v.transactions.group
  group-some step.Idle asks = tt
  group-some step.WriteExtent asks = tt
  group-some step.SyncHeap asks = tt
  group-some step.BeginSlot asks =
      subst (λ (s : GroupStage). StageFits s v.transactions.group v.transactions.queue) (begin-is v.transactions.stage v.transactions.group asks)
      order.stage_fits
  group-some step.AdvanceSlot asks =
      subst (λ (s : GroupStage). StageFits s v.transactions.group v.transactions.queue) (advance-is v.transactions.stage v.transactions.group asks)
      order.stage_fits

  lifted : (s : NextStep) → due v.transactions ≡ s → (answer : Result Did PumpFault) → TakesStep tells s v answer new
      → Lifted tells growth (λ a b. TakesStep tells s a answer b) v calm header new
  lifted step.Idle asks answer takes = unchanged tells growth v calm header new side (λ a b. TakesStep tells step.Idle a answer b) (takes.0, refl) takes.1
  lifted step.WriteExtent asks answer takes =
      let l = by-extent (next_extent v.transactions) takes in
      relift (λ a b. MatchOption (next_extent v.transactions) ⊥ (λ stored. WritesExtent tells stored a answer b))
      (λ a b. TakesStep tells step.WriteExtent a answer b) l l.takes
    where
      by-extent : (o : Option StoredExtent) → MatchOption o ⊥ (λ stored. WritesExtent tells stored v answer new)
          → Lifted tells growth (λ a b. MatchOption o ⊥ (λ stored. WritesExtent tells stored a answer b)) v calm header new
      by-extent None takes = absurd takes
      by-extent (Some stored) takes = extent-lifted tells growth v calm header new side stored answer takes
  lifted step.SyncHeap asks answer takes = sync-lifted tells growth v calm header new side answer takes
  lifted step.BeginSlot asks answer takes =
      let free : is_some (turn_of v.job) ≡ false = ap (λ (o : Option TurnState). is_some o) still in
      let l = begin-lifted answer (group-some step.BeginSlot asks)
      (subst (λ (b : Bool). MatchBool b ((answer ≡ Err pump.Busy) × (new ≡ v)) (MayBeginSlot tells v answer new)) free takes) in
      relift (λ a b. MayBeginSlot tells a answer b) (λ a b. TakesStep tells step.BeginSlot a answer b) l l.takes
  lifted step.AdvanceSlot asks answer takes =
      let l = advance-lifted v.turn refl answer (group-some step.AdvanceSlot asks) takes in
      relift (λ a b. MatchOption v.turn ⊥ (λ turn. TurnsSlot tells turn a answer b)) (λ a b. TakesStep tells step.AdvanceSlot a answer b) l l.takes

-- ---- the whole

-- no header is known of a disk that does not tell its bytes
no-header : Header
no-header = record { profile = 0; slots = 0; pieces = 0 }

grouped-slots : (t : TransactionsValue) → ((grouped t).slots ≡ t.slots) × ((grouped t).used ≡ t.used)
grouped-slots t =
    elim ((t.group == 0) && nat_lt 0 (length t.queue))
    as (λ (b : Bool). ((cond b (record t { group = min (length t.queue) 16; stage = Storing 0 0 }) t).slots ≡ t.slots)
    × ((cond b (record t { group = min (length t.queue) 16; stage = Storing 0 0 }) t).used ≡ t.used)) [
      | true ↦ (refl, refl)
      | false ↦ (refl, refl)
    ]

module _ (tells : Bool) (growth : GrowthState) (old new : StoreValue) (answer : Result Did PumpFault) (m : Machine Value) (s : StandsGrowing tells growth old m)
    (sound : IsTrue tells → AreSound new.disk.areas) (works : m.failed ≡ false) where
  room-below : (header : Header) → old.log.slots ≡ total header → 0 < (grouped old.transactions).group → old.log.used < total header
  room-below header all some =
      let order = keeps-grouped old.transactions s.still.order in
      let claims =
      claims-some (grouped old.transactions).stage (grouped old.transactions).group (length (grouped old.transactions).queue) some order.group_within in
      let same = grouped-slots old.transactions in
      omega (arith, claims, order.room, same.0, same.1, s.still.in_step.slots, s.still.in_step.used, all)

  told-side : (told : IsTrue tells) → Side tells growth (started old) s.calm (s.still.disk told).header new
  told-side told =
      let b = s.beside told in
      let d = s.still.disk told in record {
        job = s.job;
        sound = λ _. b.sound;
        real = λ _. b.real;
        after = sound;
        growing = λ _. b.growing works;
        among = λ _ some. room-below d.header d.slots some;
      }

  untold-side : (IsTrue tells → ⊥) → Side tells growth (started old) s.calm no-header new
  untold-side none = record {
    job = s.job;
    sound = λ told. absurd (none told);
    real = λ told. absurd (none told);
    after = sound;
    growing = λ told. absurd (none told);
    among = λ told some. absurd (none told);
  }

  step-of : (header : Header) → Side tells growth (started old) s.calm header new → TakesStep tells (next_step old.transactions) (started old) answer new
      → Lifted tells growth (λ a b. TakesStep tells (next_step old.transactions) a answer b) (started old) s.calm header new
  step-of header side takes =
      let on : old.transactions.failed ≡ false = s.still.memory.failed ∙ works in
      lifted tells growth (started old) s.calm header new side (keeps-grouped old.transactions s.still.order) (s.still.in_step.turns on).turn
      (next_step old.transactions) refl answer takes

  -- the machine's step is that of the store without its growth
  module _ (header : Header) (l : Lifted tells growth (λ a b. TakesStep tells (next_step old.transactions) a answer b) (started old) s.calm header new) where
    calm-pumps : Pumps tells (without_growth old s.calm) answer (without_growth new l.next)
    calm-pumps =
        let on : old.transactions.failed ≡ false = s.still.memory.failed ∙ works in
        subst (λ (b : Bool). MatchBool b ((answer ≡ Err pump.Failed)
        × (without_growth new l.next
        ≡ without_growth old s.calm))
        (TakesStep tells (next_step old.transactions) (without_growth (started old) s.calm) answer (without_growth new l.next))) (sym on) l.takes

    stands-calm : (after : Machine Value) × Run IsValue m (begins_in m ++ ends_in m.gate answer) after × StandsStill tells (without_growth new l.next) after
    stands-calm =
        subst (λ (b : Bool). MatchBool b ((answer ≡ Err pump.Failed) × StandsStill tells (without_growth new l.next) m) ((after : Machine Value)
        × Run IsValue m (begins_in m ++ ends_in m.gate answer) after × StandsStill tells (without_growth new l.next) after)) works
        (whole.pump-stands tells (without_growth old s.calm) (without_growth new l.next) answer m s.still
        (λ told. sound-at new.disk.areas l.next (sound told) (l.sound told)) calm-pumps)

    grows-on : (after : Machine Value) → StandsStill tells (without_growth new l.next) after
        → ((told : IsTrue tells) → GrowsBeside header growth l.next new after)
        → ((told : IsTrue tells) (d : StandsOnDisk (without_growth new l.next) after) → d.header ≡ header) → StandsGrowing tells growth new after
    grows-on after still beside same = record {
      job = l.job ∙ s.job;
      slots = s.slots ∙ sym l.slots;
      piece = s.piece ∙ sym l.pieces;
      calm = l.next;
      still = still;
      beside = λ told. subst (λ (h : Header). GrowsBeside h growth l.next new after) (sym (same told (still.disk told))) (beside told);
    }

  of-told : (told : IsTrue tells) → TakesStep tells (next_step old.transactions) (started old) answer new → (after : Machine Value)
      × Run IsValue m (begins_in m ++ ends_in m.gate answer) after × Stands tells new after
  of-told told takes =
      let d = s.still.disk told in
      let l = step-of d.header (told-side told) takes in
      let r = stands-calm d.header l in
      let beside : GrowsBeside d.header growth l.next new r.0 = record {
        may = (s.beside told).may;
        sound = l.sound told;
        real = sound told;
        growing = λ on. l.growing told (r.2.memory.failed ∙ on);
        left = λ content left. l.left told content left;
      } in (
        r.0,
        r.1,
        as-growing tells growth new r.0
            (grows-on d.header l r.0 r.2 (λ _. beside)
            (λ _ d'. header-stays (without_growth old s.calm) (without_growth new l.next) m r.0 d d' l.profile l.slots l.pieces)),
      )

  of-untold : (IsTrue tells → ⊥) → TakesStep tells (next_step old.transactions) (started old) answer new → (after : Machine Value)
      × Run IsValue m (begins_in m ++ ends_in m.gate answer) after × Stands tells new after
  of-untold none takes =
      let l = step-of no-header (untold-side none) takes in
      let r = stands-calm no-header l in
      (r.0, r.1, as-growing tells growth new r.0 (grows-on no-header l r.0 r.2 (λ told. absurd (none told)) (λ told d. absurd (none told))))

  pub works-on : TakesStep tells (next_step old.transactions) (started old) answer new → (after : Machine Value)
      × Run IsValue m (begins_in m ++ ends_in m.gate answer) after × Stands tells new after
  works-on takes = by-tells tells refl
    where
      by-tells : (b : Bool) → tells ≡ b → (after : Machine Value) × Run IsValue m (begins_in m ++ ends_in m.gate answer) after × Stands tells new after
      by-tells true told = of-told told takes
      by-tells false untold = of-untold (λ told. (let no : false ≡ true = sym untold ∙ told in cc)) takes

pub pump-stands : (tells : Bool) (old new : StoreValue) (answer : Result Did PumpFault) (m : Machine Value) → Stands tells old m
    → (IsTrue tells → AreSound new.disk.areas) → Pumps tells old answer new
    → MatchBool m.failed ((answer ≡ Err pump.Failed) × Stands tells new m) ((after : Machine Value) × Run IsValue m (begins_in m ++ ends_in m.gate answer) after
    × Stands tells new after)
pump-stands tells old new answer m stands sound pumps =
    by-kind tells old m (MatchBool m.failed ((answer ≡ Err pump.Failed) × Stands tells new m) ((after : Machine Value)
    × Run IsValue m (begins_in m ++ ends_in m.gate answer) after × Stands tells new after)) stands
    (λ still. of-still m.failed (whole.pump-stands tells old new answer m still sound pumps))
    (λ growth s. grows growth s m.failed refl
    (subst (λ (b : Bool). MatchBool b ((answer ≡ Err pump.Failed)
    × (new ≡ old)) (TakesStep tells (next_step old.transactions) (started old) answer new)) stands.memory.failed pumps))
  where
    of-still : (b : Bool)
        → MatchBool b ((answer ≡ Err pump.Failed) × StandsStill tells new m) ((after : Machine Value)
        × Run IsValue m (begins_in m ++ ends_in m.gate answer) after × StandsStill tells new after)
        → MatchBool b ((answer ≡ Err pump.Failed) × Stands tells new m) ((after : Machine Value) × Run IsValue m (begins_in m ++ ends_in m.gate answer) after
        × Stands tells new after)
    of-still true is = (is.0, as-still tells new m is.1)
    of-still false is = (is.0, is.1, as-still tells new is.0 is.2)

    grows : (growth : GrowthState) → StandsGrowing tells growth old m → (b : Bool) → m.failed ≡ b
        → MatchBool b ((answer ≡ Err pump.Failed) × (new ≡ old)) (TakesStep tells (next_step old.transactions) (started old) answer new)
        → MatchBool b ((answer ≡ Err pump.Failed) × Stands tells new m) ((after : Machine Value) × Run IsValue m (begins_in m ++ ends_in m.gate answer) after
        × Stands tells new after)
    grows growth s true failed said = (said.0, subst (λ (x : StoreValue). Stands tells x m) (sym said.1) stands)
    grows growth s false works takes = works-on tells growth old new answer m s sound works takes
