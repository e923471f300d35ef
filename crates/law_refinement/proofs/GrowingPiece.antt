-- The device calls of a piece, of a store that stands for a machine without it.
use Rattle.std.proofs.Common.{◌≡◌, ℕ, ◌+◌, ◌≤◌, nat_lt, cond, Bool, true, false, IsTrue, List, Option, None, Some, Result, Ok, Err, MatchBool, MatchOption}
use Rattle.std.proofs.Common.{MatchResult, refl, sym, ap, subst, ◌∙◌, arith}
use Rattle.disk.specs.Areas.{AreaState, Areas, Image, MayLeave, LeavesImage, IsSound, AreSound, synced}
use Rattle.disk.specs.Calls.{DiskState, Syncs}
use Rattle.disk.specs.Parts.{IsSettled}
use Rattle.disk.specs.declared.area.Area.TheVariants.{Status}
use Rattle.disk.specs.declared.area.DeviceFault.{DeviceFault}
use Rattle.disk.proofs.Stops.{MayLeave-before_sync}
use Rattle.history.specs.Fronts.{OnFront}
use Rattle.history.specs.Machine.{Machine, IsMachine}
use Rattle.history.specs.Steps.{Run}
use Rattle.history.specs.Steps as steps
use Rattle.law_image.specs.Values.{Value, IsValue}
use Rattle.archive.specs.Runs.{HoldRuns}
use Rattle.archive.specs.Parts.{IsRight}
use Rattle.archive.specs.Searches.{archive_of}
use Rattle.archive.specs.Pieces.{InWriting}
use Rattle.wire.specs.declared.slot.Run.{Run as WireRun}
use Rattle.group.specs.Queued.{QueuedValue}
use Rattle.group.specs.declared.answers.PumpFault.{PumpFault}
use Rattle.group.specs.declared.answers.PumpFault.TheVariants as pump
use Rattle.status.specs.declared.header.Header.{Header}
use Rattle.status.specs.declared.growth.GrowthStage.{GrowthStage}
use Rattle.status.specs.declared.growth.GrowthStage.TheVariants as growths
use Rattle.status.specs.declared.growth.Grew.TheVariants as grew
use Rattle.status.specs.Header.{total}
use Rattle.status.specs.Growth.{grown, growth_after, grew_at, IsGrowthCall}
use Rattle.status.specs.GrowthState.{GrowthState}
use Rattle.status.specs.TurnState.{TurnState}
use Rattle.law_layout.specs.Growing.{IsGrowing, IsGrowthWay, calm_after}
use Rattle.law_layout.specs.Layouts.{Layout}
use Rattle.law_layout.specs.Turn.{Group}
use Rattle.law_layout.proofs.Growing.{growth_leaves, growth_goes, growth-alone, growing-synced, sound-synced}
use Rattle.group.specs.Order.{StageFits}
use Rattle.group.specs.declared.stage.GroupStage.{GroupStage}
use Rattle.group.specs.declared.stage.GroupStage.TheVariants as group_stage
use Rattle.store.specs.Jobs.{PumpsJob, TakesJobStep, Grows, HasGrown, growing, grown_store, with_job, job_fails}
use Rattle.store.specs.Pumps.{disk_answer}
use Rattle.store.specs.Values.{StoreValue, turn_of}
use Rattle.store.specs.declared.job.Job.{Job}
use Rattle.store.specs.declared.job.JobStage.{JobStage}
use Rattle.store.specs.declared.job.JobStage.TheVariants.{Writing, Turning}
use Rattle.store.specs.declared.job.JobWork.TheVariants.{Archive}
use Rattle.store.specs.declared.job.JobDid.{JobDid}
use Rattle.store.specs.declared.job.JobDid.TheVariants as did
use Rattle.law_refinement.specs.Homes.{HasPlace, RunsStand}
use Rattle.law_refinement.specs.Laws.{job_ends_in}
use Rattle.law_refinement.specs.OnDisk.{IsImageOf, IsAtStage, HasJob, Works, group_of}
use Rattle.law_refinement.specs.Stands.{Stands, StandsStill, StandsBeside, StandsGrowing, GrowsBeside, without_growth, growth_of}
use Rattle.law_refinement.proofs.Publishing.{regated, breaks}
use Rattle.law_refinement.proofs.Jobs.{resting, rested-now, sound-at}
use Rattle.law_refinement.proofs.Working.{Inside, Working, working, room-left}
use Rattle.law_refinement.proofs.Pumping.{works-leave, goes-on-failed, raises-so, broken-machine, broken-order}
use Rattle.law_refinement.proofs.JobPumping.{job_gate_left, job-breaks, gated-so, own-gate-left, by-floor}
use Rattle.law_refinement.proofs.RunsKept.{IsLater, run-later, same-later, machine-rises}
use Rattle.law_refinement.proofs.RunsCalls.{Leaves, job_pump-leaves}
use Rattle.law_refinement.proofs.Whole as whole
use Rattle.law_refinement.proofs.Growing.{as-still, as-growing, by-kind, header-stays}
use Rattle.law_refinement.proofs.GrowingSteps.{RoomFor, stage-synced, grown-works, more-memory, more-order}

-- ---- another status area, of which nothing less is said

-- a group stands on it as on the old one
record Settles (old new : AreaState) : Type 0 where
  pub no_more : (content : List ℕ) → MayLeave new content → MayLeave old content
  pub sound : IsSound new
  pub stage : (header : Header) (layout : Layout) (group : Group) (qs : List QueuedValue) (s : GroupStage) (turn : Option TurnState) (areas : Areas)
      → IsAtStage header layout group qs s turn (record areas { status = old })
      → IsAtStage header layout group qs s turn (record areas { status = new })

settles-same : (a : AreaState) → IsSound a → Settles a a
settles-same a sound = record { no_more = λ content left. left; sound = sound; stage = λ header layout group qs s turn areas at. at }

settles-synced : (a : AreaState) → IsSound a → Settles a (synced a)
settles-synced a sound = record {
  no_more = λ content left. MayLeave-before_sync a content sound left;
  sound = sound-synced a sound;
  stage = λ header layout group qs s turn areas at. stage-synced header layout group qs s turn (record areas { status = a }) at;
}

calm-settles : (stage : GrowthStage) (calm : AreaState) → IsSound calm → Settles calm (calm_after stage calm)
calm-settles (growths.Zeroing parts) calm sound =
    elim (nat_lt parts 16) as (λ (b : Bool). Settles calm (cond b calm (synced calm))) [ true ↦ settles-same calm sound | false ↦ settles-synced calm sound ]
calm-settles growths.ZerosSynced calm sound = settles-same calm sound
calm-settles growths.GateWritten calm sound = settles-synced calm sound

-- the store stands on the disk with the other area
module _ (tells : Bool) (v : StoreValue) (m : Machine Value) (s : StandsStill tells v m) (free : v.job ≡ None) (d : DiskState)
    (areas : IsTrue tells → d.areas ≡ record v.disk.areas { status = d.areas.status }) (settles : IsTrue tells
    → Settles v.disk.areas.status d.areas.status) (sound : IsTrue tells → AreSound d.areas) where
  no-more : (told : IsTrue tells) (image : Image) → LeavesImage d.areas image → LeavesImage v.disk.areas image
  no-more told image left = record {
    status = (settles told).no_more image.status left.status;
    heap = subst (λ (x : Areas). MayLeave x.heap image.heap) (areas told) left.heap;
    archive = subst (λ (x : Areas). MayLeave x.archive image.archive) (areas told) left.archive;
  }

  still-works : (told : IsTrue tells) (header : Header) → Works header v m → Works header (record v { disk = d }) m
  still-works told header w =
      let none : turn_of v.job ≡ None = ap turn_of free in
      let rests = resting header w.log.layout (turn_of v.job) w.group.rested v.disk.areas.status none w.group.rests in
      let at : IsAtStage header w.log.layout (group_of w.log.layout v.transactions m) v.transactions.queue v.transactions.stage v.turn
      (record v.disk.areas { status = v.disk.areas.status }) =
      subst (λ (a : AreaState). IsAtStage header w.log.layout (group_of w.log.layout v.transactions m) v.transactions.queue v.transactions.stage v.turn
      (record v.disk.areas { status = a })) (sym rests) w.group.at in
      let now =
      (settles told).stage header w.log.layout (group_of w.log.layout v.transactions m) v.transactions.queue v.transactions.stage v.turn v.disk.areas at in
      record {
        log = w.log;
        heap = w.heap;
        packed = w.packed;
        group = record {
          rested = d.areas.status;
          rests = rested-now header w.log.layout (turn_of v.job) d.areas.status none;
          at = subst (λ (x : Areas). IsAtStage header w.log.layout (group_of w.log.layout v.transactions m) v.transactions.queue v.transactions.stage v.turn x)
              (sym (areas told)) now;
        };
        job = subst (λ (o : Option Job). HasJob header w.log.layout w.log.reading m.published v.transactions.reserved o d.areas) (sym free) tt;
        sound = sound told;
      }

  restill : StandsStill tells (record v { disk = d }) m
  restill = record {
    memory = s.memory;
    machine = s.machine;
    order = s.order;
    in_step = record {
      slots = s.in_step.slots;
      used = s.in_step.used;
      turns = λ on. let was = s.in_step.turns on in record { turning = was.turning; writing = was.writing; turn = was.turn; job = was.job };
    };
    gate = s.gate;
    raises = raises-so v (record v { disk = d }) m m s.raises refl refl refl s.raises.is;
    marks = s.marks;
    job = s.job;
    disk = λ told.
        let on = s.disk told in record {
          header = on.header;
          profile = on.profile;
          slots = on.slots;
          pieces = on.pieces;
          profile_built = on.profile_built;
          leaves = λ image left. on.leaves image (no-more told image left);
          works = λ works. still-works told on.header (on.works works);
        };
    place = subst (λ (o : Option Job). MatchOption o (Unit {0}) (λ job. HasPlace job.work (record v { disk = d }) m)) (sym free) tt;
    runs = λ told.
        let r = s.runs told in
        let same : archive_of d ≡ archive_of v.disk = ap (λ (x : Areas). x.archive.bytes) (areas told) in
        record {
          lists = r.lists;
          held = subst (λ (bytes : List ℕ). HoldRuns bytes v.archive.runs r.lists) (sym same) r.held;
          ends = r.ends;
          mark = r.mark;
          marks = r.marks;
          by_last = r.by_last;
          archived = r.archived;
          right = subst (λ (bytes : List ℕ). IsRight v.archive.kept bytes) (sym same) r.right;
          near = r.near;
        };
  }

-- ---- a call of the piece

module _ (tells : Bool) (growth : GrowthState) (old new : StoreValue) (answer : Result JobDid PumpFault) (m : Machine Value)
    (s : StandsGrowing tells growth old m) (sound : IsTrue tells → AreSound new.disk.areas)
    (works : m.failed ≡ false) (pumps : PumpsJob tells old answer new) (does : Grows tells growth old answer new) where
  abbrev after : GrowthState
  after = growth_after growth

  abbrev bare-beside : StandsBeside tells (without_growth old s.calm) m
  bare-beside = record {
    memory = s.still.memory;
    machine = s.still.machine;
    order = s.still.order;
    in_step = s.still.in_step;
    gate = s.still.gate;
    raises = s.still.raises;
    marks = s.still.marks;
    job = s.still.job;
    disk = s.still.disk;
  }

  abbrev bare-working : IsTrue tells → Working (without_growth old s.calm) m
  bare-working told = working tells (without_growth old s.calm) m bare-beside works told

  -- the call, of a piece behind the header's slots
  call : (told : IsTrue tells)
      → IsGrowthCall growth.stage (total (s.still.disk told).header) (s.still.disk told).header.pieces (disk_answer answer) old.disk.areas new.disk.areas
  call told =
      let d = s.still.disk told in
      let slots : growth.slots ≡ total d.header = s.slots ∙ d.slots in
      let piece : growth.piece ≡ d.header.pieces = s.piece ∙ d.pieces in
      subst (λ (n : ℕ). IsGrowthCall growth.stage n d.header.pieces (disk_answer answer) old.disk.areas new.disk.areas) slots
      (subst (λ (p : ℕ). IsGrowthCall growth.stage growth.slots p (disk_answer answer) old.disk.areas new.disk.areas) piece (does.call.areas told))

  way : (told : IsTrue tells) → IsGrowthWay (s.still.disk told).header growth.stage s.calm old.disk.areas
  way told = let b = s.beside told in growth_goes (s.still.disk told).header growth.stage s.calm old.disk.areas (b.growing works) b.sound b.real

  alone : (told : IsTrue tells) → new.disk.areas ≡ record old.disk.areas { status = new.disk.areas.status }
  alone told =
      growth-alone growth.stage (total (s.still.disk told).header) (s.still.disk told).header.pieces (disk_answer answer) old.disk.areas new.disk.areas
      (call told)

  -- what is known of the archive stays
  no-run : (run : WireRun) (writer : InWriting) → (stage : JobStage) → old.job ≡ Some (record { work = Archive run writer; stage = stage }) → ⊥
  no-run run writer stage is = let no : Some growth ≡ None = sym (ap growth_of s.job) ∙ ap growth_of is in cc

  leaves : (to : Machine Value) → IsLater m to → Leaves tells old new to
  leaves to later =
      let whole = as-growing tells growth old m s in
      job_pump-leaves tells old new m to answer (machine-rises m s.still.machine) later whole.place whole.runs
      (λ on told. record {
        behind = λ run writer is. absurd (no-run run writer Writing is);
        ready = λ run writer t is. absurd (no-run run writer (Turning t) is);
      }) pumps

  -- ---- it is made, and is not the last

  goes-next : new ≡ with_job old (growing after) new → disk_answer answer ≡ Ok tt → Stands tells new m
  goes-next is ok =
      let calm : AreaState = calm_after growth.stage s.calm in
      let settles : IsTrue tells → Settles s.calm calm = λ told. calm-settles growth.stage s.calm (s.beside told).sound in
      let d : DiskState = record new.disk { areas = record new.disk.areas { status = calm } } in
      let still : StandsStill tells (record (without_growth old s.calm) { disk = d }) m =
      restill tells (without_growth old s.calm) m s.still refl d (λ told. ap (λ (x : Areas). record x { status = calm }) (alone told)) settles
      (λ told. sound-at new.disk.areas calm (sound told) (settles told).sound) in
      let leads : (told : IsTrue tells) → IsGrowing (s.still.disk told).header after.stage calm new.disk.areas.status = λ told.
      (way told).leads new.disk.areas
      (subst (λ (r : Result (Unit {0}) DeviceFault). IsGrowthCall growth.stage (total (s.still.disk told).header) (s.still.disk told).header.pieces r
      old.disk.areas new.disk.areas) ok (call told)) in
      as-growing tells after new m (record {
        job = ap (λ (x : StoreValue). x.job) is;
        slots = s.slots ∙ sym (ap (λ (x : StoreValue). x.log.slots) is);
        piece = s.piece ∙ sym (ap (λ (x : StoreValue). x.log.pieces) is);
        calm = calm;
        still = subst (λ (x : StoreValue). StandsStill tells (without_growth x calm) m) (sym is) still;
        beside = λ told.
            let on = s.still.disk told in
            let same =
            header-stays (without_growth old s.calm) (without_growth new calm) m m on
            ((subst (λ (x : StoreValue). StandsStill tells (without_growth x calm) m) (sym is) still).disk told)
            (ap (λ (x : StoreValue). x.log.profile) is) (ap (λ (x : StoreValue). x.log.slots) is) (ap (λ (x : StoreValue). x.log.pieces) is) in
            subst (λ (h : Header). GrowsBeside h after calm new m) (sym same) (record {
              may = (s.beside told).may;
              sound = (settles told).sound;
              real = sound told;
              growing = λ _. leads told;
              left = λ content left. growth_leaves on.header after.stage calm new.disk.areas.status content (leads told) (settles told).sound left;
            });
      })

  -- ---- it is refused

  broken-so : Machine Value
  broken-so = steps.broken (steps.gated m (job_gate_left m.gate))

  fails : new ≡ job_fails old (growing after) new → (why : PumpFault) → answer ≡ Err why → Stands tells new broken-so
  unfolding broken-so
  fails is why said =
      let gate = job_gate_left m.gate in
      let bare : StoreValue = without_growth old s.calm in
      let then : StoreValue = without_growth (job_fails old (growing after) new) s.calm in
      let same-gate : gate ≡ m.gate = ap job_gate_left (s.still.gate works) ∙ own-gate-left old.turn None refl ∙ sym (s.still.gate works) in
      let machine : IsMachine IsValue (steps.broken (steps.gated m gate)) = broken-machine m gate s.still.machine in
      let run : Run IsValue m (job_ends_in m (Err pump.Failed)) (steps.broken (steps.gated m gate)) = job-breaks m works m.gate refl in
      let left =
      leaves (steps.broken (steps.gated m gate))
      (run-later m (steps.broken (steps.gated m gate)) (job_ends_in m (Err pump.Failed)) s.still.machine machine run) in
      let b : StandsBeside tells then (steps.broken (steps.gated m gate)) =
      goes-on-failed tells bare then m (steps.broken (steps.gated m gate)) bare-beside (record {
        memory = breaks old.transactions (steps.gated m gate) (regated old.transactions m gate s.still.memory);
        machine = machine;
        order = broken-order old.transactions s.still.order;
        in_step = record { slots = s.still.in_step.slots; used = s.still.in_step.used; turns = λ no. absurd cc };
        gate = λ no. absurd cc;
        raises = raises-so bare then m (steps.broken (steps.gated m gate)) s.still.raises refl refl refl s.still.raises.is;
        marks = s.still.marks;
        job = tt;
      }) refl refl refl refl
      (λ told image there.
      gated-so (λ (x : Machine Value). OnFront (IsImageOf (s.still.disk told).header image) x) m gate same-gate
      ((s.still.disk told).leaves image (subst (λ (x : Areas). LeavesImage (record x { status = s.calm }) image) (alone told) there))) in
      let still : StandsStill tells then (steps.broken (steps.gated m gate)) = record {
        memory = b.memory;
        machine = b.machine;
        order = b.order;
        in_step = b.in_step;
        gate = b.gate;
        raises = b.raises;
        marks = b.marks;
        job = b.job;
        disk = b.disk;
        place = tt;
        runs = λ told.
            let r = subst (λ (x : StoreValue). RunsStand x (steps.broken (steps.gated m gate))) is (left.runs told) in
            record {
              lists = r.lists;
              held = r.held;
              ends = r.ends;
              mark = r.mark;
              marks = r.marks;
              by_last = r.by_last;
              archived = r.archived;
              right = r.right;
              near = r.near;
            };
      } in
      as-growing tells after new (steps.broken (steps.gated m gate)) (record {
        job = ap (λ (x : StoreValue). x.job) is;
        slots = s.slots ∙ sym (ap (λ (x : StoreValue). x.log.slots) is);
        piece = s.piece ∙ sym (ap (λ (x : StoreValue). x.log.pieces) is);
        calm = s.calm;
        still = subst (λ (x : StoreValue). StandsStill tells (without_growth x s.calm) (steps.broken (steps.gated m gate))) (sym is) still;
        beside = λ told.
            let on = s.still.disk told in
            let same =
            header-stays bare (without_growth new s.calm) m (steps.broken (steps.gated m gate)) on
            ((subst (λ (x : StoreValue). StandsStill tells (without_growth x s.calm) (steps.broken (steps.gated m gate))) (sym is) still).disk told)
            (ap (λ (x : StoreValue). x.log.profile) is) (ap (λ (x : StoreValue). x.log.slots) is) (ap (λ (x : StoreValue). x.log.pieces) is) in
            subst (λ (h : Header). GrowsBeside h after s.calm new (steps.broken (steps.gated m gate))) (sym same) (record {
              may = (s.beside told).may;
              sound = (s.beside told).sound;
              real = sound told;
              growing = λ no. absurd cc;
              left = λ content there. (way told).within (disk_answer answer) new.disk.areas content (call told) there;
            });
      })

  -- ---- it is the last, and the piece is open

  room-for : (told : IsTrue tells) → RoomFor (s.still.disk told).header ((s.still.disk told).works works).log.layout old.transactions.stage
  room-for told = by-stage old.transactions.stage s.still.order.stage_fits
    where
      by-stage : (g : GroupStage) → StageFits g old.transactions.group old.transactions.queue
          → RoomFor (s.still.disk told).header ((s.still.disk told).works works).log.layout g
      by-stage group_stage.NoGroup fits = tt
      by-stage (group_stage.Storing member extent) fits = tt
      by-stage group_stage.Stored fits = room-left (without_growth old s.calm) m (bare-working told) fits
      by-stage group_stage.Turning fits = room-left (without_growth old s.calm) m (bare-working told) fits

  last-grows : growth.stage ≡ growths.GateWritten → (told : IsTrue tells) → disk_answer answer ≡ Ok tt
      → IsGrowing (s.still.disk told).header growths.GateWritten (synced s.calm) new.disk.areas.status × IsSettled new.disk.areas.status
  last-grows last told ok =
      let header : Header = (s.still.disk told).header in
      let b = s.beside told in
      let then : IsGrowing header growths.GateWritten s.calm old.disk.areas.status =
      subst (λ (g : GrowthStage). IsGrowing header g s.calm old.disk.areas.status) last (b.growing works) in
      let made : Syncs Status (Ok tt) old.disk.areas new.disk.areas =
      subst (λ (r : Result (Unit {0}) DeviceFault). Syncs Status r old.disk.areas new.disk.areas) ok
      (subst (λ (g : GrowthStage). IsGrowthCall g (total header) header.pieces (disk_answer answer) old.disk.areas new.disk.areas) last (call told)) in
      let is : new.disk.areas.status ≡ synced old.disk.areas.status = ap (λ (x : Areas). x.status) made.synced in (
        subst (λ (a : AreaState). IsGrowing header growths.GateWritten (synced s.calm) a) (sym is)
            (growing-synced header growths.GateWritten s.calm old.disk.areas.status b.sound (b.real Status) then),
        subst IsSettled (sym is) (record { firm = refl; loose = refl }),
      )

  ends : growth.stage ≡ growths.GateWritten → disk_answer answer ≡ Ok tt → old.transactions.slots + 256 ≤ 65536 → new ≡ grown_store growth old new
      → Stands tells new m
  ends last ok few is =
      let made : StoreValue = grown_store growth old new in
      let left = leaves m (same-later m) in
      let inside : Inside made m = record {
        memory = more-memory old.transactions m 256 s.still.memory;
        machine = s.still.machine;
        order = more-order old.transactions 256 few s.still.order;
        in_step = record {
          slots = omega (arith, s.slots, s.still.in_step.slots);
          used = s.still.in_step.used;
          turns = λ on. let was = s.still.in_step.turns on in record { turning = was.turning; writing = was.writing; turn = was.turn; job = tt };
        };
        gate = s.still.gate;
        raises = raises-so (without_growth old s.calm) made m m s.still.raises refl refl refl s.still.raises.is;
        marks = s.still.marks;
        job = tt;
      } in
      let works-now : (told : IsTrue tells) → Works (grown (s.still.disk told).header) made m = λ told.
      let grows = last-grows last told ok in
      grown-works (s.still.disk told).header growth old new m s.calm (s.beside told).may (s.still.disk told).profile_built ((s.still.disk told).works works)
      grows.0 (s.beside told).sound grows.1 (sound told) (alone told) (room-for told) in
      let still : StandsStill tells made m = record {
        memory = inside.memory;
        machine = inside.machine;
        order = inside.order;
        in_step = inside.in_step;
        gate = inside.gate;
        raises = inside.raises;
        marks = inside.marks;
        job = inside.job;
        disk = λ told.
            let d = s.still.disk told in
            let c : Working made m = record {
              header = grown d.header;
              inside = inside;
              on = works;
              profile = d.profile;
              slots = omega (arith, s.slots, d.slots);
              pieces = omega (arith, s.piece, d.pieces);
              profile_built = d.profile_built;
              works = works-now told;
            } in
            record {
              header = c.header;
              profile = c.profile;
              slots = c.slots;
              pieces = c.pieces;
              profile_built = c.profile_built;
              leaves = works-leave made m c;
              works = λ _. works-now told;
            };
        place = tt;
        runs = λ told. subst (λ (x : StoreValue). RunsStand x m) is (left.runs told);
      } in
      subst (λ (x : StoreValue). Stands tells x m) (sym is) (as-still tells made m still)

  -- ---- by the stage

  none-raised : m.raising ≡ None
  none-raised = s.still.raises.is

  nothing-told : (what : JobDid) → Run IsValue m (job_ends_in m (Ok what)) m
  nothing-told what = by-floor m m what None none-raised refl

  abbrev Ends : Result JobDid PumpFault → Type 0
  Ends r = (to : Machine Value) × Run IsValue m (job_ends_in m r) to × Stands tells new to

  is-next : (what : JobDid) → answer ≡ Ok what → new ≡ with_job old (growing after) new → Ends answer
  is-next what said is = subst Ends (sym said) (m, nothing-told what, goes-next is (ap disk_answer said))

  by-call : (stage : GrowthStage) → growth.stage ≡ stage → (what : JobDid) → answer ≡ Ok what → HasGrown (grew_at stage) growth old what new → Ends answer
  by-call (growths.Zeroing parts) at what said grown-so = by-test (nat_lt parts 16) grown-so
    where
      by-test : (b : Bool) → HasGrown (cond b grew.WroteZeros grew.ZerosSynced) growth old what new → Ends answer
      by-test true is = is-next what said is.1
      by-test false is = is-next what said is.1
  by-call growths.ZerosSynced at what said grown-so = is-next what said grown-so.1
  by-call growths.GateWritten at what said grown-so = subst Ends (sym said) (m, nothing-told what, ends at (ap disk_answer said) grown-so.1 grown-so.2)

  by-answer : (r : Result JobDid PumpFault) → answer ≡ r
      → MatchResult r (λ what. HasGrown (grew_at growth.stage) growth old what new) (λ why. (why ≡ pump.Failed) × (new ≡ job_fails old (growing after) new))
      → Ends answer
  unfolding broken-so
  by-answer (Ok what) said grown-so = by-call growth.stage refl what said grown-so
  by-answer (Err why) said failed =
      subst Ends (sym (said ∙ ap (λ (e : PumpFault). Err e) failed.0)) (
        steps.broken (steps.gated m (job_gate_left m.gate)),
        job-breaks m works m.gate refl,
        fails failed.1 why said,
      )

  pub piece-step : Ends answer
  piece-step = by-answer answer refl does.answer

-- ---- every step of a job

pub job-pump-stands : (tells : Bool) (old new : StoreValue) (answer : Result JobDid PumpFault) (m : Machine Value) → Stands tells old m
    → (IsTrue tells → AreSound new.disk.areas) → PumpsJob tells old answer new
    → MatchBool m.failed ((answer ≡ Err pump.Failed) × Stands tells new m) ((to : Machine Value) × Run IsValue m (job_ends_in m answer) to
    × Stands tells new to)
job-pump-stands tells old new answer m stands sound pumps =
    by-kind tells old m (MatchBool m.failed ((answer ≡ Err pump.Failed) × Stands tells new m) ((to : Machine Value) × Run IsValue m (job_ends_in m answer) to
    × Stands tells new to)) stands
    (λ still. of-still m.failed (whole.job-pump-stands tells old new answer m still sound pumps))
    (λ growth s. grows growth s m.failed refl
    (subst (λ (o : Option Job). MatchBool m.failed ((answer ≡ Err pump.Failed)
    × (new ≡ old)) (MatchOption o ((answer ≡ Ok did.Idle) × (new ≡ old)) (λ j. TakesJobStep tells j.stage j old answer new))) s.job
    (subst (λ (b : Bool). MatchBool b ((answer ≡ Err pump.Failed)
    × (new ≡ old)) (MatchOption old.job ((answer ≡ Ok did.Idle) × (new ≡ old)) (λ j. TakesJobStep tells j.stage j old answer new))) stands.memory.failed
    pumps)))
  where
    of-still : (b : Bool)
        → MatchBool b ((answer ≡ Err pump.Failed) × StandsStill tells new m) ((to : Machine Value) × Run IsValue m (job_ends_in m answer) to
        × StandsStill tells new to)
        → MatchBool b ((answer ≡ Err pump.Failed) × Stands tells new m) ((to : Machine Value) × Run IsValue m (job_ends_in m answer) to × Stands tells new to)
    of-still true is = (is.0, as-still tells new m is.1)
    of-still false is = (is.0, is.1, as-still tells new is.0 is.2)

    grows : (growth : GrowthState) → StandsGrowing tells growth old m → (b : Bool) → m.failed ≡ b
        → MatchBool b ((answer ≡ Err pump.Failed) × (new ≡ old)) (Grows tells growth old answer new)
        → MatchBool b ((answer ≡ Err pump.Failed) × Stands tells new m) ((to : Machine Value) × Run IsValue m (job_ends_in m answer) to × Stands tells new to)
    grows growth s true failed said = (said.0, subst (λ (x : StoreValue). Stands tells x m) (sym said.1) stands)
    grows growth s false works does = piece-step tells growth old new answer m s sound works pumps does
