-- Whatever a stop leaves of a store that works, and leaves room for a base, opens as a store that does.
use Rattle.std.proofs.Common.{◌≡◌, ℕ, ◌-◌, ◌/◌, ◌≤◌, Bool, false, List, [], ◌∷◌, ◌++◌, length, map, take, drop, Option, None, Some}
use Rattle.std.proofs.Common.{refl, arith, ap, sym, subst, ◌∙◌, ⊎_elim}
use Rattle.std.specs.Prelude.{IsTrue, MatchBool, MatchOption}
use Rattle.std.proofs.lemmas.List.{drop-map, length-append, length-map, map-append}
use Rattle.disk.specs.Areas.{AreSound, LeavesImage, image_of}
use Rattle.disk.specs.Calls.{DiskState}
use Rattle.history.specs.Histories.{History}
use Rattle.history.specs.Machine.{Machine}
use Rattle.law_image.specs.Values.{Value}
use Rattle.law_image.specs.Reading.{Head, Member, Reading, Slot}
use Rattle.law_image.specs.Reading as slots
use Rattle.law_image.specs.HeapPlans.{first_runs}
use Rattle.law_image.specs.Plans.{with_group}
use Rattle.law_image.specs.StandsFor.{StandsFor, archived_upto}
use Rattle.law_image.proofs.GroupStep.{group-stands_for}
use Rattle.law_image.proofs.Logs.{archive_mark-append}
use Rattle.law_layout.specs.Runs.{StoredRun}
use Rattle.deltas.specs.Extents.{extent_start}
use Rattle.log_extents.specs.Chains.{count_of, first_or, AreDistinct, IsNumberOf}
use Rattle.log_recovery.specs.Live.{LiveChainValue, live_of}
use Rattle.log_recovery.specs.declared.live.LivePart.TheVariants as parts
use Rattle.log_roots.specs.Roots.{root_of}
use Rattle.log_roots.specs.declared.roots.Roots.{Roots}
use Rattle.log_store.specs.Jobs.{is_entering}
use Rattle.log_store.specs.Opens.{Opens}
use Rattle.log_store.specs.Reclaiming.{base_chain}
use Rattle.log_store.specs.Values.{LogStoreValue, ReclaimValue, IsInStep, IsReclaiming}
use Rattle.log_store.specs.declared.job.Job.{Job}
use Rattle.log_store.specs.declared.job.JobStage.{JobStage}
use Rattle.log_store.specs.declared.job.JobStage.TheVariants.{Ready, Entering}
use Rattle.log_store.specs.declared.job.JobStage.TheVariants as stages
use Rattle.log_store.specs.declared.job.JobWork.{JobWork}
use Rattle.log_store.specs.declared.job.JobWork.TheVariants as works
use Rattle.log_store.specs.declared.reclaim.ReclaimStage.{ReclaimStage}
use Rattle.log_store.specs.declared.reclaim.ReclaimStage.TheVariants.{Rolling, Turning}
use Rattle.log_store.specs.declared.reclaim.ReclaimStage.TheVariants as reclaims
use Rattle.log_base.specs.Rolls.{InRoll}
use Rattle.log_writer.specs.Turns.{Stage, Writing, Syncing, Opening, Settling, Done}
use Rattle.log_writer.specs.Writer.{WriterState}
use Rattle.disk.specs.Areas.{AreaState}
use Rattle.law_image.specs.Reading.{ArchiveRecord}
use Rattle.law_log_layout.specs.HeapLog.{HeapLog, HoldsLog, IsLogOf, MayJoin, PlacedChain, PlacedRoll, heap_parts, member_told, placed_group, turn_of}
use Rattle.law_log_layout.specs.HeapLog.{with_chain, with_runs}
use Rattle.law_log_layout.specs.Laws.{KeepsArchive, KeepsLog}
use Rattle.law_log_layout.specs.Reclaims.{NewBase, based_reading, new_parts, placed_base, with_new_base}
use Rattle.law_log_layout.specs.Turns.{HoldsNew, HoldsOld, IsAt, KeepsAll, MayBe}
use Rattle.law_log_layout.proofs.Beside.{chain-among-others, chain-is-among}
use Rattle.law_log_layout.proofs.Goes.{goes}
use Rattle.law_log_layout.proofs.GroupGoes.{rolls-left, runs-left}
use Rattle.law_log_layout.proofs.GroupJoins.{group-is_log, room}
use Rattle.law_log_layout.proofs.Joining.{chain-free, chain-joined}
use Rattle.law_log_layout.proofs.Parts.{all-left, closed-left}
use Rattle.law_log_store.specs.Reclaiming.{HasMadeAt, IsBaseOf, KeepsRoll, numbers_of, plan_of, root_then, taken_of, written_of}
use Rattle.law_log_store.specs.Reclaiming as making
use Rattle.law_log_store.specs.Standing.{HasAllWritten, HasJob, HasStage, HasTurn, HasWritten, IsAtRest, IsEntering, IsImageOf, IsOnWay, MayAllEnter, MayEnter}
use Rattle.law_log_store.specs.Standing.{StandsOnHeap, StopsOnHeap, floors_with, log_with, placed_entry, reading_with, runs_after}
use Rattle.law_log_store.proofs.Going.{entered, log-then, runs-kept, stands-then}
use Rattle.law_log_store.proofs.Headers.{IsFrom, Turns, TurnsAt, root-left}
use Rattle.law_log_store.proofs.Joining.{in-heap}
use Rattle.law_log_store.proofs.Moved.{root-number}
use Rattle.law_log_store.proofs.Opening.{named, open-stands, read, same}
use Rattle.law_log_store.proofs.Queues.{drop-more}
use Rattle.law_log_store.proofs.Reclaims.{none-some, taken-are}
use Rattle.law_log_store.proofs.Turned.{archive-based, based-is, group-based, joins-based, log-based, parts-based, shares-behind}
use Rattle.law_log_store.proofs.Used.{used-are}
use Rattle.law_log_steps.specs.Store.{IsStoreOf}
use Rattle.law_log_room.specs.Bases.{LeavesBaseRoom, base_most, chains_with, upto_with}
use Rattle.law_log_room.proofs.Alike.{alike-group, alike-most, entry-no-base, fewer-most}
use Rattle.law_log_room.proofs.Leaving.{left-as, left-so}

-- what was opened on an image whose log leaves room
opened-left : (tells : Bool) (old : DiskState) (mark : ℕ) (again : LogStoreValue) (roots : Roots) (h : History Value) (floors : ℕ → ℕ) (told : IsTrue tells)
    (sound : AreSound old.areas) (image : IsImageOf roots (image_of old.areas) h floors) (opens : Opens tells old mark again)
    → count_of (base_most (map live_of image.heap.log.chains) (archived_upto image.heap.reading)) ≤ roots.extents / 16 → LeavesBaseRoom again
opened-left tells old mark again roots h floors told sound image opens room =
    let chains : again.live.chains ≡ map live_of image.heap.log.chains =
    ap (λ (x : LogStoreValue). x.live.chains) opens.new_is
    ∙ (read tells old mark again roots h floors told sound image opens).live_are
    ∙ ap (λ (cs : List PlacedChain). map live_of cs) (same tells old mark again roots h floors told sound image opens).0.0 in
    let upto = (named tells old mark again roots h floors told sound image opens).upto in
    let stands = open-stands tells old mark again roots h floors told sound image opens in
    let used = used-are again h [] floors stands.1 in
    let size = stands.0 in
    let most : base_most again.live.chains again.named.upto ≡ base_most (map live_of image.heap.log.chains) (archived_upto image.heap.reading) =
    λ i. base_most (chains i) (upto i) in
    let now : count_of (base_most again.live.chains again.named.upto) ≤ length again.room.used / 16 = omega (arith, room, most, used, size) in
    left-so again None None (ap (λ (x : LogStoreValue). x.reclaim) opens.new_is) (ap (λ (x : LogStoreValue). x.job) opens.new_is) now now

-- one claim of two
either : (stage : Stage) (A B C : Type 0) → (A → C) → (B → C) → MayBe stage A B → C
either (Writing done rest) A B C f g is = f is
either Syncing A B C f g is = f is
either Opening A B C f g is = f is
either Settling A B C f g is = ⊎_elim f g is
either Done A B C f g is = g is

-- a base that turns is on the disk
made-turned : (roots : Roots) (root : ℕ) (w : NewBase) (more : Option PlacedRoll) (waits : Option InRoll) (k : ReclaimStage) (heap archive : AreaState)
    → TurnsAt k → HasMadeAt roots root w more waits k heap archive → KeepsAll (new_parts w) heap × KeepsRoll more archive
made-turned roots root w more waits (reclaims.Writing anchors base) heap archive turns made = absurd turns
made-turned roots root w more waits (Rolling roll) heap archive turns made = absurd turns
made-turned roots root w more waits (Turning t) heap archive turns made = (made.0, made.1)

dropped-front : {X : Type 0} (xs ys : List X) → drop (length xs) (xs ++ ys) ≡ ys
dropped-front [] ys = refl
dropped-front (x ∷ xs) ys = dropped-front xs ys

module _ (tells : Bool) (v again : LogStoreValue) (m : Machine Value) (old : DiskState) (mark : ℕ) (told : IsTrue tells) (step : IsInStep v)
    (s : StandsOnHeap v m.published m.queue m.floors) (left : LeavesBaseRoom v) (leaves : LeavesImage v.disk.areas (image_of old.areas))
    (sound : AreSound old.areas) (opens : Opens tells old mark again) where
  abbrev most : ℕ
  most = v.roots.extents

  abbrev heap : List ℕ
  heap = old.areas.heap.bytes

  abbrev archive : List ℕ
  archive = old.areas.archive.bytes

  abbrev HasLogRoom : HeapLog → Reading → Type 0
  HasLogRoom l reading = count_of (base_most (map live_of l.chains) (archived_upto reading)) ≤ most / 16

  used : length v.room.used ≡ most
  used = used-are v m.published m.queue m.floors s

  now : count_of (base_most v.live.chains v.named.upto) ≤ most / 16
  now = let here = left.0 in let len = used in omega (arith, here, len)

  -- ---- an image of a log

  from-log : (root : ℕ) (l : HeapLog) (reading : Reading) (h : History Value) (floors : ℕ → ℕ) → IsFrom v.roots (image_of old.areas) root
      → IsLogOf most root l reading → HoldsLog l heap archive → StandsFor reading h floors → HasLogRoom l reading → LeavesBaseRoom again
  from-log root l reading h floors from is held stands fits =
      let image : IsImageOf v.roots (image_of old.areas) h floors = record {
        read = from.read;
        status = from.status;
        size = from.size;
        heap = record {
          log = l;
          reading = reading;
          is_log = subst (λ (n : ℕ). IsLogOf most n l reading) (sym from.root_is) is;
          held = held;
          stands = stands;
        };
      } in
      opened-left tells old mark again v.roots h floors told sound image opens fits

  -- of one at rest
  held-left : (l : HeapLog) → KeepsLog l v.disk.areas.heap → KeepsArchive l v.disk.areas.archive → HoldsLog l heap archive
  held-left l log named = record {
    parts = all-left (heap_parts l) v.disk.areas.heap heap log.parts leaves.heap;
    ends = closed-left (extent_start l.next) v.disk.areas.heap heap log.ends leaves.heap;
    rolls = rolls-left l.rolls v.disk.areas.archive archive named.rolls leaves.archive;
    runs = runs-left l.runs v.disk.areas.archive archive named.runs leaves.archive;
  }

  -- of one with a chain on its way behind it
  chain-left : (root : ℕ) (l : HeapLog) (reading : Reading) (h : History Value) → IsLogOf most root l reading → StandsFor reading h m.floors
      → KeepsArchive l v.disk.areas.archive → (c : PlacedChain) (runs : List StoredRun) (then : Reading) (next : History Value) (raised : ℕ → ℕ)
      → MayJoin most l c → (stage : Stage) → IsAt (heap_parts l) (turn_of l.next c) stage v.disk.areas.heap → IsLogOf most root (with_runs l c runs) then
      → StandsFor then next raised → KeepsArchive (with_runs l c runs) v.disk.areas.archive → HasLogRoom l reading → HasLogRoom (with_runs l c runs) then
      → IsFrom v.roots (image_of old.areas) root → LeavesBaseRoom again
  chain-left root l reading h is stands named c runs then next raised joins stage at is-new stands-new named-new fits fits-new from =
      let t = turn_of l.next c in
      let way = goes (heap_parts l) t (chain-free most l c is.placed is.anchors joins) v.disk.areas s.sound stage at in
      either stage (HoldsOld (heap_parts l) t heap) (HoldsNew (heap_parts l) t heap) (LeavesBaseRoom again)
      (λ held. from-log root l reading h m.floors from is (record {
        parts = held.live;
        ends = held.ends;
        rolls = rolls-left l.rolls v.disk.areas.archive archive named.rolls leaves.archive;
        runs = runs-left l.runs v.disk.areas.archive archive named.runs leaves.archive;
      }) stands fits)
      (λ held.
      let joined = chain-joined most l c heap joins held in
      from-log root (with_runs l c runs) then next raised from is-new (record {
        parts = joined.0;
        ends = joined.1;
        rolls = rolls-left l.rolls v.disk.areas.archive archive named.rolls leaves.archive;
        runs = runs-left runs v.disk.areas.archive archive named-new.runs leaves.archive;
      }) stands-new fits-new)
      (way.before heap leaves.heap)

  -- ---- from the root that counts

  rest-left : IsAtRest v (s).l → IsFrom v.roots (image_of old.areas) (root_of v.roots) → LeavesBaseRoom again
  rest-left rest from =
      let same-most : base_most v.live.chains v.named.upto ≡ base_most (map live_of (s).l.chains) (archived_upto (s).reading) =
      λ i. base_most (rest.live.chains i) ((s).named.upto i) in
      let here = now in
      from-log (root_of v.roots) (s).l (s).reading m.published m.floors from (s).is_log (held-left (s).l rest.log (s).archive) (s).stands
      (omega (arith, here, same-most))

  group-left : (w : WriterState) → IsOnWay v m.queue (s).l (s).reading m.published w → IsFrom v.roots (image_of old.areas) (root_of v.roots)
      → LeavesBaseRoom again
  group-left w o from =
      let c = placed_group w.numbers w.link o.group in
      let then = with_group (s).reading (map member_told o.group) in
      let heads : List Head = map (λ (x : Member). x.head) (map member_told o.group) in
      let live = o.live.chains in
      let upto = (s).named.upto in
      let marked : archived_upto then ≡ archived_upto (s).reading = archive_mark-append 0 (s).reading.log (slots.Commits heads ∷ []) in
      let before : base_most v.live.chains v.named.upto ≡ base_most (map live_of (s).l.chains) (archived_upto (s).reading) =
      ap (λ (cs : List LiveChainValue). base_most cs v.named.upto) (live ∙ map-append live_of (s).l.chains (c ∷ []))
      ∙ alike-most (map live_of (s).l.chains ++ live_of c ∷ []) (map live_of (s).l.chains) v.named.upto
      (alike-group (map live_of (s).l.chains) (live_of c) _ refl)
      ∙ ap (base_most (map live_of (s).l.chains)) upto in
      let behind : base_most v.live.chains v.named.upto ≡ base_most (map live_of (with_chain (s).l c).chains) (archived_upto then) =
      λ i. base_most (live i) ((upto ∙ sym marked) i) in
      let here = now in
      chain-left (root_of v.roots) (s).l (s).reading m.published (s).is_log (s).stands (s).archive c (s).l.runs then _ m.floors o.joins w.stage o.at
      (log-then v m.published m.queue m.floors s w o) (stands-then v m.published m.queue m.floors s w o)
      (record { rolls = (s).archive.rolls; runs = (s).archive.runs }) (omega (arith, here, before)) (omega (arith, here, behind)) from

  -- the mark behind an entry
  mark-is : (work : JobWork) → upto_with work v.named.upto ≡ archived_upto (reading_with work (s).made (s).reading)
  mark-is (works.Floor floor kept) =
      (s).named.upto ∙ sym (archive_mark-append 0 (s).reading.log (slots.Floor (Some floor.relation) floor.floor ∷ []))
  mark-is (works.Archive a archives) =
      sym (archive_mark-append 0 (first_runs (length (s).reading.runs - a.runs) (s).reading.log) (slots.Archived a.upto ∷ []))

  entry-left : (job : Job) → v.job ≡ Some job → v.reclaim ≡ None → (w : WriterState) → job.stage ≡ Entering w
      → MayEnter (s).l (s).reading m.published m.floors job.work (s).made → HasWritten job.work (s).made (Entering w) v.disk.areas.archive
      → IsEntering v (s).l (s).reading (s).made job.work w → IsFrom v.roots (image_of old.areas) (root_of v.roots) → LeavesBaseRoom again
  entry-left job is-job none w at may written o from =
      let c = placed_entry w job.work in
      let live = o.live.chains in
      let upto = (s).named.upto in
      let whole = live ∙ map-append live_of (s).l.chains (c ∷ []) in
      let fewer = fewer-most (map live_of (s).l.chains) (live_of c) (archived_upto (s).reading) (entry-no-base job.work) in
      let same-most : base_most v.live.chains v.named.upto ≡ base_most (map live_of (s).l.chains ++ live_of c ∷ []) (archived_upto (s).reading) =
      λ i. base_most (whole i) (upto i) in
      let here = now in
      let behind : count_of (base_most v.live.chains (upto_with job.work v.named.upto)) ≤ length v.room.used / 16 =
      subst (λ (b : Bool). count_of (base_most (chains_with b job.work v.live.chains) (upto_with job.work v.named.upto)) ≤ length v.room.used / 16)
      (ap is_entering at) (left-as v None (Some job) none is-job left) in
      let then-most : base_most v.live.chains (upto_with job.work v.named.upto)
      ≡ base_most (map live_of (log_with job.work (s).made (s).l w).chains) (archived_upto (reading_with job.work (s).made (s).reading)) =
      λ i. base_most (live i) (mark-is job.work i) in
      let len = used in
      let stands = entered v m.published m.queue m.floors s job.work w may written o in
      chain-left (root_of v.roots) (s).l (s).reading m.published (s).is_log (s).stands (s).archive c (runs_after job.work (s).made (s).l)
      (reading_with job.work (s).made (s).reading) m.published (floors_with job.work m.floors) o.joins w.stage o.at stands.0 stands.1
      (runs-kept (s).l job.work (s).made w v.disk.areas.archive (s).archive written) (omega (arith, here, fewer, same-most))
      (omega (arith, behind, then-most, len)) from

  from-root : IsFrom v.roots (image_of old.areas) (root_of v.roots) → LeavesBaseRoom again
  from-root from = by-turn v.turn (s).turn
    where
      by-stage : (job : Job) → v.job ≡ Some job → v.reclaim ≡ None → (k : JobStage) → job.stage ≡ k
          → MayEnter (s).l (s).reading m.published m.floors job.work (s).made → HasWritten job.work (s).made k v.disk.areas.archive
          → HasStage v (s).l (s).reading (s).made job.work k → LeavesBaseRoom again
      by-stage job is-job none (stages.Writing writer) at may written rest = rest-left rest from
      by-stage job is-job none (Ready waited) at may written rest = rest-left rest from
      by-stage job is-job none (Entering w) at may written o = entry-left job is-job none w at may written o from

      no-reclaim : (job : Job) → v.job ≡ Some job → (r : Option ReclaimValue)
          → MatchOption r (v.room.reserved ≡ 0) (IsReclaiming v.job v.live.chains v.room.reserved (length v.room.used)) → r ≡ None
      no-reclaim job is-job None beside = refl
      no-reclaim job is-job (Some r) beside = absurd (none-some v.job job beside.alone is-job)

      by-job : (j : Option Job) → v.job ≡ j → MayAllEnter (s).l (s).reading m.published m.floors (s).made j
          → HasAllWritten (s).made j v.disk.areas.archive → HasJob v (s).l (s).reading (s).made j → LeavesBaseRoom again
      by-job None is-job may written rest = rest-left rest from
      by-job (Some job) is-job may written has =
          by-stage job is-job (no-reclaim job is-job v.reclaim step.reclaim) job.stage refl may written has

      by-turn : (t : Option WriterState) → HasTurn v m.queue (s).l (s).reading (s).made m.published t → LeavesBaseRoom again
      by-turn None has = by-job v.job refl (s).job (s).written has
      by-turn (Some w) o = group-left w o from

  -- ---- from the root of a base that turns

  module _ (r : ReclaimValue) (is-reclaim : v.reclaim ≡ Some r) (turns : TurnsAt r.stage)
      (it : making.IsReclaiming v.roots v.job v.named.end v.disk.areas.heap v.disk.areas.archive (s).l (s).reading (plan_of r) r.roll r.stage) where
    abbrev b : IsBaseOf most (s).l (s).reading (plan_of r)
    b = it.base

    on-disk : KeepsAll (new_parts (written_of r.makes (b).n)) v.disk.areas.heap × KeepsRoll (b).more v.disk.areas.archive
    on-disk = made-turned v.roots (first_or 0 r.numbers) (written_of r.makes (b).n) (b).more r.roll r.stage v.disk.areas.heap v.disk.areas.archive turns it.made

    abbrev based : HeapLog
    based = with_new_base (s).l (b).n (b).back

    abbrev reads : Reading
    reads = based_reading (s).reading (b).names (b).n (b).back

    abbrev root : ℕ
    root = first_or 0 ((b).n).numbers

    based-log : IsLogOf most root based reads × StandsFor reads m.published m.floors
    based-log = based-is most (root_of v.roots) (s).l (s).reading m.published m.floors (plan_of r) (s).is_log (s).stands b

    named-based : KeepsArchive based v.disk.areas.archive
    named-based = archive-based (s).l (b).n (b).more (b).back v.disk.areas.archive (b).rolls_are (s).archive (on-disk).1

    -- ---- its room

    base-is : base_chain r ≡ live_of (placed_base ((b).n).numbers ((b).n).link ((b).n).base)
    base-is = λ i. record { numbers = sym (b).numbers_are i; part = parts.Base (sym (b).base_is i) }

    stay-is : drop r.front (s).l.chains ≡ (b).back
    stay-is =
        (λ i. drop (sym (b).many i) ((b).may.split i)) ∙ dropped-front (b).front (b).back

    within : r.front ≤ length (map live_of (s).l.chains)
    within =
        let split = ap (λ (cs : List PlacedChain). length cs) (b).may.split ∙ length-append (b).front (b).back in
        let many = (b).many in
        let same-len = length-map (s).l.chains live_of in
        omega (arith, split, many, same-len)

    behind : count_of (base_most (base_chain r ∷ drop r.front v.live.chains) r.named.upto) ≤ most / 16
    behind =
        let there : count_of (base_most (base_chain r ∷ drop r.front v.live.chains) r.named.upto) ≤ length v.room.used / 16 =
        left-as v (Some r) v.job is-reclaim refl left in
        let len = used in
        omega (arith, there, len)

    rest-based : IsAtRest v (s).l → IsFrom v.roots (image_of old.areas) root → LeavesBaseRoom again
    rest-based rest from =
        let stay : drop r.front v.live.chains ≡ map live_of (b).back =
        ap (drop r.front) rest.live.chains ∙ drop-map live_of r.front (s).l.chains ∙ ap (map live_of) stay-is in
        let same-most : base_most (base_chain r ∷ drop r.front v.live.chains) r.named.upto ≡ base_most (map live_of (based).chains) (archived_upto reads) =
        λ i. base_most (base-is i ∷ stay i) ((b).named.upto i) in
        let there = behind in
        from-log root based reads m.published m.floors from (based-log).0
        (held-left based (log-based r.makes (s).l (b).n (b).front (b).back v.disk.areas.heap (b).may.split (b).stand rest.log (on-disk).0) named-based)
        (based-log).1 (omega (arith, there, same-most))

    group-base : (w : WriterState) → IsOnWay v m.queue (s).l (s).reading m.published w → IsFrom v.roots (image_of old.areas) root → LeavesBaseRoom again
    group-base w o from =
        let c = placed_group w.numbers w.link o.group in
        let next : History Value = take v.commits.group m.queue in
        let then = with_group reads (map member_told o.group) in
        let heads : List Head = map (λ (x : Member). x.head) (map member_told o.group) in
        let marked : archived_upto then ≡ archived_upto reads = archive_mark-append 0 reads.log (slots.Commits heads ∷ []) in
        let apart = subst (λ (ns : List ℕ). AreDistinct (ns ++ w.link ∷ w.numbers))
        (ap taken_of is-reclaim ∙ taken-are v.roots v.job v.named.end v.disk.areas.heap v.disk.areas.archive (s).l (s).reading r it) o.beside in
        let joins = joins-based most (root_of v.roots) (s).l (s).reading m.published m.floors (plan_of r) (s).is_log (s).stands b next w.numbers w.link o.group
        o.is_group o.joins o.shares apart in
        let group = group-based most (root_of v.roots) (s).l (s).reading m.published m.floors (plan_of r) (s).is_log (s).stands b next w.numbers w.link o.group
        o.is_group o.joins o.shares apart in
        let shares = shares-behind most (root_of v.roots) (s).l (s).reading m.published m.floors (plan_of r) (s).is_log (s).stands b next w.numbers w.link
        o.group o.is_group o.joins o.shares apart in
        let keeps = parts-based r.makes (s).l (b).n (b).front (b).back v.disk.areas.heap (b).may.split (b).stand
        (chain-is-among (heap_parts (s).l) (turn_of (s).l.next c) w.stage v.disk.areas.heap o.at).0 (on-disk).0 in
        let stay : drop r.front v.live.chains ≡ map live_of (b).back ++ live_of c ∷ [] =
        ap (drop r.front) (o.live.chains ∙ map-append live_of (s).l.chains (c ∷ []))
        ∙ drop-more r.front (map live_of (s).l.chains) (live_of c ∷ []) within
        ∙ ap (λ (cs : List LiveChainValue). cs ++ live_of c ∷ []) (drop-map live_of r.front (s).l.chains ∙ ap (map live_of) stay-is) in
        let base = live_of (placed_base ((b).n).numbers ((b).n).link ((b).n).base) in
        let whole : base_most (base_chain r ∷ drop r.front v.live.chains) r.named.upto ≡ base_most (base ∷ (map live_of (b).back ++ live_of c ∷ []))
        (archived_upto reads) =
        λ i. base_most (base-is i ∷ stay i) ((b).named.upto i) in
        let before = alike-most (base ∷ (map live_of (b).back ++ live_of c ∷ [])) (base ∷ map live_of (b).back) (archived_upto reads)
        (alike-group (base ∷ map live_of (b).back) (live_of c) _ refl) in
        let after : base_most (base ∷ (map live_of (b).back ++ live_of c ∷ [])) (archived_upto reads)
        ≡ base_most (map live_of (with_chain based c).chains) (archived_upto then) =
        λ i. base_most (base ∷ sym (map-append live_of (b).back (c ∷ [])) i) (sym marked i) in
        let there = behind in
        chain-left root based reads m.published (based-log).0 (based-log).1 named-based c (based).runs then (m.published ++ next) m.floors joins w.stage
        (chain-among-others (heap_parts (s).l) (heap_parts based) (turn_of (s).l.next c) w.stage v.disk.areas.heap keeps o.at)
        (group-is_log most root based reads m.published next m.floors w.numbers w.link o.group (based-log).0 (based-log).1 group joins shares)
        (group-stands_for reads m.published m.floors (based-log).1 (map member_told o.group) next group
        (room reads (in-heap most root based reads (based-log).0)))
        (record { rolls = named-based.rolls; runs = named-based.runs }) (omega (arith, there, whole, before)) (omega (arith, there, whole, after)) from

    from-base : IsFrom v.roots (image_of old.areas) root → LeavesBaseRoom again
    from-base from = by-turn v.turn (s).turn
      where
        by-job : (j : Option Job) → v.job ≡ j → HasJob v (s).l (s).reading (s).made j → LeavesBaseRoom again
        by-job None is-job rest = rest-based rest from
        by-job (Some job) is-job has = absurd (none-some v.job job it.alone is-job)

        by-turn : (t : Option WriterState) → HasTurn v m.queue (s).l (s).reading (s).made m.published t → LeavesBaseRoom again
        by-turn None has = by-job v.job refl has
        by-turn (Some w) o = group-base w o from

    pub turned-left : IsNumberOf most (first_or 0 r.numbers) × (IsFrom v.roots (image_of old.areas) (first_or 0 r.numbers) → LeavesBaseRoom again)
    turned-left = (
      subst (IsNumberOf most) (ap (first_or 0) (b).numbers_are) (root-number most (s).l (s).reading (plan_of r) b),
      λ from. from-base (subst (IsFrom v.roots (image_of old.areas)) (sym (ap (first_or 0) (b).numbers_are)) from),
    )

  -- ---- from either

  turned : (o : Option ReclaimValue) → v.reclaim ≡ o → Turns o
      → making.HasReclaim v.roots v.job v.named.end v.disk.areas.heap v.disk.areas.archive (s).l (s).reading o
      → IsNumberOf most (root_then o) × (IsFrom v.roots (image_of old.areas) (root_then o) → LeavesBaseRoom again)
  turned None is-reclaim turns it = absurd turns
  turned (Some r) is-reclaim turns it = turned-left r is-reclaim turns it

  pub reopened-left : LeavesBaseRoom again
  reopened-left =
      root-left v.roots v.disk.areas (s).sound v.reclaim (image_of old.areas) (LeavesBaseRoom again) (s).status leaves.status from-root
      (λ turns. turned v.reclaim refl turns (s).reclaim)

-- ---- the law

pub reopened : (tells : Bool) (v again : LogStoreValue) (m : Machine Value) (old : DiskState) (mark : ℕ) → IsTrue tells → IsInStep v → IsStoreOf tells v m
    → v.commits.failed ≡ false → LeavesBaseRoom v → LeavesImage v.disk.areas (image_of old.areas) → AreSound old.areas → Opens tells old mark again
    → LeavesBaseRoom again
reopened tells v again m old mark told step is works left leaves sound opens =
    reopened-left tells v again m old mark told step
    (subst (λ (failed : Bool). MatchBool failed (StopsOnHeap v m.published m.queue m.floors) (StandsOnHeap v m.published m.queue m.floors)) works
    (is.disk told)) left leaves sound opens
