-- The beginning of an archive changes nothing of the machine's.
use Rattle.std.proofs.Common.{◌≡◌, ℕ, ◌+◌, ◌-◌, ◌/◌, ◌<◌, ◌≤◌, max, nat_le, nat_lt, Bool, true, false, cond, List, [], ◌∷◌, ◌++◌, length}
use Rattle.std.proofs.Common.{Option, None, Some, Result, Ok, Err, refl, arith, ap, sym, subst, ◌∙◌, inl, inr, append-nil}
use Rattle.std.specs.Prelude.{IsTrue, MatchBool, MatchOption, filter}
use Rattle.std.proofs.lemmas.Bool.Decides.{nat_tests}
use Rattle.history.specs.declared.key.Key.{Key}
use Rattle.history.specs.declared.time.Version.{Version}
use Rattle.history.specs.Histories as histories
use Rattle.history.specs.Histories.{History, HasRisingTimes, versions_of}
use Rattle.history.specs.Machine.{Machine, commit_order}
use Rattle.history.specs.Time.{IsRisingAfter}
use Rattle.history.specs.Versions.{versions, ends_after}
use Rattle.history.proofs.Histories.{last_after-append}
use Rattle.history.proofs.Runs.{last-later}
use Rattle.law_image.specs.Values.{Value}
use Rattle.wire.specs.Spelling.{IsRun}
use Rattle.chains.specs.Writes.{Write}
use Rattle.chains.specs.KeyWrites as chains
use Rattle.vacuum.specs.Archives.{AreInMemory, unwritten}
use Rattle.log_writer.specs.Writer.{WriterState}
use Rattle.log_room.specs.Bases.{has_base_room}
use Rattle.log_room.specs.Rooms.{has_entry_room, has_last_room}
use Rattle.commits.specs.Values.{last, last_assigned}
use Rattle.log_store.specs.Values.{LogStoreValue, IsInStep, is_busy}
use Rattle.log_store.specs.Archives.{has_archive_room, archive_refusal, records_to, run_to, with_archive, BeginsArchive, BeginsRun, StartsArchive}
use Rattle.log_store.specs.Jobs.{base_parts}
use Rattle.log_store.specs.declared.job.Job.{Job}
use Rattle.log_store.specs.declared.job.StartFault.{StartFault}
use Rattle.log_store.specs.declared.job.StartFault.TheVariants as start
use Rattle.law_refinement.proofs.Conflicts.{rising-behind}
use Rattle.law_refinement.proofs.Held.{rising-held}
use Rattle.law_refinement.proofs.Ranges.{each-chain, all-rising}
use Rattle.law_refinement.proofs.Submitting.{order-rising}
use Rattle.law_commits.proofs.Names.{assigned-is, last-is}
use Rattle.law_commits.proofs.Order.{published-rises}
use Rattle.law_log_store.specs.Calls.{HasRoomFor, HoldsUnarchived}
use Rattle.law_log_store.specs.Standing.{StandsOnHeap, StopsOnHeap}
use Rattle.law_log_store.proofs.ArchiveBegins.{archive-begins}
use Rattle.law_log_store.proofs.Jobs.{is-upto}
use Rattle.law_log_store.proofs.Plans.{after-higher}
use Rattle.law_log_steps.specs.Store.{gate_of, raising_of, IsStoreOf}
use Rattle.law_log_steps.proofs.FloorStarts.{first-is, none-runs}
use Rattle.law_log_steps.proofs.InStep.{archive-in-step}

-- ---- the tests in their order

-- what holds where none fails
pub record MayArchive (v : LogStoreValue) (upto : ℕ) : Type 0 where
  pub works : v.commits.failed ≡ false
  pub free : v.job ≡ None
  pub unmade : v.reclaim ≡ None
  pub later : v.named.upto < upto
  pub by_last : upto ≤ last v.commits
  pub room : IsTrue (has_archive_room v upto)

pub may-archive : (v : LogStoreValue) (upto : ℕ) → archive_refusal v upto ≡ None → MayArchive v upto
may-archive v upto none =
    by-tests v.commits.failed refl (is_busy v) refl (nat_le upto v.named.upto) refl (nat_lt (last v.commits) upto) refl (has_archive_room v upto) refl none
  where
    by-tests : (a : Bool) → v.commits.failed ≡ a → (b : Bool) → is_busy v ≡ b → (c : Bool) → nat_le upto v.named.upto ≡ c → (d : Bool)
        → nat_lt (last v.commits) upto ≡ d → (e : Bool) → has_archive_room v upto ≡ e
        → Path (Option StartFault)
        (cond a (Some start.Failed)
        (cond b (Some start.JobBusy)
        (cond c (Some start.NothingToDo) (cond d (Some (start.NotYet (last v.commits))) (cond e None (Some start.HeapFull)))))) None → MayArchive v upto
    by-tests true a b c d e f g h i is = absurd cc
    by-tests false a true c d e f g h i is = absurd cc
    by-tests false a false c true e f g h i is = absurd cc
    by-tests false a false c false e true g h i is = absurd cc
    by-tests false a false c false e false g false i is = absurd cc
    by-tests false a false c false e false g true i is =
        let idle = none-runs v c in
        record {
          works = a;
          free = idle.0;
          unmade = idle.1;
          later = grind (arith, nat_tests);
          by_last = grind (arith, nat_tests);
          room = i;
        }

-- the log's half has an extent for its entry
room-is : (v : LogStoreValue) (upto : ℕ) → IsTrue (has_archive_room v upto)
    → IsTrue (cond (nat_lt upto (last_assigned v.commits)) (has_entry_room v.room) (has_last_room v.room))
room-is v upto room =
    first-is (cond (nat_lt upto (last_assigned v.commits)) (has_entry_room v.room) (has_last_room v.room)) (has_base_room v.room (base_parts v)) room

half-fits : (v : LogStoreValue) (upto : ℕ) → IsTrue (has_archive_room v upto) → v.room.log + v.room.promised + 1 ≤ length v.room.used / 2
half-fits v upto room = by-last (nat_lt upto (last_assigned v.commits)) (room-is v upto room)
  where
    by-last : (b : Bool) → IsTrue (cond b (has_entry_room v.room) (has_last_room v.room)) → v.room.log + v.room.promised + 1 ≤ length v.room.used / 2
    by-last true entry = let fits = is-upto (v.room.log + v.room.promised + 1) (length v.room.used / 2 - 2) entry in omega (arith, fits)
    by-last false alone = is-upto (v.room.log + v.room.promised + 1) (length v.room.used / 2) alone

-- ---- what it needs of memory

module _ (tells : Bool) (v : LogStoreValue) (m : Machine Value) (is : IsStoreOf tells v m) where
  pub in-memory : AreInMemory v.commits.versions
  in-memory = record {
    ordered = is.memory.versions.ordered;
    rising = all-rising v.commits.versions
        (each-chain (λ (key : Key) (ws : List Write). IsRisingAfter 0 ws) (λ key. tt) v.commits.versions is.memory.versions.ordered
        (rising-held is.memory.versions (published-rises v.commits m is.memory is.machine)));
  }

  holds : HoldsUnarchived v m.published m.floors
  holds = record {
    in_memory = in-memory;
    same = λ key.
        let mark = v.commits.reclaimed in
        let floor = m.floors key.relation in
        let after = max v.named.upto floor in
        let reached = is.marks.reclaimed in
        let ours : List (Version Value) = versions (chains.writes_of v.commits.versions key) in
        let all : List (Version Value) = versions_of m.published key in
        sym (after-higher floor after ours (omega arith))
        ∙ ap (filter (ends_after after)) (is.memory.versions.at_home key)
        ∙ after-higher floor after (filter (ends_after mark) all) (omega arith)
        ∙ after-higher mark after all (omega (arith, reached));
    floors_are = is.memory.floors;
  }

  -- ---- its room

  -- the commits that wait are later than those that are published
  none-waits : histories.last (commit_order m) ≤ histories.last m.published → m.queue ≡ []
  none-waits low =
      by-queue m.queue
      (let same = last_after-append 0 m.published m.queue in omega (arith, low, same)) (rising-behind 0 m.published m.queue (order-rising m is.machine))
    where
      by-queue : (queue : History Value) → histories.last_after (histories.last m.published) queue ≤ histories.last m.published
          → HasRisingTimes (histories.last m.published) queue → queue ≡ []
      by-queue [] within up = refl
      by-queue (c ∷ cs) within up = let later = last-later c.time cs up.2 in let first = up.0 in absurd (omega (arith, within, later, first))

  room-for : (upto : ℕ) → upto ≤ last v.commits → IsTrue (has_archive_room v upto) → HasRoomFor v upto m.published m.queue
  room-for upto by_last room = by-assigned (nat_lt upto (last_assigned v.commits)) refl (room-is v upto room)
    where
      by-assigned : (b : Bool) → nat_lt upto (last_assigned v.commits) ≡ b → IsTrue (cond b (has_entry_room v.room) (has_last_room v.room))
          → HasRoomFor v upto m.published m.queue
      by-assigned true earlier room = inl room
      by-assigned false all room =
          let within : last_assigned v.commits ≤ upto = grind (arith, nat_tests) in
          let assigned = assigned-is v.commits m is.memory is.machine in
          let published = last-is v.commits m is.memory in
          let none = none-waits (omega (arith, within, assigned, published, by_last)) in
          let order : histories.last (commit_order m) ≡ histories.last m.published =
          ap (λ (queue : History Value). histories.last (m.published ++ queue)) none ∙ ap (λ (h : History Value). histories.last h) (append-nil m.published) in
          inr (room, none, omega (arith, within, assigned, published, by_last, order))

  -- ---- it begins

  module _ (upto : ℕ) (may : MayArchive v upto) (step : IsInStep v) (in_range : IsRun (run_to v upto)) (new : LogStoreValue)
      (b : BeginsArchive v (run_to v upto) (unwritten v.named.end (records_to v upto)) new) where
    abbrev begun : LogStoreValue
    begun = with_archive v (run_to v upto) (unwritten v.named.end (records_to v upto)) b.entry

    by_last-here : upto ≤ histories.last m.published
    by_last-here = let by = may.by_last in let same = last-is v.commits m is.memory in omega (arith, by, same)

    same-gate : (t : Option WriterState) → gate_of t v.job ≡ gate_of t (begun).job
    same-gate None = ap (λ (j : Option Job). gate_of None j) may.free
    same-gate (Some w) = refl

    begins : IsStoreOf tells new m
    begins = subst (λ (x : LogStoreValue). IsStoreOf tells x m) (sym b.new_is) (record {
      memory = is.memory;
      machine = is.machine;
      writing = record {
        most = is.writing.most;
        group = is.writing.group;
        raising = is.writing.raising ∙ ap raising_of may.free;
        made = tt;
        gate = λ on. is.writing.gate on ∙ same-gate v.turn;
        left = λ fails. absurd (let no : false ≡ true = sym may.works ∙ is.memory.failed ∙ fails in cc);
      };
      fresh = is.fresh;
      marks = record {
        reclaimed = is.marks.reclaimed;
        base = is.marks.base;
        job = (let later = may.later in omega (arith, later));
        reclaim = is.marks.reclaim;
      };
      ends = is.ends;
      disk = λ told. subst (λ (b : Bool). MatchBool b (StopsOnHeap begun m.published m.queue m.floors) (StandsOnHeap begun m.published m.queue m.floors))
          (sym may.works)
          (subst (λ (x : LogStoreValue). StandsOnHeap x m.published m.queue m.floors) b.new_is
          (archive-begins v upto m.published m.queue m.floors step may.free may.unmade (room-for upto may.by_last may.room) may.later by_last-here in_range
          holds
          (subst (λ (b : Bool). MatchBool b (StopsOnHeap v m.published m.queue m.floors) (StandsOnHeap v m.published m.queue m.floors)) may.works
          (is.disk told)) new b));
    })

-- ---- the start

pub archive-starts : (tells : Bool) (old new : LogStoreValue) (upto : ℕ) (answer : Result (Unit {0}) StartFault) (m : Machine Value) → IsInStep old
    → IsStoreOf tells old m → StartsArchive old upto answer new → IsStoreOf tells new m
archive-starts tells old new upto answer m step is starts = by-refusal (archive_refusal old upto) refl starts
  where
    by-answer : archive_refusal old upto ≡ None → (a : Result (Unit {0}) StartFault) → BeginsRun old upto a new → IsStoreOf tells new m
    by-answer none (Ok done) so = begins tells old m is upto (may-archive old upto none) step so.2 new so.3
    by-answer none (Err why) so = subst (λ (v : LogStoreValue). IsStoreOf tells v m) (sym so.1) is

    by-refusal : (o : Option StartFault) → archive_refusal old upto ≡ o
        → MatchOption o (BeginsRun old upto answer new) (λ why. (answer ≡ Err why) × (new ≡ old)) → IsStoreOf tells new m
    by-refusal None none so = by-answer none answer so
    by-refusal (Some why) some so = subst (λ (v : LogStoreValue). IsStoreOf tells v m) (sym so.1) is

-- the store stays in step
pub archive-starts-in-step : (old new : LogStoreValue) (upto : ℕ) (answer : Result (Unit {0}) StartFault) → IsInStep old → StartsArchive old upto answer new
    → IsInStep new
archive-starts-in-step old new upto answer is starts = by-refusal (archive_refusal old upto) refl starts
  where
    by-answer : archive_refusal old upto ≡ None → (a : Result (Unit {0}) StartFault) → BeginsRun old upto a new → IsInStep new
    by-answer none (Ok done) so =
        let may = may-archive old upto none in
        subst IsInStep (sym (so.3).new_is)
        (archive-in-step old (run_to old upto) (unwritten old.named.end (records_to old upto)) (so.3).entry may.free may.unmade
        (half-fits old upto may.room) so.1 is)
    by-answer none (Err why) so = subst IsInStep (sym so.1) is

    by-refusal : (o : Option StartFault) → archive_refusal old upto ≡ o
        → MatchOption o (BeginsRun old upto answer new) (λ why. (answer ≡ Err why) × (new ≡ old)) → IsInStep new
    by-refusal None none so = by-answer none answer so
    by-refusal (Some why) some so = subst IsInStep (sym so.1) is
