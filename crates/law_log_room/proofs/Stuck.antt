-- A store where nothing waits is never stuck: a reclaim has room, an archive of all that is published, another reclaim, and then a small commit.
use Rattle.std.proofs.Common.{◌≡◌, ◌≢◌, ℕ, zero, suc, ◌+◌, ◌-◌, ◌*◌, ◌/◌, ◌^◌, ◌<◌, ◌≤◌, ◌==◌, ◌&&◌, ◌||◌, nat_le, nat_lt, Bool, true, false, cond, List, []}
use Rattle.std.proofs.Common.{◌∷◌, ◌++◌, length, drop, Option, None, Some, Result, Ok, Err, refl, arith, ap, sym, subst, ◌∙◌, inl, inr}
use Rattle.std.specs.Prelude.{IsTrue, MatchBool, MatchOption}
use Rattle.std.proofs.lemmas.Bool.Decides.{nat_tests}
use Rattle.std.proofs.lemmas.List.Concat.{flat_map-cons}
use Rattle.history.specs.declared.key.Key.{Key}
use Rattle.history.specs.declared.key.KeyWrite.{KeyWrite}
use Rattle.law_image.specs.Values.{Value}
use Rattle.law_image.proofs.Standing.{archived-range}
use Rattle.snapshot.specs.Txn.{TxnValue}
use Rattle.group.specs.Submits.{Verdict, ClockEnds, Conflicts, HeapIsFull, Queues, Reads, first_conflict, verdict_on_clock}
use Rattle.group.specs.declared.answers.Submitted.{Submitted}
use Rattle.group.specs.declared.answers.SubmitFault.{SubmitFault}
use Rattle.group.specs.declared.answers.SubmitFault.TheVariants as refused
use Rattle.commits.specs.Calls.{oldest}
use Rattle.commits.specs.Steps.{time_now}
use Rattle.commits.specs.Values.{is_own, last, ordered}
use Rattle.law_commits.proofs.Names.{last-is}
use Rattle.log_extents.specs.Chains.{count_of}
use Rattle.log_base.specs.Bases.{mark_at, mark_of}
use Rattle.log_recovery.specs.Live.{LiveChainValue, counted_at, live_count}
use Rattle.log_recovery.specs.declared.live.LivePart.{LivePart}
use Rattle.log_recovery.specs.declared.live.LivePart.TheVariants.{Commits}
use Rattle.log_recovery.specs.declared.live.LivePart.TheVariants as parts
use Rattle.log_room.specs.Contents.{extents_over}
use Rattle.log_room.specs.Rooms.{RoomValue}
use Rattle.log_room.proofs.Taken.{used_len}
use Rattle.log_store.specs.Archives.{BeginsArchive, BeginsRun, StartsArchive, archive_refusal, has_archive_room, records_to, run_to}
use Rattle.log_store.specs.Calls.{with_commits}
use Rattle.log_store.specs.Reclaims.{BeginsReclaim, IsReclaimBegun, StartsReclaim, front_count, has_nothing, reclaim_refusal, reclaimed, refusal_for_use}
use Rattle.log_store.specs.Submits.{AnswersSubmit, Submits, SubmitsOwn, anchors_behind, has_room, spent, verdict, verdict_on_conflict}
use Rattle.log_store.specs.Values.{LogStoreValue, ReclaimValue, IsInStep, is_busy}
use Rattle.log_store.specs.declared.job.Job.{Job}
use Rattle.log_store.specs.declared.job.StartFault.{StartFault}
use Rattle.log_store.specs.declared.job.StartFault.TheVariants as fault
use Rattle.vacuum.specs.Archives.{unwritten}
use Rattle.law_log_sizes.specs.Sizes.{size_now}
use Rattle.law_image.specs.Facts.{values_now}
use Rattle.law_image.specs.Plans.{stored_members}
use Rattle.law_log_sizes.specs.Sizes.{len_from}
use Rattle.history.specs.Histories.{History}
use Rattle.law_log_store.specs.Opened.{live_uses}
use Rattle.law_log_store.specs.Standing.{StandsOnHeap, StopsOnHeap}
use Rattle.law_log_store.proofs.Opened.{leaves-room}
use Rattle.law_log_store.proofs.Used.{used-are}
use Rattle.log_roots.specs.Roots.{root_of}
use Rattle.law_log_queries.specs.Calls.{OfArchive, OfJob, OfReclaim}
use Rattle.law_log_room.specs.Ends.{ArchivesAll, Ends, Reclaims, RunsOut, StepsTo}
use Rattle.law_log_room.specs.Laws.{HasAllRoom, IsIdle, IsSmall, MayReclaim}
use Rattle.law_log_room.proofs.Behind.{no-log, whole-front}
use Rattle.law_log_room.proofs.Calls.{Roomy, call-roomy, roomy-reclaim}
use Rattle.law_log_room.proofs.Ending.{Archiving, Emptying, IsAt, IsEmptied, archiving-steps, emptying-steps}
use Rattle.law_log_room.proofs.Lasts.{last-has-room, none-promised, queue-none}

-- ---- what a start has begun

abbrev is-nothing : StartFault → Bool
is-nothing fault.NothingToDo = true
is-nothing fault.Failed = false
is-nothing fault.WrongProfile = false
is-nothing fault.JobBusy = false
is-nothing (fault.NotYet time) = false
is-nothing (fault.InUse time) = false
is-nothing fault.HeapFull = false
is-nothing fault.ArchiveFull = false
is-nothing fault.NoMemory = false

abbrev nothing-in : Option StartFault → Bool
nothing-in None = false
nothing-in (Some why) = is-nothing why

abbrev answer-nothing : Result (Unit {0}) StartFault → Bool
answer-nothing (Ok done) = false
answer-nothing (Err why) = is-nothing why

-- a reclaim
reclaim-began : (v new : LogStoreValue) (done : Unit {0}) → StartsReclaim v (Ok done) new → IsReclaimBegun v new
reclaim-began v new done starts = by-refusal (reclaim_refusal v) starts
  where
    by-refusal : (o : Option StartFault)
        → MatchOption o (BeginsReclaim v (Ok done) new) (λ why. (Path (Result (Unit {0}) StartFault) (Ok done) (Err why)) × (new ≡ v))
        → IsReclaimBegun v new
    by-refusal None so = so
    by-refusal (Some why) so = absurd (let no : Path (Result (Unit {0}) StartFault) (Ok done) (Err why) = so.0 in cc)

use-nothing : (snapshot : Option ℕ) (mark : ℕ) → nothing-in (refusal_for_use snapshot mark) ≡ false
use-nothing None mark = refl
use-nothing (Some snapshot) mark = by-test (nat_lt snapshot mark)
  where
    by-test : (b : Bool) → nothing-in (cond b (Some (fault.InUse snapshot)) None) ≡ false
    by-test true = refl
    by-test false = refl

-- or there is nothing to do
record ReclaimRests (v new : LogStoreValue) : Type 0 where
  same : new ≡ v
  nothing : has_nothing v ≡ true

reclaim-rests : (v new : LogStoreValue) → StartsReclaim v (Err fault.NothingToDo) new → ReclaimRests v new
reclaim-rests v new starts = by-refusal (reclaim_refusal v) refl starts
  where
    by-tests : (a b c : Bool)
        → nothing-in (cond a (Some fault.Failed)
        (cond b (Some fault.JobBusy) (cond c (Some fault.NothingToDo) (refusal_for_use (oldest v.commits) v.named.upto)))) ≡ true → c ≡ true
    by-tests true b c is = absurd (let no : false ≡ true = is in cc)
    by-tests false true c is = absurd (let no : false ≡ true = is in cc)
    by-tests false false true is = refl
    by-tests false false false is = sym (use-nothing (oldest v.commits) v.named.upto) ∙ is

    by-refusal : (o : Option StartFault) → reclaim_refusal v ≡ o
        → MatchOption o (BeginsReclaim v (Err fault.NothingToDo) new)
        (λ why. (Path (Result (Unit {0}) StartFault) (Err fault.NothingToDo) (Err why)) × (new ≡ v)) → ReclaimRests v new
    by-refusal None none so = absurd so.0
    by-refusal (Some why) some so = record {
      same = so.1;
      nothing = by-tests v.commits.failed (is_busy v) (has_nothing v) (ap nothing-in some ∙ sym (ap answer-nothing so.0));
    }

-- an archive
archive-began : (v new : LogStoreValue) (upto : ℕ) (done : Unit {0}) → StartsArchive v upto (Ok done) new
    → BeginsArchive v (run_to v upto) (unwritten v.named.end (records_to v upto)) new
archive-began v new upto done starts = by-refusal (archive_refusal v upto) starts
  where
    by-refusal : (o : Option StartFault)
        → MatchOption o (BeginsRun v upto (Ok done) new) (λ why. (Path (Result (Unit {0}) StartFault) (Ok done) (Err why)) × (new ≡ v))
        → BeginsArchive v (run_to v upto) (unwritten v.named.end (records_to v upto)) new
    by-refusal None so = so.3
    by-refusal (Some why) so = absurd (let no : Path (Result (Unit {0}) StartFault) (Ok done) (Err why) = so.0 in cc)

record ArchiveRests (v new : LogStoreValue) (upto : ℕ) : Type 0 where
  same : new ≡ v
  low : upto ≤ v.named.upto

archive-rests : (v new : LogStoreValue) (upto : ℕ) → StartsArchive v upto (Err fault.NothingToDo) new → ArchiveRests v new upto
archive-rests v new upto starts = by-refusal (archive_refusal v upto) refl starts
  where
    by-tests : (a b c d e : Bool)
        → nothing-in (cond a (Some fault.Failed)
        (cond b (Some fault.JobBusy)
        (cond c (Some fault.NothingToDo) (cond d (Some (fault.NotYet (last v.commits))) (cond e None (Some fault.HeapFull)))))) ≡ true → c ≡ true
    by-tests true b c d e is = absurd (let no : false ≡ true = is in cc)
    by-tests false true c d e is = absurd (let no : false ≡ true = is in cc)
    by-tests false false true d e is = refl
    by-tests false false false true e is = is
    by-tests false false false false true is = is
    by-tests false false false false false is = is

    by-refusal : (o : Option StartFault) → archive_refusal v upto ≡ o
        → MatchOption o (BeginsRun v upto (Err fault.NothingToDo) new)
        (λ why. (Path (Result (Unit {0}) StartFault) (Err fault.NothingToDo) (Err why)) × (new ≡ v)) → ArchiveRests v new upto
    by-refusal None none so = absurd so.0
    by-refusal (Some why) some so =
        let test : nat_le upto v.named.upto ≡ true =
        by-tests v.commits.failed (is_busy v) (nat_le upto v.named.upto) (nat_lt (last v.commits) upto) (has_archive_room v upto)
        (ap nothing-in some ∙ sym (ap answer-nothing so.0)) in
        record { same = so.1; low = grind (arith, nat_tests, test) }

-- ---- a log that is all base

dropped : {X : Type 0} (n : ℕ) (xs : List X) → drop n xs ≡ [] → length xs ≤ n
dropped {X} zero xs none = let len = ap (λ (l : List X). length l) none in omega (arith, len)
dropped (suc n) [] none = omega arith
dropped (suc n) (x ∷ xs) none = let rest = dropped n xs none in omega (arith, rest)

only-base : (part : LivePart) (numbers : List ℕ) → 0 < mark_at part → counted_at part numbers ≡ []
only-base (Commits time) numbers some = absurd (omega (arith, some))
only-base (parts.Archived archive) numbers some = absurd (omega (arith, some))
only-base (parts.Floor floor) numbers some = absurd (omega (arith, some))
only-base (parts.Base base) numbers some = refl

one-base : (cs : List LiveChainValue) → 0 < mark_of cs → length cs ≤ 1 → live_count cs ≡ 0
one-base [] some few = refl
one-base (c ∷ []) some few =
    ap (λ (ns : List ℕ). length ns)
    (flat_map-cons (λ (d : LiveChainValue). counted_at d.part d.numbers) c [] ∙ ap (λ (ns : List ℕ). ns ++ []) (only-base c.part c.numbers some))
one-base (c ∷ d ∷ cs) some few = absurd (omega (arith, few))

-- ---- a store at rest

-- It works, leaves room, and nothing waits or runs.
record Rested (tells : Bool) (v : LogStoreValue) : Type 0 where
  roomy : Roomy tells v
  works : v.commits.failed ≡ false
  none : v.commits.queue ≡ []
  job : v.job ≡ None
  reclaim : v.reclaim ≡ None

-- and where all is archived, nothing of its log is left but the base
record Reclaimed (tells whole : Bool) (v : LogStoreValue) : Type 0 where
  rested : Rested tells v
  base : whole ≡ true → live_count v.live.chains ≡ 0

-- or all that is published is archived
record Archived (tells : Bool) (v : LogStoreValue) : Type 0 where
  rested : Rested tells v
  all : v.named.upto ≡ last v.commits

-- its heap has 64 extents at least, and the anchors keep their share
record HasShares (room : RoomValue) : Type 0 where
  least : 64 ≤ length room.used
  anchors : count_of room.anchors ≤ (3 * length room.used) / 16

module _ (tells : Bool) (tell : IsTrue tells) where
  steps-roomy : (old new : LogStoreValue) (between : List LogStoreValue) → Roomy tells old → StepsTo tells old between new → Roomy tells new
  steps-roomy old new [] is steps = subst (λ (v : LogStoreValue). Roomy tells v) (sym steps) is
  steps-roomy old new (next ∷ rest) is steps =
      let one = steps.1 in
      steps-roomy next new rest (call-roomy tells old next tell steps.0 is (OfJob one.answer one.sound one.is)) steps.2

  stands : (v : LogStoreValue) (is : Rested tells v)
      → StandsOnHeap v is.roomy.machine.published is.roomy.machine.queue is.roomy.machine.floors
  stands v is =
      let m = is.roomy.machine in
      subst (λ (failed : Bool). MatchBool failed (StopsOnHeap v m.published m.queue m.floors) (StandsOnHeap v m.published m.queue m.floors)) is.works
      (is.roomy.stands.store.disk tell)

  -- ---- a reclaim

  nothing-left : (v : LogStoreValue) → IsInStep v → Rested tells v → v.named.upto ≡ last v.commits → has_nothing v ≡ true → live_count v.live.chains ≡ 0
  nothing-left v step is all nothing =
      by-first (v.named.upto == 0) refl ((reclaimed v == v.named.upto) && nat_le (front_count v) 1) refl nothing
    where
      by-second : (v.named.upto == 0) ≡ false → (a : Bool) → (reclaimed v == v.named.upto) ≡ a → (b : Bool) → nat_le (front_count v) 1 ≡ b → (a && b) ≡ true
          → live_count v.live.chains ≡ 0
      by-second some true same true few both =
          let mark : 0 < reclaimed v = grind (arith, nat_tests, some, same) in
          let front : front_count v ≤ 1 = grind (arith, nat_tests, few) in
          let m = is.roomy.machine in
          let long = dropped (front_count v) v.live.chains
          (whole-front tells v m is.roomy.stands.store (stands v is) step is.none is.job all) in
          one-base v.live.chains mark (omega (arith, front, long))
      by-second some true same false few both = absurd (let no : false ≡ true = both in cc)
      by-second some false same b few both = absurd (let no : false ≡ true = both in cc)

      by-first : (a : Bool) → (v.named.upto == 0) ≡ a → (b : Bool) → ((reclaimed v == v.named.upto) && nat_le (front_count v) 1) ≡ b → (a || b) ≡ true
          → live_count v.live.chains ≡ 0
      by-first true naught b e either =
          let upto : v.named.upto ≡ 0 = grind (arith, nat_tests, naught) in
          ap live_count (no-log tells v is.roomy.machine is.roomy.stands.store (stands v is) step is.none is.job upto all)
      by-first false some true e either = by-second some (reclaimed v == v.named.upto) refl (nat_le (front_count v) 1) refl e
      by-first false some false e either = absurd (let no : false ≡ true = either in cc)

  reclaimed-so : (whole : Bool) (v a : LogStoreValue) → Rested tells v → (whole ≡ true → v.named.upto ≡ last v.commits) → Reclaims tells v a
      → Reclaimed tells whole a
  reclaimed-so whole v a is all r = by-answer r.answer r.starts r.ends
    where
      started : (answer : Result (Unit {0}) StartFault) → StartsReclaim v answer r.begun → Roomy tells r.begun
      started answer starts = call-roomy tells v r.begun tell r.step is.roomy (OfReclaim answer starts)

      made : (b : IsReclaimBegun v r.begun) → Emptying whole r.begun
      made b = subst (Emptying whole) (sym b.new_is) (record {
        queue = is.none;
        job = is.job;
        at = λ yes. whole-front tells v is.roomy.machine is.roomy.stands.store (stands v is) r.step is.none is.job (all yes);
      })

      ended : (done : Unit {0}) → StartsReclaim v (Ok done) r.begun → RunsOut tells r.begun a → Reclaimed tells whole a
      ended done starts out =
          let end = emptying-steps tells whole r.begun a out.between (made (reclaim-began v r.begun done starts)) out.steps in
          record {
            rested = record {
              roomy = steps-roomy r.begun a out.between (started (Ok done) starts) out.steps;
              works = out.works;
              none = end.queue;
              job = out.job;
              reclaim = out.reclaim;
            };
            base = λ yes. subst (λ (o : Option ReclaimValue). IsEmptied o a.live.chains) out.reclaim (end.at yes);
          }

      by-answer : (answer : Result (Unit {0}) StartFault) → StartsReclaim v answer r.begun → Ends tells answer r.begun a → Reclaimed tells whole a
      by-answer (Ok done) starts out = ended done starts out
      by-answer (Err fault.NothingToDo) starts same =
          let rests = reclaim-rests v r.begun starts in
          subst (Reclaimed tells whole) (sym (same ∙ rests.same))
          (record { rested = is; base = λ yes. nothing-left v r.step is (all yes) rests.nothing })
      by-answer (Err fault.Failed) starts out = absurd out
      by-answer (Err fault.WrongProfile) starts out = absurd out
      by-answer (Err fault.JobBusy) starts out = absurd out
      by-answer (Err (fault.NotYet time)) starts out = absurd out
      by-answer (Err (fault.InUse time)) starts out = absurd out
      by-answer (Err fault.HeapFull) starts out = absurd out
      by-answer (Err fault.ArchiveFull) starts out = absurd out
      by-answer (Err fault.NoMemory) starts out = absurd out

  -- ---- an archive

  archived-low : (v : LogStoreValue) → Rested tells v → v.named.upto ≤ last v.commits
  archived-low v is =
      let m = is.roomy.machine in
      let s = stands v is in
      let upto = s.named.upto in
      let low = archived-range s.reading m.published m.floors s.stands in
      let same = last-is v.commits m is.roomy.stands.store.memory in
      omega (arith, upto, low, same)

  archived-so : (a b : LogStoreValue) → Rested tells a → ArchivesAll tells a b → Archived tells b
  archived-so a b is r = by-answer r.answer r.starts r.ends
    where
      started : (answer : Result (Unit {0}) StartFault) → StartsArchive a (last a.commits) answer r.begun → Roomy tells r.begun
      started answer starts = call-roomy tells a r.begun tell r.step is.roomy (OfArchive (last a.commits) answer starts)

      made : (done : Unit {0}) → StartsArchive a (last a.commits) (Ok done) r.begun → Archiving (last a.commits) r.begun
      made done starts =
          subst (Archiving (last a.commits)) (sym (archive-began a r.begun (last a.commits) done starts).new_is)
          (record { queue = is.none; last = refl; reclaim = is.reclaim; at = refl })

      ended : (done : Unit {0}) → StartsArchive a (last a.commits) (Ok done) r.begun → RunsOut tells r.begun b → Archived tells b
      ended done starts out =
          let end = archiving-steps tells (last a.commits) r.begun b out.between (made done starts) out.steps in
          record {
            rested = record {
              roomy = steps-roomy r.begun b out.between (started (Ok done) starts) out.steps;
              works = out.works;
              none = end.queue;
              job = out.job;
              reclaim = out.reclaim;
            };
            all = subst (λ (j : Option Job). IsAt (last a.commits) j b.named.upto) out.job end.at ∙ sym end.last;
          }

      by-answer : (answer : Result (Unit {0}) StartFault) → StartsArchive a (last a.commits) answer r.begun → Ends tells answer r.begun b → Archived tells b
      by-answer (Ok done) starts out = ended done starts out
      by-answer (Err fault.NothingToDo) starts same =
          let rests = archive-rests a r.begun (last a.commits) starts in
          let high = rests.low in
          let low = archived-low a is in
          subst (Archived tells) (sym (same ∙ rests.same)) (record { rested = is; all = omega (arith, high, low) })
      by-answer (Err fault.Failed) starts out = absurd out
      by-answer (Err fault.WrongProfile) starts out = absurd out
      by-answer (Err fault.JobBusy) starts out = absurd out
      by-answer (Err (fault.NotYet time)) starts out = absurd out
      by-answer (Err (fault.InUse time)) starts out = absurd out
      by-answer (Err fault.HeapFull) starts out = absurd out
      by-answer (Err fault.ArchiveFull) starts out = absurd out
      by-answer (Err fault.NoMemory) starts out = absurd out

  -- ---- a commit

  is-le : (a b : ℕ) → a ≤ b → nat_le a b ≡ true
  is-le a b le = grind (arith, nat_tests, le)

  shares : (v : LogStoreValue) → Rested tells v → HasShares v.room
  shares v is =
      let m = is.roomy.machine in
      let s = stands v is in
      let used = used-are v m.published m.queue m.floors s in
      let size = ((s.status).in_range).size.least in
      let leaves = leaves-room v.roots.extents (root_of v.roots) s.l s.reading m.published m.floors s.is_log s.stands in
      let live = live_uses v.roots.extents s.l in
      let long : length live ≡ v.roots.extents = sym (used_len live (s.l.next ∷ [])) ∙ leaves.room.many in
      let now = leaves.may.anchors in
      let len : v.room.anchors ≡ size_now s.reading =
      s.anchors.len
      ∙ ap (λ (queue : History Value). len_from (size_now s.reading) (values_now s.reading) (stored_members (values_now s.reading) queue))
      (queue-none tells v m is.roomy.stands.store is.none) in
      record {
        least = omega (arith, used, size);
        anchors = omega (arith, used, long, now, ap count_of len);
      }

  small-fits : (c d : LogStoreValue) (writes : List (KeyWrite Value)) → IsInStep c → Reclaimed tells true c → d ≡ with_commits c d.commits → IsSmall d writes
      → has_room d writes ≡ true
  small-fits c d writes step is same small =
      let room = ap (λ (v : LogStoreValue). v.room) same in
      let log = ap (λ (r : RoomValue). r.log) room in
      let promised = ap (λ (r : RoomValue). r.promised) room in
      let used = ap (λ (r : RoomValue). length r.used) room in
      let anchors = ap (λ (r : RoomValue). count_of r.anchors) room in
      let counted = step.counted in
      let base = is.base refl in
      let none = none-promised c step is.rested.none is.rested.job in
      let has = shares c is.rested in
      let least = has.least in
      let share = has.anchors in
      let one = small.one in
      let more = small.no_more in
      let first = is-le (d.room.log + d.room.promised + extents_over (ordered d.commits) writes) (length d.room.used / 2 - 4)
      (omega (arith, log, promised, used, counted, base, none, least, one)) in
      let second = is-le (count_of (anchors_behind d writes)) ((3 * length d.room.used) / 16) (omega (arith, used, anchors, share, more)) in
      λ i. first i && second i

  not-full : (v : LogStoreValue) (snapshot now : ℕ) (writes : List (KeyWrite Value)) → has_room v writes ≡ true → verdict v snapshot writes now ≢ HeapIsFull
  not-full v snapshot now [] room full = let no : Path Verdict Reads HeapIsFull = full in cc
  not-full v snapshot now (w ∷ ws) room full = by-conflict (first_conflict (ordered v.commits) snapshot (w ∷ ws)) full
    where
      by-clock : (b : Bool) → (time : ℕ) → Path Verdict (cond b (Queues time) ClockEnds) HeapIsFull → ⊥
      by-clock true time full = cc
      by-clock false time full = cc

      by-room : Path Verdict (cond (has_room v (w ∷ ws)) (verdict_on_clock (time_now v.commits now)) HeapIsFull) HeapIsFull → ⊥
      by-room full =
          by-clock (nat_lt (time_now v.commits now) (2 ^ 63)) (time_now v.commits now)
          (sym (ap (λ (b : Bool). cond b (verdict_on_clock (time_now v.commits now)) HeapIsFull) room) ∙ full)

      by-conflict : (o : Option Key) → verdict_on_conflict v (w ∷ ws) now o ≡ HeapIsFull → ⊥
      by-conflict (Some key) full = let no : Path Verdict (Conflicts key) HeapIsFull = full in cc
      by-conflict None full = by-room full

  small-goes : (c d new : LogStoreValue) (txn : TxnValue) (label now : ℕ) (answer : Result Submitted SubmitFault) → IsInStep c → Reclaimed tells true c
      → d ≡ with_commits c d.commits → IsSmall d txn.writes → Submits d txn label now answer new → answer ≢ Err refused.HeapFull
  small-goes c d new txn label now answer step is same small submits full =
      by-own (is_own d.commits txn) (subst (λ (a : Result Submitted SubmitFault). Submits d txn label now a new) full submits)
    where
      by-failed : (b : Bool)
          → MatchBool b ((Path (Result Submitted SubmitFault) (Err refused.HeapFull) (Err refused.Failed)) × (new ≡ spent d txn.number))
          (AnswersSubmit (spent d txn.number) txn label now (Err refused.HeapFull) new) → ⊥
      by-failed true so = let no : Path (Result Submitted SubmitFault) (Err refused.HeapFull) (Err refused.Failed) = so.0 in cc
      by-failed false so =
          not-full (spent d txn.number) txn.snapshot now txn.writes (small-fits c d txn.writes step is same small) so.0

      by-own : (b : Bool)
          → MatchBool b (SubmitsOwn (spent d txn.number) txn label now (Err refused.HeapFull) new)
          ((Path (Result Submitted SubmitFault) (Err refused.HeapFull) (Err refused.Stranger)) × (new ≡ d)) → ⊥
      by-own true so = by-failed d.commits.failed so
      by-own false so = let no : Path (Result Submitted SubmitFault) (Err refused.HeapFull) (Err refused.Stranger) = so.0 in cc

  -- ---- all of it

  pub never-stuck : (v : LogStoreValue) → Roomy tells v → IsIdle v → HasAllRoom tells v
  never-stuck v roomy idle = record {
    reclaim = λ new answer starts. roomy-reclaim tells v new answer tell roomy starts;
    archive = λ a new answer r step room starts.
        let is = first a r in
        last-has-room tells a is.roomy.machine tell is.roomy.stands.store step is.none room new answer starts;
    again = λ a b new answer r s starts.
        roomy-reclaim tells b new answer tell (archived-so a b (first a r) s).rested.roomy starts;
    commit = λ a b c d new txn label now answer r s t step same small submits.
        let archived = archived-so a b (first a r) s in
        small-goes c d new txn label now answer step (reclaimed-so true b c archived.rested (λ yes. archived.all) t) same small submits;
  }
    where
      rested : Rested tells v
      rested = record { roomy = roomy; works = idle.works; none = idle.none; job = idle.job; reclaim = idle.reclaim }

      no : Path Bool false true → v.named.upto ≡ last v.commits
      no is = absurd cc

      first : (a : LogStoreValue) → MayReclaim tells v a → Rested tells a
      first a (inl same) = subst (Rested tells) (sym same) rested
      first a (inr r) = (reclaimed-so false v a rested no r).rested
