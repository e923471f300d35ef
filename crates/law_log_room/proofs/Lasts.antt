-- An archive of all that is published has an extent for its entry, where no commit waits.
use Rattle.std.proofs.Common.{◌≡◌, ◌≢◌, ℕ, zero, suc, ◌+◌, ◌/◌, ◌<◌, ◌≤◌, ◌&&◌, nat_le, nat_lt, Bool, true, false, cond, List, [], ◌∷◌}
use Rattle.std.proofs.Common.{◌++◌, length, map, Option, None, Some, Result, Err, refl, arith, ap, sym, subst, ◌∙◌, append-nil}
use Rattle.std.specs.Prelude.{if◌then◌else◌, IsTrue, MatchBool, MatchOption}
use Rattle.std.proofs.lemmas.Bool.Decides.{nat_tests}
use Rattle.history.specs.Histories as histories
use Rattle.history.specs.Histories.{History}
use Rattle.history.specs.Machine.{Machine}
use Rattle.history.proofs.Orders.{is_lt, not_lt}
use Rattle.law_image.specs.Values.{Value}
use Rattle.law_image.specs.Log.{archive_mark, last_time, last_time_after, told_time}
use Rattle.law_image.specs.StandsFor.{head_of}
use Rattle.chains.specs.KeyWrites.{KeyWrites}
use Rattle.commits.specs.Values.{WaitingValue, last, last_assigned}
use Rattle.law_commits.specs.Standing.{AllWait}
use Rattle.law_commits.proofs.Names.{assigned-is, last-is}
use Rattle.log_room.specs.Bases.{has_base_room}
use Rattle.log_room.specs.Contents.{extents_of}
use Rattle.log_room.specs.Rooms.{has_entry_room}
use Rattle.log_store.specs.Archives.{BeginsRun, StartsArchive, archive_refusal, has_archive_room}
use Rattle.log_store.specs.Jobs.{base_parts}
use Rattle.log_store.specs.Values.{LogStoreValue, IsInStep, HasTurn, is_busy, promised_to}
use Rattle.log_store.specs.declared.job.Job.{Job}
use Rattle.log_store.specs.declared.job.StartFault.{StartFault}
use Rattle.log_store.specs.declared.job.StartFault.TheVariants as fault
use Rattle.log_writer.specs.Writer.{WriterState}
use Rattle.law_log_store.specs.Standing as standing
use Rattle.law_log_store.specs.Standing.{IsAtRest, StandsOnHeap, StopsOnHeap}
use Rattle.law_log_store.proofs.Used.{used-are}
use Rattle.law_log_steps.specs.Store.{IsStoreOf}
use Rattle.law_log_steps.proofs.FloorStarts.{none-runs}
use Rattle.law_log_room.proofs.Shares.{answer-full, full-in}

-- ---- where no commit waits

times-after : (t : ℕ) (h : History Value) → last_time_after t (map head_of h) ≡ histories.last_after t h
times-after t [] = refl
times-after t (c ∷ cs) = times-after c.time cs

none-waits : (mark : ℕ) (before : List KeyWrites) (ws : List WaitingValue) (queue : History Value) → ws ≡ [] → AllWait mark before ws queue → queue ≡ []
none-waits mark before [] [] none all = refl
none-waits mark before [] (c ∷ cs) none all = absurd all
none-waits mark before (w ∷ ws) queue none all =
    absurd (let no : suc (length ws) ≡ zero = ap (λ (l : List WaitingValue). length l) none in omega (arith, no))

empty : {X : Type 0} (xs : List X) → length xs ≡ 0 → xs ≡ []
empty [] none = refl
empty (x ∷ xs) none = absurd (omega (arith, none))

-- nothing is promised to commits
pub none-promised : (v : LogStoreValue) → IsInStep v → v.commits.queue ≡ [] → v.job ≡ None → v.room.promised ≡ 0
none-promised v step none free =
    let queue = ap (λ (ws : List WaitingValue). length ws) none in
    let many = step.contents in
    let contents : v.contents ≡ [] = empty v.contents (omega (arith, queue, many)) in
    let owed : extents_of v.contents + promised_to v.job ≡ 0 = λ i. extents_of (contents i) + promised_to (free i) in
    let promised = step.promised in
    omega (arith, owed, promised)

pub queue-none : (tells : Bool) (v : LogStoreValue) (m : Machine Value) → IsStoreOf tells v m → v.commits.queue ≡ [] → m.queue ≡ []
queue-none tells v m is none = none-waits v.commits.reclaimed v.commits.versions v.commits.queue m.queue none is.memory.queue

-- the last time that was given to a commit is that of the last one
pub assigned-last : (tells : Bool) (v : LogStoreValue) (m : Machine Value) → IsStoreOf tells v m → v.commits.queue ≡ []
    → last_assigned v.commits ≡ last v.commits
assigned-last tells v m is none =
    assigned-is v.commits m is.memory is.machine
    ∙ ap (λ (queue : History Value). histories.last (m.published ++ queue)) (queue-none tells v m is none)
    ∙ ap (λ (h : History Value). histories.last h) (append-nil m.published)
    ∙ sym (last-is v.commits m is.memory)

module _ (tells : Bool) (v : LogStoreValue) (m : Machine Value) (is : IsStoreOf tells v m) (s : StandsOnHeap v m.published m.queue m.floors)
    (step : IsInStep v) (none : v.commits.queue ≡ []) (free : v.job ≡ None) where
  -- no chain is in the writing
  pub at-rest : IsAtRest v s.l
  at-rest = by-turn v.turn s.turn step.turn
    where
      by-turn : (t : Option WriterState) → standing.HasTurn v m.queue s.l s.reading s.made m.published t → HasTurn v.commits.group t → IsAtRest v s.l
      by-turn None has turn = subst (λ (j : Option Job). standing.HasJob v s.l s.reading s.made j) free has
      by-turn (Some w) has turn =
          let some = turn.0 in
          let queue = ap (λ (ws : List WaitingValue). length ws) none in
          let many = step.contents in
          absurd (omega (arith, some, queue, many))

  -- the last commit of the log
  pub last-told : last_time s.reading.log ≡ last v.commits
  last-told =
      ap (last_time_after 0) s.stands.opens.commits ∙ times-after 0 m.published ∙ sym (last-is v.commits m is.memory)

  -- where something is left to be archived, the log's half has an extent more
  pub one-left : v.named.upto < last v.commits → v.room.log + 1 ≤ length v.room.used / 2
  one-left later =
      let log = (at-rest).room.log in
      let upto = s.named.upto in
      let said = last-told in
      let before : archive_mark s.reading.log < told_time s.reading.log = omega (arith, later, upto, said) in
      let left = ap {B = ℕ} (λ (b : Bool). if b then 1 else 0) (is_lt before) in
      let share = (s.is_log).shares.log in
      let used = used-are v m.published m.queue m.floors s in
      omega (arith, log, left, share, used)

-- ---- it is not refused for want of room

is-le : (a b : ℕ) → a ≤ b → nat_le a b ≡ true
is-le a b le = grind (arith, nat_tests, le)

module _ (tells : Bool) (v : LogStoreValue) (m : Machine Value) (tell : IsTrue tells) (is : IsStoreOf tells v m) (step : IsInStep v)
    (none : v.commits.queue ≡ []) (room : has_base_room v.room (base_parts v) ≡ true) where
  stands : v.commits.failed ≡ false → StandsOnHeap v m.published m.queue m.floors
  stands works =
      subst (λ (failed : Bool). MatchBool failed (StopsOnHeap v m.published m.queue m.floors) (StandsOnHeap v m.published m.queue m.floors)) works
      (is.disk tell)

  has-room : v.commits.failed ≡ false → v.job ≡ None → v.named.upto < last v.commits → has_archive_room v (last v.commits) ≡ true
  has-room works free later =
      let assigned = assigned-last tells v m is none in
      let low : last_assigned v.commits ≤ last v.commits = omega (arith, assigned) in
      let one = one-left tells v m is (stands works) step none free later in
      let promised = none-promised v step none free in
      let fits = is-le (v.room.log + v.room.promised + 1) (length v.room.used / 2) (omega (arith, one, promised)) in
      λ i. cond (not_lt low i) (has_entry_room v.room) (fits i) && room i

  last-full : full-in (archive_refusal v (last v.commits)) ≡ false
  last-full = by-tests v.commits.failed refl (is_busy v) refl (nat_le (last v.commits) v.named.upto) refl (nat_lt (last v.commits) (last v.commits))
    where
      by-tests : (a : Bool) → v.commits.failed ≡ a → (b : Bool) → is_busy v ≡ b → (c : Bool) → nat_le (last v.commits) v.named.upto ≡ c → (d : Bool)
          → full-in (cond a (Some fault.Failed)
          (cond b (Some fault.JobBusy)
          (cond c (Some fault.NothingToDo)
          (cond d (Some (fault.NotYet (last v.commits))) (cond (has_archive_room v (last v.commits)) None (Some fault.HeapFull)))))) ≡ false
      by-tests true a b e c f d = refl
      by-tests false a true e c f d = refl
      by-tests false a false e true f d = refl
      by-tests false a false e false f true = refl
      by-tests false a false e false f false =
          let later : v.named.upto < last v.commits = grind (arith, nat_tests, f) in
          ap (λ (b : Bool). full-in (cond b None (Some fault.HeapFull))) (has-room a (none-runs v e).0 later)

  pub last-has-room : (new : LogStoreValue) (answer : Result (Unit {0}) StartFault) → StartsArchive v (last v.commits) answer new
      → answer ≢ Err fault.HeapFull
  last-has-room new answer starts full =
      by-refusal (archive_refusal v (last v.commits)) refl (subst (λ (a : Result (Unit {0}) StartFault). StartsArchive v (last v.commits) a new) full starts)
    where
      by-refusal : (o : Option StartFault) → archive_refusal v (last v.commits) ≡ o
          → MatchOption o (BeginsRun v (last v.commits) (Err fault.HeapFull) new)
          (λ why. (Path (Result (Unit {0}) StartFault) (Err fault.HeapFull) (Err why)) × (new ≡ v)) → ⊥
      by-refusal None started so = so.0
      by-refusal (Some why) some so =
          let no : true ≡ false = ap answer-full so.0 ∙ sym (ap full-in some) ∙ last-full in
          cc
