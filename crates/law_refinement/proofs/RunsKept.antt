-- The runs of a store go on standing in the archive's bytes, whatever the store does.
use Rattle.std.proofs.Common.{◌≡◌, ℕ, zero, suc, ◌<◌, ◌≤◌, ◌^◌, List, [], ◌∷◌, ◌++◌, length, filter, Result, Ok, Err, refl, arith, ap, sym, subst, ◌∙◌, inl}
use Rattle.std.proofs.Common.{⊎_elim}
use Rattle.std.proofs.lemmas.Bool.Decides.{nat_tests}
use Rattle.std.proofs.lemmas.List.{append-nil}
use Rattle.disk.specs.Areas.{Areas}
use Rattle.disk.specs.Calls.{IsTorn, Tears, MadeInPart, Writes, Syncs}
use Rattle.disk.specs.Parts.{HoldsPart}
use Rattle.disk.specs.declared.area.Area.TheVariants.{Status, Heap, Archive}
use Rattle.disk.specs.declared.area.DeviceFault.{DeviceFault}
use Rattle.disk.proofs.Parts.{held_again}
use Rattle.history.specs.declared.time.Version.{Version}
use Rattle.history.specs.Versions.{ends_after, ends_by, versions}
use Rattle.history.specs.Histories.{History, last, versions_of, writes_of, HasRisingTimes}
use Rattle.history.specs.Machine.{Machine, IsMachine}
use Rattle.history.specs.Steps.{Event, Run}
use Rattle.history.proofs.Appending.{ends_by-append}
use Rattle.history.proofs.Filters.{filter-filter}
use Rattle.history.proofs.Histories.{rising-from_following, writes_of-append, writes_of-rising, last_after-append, last_after-range, may_follow-front}
use Rattle.history.proofs.Histories.{may_follow-behind}
use Rattle.history.proofs.Machines.{run-floors}
use Rattle.history.proofs.Orders.{is_lt}
use Rattle.history.proofs.Runs.{last-later, run-shows}
use Rattle.history.proofs.Values.{rising_earlier}
use Rattle.law_image.specs.Values.{Value, IsValue}
use Rattle.law_image.specs.Reading.{ArchiveRecord}
use Rattle.status.specs.SlotCalls.{SlotStage, IsSlotCall}
use Rattle.status.specs.SlotCalls as slots
use Rattle.archive.specs.declared.run.RunEntry.{RunEntry}
use Rattle.archive.specs.Answers.{versions_in}
use Rattle.archive.specs.Parts.{IsRight, EndBy}
use Rattle.archive.specs.Runs.{HoldsRun, HoldRuns, RunsEndBy, run_bytes, run_end}
use Rattle.law_refinement.specs.Homes.{AreArchived, KeepsUpTo}

-- ---- the archive's bytes

pub up_to-same : (end : ℕ) (bytes : List ℕ) → KeepsUpTo end bytes bytes
up_to-same end bytes = λ at part low held. held

pub up_to-is : (end : ℕ) (old new : List ℕ) → new ≡ old → KeepsUpTo end old new
up_to-is end old new is = λ at part low held. subst (HoldsPart at part) (sym is) held

-- a write past the place, in full or in part
pub up_to-torn : (end at n : ℕ) (old new : List ℕ) → end ≤ at → IsTorn at n old new → KeepsUpTo end old new
up_to-torn end at n old new past torn = λ from part low held.
    let inside = held.inside in
    let longer = torn.no_shorter in
    held_again from part old new (omega arith) (λ k after before. torn.elsewhere k (omega arith) (inl (omega arith))) held

pub up_to-in_part : (end at n : ℕ) (old new : Areas) → end ≤ at → MadeInPart Archive at n old new → KeepsUpTo end old.archive.bytes new.archive.bytes
up_to-in_part end at n old new past made =
    ⊎_elim
    (λ (same : new ≡ old). up_to-is end old.archive.bytes new.archive.bytes (ap (λ (a : Areas). a.archive.bytes) same))
    (λ (torn : Tears Archive at n old new). up_to-torn end at n old.archive.bytes new.archive.bytes past torn.torn)
    made

-- what is done to another area leaves this one as it is
pub heap-written : (at : ℕ) (bytes : List ℕ) (result : Result (Unit {0}) DeviceFault) (old new : Areas) → Writes Heap at bytes result old new
    → new.archive.bytes ≡ old.archive.bytes
heap-written at bytes result old new writes =
    ⊎_elim (λ (same : new
    ≡ old). ap (λ (a : Areas). a.archive.bytes) same) (λ (torn : Tears Heap at (length bytes) old new). ap (λ (a : Areas). a.archive.bytes) torn.areas)
    writes.in_part

pub status-written : (at : ℕ) (bytes : List ℕ) (result : Result (Unit {0}) DeviceFault) (old new : Areas) → Writes Status at bytes result old new
    → new.archive.bytes ≡ old.archive.bytes
status-written at bytes result old new writes =
    ⊎_elim (λ (same : new
    ≡ old). ap (λ (a : Areas). a.archive.bytes) same) (λ (torn : Tears Status at (length bytes) old new). ap (λ (a : Areas). a.archive.bytes) torn.areas)
    writes.in_part

-- a sync changes no byte
pub status-synced : (result : Result (Unit {0}) DeviceFault) (old new : Areas) → Syncs Status result old new → new.archive.bytes ≡ old.archive.bytes
status-synced (Ok done) old new syncs = ap (λ (a : Areas). a.archive.bytes) syncs.synced
status-synced (Err why) old new syncs = ap (λ (a : Areas). a.archive.bytes) syncs.same

pub heap-synced : (result : Result (Unit {0}) DeviceFault) (old new : Areas) → Syncs Heap result old new → new.archive.bytes ≡ old.archive.bytes
heap-synced (Ok done) old new syncs = ap (λ (a : Areas). a.archive.bytes) syncs.synced
heap-synced (Err why) old new syncs = ap (λ (a : Areas). a.archive.bytes) syncs.same

pub archive-synced : (result : Result (Unit {0}) DeviceFault) (old new : Areas) → Syncs Archive result old new → new.archive.bytes ≡ old.archive.bytes
archive-synced (Ok done) old new syncs = ap (λ (a : Areas). a.archive.bytes) syncs.synced
archive-synced (Err why) old new syncs = ap (λ (a : Areas). a.archive.bytes) syncs.same

pub slot-called : (number : ℕ) (body : List ℕ) (stage : SlotStage) (result : Result (Unit {0}) DeviceFault) (old new : Areas)
    → IsSlotCall number body stage result old new → new.archive.bytes ≡ old.archive.bytes
slot-called number body slots.Begun result old new call = status-written _ body result old new call
slot-called number body slots.BodyWritten result old new call = status-synced result old new call
slot-called number body slots.BodySynced result old new call = status-written _ _ result old new call
slot-called number body slots.GateWritten result old new call = status-synced result old new call
slot-called number body slots.Opened result old new call = absurd call

-- ---- runs in them

pub run-kept : (end : ℕ) (old new : List ℕ) (run : RunEntry) (records : List ArchiveRecord) → KeepsUpTo end old new → run_end run ≤ end
    → HoldsRun old run records → HoldsRun new run records
run-kept end old new run records keeps low holds =
    let long = holds.length_is in
    record {
      held = keeps run.slot.start (run_bytes records) (omega arith) holds.held;
      length_is = holds.length_is;
      records_are = holds.records_are;
      each = holds.each;
      rules = holds.rules;
    }

pub runs-held : (end : ℕ) (old new : List ℕ) (runs : List RunEntry) (lists : List (List ArchiveRecord)) → KeepsUpTo end old new → RunsEndBy end runs
    → HoldRuns old runs lists → HoldRuns new runs lists
runs-held end old new [] [] keeps ends held = tt
runs-held end old new [] (l ∷ ls) keeps ends held = absurd held
runs-held end old new (r ∷ rs) [] keeps ends held = absurd held
runs-held end old new (r ∷ rs) (l ∷ ls) keeps ends held =
    (run-kept end old new r l keeps (ends 0 r refl) held.0, runs-held end old new rs ls keeps (λ n run at. ends (suc n) run at) held.1)

-- one more
pub runs-more : (area : List ℕ) (runs : List RunEntry) (lists : List (List ArchiveRecord)) (run : RunEntry) (records : List ArchiveRecord)
    → HoldRuns area runs lists → HoldsRun area run records → HoldRuns area (runs ++ run ∷ []) (lists ++ records ∷ [])
runs-more area [] [] run records held one = (one, tt)
runs-more area [] (l ∷ ls) run records held one = absurd held
runs-more area (r ∷ rs) [] run records held one = absurd held
runs-more area (r ∷ rs) (l ∷ ls) run records held one = (held.0, runs-more area rs ls run records held.1 one)

pub ends-later : (end later : ℕ) (runs : List RunEntry) → end ≤ later → RunsEndBy end runs → RunsEndBy later runs
ends-later end later runs le ends = λ n run at. let low = ends n run at in omega arith

pub ends-more : (end : ℕ) (runs : List RunEntry) (run : RunEntry) → RunsEndBy end runs → run_end run ≤ end → RunsEndBy end (runs ++ run ∷ [])
ends-more end [] run ends low zero other at = let is : run ≡ other = cc in subst (λ (r : RunEntry). run_end r ≤ end) is low
ends-more end [] run ends low (suc n) other at = absurd cc
ends-more end (r ∷ rs) run ends low zero other at = ends 0 other at
ends-more end (r ∷ rs) run ends low (suc n) other at = ends-more end rs run (λ k o there. ends (suc k) o there) low n other at

-- what the reader keeps is right still
pub right-kept : (end : ℕ) (old new : List ℕ) (kept : List (ℕ × List ℕ)) → KeepsUpTo end old new → EndBy end kept → IsRight kept old → IsRight kept new
right-kept end old new kept keeps near right = record {
  each = λ from bytes there.
      let part = right.each from bytes there in
      let now = keeps from bytes (near.each from bytes there) (record { inside = part.within; is = sym part.same }) in
      record { within = now.inside; same = sym now.is };
}

-- ---- what they have of the history

after-higher : (low high : ℕ) (vs : List (Version Value)) → low ≤ high → filter (ends_after high) (filter (ends_after low) vs) ≡ filter (ends_after high) vs
after-higher low high vs le =
    filter-filter (ends_after high) (ends_after low) vs (λ v is. let past : high < v.to = grind (arith, nat_tests) in is_lt (omega arith))

-- it is what they have of a later one with higher floors
pub archived-later : (h more : History Value) (floors raised : ℕ → ℕ) (mark : ℕ) (lists : List (List ArchiveRecord)) → HasRisingTimes 0 h
    → HasRisingTimes (last h) more → ((relation : ℕ) → floors relation ≤ raised relation) → mark ≤ last h
    → AreArchived h floors mark lists → AreArchived (h ++ more) raised mark lists
archived-later h more floors raised mark lists up later higher by_last are = λ key.
    let low = floors key.relation in
    let high = raised key.relation in
    let vs = versions_in key lists in
    let range : last h < 2 ^ 63 = last_after-range 0 h (omega arith) up in
    let same : filter (ends_by mark) (versions_of (h ++ more) key) ≡ filter (ends_by mark) (versions_of h key) =
    ap (λ (l : List _). filter (ends_by mark) (versions l)) (writes_of-append h more key)
    ∙ ends_by-append 0 mark (writes_of h key) (writes_of more key) (omega arith) (writes_of-rising 0 h key up)
    (rising_earlier mark (last h) (writes_of more key) by_last (writes_of-rising (last h) more key later)) in
    sym (after-higher low high vs (higher key.relation))
    ∙ ap (filter (ends_after high)) (are key)
    ∙ after-higher low high (filter (ends_by mark) (versions_of h key)) (higher key.relation)
    ∙ ap (filter (ends_after high)) (sym same)

-- ---- a machine that has run

-- what is published of it, and its floors
pub record IsLater (old new : Machine Value) : Type 0 where
  pub more : History Value
  pub published : new.published ≡ old.published ++ more
  pub rising : HasRisingTimes (last old.published) more
  pub floors : (relation : ℕ) → old.floors relation ≤ new.floors relation

pub machine-rises : (m : Machine Value) → IsMachine IsValue m → HasRisingTimes 0 m.published
machine-rises m machine = rising-from_following IsValue [] m.published (may_follow-front IsValue [] m.published m.queue machine.history)

pub run-later : (old new : Machine Value) (events : List (Event Value)) → IsMachine IsValue old → IsMachine IsValue new → Run IsValue old events new
    → IsLater old new
run-later old new events was machine run =
    let shows = run-shows IsValue old new events run in
    let front = may_follow-front IsValue [] new.published new.queue machine.history in
    let behind = may_follow-behind IsValue [] old.published shows.0 (subst (λ (h : History Value). MayFollow h) shows.1 front) in
    record {
      more = shows.0;
      published = shows.1;
      rising = rising-from_following IsValue old.published shows.0 behind;
      floors = λ relation. run-floors IsValue old new events relation was run;
    }
  where
    MayFollow : History Value → Type 0
    MayFollow h = Rattle.history.specs.Histories.MayAllFollow IsValue [] h

pub same-later : (m : Machine Value) → IsLater m m
same-later m = record { more = []; published = sym (append-nil m.published); rising = tt; floors = λ relation. omega arith }

pub last-rises : (old new : Machine Value) → IsLater old new → last old.published ≤ last new.published
last-rises old new later =
    subst (λ (h : History Value). last old.published ≤ last h) (sym later.published)
    (subst (λ (n : ℕ). last old.published ≤ n) (sym (last_after-append 0 old.published later.more)) (last-later (last old.published) later.more later.rising))
