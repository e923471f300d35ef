-- A job that starts leaves room for a base, since its entry has some, and so does a new store.
use Rattle.std.proofs.Common.{◌≡◌, ℕ, zero, suc, ◌+◌, ◌*◌, ◌/◌, ◌<◌, ◌≤◌, ◌==◌, ◌&&◌, ◌||◌, nat_le, nat_lt, Bool, true, false, cond, List, [], ◌∷◌, ◌++◌}
use Rattle.std.proofs.Common.{length, map, take, drop, Option, None, Some, Result, Ok, Err, refl, arith, ap, sym, subst, ◌∙◌, length-append, append_assoc}
use Rattle.std.specs.Prelude.{option_to_list, replicate, IsTrue, MatchBool, MatchOption}
use Rattle.std.specs.List.{AllByRecursion}
use Rattle.std.proofs.lemmas.Bool.Decides.{nat_tests}
use Rattle.std.proofs.lemmas.List.{append-nil, length-replicate}
use Rattle.std.proofs.lemmas.List.Concat.{flat_map-cons}
use Rattle.history.specs.Machine.{Machine}
use Rattle.history.proofs.Filters.{AllByRecursion-append}
use Rattle.law_image.specs.Values.{Value}
use Rattle.disk.specs.Calls.{DiskState}
use Rattle.floors.specs.Floors.{AreRising, behind, floor_at, floor_or, with_own}
use Rattle.floors.specs.declared.floors.OwnFloor.{OwnFloor}
use Rattle.floors.proofs.Owns.{rising-with}
use Rattle.log_entries.specs.declared.entry.Archive.{Archive}
use Rattle.log_entries.specs.declared.entry.RelationFloor.{RelationFloor}
use Rattle.log_entries.specs.declared.entry.Roll.{Roll}
use Rattle.log_extents.specs.Chains.{count_of}
use Rattle.log_base.specs.Bases.{mark_of, own_behind, own_from, raised_by, relation_floor, rolls_of, runs_from}
use Rattle.log_recovery.specs.Live.{LiveChainValue}
use Rattle.log_recovery.specs.declared.live.LivePart.{LivePart}
use Rattle.log_recovery.specs.declared.live.LivePart.TheVariants.{Commits}
use Rattle.log_recovery.specs.declared.live.LivePart.TheVariants as parts
use Rattle.log_roots.specs.Roots.{IsHeapSize}
use Rattle.log_room.specs.Bases.{base_len, has_base_room}
use Rattle.log_room.specs.Bases as bases
use Rattle.log_room.specs.Rooms.{RoomValue, has_entry_room, has_last_room}
use Rattle.log_room.proofs.Taken.{used_len}
use Rattle.log_space.specs.Uses.{with_use}
use Rattle.commits.specs.Calls.{oldest}
use Rattle.commits.specs.Values.{last, last_assigned}
use Rattle.archive.specs.Pieces.{InWriting}
use Rattle.wire.specs.declared.slot.Run.{Run}
use Rattle.log_store.specs.Archives.{BeginsArchive, BeginsRun, StartsArchive, archive_as, archive_refusal, has_archive_room, run_to, with_archive}
use Rattle.log_store.specs.Formats.{Creates}
use Rattle.log_store.specs.Jobs.{BeginsFloor, StartsFloor, base_parts, entry_of, floor_refusal, floor_refusal_of, has_floor_room, with_floor}
use Rattle.log_store.specs.Jobs as jobs
use Rattle.log_store.specs.Reclaims.{BeginsReclaim, IsReclaimBegun, StartsReclaim, archives_at, archives_in, base_with, front, front_count}
use Rattle.log_store.specs.Reclaims.{reclaim_refusal, roll_of}
use Rattle.log_store.specs.Values.{LogStoreValue, is_busy}
use Rattle.log_store.specs.declared.job.StartFault.{StartFault}
use Rattle.log_store.specs.declared.job.StartFault.TheVariants as fault
use Rattle.law_log_store.specs.Standing.{StandsOnHeap, StopsOnHeap}
use Rattle.law_log_store.proofs.Jobs.{is-upto}
use Rattle.law_log_steps.specs.Store.{IsStoreOf}
use Rattle.law_log_steps.proofs.ArchiveStarts.{may-archive}
use Rattle.law_log_steps.proofs.FloorStarts.{may-begin}
use Rattle.law_log_steps.proofs.Pumping.{mark-more}
use Rattle.law_log_steps.proofs.ReclaimStarts.{may-reclaim}
use Rattle.law_log_room.specs.Bases.{LeavesBaseRoom, base_most, more_rolls}
use Rattle.law_log_room.proofs.Alike.{archives-more, own-more, rolls-more}
use Rattle.law_log_room.proofs.Leaving.{IsLeft, left-so, same-left}
use Rattle.law_log_room.proofs.Named.{archives-are, floors-few, names-few, own-rising, rolls-few, runs-split, told-same}
use Rattle.law_log_room.proofs.Shares.{rolls-added}

more-most : (b : Bool) → more_rolls b ≤ 2
more-most true = omega arith
more-most false = omega arith

second : (a b : Bool) → (a && b) ≡ true → b ≡ true
second true b both = both
second false b both = absurd (let no : false ≡ true = both in cc)

-- ---- floors that are raised

-- one whose relation has a floor already takes its place
none-above : (low : ℕ) (os : List OwnFloor) → AllByRecursion (λ (o : OwnFloor). low < o.relation) os → floor_or 0 os low ≡ 0
none-above low [] above = refl
none-above low (o ∷ os) above =
    let less = above.0 in
    let apart : (o.relation == low) ≡ false = grind (arith, nat_tests, less) in
    ap (λ (b : Bool). cond b o.floor (floor_or 0 os low)) apart ∙ none-above low os above.1

all-above : (low high : ℕ) (os : List OwnFloor) → low < high → AllByRecursion (λ (o : OwnFloor). high < o.relation) os
    → AllByRecursion (λ (o : OwnFloor). low < o.relation) os
all-above low high [] less all = tt
all-above low high (o ∷ os) less all = (let first = all.0 in omega (arith, less, first), all-above low high os less all.1)

with-same : (own : List OwnFloor) (relation floor : ℕ) → AreRising own → 0 < floor_or 0 own relation → length (with_own own relation floor) ≡ length own
with-same [] relation floor up some = absurd (omega (arith, some))
with-same (o ∷ os) relation floor up some = by-order (nat_lt o.relation relation) refl (with-same os relation floor up.1)
  where
    by-same : nat_lt o.relation relation ≡ false → (b : Bool) → (o.relation == relation) ≡ b → suc (length (cond b os (o ∷ os))) ≡ suc (length os)
    by-same late true e = refl
    by-same late false e =
        let above : relation < o.relation = grind (arith, nat_tests, late, e) in
        let rest = none-above relation os (all-above relation o.relation os above up.0) in
        let none : floor_or 0 (o ∷ os) relation ≡ 0 = ap (λ (b : Bool). cond b o.floor (floor_or 0 os relation)) e ∙ rest in
        absurd (omega (arith, some, none))

    by-order : (b : Bool) → nat_lt o.relation relation ≡ b
        → (0 < floor_or 0 os relation → length (with_own os relation floor) ≡ length os)
        → length (cond b (o ∷ with_own os relation floor) (record { relation = relation; floor = floor } ∷ behind (o ∷ os) relation)) ≡ suc (length os)
    by-order true e rest =
        let apart : (o.relation == relation) ≡ false = grind (arith, nat_tests, e) in
        let there : floor_or 0 (o ∷ os) relation ≡ floor_or 0 os relation = ap (λ (b : Bool). cond b o.floor (floor_or 0 os relation)) apart in
        ap suc (rest (omega (arith, some, there)))
    by-order false e rest = by-same e (o.relation == relation) refl

with-more : (own : List OwnFloor) (relation floor : ℕ) → length (with_own own relation floor) ≤ suc (length own)
with-more [] relation floor = omega arith
with-more (o ∷ os) relation floor = by-order (nat_lt o.relation relation) (with-more os relation floor)
  where
    by-same : (b : Bool) → suc (length (cond b os (o ∷ os))) ≤ suc (suc (length os))
    by-same true = omega arith
    by-same false = omega arith

    by-order : (b : Bool) → length (with_own os relation floor) ≤ suc (length os)
        → length (cond b (o ∷ with_own os relation floor) (record { relation = relation; floor = floor } ∷ behind (o ∷ os) relation)) ≤ suc (suc (length os))
    by-order true rest = omega (arith, rest)
    by-order false rest = by-same (o.relation == relation)

-- ---- floors that a base has of the front

raised-rising : (own : List OwnFloor) (more : List RelationFloor) → AreRising own → AreRising (raised_by own more)
raised-rising own [] up = up
raised-rising own (f ∷ more) up = raised-rising (with_own own f.relation f.floor) more (rising-with own f.relation f.floor up)

own-rises : (own : List OwnFloor) (part : LivePart) → AreRising own → AreRising (own_behind own part)
own-rises own (Commits last) up = up
own-rises own (parts.Archived archive) up = up
own-rises own (parts.Floor floor) up = rising-with own floor.relation floor.floor up
own-rises own (parts.Base base) up = raised-rising own base.floors up

from-rises : (own : List OwnFloor) (cs : List LiveChainValue) → AreRising own → AreRising (own_from own cs)
from-rises own [] up = up
from-rises own (c ∷ cs) up = from-rises (own_behind own c.part) cs (own-rises own c.part up)

with-last : (own : List OwnFloor) (relation floor : ℕ) → AllByRecursion (λ (o : OwnFloor). o.relation < relation) own
    → with_own own relation floor ≡ own ++ record { relation = relation; floor = floor } ∷ []
with-last [] relation floor below = refl
with-last (o ∷ os) relation floor below =
    let less = below.0 in
    let first : nat_lt o.relation relation ≡ true = grind (arith, nat_tests, less) in
    ap (λ (b : Bool). cond b (o ∷ with_own os relation floor) (record { relation = relation; floor = floor } ∷ behind (o ∷ os) relation)) first
    ∙ ap (λ (xs : List OwnFloor). o ∷ xs) (with-last os relation floor below.1)

-- all of these are below each of the others
abbrev AreBelowAll : List OwnFloor → List OwnFloor → Type 0
AreBelowAll own xs = AllByRecursion (λ (x : OwnFloor). AllByRecursion (λ (o : OwnFloor). o.relation < x.relation) own) xs

below-more : (own : List OwnFloor) (x : OwnFloor) (xs : List OwnFloor) → AreBelowAll own xs → AllByRecursion (λ (y : OwnFloor). x.relation < y.relation) xs
    → AreBelowAll (own ++ x ∷ []) xs
below-more own x [] below above = tt
below-more own x (y ∷ ys) below above = (
  AllByRecursion-append (λ (o : OwnFloor). o.relation < y.relation) own (x ∷ []) below.0 (above.0, tt),
  below-more own x ys below.1 above.1,
)

raised-on : (own xs : List OwnFloor) → AreBelowAll own xs → AreRising xs → raised_by own (map relation_floor xs) ≡ own ++ xs
raised-on own [] below up = sym (append-nil own)
raised-on own (x ∷ xs) below up =
    ap (λ (os : List OwnFloor). raised_by os (map relation_floor xs)) (with-last own x.relation x.floor below.0)
    ∙ raised-on (own ++ x ∷ []) xs (below-more own x xs below.1 up.0) up.1
    ∙ append_assoc own (x ∷ []) xs

none-below : (xs : List OwnFloor) → AreBelowAll [] xs
none-below [] = tt
none-below (x ∷ xs) = (tt, none-below xs)

own-split : (n : ℕ) (own : List OwnFloor) (cs : List LiveChainValue) → own_from own cs ≡ own_from (own_from own (take n cs)) (drop n cs)
own-split zero own cs = refl
own-split (suc n) own [] = refl
own-split (suc n) own (c ∷ cs) = own-split n (own_behind own c.part) cs

-- a base in the place of the front tells the same floors
pub own-based : (n : ℕ) (cs : List LiveChainValue)
    → own_from (raised_by [] (map relation_floor (own_from [] (take n cs)))) (drop n cs) ≡ own_from [] cs
own-based n cs =
    ap (λ (os : List OwnFloor). own_from os (drop n cs))
    (raised-on [] (own_from [] (take n cs)) (none-below (own_from [] (take n cs))) (from-rises [] (take n cs) tt))
    ∙ sym (own-split n [] cs)

-- ---- a new store, and one with room

pub created-left : (tells : Bool) (old : DiskState) (mark extents : ℕ) (v : LogStoreValue) → IsHeapSize extents → Creates tells old mark extents v
    → LeavesBaseRoom v
created-left tells old mark extents v size is =
    let len : length (with_use (replicate extents false) 1 true) ≡ extents =
    used_len (replicate extents false) (1 ∷ []) ∙ length-replicate extents false in
    let least = size.least in
    let here : count_of (base_most [] 0) ≤ length (with_use (replicate extents false) 1 true) / 16 = omega (arith, len, least) in
    subst LeavesBaseRoom (sym is.new_is) (here, here)

module _ (tells : Bool) (v : LogStoreValue) (m : Machine Value) (is : IsStoreOf tells v m) (s : StandsOnHeap v m.published m.queue m.floors)
    (free : v.job ≡ None) where
  abbrev cs : List LiveChainValue
  cs = v.live.chains

  rolls-here : length (rolls_of cs) ≤ length v.named.rolls
  rolls-here = rolls-few v m.published m.queue m.floors s free is.memory.floors

  archives-here : length (archives_in cs) ≡ length v.named.archives
  archives-here = ap (λ (xs : List Archive). length xs) (archives-are v m.published m.queue m.floors s free is.memory.floors)

  floors-here : length (own_from [] cs) ≤ length v.commits.floors.own
  floors-here = floors-few v m.published m.queue m.floors s free is.memory.floors

  pub room-left : v.reclaim ≡ None → IsTrue (has_base_room v.room (base_parts v)) → LeavesBaseRoom v
  room-left none room =
      let fits = is-upto (bases.base_extents (base_parts v)) (length v.room.used / 16) room in
      let more = more-most (nat_lt (mark_of cs) v.named.upto) in
      let rolls = rolls-here in
      let archives = archives-here in
      let floors = floors-here in
      let here : count_of (base_most cs v.named.upto) ≤ length v.room.used / 16 = omega (arith, fits, more, rolls, archives, floors) in
      left-so v None None none free here here

  -- ---- a floor

  abbrev floor_chain : ℕ → ℕ → LiveChainValue
  floor_chain relation time = record { numbers = []; part = parts.Floor (record { floor = time; relation = relation }) }

  -- what a base names with it
  floor-len : (relation time : ℕ)
      → base_most (cs ++ floor_chain relation time ∷ []) v.named.upto + 11 * length (own_from [] cs)
      ≡ base_most cs v.named.upto + 11 * length (with_own (own_from [] cs) relation time)
  floor-len relation time =
      let c = floor_chain relation time in
      let rolls = ap (λ (xs : List Roll). length xs) (rolls-more cs c refl) in
      let more = ap (λ (mark : ℕ). more_rolls (nat_lt mark v.named.upto)) (mark-more cs c refl) in
      let archives = archives-more cs c in
      let own = ap (λ (xs : List OwnFloor). length xs) (own-more [] cs c) in
      omega (arith, rolls, more, archives, own)

  pub floor-left : (none : v.reclaim ≡ None) (relation time : ℕ) → has_floor_room v relation ≡ true → LeavesBaseRoom v
      → LeavesBaseRoom (with_floor v relation time)
  floor-left none relation time room left =
      left-so (with_floor v relation time) None (with_floor v relation time).job none refl left.0
      (by-floor (nat_lt 0 (floor_at v.commits.floors relation)) refl (bases.has_floor_room v.room (base_parts v)) refl
      (second (has_entry_room v.room) (nat_lt 0 (floor_at v.commits.floors relation) || bases.has_floor_room v.room (base_parts v)) room))
    where
      by-floor : (a : Bool) → nat_lt 0 (floor_at v.commits.floors relation) ≡ a → (b : Bool) → bases.has_floor_room v.room (base_parts v) ≡ b
          → (a || b) ≡ true → IsLeft (with_floor v relation time) None (with_floor v relation time).job
      by-floor true old b e either =
          let some : 0 < floor_at v.commits.floors relation = grind (arith, nat_tests, old) in
          let told = told-same v m.published m.queue m.floors s free is.memory.floors relation in
          let same = with-same (own_from [] cs) relation time (own-rising v m.published m.queue m.floors s free is.memory.floors)
          (omega (arith, some, told)) in
          let now = left.0 in
          let len = floor-len relation time in
          let here : count_of (base_most (cs ++ floor_chain relation time ∷ []) v.named.upto) ≤ length v.room.used / 16 = omega (arith, same, now, len) in
          here
      by-floor false old true e either =
          let fits = is-upto (2 * bases.floored_extents (base_parts v)) (length v.room.used / 16) e in
          let one = with-more (own_from [] cs) relation time in
          let len = floor-len relation time in
          let more = more-most (nat_lt (mark_of cs) v.named.upto) in
          let rolls = rolls-here in
          let archives = archives-here in
          let floors = floors-here in
          let here : count_of (base_most (cs ++ floor_chain relation time ∷ []) v.named.upto) ≤ length v.room.used / 16 =
          omega (arith, fits, one, len, more, rolls, archives, floors) in
          here
      by-floor false old false e either = absurd (let no : false ≡ true = either in cc)

  -- ---- an archive

  pub archive-left : (none : v.reclaim ≡ None) → LeavesBaseRoom v → (upto : ℕ) (run : Run) (writer : InWriting) (new : LogStoreValue)
      → has_archive_room v upto ≡ true → BeginsArchive v run writer new → LeavesBaseRoom new
  archive-left none left upto run writer new room b =
      let target = with_archive v run writer b.entry in
      let c : LiveChainValue = record { numbers = []; part = parts.Archived (archive_as run) } in
      let fits = is-upto (bases.base_extents (base_parts v)) (length v.room.used / 16)
      (second (cond (nat_lt upto (last_assigned v.commits)) (has_entry_room v.room) (has_last_room v.room)) (has_base_room v.room (base_parts v)) room) in
      let rolls-c = ap (λ (xs : List Roll). length xs) (rolls-more cs c refl) in
      let archives-c = archives-more cs c in
      let own-c = ap (λ (xs : List OwnFloor). length xs) (own-more [] cs c) in
      let more = more-most (nat_lt (mark_of (cs ++ c ∷ [])) run.upto) in
      let rolls = rolls-here in
      let archives = archives-here in
      let floors = floors-here in
      let here : count_of (base_most (cs ++ c ∷ []) run.upto) ≤ length v.room.used / 16 =
      omega (arith, fits, rolls-c, archives-c, own-c, more, rolls, archives, floors) in
      subst LeavesBaseRoom (sym b.new_is) (left-so target None target.job none refl left.0 here)

-- ---- a reclaim

pub reclaim-begun : (v new : LogStoreValue) → v.job ≡ None → v.reclaim ≡ None → LeavesBaseRoom v → IsReclaimBegun v new → LeavesBaseRoom new
reclaim-begun v new free none left b =
    let cs = v.live.chains in
    let n = front_count v in
    let base = base_with v b.names b.made in
    let c : LiveChainValue = record { numbers = b.numbers; part = parts.Base base } in
    let now = left.0 in
    let few-rolls = (names-few cs n).rolls in
    let rolls = length-append (rolls_of (front v)) (option_to_list (roll_of v.named.end b.names)) in
    let added = rolls-added v b.names b.names_are in
    let level : nat_lt v.named.upto v.named.upto ≡ false = grind (arith, nat_tests) in
    let more = ap more_rolls level in
    let archives = ap (λ (xs : List Archive). length xs) (flat_map-cons (λ (d : LiveChainValue). archives_at d.part) c (drop n cs))
    ∙ length-append (runs_from [] (front v)) (archives_in (drop n cs)) in
    let split = runs-split n [] cs in
    let own = ap (λ (xs : List OwnFloor). length xs) (own-based n cs) in
    let used = ap (λ (r : RoomValue). length r.used) b.reserves.new_is ∙ used_len v.room.used (b.made ++ b.numbers) in
    let here : count_of (base_most (c ∷ drop n cs) v.named.upto) ≤ length b.room.used / 16 =
    omega (arith, now, few-rolls, rolls, added, more, archives, split, own, used) in
    let before : count_of (base_most cs v.named.upto) ≤ length b.room.used / 16 = omega (arith, now, used) in
    subst LeavesBaseRoom (sym b.new_is) (before, here)

-- ---- the starts

room-of : (snapshot : Option ℕ) (time : ℕ) (room : Bool) → jobs.refusal_for_use snapshot time room ≡ None → room ≡ true
room-of snapshot time true none = refl
room-of None time false none = absurd cc
room-of (Some s) time false none = by-test (nat_lt s time) none
  where
    by-test : (b : Bool) → Path (Option StartFault) (cond b (Some (fault.InUse s)) (Some fault.HeapFull)) None → false ≡ true
    by-test true none = absurd cc
    by-test false none = absurd cc

floor-room : (v : LogStoreValue) (relation time : ℕ) → floor_refusal v (Some relation) time ≡ None → has_floor_room v relation ≡ true
floor-room v relation time none =
    by-tests v.commits.failed (is_busy v) (nat_le time (floor_at v.commits.floors relation)) (nat_lt (last v.commits) time) none
  where
    by-tests : (a b c d : Bool)
        → Path (Option StartFault)
        (cond a (Some fault.Failed)
        (cond b (Some fault.JobBusy)
        (cond c (Some fault.NothingToDo)
        (cond d (Some (fault.NotYet (last v.commits))) (jobs.refusal_for_use (oldest v.commits) time (has_floor_room v relation)))))) None
        → has_floor_room v relation ≡ true
    by-tests true b c d is = absurd cc
    by-tests false true c d is = absurd cc
    by-tests false false true d is = absurd cc
    by-tests false false false true is = absurd cc
    by-tests false false false false is = room-of (oldest v.commits) time (has_floor_room v relation) is

module _ (tells : Bool) (old new : LogStoreValue) (m : Machine Value) (tell : IsTrue tells) (is : IsStoreOf tells old m) (left : LeavesBaseRoom old) where
  stands : old.commits.failed ≡ false → StandsOnHeap old m.published m.queue m.floors
  stands works =
      subst (λ (failed : Bool). MatchBool failed (StopsOnHeap old m.published m.queue m.floors) (StandsOnHeap old m.published m.queue m.floors)) works
      (is.disk tell)

  pub floor-starts-left : (scope : Option ℕ) (floor : ℕ) (answer : Result (Unit {0}) StartFault) → StartsFloor old scope floor answer new
      → LeavesBaseRoom new
  floor-starts-left scope floor answer starts = by-refusal (floor_refusal old scope floor) refl starts
    where
      by-answer : (o : Option ℕ) → floor_refusal old o floor ≡ None → (a : Result (Unit {0}) StartFault) → BeginsFloor old o floor a new
          → LeavesBaseRoom new
      by-answer None none a so = absurd so
      by-answer (Some relation) none (Ok done) so =
          let may = may-begin old relation floor none in
          subst LeavesBaseRoom (sym so.1)
          (floor-left tells old m is (stands may.works) may.free may.unmade relation floor (floor-room old relation floor none) left)
      by-answer (Some relation) none (Err why) so = same-left old new so.1 left

      by-refusal : (o : Option StartFault) → floor_refusal old scope floor ≡ o
          → MatchOption o (BeginsFloor old scope floor answer new) (λ why. (answer ≡ Err why) × (new ≡ old)) → LeavesBaseRoom new
      by-refusal None none so = by-answer scope none answer so
      by-refusal (Some why) some so = same-left old new so.1 left

  pub archive-starts-left : (upto : ℕ) (answer : Result (Unit {0}) StartFault) → StartsArchive old upto answer new → LeavesBaseRoom new
  archive-starts-left upto answer starts = by-refusal (archive_refusal old upto) refl starts
    where
      by-answer : archive_refusal old upto ≡ None → (a : Result (Unit {0}) StartFault) → BeginsRun old upto a new → LeavesBaseRoom new
      by-answer none (Ok done) so =
          let may = may-archive old upto none in
          archive-left tells old m is (stands may.works) may.free may.unmade left upto (run_to old upto) _ new may.room so.3
      by-answer none (Err why) so = same-left old new so.1 left

      by-refusal : (o : Option StartFault) → archive_refusal old upto ≡ o
          → MatchOption o (BeginsRun old upto answer new) (λ why. (answer ≡ Err why) × (new ≡ old)) → LeavesBaseRoom new
      by-refusal None none so = by-answer none answer so
      by-refusal (Some why) some so = same-left old new so.1 left

  pub reclaim-starts-left : (answer : Result (Unit {0}) StartFault) → StartsReclaim old answer new → LeavesBaseRoom new
  reclaim-starts-left answer starts = by-refusal (reclaim_refusal old) refl starts
    where
      by-answer : reclaim_refusal old ≡ None → (a : Result (Unit {0}) StartFault) → BeginsReclaim old a new → LeavesBaseRoom new
      by-answer none (Ok done) so = let may = may-reclaim old none in reclaim-begun old new may.free may.unmade left so
      by-answer none (Err why) so = same-left old new so.1 left

      by-refusal : (o : Option StartFault) → reclaim_refusal old ≡ o
          → MatchOption o (BeginsReclaim old answer new) (λ why. (answer ≡ Err why) × (new ≡ old)) → LeavesBaseRoom new
      by-refusal None none so = by-answer none answer so
      by-refusal (Some why) some so = same-left old new so.1 left
