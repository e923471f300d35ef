-- The beginning of a reclaim changes nothing of the machine's.
use Rattle.std.proofs.Common.{◌≡◌, ℕ, ◌==◌, ◌+◌, ◌<◌, ◌≤◌, ◌^◌, Bool, true, false, cond, List, [], ◌∷◌, ◌++◌, length, map, filter}
use Rattle.std.proofs.Common.{Option, None, Some, Result, Ok, Err, refl, arith, ap, sym, subst, ◌∙◌, ⊎_elim}
use Rattle.std.specs.Prelude.{MatchBool, MatchOption, Contains}
use Rattle.std.specs.List.{AllByRecursion}
use Rattle.std.proofs.lemmas.Bool.Decides.{nat_tests}
use Rattle.std.proofs.lemmas.List.{length-append, map-append}
use Rattle.history.specs.declared.key.Key.{Key}
use Rattle.history.specs.declared.time.TimedWrite.{TimedWrite}
use Rattle.history.specs.declared.time.Version.{Version}
use Rattle.history.specs.Histories.{History, HasRisingTimes}
use Rattle.history.specs.Histories as histories
use Rattle.history.specs.Machine.{Machine}
use Rattle.history.specs.Versions.{versions, ends_after, stands_at}
use Rattle.history.proofs.Intervals.{ended-stands}
use Rattle.history.proofs.Members.{Contains-cons_cases, Contains-nil}
use Rattle.law_image.specs.Values.{Value}
use Rattle.law_image.specs.Reading.{Head}
use Rattle.law_image.specs.Facts.{heap_versions}
use Rattle.law_image.specs.StandsFor.{archived_upto, head_of, reclaimed_upto}
use Rattle.law_image.proofs.Standing.{archived-range, last-range}
use Rattle.chains.specs.KeyWrites.{writes_of}
use Rattle.chains.proofs.Versions.{versions-kept}
use Rattle.group.specs.declared.commit_order.CommitHead.{CommitHead}
use Rattle.log_base.specs.Names as heads
use Rattle.log_base.specs.Names.{named_between}
use Rattle.log_base.specs.Laws.{is_named_between}
use Rattle.log_base.proofs.NamesTold.{between-told}
use Rattle.log_entries.proofs.Pushed.{length-base}
use Rattle.log_extents.specs.Chains.{count_of, IsNumberOf}
use Rattle.log_room.specs.Rooms.{RoomValue}
use Rattle.log_room.proofs.Joins.{some_count}
use Rattle.log_room.proofs.Taken.{in_heap, used_len}
use Rattle.log_store.specs.Live.{AreNumbers}
use Rattle.log_store.specs.Values.{LogStoreValue, IsInStep, is_busy}
use Rattle.log_store.specs.Reclaims.{BeginsReclaim, IsReclaimBegun, StartsReclaim, anchor_bytes, base_len, base_with, has_nothing, makes, reclaim_refusal}
use Rattle.log_store.specs.Reclaims.{reclaimed, refusal_for_use, standing, with_reclaim}
use Rattle.log_store.specs.declared.job.StartFault.{StartFault}
use Rattle.log_store.specs.declared.job.StartFault.TheVariants as start
use Rattle.log_store.proofs.Beginning.{back-no-base, front-within, none-made}
use Rattle.commits.specs.Calls.{oldest}
use Rattle.law_refinement.specs.Standing.{Name, name_at, name_of}
use Rattle.law_refinement.proofs.Conflicts.{rising-behind}
use Rattle.law_refinement.proofs.Submitting.{order-rising}
use Rattle.law_commits.specs.Standing.{HasNames}
use Rattle.law_log_store.specs.Calls.{HoldsUnreclaimed}
use Rattle.law_log_store.specs.Standing.{StandsOnHeap, StopsOnHeap}
use Rattle.law_log_store.proofs.Planned.{reclaim-begins}
use Rattle.law_log_steps.specs.Store.{IsStoreOf}
use Rattle.law_log_steps.proofs.ArchiveStarts.{in-memory}
use Rattle.law_log_steps.proofs.FloorStarts.{neither, none-runs}

-- ---- the tests in their order

-- what holds where none fails
pub record MayReclaim (v : LogStoreValue) : Type 0 where
  pub works : v.commits.failed ≡ false
  pub free : v.job ≡ None
  pub unmade : v.reclaim ≡ None
  pub some : 0 < v.named.upto

pub may-reclaim : (v : LogStoreValue) → reclaim_refusal v ≡ None → MayReclaim v
may-reclaim v none = by-tests v.commits.failed refl (is_busy v) refl (has_nothing v) refl none
  where
    some-there : has_nothing v ≡ false → 0 < v.named.upto
    some-there something =
        let first : (v.named.upto == 0) ≡ false = (neither (v.named.upto == 0) _ something).0 in
        grind (arith, nat_tests)

    by-tests : (a : Bool) → v.commits.failed ≡ a → (b : Bool) → is_busy v ≡ b → (c : Bool) → has_nothing v ≡ c
        → Path (Option StartFault)
        (cond a (Some start.Failed)
        (cond b (Some start.JobBusy) (cond c (Some start.NothingToDo) (refusal_for_use (oldest v.commits) v.named.upto)))) None → MayReclaim v
    by-tests true a b c d e is = absurd cc
    by-tests false a true c d e is = absurd cc
    by-tests false a false c true e is = absurd cc
    by-tests false a false c false e is =
        let idle = none-runs v c in
        record { works = a; free = idle.0; unmade = idle.1; some = some-there e }

-- ---- what it needs of memory

-- what stands at a time ends after each earlier one
standing-ends : {V : Type 0} (mark upto : ℕ) (vs : List (Version V)) → mark ≤ upto
    → filter (stands_at upto) (filter (ends_after mark) vs) ≡ filter (stands_at upto) vs
standing-ends mark upto [] low = refl
standing-ends {V} mark upto (v ∷ vs) low = by-end (ends_after mark v) refl (standing-ends mark upto vs low)
  where
    by-end : (b : Bool) → ends_after mark v ≡ b → filter (stands_at upto) (filter (ends_after mark) vs) ≡ filter (stands_at upto) vs
        → filter (stands_at upto) (cond b (v ∷ filter (ends_after mark) vs) (filter (ends_after mark) vs))
        ≡ cond (stands_at upto v) (v ∷ filter (stands_at upto) vs) (filter (stands_at upto) vs)
    by-end true e rest = ap (λ (l : List (Version V)). cond (stands_at upto v) (v ∷ l) l) rest
    by-end false e rest =
        rest ∙ sym (ap (λ b. cond b (v ∷ filter (stands_at upto) vs) (filter (stands_at upto) vs)) (ended-stands mark upto v low e))

abbrev as_head : Name → Head
as_head name = record { time = name.time; label = name.label }

heads-at : (late : List CommitHead) → map as_head (map name_at late) ≡ map heads.name_of late
heads-at [] = refl
heads-at (h ∷ hs) = ap (λ (l : List Head). heads.name_of h ∷ l) (heads-at hs)

heads-of : (h : History Value) → map as_head (map name_of h) ≡ map head_of h
heads-of [] = refl
heads-of (c ∷ cs) = ap (λ (l : List Head). head_of c ∷ l) (heads-of cs)

all-early : (mark early : ℕ) (names : List Name) → early ≤ mark → AllByRecursion (λ (name : Name). name.time ≤ early) names
    → AllByRecursion (λ (head : Head). head.time ≤ mark) (map as_head names)
all-early mark early [] low all = tt
all-early mark early (n ∷ ns) low all = (let first = all.0 in omega (arith, first, low), all-early mark early ns low all.1)

one-early : (early : ℕ) (names : List Name) (name : Name) → AllByRecursion (λ (n : Name). n.time ≤ early) names → Contains names name → name.time ≤ early
one-early early [] name all has = absurd (Contains-nil name has)
one-early early (n ∷ ns) name all has = ⊎_elim
    (λ (is : n ≡ name). subst (λ (x : Name). x.time ≤ early) is all.0)
    (λ (more : Contains ns name). one-early early ns name all.1 more)
    (Contains-cons_cases n ns name has)

kept-early : (mark early : ℕ) (names : List Name) (kept : List CommitHead) → early ≤ mark → AllByRecursion (λ (n : Name). n.time ≤ early) names
    → AllByRecursion (λ (name : Name). Contains names name) (map name_at kept) → AllByRecursion (λ (h : CommitHead). h.time ≤ mark) kept
kept-early mark early names [] low all of-them = tt
kept-early mark early names (h ∷ hs) low all of-them = (
  let one = one-early early names (name_at h) all of-them.0 in omega (arith, one, low),
  kept-early mark early names hs low all of-them.1,
)

all-late : (upto t : ℕ) (queue : History Value) → upto ≤ t → HasRisingTimes t queue
    → AllByRecursion (λ (head : Head). upto < head.time) (map head_of queue)
all-late upto t [] low up = tt
all-late upto t (c ∷ cs) low up = (
  let first = up.0 in omega (arith, first, low),
  all-late upto c.time cs (let first = up.0 in omega (arith, first, low)) up.2,
)

module _ (tells : Bool) (v : LogStoreValue) (m : Machine Value) (is : IsStoreOf tells v m) (s : StandsOnHeap v m.published m.queue m.floors) where
  upto-is : v.named.upto ≡ archived_upto s.reading
  upto-is = s.named.upto

  by-last : archived_upto s.reading ≤ histories.last m.published
  by-last = archived-range s.reading m.published m.floors s.stands

  same-standing : (key : Key) → filter (stands_at v.named.upto) (versions (writes_of v.commits.versions key))
      ≡ filter (stands_at v.named.upto) (heap_versions s.reading key)
  same-standing key =
      let ws = writes_of v.commits.versions key in
      let mark = reclaimed_upto s.reading in
      let order = s.stands.homes.marks in
      let range = last-range s.reading m.published m.floors s.stands in
      sym (standing-ends mark v.named.upto (versions ws) (omega (arith, order, upto-is)))
      ∙ ap (filter (stands_at v.named.upto))
      (sym (versions-kept 0 mark ws (omega (arith, order, by-last, range)) (s.facts.rising key)))
      ∙ ap (λ (l : List (TimedWrite Value)). filter (stands_at v.named.upto) (versions l)) (s.facts.same key)

  abbrev names : HasNames v.commits.reclaimed v.commits.heads v.commits.published m.published m.queue
  names = is.memory.names

  names-are : map as_head (names).before ++ map heads.name_of (names).late ≡ map head_of m.published ++ map head_of m.queue
  names-are =
      ap (λ (l : List Head). map as_head (names).before ++ l) (sym (heads-at (names).late))
      ∙ sym (map-append as_head (names).before (map name_at (names).late))
      ∙ ap (map as_head) (names).names
      ∙ heads-of (m.published ++ m.queue)
      ∙ map-append head_of m.published m.queue

  same-heads : map heads.name_of (named_between (reclaimed v) v.named.upto v.commits.heads)
      ≡ filter (is_named_between (reclaimed v) v.named.upto) (map head_of m.published)
  same-heads =
      let low = is.marks.base in
      ap (λ (hs : List CommitHead). map heads.name_of (named_between (reclaimed v) v.named.upto hs)) (names).heads_are
      ∙ between-told (reclaimed v) v.named.upto (names).kept (names).late (map as_head (names).before) (map head_of m.published) (map head_of m.queue)
      (kept-early (reclaimed v) v.commits.reclaimed (names).before (names).kept low (names).early (names).kept_of)
      (all-early (reclaimed v) v.commits.reclaimed (names).before low (names).early) names-are
      (all-late v.named.upto (histories.last m.published) m.queue (omega (arith, upto-is, by-last))
      (rising-behind 0 m.published m.queue (order-rising m is.machine)))

  holds : HoldsUnreclaimed v s.reading m.published
  holds = record { in_memory = in-memory tells v m is; same = same-standing; heads = same-heads }

-- ---- it begins

module _ (tells : Bool) (v : LogStoreValue) (m : Machine Value) (is : IsStoreOf tells v m) (may : MayReclaim v) (new : LogStoreValue)
    (b : IsReclaimBegun v new) where
  abbrev begun : LogStoreValue
  begun = with_reclaim v b.names b.made b.numbers b.room

  begun-heap : StandsOnHeap v m.published m.queue m.floors → StandsOnHeap begun m.published m.queue m.floors
  begun-heap s =
      subst (λ (x : LogStoreValue). StandsOnHeap x m.published m.queue m.floors) b.new_is
      (reclaim-begins v m.published m.queue m.floors s may.free may.unmade may.some (holds tells v m is s) new b)

  begins : IsStoreOf tells new m
  begins = subst (λ (x : LogStoreValue). IsStoreOf tells x m) (sym b.new_is) (record {
    memory = is.memory;
    machine = is.machine;
    writing = record {
      most = is.writing.most;
      group = is.writing.group;
      raising = is.writing.raising;
      made = is.writing.made;
      gate = is.writing.gate;
      left = λ fails. absurd (let no : false ≡ true = sym may.works ∙ is.memory.failed ∙ fails in cc);
    };
    fresh = is.fresh;
    marks = record {
      reclaimed = is.marks.reclaimed;
      base = is.marks.base;
      job = is.marks.job;
      reclaim = record { base = refl; named = refl };
    };
    ends = subst (λ (r : RoomValue). IsNumberOf (2 ^ 20) r.next) (sym b.reserves.new_is) is.ends;
    disk = λ told. subst (λ (failed : Bool). MatchBool failed (StopsOnHeap begun m.published m.queue m.floors)
        (StandsOnHeap begun m.published m.queue m.floors)) (sym may.works)
        (begun-heap
        (subst (λ (failed : Bool). MatchBool failed (StopsOnHeap v m.published m.queue m.floors) (StandsOnHeap v m.published m.queue m.floors)) may.works
        (is.disk told)));
  })

-- ---- the start

pub reclaim-starts : (tells : Bool) (old new : LogStoreValue) (answer : Result (Unit {0}) StartFault) (m : Machine Value) → IsInStep old
    → IsStoreOf tells old m → StartsReclaim old answer new → IsStoreOf tells new m
reclaim-starts tells old new answer m step is starts = by-refusal (reclaim_refusal old) refl starts
  where
    by-answer : reclaim_refusal old ≡ None → (a : Result (Unit {0}) StartFault) → BeginsReclaim old a new → IsStoreOf tells new m
    by-answer none (Ok done) so = begins tells old m is (may-reclaim old none) new so
    by-answer none (Err why) so = subst (λ (v : LogStoreValue). IsStoreOf tells v m) (sym so.1) is

    by-refusal : (o : Option StartFault) → reclaim_refusal old ≡ o
        → MatchOption o (BeginsReclaim old answer new) (λ why. (answer ≡ Err why) × (new ≡ old)) → IsStoreOf tells new m
    by-refusal None none so = by-answer none answer so
    by-refusal (Some why) some so = subst (λ (v : LogStoreValue). IsStoreOf tells v m) (sym so.1) is

-- ---- it stays in step

split-numbers : (ns ms : List ℕ) → AreNumbers (ns ++ ms) → AreNumbers ns × AreNumbers ms
split-numbers [] ms all = (tt, all)
split-numbers (n ∷ ns) ms all = let rest = split-numbers ns ms all.1 in ((all.0, rest.0), rest.1)

taken-many : (b : Bool) (made live numbers : List ℕ) → (b ≡ false → length made ≡ 0)
    → length made + length numbers ≡ length (cond b (cond b made live ++ numbers) numbers)
taken-many true made live numbers none = sym (length-append made numbers)
taken-many false made live numbers none = let nothing = none refl in omega (arith, nothing)

anchors-many : (b : Bool) (made live : List ℕ) (count : ℕ) → length made ≡ count → length (cond b made live) ≡ cond b count (length live)
anchors-many true made live count many = many
anchors-many false made live count many = refl

anchors-range : (b : Bool) (made live : List ℕ) → AreNumbers made → AreNumbers live → AreNumbers (cond b made live)
anchors-range true made live in-made in-live = in-made
anchors-range false made live in-made in-live = in-live

module _ (v : LogStoreValue) (may : MayReclaim v) (step : IsInStep v) (new : LogStoreValue) (b : IsReclaimBegun v new) where
  abbrev there : LogStoreValue
  there = with_reclaim v b.names b.made b.numbers b.room

  same-len : length b.room.used ≡ length v.room.used
  same-len = ap (λ (r : RoomValue). length r.used) b.reserves.new_is ∙ used_len v.room.used (b.made ++ b.numbers)

  in-range : AreNumbers b.made × AreNumbers b.numbers
  in-range = split-numbers b.made b.numbers (in_heap (2 ^ 20) v.room.used (b.made ++ b.numbers) step.many b.reserves.least)

  none-where : makes v ≡ false → length b.made ≡ 0
  none-where stay = let none = none-made v stay in let many = b.made_many in omega (arith, none, many)

  begins-in-step : IsInStep new
  begins-in-step = subst IsInStep (sym b.new_is) (record {
    contents = step.contents;
    bytes = step.bytes;
    promised = ap (λ (x : RoomValue). x.promised) b.reserves.new_is ∙ step.promised;
    few = let few = step.few in let same = ap (λ (x : RoomValue). x.promised) b.reserves.new_is in omega (arith, few, same);
    many = let most = step.many in omega (arith, most, same-len);
    counted = ap (λ (x : RoomValue). x.log) b.reserves.new_is ∙ step.counted;
    turn = step.turn;
    beside = step.beside;
    place = step.place;
    live = step.live;
    reclaim = record {
      alone = may.free;
      front = front-within v.named.upto v.live.chains;
      back = back-no-base v.named.upto v.live.chains step.live.behind;
      taken = ap (λ (x : RoomValue). x.reserved) b.reserves.new_is ∙ taken-many (makes v) b.made v.live.anchors b.numbers none-where;
      share =
          let share = b.shares.standing_few in
          let all : length (cond (makes v) b.made v.live.anchors) ≡ standing v =
          anchors-many (makes v) b.made v.live.anchors (count_of (length (anchor_bytes v))) b.made_many in
          let count = b.many in
          omega (arith, share, all, count, same-len);
      some =
          let long = length-base (base_with v b.names []) in
          let some = some_count (base_len v b.names) (omega (arith, long)) in
          let count = b.many in
          omega (arith, some, count);
      numbers = (in-range).1;
      anchors = anchors-range (makes v) b.made v.live.anchors (in-range).0 step.live.anchors;
      on_its_way = tt;
    };
  })

pub reclaim-starts-in-step : (old new : LogStoreValue) (answer : Result (Unit {0}) StartFault) → IsInStep old → StartsReclaim old answer new → IsInStep new
reclaim-starts-in-step old new answer is starts = by-refusal (reclaim_refusal old) refl starts
  where
    by-answer : reclaim_refusal old ≡ None → (a : Result (Unit {0}) StartFault) → BeginsReclaim old a new → IsInStep new
    by-answer none (Ok done) so = begins-in-step old (may-reclaim old none) is new so
    by-answer none (Err why) so = subst IsInStep (sym so.1) is

    by-refusal : (o : Option StartFault) → reclaim_refusal old ≡ o
        → MatchOption o (BeginsReclaim old answer new) (λ why. (answer ≡ Err why) × (new ≡ old)) → IsInStep new
    by-refusal None none so = by-answer none answer so
    by-refusal (Some why) some so = subst IsInStep (sym so.1) is
