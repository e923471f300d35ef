-- A store that was opened on an image which stands for a history stands for a machine that is opened on it.
use Rattle.std.proofs.Common.{◌≡◌, ℕ, ◌+◌, ◌<◌, ◌≤◌, nat_lt, Bool, true, false, cond, IsTrue, List, [], ◌∷◌, ◌++◌, length, map, filter, refl, arith, ap}
use Rattle.std.proofs.Common.{Option}
use Rattle.std.proofs.Common.{sym, subst, ◌∙◌, ⊎_elim, length-append}
use Rattle.std.specs.Prelude.{if◌then◌else◌}
use Rattle.std.specs.List.{AllByRecursion}
use Rattle.std.proofs.lemmas.Bool.{cases_lt}
use Rattle.std.proofs.lemmas.List.{append-nil, length-map}
use Rattle.std.proofs.lemmas.List.Sorted.{IsPermutation-refl}
use Rattle.history.specs.declared.key.Key.{Key}
use Rattle.history.specs.declared.time.TimedWrite.{TimedWrite}
use Rattle.history.specs.Time.{IsRisingAfter, writes_after}
use Rattle.history.specs.Versions.{ends_after, versions}
use Rattle.history.specs.Histories.{History, versions_of, writes_of}
use Rattle.history.specs.Machine.{opened_by}
use Rattle.history.proofs.Orders.{is_lt, not_lt}
use Rattle.history.proofs.Histories.{writes_of-commits_after}
use Rattle.history.proofs.Members.{Contains-nil}
use Rattle.disk.specs.Areas.{AreSound, image_of}
use Rattle.disk.specs.Calls.{DiskState}
use Rattle.law_image.specs.Values.{Value}
use Rattle.law_image.specs.Reading.{Head, Reading, Slot}
use Rattle.law_image.specs.Log.{AreRisingAfter, floor_of, reclaim_mark}
use Rattle.law_image.specs.Facts.{heap_facts, old_writes}
use Rattle.law_image.specs.StandsFor.{StandsFor, head_of, reclaimed_upto}
use Rattle.law_image.proofs.Standing.{archived-range, facts-rise, heads-rising, rises}
use Rattle.law_log.specs.Chains.{told, told_from}
use Rattle.law_log.proofs.Telling.{tells-all}
use Rattle.floors.specs.Floors.{floor_at}
use Rattle.chains.specs.Writes.{kept_after, last_time}
use Rattle.chains.specs.KeyWrites as chains
use Rattle.commits.specs.Values.{CommitsValue}
use Rattle.recovery.proofs.HistoryRead.{anchors_upto}
use Rattle.log_roots.specs.declared.roots.Roots.{Roots}
use Rattle.log_roots.specs.Roots.{root_of}
use Rattle.law_log_layout.specs.HeapLog.{PlacedChain, HeapLog, chains_told}
use Rattle.log_recovery.specs.declared.members_read.CommitName.{CommitName}
use Rattle.log_recovery.specs.declared.image.LogRecovered.{LogRecovered}
use Rattle.log_recovery.specs.Rules.{mark_of, no_log, state_from}
use Rattle.log_recovery.specs.Members.{name_told, heads_told}
use Rattle.log_recovery.specs.Read.{IsHeapRead}
use Rattle.law_log_opening.proofs.Named.{alike-from, alike-none, mark-same}
use Rattle.law_refinement.specs.Standing.{Name, name_of, name_at, HasWrites, HasForgotten}
use Rattle.law_refinement.proofs.HeapForgets.{heap-forgot}
use Rattle.law_commits.specs.Standing.{HasNames, StandsInMemory}
use Rattle.log_base.specs.Bases as bases
use Rattle.log_base.proofs.RunsLeft.{mark-is}
use Rattle.log_store.specs.Values.{LogStoreValue, ReclaimValue}
use Rattle.log_store.specs.Opens.{Opens, commits_on, head_as}
use Rattle.log_store.proofs.Places.{has-place}
use Rattle.law_log_store.specs.Standing.{IsImageOf}
use Rattle.law_log_store.proofs.Headers.{image-size}
use Rattle.law_log_store.proofs.Opening.{facts-are, members-same, open-stands, read as read-is, same as same-log}
use Rattle.law_log_steps.specs.Store.{gate_of, raising_of, HasAllMade, JobReaches, ReclaimReaches, EndsInHeap, IsStoreOf}
use Rattle.log_store.specs.declared.job.Job.{Job}
use Rattle.law_log_steps.proofs.Resting.{stands-opened}

-- ---- names

abbrev as_name : Head → Name
as_name head = record { time = head.time; label = head.label }

names-of : (h : History Value) → map as_name (map head_of h) ≡ map name_of h
names-of [] = refl
names-of (c ∷ cs) = ap (λ (ns : List Name). name_of c ∷ ns) (names-of cs)

names-at : (commits : List CommitName) → map name_at (map head_as commits) ≡ map as_name (map name_told commits)
names-at [] = refl
names-at (c ∷ cs) = ap (λ (ns : List Name). name_at (head_as c) ∷ ns) (names-at cs)

-- those up to a mark, and those later
abbrev early_of : ℕ → List Head → List Head
early_of mark [] = []
early_of mark (x ∷ xs) = if nat_lt mark x.time then early_of mark xs else x ∷ early_of mark xs

abbrev late_of : ℕ → List Head → List Head
late_of mark heads = filter (λ (head : Head). nat_lt mark head.time) heads

none-early : (mark t : ℕ) (heads : List Head) → mark ≤ t → AreRisingAfter t heads → (early_of mark heads ≡ []) × (late_of mark heads ≡ heads)
none-early mark t [] low rising = (refl, refl)
none-early mark t (x ∷ xs) low rising =
    let later : nat_lt mark x.time ≡ true = is_lt (omega (arith, low, rising.0)) in
    let rest = none-early mark x.time xs (omega (arith, low, rising.0)) rising.2 in (
      ap (λ b. cond b (early_of mark xs) (x ∷ early_of mark xs)) later ∙ rest.0,
      ap (λ b. cond b (x ∷ late_of mark xs) (late_of mark xs)) later ∙ ap (λ (hs : List Head). x ∷ hs) rest.1,
    )

-- rising heads are the early ones and then the late ones
split-heads : (mark t : ℕ) (heads : List Head) → AreRisingAfter t heads → early_of mark heads ++ late_of mark heads ≡ heads
split-heads mark t [] rising = refl
split-heads mark t (x ∷ xs) rising = ⊎_elim
    (λ (later : mark < x.time).
    let so : nat_lt mark x.time ≡ true = is_lt later in
    let rest = none-early mark x.time xs (omega (arith, later)) rising.2 in
    (λ i. cond (so i) (early_of mark xs) (x ∷ early_of mark xs) ++ cond (so i) (x ∷ late_of mark xs) (late_of mark xs))
    ∙ (λ i. rest.0 i ++ x ∷ rest.1 i))
    (λ (earlier : x.time ≤ mark).
    let so : nat_lt mark x.time ≡ false = not_lt earlier in
    (λ i. cond (so i) (early_of mark xs) (x ∷ early_of mark xs) ++ cond (so i) (x ∷ late_of mark xs) (late_of mark xs))
    ∙ ap (λ (hs : List Head). x ∷ hs) (split-heads mark x.time xs rising.2))
    (cases_lt mark x.time)

early-upto : (mark : ℕ) (heads : List Head) → AllByRecursion (λ (name : Name). name.time ≤ mark) (map as_name (early_of mark heads))
early-upto mark [] = tt
early-upto mark (x ∷ xs) = ⊎_elim
    (λ (later : mark < x.time).
    let so : true ≡ nat_lt mark x.time = sym (is_lt later) in
    subst (λ b. AllByRecursion (λ (name : Name). name.time ≤ mark) (map as_name (cond b (early_of mark xs) (x ∷ early_of mark xs)))) so
    (early-upto mark xs))
    (λ (earlier : x.time ≤ mark).
    let so : false ≡ nat_lt mark x.time = sym (not_lt earlier) in
    subst (λ b. AllByRecursion (λ (name : Name). name.time ≤ mark) (map as_name (cond b (early_of mark xs) (x ∷ early_of mark xs)))) so
    (earlier, early-upto mark xs))
    (cases_lt mark x.time)

map-joined : (xs ys : List Head) → map as_name (xs ++ ys) ≡ map as_name xs ++ map as_name ys
map-joined [] ys = refl
map-joined (x ∷ xs) ys = ap (λ (ns : List Name). as_name x ∷ ns) (map-joined xs ys)

-- the front of rising writes rises
rising-first-of : (xs ys : List (TimedWrite Value)) (t : ℕ) → IsRisingAfter t (xs ++ ys) → IsRisingAfter t xs
rising-first-of [] ys t up = tt
rising-first-of (x ∷ xs) ys t up = (up.0, up.1, rising-first-of xs ys x.time up.2)

module _ (tells : Bool) (old : DiskState) (mark : ℕ) (v : LogStoreValue) (roots : Roots) (h : History Value) (floors : ℕ → ℕ) (tells_so : IsTrue tells)
    (are_sound : AreSound old.areas) (image : IsImageOf roots (image_of old.areas) h floors) (opens : Opens tells old mark v) where
  abbrev r : LogRecovered
  r = opens.recovered

  abbrev l : HeapLog
  l = image.heap.log

  abbrev reading : Reading
  reading = image.heap.reading

  stands : StandsFor reading h floors
  stands = image.heap.stands

  abbrev commits : CommitsValue
  commits = commits_on mark r.heap.members r.heap.end.floors r.heap.end.mark

  abbrev read : IsHeapRead roots.extents (root_of image.read) (image_of old.areas).heap r.heap
  read = read-is tells old mark v roots h floors tells_so are_sound image opens

  chains-same : read.chains ≡ l.chains
  chains-same = (same-log tells old mark v roots h floors tells_so are_sound image opens).0.0

  -- ---- what the log tells

  log-is : reading.log ≡ told (chains_told image.heap.is_log.names l.chains)
  log-is = ap (λ (x : Reading). x.log) image.heap.is_log.reading_is

  named-mark : Rattle.law_log.specs.Chains.reclaimed_by (chains_told image.heap.is_log.names l.chains) ≡ mark_of l.chains
  named-mark = mark-same image.heap.is_log.names l.chains

  marked : r.heap.end.mark ≡ reclaimed_upto reading
  marked =
      read.end_is.says.mark_is ∙ ap mark_of chains-same ∙ sym named-mark
      ∙ sym (tells-all (chains_told image.heap.is_log.names l.chains) image.heap.is_log.rules.each).reclaimed ∙ ap reclaim_mark (sym log-is)

  floors-are : (relation : ℕ) → floor_at r.heap.end.floors relation ≡ floors relation
  floors-are relation =
      let alike = alike-from (mark_of l.chains) image.heap.is_log.names [] no_log l.chains alike-none in
      read.end_is.says.floors_are relation
      ∙ ap (λ (cs : List PlacedChain). floor_of (state_from (mark_of cs) no_log cs).told relation) chains-same
      ∙ ap (λ (f : ℕ → ℕ). f relation) alike.floors
      ∙ ap (λ (m : ℕ). floor_of (told_from m [] (chains_told image.heap.is_log.names l.chains)) relation) (sym named-mark)
      ∙ ap (λ (log : List Slot). floor_of log relation) (sym log-is)
      ∙ stands.opens.floors_given relation

  -- ---- the names

  abbrev all_heads : List Head
  all_heads = map head_of h

  rising : AreRisingAfter 0 all_heads
  rising = heads-rising 0 h (rises reading h floors stands)

  late-are : map name_told r.heap.members.commits.items ≡ late_of r.heap.end.mark all_heads
  late-are =
      read.facts.commits
      ∙ ap heads_told (members-same tells old mark v roots h floors tells_so are_sound image opens)
      ∙ stands.opens.reads.members
      ∙ ap (λ (hs : List Head). late_of (reclaimed_upto reading) hs) stands.opens.commits
      ∙ ap (λ (m : ℕ). late_of m all_heads) (sym marked)

  abbrev before : List Name
  before = map as_name (early_of r.heap.end.mark all_heads)

  names-are : before ++ map name_at (map head_as r.heap.members.commits.items) ≡ map name_of (h ++ [])
  names-are =
      ap (λ (ns : List Name). before ++ ns) (names-at r.heap.members.commits.items ∙ ap (map as_name) late-are)
      ∙ sym (map-joined (early_of r.heap.end.mark all_heads) (late_of r.heap.end.mark all_heads))
      ∙ ap (map as_name) (split-heads r.heap.end.mark 0 all_heads rising)
      ∙ names-of h
      ∙ ap (λ (l : History Value). map name_of l) (sym (append-nil h))

  many : length before + length r.heap.members.commits.items ≡ length h
  many =
      let joined = length-append before (map name_at (map head_as r.heap.members.commits.items)) in
      let lates : length (map name_at (map head_as r.heap.members.commits.items)) ≡ length r.heap.members.commits.items =
      length-map (map head_as r.heap.members.commits.items) name_at ∙ length-map r.heap.members.commits.items head_as in
      let all : length (map name_of (h ++ [])) ≡ length h = length-map (h ++ []) name_of ∙ ap (λ (hs : History Value). length hs) (append-nil h) in
      let same = ap (λ (ns : List Name). length ns) names-are in
      omega (arith, joined, lates, all, same)

  names : HasNames r.heap.end.mark commits.heads commits.published h []
  names = record {
    before = before;
    early = early-upto r.heap.end.mark all_heads;
    kept = [];
    late = map head_as r.heap.members.commits.items;
    heads_are = refl;
    kept_of = tt;
    names = names-are;
    count = length r.heap.members.commits.items;
    published_are = omega arith;
    many = many;
  }

  -- ---- the versions

  abbrev anchors : Key → List (TimedWrite Value)
  anchors key = old_writes reading.anchors key

  abbrev later : Key → List (TimedWrite Value)
  later key = writes_after (reclaimed_upto reading) (writes_of h key)

  facts : (key : Key) → chains.writes_of r.heap.members.versions key ≡ heap_facts reading key
  facts key = facts-are tells old mark v roots h floors tells_so are_sound image opens key

  facts-split : (key : Key) → heap_facts reading key ≡ anchors key ++ later key
  facts-split key =
      ap (λ (l : History Value). anchors key ++ writes_of l key) stands.opens.write_sets
      ∙ ap (λ (ws : List (TimedWrite Value)). anchors key ++ ws) (writes_of-commits_after (reclaimed_upto reading) h key)

  forgot : HasForgotten r.heap.end.mark r.heap.members.versions
  forgot key =
      ap (λ (ws : List (TimedWrite Value)). kept_after r.heap.end.mark ws) (facts key)
      ∙ ap (λ (n : ℕ). kept_after n (heap_facts reading key)) marked
      ∙ heap-forgot reading h floors stands key
      ∙ sym (facts key)

  versions_held : HasWrites floors r.heap.end.mark r.heap.members.versions h
  versions_held = record {
    ordered = subst (λ (cs : CommitsValue). chains.IsOrdered cs.versions) (ap (λ (x : LogStoreValue). x.commits) opens.new_is) opens.ordered;
    marked = let reached = stands.homes.marks in let upto = archived-range reading h floors stands in omega (arith, marked, reached, upto);
    before = anchors;
    rising = λ key. rising-first-of (anchors key) (later key) 0
        (subst (λ (ws : List (TimedWrite Value)). IsRisingAfter 0 ws) (facts-split key) (facts-rise reading h floors stands key));
    early = λ key. subst (λ (n : ℕ). last_time (anchors key) ≤ n) (sym marked)
        (anchors_upto (reclaimed_upto reading) 0 reading.anchors key stands.opens.reads.anchor_times (omega arith));
    writes = λ key. facts key ∙ facts-split key ∙ ap (λ (n : ℕ). anchors key ++ writes_after n (writes_of h key)) (sym marked);
    at_home = λ key.
        ap (λ (ws : List (TimedWrite Value)). filter (ends_after (floors key.relation)) (versions ws)) (facts key)
        ∙ stands.homes.in_heap key
        ∙ ap (λ (n : ℕ). filter (ends_after (floors key.relation)) (filter (ends_after n) (versions_of h key))) (sym marked);
  }

  -- ---- the store

  memory : StandsInMemory commits (opened_by 1024 h floors)
  memory = record {
    names = names;
    rising =
        let size = image-size roots (image_of old.areas) h floors image in
        let place = has-place roots.extents (root_of image.read) (image_of old.areas).heap r.heap size read in place.order.rising;
    versions = versions_held;
    forgot = forgot;
    recent = λ snapshot there. absurd (Contains-nil snapshot there);
    queue = tt;
    snapshots = IsPermutation-refl [];
    floors = floors-are;
    failed = refl;
  }

  -- the mark of the base that memory has
  base-mark : bases.mark_of v.live.chains ≡ mark_of read.chains
  base-mark =
      ap (λ (x : LogStoreValue). bases.mark_of x.live.chains) opens.new_is
      ∙ ap bases.mark_of read.live_are
      ∙ mark-is image.heap.is_log.names read.chains
      ∙ mark-same image.heap.is_log.names read.chains

  pub is-opened : IsStoreOf tells v (opened_by 1024 h floors)
  is-opened =
      let on = open-stands tells old mark v roots h floors tells_so are_sound image opens in
      let same : v.commits ≡ commits = ap (λ (x : LogStoreValue). x.commits) opens.new_is in
      stands-opened tells v h floors reading stands on.1 (ap (λ (c : CommitsValue). c.failed) same) (ap (λ (c : CommitsValue). c.queue) same)
      (record {
        most = refl;
        group = sym (ap (λ (c : CommitsValue). c.group) same);
        raising = ap raising_of (sym (ap (λ (x : LogStoreValue). x.job) opens.new_is));
        made = subst (λ (j : Option Job). HasAllMade v.commits.floors j) (sym (ap (λ (x : LogStoreValue). x.job) opens.new_is)) tt;
        gate = λ works. ap (λ (x : LogStoreValue). gate_of x.turn x.job) (sym opens.new_is);
        left = λ fails. absurd (let no : false ≡ true = fails in cc);
      })
      (record {
        reclaimed =
            let low = read.holds.ends.archived in
            let mark = read.end_is.says.mark_is in
            let archived = read.end_is.says.archived_is in
            let reclaimed : v.commits.reclaimed ≡ r.heap.end.mark = ap (λ (c : CommitsValue). c.reclaimed) same in
            let upto : v.named.upto ≡ r.heap.end.archived = ap (λ (x : LogStoreValue). x.named.upto) opens.new_is in
            omega (arith, low, mark, archived, reclaimed, upto);
        base =
            let reclaimed : v.commits.reclaimed ≡ r.heap.end.mark = ap (λ (c : CommitsValue). c.reclaimed) same in
            let mark = read.end_is.says.mark_is in
            omega (arith, reclaimed, mark, base-mark);
        job = subst (λ (j : Option Job). JobReaches v.named.upto j) (sym (ap (λ (x : LogStoreValue). x.job) opens.new_is)) tt;
        reclaim = subst (λ (x : Option ReclaimValue). ReclaimReaches v.named.upto x) (sym (ap (λ (x : LogStoreValue). x.reclaim) opens.new_is)) tt;
      })
      (subst EndsInHeap (sym opens.new_is) (
      let size = image-size roots (image_of old.areas) h floors image in
      let place = has-place roots.extents (root_of image.read) (image_of old.areas).heap r.heap size read in
      let high = place.room.free.high in
      let most = place.room.high in
      (place.room.free.low, omega (arith, high, most))
      ))
      (subst (λ (c : CommitsValue). StandsInMemory c (opened_by 1024 h floors)) (sym same) memory)
