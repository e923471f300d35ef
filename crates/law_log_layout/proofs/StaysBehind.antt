-- What a reclaim has counted stays right while groups are published behind the log.
use Rattle.std.proofs.Common.{◌≡◌, ◌≢◌, ℕ, ◌<◌, ◌≤◌, nat_le, false, true, List, [], ◌∷◌, ◌++◌, map, length, refl, sym, ap, subst, ◌∙◌, arith, append_assoc}
use Rattle.std.specs.Prelude.{filter, flat_map}
use Rattle.std.specs.List.{AllByRecursion}
use Rattle.std.proofs.lemmas.List.{append-nil, map-append}
use Rattle.std.proofs.lemmas.List.Elements.{filter-append}
use Rattle.std.proofs.lemmas.Grind.{flat_map-append}
use Rattle.history.proofs.Filters.{AllByRecursion-append}
use Rattle.history.proofs.Orders.{not_le}
use Rattle.history.specs.Histories.{History}
use Rattle.law_image.specs.Values.{Value}
use Rattle.law_image.specs.Reading.{Head, Slot, Commits, Member, OldRecord, Reading}
use Rattle.law_image.specs.Log.{heads_of, last_time_after, last_time, archive_mark, AreRisingAfter, is_in_heap}
use Rattle.law_image.specs.StandsFor.{StandsFor, archived_upto}
use Rattle.law_image.specs.Plans.{IsGroupOf, IsReclaimPlan, with_group}
use Rattle.law_image.specs.HeapPlans.{marks_of, with_base, IsBased}
use Rattle.law_image.specs.Log.{floor_of}
use Rattle.law_image.proofs.GroupStep.{length-map, group-rise}
use Rattle.law_image.proofs.HeapSteps.{group-beside}
use Rattle.law_image.proofs.Logs.{heads_of-append, archive_mark-append, marked-heap}
use Rattle.law_image.proofs.PlansStay.{reclaim-plan-stays}
use Rattle.law_image.proofs.Standing.{marked}
use Rattle.law_log.specs.Chains.{LogChain, OfBase, OfGroup, OfRun, OfFloor, Base, told, told_from, reclaimed_by, heads_in, KeepsChainRules, IsWithGroup}
use Rattle.law_log.specs.Chains.{BeginsLater, IsNoBase, TakesPlace}
use Rattle.law_log.proofs.Telling.{told-keeps}
use Rattle.law_log.proofs.Based.{last-above}
use Rattle.law_log.proofs.Behind.{comes-behind}
use Rattle.law_layout.proofs.Lists.{both, weaker}
use Rattle.log_extents.specs.Chains.{IsNew, AreDistinct}
use Rattle.log_entries.specs.declared.entry.Member as stored
use Rattle.wire.specs.declared.slot.Run.{Run}
use Rattle.law_log_layout.specs.HeapLog.{PlacedChain, HeapLog, live_numbers, member_told, base_told, chain_told, chains_told, AreNamesOf, run_span, archives_in}
use Rattle.law_log_layout.specs.HeapLog.{AreSpansInRow, IsLogOf, with_chain, MayJoin, placed_group}
use Rattle.law_log_layout.specs.Reclaims.{NewBase, placed_base, with_new_base, MayTakePlace, AreFree}
use Rattle.law_log_layout.specs.Behind.{IsBesideBase, IsSameBehind}
use Rattle.law_log_layout.proofs.GroupJoins.{chained-more, none-more, live-more, room, most-is}
use Rattle.law_log_layout.proofs.Places.{AreNew, ArePart, new-front, new-back, distinct-parts}
use Rattle.law_log_layout.proofs.BasedShares.{TellsBy, tells-by, IsInPlace, in-place}

-- ---- distinct numbers

new-turned : (xs ys : List ℕ) → AreNew ys xs → AreNew xs ys
new-turned [] ys are = tt
new-turned (x ∷ xs) ys are = (
  weaker (λ (y : ℕ). IsNew y (x ∷ xs)) (λ (y : ℕ). y ≢ x) ys (λ y is e. is.0 (sym e)) are,
  new-turned xs ys (weaker (λ (y : ℕ). IsNew y (x ∷ xs)) (λ (y : ℕ). IsNew y xs) ys (λ y is. is.1) are),
)

new-join : (m : ℕ) (xs ys : List ℕ) → IsNew m xs → IsNew m ys → IsNew m (xs ++ ys)
new-join m xs ys a b = AllByRecursion-append (λ (n : ℕ). n ≢ m) xs ys a b

all-join : (ns xs ys : List ℕ) → AreNew ns xs → AreNew ns ys → AreNew ns (xs ++ ys)
all-join ns xs ys a b =
    both (λ (m : ℕ). IsNew m xs) (λ (m : ℕ). IsNew m ys) (λ (m : ℕ). IsNew m (xs ++ ys)) ns (λ m x y. new-join m xs ys x y) a b

all-back : (ns xs ys : List ℕ) → AreNew ns (xs ++ ys) → AreNew ns ys
all-back ns xs ys all = weaker (λ (m : ℕ). IsNew m (xs ++ ys)) (λ (m : ℕ). IsNew m ys) ns (λ m is. new-back m xs ys is) all

distinct-join : (xs ys : List ℕ) → AreDistinct xs → AreDistinct ys → AreNew xs ys → AreDistinct (xs ++ ys)
distinct-join [] ys a b new = b
distinct-join (x ∷ xs) ys a b new = (new-join x xs ys a.0 new.0, distinct-join xs ys a.1 b new.1)

-- ---- the extents of the chain

module _ (most : ℕ) (l : HeapLog) (c : PlacedChain) (n : NewBase) (joins : MayJoin most l c) (beside : IsBesideBase c n) where
  abbrev new_ones : List ℕ
  new_ones = (n.anchors).numbers ++ n.numbers

  -- the chain is apart from the log
  own : ArePart (live_numbers l) c.numbers
  own = distinct-parts (live_numbers l) c.numbers (joins.apart).1

  link-own : IsNew c.link c.numbers
  link-own = new-back c.link (live_numbers l) c.numbers (joins.apart).0

  link-live : IsNew c.link (live_numbers l)
  link-live = new-front c.link (live_numbers l) c.numbers (joins.apart).0

  -- and from the base
  apart : ArePart new_ones (c.link ∷ c.numbers)
  apart = distinct-parts new_ones (c.link ∷ c.numbers) beside

  pub free-stays : AreFree most l n → AreFree most (with_chain l c) n
  free-stays free =
      let live = live_numbers l in
      let parts : ArePart live new_ones = distinct-parts live new_ones (free.apart).1 in
      let chain : AreNew new_ones (c.link ∷ c.numbers) = new-turned new_ones (c.link ∷ c.numbers) (apart).new in
      let others : AreNew (live ++ c.numbers) new_ones =
      new-turned (live ++ c.numbers) new_ones (all-join new_ones live c.numbers parts.new (all-back new_ones (c.link ∷ []) c.numbers chain)) in
      let all : AreDistinct (c.link ∷ (live ++ c.numbers) ++ new_ones) =
      distinct-join (c.link ∷ live ++ c.numbers) new_ones joins.apart parts.back (((apart).new).0, others) in
      let placed = joins.placed in
      record {
        anchors = free.anchors;
        placed = free.placed;
        next = placed.link;
        apart = subst (λ (ns : List ℕ). AreDistinct (c.link ∷ ns ++ new_ones)) (sym (live-more l c)) all;
      }

  -- the chain is apart from what the base leaves
  pub joins-based : (front back : List PlacedChain) → l.chains ≡ front ++ back → AreDistinct (l.next ∷ live_numbers (with_new_base l n back))
      → MayJoin most (with_new_base l n back) c
  joins-based front back split distinct =
      let an = (n.anchors).numbers in
      let numbers = λ (cs : List PlacedChain). flat_map (λ (d : PlacedChain). d.numbers) cs in
      let stay = numbers back in
      let gone = l.anchors.numbers ++ numbers front in
      let live : live_numbers l ≡ gone ++ stay =
      ap (λ (cs : List PlacedChain). l.anchors.numbers ++ numbers cs) split
      ∙ ap (λ ns. l.anchors.numbers ++ ns) (flat_map-append (λ (d : PlacedChain). d.numbers) front back)
      ∙ sym (append_assoc l.anchors.numbers (numbers front) stay) in
      let link-stay : IsNew c.link stay = new-back c.link gone stay (subst (IsNew c.link) live link-live) in
      let own-stay : AreNew c.numbers stay = all-back c.numbers gone stay (subst (AreNew c.numbers) live (own).new) in
      let here : an ++ (n.numbers ++ stay) ≡ new_ones ++ stay = sym (append_assoc an n.numbers stay) in
      let link-new : IsNew c.link (new_ones ++ stay) = new-join c.link new_ones stay ((apart).new).0 link-stay in
      let own-new : AreNew c.numbers (new_ones ++ stay) = all-join c.numbers new_ones stay ((apart).new).1 own-stay in
      let whole : AreDistinct (new_ones ++ stay) = subst AreDistinct here distinct.1 in
      let all : AreDistinct (c.link ∷ (new_ones ++ stay) ++ c.numbers) =
      distinct-join (c.link ∷ new_ones ++ stay) c.numbers (link-new, whole) (own).back (link-own, new-turned (new_ones ++ stay) c.numbers own-new) in
      record {
        placed = joins.placed;
        head = joins.head;
        apart = subst (λ (ns : List ℕ). AreDistinct (c.link ∷ ns ++ c.numbers)) (sym here) all;
      }

-- ---- the place of the base

reclaimed-same : (chains : List LogChain) (members : List Member) → reclaimed_by (chains ++ OfGroup members ∷ []) ≡ reclaimed_by chains
reclaimed-same [] members = refl
reclaimed-same (OfBase b ∷ chains) members = refl
reclaimed-same (OfGroup ms ∷ chains) members = refl
reclaimed-same (OfRun upto runs ∷ chains) members = refl
reclaimed-same (OfFloor f ∷ chains) members = refl

begins-more : (mark : ℕ) (back : List LogChain) (members : List Member) → BeginsLater mark back → mark < last_time_after 0 (heads_in members)
    → BeginsLater mark (back ++ OfGroup members ∷ [])
begins-more mark [] members begins later = later
begins-more mark (c ∷ back) members begins later = begins

last-any : (s t : ℕ) (heads : List Head) → 0 < length heads → last_time_after s heads ≡ last_time_after t heads
last-any s t [] some = absurd (omega (arith, some))
last-any s t (head ∷ heads) some = refl

none-early : (mark t : ℕ) (heads : List Head) → mark ≤ t → AreRisingAfter t heads → filter (λ (head : Head). nat_le head.time mark) heads ≡ []
none-early mark t [] le up = refl
none-early mark t (head ∷ heads) le up =
    let late : nat_le head.time mark ≡ false = not_le (omega (arith, le, up.0)) in
    rw late (none-early mark head.time heads (omega (arith, le, up.0)) up.2)

-- commits that rise behind what the chains tell
record RiseBehind (chains : List LogChain) (members : List Member) : Type 0 where
  pub some : 0 < length members
  pub few : length members ≤ 1024
  pub up : AreRisingAfter (last_time (told chains)) (heads_in members)

place-stays : (front back : List LogChain) (b : Base) (members : List Member) → KeepsChainRules (front ++ back)
    → reclaimed_by (front ++ back) ≤ last_time (told (front ++ back)) → RiseBehind (front ++ back) members → TakesPlace front back b
    → TakesPlace front (back ++ OfGroup members ∷ []) b
place-stays front back b members rules le rise place =
    let all = front ++ back in
    let group : List LogChain = OfGroup members ∷ [] in
    let heads = heads_in members in
    let early = λ (hs : List Head). filter (λ (head : Head). nat_le head.time b.upto) hs in
    let last = last_time (told all) in
    let many : 0 < length heads = omega (arith, rise.some, length-map (λ (m : Member). m.head) members) in
    let with : IsWithGroup all members = comes-behind all members rules le rise.some rise.few rise.up in
    let assoc : front ++ (back ++ group) ≡ all ++ group = sym (append_assoc front back group) in
    let tells : told (front ++ (back ++ group)) ≡ told all ++ Commits heads ∷ [] = ap told assoc ∙ with.tells in
    let mark : archive_mark (told (front ++ (back ++ group))) ≡ archive_mark (told all) =
    ap archive_mark tells ∙ archive_mark-append 0 (told all) (Commits heads ∷ []) in
    let old : reclaimed_by (front ++ (back ++ group)) ≡ reclaimed_by all = ap reclaimed_by assoc ∙ reclaimed-same all members in
    let low = (marked-heap (told all) (told-keeps all rules le)).archived in
    let later : b.upto < last_time_after 0 heads = omega (arith, place.upto, low, last-above last heads many rise.up, last-any 0 last heads many) in
    let none : early (heads ++ []) ≡ [] = ap early (append-nil heads) ∙ none-early b.upto last heads (omega (arith, place.upto, low)) rise.up in
    let named : early (heads_of (told (front ++ (back ++ group)))) ≡ early (heads_of (told all)) =
    ap (λ (log : List Slot). early (heads_of log)) tells
    ∙ ap early (heads_of-append (told all) (Commits heads ∷ []))
    ∙ filter-append (λ (head : Head). nat_le head.time b.upto) (heads_of (told all)) (heads ++ [])
    ∙ ap (λ l. early (heads_of (told all)) ++ l) none ∙ append-nil (early (heads_of (told all))) in
    record {
      upto = place.upto ∙ sym mark;
      front_ends = place.front_ends;
      back_begins = begins-more b.upto back members place.back_begins later;
      no_base = AllByRecursion-append IsNoBase back group place.no_base (tt, tt);
      names = place.names ∙ sym named;
      marks = place.marks ∙ ap (λ (r : ℕ). marks_of (told_from r [] front)) (sym old);
      floors = λ relation. place.floors relation ∙ ap (λ (r : ℕ). floor_of (told_from r [] front) relation) (sym old);
      in_range = place.in_range;
    }

-- ---- a group behind the log

module _ (most root : ℕ) (l : HeapLog) (reading : Reading) (h next : History Value) (floors : ℕ → ℕ) (numbers : List ℕ) (link : ℕ)
    (members : List stored.Member) (names : List Head) (front back : List PlacedChain) (n : NewBase)
    (is : IsLogOf most root l reading) (stands : StandsFor reading h floors) (group : IsGroupOf reading h next (map member_told members))
    (joins : MayJoin most l (placed_group numbers link members)) (beside : IsBesideBase (placed_group numbers link members) n)
    (are : AreNamesOf l.rolls names) (may : MayTakePlace most l names front back n) where
  abbrev pub c : PlacedChain
  c = placed_group numbers link members

  abbrev group_told : List Member
  group_told = map member_told members

  abbrev b : Base
  b = base_told n.names n.base

  tells : TellsBy l reading names
  tells = tells-by most root l reading h floors names is stands are

  split : chains_told names l.chains ≡ chains_told names front ++ chains_told names back
  split = ap (chains_told names) may.split ∙ map-append (λ (d : PlacedChain). chain_told names d.entry) front back

  rise : AreRisingAfter (last_time reading.log) (heads_in group_told)
  rise = group-rise reading h floors stands group_told next group (room reading (tells).heap)

  few : length group_told ≤ 1024
  few = subst (λ (k : ℕ). length group_told ≤ k) (most-is reading (tells).heap) group.few

  back-told : chains_told names (back ++ c ∷ []) ≡ chains_told names back ++ OfGroup group_told ∷ []
  back-told = map-append (λ (d : PlacedChain). chain_told names d.entry) back (c ∷ [])

  pub joins-behind : MayJoin most (with_new_base l n back) c
  joins-behind = joins-based most l c n joins beside front back may.split may.apart

  place : TakesPlace (chains_told names front) (chains_told names (back ++ c ∷ [])) b
  place =
      let first = chains_told names front in
      let rest = chains_told names back in
      let behind : RiseBehind (first ++ rest) group_told = record {
        some = group.some;
        few = few;
        up = subst (λ (log : List Slot). AreRisingAfter (last_time log) (heads_in group_told)) ((tells).log_is ∙ ap told split) rise;
      } in
      subst (λ (cs : List LogChain). TakesPlace first cs b) (sym back-told)
      (place-stays first rest b group_told (subst KeepsChainRules split (tells).rules)
      (subst (λ (cs : List LogChain). reclaimed_by cs ≤ last_time (told cs)) split (tells).reclaimed) behind may.place)

  pub base-stays : MayTakePlace most (with_chain l c) names front (back ++ c ∷ []) n
  base-stays =
      let base = placed_base n.numbers n.link n.base in
      let behind = joins-behind in
      record {
        split = ap (λ (cs : List PlacedChain). cs ++ c ∷ []) may.split ∙ append_assoc front back (c ∷ []);
        placed = may.placed;
        chained = chained-more n.link l.next back c may.chained joins.head;
        apart = subst (λ (ns : List ℕ). AreDistinct (link ∷ ns)) (sym (live-more (with_new_base l n back) c)) behind.apart;
        anchors = may.anchors;
        anchors_named = may.anchors_named;
        rolls_named = may.rolls_named;
        runs_named = may.runs_named;
        each_roll = may.each_roll;
        archive_apart = may.archive_apart;
        archives_in_row = subst (λ (rs : List Run). AreSpansInRow 0 (map run_span rs))
            (sym (none-more (λ (d : PlacedChain). archives_in d.entry) (base ∷ back) c refl)) may.archives_in_row;
        rolls_in_row = may.rolls_in_row;
        are_names = may.are_names;
        place = place;
      }

  -- the image reads the same, whichever comes first
  pub same-behind : IsSameBehind most l reading numbers link members names back n
  same-behind =
      let olds = (n.anchors).records in
      let rest = chains_told names back in
      let log = told (OfBase b ∷ rest) in
      let placed : IsInPlace reading names back n = in-place most l reading names front back n tells may in
      let based : IsBased (archive_mark reading.log) reading.log log = placed.based in
      let last : last_time log ≡ last_time reading.log = ap (last_time_after 0) based.heads in
      let low = (marked reading h floors stands).archived in
      let upto : b.upto ≡ archive_mark reading.log = (may.place).upto ∙ ap archive_mark (sym ((tells).log_is ∙ ap told split)) in
      let with : IsWithGroup (OfBase b ∷ rest) group_told =
      comes-behind (OfBase b ∷ rest) group_told placed.rules (omega (arith, upto, low, last)) group.some few
      (subst (λ (t : ℕ). AreRisingAfter t (heads_in group_told)) (sym last) rise) in
      let log_is : told (OfBase b ∷ chains_told names (back ++ c ∷ [])) ≡ log ++ Commits (heads_in group_told) ∷ [] =
      ap (λ (cs : List LogChain). told (OfBase b ∷ cs)) back-told ∙ with.tells in
      record {
        log = refl;
        reads = ap (with_base (with_group reading group_told) olds) log_is
            ∙ sym (group-beside reading olds log group_told (all-above (archived_upto reading) (last_time reading.log) group_told low rise));
        joins = joins-behind;
      }
    where
      all-above : (mark t : ℕ) (ms : List Member) → mark ≤ t → AreRisingAfter t (heads_in ms) → AllByRecursion (λ (m : Member). mark < m.head.time) ms
      all-above mark t [] le up = tt
      all-above mark t (m ∷ ms) le up = (omega (arith, le, up.0), all-above mark m.head.time ms (omega (arith, le, up.0)) up.2)

-- ---- the plan of the anchors

pub plan-stays : (most root : ℕ) (l : HeapLog) (reading : Reading) (h next : History Value) (floors : ℕ → ℕ) (group : List Member) (olds : List OldRecord)
    → IsLogOf most root l reading → StandsFor reading h floors → IsGroupOf reading h next group → IsReclaimPlan reading olds
    → IsReclaimPlan (with_group reading group) olds
plan-stays most root l reading h next floors group olds is stands joins plan =
    let heap : is_in_heap reading.profile ≡ true = ap (λ (r : Reading). is_in_heap r.profile) is.reading_is in
    reclaim-plan-stays reading h next floors group stands joins (room reading heap) olds plan
