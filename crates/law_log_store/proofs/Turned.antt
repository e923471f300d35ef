-- The log that a base begins, in the place of the one that it was made beside.
use Rattle.std.proofs.Common.{◌≡◌, ◌≢◌, ℕ, Bool, true, false, List, [], ◌∷◌, ◌++◌, map, Option, None, Some, refl}
use Rattle.std.proofs.Common.{arith, ap, sym}
use Rattle.std.proofs.Common.{subst, ◌∙◌, append_assoc}
use Rattle.std.specs.Prelude.{flat_map, option_to_list}
use Rattle.std.specs.List.{AllByRecursion}
use mathlib.Core.Path.{fun_ext}
use Rattle.std.proofs.lemmas.List.{map-append}
use Rattle.std.proofs.lemmas.Grind.{flat_map-append}
use Rattle.history.specs.Histories.{History}
use Rattle.history.proofs.Filters.{AllByRecursion-append}
use Rattle.disk.specs.Areas.{AreaState, Areas, AreSound}
use Rattle.disk.specs.Parts.{KeepsPart}
use Rattle.law_image.specs.Values.{Value}
use Rattle.law_image.specs.Reading.{Commits, Head, Reading}
use Rattle.law_image.specs.Reading as readings
use Rattle.law_image.specs.Facts.{values_now}
use Rattle.law_image.specs.Plans.{IsGroupOf, with_group}
use Rattle.law_image.specs.StandsFor.{StandsFor, archived_upto, reclaimed_upto}
use Rattle.law_image.proofs.GroupStep.{group-stands_for}
use Rattle.law_image.proofs.Logs.{archive_mark-append}
use Rattle.law_image.proofs.Standing.{archived-range, last-range}
use Rattle.law_log.specs.Chains.{OfBase, told}
use Rattle.law_layout.proofs.Lists.{all_of_front, all_of_back}
use Rattle.log_extents.specs.Chains.{first_or, IsNew, AreDistinct}
use Rattle.log_extents.specs.Extents.{LinkedExtent}
use Rattle.log_entries.specs.declared.entry.Member.{Member}
use Rattle.log_writer.specs.Turns.{extent_part, Part, Stage}
use Rattle.law_log_layout.specs.HeapLog.{PlacedChain, PlacedAnchors, PlacedRoll, HeapLog, heap_parts, live_numbers, anchor_extents, extents_of, name_bytes}
use Rattle.law_log_layout.specs.HeapLog.{IsLogOf, KeepsShares, MayJoin, base_told, chains_told, member_told, placed_group, turn_of, with_chain}
use Rattle.law_log_layout.specs.Laws.{KeepsArchive, KeepsLog, IsEntryWay}
use Rattle.law_log_layout.specs.Reclaims.{NewBase, placed_base, with_new_base, based_reading, new_parts}
use Rattle.law_log_layout.specs.Behind.{IsBesideBase, IsSameBehind}
use Rattle.law_log_layout.specs.Turns.{KeepsAll, IsAt}
use Rattle.law_log_layout.proofs.Beside.{chain-among-others}
use Rattle.law_log_layout.proofs.BasedShares.{small-base}
use Rattle.law_log_layout.proofs.GroupGoes.{group-goes}
use Rattle.law_log_layout.proofs.GroupJoins.{room, group-is_log}
use Rattle.law_log_layout.proofs.Places.{ArePart, AreNew, distinct-parts, new-front}
use Rattle.law_log_layout.proofs.SameHistory.{values-stay, group-of_both}
use Rattle.law_log_layout.proofs.StaysBehind.{base-stays, free-stays, plan-stays, same-behind}
use Rattle.law_log_sizes.specs.Sizes.{size_now}
use Rattle.law_log_sizes.proofs.Bases.{base-keeps}
use Rattle.law_log_sizes.proofs.Orders.{standing-ordered}
use Rattle.law_log_store.specs.Named.{IsNamedBy}
use Rattle.law_log_store.specs.Reclaiming.{PlanValue, IsBaseOf, AreAnchorsOf, IsRollBehind, KeepsRoll, written_of}
use Rattle.law_log_store.proofs.Flags.{distinct-join}
use Rattle.law_log_store.proofs.Joining.{in-heap}
use Rattle.law_log_store.proofs.Naming.{named-same}
use Rattle.law_log_store.proofs.Spans.{behind-same}

-- ---- what the disk has of it

-- the anchors that it names are among what is written, or they are those of the log
anchors-kept : (makes : Bool) (l : HeapLog) (n : NewBase) (a : AreaState) → AreAnchorsOf makes l n → KeepsAll (heap_parts l) a
    → KeepsAll (new_parts (written_of makes n)) a → KeepsAll (map extent_part (anchor_extents n.anchors)) a
anchors-kept true l n a stand log made =
    let base = extents_of (placed_base n.numbers n.link n.base) in
    all_of_front (λ (p : Part). KeepsPart p.place p.bytes a) (map extent_part (anchor_extents n.anchors)) (map extent_part base)
    (subst (λ (ps : List Part). KeepsAll ps a) (map-append extent_part (anchor_extents n.anchors) base) made)
anchors-kept false l n a stand log made =
    let chains = flat_map extents_of l.chains in
    let all : KeepsAll (map extent_part (anchor_extents l.anchors)) a =
    all_of_front (λ (p : Part). KeepsPart p.place p.bytes a) (map extent_part (anchor_extents l.anchors)) (map extent_part chains)
    (subst (λ (ps : List Part). KeepsAll ps a) (map-append extent_part (anchor_extents l.anchors) chains) log) in
    subst (λ (anchors : PlacedAnchors). KeepsAll (map extent_part (anchor_extents anchors)) a) (sym stand) all

base-kept : (makes : Bool) (n : NewBase) (a : AreaState) → KeepsAll (new_parts (written_of makes n)) a
    → KeepsAll (map extent_part (extents_of (placed_base n.numbers n.link n.base))) a
base-kept true n a made =
    let base = extents_of (placed_base n.numbers n.link n.base) in
    all_of_back (λ (p : Part). KeepsPart p.place p.bytes a) (map extent_part (anchor_extents n.anchors)) (map extent_part base)
    (subst (λ (ps : List Part). KeepsAll ps a) (map-append extent_part (anchor_extents n.anchors) base) made)
base-kept false n a made = made

-- the chains behind the front stay
stay-kept : (l : HeapLog) (front back : List PlacedChain) (a : AreaState) → l.chains ≡ front ++ back → KeepsAll (heap_parts l) a
    → KeepsAll (map extent_part (flat_map extents_of back)) a
stay-kept l front back a split log =
    let first : List LinkedExtent = anchor_extents l.anchors ++ flat_map extents_of front in
    let stay = flat_map extents_of back in
    let are : heap_parts l ≡ map extent_part first ++ map extent_part stay =
    ap (λ (cs : List PlacedChain). map extent_part (anchor_extents l.anchors ++ flat_map extents_of cs)) split
    ∙ ap (λ (es : List LinkedExtent). map extent_part (anchor_extents l.anchors ++ es)) (flat_map-append extents_of front back)
    ∙ ap (map extent_part) (sym (append_assoc (anchor_extents l.anchors) (flat_map extents_of front) stay))
    ∙ map-append extent_part first stay in
    all_of_back (λ (p : Part). KeepsPart p.place p.bytes a) (map extent_part first) (map extent_part stay)
    (subst (λ (ps : List Part). KeepsAll ps a) are log)

-- so all of it is
pub parts-based : (makes : Bool) (l : HeapLog) (n : NewBase) (front back : List PlacedChain) (a : AreaState) → l.chains ≡ front ++ back
    → AreAnchorsOf makes l n → KeepsAll (heap_parts l) a → KeepsAll (new_parts (written_of makes n)) a → KeepsAll (heap_parts (with_new_base l n back)) a
parts-based makes l n front back a split stand log made =
    let P : Part → Type 0 = λ p. KeepsPart p.place p.bytes a in
    let anchors = anchor_extents n.anchors in
    let base = extents_of (placed_base n.numbers n.link n.base) in
    let stay = flat_map extents_of back in
    let are : map extent_part (anchors ++ (base ++ stay)) ≡ map extent_part anchors ++ (map extent_part base ++ map extent_part stay) =
    map-append extent_part anchors (base ++ stay) ∙ ap (λ (ps : List Part). map extent_part anchors ++ ps) (map-append extent_part base stay) in
    subst (λ (ps : List Part). KeepsAll ps a) (sym are)
    (AllByRecursion-append P (map extent_part anchors) (map extent_part base ++ map extent_part stay) (anchors-kept makes l n a stand log made)
    (AllByRecursion-append P (map extent_part base) (map extent_part stay) (base-kept makes n a made) (stay-kept l front back a split log)))

pub log-based : (makes : Bool) (l : HeapLog) (n : NewBase) (front back : List PlacedChain) (a : AreaState) → l.chains ≡ front ++ back
    → AreAnchorsOf makes l n → KeepsLog l a → KeepsAll (new_parts (written_of makes n)) a → KeepsLog (with_new_base l n back) a
log-based makes l n front back a split stand log made =
    record { parts = parts-based makes l n front back a split stand log.parts made; ends = log.ends }

-- and what it names in the archive
pub archive-based : (l : HeapLog) (n : NewBase) (more : Option PlacedRoll) (back : List PlacedChain) (a : AreaState)
    → n.rolls ≡ l.rolls ++ option_to_list more → KeepsArchive l a → KeepsRoll more a → KeepsArchive (with_new_base l n back) a
archive-based l n more back a are keeps roll =
    let P : PlacedRoll → Type 0 = λ r. KeepsPart r.roll.start (flat_map name_bytes r.names) a in
    record {
      rolls = subst (AllByRecursion P) (sym are) (AllByRecursion-append P l.rolls (option_to_list more) keeps.rolls (by-roll more roll));
      runs = keeps.runs;
    }
  where
    by-roll : (m : Option PlacedRoll) → KeepsRoll m a
        → AllByRecursion (λ (r : PlacedRoll). KeepsPart r.roll.start (flat_map name_bytes r.names) a) (option_to_list m)
    by-roll None kept = tt
    by-roll (Some p) kept = (kept, tt)

-- ---- with a chain behind the log

-- a chain apart from what is written is apart from the anchors that stand too
pub beside-all : (most : ℕ) (makes : Bool) (l : HeapLog) (n : NewBase) (back : List PlacedChain) (c : PlacedChain)
    → AreDistinct (l.next ∷ live_numbers (with_new_base l n back)) → AreAnchorsOf makes l n → MayJoin most l c → IsBesideBase c (written_of makes n)
    → IsBesideBase c n
beside-all most true l n back c apart stand joins beside = beside
beside-all most false l n back c apart stand joins beside =
    distinct-join (first ++ n.numbers) (c.link ∷ c.numbers)
    (distinct-join first n.numbers (named).front (distinct-parts n.numbers rest (named).back).front
    (all_of_front (λ (m : ℕ). IsNew m first) n.numbers rest (named).new))
    (own).back (joined (c.link ∷ c.numbers) from-log (own).new)
  where
    first : List ℕ
    first = (n.anchors).numbers

    rest : List ℕ
    rest = flat_map (λ (d : PlacedChain). d.numbers) back

    named : ArePart first (n.numbers ++ rest)
    named = distinct-parts first (n.numbers ++ rest) apart.1

    own : ArePart n.numbers (c.link ∷ c.numbers)
    own = distinct-parts n.numbers (c.link ∷ c.numbers) beside

    fronts : (xs ys ms : List ℕ) → AreNew ms (xs ++ ys) → AreNew ms xs
    fronts xs ys [] new = tt
    fronts xs ys (m ∷ ms) new = (new-front m xs ys new.0, fronts xs ys ms new.1)

    from-log : AreNew (c.link ∷ c.numbers) first
    from-log =
        let chains = flat_map (λ (d : PlacedChain). d.numbers) l.chains in
        let live = live_numbers l in
        let parts : ArePart live c.numbers = distinct-parts live c.numbers (joins.apart).1 in
        subst (λ (a : PlacedAnchors). AreNew (c.link ∷ c.numbers) a.numbers) (sym stand) (
          new-front c.link l.anchors.numbers chains (new-front c.link live c.numbers (joins.apart).0),
          fronts l.anchors.numbers chains c.numbers parts.new,
        )

    joined : (ms : List ℕ) → AreNew ms first → AreNew ms n.numbers → AreNew ms (first ++ n.numbers)
    joined [] a b = tt
    joined (m ∷ ms) a b = (AllByRecursion-append (λ (k : ℕ). k ≢ m) first n.numbers a.0 b.0, joined ms a.1 b.1)

pub stand-more : (makes : Bool) (l : HeapLog) (c : PlacedChain) (n : NewBase) → AreAnchorsOf makes l n → AreAnchorsOf makes (with_chain l c) n
stand-more true l c n stand = tt
stand-more false l c n stand = stand

pub roll-more : (more : Option PlacedRoll) (l : HeapLog) (numbers : List ℕ) (link : ℕ) (members : List Member) → IsRollBehind more l
    → IsRollBehind more (with_chain l (placed_group numbers link members))
roll-more None l numbers link members behind = tt
roll-more (Some p) l numbers link members behind = behind-same p.roll.start l (placed_group numbers link members) refl behind

-- ---- the log and what it tells

module _ (most root : ℕ) (l : HeapLog) (reading : Reading) (h : History Value) (floors : ℕ → ℕ) (plan : PlanValue) (is : IsLogOf most root l reading)
    (stands : StandsFor reading h floors) (b : IsBaseOf most l reading plan) where
  abbrev pub based : HeapLog
  based = with_new_base l b.n b.back

  abbrev pub then-reads : Reading
  then-reads = based_reading reading b.names b.n b.back

  -- it stands for the same history
  pub based-is : IsLogOf most (first_or 0 (b.n).numbers) based then-reads × StandsFor then-reads h floors
  based-is = small-base most root l reading h floors b.names b.front b.back b.n is stands b.are_names b.may b.reclaims b.small

  pub based-values : values_now reading ≡ values_now then-reads
  based-values = fun_ext (λ key. values-stay reading then-reads h floors floors stands (based-is).1 key)

  -- the anchors of the state behind the last commit take as many bytes
  pub based-size : size_now then-reads ≡ size_now reading
  based-size =
      let plan = b.reclaims in
      let kept =
      base-keeps (reclaimed_upto reading) reading ((b.n).anchors).records
      (told (OfBase (base_told (b.n).names (b.n).base) ∷ chains_told b.names b.back))
      (standing-ordered reading h floors stands) stands.homes.marks
      (omega (arith, archived-range reading h floors stands, last-range reading h floors stands)) (record { each = plan.each; rising = plan.rising }) in
      kept.last_is

  -- ---- with a group behind the log

  module _ (next : History Value) (numbers : List ℕ) (link : ℕ) (members : List Member) (group : IsGroupOf reading h next (map member_told members))
      (joins : MayJoin most l (placed_group numbers link members))
      (shares : KeepsShares most (with_chain l (placed_group numbers link members)) (with_group reading (map member_told members)))
      (beside : IsBesideBase (placed_group numbers link members) (written_of plan.makes b.n)) where
    abbrev pub chain : PlacedChain
    chain = placed_group numbers link members

    abbrev pub more-reads : Reading
    more-reads = with_group reading (map member_told members)

    pub beside-base : IsBesideBase chain b.n
    beside-base = let may = b.may in beside-all most plan.makes l b.n b.back chain may.apart b.stand joins beside

    pub same : IsSameBehind most l reading numbers link members b.names b.back b.n
    same =
        same-behind most root l reading h next floors numbers link members b.names b.front b.back b.n is stands group joins beside-base b.are_names b.may

    pub log-more : IsLogOf most root (with_chain l chain) more-reads
    log-more = group-is_log most root l reading h next floors numbers link members is stands group joins shares

    pub stands-more : StandsFor more-reads (h ++ next) floors
    stands-more = group-stands_for reading h floors stands (map member_told members) next group (room reading (in-heap most root l reading is))

    pub mark-more : archived_upto (with_group then-reads (map member_told members)) ≡ archived_upto then-reads
    mark-more = archive_mark-append 0 (then-reads).log (Commits (map (λ (m : readings.Member). m.head) (map member_told members)) ∷ [])

    -- the base may take the place of the same front
    abbrev pub base-published : IsBaseOf most (with_chain l chain) more-reads plan
    base-published = record {
      n = b.n;
      more = b.more;
      names = b.names;
      front = b.front;
      back = b.back ++ chain ∷ [];
      base_is = b.base_is;
      numbers_are = b.numbers_are;
      anchors_are = b.anchors_are;
      rolls_are = b.rolls_are;
      many = b.many;
      are_names = b.are_names;
      may =
          base-stays most root l reading h next floors numbers link members b.names b.front b.back b.n is stands group joins beside-base b.are_names b.may;
      reclaims = plan-stays most root l reading h next floors (map member_told members) ((b.n).anchors).records is stands group b.reclaims;
      small = b.small;
      free = free-stays most l chain (written_of plan.makes b.n) joins beside b.free;
      stand = stand-more plan.makes l chain b.n b.stand;
      behind = roll-more b.more l numbers link members b.behind;
      named =
          subst (λ (m : HeapLog). IsNamedBy plan.named m (based_reading more-reads b.names b.n (b.back ++ chain ∷ []))) (sym (same).log)
          (subst (λ (r : Reading). IsNamedBy plan.named (with_chain based chain) r) (sym (same).reads)
          (named-same plan.named based chain then-reads (with_group then-reads (map member_told members)) refl refl mark-more b.named));
    }

    -- ---- the group behind the log that the base begins

    pub joins-based : MayJoin most based chain
    joins-based = (same).joins

    pub log-same : with_new_base (with_chain l chain) b.n (b.back ++ chain ∷ []) ≡ with_chain based chain
    log-same = (same).log

    pub group-based : IsGroupOf then-reads h next (map member_told members)
    group-based = group-of_both reading then-reads h floors floors stands (based-is).1 next (map member_told members) refl group

    pub shares-behind : KeepsShares most (with_chain based chain) (with_group then-reads (map member_told members))
    shares-behind =
        let then =
        small-base most root (with_chain l chain) more-reads (h ++ next) floors b.names b.front (b.back ++ chain ∷ []) b.n log-more stands-more b.are_names
        (base-published).may (base-published).reclaims b.small in
        let shares = (then.0).shares in
        subst (λ (r : Reading). KeepsShares most (with_chain based chain) r) (same).reads
        (subst (λ (m : HeapLog). KeepsShares most m (based_reading more-reads b.names b.n (b.back ++ chain ∷ []))) (same).log shares)

    pub way-based : (stage : Stage) (areas : Areas) → AreSound areas → KeepsArchive based areas.archive → KeepsAll (heap_parts based) areas.heap
        → IsAt (heap_parts l) (turn_of l.next chain) stage areas.heap
        → IsEntryWay most (first_or 0 (b.n).numbers) based (with_chain based chain) chain h (h ++ next) floors floors stage areas
    way-based stage areas sound archive keeps at =
        group-goes most (first_or 0 (b.n).numbers) based then-reads h next floors numbers link members stage areas (based-is).0 (based-is).1 group-based
        joins-based shares-behind sound archive
        (chain-among-others (heap_parts l) (heap_parts based) (turn_of l.next chain) stage areas.heap keeps at)
