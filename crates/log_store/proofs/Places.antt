-- What is read of an image has a place in memory.
use Rattle.std.specs.Prelude.{Err}
use Rattle.std.proofs.Common.{◌≡◌, ◌≢◌, ℕ, ◌+◌, ◌*◌, ◌/◌, ◌<◌, ◌≤◌, ◌^◌, max, Bool, false, List, [], ◌∷◌, ◌++◌, length, drop, map, replicate}
use Rattle.std.proofs.Common.{refl, arith, ap, sym, subst, ◌∙◌, length-append}
use Rattle.std.proofs.lemmas.List.{length-replicate}
use Rattle.std.specs.List.{AllByRecursion}
use Rattle.disk.specs.Areas.{Image}
use Rattle.law_image.specs.Reading.{Head}
use Rattle.law_image.specs.Log.{AreRisingAfter}
use Rattle.law_image.specs.Log as logs
use Rattle.group.specs.CommitOrder.{IsRisingAfter, last_time_after}
use Rattle.log_extents.specs.Chains.{count_of, IsNumberOf, AreDistinct}
use Rattle.log_space.specs.Uses.{all_used, used_count}
use Rattle.log_space.proofs.Uses.{used_are_counted, used_in_turn, all_used_len}
use Rattle.law_log_layout.specs.HeapLog.{PlacedChain, PlacedAnchors, IsPlaced, chains_told}
use Rattle.law_log_sizes.specs.Sizes.{anchors_len, greatest, len_from, lens_behind}
use Rattle.law_log_sizes.proofs.Sizes.{all-within}
use Rattle.log_roots.specs.Roots.{IsHeapSize}
use Rattle.recovery.specs.Refusals.{refusals_at_opening}
use Rattle.recovery.specs.declared.fault.OpenFault.{OpenFault}
use Rattle.recovery.specs.declared.fault.OpenFault.TheVariants.{NotAStore, Damaged, Device, NoMemory}
use Rattle.log_recovery.specs.declared.members_read.CommitName.{CommitName}
use Rattle.log_recovery.specs.declared.opening.LogHeap.{LogHeap}
use Rattle.log_recovery.specs.declared.image.LogRecovered.{LogRecovered}
use Rattle.log_recovery.specs.Chains.{AreWalked, numbers_of, uses_of}
use Rattle.log_recovery.specs.Rules.{mark_of, no_log}
use Rattle.log_recovery.specs.Ends.{IsEnd}
use Rattle.log_recovery.specs.Live.{LiveChainValue, live_count}
use Rattle.log_recovery.specs.Members.{name_told, heads_told, values_of, members_of_all}
use Rattle.log_recovery.specs.Opening.{IsImageFault}
use Rattle.log_recovery.specs.Read.{IsHeapRead}
use Rattle.log_recovery.specs.Image.{IsReadFrom}
use Rattle.log_recovery.proofs.Walking.{AreApart, walked_apart, all_joined}
use Rattle.log_recovery.proofs.Deciding.{end_decides}
use Rattle.log_recovery.proofs.Lives.{lives-count}
use Rattle.log_recovery.proofs.Sized.{follow-all}
use Rattle.log_room.specs.Rooms.{MayOpen}
use Rattle.log_store.specs.Live.{IsNoBase, AreNumbers, HasNumbers}
use Rattle.log_store.specs.Opens.{head_as, HasPlace, IsPartsFault}
use Rattle.log_store.proofs.LivesRead.{wider, placed-numbers, none-behind-first}
use Rattle.log_store.proofs.Rooms.{numbers-count, last-keeps}

-- ---- the commit order

-- what rises after a time does after an earlier one
rising-as : (before mark : ℕ) (names : List CommitName) → before ≤ mark → AreRisingAfter mark (map name_told names) → IsRisingAfter before (map head_as names)
rising-as before mark [] low rising = tt
rising-as before mark (n ∷ ns) low rising = (omega (arith, low, rising.0), rising.1, rising-as n.time n.time ns (omega arith) rising.2)

-- the last time is that of the last of them, or the mark
last-as : (before mark : ℕ) (names : List CommitName) → logs.last_time_after mark (map name_told names) ≤ max mark (last_time_after before (map head_as names))
last-as before mark [] = omega arith
last-as before mark (n ∷ ns) = later n.time n.time ns mark refl
  where
    later : (a b : ℕ) (ms : List CommitName) (least : ℕ) → a ≡ b
        → logs.last_time_after a (map name_told ms) ≤ max least (last_time_after b (map head_as ms))
    later a b [] least same = omega (arith, same)
    later a b (m ∷ ms) least same = later m.time m.time ms least refl

-- ---- the chains

walked-placed : (most : ℕ) (heap taken : List ℕ) (number : ℕ) (chains : List PlacedChain) (end : ℕ) → AreWalked most heap taken number chains end
    → AllByRecursion (IsPlaced most) chains
walked-placed most heap taken number [] end walked = tt
walked-placed most heap taken number (c ∷ cs) end walked = (walked.0.placed, walked-placed most heap (taken ++ c.numbers) c.link cs end walked.1)

module _ (most root : ℕ) (heap : List ℕ) (read : LogHeap) (size : IsHeapSize most) (is : IsHeapRead most root heap read) where
  abbrev chains : List PlacedChain
  chains = is.chains

  abbrev anchors : PlacedAnchors
  anchors = is.anchors

  abbrev mark : ℕ
  mark = mark_of chains

  apart-now : AreApart most (numbers_of chains)
  apart-now =
      let keeps = is.holds.before.before.before in
      walked_apart most heap [] root chains read.next (record { in_range = tt; distinct = tt }) keeps.chains_hold.walked

  in-range : AllByRecursion (IsNumberOf most) (numbers_of chains ++ anchors.numbers)
  in-range =
      let right = is.holds.before.before.anchors in
      all_joined (IsNumberOf most) (numbers_of chains) anchors.numbers apart-now.in_range right.placed.in_range

  abbrev greatest_len : ℕ
  greatest_len = greatest (anchors_len anchors.records) (lens_behind (anchors_len anchors.records) (values_of anchors.records) (members_of_all mark chains))

  abbrev bound : ℕ
  bound = (3 * most) / 16

  ends : IsEnd most (length heap) read.next read.space read.end chains greatest_len
  ends =
      let right = is.holds.ends in
      (end_decides most root heap chains read.next anchors read.end read.space greatest_len is.holds.before.before right.number in-range is.end_is is.space_is
      refl).1 right

  within : AllByRecursion (λ n. count_of n ≤ bound)
      (anchors_len anchors.records ∷ lens_behind (anchors_len anchors.records) (values_of anchors.records) (members_of_all mark chains))
  within =
      all-within bound (anchors_len anchors.records) (lens_behind (anchors_len anchors.records) (values_of anchors.records) (members_of_all mark chains))
      ends.anchors

  -- the anchors of the last state are counted exactly
  pub len-is : read.members.sizes.len ≡ len_from (anchors_len anchors.records) (values_of anchors.records) (members_of_all mark chains)
  len-is =
      let few = ends.anchors in
      let most_few = size.most in
      (is.sizes.exact (omega (arith, few, most_few))).0

  len-fits : count_of read.members.sizes.len ≤ bound
  len-fits =
      subst (λ n. count_of n ≤ bound) (sym len-is)
      (last-keeps (λ n. count_of n ≤ bound) (anchors_len anchors.records) (values_of anchors.records) (members_of_all mark chains) within)

  used-long : length read.space ≡ most
  used-long =
      ap (λ (used : List Bool). length used) is.space_is ∙ all_used_len (uses_of most chains) anchors.numbers
      ∙ all_used_len (replicate most false) (numbers_of chains) ∙ length-replicate most false

  used-many : used_count read.space ≡ length (numbers_of chains) + length anchors.numbers
  used-many =
      let right = is.holds.before.before.anchors in
      ap used_count (is.space_is ∙ sym (used_in_turn (replicate most false) (numbers_of chains) anchors.numbers))
      ∙ used_are_counted most (numbers_of chains ++ anchors.numbers) in-range right.apart
      ∙ length-append (numbers_of chains) anchors.numbers

  anchors-few : length anchors.numbers ≤ bound
  anchors-few =
      let right = is.holds.before.before.anchors in
      subst (λ (n : ℕ). n ≤ bound) (sym right.placed.count) within.0

  few-extents : most ≤ 2 ^ 20
  few-extents = let high = size.most in omega (arith, high)

  pub has-place : HasPlace read
  has-place = record {
    room = record {
      low = let least = size.least in omega (arith, used-long, least);
      high = let high = size.most in omega (arith, used-long, high);
      free = ends.seen.free;
      few =
          let keeps = is.holds.before.before.before in
          let placed = walked-placed most heap [] root chains read.next keeps.chains_hold.walked in
          let many = numbers-count most [] chains placed ends.base (follow-all mark no_log chains keeps.rules) in
          let log = is.log_is in
          omega (arith, used-many, many, anchors-few, used-long, log);
      half = let log = ends.log in let log_is = is.log_is in omega (arith, log, log_is, used-long);
      anchors = subst (λ (n : ℕ). count_of read.members.sizes.len ≤ (3 * n) / 16) (sym used-long) len-fits;
    };
    order = record {
      rising =
          let facts = is.facts in
          rising-as 0 mark read.members.commits.items (omega arith) (subst (AreRisingAfter mark) (sym facts.commits) facts.rising);
      last =
          let facts = is.facts in
          let same : read.members.last ≡ logs.last_time_after mark (map name_told read.members.commits.items) =
          facts.last_is ∙ ap (logs.last_time_after mark) (sym facts.commits) in
          let marked : read.end.mark ≡ mark = is.end_is.says.mark_is in
          let last = last-as 0 mark read.members.commits.items in
          omega (arith, same, marked, last);
    };
    live = record {
      numbers =
          let keeps = is.holds.before.before.before in
          subst (λ (cs : List LiveChainValue). AllByRecursion HasNumbers cs) (sym is.live_are)
          (placed-numbers most chains few-extents (walked-placed most heap [] root chains read.next keeps.chains_hold.walked));
      behind =
          let keeps = is.holds.before.before.before in
          subst (λ (cs : List LiveChainValue). AllByRecursion IsNoBase (drop 1 cs)) (sym is.live_are)
          (none-behind-first [] chains (follow-all mark no_log chains keeps.rules));
      anchors =
          let right = is.holds.before.before.anchors in
          subst (λ (ns : List ℕ). AreNumbers ns) (sym is.anchors_are) (wider most anchors.numbers few-extents right.placed.in_range);
    };
  }

pub place-of-image : (image : Image) (read : LogRecovered) → IsReadFrom image read → HasPlace read.heap
place-of-image image read is =
    let has = is.roots.has in
    has-place read.roots.extents (Rattle.log_roots.specs.Roots.root_of read.roots) image.heap read.heap has.in_range.size is.heap

-- the extents that count as the log's are those of its chains in memory, the base aside, and the one where it ends
pub image-counts : (image : Image) (read : LogRecovered) → IsReadFrom image read → read.heap.log ≡ live_count read.heap.live.items + 1
image-counts image read is =
    let heap = is.heap in
    heap.log_is ∙ ap (λ (n : ℕ). n + 1) (sym (lives-count heap.chains) ∙ ap live_count (sym heap.live_are))

-- ---- why nothing is opened

-- of an image that was read only memory can lack
pub parts-fault : (image : Image) (read : LogRecovered) (why : OpenFault) → IsReadFrom image read → IsPartsFault read why → IsImageFault image why
parts-fault image read NotAStore is fault = absurd fault
parts-fault image read (Damaged area place) is fault = absurd (fault (place-of-image image read is))
parts-fault image read Device is fault = absurd fault
parts-fault image read NoMemory is fault = tt

-- no refused call is counted with it
pub parts-refusals : (read : LogRecovered) (why : OpenFault) (n : ℕ) → IsPartsFault read why → n ≡ refusals_at_opening {T = Unit {0}} (Err why) n
parts-refusals read NotAStore n fault = absurd fault
parts-refusals read (Damaged area place) n fault = refl
parts-refusals read Device n fault = absurd fault
parts-refusals read NoMemory n fault = refl
