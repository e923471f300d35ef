-- The heap, read check by check.
use Rattle.std.proofs.Common.{◌≡◌, ℕ, ◌^◌, ◌<◌, ◌≤◌, max, Bool, false, List, [], ◌∷◌, ◌++◌, length, map, refl, sym, ◌∙◌, ap, subst, arith}
use Rattle.std.specs.Prelude.{flat_map, replicate}
use Rattle.std.specs.List.{AllByRecursion}
use Rattle.std.proofs.lemmas.Bool.Decides.{nat_tests}
use Rattle.disk.specs.declared.area.Area.TheVariants.{Status, Heap, Archive}
use Rattle.recovery.specs.declared.fault.OpenFault.{OpenFault}
use Rattle.recovery.specs.declared.fault.OpenFault.TheVariants.{NotAStore, Damaged, Device, NoMemory}
use Rattle.log_extents.specs.Chains.{IsNumberOf, AreDistinct}
use Rattle.law_log.specs.Chains.{LogChain}
use Rattle.law_image.specs.Log.{AreRisingAfter}
use Rattle.log_entries.specs.declared.entry.AnchorName.{AnchorName}
use Rattle.log_entries.specs.declared.entry.Entry.{Entry}
use Rattle.log_entries.specs.declared.entry.Entry.TheVariants.{Group, Archived, Floor}
use Rattle.log_entries.specs.declared.entry.Entry.TheVariants as entries
use Rattle.law_log_layout.specs.HeapLog.{PlacedChain, PlacedAnchors, anchors_in}
use Rattle.law_log_layout.proofs.Places.{distinct-parts}
use Rattle.log_space.specs.Uses.{all_used}
use Rattle.log_recovery.specs.Taking.{AreClaimable}
use Rattle.log_recovery.specs.Chains.{numbers_of, uses_of, HasEntry}
use Rattle.log_recovery.specs.Rules.{no_log, mark_of, MayAllComeBehind}
use Rattle.log_recovery.specs.Anchored.{AreRightAnchors, anchor_names, first_names, FailsAnchors, AreAnchorsAt, TakesAnchors, HasNoAnchors, IsFirstOf}
use Rattle.log_recovery.specs.Anchored.{IsAnchorsFault}
use Rattle.log_recovery.specs.Members.{values_of, heads_told, members_of_all, FailsMembers, IsMembersFault}
use Rattle.log_recovery.specs.Opening.{KeepsRules, HoldsAnchors, FailsHeap, AtAnchors, AtMembers, IsHeapFault}
use Rattle.log_recovery.specs.declared.anchors.AnchorsRead.{AnchorsRead}
use Rattle.log_recovery.proofs.Walking.{AreApart, walked_apart, all_joined, claimable_is_apart, apart_is_claimable}
use Rattle.log_recovery.proofs.Named.{names_are_first}
use Rattle.log_recovery.proofs.Later.{members_rise}

-- ---- the chains

-- the mark of a log is a time
pub mark_is_time : (most : ℕ) (chains : List PlacedChain) → AllByRecursion (HasEntry most) chains → mark_of chains < 2 ^ 63
mark_is_time most [] each = omega arith
mark_is_time most (c ∷ chains) each = of_entry c.entry each.0
  where
    of_entry : (e : Entry) → Rattle.log_entries.specs.Ranges.IsEntry most e
        → Rattle.law_log.specs.Chains.reclaimed_by (Rattle.law_log_layout.specs.HeapLog.chain_told [] e
        ∷ Rattle.law_log_layout.specs.HeapLog.chains_told [] chains)
        < 2 ^ 63
    of_entry (Group members) is = omega arith
    of_entry (Archived archive) is = omega arith
    of_entry (Floor floor) is = omega arith
    of_entry (entries.Base base) is = is.whole.upto_high

-- the members rise behind the mark
pub members_rise_behind : (chains : List PlacedChain) → MayAllComeBehind (mark_of chains) no_log chains
    → AreRisingAfter (mark_of chains) (heads_told (members_of_all (mark_of chains) chains))
members_rise_behind chains may =
    let zero : max (mark_of chains) 0 ≡ mark_of chains = grind (arith, nat_tests) in
    subst (λ (n : ℕ). AreRisingAfter n (heads_told (members_of_all (mark_of chains) chains))) zero (members_rise (mark_of chains) no_log chains may)

module _ (most root : ℕ) (heap : List ℕ) (chains : List PlacedChain) (next : ℕ) (keeps : KeepsRules most root heap chains next)
    (flags : List Bool) (flags_are : flags ≡ uses_of most chains) where
  mark : ℕ
  mark = mark_of chains

  apart_now : AreApart most (numbers_of chains)
  apart_now = walked_apart most heap [] root chains next (record { in_range = tt; distinct = tt }) keeps.chains_hold.walked

  names : anchor_names chains ≡ first_names chains
  names = names_are_first (mark_of chains) chains keeps.rules

  -- anchors that were read are right
  pub anchors_right : (new : List Bool) (read : AnchorsRead) (t : TakesAnchors most (mark_of chains) heap flags new (first_names chains) read)
      → HoldsAnchors most root heap chains next (record { numbers = read.numbers.items; records = t.records })
  anchors_right new read t =
      let free = subst (λ (u : List Bool). AreClaimable u read.numbers.items) flags_are t.free in
      let more = claimable_is_apart most (numbers_of chains) read.numbers.items apart_now.in_range apart_now.distinct free in
      record {
        before = keeps;
        anchors = record {
          named = subst (λ (l : List AnchorName). Rattle.law_log_layout.specs.HeapLog.AreNamed l
              (record { numbers = read.numbers.items; records = t.records })) (sym names) t.are.named;
          placed = t.are.placed;
          apart = more.1;
          held = t.are.held;
          rising = t.are.rising;
          times = t.are.times;
        };
      }

  -- all extents are of the heap
  pub all_in_range : (new : List Bool) (read : AnchorsRead) (t : TakesAnchors most (mark_of chains) heap flags new (first_names chains) read)
      → AllByRecursion (IsNumberOf most) (numbers_of chains ++ read.numbers.items)
  all_in_range new read t = all_joined (IsNumberOf most) (numbers_of chains) read.numbers.items apart_now.in_range t.are.placed.in_range

  -- where none can be taken none are right
  pub none_right : HasNoAnchors most (mark_of chains) heap flags (first_names chains)
      → (a : PlacedAnchors) → ¬ AreRightAnchors most (mark_of chains) heap (numbers_of chains) (anchor_names chains) a
  none_right none a right =
      let parts = distinct-parts (numbers_of chains) a.numbers right.apart in
      none a (record {
        named = subst (λ (l : List AnchorName). Rattle.law_log_layout.specs.HeapLog.AreNamed l a) names right.named;
        placed = right.placed;
        distinct = parts.back;
        held = right.held;
        rising = right.rising;
        times = right.times;
      }) (subst (λ (u : List Bool). AreClaimable u a.numbers) (sym flags_are)
      (apart_is_claimable most (numbers_of chains) a.numbers apart_now.in_range right.placed.in_range right.apart))

  anchors_fail : (place : ℕ) (l : List AnchorName) → anchor_names chains ≡ l → (cs : List PlacedChain) → l ≡ first_names cs → IsFirstOf place l
      → HasNoAnchors most (mark_of chains) heap flags (first_names chains) → FailsHeap most root heap place
  anchors_fail place [] same cs are first none = absurd first
  anchors_fail place (name ∷ l) same cs are first none =
      AtAnchors chains next keeps (record {
        name = name;
        names_are = same ∙ one_name cs name l are;
        none = none_right none;
        place_is = first;
      })
    where
      one_in : (e : Entry) (n : AnchorName) (rest : List AnchorName) → n ∷ rest ≡ anchors_in e → n ∷ rest ≡ n ∷ []
      one_in (Group members) n rest is = absurd (let len = ap length is in omega (arith, len))
      one_in (Archived archive) n rest is = absurd (let len = ap length is in omega (arith, len))
      one_in (Floor floor) n rest is = absurd (let len = ap length is in omega (arith, len))
      one_in (entries.Base base) n rest is =
          let len = ap length is in
          ap (λ (r : List AnchorName). n ∷ r) (Rattle.std.proofs.lemmas.List.nil_from_length rest (omega (arith, len)))

      one_name : (ds : List PlacedChain) (n : AnchorName) (rest : List AnchorName) → n ∷ rest ≡ first_names ds → n ∷ rest ≡ n ∷ []
      one_name [] n rest is = absurd (let len = ap length is in omega (arith, len))
      one_name (d ∷ ds) n rest is = one_in d.entry n rest is

  -- so a fault of the anchors is one of the heap
  pub fault_of_base : (fault : OpenFault) → IsAnchorsFault most (mark_of chains) heap flags (first_names chains) fault → IsHeapFault most root heap fault
  fault_of_base NotAStore is = absurd is
  fault_of_base (Damaged Status n) is = absurd is
  fault_of_base (Damaged Heap n) is = anchors_fail n (first_names chains) names chains refl is.1 is.0
  fault_of_base (Damaged Archive n) is = absurd is
  fault_of_base Device is = tt
  fault_of_base NoMemory is = tt

-- and one of the members too
pub fault_of_members : (most root : ℕ) (heap : List ℕ) (chains : List PlacedChain) (next : ℕ) (a : PlacedAnchors)
    → HoldsAnchors most root heap chains next a → (fault : OpenFault) → IsMembersFault (mark_of chains) (values_of a.records) chains fault
    → IsHeapFault most root heap fault
fault_of_members most root heap chains next a holds NotAStore is = absurd is
fault_of_members most root heap chains next a holds (Damaged Status n) is = absurd is
fault_of_members most root heap chains next a holds (Damaged Heap n) is = AtMembers chains next a holds is
fault_of_members most root heap chains next a holds (Damaged Archive n) is = absurd is
fault_of_members most root heap chains next a holds Device is = absurd is
fault_of_members most root heap chains next a holds NoMemory is = tt
