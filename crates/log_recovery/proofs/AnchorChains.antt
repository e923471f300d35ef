-- The chain of anchors that a base names, and what was read of it.
use Rattle.std.proofs.Common.{◌≡◌, ℕ, ◌^◌, ◌<◌, ◌≤◌, Bool, List, [], ◌∷◌, ◌++◌, length, map, refl, sym, ◌∙◌, ap, subst, arith}
use Rattle.law_image.proofs.GroupStep.{length-map}
use Rattle.std.specs.Prelude.{flat_map}
use Rattle.std.specs.List.{AllByRecursion}
use Rattle.std.specs.List.Sorted.{IsStrictlySortedBy}
use Rattle.history.specs.declared.key.Key.{Key}
use Rattle.history.specs.Key.{key_cmp}
use Rattle.law_image.specs.Reading.{OldRecord}
use Rattle.law_image.specs.Facts.{old_writes}
use Rattle.chains.specs.KeyWrites.{KeyWrites, writes_of, latest}
use Rattle.deltas.specs.declared.«record».Record.{Record}
use Rattle.deltas.specs.declared.chain.Kinds.TheVariants.{OfAnchors}
use Rattle.deltas.specs.Records.{spelling, old_record, old_record_of}
use Rattle.deltas.specs.Chains.{AreRecordsOf}
use Rattle.law_layout.specs.Records.{old_bytes}
use Rattle.recovery.specs.Anchored.{anchor_writes}
use Rattle.recovery.proofs.AnchorChains.{spelled_again, spelled_of, each_again, each_of, times_again, permitted_of, keys_again, keys_of, anchored_writes}
use Rattle.log_extents.specs.Chains.{count_of, first_or, chain_of}
use Rattle.log_extents.specs.declared.chain_reader.ChainKind.TheVariants.{Anchors}
use Rattle.log_extents.specs.declared.chain_reader.ChainParts.{ChainParts}
use Rattle.log_entries.specs.declared.entry.AnchorName.{AnchorName}
use Rattle.log_entries.specs.Ranges.{AreNone, AreSome}
use Rattle.log_writer.specs.Turns.{extent_part}
use Rattle.law_log_layout.specs.Turns.{HoldsAll}
use Rattle.law_log_layout.specs.HeapLog.{PlacedAnchors}
use Rattle.log_recovery.specs.Taking.{IsHeldChain, HasNoChain, AreClaimable, IsTakenChain}
use Rattle.log_recovery.specs.Anchored.{AreAnchorsIn, HasNoAnchorsIn, AreAnchorsAt, TakesAnchors, HasNoAnchors}
use Rattle.log_recovery.specs.declared.anchors.AnchorsRead.{AnchorsRead}
use Rattle.log_recovery.proofs.Walking.{parts_of_images, images_of_parts}
use Rattle.log_recovery.proofs.OneChain.{one_held}

flat_is : {X : Type 0} (h : X → List ℕ) (xs : List X) → flat_map h xs ≡ flat_map (λ (l : List ℕ). l) (map h xs)
flat_is h [] = refl
flat_is h (x ∷ xs) = ap (λ (l : List ℕ). h x ++ l) (flat_is h xs)

-- the bytes of records and of the anchors that they are
bytes_again : (mark : ℕ) (rs : List Record) → AreRecordsOf (OfAnchors mark) rs → flat_map spelling rs ≡ flat_map old_bytes (map old_record rs)
bytes_again mark rs are =
    flat_is spelling rs ∙ ap (flat_map (λ (l : List ℕ). l)) (sym (spelled_again mark rs are.permitted)) ∙ sym (flat_is old_bytes (map old_record rs))

bytes_of : (olds : List OldRecord) → flat_map old_bytes olds ≡ flat_map spelling (map old_record_of olds)
bytes_of olds = flat_is old_bytes olds ∙ ap (flat_map (λ (l : List ℕ). l)) (sym (spelled_of olds)) ∙ sym (flat_is spelling (map old_record_of olds))

-- a right chain of anchors is a chain of its kind with their bytes
held_of_anchors : (most mark : ℕ) (heap : List ℕ) (name : AnchorName) (a : PlacedAnchors) → AreSome most name
    → AreAnchorsAt most mark heap (name ∷ []) a → IsHeldChain Anchors most name.first heap a.numbers 0 (flat_map old_bytes a.records)
held_of_anchors most mark heap name a some are =
    let low = some.extents_low in
    let placed = are.placed in
    record {
      chain = record {
        first = are.named.0;
        link_is = refl;
        chain = record {
          some = omega (arith, low, are.named.1, placed.count);
          count = placed.count;
          in_range = placed.in_range;
          distinct = are.distinct;
          images_are = refl;
        };
      };
      held = images_of_parts heap 0 0 0 a.numbers (flat_map old_bytes a.records) are.held;
    }

-- where there is no chain of the kind there are no such anchors
pub none_held : (most mark : ℕ) (heap : List ℕ) (flags : List Bool) (name : AnchorName) → AreSome most name
    → HasNoChain Anchors most name.first heap flags → HasNoAnchors most mark heap flags (name ∷ [])
none_held most mark heap flags name some none = λ a are.
    none a.numbers 0 (flat_map old_bytes a.records) (held_of_anchors most mark heap name a some are)

-- nor where the chain that is there has another number of extents
pub none_as_long : (most mark : ℕ) (heap : List ℕ) (old new : List Bool) (name : AnchorName) (parts : ChainParts) → most < 2 ^ 32 → AreSome most name
    → IsTakenChain Anchors most name.first heap old new parts → (length parts.numbers.items ≡ name.extents → ⊥)
    → HasNoAnchors most mark heap old (name ∷ [])
none_as_long most mark heap old new name parts few some taken other = λ a are free.
    let same = one_held Anchors most name.first heap parts.numbers.items a.numbers parts.link 0 parts.content.items
    (flat_map old_bytes a.records) few taken.held
    (held_of_anchors most mark heap name a some are) in
    other (ap length same.numbers_are ∙ are.named.1)

-- nor where its bytes are none of anchors
pub none_said : (most mark : ℕ) (heap : List ℕ) (old new : List Bool) (name : AnchorName) (parts : ChainParts) → most < 2 ^ 32 → AreSome most name
    → IsTakenChain Anchors most name.first heap old new parts → HasNoAnchorsIn mark name.records parts.content.items
    → HasNoAnchors most mark heap old (name ∷ [])
none_said most mark heap old new name parts few some taken none = λ a are free.
    let same = one_held Anchors most name.first heap parts.numbers.items a.numbers parts.link 0 parts.content.items
    (flat_map old_bytes a.records) few taken.held
    (held_of_anchors most mark heap name a some are) in
    none (map old_record_of a.records) (record {
      are = record {
        each = each_of a.records are.placed.each;
        permitted = permitted_of mark a.records are.times;
        rising = subst (IsStrictlySortedBy key_cmp) (sym (keys_of a.records)) are.rising;
      };
      count_is = length-map old_record_of a.records ∙ are.named.2;
      bytes_are = same.content_is ∙ bytes_of a.records;
    })

-- what was read is the chain of this name
pub anchors_read : (most mark : ℕ) (heap : List ℕ) (old new : List Bool) (name : AnchorName) (parts : ChainParts) (rs : List Record) (read : AnchorsRead)
    → mark < 2 ^ 63 → IsTakenChain Anchors most name.first heap old new parts → length parts.numbers.items ≡ name.extents
    → AreAnchorsIn mark name.records parts.content.items rs → read.numbers ≡ parts.numbers → read.len ≡ length parts.content.items
    → read.versions ≡ map anchor_writes rs → latest read.versions ≤ mark
    → TakesAnchors most mark heap old new (name ∷ []) read
anchors_read most mark heap old new name parts rs read low taken long are numbers len versions least =
    let chain = taken.held.chain.chain in
    let bytes : parts.content.items ≡ flat_map old_bytes (map old_record rs) = are.bytes_are ∙ bytes_again mark rs are.are in
    let numbers_are : read.numbers.items ≡ parts.numbers.items = ap (λ v. v.items) numbers in
    let link : parts.link ≡ 0 = taken.held.chain.link_is in
    let there : HoldsAll (map extent_part (chain_of 0 parts.link parts.numbers.items parts.content.items)) heap =
    parts_of_images heap 0 0 parts.link parts.numbers.items parts.content.items taken.held.held in
    record {
      records = map old_record rs;
      are = rw numbers_are (record {
        named = (taken.held.chain.first, long, length-map old_record rs ∙ are.count_is);
        placed = record {
          count = chain.count ∙ ap (λ (l : List ℕ). count_of (length l)) bytes;
          in_range = chain.in_range;
          each = each_again mark rs low are.are.permitted are.are.each;
        };
        distinct = chain.distinct;
        held = subst (λ (l : List ℕ). HoldsAll (map extent_part (chain_of 0 0 parts.numbers.items l)) heap) bytes
            (subst (λ (n : ℕ). HoldsAll (map extent_part (chain_of 0 n parts.numbers.items parts.content.items)) heap) link there);
        rising = subst (IsStrictlySortedBy key_cmp) (sym (keys_again rs)) are.are.rising;
        times = times_again mark rs are.are.permitted;
      });
      free = subst (AreClaimable old) (sym numbers_are) taken.free;
      taken = taken.taken ∙ ap (Rattle.log_space.specs.Uses.all_used old) (sym numbers_are);
      len_is = len ∙ ap length bytes;
      writes = λ key. ap (λ (v : List KeyWrites). writes_of v key) versions ∙ anchored_writes rs key are.are.rising;
      latest_is = least;
    }

none_rising : IsStrictlySortedBy key_cmp []
unfolding IsStrictlySortedBy
none_rising = tt

-- a name of zeros names no anchors
pub none_read : (most mark : ℕ) (heap : List ℕ) (flags : List Bool) (name : AnchorName) (read : AnchorsRead) → AreNone name → read.numbers.items ≡ []
    → read.len ≡ 0 → read.versions ≡ [] → TakesAnchors most mark heap flags flags (name ∷ []) read
none_read most mark heap flags name read none numbers len versions = record {
  records = [];
  are = rw numbers (record {
    named = (sym none.first, sym none.extents, sym none.records);
    placed = record { count = refl; in_range = tt; each = tt };
    distinct = tt;
    held = tt;
    rising = none_rising;
    times = tt;
  });
  free = subst (AreClaimable flags) (sym numbers) tt;
  taken = ap (Rattle.log_space.specs.Uses.all_used flags) (sym numbers);
  len_is = len;
  writes = λ key. ap (λ (v : List KeyWrites). writes_of v key) versions;
  latest_is = subst (λ (v : List KeyWrites). latest v ≤ mark) (sym versions) (omega arith);
}

-- nor is there any where no name is
pub none_named : (most mark : ℕ) (heap : List ℕ) (flags : List Bool) (read : AnchorsRead) → read.numbers.items ≡ [] → read.len ≡ 0 → read.versions ≡ []
    → TakesAnchors most mark heap flags flags [] read
none_named most mark heap flags read numbers len versions = record {
  records = [];
  are = rw numbers (record {
    named = (refl, refl);
    placed = record { count = refl; in_range = tt; each = tt };
    distinct = tt;
    held = tt;
    rising = none_rising;
    times = tt;
  });
  free = subst (AreClaimable flags) (sym numbers) tt;
  taken = ap (Rattle.log_space.specs.Uses.all_used flags) (sym numbers);
  len_is = len;
  writes = λ key. ap (λ (v : List KeyWrites). writes_of v key) versions;
  latest_is = subst (λ (v : List KeyWrites). latest v ≤ mark) (sym versions) (omega arith);
}
