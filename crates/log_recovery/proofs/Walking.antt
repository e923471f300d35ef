-- The chains of the log, one behind the other.
use Rattle.std.proofs.Common.{◌≡◌, ◌≢◌, ℕ, ◌+◌, ◌*◌, ◌^◌, ◌<◌, ◌≤◌, ◌↔◌, ◌⊎◌, inl, inr, Bool, true, false, IsTrue, List, [], ◌∷◌, ◌++◌, length, map}
use Rattle.std.proofs.Common.{refl, sym, ◌∙◌, ap, subst, arith}
use Rattle.std.specs.Prelude.{slice_range, slice_index, take, drop, flat_map, replicate}
use Rattle.std.specs.List.{AllByRecursion}
use Rattle.std.proofs.lemmas.List.{append_assoc, append-nil}
use Rattle.std.proofs.lemmas.Grind.{flat_map-append}
use Rattle.disk.specs.Parts.{HoldsPart}
use Rattle.deltas.specs.Extents.{extent_start}
use Rattle.log_extents.specs.Extents.{LinkedExtent, linked_bytes}
use Rattle.log_extents.specs.Chains.{count_of, first_or, chain_of, chain_to, IsNumberOf, IsNew, AreDistinct}
use Rattle.log_extents.specs.Taking.{gate_of, IsChainFrom}
use Rattle.log_extents.specs.declared.chain_reader.ChainKind.{ChainKind}
use Rattle.log_extents.specs.declared.chain_reader.ChainKind.TheVariants.{Log}
use Rattle.log_extents.specs.declared.chain_reader.ChainParts.{ChainParts}
use Rattle.log_entries.specs.declared.entry.Entry.{Entry}
use Rattle.log_entries.specs.Spelling.{entry_bytes}
use Rattle.log_entries.specs.Ranges.{IsEntry}
use Rattle.log_writer.specs.Turns.{open_gate, extent_part}
use Rattle.law_layout.proofs.Lists.{all_of_front, all_of_back}
use Rattle.law_log_layout.specs.Turns.{HoldsAll, IsClosed}
use Rattle.law_log_layout.specs.HeapLog.{PlacedChain, extents_of, IsPlaced}
use Rattle.law_log_layout.proofs.Places.{distinct-parts}
use Rattle.law_log_layout.proofs.Parts.{gate-either}
use Rattle.log_space.specs.Uses.{IsFree, with_use, all_used}
use Rattle.log_space.proofs.Uses.{others_are_free, used_in_turn}
use Rattle.log_recovery.specs.Taking.{images_of_chain, HoldsImages, IsHeldChain, AreClaimable, IsTakenChain, HasNoChain}
use Rattle.log_recovery.specs.Chains.{HasOpenGate, IsRightChain, numbers_of, AreWalked, IsLogChain, TakesChain, HasNoLogChain, uses_of, FailsChain, HoldsChains}

-- ---- lists

pub all_joined : {X : Type 0} (P : X → Type 0) (xs ys : List X) → AllByRecursion P xs → AllByRecursion P ys → AllByRecursion P (xs ++ ys)
all_joined P [] ys fronts backs = backs
all_joined P (x ∷ xs) ys fronts backs = (fronts.0, all_joined P xs ys fronts.1 backs)

new_joined : (n : ℕ) (xs ys : List ℕ) → IsNew n xs → IsNew n ys → IsNew n (xs ++ ys)
new_joined n xs ys = all_joined (λ m. m ≢ n) xs ys

-- a number that is none of these behind them
pub distinct_more : (xs : List ℕ) (n : ℕ) → AreDistinct xs → IsNew n xs → AreDistinct (xs ++ n ∷ [])
distinct_more [] n are is = (tt, tt)
distinct_more (x ∷ xs) n are is = (new_joined x xs (n ∷ []) are.0 (λ same. is.0 (sym same), tt), distinct_more xs n are.1 is.1)

-- ---- extents that are taken one after the other

-- what can be taken behind others is apart from them
pub claimable_is_apart : (most : ℕ) (taken ns : List ℕ) → AllByRecursion (IsNumberOf most) taken → AreDistinct taken
    → AreClaimable (all_used (replicate most false) taken) ns → AllByRecursion (IsNumberOf most) ns × AreDistinct (taken ++ ns)
claimable_is_apart most taken [] range apart are = (tt, subst AreDistinct (sym (append-nil taken)) apart)
claimable_is_apart most taken (n ∷ ns) range apart are =
    let free = (others_are_free most taken n range).0 are.0 in
    let rest : AreClaimable (all_used (replicate most false) (taken ++ n ∷ [])) ns =
    subst (λ (u : List Bool). AreClaimable u ns) (sym (used_in_turn (replicate most false) taken (n ∷ []))) are.1 in
    let more = claimable_is_apart most (taken ++ n ∷ []) ns (all_joined (IsNumberOf most) taken (n ∷ []) range (free.0, tt))
    (distinct_more taken n apart free.1) rest in
    ((free.0, more.0), subst AreDistinct (append_assoc taken (n ∷ []) ns) more.1)

new_front : (m : ℕ) (xs ys : List ℕ) → IsNew m (xs ++ ys) → IsNew m xs
new_front m xs ys = all_of_front (λ n. n ≢ m) xs ys

-- of distinct numbers each is new to those before it
pub new_to_front : (xs : List ℕ) (n : ℕ) (ys : List ℕ) → AreDistinct (xs ++ n ∷ ys) → IsNew n xs
new_to_front [] n ys are = tt
new_to_front (x ∷ xs) n ys are =
    let cross = all_of_back (λ m. m ≢ x) xs (n ∷ ys) are.0 in
    (λ same. cross.0 (sym same), new_to_front xs n ys are.1)

pub apart_is_claimable : (most : ℕ) (taken ns : List ℕ) → AllByRecursion (IsNumberOf most) taken → AllByRecursion (IsNumberOf most) ns
    → AreDistinct (taken ++ ns) → AreClaimable (all_used (replicate most false) taken) ns
apart_is_claimable most taken [] range ranges apart = tt
apart_is_claimable most taken (n ∷ ns) range ranges apart = (
  (others_are_free most taken n range).1 (ranges.0, new_to_front taken n ns apart),
  subst (λ (u : List Bool). AreClaimable u ns) (used_in_turn (replicate most false) taken (n ∷ []))
      (apart_is_claimable most (taken ++ n ∷ []) ns (all_joined (IsNumberOf most) taken (n ∷ []) range (ranges.0, tt)) ranges.1
      (subst AreDistinct (sym (append_assoc taken (n ∷ []) ns)) apart)),
)

-- ---- one chain

pub parts_of_images : (heap : List ℕ) (end gate link : ℕ) (ns content : List ℕ)
    → HoldsImages heap ns (map linked_bytes (chain_to end gate link ns content)) → HoldsAll (map extent_part (chain_to end gate link ns content)) heap
parts_of_images heap end gate link [] content held = tt
parts_of_images heap end gate link (n ∷ ns) content held = (held.0, parts_of_images heap end 0 0 ns (drop 8168 content) held.1)

pub images_of_parts : (heap : List ℕ) (end gate link : ℕ) (ns content : List ℕ)
    → HoldsAll (map extent_part (chain_to end gate link ns content)) heap → HoldsImages heap ns (map linked_bytes (chain_to end gate link ns content))
images_of_parts heap end gate link [] content held = tt
images_of_parts heap end gate link (n ∷ ns) content held = (held.0, images_of_parts heap end 0 0 ns (drop 8168 content) held.1)

-- a chain of the log is a chain of its kind with the bytes of its entry
pub held_of_log : (most number : ℕ) (heap : List ℕ) (c : PlacedChain) → IsLogChain most heap number c
    → IsHeldChain Log most number heap c.numbers c.link (entry_bytes c.entry)
held_of_log most number heap c is =
    let placed = is.placed in
    record {
      chain = record {
        first = is.first;
        link_is = placed.link;
        chain = record {
          some = omega (arith, placed.some, placed.count);
          count = placed.count;
          in_range = placed.in_range;
          distinct = is.distinct;
          images_are = refl;
        };
      };
      held = images_of_parts heap 0 open_gate c.link c.numbers (entry_bytes c.entry) is.held;
    }

-- and the other way round
pub log_of_held : (most number : ℕ) (heap numbers : List ℕ) (link : ℕ) (content : List ℕ) (entry : Entry)
    → IsHeldChain Log most number heap numbers link content → content ≡ entry_bytes entry → IsEntry most entry
    → IsLogChain most heap number (record { numbers = numbers; link = link; entry = entry })
log_of_held most number heap numbers link content entry held content_is is =
    let chain = held.chain.chain in
    let there : HoldsAll (map extent_part (chain_of open_gate link numbers content)) heap =
    parts_of_images heap 0 open_gate link numbers content held.held in
    record {
      first = held.chain.first;
      placed = record {
        entry = is;
        some = omega (arith, chain.some, chain.count);
        count = chain.count ∙ ap (λ (l : List ℕ). count_of (length l)) content_is;
        in_range = chain.in_range;
        link = held.chain.link_is;
      };
      distinct = chain.distinct;
      held = subst (λ (l : List ℕ). HoldsAll (map extent_part (chain_of open_gate link numbers l)) heap) content_is there;
    }

-- there is none where no chain of the kind is there
pub none_of_kind : (most number : ℕ) (heap : List ℕ) (flags : List Bool) → HasNoChain Log most number heap flags → HasNoLogChain most heap number flags
none_of_kind most number heap flags none = λ c is. none c.numbers c.link (entry_bytes c.entry) (held_of_log most number heap c is)

-- ---- all chains

pub numbers_more : (front : List PlacedChain) (c : PlacedChain) → numbers_of (front ++ c ∷ []) ≡ numbers_of front ++ c.numbers
numbers_more front c =
    flat_map-append (λ (d : PlacedChain). d.numbers) front (c ∷ []) ∙ ap (λ (l : List ℕ). numbers_of front ++ l) (append-nil c.numbers)

pub walked_more : (most : ℕ) (heap taken : List ℕ) (number : ℕ) (front : List PlacedChain) (end : ℕ) (c : PlacedChain)
    → AreWalked most heap taken number front end → IsRightChain most heap (taken ++ numbers_of front) end c
    → AreWalked most heap taken number (front ++ c ∷ []) c.link
walked_more most heap taken number [] end c walked is = (
  subst (λ (n : ℕ). IsRightChain most heap taken n c) (sym walked) (subst (λ (l : List ℕ). IsRightChain most heap l end c) (append-nil taken) is),
  refl,
)
walked_more most heap taken number (d ∷ front) end c walked is = (
  walked.0,
  walked_more most heap (taken ++ d.numbers) d.link front end c walked.1
      (subst (λ (l : List ℕ). IsRightChain most heap l end c) (sym (append_assoc taken d.numbers (numbers_of front))) is),
)

-- their extents are of the heap, and each is there once
pub record AreApart (most : ℕ) (numbers : List ℕ) : Type 0 where
  pub in_range : AllByRecursion (IsNumberOf most) numbers
  pub distinct : AreDistinct numbers

pub walked_apart : (most : ℕ) (heap taken : List ℕ) (number : ℕ) (chains : List PlacedChain) (end : ℕ) → AreApart most taken
    → AreWalked most heap taken number chains end → AreApart most (taken ++ numbers_of chains)
walked_apart most heap taken number [] end apart walked = subst (AreApart most) (sym (append-nil taken)) apart
walked_apart most heap taken number (c ∷ chains) end apart walked =
    subst (AreApart most) (append_assoc taken c.numbers (numbers_of chains))
    (walked_apart most heap (taken ++ c.numbers) c.link chains end (record {
      in_range = all_joined (IsNumberOf most) taken c.numbers apart.in_range walked.0.placed.in_range;
      distinct = walked.0.apart;
    }) walked.1)

-- ---- the reading

-- these chains are read, and they have just these extents
pub record IsWalking (most root : ℕ) (heap : List ℕ) (chains : List PlacedChain) (next : ℕ) (flags : List Bool) : Type 0 where
  pub number : IsNumberOf most next
  pub walked : AreWalked most heap [] root chains next
  pub flags_are : flags ≡ uses_of most chains

pub walking_starts : (most root : ℕ) (heap : List ℕ) (flags : List Bool) → IsNumberOf most root → flags ≡ replicate most false
    → IsWalking most root heap [] root flags
walking_starts most root heap flags number none = record { number = number; walked = refl; flags_are = none }

-- a right chain of free extents is one behind these
right_of : (most root : ℕ) (heap : List ℕ) (chains : List PlacedChain) (next : ℕ) (flags : List Bool) (c : PlacedChain)
    → IsWalking most root heap chains next flags → IsLogChain most heap next c → AreClaimable flags c.numbers
    → IsRightChain most heap (numbers_of chains) next c
right_of most root heap chains next flags c w is free =
    let apart : AreApart most (numbers_of chains) = walked_apart most heap [] root chains next (record { in_range = tt; distinct = tt }) w.walked in
    let more =
    claimable_is_apart most (numbers_of chains) c.numbers apart.in_range apart.distinct
    (subst (λ (u : List Bool). AreClaimable u c.numbers) w.flags_are free) in
    record { first = is.first; placed = is.placed; apart = more.1; held = is.held }

pub walking_goes_on : (most root : ℕ) (heap : List ℕ) (chains : List PlacedChain) (next : ℕ) (old new : List Bool) (c : PlacedChain)
    → IsWalking most root heap chains next old → TakesChain most heap next old new c → IsWalking most root heap (chains ++ c ∷ []) c.link new
walking_goes_on most root heap chains next old new c w takes = record {
  number = takes.is.placed.link;
  walked = walked_more most heap [] root chains next c w.walked (right_of most root heap chains next old c w takes.is takes.free);
  flags_are = takes.taken ∙ ap (λ (u : List Bool). all_used u c.numbers) w.flags_are
      ∙ sym (used_in_turn (replicate most false) (numbers_of chains) c.numbers)
      ∙ ap (all_used (replicate most false)) (sym (numbers_more chains c));
}

-- where none begins the chain there is not right
unfoldable pub walking_fails : (most root : ℕ) (heap : List ℕ) (chains : List PlacedChain) (next : ℕ) (flags : List Bool)
    → IsWalking most root heap chains next flags → HasOpenGate heap next → HasNoLogChain most heap next flags → FailsChain most root heap next
walking_fails most root heap chains next flags w opened none = record {
  front = chains;
  walked = w.walked;
  opened = opened;
  none = λ c right.
      let apart : AreApart most (numbers_of chains) = walked_apart most heap [] root chains next (record { in_range = tt; distinct = tt }) w.walked in
      let parts = distinct-parts (numbers_of chains) c.numbers right.apart in
      none c (record { first = right.first; placed = right.placed; distinct = parts.back; held = right.held })
      (subst (λ (u : List Bool). AreClaimable u c.numbers) (sym w.flags_are)
      (apart_is_claimable most (numbers_of chains) c.numbers apart.in_range right.placed.in_range right.apart));
}
