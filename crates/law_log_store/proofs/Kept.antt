-- The room and the chains in memory once a base has taken the place of the front.
use Rattle.std.proofs.Common.{◌≡◌, ◌≢◌, ℕ, zero, suc, ◌+◌, ◌≤◌, ◌↔◌, Bool, true, false, List, [], ◌∷◌, ◌++◌, length, map, drop, replicate, refl}
use Rattle.std.proofs.Common.{arith, ap, sym, subst}
use Rattle.std.proofs.Common.{◌∙◌, append_assoc, length-append}
use Rattle.std.specs.Prelude.{flat_map}
use Rattle.std.specs.List.{AllByRecursion}
use Rattle.std.proofs.lemmas.List.{length-replicate, map-append}
use Rattle.std.proofs.lemmas.List.Concat.{flat_map-cons}
use Rattle.history.proofs.Filters.{AllByRecursion-append}
use Rattle.law_image.specs.Reading.{Head}
use Rattle.law_log.specs.Chains.{IsNoBase}
use Rattle.log_entries.specs.declared.entry.Entry.{Entry}
use Rattle.log_entries.specs.declared.entry.Entry.TheVariants.{Group, Archived, Floor}
use Rattle.log_entries.specs.declared.entry.Entry.TheVariants as entries
use Rattle.log_extents.specs.Chains.{IsNumberOf, IsNew}
use Rattle.log_space.specs.Uses.{IsFree, all_used}
use Rattle.log_space.proofs.Uses.{others_are_free, used_in_turn}
use Rattle.log_room.specs.Rooms.{RoomValue}
use Rattle.log_room.specs.Reserves.{based_on, with_kept}
use Rattle.log_recovery.specs.Live.{LiveChainValue, live_of}
use Rattle.law_log_layout.specs.HeapLog.{PlacedChain, HeapLog, counted_of, chain_told, chains_told, live_numbers}
use Rattle.law_log_layout.specs.Reclaims.{NewBase, placed_base, with_new_base}
use Rattle.law_log_layout.proofs.Places.{new-front, new-back}
use Rattle.log_store.specs.Live.{LiveValue}
use Rattle.log_store.specs.Reclaiming.{all_kept, base_chain, kept_numbers, live_with, room_with}
use Rattle.log_store.specs.Values.{ReclaimValue}
use Rattle.law_log_store.specs.Standing.{IsLiveOf, IsRoomOf, counted}
use Rattle.law_log_store.proofs.Flags.{all-used-length}

-- ---- the chains

dropped : {X : Type 0} (xs ys : List X) → drop (length xs) (xs ++ ys) ≡ ys
dropped [] ys = refl
dropped (x ∷ xs) ys = dropped xs ys

length-lives : (chains : List PlacedChain) → length (map live_of chains) ≡ length chains
length-lives [] = refl
length-lives (c ∷ cs) = ap suc (length-lives cs)

-- those behind the front
pub lives-behind : (m : HeapLog) (front back : List PlacedChain) (live : LiveValue) (n : ℕ) → m.chains ≡ front ++ back → length front ≡ n → IsLiveOf m live
    → drop n live.chains ≡ map live_of back
lives-behind m front back live n split many is =
    let are : live.chains ≡ map live_of front ++ map live_of back = is.chains ∙ ap (map live_of) split ∙ map-append live_of front back in
    (λ i. drop (sym many i) (are i))
    ∙ ap (λ (k : ℕ). drop k (map live_of front ++ map live_of back)) (sym (length-lives front))
    ∙ dropped (map live_of front) (map live_of back)

-- their extents
kept-are : (chains : List PlacedChain) → kept_numbers (map live_of chains) ≡ flat_map (λ (c : PlacedChain). c.numbers) chains
kept-are [] = refl
kept-are (c ∷ cs) =
    flat_map-cons (λ (d : LiveChainValue). d.numbers) (live_of c) (map live_of cs)
    ∙ ap (λ (ns : List ℕ). c.numbers ++ ns) (kept-are cs)
    ∙ sym (flat_map-cons (λ (d : PlacedChain). d.numbers) c cs)

-- all of them count, where no base is among them
counts-all : (names : List Head) (chains : List PlacedChain) → AllByRecursion IsNoBase (chains_told names chains)
    → flat_map (λ (c : PlacedChain). counted_of c.numbers c.entry) chains ≡ flat_map (λ (c : PlacedChain). c.numbers) chains
counts-all names [] none = refl
counts-all names (c ∷ cs) none =
    let f : PlacedChain → List ℕ = λ (d : PlacedChain). counted_of d.numbers d.entry in
    let g : PlacedChain → List ℕ = λ (d : PlacedChain). d.numbers in
    flat_map-cons f c cs ∙ (λ i. one c.numbers c.entry none.0 i ++ counts-all names cs none.1 i) ∙ sym (flat_map-cons g c cs)
  where
    one : (numbers : List ℕ) (e : Entry) → IsNoBase (chain_told names e) → counted_of numbers e ≡ numbers
    one numbers (Group members) is = refl
    one numbers (Archived a) is = refl
    one numbers (Floor f) is = refl
    one numbers (entries.Base b) is = absurd is

-- ---- the room

-- the room where these extents stay
abbrev staying : RoomValue → List ℕ → RoomValue
staying room numbers = record room { used = all_used room.used numbers; log = room.log + length numbers }

add-zero : (n : ℕ) → n ≡ n + 0
add-zero n = omega arith

zero-add : (n : ℕ) → 0 + n ≡ n
zero-add n = omega arith

kept-room : (room : RoomValue) (chains : List LiveChainValue) → all_kept room chains ≡ staying room (kept_numbers chains)
kept-room room [] = ap (λ (n : ℕ). record room { log = n }) (add-zero room.log)
kept-room room (c ∷ cs) =
    let rest = kept_numbers cs in
    let whole = flat_map-cons (λ (d : LiveChainValue). d.numbers) c cs in
    let log : (room.log + length c.numbers) + length rest ≡ room.log + length (c.numbers ++ rest) = omega (arith, length-append c.numbers rest) in
    kept-room (with_kept room c.numbers) cs
    ∙ (λ i. record room { used = sym (used_in_turn room.used c.numbers rest) i; log = log i })
    ∙ ap (λ (ns : List ℕ). staying room ns) (sym whole)

module _ (most : ℕ) (m : HeapLog) (n : NewBase) (front back : List PlacedChain) (names : List Head) (r : ReclaimValue) (room : RoomValue) (live : LiveValue)
    (split : m.chains ≡ front ++ back) (many : length front ≡ r.front) (none : AllByRecursion IsNoBase (chains_told names back))
    (base-is : n.base ≡ r.base) (numbers-are : n.numbers ≡ r.numbers) (anchors-are : (n.anchors).numbers ≡ r.anchors)
    (in-range : AllByRecursion (IsNumberOf most) (m.next ∷ live_numbers (with_new_base m n back))) (size : length room.used ≡ most)
    (next : room.next ≡ m.next) (lives : IsLiveOf m live) where
  abbrev behind : List LiveChainValue
  behind = drop r.front live.chains

  behind-are : behind ≡ map live_of back
  behind-are = lives-behind m front back live r.front split many lives

  -- memory has the chains of the log that the base begins
  pub live-based : IsLiveOf (with_new_base m n back) (live_with r live)
  live-based = record {
    chains = λ i. record { numbers = sym numbers-are i; part = (live_of (placed_base n.numbers n.link (sym base-is i))).part } ∷ behind-are i;
    anchors = sym anchors-are;
  }

  abbrev kept : List ℕ
  kept = flat_map (λ (c : PlacedChain). c.numbers) back

  abbrev cleared : List Bool
  cleared = replicate most false

  abbrev every : List ℕ
  every = (((n.anchors).numbers ++ n.numbers) ++ kept) ++ m.next ∷ []

  kept-is : kept_numbers behind ≡ kept
  kept-is = ap kept_numbers behind-are ∙ kept-are back

  -- its room has these flags, and counts these extents
  abbrev then : RoomValue
  then = record room { used = all_used cleared every; log = length kept + 1; reserved = 0 }

  pub room-then : room_with r live room ≡ then
  room-then =
      let first : RoomValue = based_on room r.anchors r.numbers in
      let flags : all_used (all_used (all_used (all_used cleared (n.anchors).numbers) n.numbers) kept) (m.next ∷ []) ≡ all_used cleared every =
      ap (λ (u : List Bool). all_used (all_used u kept) (m.next ∷ [])) (sym (used_in_turn cleared (n.anchors).numbers n.numbers))
      ∙ ap (λ (u : List Bool). all_used u (m.next ∷ [])) (sym (used_in_turn cleared ((n.anchors).numbers ++ n.numbers) kept))
      ∙ sym (used_in_turn cleared (((n.anchors).numbers ++ n.numbers) ++ kept) (m.next ∷ [])) in
      ap (λ (it : RoomValue). with_kept it (room.next ∷ [])) (kept-room first behind)
      ∙ ap (λ (ns : List ℕ). with_kept (staying first ns) (room.next ∷ [])) kept-is
      ∙ (λ i. record room {
        used = all_used (all_used (all_used (all_used (replicate (size i) false) (sym anchors-are i)) (sym numbers-are i)) kept) (next i ∷ []);
        log = zero-add (length kept) i + 1;
        reserved = 0;
      })
      ∙ ap (λ (u : List Bool). record room { used = u; log = length kept + 1; reserved = 0 }) flags

  -- the same extents, in another order
  turned : (k : ℕ) → IsNew k every ↔ IsNew k (m.next ∷ live_numbers (with_new_base m n back))
  turned k = (
    λ new.
        let front-new = new-front k (((n.anchors).numbers ++ n.numbers) ++ kept) (m.next ∷ []) new in
        let last = new-back k (((n.anchors).numbers ++ n.numbers) ++ kept) (m.next ∷ []) new in
        let own = new-front k ((n.anchors).numbers ++ n.numbers) kept front-new in (
          last.0,
          AllByRecursion-append (λ (x : ℕ). x ≢ k) (n.anchors).numbers (n.numbers ++ kept) (new-front k (n.anchors).numbers n.numbers own)
              (AllByRecursion-append (λ (x : ℕ). x ≢ k) n.numbers kept (new-back k (n.anchors).numbers n.numbers own)
              (new-back k ((n.anchors).numbers ++ n.numbers) kept front-new)),
        ),
    λ new.
        let anchors = new-front k (n.anchors).numbers (n.numbers ++ kept) new.1 in
        let rest = new-back k (n.anchors).numbers (n.numbers ++ kept) new.1 in
        AllByRecursion-append (λ (x : ℕ). x ≢ k) (((n.anchors).numbers ++ n.numbers) ++ kept) (m.next ∷ [])
        (AllByRecursion-append (λ (x : ℕ). x ≢ k) ((n.anchors).numbers ++ n.numbers) kept
        (AllByRecursion-append (λ (x : ℕ). x ≢ k) (n.anchors).numbers n.numbers anchors (new-front k n.numbers kept rest)) (new-back k n.numbers kept rest))
        (new.0, tt),
  )

  all-in-range : AllByRecursion (IsNumberOf most) every
  all-in-range =
      let P : ℕ → Type 0 = IsNumberOf most in
      let anchors = fronts P (n.anchors).numbers (n.numbers ++ kept) in-range.1 in
      let rest = backs P (n.anchors).numbers (n.numbers ++ kept) in-range.1 in
      AllByRecursion-append P (((n.anchors).numbers ++ n.numbers) ++ kept) (m.next ∷ [])
      (AllByRecursion-append P ((n.anchors).numbers ++ n.numbers) kept
      (AllByRecursion-append P (n.anchors).numbers n.numbers anchors (fronts P n.numbers kept rest)) (backs P n.numbers kept rest)) (in-range.0, tt)
    where
      fronts : (P : ℕ → Type 0) (xs ys : List ℕ) → AllByRecursion P (xs ++ ys) → AllByRecursion P xs
      fronts P [] ys all = tt
      fronts P (x ∷ xs) ys all = (all.0, fronts P xs ys all.1)

      backs : (P : ℕ → Type 0) (xs ys : List ℕ) → AllByRecursion P (xs ++ ys) → AllByRecursion P ys
      backs P [] ys all = all
      backs P (x ∷ xs) ys all = backs P xs ys all.1

  room-of-then : IsRoomOf most (with_new_base m n back) [] then
  room-of-then = record {
    many = all-used-length cleared every ∙ length-replicate most false;
    next = next;
    free = λ k.
        let both = others_are_free most every k all-in-range in (
          λ f. let known = both.0 f in (known.0, (turned k).0 known.1),
          λ known. both.1 (known.0, (turned k).1 known.1),
        );
    log = ap (λ (ns : List ℕ). length ns + 1) (sym (counts-all names back none));
  }

  -- it is the room of that log
  pub room-based : IsRoomOf most (with_new_base m n back) [] (room_with r live room)
  room-based = subst (IsRoomOf most (with_new_base m n back) []) (sym room-then) room-of-then

  -- what waits is promised as much, and the anchors of the last state take as many bytes
  pub promised-still : (room_with r live room).promised ≡ room.promised
  promised-still = ap (λ (it : RoomValue). it.promised) room-then

  pub anchors-still : (room_with r live room).anchors ≡ room.anchors
  anchors-still = ap (λ (it : RoomValue). it.anchors) room-then
