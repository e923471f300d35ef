-- Extents taken into use one after the other.
use Rattle.std.proofs.Common.{◌≡◌, ℕ, zero, suc, ◌+◌, ◌-◌, ◌*◌, ◌/◌, ◌^◌, ◌<◌, ◌≤◌, Bool, true, false, List, [], ◌∷◌, ◌++◌, length, drop, replicate, get_or}
use Rattle.std.proofs.Common.{refl, sym, ap, subst, ◌∙◌, arith}
use Rattle.std.proofs.lemmas.List.{length-append, length-replicate}
use Rattle.std.proofs.lemmas.List.Sums.{sum_by-cons}
use Rattle.std.specs.List.{AllByRecursion}
use Rattle.log_space.specs.Uses.{IsFree, with_use, all_used, one_if_used, used_count, IsLeastFree}
use Rattle.log_space.proofs.Uses.{is_one_more, all_used_len, none_used, used_in_turn}
use Rattle.log_extents.specs.Chains.{count_of, first_or, IsNumberOf}
use Rattle.log_room.specs.Rooms.{AreLeastFree, RoomValue, IsRoom, TakesChain, TakesLeast}

-- ---- a free one

pub record FreeOne (used : List Bool) : Type 0 where
  pub number : ℕ
  pub free : IsFree used number

behind-one : (b : Bool) (used : List Bool) (number : ℕ) → IsFree used number → IsFree (b ∷ used) (suc number)
behind-one b used zero free = let low = free.low in absurd (omega (arith, low))
behind-one b used (suc k) free =
    let high = free.high in
    let past : suc (suc k) - 1 ≡ suc k = omega arith in
    let here : suc k - 1 ≡ k = omega arith in
    record {
      low = omega arith;
      high = omega (arith, high);
      is = ap (λ (i : ℕ). get_or (b ∷ used) i true) past ∙ sym (ap (λ (i : ℕ). get_or used i true) here) ∙ free.is;
    }

-- where fewer are in use than there are, one is free
pub free-one : (used : List Bool) → used_count used < length used → FreeOne used
free-one [] few = absurd (omega (arith, few))
free-one (false ∷ used) few = record { number = 1; free = record { low = omega arith; high = omega arith; is = refl } }
free-one (true ∷ used) few =
    let first = sum_by-cons one_if_used true used in
    let rest = free-one used (omega (arith, few, first)) in record { number = suc rest.number; free = behind-one true used rest.number rest.free }

-- ---- one more

pub used-push : (used : List Bool) (ns : List ℕ) (n : ℕ) → all_used used (ns ++ n ∷ []) ≡ with_use (all_used used ns) n true
used-push used [] n = refl
used-push used (m ∷ ms) n = used-push (with_use used m true) ms n

pub least-push : (used : List Bool) (ns : List ℕ) (n : ℕ) → AreLeastFree used ns → IsLeastFree (all_used used ns) n → AreLeastFree used (ns ++ n ∷ [])
least-push used [] n all least = (least, tt)
least-push used (m ∷ ms) n all least = (all.0, least-push (with_use used m true) ms n all.1 least)

pub used_len : (used : List Bool) (ns : List ℕ) → length (all_used used ns) ≡ length used
used_len used ns = all_used_len used ns

-- so many more are in use
pub used_more : (used : List Bool) (ns : List ℕ) → AreLeastFree used ns → used_count (all_used used ns) ≡ used_count used + length ns
used_more used [] least = omega arith
used_more used (n ∷ ns) least =
    let one = (is_one_more used n least.0.free).count in
    let rest = used_more (with_use used n true) ns least.1 in
    omega (arith, one, rest)

-- ---- the last one

-- a list with one more at its end
pub record EndsWith (numbers taken : List ℕ) (first link : ℕ) : Type 0 where
  pub others : List ℕ
  pub numbers_are : numbers ≡ first ∷ others
  pub taken_are : taken ≡ others ++ link ∷ []

pub ends_with : (first link : ℕ) (taken numbers : List ℕ) → 0 < length taken → first ∷ taken ≡ numbers ++ link ∷ [] → EndsWith numbers taken first link
ends_with first link taken [] some is =
    let none : length (first ∷ taken) ≡ length (link ∷ []) = ap (λ (xs : List ℕ). length xs) is in absurd (omega (arith, some, none))
ends_with first link taken (m ∷ ms) some is = record {
  others = ms;
  numbers_are = ap (λ (n : ℕ). n ∷ ms) (sym (ap (λ (xs : List ℕ). first_or 0 xs) is));
  taken_are = ap (λ (xs : List ℕ). drop 1 xs) is;
}

-- the last of those that were taken is a number of the heap
pub last_in_range : (used : List Bool) (others : List ℕ) (link : ℕ) → AreLeastFree used (others ++ link ∷ []) → IsNumberOf (length used) link
last_in_range used [] link least = (least.0.free.low, least.0.free.high)
last_in_range used (n ∷ ns) link least =
    let rest = last_in_range (with_use used n true) ns link least.1 in
    (rest.0, let high = rest.1 in let same = used_len used (n ∷ []) in omega (arith, high, same))

-- ---- the room behind

pub room_taken : (old : RoomValue) (count promised : ℕ) (numbers : List ℕ) (link : ℕ) (new : RoomValue) → IsRoom old → 0 < count → count ≤ promised
    → promised ≤ old.promised → TakesChain old count promised numbers link new → IsRoom new
room_taken old count promised numbers link new room some within had takes =
    subst IsRoom (sym takes.new_is) (record {
      low = let low = room.low in omega (arith, low, len);
      high = let high = room.high in omega (arith, high, len);
      next = subst (λ (n : ℕ). IsNumberOf n link) (sym len) (last_in_range old.used takes.others link takes.least);
      few = let few = room.few in omega (arith, few, more, taken_many, len_quarter);
      share = let share = room.share in omega (arith, share, len_quarter);
      half = let half = room.half in omega (arith, half, within, had, len_half);
      anchors = subst (λ (n : ℕ). count_of old.anchors ≤ (3 * n) / 16) (sym len) room.anchors;
    })
  where
    taken : List ℕ
    taken = takes.others ++ link ∷ []

    len : length (all_used old.used taken) ≡ length old.used
    len = used_len old.used taken

    len_quarter : length (all_used old.used taken) / 4 ≡ length old.used / 4
    len_quarter = ap (λ (n : ℕ). n / 4) len

    len_half : length (all_used old.used taken) / 2 ≡ length old.used / 2
    len_half = ap (λ (n : ℕ). n / 2) len

    more : used_count (all_used old.used taken) ≡ used_count old.used + length taken
    more = used_more old.used taken takes.least

    taken_many : length taken ≡ count
    taken_many =
        let first = ap (λ (xs : List ℕ). length xs) takes.numbers_are in
        let many = takes.many in
        let both = length-append takes.others (link ∷ []) in
        omega (arith, first, many, both)

-- a chain whose extents, and the one behind it, were taken in one go
pub chain_taken : (old : RoomValue) (count promised : ℕ) (taken all numbers : List ℕ) (link : ℕ) (used : List Bool) → 0 < count
    → all ≡ old.next ∷ taken → TakesLeast old.used count taken used → all ≡ numbers ++ link ∷ []
    → TakesChain old count promised numbers link (record old { used = used; next = link; log = old.log + count; promised = old.promised - promised })
chain_taken old count promised taken all numbers link used some all_are least popped =
    let many = least.many in
    let ends = ends_with old.next link taken numbers (omega (arith, some, many)) (sym all_are ∙ popped) in
    let taken_len = ap (λ (xs : List ℕ). length xs) ends.taken_are in
    let numbers_len = ap (λ (xs : List ℕ). length xs) ends.numbers_are in
    let both = length-append ends.others (link ∷ []) in
    record {
      others = ends.others;
      numbers_are = ends.numbers_are;
      many = omega (arith, many, taken_len, numbers_len, both);
      least = subst (λ (xs : List ℕ). AreLeastFree old.used xs) ends.taken_are least.least;
      new_is = ap (λ (u : List Bool). record old { used = u; next = link; log = old.log + count; promised = old.promised - promised })
          (least.new_is ∙ ap (λ (xs : List ℕ). all_used old.used xs) ends.taken_are);
    }

-- ---- a base, and what stays of the log behind it

-- other flags of as many extents
other_flags : (old : RoomValue) (used : List Bool) (log reserved : ℕ) → IsRoom old → length used ≡ length old.used
    → used_count used ≤ log + length old.used / 4 + reserved → reserved ≤ length old.used / 4 → log + old.promised ≤ length old.used / 2
    → IsRoom (record { used = used; next = old.next; log = log; promised = old.promised; anchors = old.anchors; reserved = reserved })
other_flags old used log reserved room len few share half = record {
  low = let low = room.low in omega (arith, low, len);
  high = let high = room.high in omega (arith, high, len);
  next = subst (λ (n : ℕ). IsNumberOf n old.next) (sym len) room.next;
  few = omega (arith, few, quarter);
  share = omega (arith, share, quarter);
  half = omega (arith, half, ap (λ (n : ℕ). n / 2) len);
  anchors = subst (λ (n : ℕ). count_of old.anchors ≤ (3 * n) / 16) (sym len) room.anchors;
}
  where
    quarter : length used / 4 ≡ length old.used / 4
    quarter = ap (λ (n : ℕ). n / 4) len

pub least-append : (used : List Bool) (ns ms : List ℕ) → AreLeastFree used ns → AreLeastFree (all_used used ns) ms → AreLeastFree used (ns ++ ms)
least-append used [] ms first second = second
least-append used (n ∷ ns) ms first second = (first.0, least-append (with_use used n true) ns ms first.1 second)

-- some are taken, and then others
pub both_taken : (old middle new : List Bool) (a b : ℕ) (first second : List ℕ) → TakesLeast old a first middle → TakesLeast middle b second new
    → TakesLeast old (a + b) (first ++ second) new
both_taken old middle new a b first second takes then =
    let one = takes.many in
    let other = then.many in
    record {
      many = omega (arith, one, other, length-append first second);
      least = least-append old first second takes.least (subst (λ (u : List Bool). AreLeastFree u second) takes.new_is then.least);
      new_is = then.new_is ∙ ap (λ (u : List Bool). all_used u second) takes.new_is ∙ sym (used_in_turn old first second);
    }

-- as many are in use then, of as many as there were
pub taken_many : (old new : List Bool) (count : ℕ) (numbers : List ℕ) → TakesLeast old count numbers new
    → (used_count new ≡ used_count old + count) × (length new ≡ length old)
taken_many old new count numbers takes =
    let many = takes.many in
    let more = used_more old numbers takes.least in
    let now = ap used_count takes.new_is in
    (omega (arith, many, more, now), ap (λ (u : List Bool). length u) takes.new_is ∙ used_len old numbers)

pub room_reserved : (old : RoomValue) (count : ℕ) (numbers : List ℕ) (used : List Bool) → IsRoom old → old.reserved ≡ 0 → count ≤ length old.used / 4
    → TakesLeast old.used count numbers used
    → IsRoom (record { used = used; next = old.next; log = old.log; promised = old.promised; anchors = old.anchors; reserved = count })
room_reserved old count numbers used room none share takes =
    let few = room.few in
    let many = takes.many in
    let more = used_more old.used numbers takes.least in
    let now = ap used_count takes.new_is in
    other_flags old used old.log count room (ap (λ (u : List Bool). length u) takes.new_is ∙ used_len old.used numbers)
    (omega (arith, few, many, more, now, none)) share room.half

pub room_based : (old : RoomValue) (cleared first second : List Bool) (anchors base : List ℕ) → IsRoom old → cleared ≡ replicate (length old.used) false
    → first ≡ all_used cleared anchors → second ≡ all_used first base → used_count first ≤ used_count cleared + length anchors
    → used_count second ≤ used_count first + length base → length anchors + length base ≤ length old.used / 4
    → IsRoom (record { used = second; next = old.next; log = 0; promised = old.promised; anchors = old.anchors; reserved = 0 })
room_based old cleared first second anchors base room none with_anchors with_base more most share =
    let half = room.half in
    let zero_used = ap used_count none ∙ none_used (length old.used) in
    let len =
    ap (λ (u : List Bool). length u) with_base ∙ used_len first base ∙ ap (λ (u : List Bool). length u) with_anchors ∙ used_len cleared anchors
    ∙ ap (λ (u : List Bool). length u) none ∙ length-replicate (length old.used) false in
    other_flags old second 0 0 room len (omega (arith, zero_used, more, most, share)) (omega arith) (omega (arith, half))

pub room_kept : (old : RoomValue) (used : List Bool) (numbers : List ℕ) → IsRoom old → used ≡ all_used old.used numbers
    → used_count used ≤ used_count old.used + length numbers → old.log + length numbers + old.promised ≤ length old.used / 2
    → IsRoom (record { used = used; next = old.next; log = old.log + length numbers; promised = old.promised; anchors = old.anchors; reserved = old.reserved })
room_kept old used numbers room kept most half =
    let few = room.few in
    other_flags old used (old.log + length numbers) old.reserved room (ap (λ (u : List Bool). length u) kept ∙ used_len old.used numbers)
    (omega (arith, few, most)) room.share half

-- ---- the numbers

pub in_heap : (most : ℕ) (used : List Bool) (ns : List ℕ) → length used ≤ most → AreLeastFree used ns → AllByRecursion (IsNumberOf most) ns
in_heap most used [] len least = tt
in_heap most used (n ∷ ns) len least =
    let high = least.0.free.high in
    let same = used_len used (n ∷ []) in
    ((least.0.free.low, omega (arith, high, len)), in_heap most (with_use used n true) ns (omega (arith, same, len)) least.1)

others_of : (P : ℕ → Type 0) (ns : List ℕ) (n : ℕ) → AllByRecursion P (ns ++ n ∷ []) → P n × AllByRecursion P ns
others_of P [] n each = (each.0, tt)
others_of P (m ∷ ms) n each = let rest = others_of P ms n each.1 in (rest.0, (each.0, rest.1))

-- those of a chain, and the one behind it, are numbers of any heap
pub chain_in_range : (old : RoomValue) (count promised : ℕ) (numbers : List ℕ) (link : ℕ) (new : RoomValue) → IsRoom old
    → TakesChain old count promised numbers link new → AllByRecursion (IsNumberOf (2 ^ 20)) (link ∷ numbers)
chain_in_range old count promised numbers link new room takes =
    let high = room.high in
    let next_low = room.next.0 in
    let next_high = room.next.1 in
    let each = others_of (IsNumberOf (2 ^ 20)) takes.others link (in_heap (2 ^ 20) old.used (takes.others ++ link ∷ []) high takes.least) in (
      each.0,
      subst (λ (ns : List ℕ). AllByRecursion (IsNumberOf (2 ^ 20)) ns) (sym takes.numbers_are)
          ((next_low, omega (arith, next_high, high)), each.1),
    )
