-- Heads of commits in the order of their times.
use Rattle.std.proofs.Common.{◌≡◌, ◌≢◌, ℕ, zero, suc, ◌-◌, ◌<◌, ◌≤◌, ◌^◌, true, false, cond, ◌==◌, nat_lt, nat_le, List, [], ◌∷◌, ◌++◌, length, take, get_or}
use Rattle.std.proofs.Common.{refl, arith, ap, sym, ◌∙◌, inl, inr}
use Rattle.std.proofs.Math.ListN.{set}
use Rattle.std.proofs.lemmas.List.{take_all}
use Rattle.std.proofs.lemmas.Bool.{cases_lt, cases_eq}
use Rattle.std.proofs.lemmas.Bool.Decides.{nat_tests}
use Rattle.std.specs.List.Sorted.{IsPartitionedBy, IsPartitionPoint}
use Rattle.group.specs.declared.commit_order.CommitHead.{CommitHead}
use Rattle.group.specs.declared.commit_order.TicketState.TheVariants.{Unknown, Waiting, Published}
use Rattle.group.specs.CommitOrder.{CommitOrderValue, last_time_after, last_time, last_published, IsRisingAfter, AreHeads, HasNone, IsPlaceOf, is_awaited}
use Rattle.group.specs.CommitOrder.{redeemed, state_of_ticket, after_redeem}

-- the last of the first n + 1
last_time_after-take : (t : ℕ) (heads : List CommitHead) (n : ℕ) (d : CommitHead) → n < length heads
    → last_time_after t (take (suc n) heads) ≡ (get_or heads n d).time
last_time_after-take t [] n d h = absurd (omega arith)
last_time_after-take t (x ∷ xs) zero d h = refl
last_time_after-take t (x ∷ xs) (suc n) d h = last_time_after-take x.time xs n d (omega arith)

pub last_time-take : (heads : List CommitHead) (n : ℕ) (d : CommitHead) → 0 < n → n ≤ length heads → last_time (take n heads) ≡ (get_or heads (n - 1) d).time
last_time-take heads zero d low high = absurd (omega arith)
last_time-take heads (suc n) d low high = last_time_after-take 0 heads n d (omega arith) ∙ ap (λ k. (get_or heads k d).time) (omega arith)

pub last_time-all : (heads : List CommitHead) (n : ℕ) (d : CommitHead) → 0 < n → n ≡ length heads → last_time heads ≡ (get_or heads (n - 1) d).time
last_time-all heads n d low is = ap last_time (sym (take_all n heads (omega arith))) ∙ last_time-take heads n d low (omega arith)

pub last_time-range : (t : ℕ) (heads : List CommitHead) → t < 2 ^ 63 → IsRisingAfter t heads → last_time_after t heads < 2 ^ 63
last_time-range t [] h rising = h
last_time-range t (x ∷ xs) h rising = last_time-range x.time xs rising.1 rising.2

pub IsRisingAfter-take : (t : ℕ) (heads : List CommitHead) (n : ℕ) → IsRisingAfter t heads → IsRisingAfter t (take n heads)
IsRisingAfter-take t [] zero rising = tt
IsRisingAfter-take t [] (suc n) rising = tt
IsRisingAfter-take t (x ∷ xs) zero rising = tt
IsRisingAfter-take t (x ∷ xs) (suc n) rising = (rising.0, rising.1, IsRisingAfter-take x.time xs n rising.2)

pub IsRisingAfter-push : (t : ℕ) (heads : List CommitHead) (head : CommitHead) → IsRisingAfter t heads → last_time_after t heads < head.time
    → head.time < 2 ^ 63 → IsRisingAfter t (heads ++ head ∷ [])
IsRisingAfter-push t [] head rising later range = (later, range, tt)
IsRisingAfter-push t (x ∷ xs) head rising later range = (rising.0, rising.1, IsRisingAfter-push x.time xs head rising.2 later range)

-- each is later than what comes before
pub rising-later : (t : ℕ) (heads : List CommitHead) (k : ℕ) (d : CommitHead) → IsRisingAfter t heads → k < length heads → t < (get_or heads k d).time
rising-later t [] k d rising h = absurd (omega arith)
rising-later t (x ∷ xs) zero d rising h = rising.0
rising-later t (x ∷ xs) (suc k) d rising h = omega (arith, rising.0, rising-later x.time xs k d rising.2 (omega arith))

pub rising-pair : (t : ℕ) (heads : List CommitHead) (i j : ℕ) (d : CommitHead) → IsRisingAfter t heads → i < j → j < length heads
    → (get_or heads i d).time < (get_or heads j d).time
rising-pair t [] i j d rising h high = absurd (omega arith)
rising-pair t (x ∷ xs) i zero d rising h high = absurd (omega arith)
rising-pair t (x ∷ xs) zero (suc j) d rising h high = rising-later x.time xs j d rising.2 (omega arith)
rising-pair t (x ∷ xs) (suc i) (suc j) d rising h high = rising-pair x.time xs i j d rising.2 (omega arith) (omega arith)

pub rising-partitioned : (time : ℕ) (heads : List CommitHead) → IsRisingAfter 0 heads → IsPartitionedBy (λ (head : CommitHead). nat_lt head.time time) heads
rising-partitioned time heads rising i j d le high below =
    elim (cases_eq i j) [
      | inl same ↦ rw same below
      | inr other ↦
          let less : (get_or heads i d).time < (get_or heads j d).time = rising-pair 0 heads i j d rising (omega (arith, other)) high in
          grind (arith, nat_tests)
    ]

-- what is read at a place does not depend on what stands for nothing
pub any_default : (heads : List CommitHead) (k : ℕ) (d e : CommitHead) → k < length heads → (get_or heads k d).time ≡ (get_or heads k e).time
any_default [] k d e low = absurd (omega arith)
any_default (x ∷ xs) zero d e low = refl
any_default (x ∷ xs) (suc k) d e low = any_default xs k d e (omega arith)

-- no head has the time, where none at a place has it
pub none-by_place : (time : ℕ) (heads : List CommitHead) → ((k : ℕ) (d : CommitHead) → k < length heads → (get_or heads k d).time ≢ time) → HasNone time heads
none-by_place time [] h = tt
none-by_place time (x ∷ xs) h = (h 0 x (omega arith), none-by_place time xs (λ k d low. h (suc k) d (omega arith)))

pub not_there : (time : ℕ) (heads : List CommitHead) (place : ℕ) → IsRisingAfter 0 heads
    → IsPartitionPoint (λ (head : CommitHead). nat_lt head.time time ≡ true) (λ (head : CommitHead). nat_lt head.time time ≡ false) heads place
    → ((d : CommitHead) → place < length heads → (get_or heads place d).time ≢ time) → HasNone time heads
not_there time heads place rising point here = none-by_place time heads (λ k d low is.
    elim (cases_lt k place) [
      | inl before ↦ let less = point.0 k d (omega arith) before in grind (arith, nat_tests)
      | inr behind ↦
          elim (cases_eq k place) [
            | inl same ↦ here d (omega arith) (rw (sym same) is)
            | inr other ↦
                let at_place : nat_lt (get_or heads place d).time time ≡ false = point.1 place d (omega arith) (omega arith) in
                let less : (get_or heads place d).time < (get_or heads k d).time = rising-pair 0 heads place k d rising (omega (arith, other)) low in
                let differs : (get_or heads place d).time ≢ time = here d (omega arith) in
                grind (arith, nat_tests)
          ]
    ])

-- where no head has a time, nothing of this time is awaited
pub not_awaited : (time : ℕ) (heads : List CommitHead) → HasNone time heads → is_awaited time heads ≡ false
not_awaited time [] none = refl
not_awaited time (x ∷ xs) none =
    let differs : x.time ≢ time = none.0 in
    let rest = not_awaited time xs none.1 in
    let apart : (x.time == time) ≡ false = grind (arith, nat_tests) in
    rw apart rest

-- the head at the place of a time is the one that is looked for
pub awaited-at : (t time : ℕ) (heads : List CommitHead) (place : ℕ) (d : CommitHead) → IsRisingAfter t heads → place < length heads
    → (get_or heads place d).time ≡ time → is_awaited time heads ≡ (get_or heads place d).awaited
awaited-at t time [] place d rising low is = absurd (omega arith)
awaited-at t time (x ∷ xs) zero d rising low is = let same : (x.time == time) ≡ true = grind (arith, nat_tests) in rw same refl
awaited-at t time (x ∷ xs) (suc k) d rising low is =
    let less : x.time < (get_or xs k d).time = rising-later x.time xs k d rising.2 (omega arith) in
    let apart : (x.time == time) ≡ false = grind (arith, nat_tests) in
    rw apart (awaited-at x.time time xs k d rising.2 (omega arith) is)

pub redeemed-at : (t time : ℕ) (heads : List CommitHead) (place : ℕ) (d : CommitHead) → IsRisingAfter t heads → place < length heads
    → (get_or heads place d).time ≡ time
    → set heads place (record (get_or heads place d) { awaited = false }) ≡ redeemed time heads
redeemed-at t time [] place d rising low is = absurd (omega arith)
redeemed-at t time (x ∷ xs) zero d rising low is = let same : (x.time == time) ≡ true = grind (arith, nat_tests) in rw same refl
redeemed-at t time (x ∷ xs) (suc k) d rising low is =
    let less : x.time < (get_or xs k d).time = rising-later x.time xs k d rising.2 (omega arith) in
    let apart : (x.time == time) ≡ false = grind (arith, nat_tests) in
    rw apart (ap (λ hs. x ∷ hs) (redeemed-at x.time time xs k d rising.2 (omega arith) is))

pub redeemed-rising : (t time : ℕ) (heads : List CommitHead) → IsRisingAfter t heads → IsRisingAfter t (redeemed time heads)
redeemed-rising t time [] rising = tt
redeemed-rising t time (x ∷ xs) rising =
    elim (x.time == time) as (λ b. IsRisingAfter t (cond b (record x { awaited = false } ∷ xs) (x ∷ redeemed time xs))) [
      | true ↦ (rising.0, rising.1, rising.2)
      | false ↦ (rising.0, rising.1, redeemed-rising x.time time xs rising.2)
    ]

pub length-redeemed : (time : ℕ) (heads : List CommitHead) → length (redeemed time heads) ≡ length heads
length-redeemed time [] = refl
length-redeemed time (x ∷ xs) =
    elim (x.time == time) as (λ b. length (cond b (record x { awaited = false } ∷ xs) (x ∷ redeemed time xs))
    ≡ length (x ∷ xs)) [ true ↦ refl | false ↦ ap suc (length-redeemed time xs) ]

-- what a redeem answers and leaves, by what it finds
pub unknown : (time : ℕ) (v : CommitOrderValue) → is_awaited time v.heads ≡ false → (Unknown ≡ state_of_ticket time v) × (v ≡ after_redeem time v)
unknown time v h = (rw h refl, rw h refl)

pub waiting : (time : ℕ) (v : CommitOrderValue) → is_awaited time v.heads ≡ true → last_published v < time
    → (Waiting ≡ state_of_ticket time v) × (v ≡ after_redeem time v)
waiting time v h late = let later : nat_le time (last_published v) ≡ false = grind (arith, nat_tests) in (rw (h, later) refl, rw (h, later) refl)

pub published : (time : ℕ) (v : CommitOrderValue) → is_awaited time v.heads ≡ true → time ≤ last_published v
    → (Published ≡ state_of_ticket time v) × (record v { heads = redeemed time v.heads } ≡ after_redeem time v)
published time v h early = let upto : nat_le time (last_published v) ≡ true = grind (arith, nat_tests) in (rw (h, upto) refl, rw (h, upto) refl)

-- the same of a head that was read at the place
pub found_awaited : (time : ℕ) (heads : List CommitHead) (place : ℕ) (head : CommitHead) → IsRisingAfter 0 heads → IsPlaceOf time heads place
    → head ≡ get_or heads place head → is_awaited time heads ≡ head.awaited
found_awaited time heads place head rising found is =
    awaited-at 0 time heads place head rising found.within (found.is head) ∙ ap (λ (h : CommitHead). h.awaited) (sym is)

pub found_redeemed : (time : ℕ) (heads : List CommitHead) (place : ℕ) (head : CommitHead) → IsRisingAfter 0 heads → IsPlaceOf time heads place
    → head ≡ get_or heads place head
    → set heads place (record { time = head.time; label = head.label; awaited = false }) ≡ redeemed time heads
found_redeemed time heads place head rising found is =
    ap (λ (h : CommitHead). set heads place (record h { awaited = false })) is ∙ redeemed-at 0 time heads place head rising found.within (found.is head)

pub still_heads : (time : ℕ) (heads : List CommitHead) (count : ℕ) → AreHeads heads count → AreHeads (redeemed time heads) count
still_heads time heads count are = record { within = omega (arith, length-redeemed time heads, are.within); rising = redeemed-rising 0 time heads are.rising }
