-- A reclaim begins.
use Rattle.std.proofs.Common.{◌≡◌, ℕ, suc, ◌+◌, ◌*◌, ◌^◌, ◌<◌, ◌≤◌, nat_le, nat_lt, true, false, List, [], ◌∷◌, ◌++◌, length, map, None, Err, refl, arith, ap}
use Rattle.std.proofs.Common.{subst, inl, inr, length-append}
use Rattle.std.specs.List.{AllByRecursion}
use Rattle.std.proofs.lemmas.Bool.{cases_lt}
use Rattle.std.proofs.lemmas.Bool.Decides.{nat_tests}
use Rattle.wire.specs.Numbers.{u16_bytes, u64_bytes}
use Rattle.deltas.specs.declared.«record».Record.{Record}
use Rattle.deltas.specs.Packing.{bodies, bodies_from}
use Rattle.deltas.specs.Records.{spelling}
use Rattle.group.specs.Submits.{free_count}
use Rattle.store.specs.Values.{StoreValue}
use Rattle.store.specs.Reclaims.{StartsReclaim, reclaim_refusal, anchors_of}
use Rattle.store.specs.declared.job.StartFault.TheVariants as fault

-- a record has at least so many bytes
low_len : (r : Record) → 11 ≤ length (spelling r)
unfolding spelling u16_bytes u64_bytes
low_len r = omega arith

abbrev AreLong : List (List ℕ) → Type 0
AreLong rs = AllByRecursion (λ (r : List ℕ). 11 ≤ length r) rs

all_long : (records : List Record) → AreLong (map spelling records)
all_long [] = tt
all_long (r ∷ rs) = (low_len r, all_long rs)

-- so many records, of which a body has that many already, need as many bodies as hold them
many_from : (k : ℕ) (body : List ℕ) (rs : List (List ℕ)) → 11 * k ≤ 8176 → 11 * k ≤ length body → AreLong rs
    → 11 * (k + length rs) ≤ 8176 * length (bodies_from body rs)
many_from k body [] fits held all = omega (arith, fits)
many_from k body (r ∷ rs) fits held all =
    let long = all.0 in
    elim (cases_lt 8176 (length body + length r)) [
      | inl over ↦
          let test : nat_le (length body + length r) 8176 ≡ false = grind (arith, nat_tests) in
          let rest = many_from 1 r rs (omega arith) (omega (arith, long)) all.1 in
          rw test (omega (arith, rest, fits))
      | inr fit ↦
          let test : nat_le (length body + length r) 8176 ≡ true = grind (arith, nat_tests) in
          let both : length (body ++ r) ≡ length body + length r = length-append body r in
          let rest = many_from (k + 1) (body ++ r) rs (omega (arith, held, long, fit)) (omega (arith, held, long, both)) all.1 in
          rw test (omega (arith, rest))
    ]

many_bodies : (rs : List (List ℕ)) → AreLong rs → 11 * length rs ≤ 8176 * length (bodies rs)
many_bodies [] all = omega arith
many_bodies (r ∷ rs) all = let long = all.0 in let rest = many_from 1 r rs (omega arith) (omega (arith, long)) all.1 in omega (arith, rest)

length_map : (records : List Record) → length (map spelling records) ≡ length records
length_map [] = refl
length_map (r ∷ rs) = ap suc (length_map rs)

-- more records than a count holds need more extents than there are
too_many : (records : List Record) (free : ℕ) → 2 ^ 32 ≤ length records → free ≤ 65536 → nat_lt free (length (bodies (map spelling records))) ≡ true
too_many records free many few =
    let low = many_bodies (map spelling records) (all_long records) in
    let same = length_map records in
    let less : free < length (bodies (map spelling records)) = omega (arith, low, same, many, few) in
    grind (arith, nat_tests)

-- where there are so many, the heap has no room for them
pub too-full : (v : StoreValue) (left : List Record) → reclaim_refusal v ≡ None → left ≡ anchors_of v → 2 ^ 32 ≤ length left
    → StartsReclaim v (Err fault.HeapFull) v
too-full v left none is many =
    let all : 2 ^ 32 ≤ length (anchors_of v) = subst (λ (rs : List Record). 2 ^ 32 ≤ length rs) is many in
    rw none (too_many (anchors_of v) (free_count v.transactions) all (omega arith), refl)
