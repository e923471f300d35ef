-- The times of many calls rise.
use Rattle.std.proofs.Common.{◌≡◌, ℕ, ◌<◌, ◌≤◌, ◌^◌, nat_lt, true, false, cond, List, [], ◌∷◌, arith}
use Rattle.std.specs.List.{AllByRecursion}
use Rattle.std.specs.List.Sorted.{IsStrictlySortedBy}
use Rattle.std.specs.Ordering.{nat_cmp}
use Rattle.std.specs.declared.cmp.Ordering.TheVariants.{Less}
use Rattle.std.proofs.lemmas.Bool.Decides.{nat_tests}
use Rattle.std.proofs.lemmas.List.Kept.{AllPairs-from_increasing}
use Rattle.std.proofs.lemmas.Map.Keys.{IsStrictlyIncreasing-from_sorted}
use Rattle.clock.specs.Commit.{next_time, times_given, TimesRise}

less : (a b : ℕ) → a < b → nat_cmp a b ≡ Less
less a b h = grind (arith, nat_tests)

above : (floor last : ℕ) (nows : List ℕ) → floor ≤ last → AllByRecursion (λ t. nat_cmp floor t ≡ Less) (times_given last nows)
above floor last [] h = tt
above floor last (now ∷ nows) h =
    let next = next_time last now in
    elim (nat_lt next (2 ^ 63)) as (λ b. AllByRecursion (λ t. nat_cmp floor t ≡ Less) (cond b (next ∷ times_given next nows) (times_given last nows))) [
      | true ↦ (less floor next (omega arith), above floor next nows (omega arith))
      | false ↦ above floor last nows h
    ]

rising : (last : ℕ) (nows : List ℕ) → IsStrictlySortedBy nat_cmp (times_given last nows)
unfolding IsStrictlySortedBy
rising last [] = tt
rising last (now ∷ nows) =
    let next = next_time last now in
    elim (nat_lt next (2 ^ 63)) as (λ b. IsStrictlySortedBy nat_cmp (cond b (next ∷ times_given next nows) (times_given last nows))) [
      | true ↦ (above next next nows (omega arith), rising next nows)
      | false ↦ rising last nows
    ]

pub times_rise_lem : TimesRise
unfolding IsStrictlySortedBy
times_rise_lem last nows =
    AllPairs-from_increasing (last ∷ times_given last nows)
    (IsStrictlyIncreasing-from_sorted (last ∷ times_given last nows) (above last last nows (omega arith), rising last nows))
