-- What the parts of a front say.
use Rattle.std.proofs.Common.{◌≡◌, ◌≢◌, ◌↔◌, ℕ, ◌+◌, ◌-◌, ◌<◌, ◌≤◌, List, length, get_or, take, drop, Bool, refl, sym, ◌∙◌, ap, arith}
use Rattle.std.specs.Prelude.{slice_index, IsTrue}
use Rattle.std.proofs.lemmas.Bool.Decides.{nat_tests}
use Rattle.std.proofs.lemmas.List.{length-take, length-drop, get_or-take, get_or-drop}
use Rattle.status.specs.Header.{piece_gate, zeros_from}

-- a part of a front
part_at : (from n : ℕ) (front : List ℕ) (k : ℕ) → k < n → slice_index (take n (drop from front)) k ≡ slice_index front (from + k)
part_at from n front k within = get_or-take n (drop from front) k 0 within ∙ get_or-drop from front k 0

length-part : (from n : ℕ) (front : List ℕ) → length front ≡ 512 → from + n ≤ 512 → length (take n (drop from front)) ≡ n
length-part from n front long fits = omega (arith, length-take n (drop from front), length-drop from front)

-- zeros behind a place
pub zeros_behind : (from n : ℕ) (front : List ℕ) (b : Bool) → from + n ≡ 512 → length front ≡ 512
    → (IsTrue b ↔ ((k : ℕ) → k < length (take n (drop from front)) → slice_index (take n (drop from front)) k ≡ 0))
    → (IsTrue b ↔ ((k : ℕ) → from ≤ k → k < 512 → slice_index front k ≡ 0))
zeros_behind from n front b all long iff =
    let part_long = length-part from n front long (omega arith) in (
      λ yes k low high.
          let place : from + (k - from) ≡ k = omega arith in
          let within : k - from < n = omega arith in
          sym (ap (λ m. get_or front m 0) place) ∙ sym (part_at from n front (k - from) within) ∙ iff.0 yes (k - from) (omega (arith, part_long)),
      λ zeros. iff.1 (λ k lt. let within : k < n = omega (arith, part_long) in part_at from n front k within ∙ zeros (from + k) (omega arith) (omega arith)),
    )

pub zeros_from-one : (profile : ℕ) → profile ≡ 1 → zeros_from profile ≡ 16
zeros_from-one profile is = rw is refl

pub zeros_from-other : (profile : ℕ) → profile ≢ 1 → zeros_from profile ≡ 271
zeros_from-other profile other = grind (arith, nat_tests)

-- the run of open gates at the front of the pieces
pub gates_say : (front : List ℕ) (n : ℕ) → length front ≡ 512 → n ≤ length (take 255 (drop 16 front))
    → ((i : ℕ) → i < n → slice_index (take 255 (drop 16 front)) i ≡ 0xC7) → (n < length (take 255 (drop 16 front))
    → slice_index (take 255 (drop 16 front)) n ≢ 0xC7)
    → (n ≤ 255) × ((i : ℕ) → i < n → piece_gate front i ≡ 0xC7) × (n < 255 → piece_gate front n ≢ 0xC7)
gates_say front n long few opened next =
    let part_long = length-part 16 255 front long (omega arith) in (
      omega (arith, part_long),
      λ i lt. let within : i < 255 = omega (arith, part_long) in sym (part_at 16 255 front i within) ∙ opened i lt,
      λ lt is_open. next (omega (arith, part_long)) (part_at 16 255 front n lt ∙ is_open),
    )
