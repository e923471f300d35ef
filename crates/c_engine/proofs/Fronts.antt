-- A byte and others behind it, written to a slice's front.
use Rattle.std.specs.Prelude.{◌≡◌, ◌+◌, ◌≤◌, ℕ, List, [], ◌∷◌, length, take, slice_set}
use Rattle.std.proofs.Common.{◌∙◌, ap, arith}
use Rattle.std.proofs.lemmas.Slice.{take-put_mid}
use borrow.Rule.Slice.PartMut.{put_mid}

pub front : (xs : List ℕ) (k c : ℕ) (ys spelled : List ℕ) → 1 ≤ length xs → ys ≡ spelled → take (length spelled + 1) (put_mid 1 k (slice_set xs 0 c) ys) ≡ c
    ∷ spelled
front [] k c ys spelled some same = absurd (omega (arith, some))
front (x ∷ xs) k c ys spelled some same =
    let len = ap (λ (l : List ℕ). length l) same in
    take-put_mid 1 k (c ∷ xs) ys (length spelled + 1) (omega (arith, len)) (omega arith) ∙ ap (λ (l : List ℕ). c ∷ l) same
