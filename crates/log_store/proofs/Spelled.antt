-- Records that are spelled one behind the other.
use Rattle.std.proofs.Common.{◌≡◌, ℕ, suc, ◌+◌, Some, List, ◌++◌, length, drop, sym, ◌∙◌, ap, arith, append_assoc}
use Rattle.std.specs.Prelude.{slice_get, flat_map}
use Rattle.std.proofs.lemmas.List.Concat.{flat_map-cons}
use Rattle.deltas.specs.declared.«record».Record.{Record}
use Rattle.deltas.specs.Records.{spelling}
use Rattle.deltas.proofs.FilledChains.{next_is}

pub next-spelled : (bytes more : List ℕ) (left after : List Record) (r : Record) (all : List ℕ) → Some r ≡ slice_get left 0 → after ≡ drop 1 left
    → more ≡ bytes ++ spelling r → bytes ++ flat_map spelling left ≡ all → more ++ flat_map spelling after ≡ all
next-spelled bytes more left after r all next behind more_is whole =
    (λ i. more_is i ++ flat_map spelling (behind i))
    ∙ append_assoc bytes (spelling r) (flat_map spelling (drop 1 left))
    ∙ ap (λ (bs : List ℕ). bytes ++ bs) (sym (flat_map-cons spelling r (drop 1 left)))
    ∙ ap (λ (rs : List Record). bytes ++ flat_map spelling rs) (sym (next_is left r next))
    ∙ whole

pub next-counted : (count : ℕ) (left after : List Record) (r : Record) (all : ℕ) → Some r ≡ slice_get left 0 → after ≡ drop 1 left
    → count + length left ≡ all → count + 1 + length after ≡ all
next-counted count left after r all next behind whole =
    let first : length left ≡ suc (length (drop 1 left)) = ap (λ (rs : List Record). length rs) (next_is left r next) in
    let rest : length after ≡ length (drop 1 left) = ap (λ (rs : List Record). length rs) behind in
    omega (arith, first, rest, whole)
