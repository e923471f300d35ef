-- The runs and rolls of a log end within the archive that holds them, and have no byte in common.
use Rattle.std.proofs.Common.{◌≡◌, ℕ, ◌*◌, List, [], ◌∷◌, length, map, refl, ap, arith}
use Rattle.std.specs.Prelude.{flat_map}
use Rattle.std.specs.List.{AllByRecursion}
use Rattle.wire.specs.Numbers.{u64_bytes}
use Rattle.law_image.specs.Reading.{Head}
use Rattle.law_layout.specs.Runs.{StoredRun, IsStoredRun, HoldsRun}
use Rattle.law_log_layout.specs.HeapLog.{PlacedRoll, Span, run_span, roll_span, name_bytes, HoldsRoll, IsStoredRoll}
use Rattle.log_recovery.specs.Rules.{roll_part}
use Rattle.log_recovery.specs.Opening.{EndsWithin}

names-long : (xs : List Head) → length (flat_map name_bytes xs) ≡ 16 * length xs
unfolding u64_bytes
names-long [] = refl
names-long (a ∷ xs) = omega (arith, names-long xs)

pub runs-within : (archive : List ℕ) (runs : List StoredRun) → AllByRecursion IsStoredRun runs → AllByRecursion (HoldsRun archive) runs
    → AllByRecursion (EndsWithin (length archive)) (map run_span (map (λ (s : StoredRun). s.entry) runs))
runs-within archive [] each held = tt
runs-within archive (s ∷ runs) each held =
    let is = each.0 in
    let part = held.0 in
    (omega (arith, is.length_is, part.inside), runs-within archive runs each.1 held.1)

pub rolls-within : (archive : List ℕ) (rolls : List PlacedRoll) → AllByRecursion IsStoredRoll rolls → AllByRecursion (HoldsRoll archive) rolls
    → AllByRecursion (EndsWithin (length archive)) (map roll_part (map (λ (r : PlacedRoll). r.roll) rolls))
rolls-within archive [] each held = tt
rolls-within archive (r ∷ rolls) each held =
    let is = each.0 in
    let part = held.0 in
    (omega (arith, is.length_is, part.inside, names-long r.names), rolls-within archive rolls each.1 held.1)

pub run-spans : (runs : List StoredRun) → map (λ (s : StoredRun). run_span s.entry) runs ≡ map run_span (map (λ (s : StoredRun). s.entry) runs)
run-spans [] = refl
run-spans (s ∷ runs) = ap (λ (l : List Span). run_span s.entry ∷ l) (run-spans runs)

pub roll-spans : (rolls : List PlacedRoll) → map roll_span rolls ≡ map roll_part (map (λ (r : PlacedRoll). r.roll) rolls)
roll-spans [] = refl
roll-spans (r ∷ rolls) = ap (λ (l : List Span). roll_span r ∷ l) (roll-spans rolls)
