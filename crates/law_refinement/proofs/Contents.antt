-- A write in range is stored as a record in range.
use Rattle.std.proofs.Common.{◌≡◌, ℕ, ◌+◌, ◌*◌, ◌<◌, ◌≤◌, ◌^◌, ◌==◌, ◌&&◌, Bool, true, false, cond, nat_lt, List, [], ◌∷◌, length, map, Option, None, Some}
use Rattle.std.proofs.Common.{MatchOption, refl, arith, ap, sym, subst, ◌∙◌, pow_mono}
use Rattle.std.specs.Prelude.{bytes_eq, count_ones}
use Rattle.std.specs.List.{AllByRecursion}
use Rattle.std.specs.Simd.Lanes.{mask_l}
use Rattle.std.proofs.lemmas.Simd.{mask_l-lt, ones-mask_l_cons}
use Rattle.std.proofs.lemmas.Nat.{ones_le_self}
use Rattle.history.specs.declared.key.Key.{Key}
use Rattle.history.specs.declared.key.KeyWrite.{KeyWrite}
use Rattle.history.specs.Histories.{IsWrite}
use Rattle.law_image.specs.Values.{Value, IsField, IsValue}
use Rattle.law_image.specs.Reading.{Anchor, Delta}
use Rattle.law_image.specs.Facts.{mask_of, changed_of, delta_bytes, anchor_bytes, stored_over, stored}
use Rattle.law_image.specs.Plans.{stored_record}
use Rattle.deltas.specs.Records.{IsContent, AreChanged, content_of}
use Rattle.law_layout.specs.Records.{IsRecord}

-- which fields differ
abbrev differs : Value → Value → List Bool
differs [] news = []
differs (o ∷ os) [] = []
differs (o ∷ os) (n ∷ ns) = cond (bytes_eq o n) false true ∷ differs os ns

mask-differs : (olds news : Value) → mask_of olds news ≡ mask_l (differs olds news)
mask-differs [] news = refl
mask-differs (o ∷ os) [] = refl
mask-differs (o ∷ os) (n ∷ ns) =
    let rest = mask-differs os ns in
    elim (bytes_eq o n) as (λ (b : Bool). cond b 0 1 + 2 * mask_of os ns ≡ mask_l (cond b false true ∷ differs os ns)) [
      | true ↦ omega (arith, rest)
      | false ↦ omega (arith, rest)
    ]

changed-count : (olds news : Value) → length (changed_of olds news) ≡ count_ones (mask_l (differs olds news))
changed-count [] news = omega (arith, ones_le_self 0)
changed-count (o ∷ os) [] = omega (arith, ones_le_self 0)
changed-count (o ∷ os) (n ∷ ns) =
    let rest = changed-count os ns in
    elim (bytes_eq o n) as (λ (b : Bool). length (cond b (changed_of os ns) (n ∷ changed_of os ns)) ≡ count_ones (mask_l (cond b false true ∷ differs os ns))) [
      | true ↦ omega (arith, rest, ones-mask_l_cons false (differs os ns))
      | false ↦ omega (arith, rest, ones-mask_l_cons true (differs os ns))
    ]

differs-few : (olds news : Value) → length (differs olds news) ≤ length news
differs-few [] news = omega arith
differs-few (o ∷ os) [] = omega arith
differs-few (o ∷ os) (n ∷ ns) = let rest = differs-few os ns in omega (arith, rest)

changed-few : (olds news : Value) → length (changed_of olds news) ≤ length news
changed-few [] news = omega arith
changed-few (o ∷ os) [] = omega arith
changed-few (o ∷ os) (n ∷ ns) =
    let rest = changed-few os ns in
    elim (bytes_eq o n) as (λ (b : Bool). length (cond b (changed_of os ns) (n ∷ changed_of os ns)) ≤ length (n ∷ ns)) [
      | true ↦ omega (arith, rest)
      | false ↦ omega (arith, rest)
    ]

changed-fields : (olds news : Value) → AllByRecursion IsField news → AllByRecursion IsField (changed_of olds news)
changed-fields [] news all = tt
changed-fields (o ∷ os) [] all = tt
changed-fields (o ∷ os) (n ∷ ns) all =
    let rest = changed-fields os ns all.1 in
    elim (bytes_eq o n) as (λ (b : Bool). AllByRecursion IsField (cond b (changed_of os ns) (n ∷ changed_of os ns))) [
      | true ↦ rest
      | false ↦ (all.0, rest)
    ]

changed-is : (old new : Value) → IsValue new → AreChanged (mask_of old new) (changed_of old new)
changed-is old new is =
    let few : length (differs old new) ≤ 16 = omega (arith, differs-few old new, is.few) in
    let below : mask_l (differs old new) < 2 ^ 16 = omega (arith, mask_l-lt (differs old new), pow_mono few) in
    record {
      mask_fits = subst (λ (m : ℕ). m < 2 ^ 16) (sym (mask-differs old new)) below;
      each_bit = changed-count old new ∙ ap count_ones (sym (mask-differs old new));
      few = omega (arith, changed-few old new, is.few);
      fields = changed-fields old new is.fields;
    }

over-is : (old new : Value) → IsValue new → IsContent (content_of (stored_over old new))
over-is old new is =
    elim ((length old == length new) && nat_lt (delta_bytes (changed_of old new)) (anchor_bytes new)) as
    (λ (b : Bool). IsContent (content_of (cond b (Delta (mask_of old new) (changed_of old new)) (Anchor new)))) [
      | true ↦ changed-is old new is
      | false ↦ is
    ]

content-is : (before new : Option Value) → MatchOption new (Unit {0}) IsValue → IsContent (content_of (stored before new))
content-is before None is = tt
content-is None (Some new) is = is
content-is (Some old) (Some new) is = over-is old new is

pub record-is : (before : Key → Option Value) (w : KeyWrite Value) → IsWrite IsValue w → IsRecord (stored_record before w)
record-is before w is = record { key = is.key; content = content-is (before w.key) w.write is.value }

pub records-are : (before : Key → Option Value) (ws : List (KeyWrite Value)) → AllByRecursion (IsWrite IsValue) ws
    → AllByRecursion IsRecord (map (stored_record before) ws)
records-are before [] all = tt
records-are before (w ∷ ws) all = (record-is before w all.0, records-are before ws all.1)
