-- A value that is read is the one that was spelled.
use Rattle.std.proofs.Common.{◌≡◌, ◌≢◌, ℕ, suc, ◌<◌, ◌≤◌, List, [], ◌∷◌, ◌++◌, get_or, drop, length, sym, ◌∙◌, ap, subst, arith}
use Rattle.wire.specs.Fields.{AreAllFields, fields_bytes, HasFields, fields_at, rest_at}
use Rattle.wire.specs.Values.{IsValue, value_bytes}
use Rattle.wire.proofs.Zeros.{AreBytes}
use Rattle.wire.proofs.FieldsRead.{length-fields_at, fields_back, fields_again, fields_at-fields}

pub one_value : (a b : List (List ℕ)) (rest others : List ℕ) → value_bytes a ++ rest ≡ value_bytes b ++ others → (a ≡ b) × (rest ≡ others)
one_value a b rest others same =
    let count : length a ≡ length b = ap (λ (l : List ℕ). get_or l 0 0) same in
    let behind : fields_bytes a ++ rest ≡ fields_bytes b ++ others = ap (λ (l : List ℕ). drop 1 l) same in
    let first = fields_again a rest in
    let second = fields_again b others in (
      sym first.are ∙ ap (λ n. fields_at n (fields_bytes a ++ rest)) count ∙ ap (λ (l : List ℕ). fields_at (length b) l) behind ∙ second.are,
      sym first.behind ∙ ap (λ n. rest_at n (fields_bytes a ++ rest)) count ∙ ap (λ (l : List ℕ). rest_at (length b) l) behind ∙ second.behind,
    )

-- where the fields aren't there no value is
pub no_value : (bytes after rest : List ℕ) (count : ℕ) (value : List (List ℕ)) → count ≡ get_or bytes 0 0 → after ≡ drop 1 bytes
    → (((count ≤ 16) × HasFields count after) → ⊥) → IsValue value
    → bytes ≡ value_bytes value ++ rest → ⊥
no_value bytes after rest count value count_is after_is none is spelled =
    let number : count ≡ length value = count_is ∙ ap (λ (l : List ℕ). get_or l 0 0) spelled in
    let behind : after ≡ fields_bytes value ++ rest = after_is ∙ ap (λ (l : List ℕ). drop 1 l) spelled in
    let few = is.few in
    none (
      omega arith,
      subst (λ n. HasFields n after) (sym number) (subst (λ (l : List ℕ). HasFields (length value) l) (sym behind)
          (fields_again value rest).has),
    )

-- fields that are there, at least one, are a value
pub value_found : (bytes after rest : List ℕ) (count : ℕ) (value : List (List ℕ)) → AreBytes bytes → 0 < length bytes → count ≡ get_or bytes 0 0
    → after ≡ drop 1 bytes → count ≢ 0
    → (count ≤ 16) × HasFields count after × (value ≡ fields_at count after) × (rest ≡ rest_at count after)
    → IsValue value × (bytes ≡ value_bytes value ++ rest)
value_found [] after rest count value small some count_is after_is not_none found = absurd (omega arith)
value_found (n ∷ bytes) after rest count value small some count_is after_is not_none found =
    let few = found.0 in
    let len : length value ≡ count = ap (λ (v : List (List ℕ)). length v) found.2 ∙ length-fields_at count after found.1 in
    let small_after : AreBytes after = subst AreBytes (sym after_is) (λ i. small (suc i)) in
    let back : fields_bytes value ++ rest ≡ bytes =
    ap (λ (v : List (List ℕ)). fields_bytes v ++ rest) found.2 ∙ ap (λ (l : List ℕ). fields_bytes (fields_at count after) ++ l) found.3
    ∙ fields_back count after found.1 ∙ after_is in
    let first : length value ≡ n = len ∙ count_is in (
      record {
        some = omega (arith, len, not_none);
        few = omega (arith, len, few);
        fields = subst AreAllFields (sym found.2) (fields_at-fields count after small_after);
      },
      λ i. sym first i ∷ sym back i,
    )
