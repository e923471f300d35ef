-- A record that was read is spelled by the bytes that stand there.
use Rattle.std.proofs.Common.{◌≡◌, ℕ, zero, suc, ◌+◌, ◌≤◌, List, [], ◌∷◌, ◌++◌, length, drop, count_ones, slice_index, refl, sym, ◌∙◌, ap, subst, arith}
use Rattle.std.proofs.Common.{append_assoc}
use Rattle.std.proofs.lemmas.List.{length-drop, drop-drop}
use Rattle.byteorder.specs.Endian.{little_number}
use Rattle.wire.specs.Numbers.{u16_bytes, u64_bytes}
use Rattle.wire.specs.Fields.{fields_bytes, fields_at, rest_at}
use Rattle.wire.specs.Values.{value_bytes}
use Rattle.deltas.specs.Records.{kind_of, rest_of, spelling}
use Rattle.deltas.specs.Reading.{key_at, mask_at, from_at, count_at, HasValue, value_at, behind_value, HasContent, content_at, behind_content, HasRecord}
use Rattle.deltas.specs.Reading.{record_at, behind_record}
use Rattle.wire.proofs.Zeros.{AreBytes, AreBytes-drop}
use Rattle.wire.proofs.FieldsRead.{fields_back, length-fields_at}
use Rattle.deltas.proofs.NumbersBack.{then_2, then_8}

value_back : (bytes : List ℕ) → HasValue bytes → value_bytes (value_at bytes) ++ behind_value bytes ≡ bytes
value_back [] has = let head = has.head in absurd (omega (arith, head))
value_back (count ∷ bytes) has =
    let len = length-fields_at count bytes has.fields in
    let back = fields_back count bytes has.fields in
    λ i. len i ∷ back i

content_back : (kind : ℕ) (bytes : List ℕ) → AreBytes bytes → HasContent kind bytes
    → (kind_of (content_at kind bytes) ≡ kind) × (rest_of (content_at kind bytes) ++ behind_content kind bytes ≡ bytes)
unfolding mask_at from_at
content_back zero bytes small has = absurd has
content_back (suc zero) bytes small has = (refl, value_back bytes has)
content_back (suc (suc zero)) bytes small has =
    let count = count_ones (mask_at bytes) in (
      refl,
      append_assoc (u16_bytes (mask_at bytes)) (fields_bytes (fields_at count (drop 2 bytes))) (rest_at count (drop 2 bytes))
          ∙ then_2 0 bytes _ small has.head (fields_back count (drop 2 bytes) has.fields),
    )
content_back (suc (suc (suc zero))) bytes small has = (refl, refl)
content_back (suc (suc (suc (suc zero)))) bytes small has = (
  refl,
  append_assoc (u64_bytes (from_at bytes)) (value_bytes (value_at (drop 8 bytes))) (behind_value (drop 8 bytes))
      ∙ then_8 0 bytes _ small has.head (value_back (drop 8 bytes) has.value),
)
content_back (suc (suc (suc (suc (suc n))))) bytes small has = absurd has

-- the one spelling of the record that is read, and what follows it, are the bytes
pub record_back : (bytes : List ℕ) → AreBytes bytes → HasRecord bytes → spelling (record_at bytes) ++ behind_record bytes ≡ bytes
unfolding spelling record_at behind_record key_at
record_back [] small has = let head = has.head in absurd (omega (arith, head))
record_back (kind ∷ bytes) small has =
    let head = has.head in
    let small_after : AreBytes bytes = λ i. small (suc i) in
    let rest = content_back kind (drop 10 bytes) (AreBytes-drop 10 bytes small_after) has.content in
    let number = then_8 2 bytes _ small_after (omega (arith, head)) rest.1 in
    let relation = then_2 0 bytes _ small_after (omega (arith, head)) number in
    let first = rest.0 in
    let content = rest_of (content_at kind (drop 10 bytes)) in
    let behind : (u16_bytes (little_number 2 bytes) ++ u64_bytes (little_number 8 (drop 2 bytes)) ++ content) ++ behind_content kind (drop 10 bytes) ≡ bytes =
    simp append_assoc relation in
    λ i. first i ∷ behind i
