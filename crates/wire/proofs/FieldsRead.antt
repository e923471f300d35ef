-- Fields that are read are those that were spelled.
use Rattle.std.proofs.Common.{◌≡◌, ℕ, zero, suc, ◌+◌, ◌≤◌, List, [], ◌∷◌, ◌++◌, ◌*◌, ◌<◌, get_or, length, take, drop, refl, sym, ◌∙◌, ap, arith, append_assoc}
use Rattle.std.proofs.Common.{take-append-drop, length-append, subst, ◌-◌, ◌↔◌}
use Rattle.std.proofs.Math.Seq.{drop-append_seam, take-append_seam}
use Rattle.std.proofs.lemmas.List.{length-take, length-drop, get_or-drop, append-nil, take_all}
use Rattle.std.proofs.lemmas.Grind.{get_or_default_zero}
use Rattle.wire.specs.Fields.{field_bytes, fields_bytes, HasFields, fields_at, rest_at, AreFields, IsField, AreAllFields, AreShort}
use Rattle.wire.proofs.Zeros.{AreBytes, AreBytes-take, AreBytes-drop}

pub length-fields_at : (n : ℕ) (bytes : List ℕ) → HasFields n bytes → length (fields_at n bytes) ≡ n
length-fields_at zero bytes has = refl
length-fields_at (suc n) [] has = absurd has
length-fields_at (suc n) (len ∷ bytes) has = ap suc (length-fields_at n (drop len bytes) has.1)

-- what is read is spelled by the bytes
pub fields_back : (n : ℕ) (bytes : List ℕ) → HasFields n bytes → fields_bytes (fields_at n bytes) ++ rest_at n bytes ≡ bytes
fields_back zero bytes has = refl
fields_back (suc n) [] has = absurd has
fields_back (suc n) (len ∷ bytes) has =
    let ih = fields_back n (drop len bytes) has.1 in
    let le = has.0 in
    let is : length (take len bytes) ≡ len = omega (arith, length-take len bytes, le) in
    let all = take-append-drop len bytes in
    append_assoc (length (take len bytes) ∷ take len bytes) (fields_bytes (fields_at n (drop len bytes))) (rest_at n (drop len bytes))
    ∙ ap (λ (l : List ℕ). (length (take len bytes) ∷ take len bytes) ++ l) ih
    ∙ (λ i. is i ∷ all i)

pub fields_all : (n : ℕ) (bytes : List ℕ) → AreFields n bytes → fields_bytes (fields_at n bytes) ≡ bytes
fields_all n bytes are =
    sym (append-nil (fields_bytes (fields_at n bytes))) ∙ ap (λ (l : List ℕ). fields_bytes (fields_at n bytes) ++ l) (sym are.all) ∙ fields_back n bytes are.has

-- what follows fields is no longer than what held them
pub rest_at_most : (n : ℕ) (bytes : List ℕ) → length (rest_at n bytes) ≤ length bytes
rest_at_most zero bytes = omega arith
rest_at_most (suc n) [] = omega arith
rest_at_most (suc n) (len ∷ bytes) = let rest = rest_at_most n (drop len bytes) in omega (arith, rest, length-drop len bytes)

-- fields take at most 256 bytes each
pub fields_short : (n : ℕ) (bytes : List ℕ) → ((i : ℕ) → get_or bytes i 0 < 256) → HasFields n bytes → length bytes ≤ length (rest_at n bytes) + n * 256
fields_short zero bytes small has = omega arith
fields_short (suc n) [] small has = absurd has
fields_short (suc n) (len ∷ bytes) small has =
    let rest = fields_short n (drop len bytes) (λ i. rw (get_or-drop len bytes i 0) (small (suc (len + i)))) has.1 in
    let first : len < 256 = small 0 in
    let le = has.0 in
    omega (arith, rest, length-drop len bytes, le, first)

-- what was spelled is read again, whatever follows it
pub record Reads (n : ℕ) (bytes : List ℕ) (fields : List (List ℕ)) (rest : List ℕ) : Type 0 where
  pub has : HasFields n bytes
  pub are : fields_at n bytes ≡ fields
  pub behind : rest_at n bytes ≡ rest

pub fields_again : (fields : List (List ℕ)) (rest : List ℕ) → Reads (length fields) (fields_bytes fields ++ rest) fields rest
fields_again [] rest = record { has = tt; are = refl; behind = refl }
fields_again (field ∷ fields) rest =
    let others : List ℕ = fields_bytes fields in
    let dropped : drop (length field) ((field ++ others) ++ rest) ≡ others ++ rest =
    ap (λ (l : List ℕ). drop (length field) l) (append_assoc field others rest) ∙ drop-append_seam field (others ++ rest) in
    let taken : take (length field) ((field ++ others) ++ rest) ≡ field =
    ap (λ (l : List ℕ). take (length field) l) (append_assoc field others rest) ∙ take-append_seam field (others ++ rest) in
    let ih = fields_again fields rest in
    let are = ap (λ (l : List ℕ). fields_at (length fields) l) dropped ∙ ih.are in
    record {
      has = (
        omega (arith, length-append (field ++ others) rest, length-append field others),
        subst (λ (l : List ℕ). HasFields (length fields) l) (sym dropped) ih.has,
      );
      are = λ i. taken i ∷ are i;
      behind = ap (λ (l : List ℕ). rest_at (length fields) l) dropped ∙ ih.behind;
    }

-- bytes in a field's place are a field
pub is_field : (field : List ℕ) → AreBytes field → length field ≤ 255 → IsField field
is_field field small short = record { short = omega arith; are_bytes = λ k d lt. rw (get_or_default_zero field k d lt) (small k) }

pub fields_at-fields : (n : ℕ) (bytes : List ℕ) → AreBytes bytes → AreAllFields (fields_at n bytes)
fields_at-fields zero bytes small = tt
fields_at-fields (suc n) [] small = tt
fields_at-fields (suc n) (len ∷ bytes) small =
    let first : len < 256 = small 0 in
    let others : AreBytes bytes = λ i. small (suc i) in (
      is_field (take len bytes) (AreBytes-take len bytes others) (omega (arith, length-take len bytes, first)),
      fields_at-fields n (drop len bytes) (AreBytes-drop len bytes others),
    )

pub fields_are_short : (fields : List (List ℕ)) → AreAllFields fields → AreShort fields
fields_are_short [] are = tt
fields_are_short (field ∷ fields) are = let first = are.0.short in (omega (arith, first), fields_are_short fields are.1)

-- the bytes up to what follows the fields are just the fields
pub fields_alone : (n : ℕ) (bytes front : List ℕ) → ((i : ℕ) → get_or bytes i 0 < 256) → n ≤ 16 → HasFields n bytes
    → front ≡ take (length bytes - length (rest_at n bytes)) bytes
    → AreFields n front × (fields_at n front ≡ fields_at n bytes)
fields_alone n bytes front small few has is =
    let spelled : List ℕ = fields_bytes (fields_at n bytes) in
    let back = fields_back n bytes has in
    let len : length spelled + length (rest_at n bytes) ≡ length bytes = sym (length-append spelled (rest_at n bytes)) ∙ ap (λ (l : List ℕ). length l) back in
    let size : length bytes - length (rest_at n bytes) ≡ length spelled = omega arith in
    let alone : front ≡ spelled =
    is ∙ ap (λ k. take k bytes) size ∙ ap (λ (l : List ℕ). take (length spelled) l) (sym back) ∙ take-append_seam spelled (rest_at n bytes) in
    let count = length-fields_at n bytes has in
    let whole : front ≡ spelled ++ [] = alone ∙ sym (append-nil spelled) in
    let again : Reads n front (fields_at n bytes) [] =
    subst (λ m. Reads m front (fields_at n bytes) []) count (subst (λ (l : List ℕ). Reads (length (fields_at n bytes)) l (fields_at n bytes) []) (sym whole)
    (fields_again (fields_at n bytes) [])) in
    let short = fields_short n bytes small has in
    let length_is : length front ≡ length spelled = ap (λ (l : List ℕ). length l) alone in (
      record {
        has = again.has;
        all = again.behind;
        few = few;
        short = omega arith;
        each = subst AreAllFields (sym again.are) (fields_at-fields n bytes small);
      },
      again.are,
    )

-- one field more
pub has_first : (n : ℕ) (bytes : List ℕ) → HasFields (suc n) bytes → HasFields 1 bytes
has_first n [] has = absurd has
has_first n (len ∷ bytes) has = (has.0, tt)

pub has_more : (n : ℕ) (bytes : List ℕ) → HasFields 1 bytes → HasFields (suc n) bytes ↔ HasFields n (rest_at 1 bytes)
has_more n [] first = absurd first
has_more n (len ∷ bytes) first = (λ has. has.1, λ rest. (first.0, rest))

pub rest_more : (n : ℕ) (bytes : List ℕ) → HasFields 1 bytes → rest_at (suc n) bytes ≡ rest_at n (rest_at 1 bytes)
rest_more n [] first = absurd first
rest_more n (len ∷ bytes) first = refl

pub skip_step : (n m count : ℕ) (rest after bytes : List ℕ) → n ≡ suc m → HasFields 1 rest → after ≡ rest_at 1 rest
    → (HasFields n rest ↔ HasFields count bytes) × (rest_at n rest ≡ rest_at count bytes)
    → (HasFields m after ↔ HasFields count bytes) × (rest_at m after ≡ rest_at count bytes)
skip_step n m count rest after bytes n_is first after_is so_far =
    let more : HasFields n rest ↔ HasFields m after =
    subst (λ k. HasFields k rest ↔ HasFields m after) (sym n_is) (subst (λ (l : List ℕ). HasFields (suc m) rest ↔ HasFields m l) (sym after_is)
    (has_more m rest first)) in
    let behind : rest_at m after ≡ rest_at n rest =
    ap (λ (l : List ℕ). rest_at m l) after_is ∙ sym (rest_more m rest first) ∙ ap (λ k. rest_at k rest) (sym n_is) in
    ((λ h. so_far.0.0 (more.1 h), λ h. more.0 (so_far.0.1 h)), behind ∙ so_far.1)

pub none_more : (n m count : ℕ) (rest bytes : List ℕ) → n ≡ suc m → (HasFields 1 rest → ⊥) → (HasFields n rest ↔ HasFields count bytes) → HasFields count bytes
    → ⊥
none_more n m count rest bytes n_is none so_far has = none (has_first m rest (subst (λ k. HasFields k rest) n_is (so_far.1 has)))

-- the first field, and the others
pub record Splits (n m : ℕ) (bytes : List ℕ) : Type 0 where
  pub some : 0 < length bytes
  pub within : 1 + get_or bytes 0 0 ≤ length bytes
  pub has : HasFields m (drop (1 + get_or bytes 0 0) bytes)
  pub fields : fields_at n bytes ≡ take (1 + get_or bytes 0 0 - 1) (drop 1 bytes) ∷ fields_at m (drop (1 + get_or bytes 0 0) bytes)

split_suc : (m : ℕ) (bytes : List ℕ) → HasFields (suc m) bytes → Splits (suc m) m bytes
split_suc m [] has = absurd has
split_suc m (len ∷ bytes) has =
    let one : suc len ≡ 1 + len = omega arith in
    let rest : drop len bytes ≡ drop (1 + len) (len ∷ bytes) = ap (λ k. drop k (len ∷ bytes)) one in
    let size : len ≡ 1 + len - 1 = omega arith in
    let field : take len bytes ≡ take (1 + len - 1) bytes = ap (λ k. take k bytes) size in
    let others : fields_at m (drop len bytes) ≡ fields_at m (drop (1 + len) (len ∷ bytes)) = ap (λ (l : List ℕ). fields_at m l) rest in
    let le = has.0 in
    record { some = omega arith; within = omega (arith, le); has = subst (λ (l : List ℕ). HasFields m l) rest has.1; fields = λ i. field i ∷ others i }

pub split_fields : (n m : ℕ) (bytes : List ℕ) → n ≡ suc m → HasFields n bytes → Splits n m bytes
split_fields n m bytes is has = subst (λ k. Splits k m bytes) (sym is) (split_suc m bytes (subst (λ k. HasFields k bytes) is has))

AreAllFields-push : (fields : List (List ℕ)) (field : List ℕ) → AreAllFields fields → IsField field → AreAllFields (fields ++ field ∷ [])
AreAllFields-push [] field are is = (is, tt)
AreAllFields-push (f ∷ fields) field are is = (are.0, AreAllFields-push fields field are.1 is)

pub fields_bytes-short : (fields : List (List ℕ)) → AreShort fields → length (fields_bytes fields) ≤ length fields * 256
fields_bytes-short [] short = omega arith
fields_bytes-short (field ∷ fields) short =
    let rest = fields_bytes-short fields short.1 in
    let first = short.0 in
    omega (arith, rest, first, length-append field (fields_bytes fields))

fields_bytes-push : (fields : List (List ℕ)) (field : List ℕ) → fields_bytes (fields ++ field ∷ []) ≡ fields_bytes fields ++ field_bytes field
fields_bytes-push [] field = append-nil (field_bytes field)
fields_bytes-push (f ∷ fields) field =
    ap (λ (l : List ℕ). field_bytes f ++ l) (fields_bytes-push fields field) ∙ sym (append_assoc (field_bytes f) (fields_bytes fields) (field_bytes field))

-- one field more at the end
pub one_more : (count : ℕ) (spelled field : List ℕ) → AreFields count spelled → AreBytes field → length field ≤ 255 → count < 16
    → AreFields (count + 1) (spelled ++ field_bytes field) × (fields_at (count + 1) (spelled ++ field_bytes field) ≡ fields_at count spelled ++ field ∷ [])
one_more count spelled field are small short few =
    let bytes : List ℕ = spelled ++ field_bytes field in
    let fields : List (List ℕ) = fields_at count spelled ++ field ∷ [] in
    let n = length-fields_at count spelled are.has in
    let len : length fields ≡ count + 1 = length-append (fields_at count spelled) (field ∷ []) ∙ omega (arith, n) in
    let spells : bytes ≡ fields_bytes fields ++ [] =
    ap (λ (l : List ℕ). l ++ field_bytes field) (sym (fields_all count spelled are)) ∙ sym (fields_bytes-push (fields_at count spelled) field)
    ∙ sym (append-nil (fields_bytes fields)) in
    let again : Reads (count + 1) bytes fields [] =
    subst (λ m. Reads m bytes fields []) len (subst (λ (l : List ℕ). Reads (length fields) l fields []) (sym spells) (fields_again fields [])) in
    let each : AreAllFields fields = AreAllFields-push (fields_at count spelled) field are.each (is_field field small short) in
    let size = fields_bytes-short fields (fields_are_short fields each) in
    let same : length bytes ≡ length (fields_bytes fields) = ap (λ (l : List ℕ). length l) (spells ∙ append-nil (fields_bytes fields)) in
    (record { has = again.has; all = again.behind; few = omega arith; short = omega arith; each = subst AreAllFields (sym again.are) each }, again.are)

pub whole_rest : (k : ℕ) (bytes : List ℕ) → take (length bytes - k) (drop k bytes) ≡ drop k bytes
whole_rest k bytes = take_all (length bytes - k) (drop k bytes) (omega (arith, length-drop k bytes))

pub fields_same : (a b : List (List ℕ)) → length a ≡ length b → fields_bytes a ≡ fields_bytes b → a ≡ b
fields_same a b len same =
    let again = fields_again a [] in
    let other = fields_again b [] in
    sym again.are ∙ ap (λ n. fields_at n (fields_bytes a ++ [])) len ∙ ap (λ (l : List ℕ). fields_at (length b) (l ++ [])) same ∙ other.are
