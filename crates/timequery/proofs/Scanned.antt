-- The rows of a relation, told record by record.
use Rattle.std.proofs.Common.{◌≡◌, ℕ, zero, suc, ◌<◌, ◌≤◌, ◌==◌, ◌&&◌, Bool, true, false, cond, List, [], ◌∷◌, ◌++◌, length, map, Some, refl, ap, sym, ◌∙◌}
use Rattle.std.proofs.Common.{arith, append-nil}
use Rattle.std.specs.Prelude.{filter, find}
use Rattle.std.specs.List.{AllByRecursion, slice_index_or}
use Rattle.std.specs.List.Sorted.{IsNonDecreasingBy}
use Rattle.std.proofs.lemmas.Bool.Decides.{nat_tests}
use Rattle.history.specs.declared.key.Key.{Key}
use Rattle.history.specs.declared.time.Version.{Version}
use Rattle.history.specs.Key.{key_of}
use Rattle.history.specs.Versions.{versions, rows}
use Rattle.law_image.specs.Values.{Value}
use Rattle.archive.specs.Answers.{rows_of}
use Rattle.chains.specs.KeyWrites.{KeyWrites, is_of, AllAbove, IsOrdered, writes_in}
use Rattle.chains.specs.Rows.{shown_rows, scanned_rows, rows_in}
use Rattle.chains.proofs.Order.{find-below}
use Rattle.timequery.specs.Homes.{rows_after, scanned_after}
use Rattle.timequery.proofs.Parts.{after-append}

abbrev pub Row : Type 0
Row = ℕ × Version Value

-- the rows of one record
unfoldable pub of_record : ℕ → List (Version Value) → List Row
of_record number rs = map (λ (row : Version Value). let r : Row = (number, row) in r) rs

-- by record
abbrev pub AreInOrder : List Row → Type 0
AreInOrder [] = Unit {0}
AreInOrder (p ∷ ps) = AllByRecursion (λ (q : Row). p.0 ≤ q.0) ps × AreInOrder ps

-- ---- what rows say of one record

pub rows_of-append : (number : ℕ) (xs ys : List Row) → rows_of number (xs ++ ys) ≡ rows_of number xs ++ rows_of number ys
rows_of-append number [] ys = refl
rows_of-append number (x ∷ xs) ys =
    let rest = rows_of-append number xs ys in
    let value : Row → Version Value = λ p. p.1 in
    let here : Row → Bool = λ p. p.0 == number in
    let Goal : Bool → Type 0 = λ b. map value (cond b (x ∷ filter here (xs ++ ys)) (filter here (xs ++ ys)))
    ≡ map value (cond b (x ∷ filter here xs) (filter here xs)) ++ rows_of number ys in
    elim (x.0 == number) as Goal [ true ↦ ap (λ (vs : List (Version Value)). x.1 ∷ vs) rest | false ↦ rest ]

pub rows_of-record : (number own : ℕ) (rs : List (Version Value)) → rows_of number (of_record own rs) ≡ cond (own == number) rs []
unfolding of_record
rows_of-record number own [] = elim (own == number) as (λ t. Path (List (Version Value)) [] (cond t [] [])) [ true ↦ refl | false ↦ refl ]
rows_of-record number own (r ∷ rs) =
    let rest = rows_of-record number own rs in
    let value : Row → Version Value = λ p. p.1 in
    let here : Row → Bool = λ p. p.0 == number in
    let first : Row = (own, r) in
    let Goal : Bool → Type 0 = λ t. rows_of number (of_record own rs) ≡ cond t rs []
    → map value (cond t (first ∷ filter here (of_record own rs)) (filter here (of_record own rs))) ≡ cond t (r ∷ rs) [] in
    (elim (own == number) as Goal [ true ↦ λ is. ap (λ (vs : List (Version Value)). r ∷ vs) is | false ↦ λ is. is ]) rest

-- rows of greater records, and of lesser ones, say nothing of a record
pub rows_of-above : (number bound : ℕ) (xs : List Row) → AllByRecursion (λ (q : Row). bound ≤ q.0) xs → number < bound → rows_of number xs ≡ []
rows_of-above number bound [] above less = refl
rows_of-above number bound (x ∷ xs) above less =
    let from = above.0 in
    let other : (x.0 == number) ≡ false = grind (arith, nat_tests) in
    rw other (rows_of-above number bound xs above.1 less)

pub rows_of-below : (number bound : ℕ) (xs : List Row) → AllByRecursion (λ (q : Row). q.0 < bound) xs → bound ≤ number → rows_of number xs ≡ []
rows_of-below number bound [] below least = refl
rows_of-below number bound (x ∷ xs) below least =
    let upto = below.0 in
    let other : (x.0 == number) ≡ false = grind (arith, nat_tests) in
    rw other (rows_of-below number bound xs below.1 least)

-- ---- order

pub all-append : (P : Row → Type 0) (xs ys : List Row) → AllByRecursion P xs → AllByRecursion P ys → AllByRecursion P (xs ++ ys)
all-append P [] ys all rest = rest
all-append P (x ∷ xs) ys all rest = (all.0, all-append P xs ys all.1 rest)

pub all-weaker : (P Q : Row → Type 0) (xs : List Row) → ((x : Row) → P x → Q x) → AllByRecursion P xs → AllByRecursion Q xs
all-weaker P Q [] weaker all = tt
all-weaker P Q (x ∷ xs) weaker all = (weaker x all.0, all-weaker P Q xs weaker all.1)

pub order-append : (bound : ℕ) (xs ys : List Row) → AreInOrder xs → AllByRecursion (λ (q : Row). q.0 ≤ bound) xs → AllByRecursion (λ (q : Row). bound ≤ q.0) ys
    → AreInOrder ys → AreInOrder (xs ++ ys)
order-append bound [] ys first upto from second = second
order-append bound (x ∷ xs) ys first upto from second =
    let least = upto.0 in (
      all-append (λ (q : Row). x.0 ≤ q.0) xs ys first.0 (all-weaker (λ (q : Row). bound ≤ q.0) (λ (q : Row). x.0 ≤ q.0) ys
          (λ y le. omega (arith, le, least)) from),
      order-append bound xs ys first.1 upto.1 from second,
    )

pub record-all : (P : Row → Type 0) (number : ℕ) (rs : List (Version Value)) → ((row : Version Value) → P (number, row))
    → AllByRecursion P (of_record number rs)
unfolding of_record
record-all P number [] each = tt
record-all P number (r ∷ rs) each = (each r, record-all P number rs each)

pub record-order : (number : ℕ) (rs : List (Version Value)) → AreInOrder (of_record number rs)
unfolding of_record
record-order number [] = tt
record-order number (r ∷ rs) = (record-all (λ (q : Row). number ≤ q.0) number rs (λ row. omega arith), record-order number rs)

-- behind the rows of one record those of it or of greater ones
pub order-record : (number : ℕ) (rs : List (Version Value)) (ys : List Row) → AllByRecursion (λ (q : Row). number ≤ q.0) ys → AreInOrder ys
    → AreInOrder (of_record number rs ++ ys)
order-record number rs ys from second =
    order-append number (of_record number rs) ys (record-order number rs) (record-all (λ (q : Row). q.0 ≤ number) number rs (λ row. omega arith)) from second

-- ---- as std says order

all-listed : (P : Row → Type 0) (xs : List Row) → ((j : ℕ) (d : Row) → j < length xs → P (slice_index_or xs j d)) → AllByRecursion P xs
all-listed P [] each = tt
all-listed P (x ∷ xs) each = (each zero x (omega arith), all-listed P xs (λ j d less. each (suc j) d (omega arith)))

listed-all : (P : Row → Type 0) (xs : List Row) → AllByRecursion P xs → (j : ℕ) (d : Row) → j < length xs → P (slice_index_or xs j d)
listed-all P [] all j d less = absurd (omega (arith, less))
listed-all P (x ∷ xs) all zero d less = all.0
listed-all P (x ∷ xs) all (suc j) d less = listed-all P xs all.1 j d (omega arith)

pub in-order : (xs : List Row) → IsNonDecreasingBy (λ (row : Row). row.0) xs → AreInOrder xs
in-order [] up = tt
in-order (x ∷ xs) up = (
  all-listed (λ (q : Row). x.0 ≤ q.0) xs (λ j d less. up zero (suc j) d (omega arith) (omega arith)),
  in-order xs (λ i j d le less. up (suc i) (suc j) d (omega arith) (omega arith)),
)

pub order-is : (xs : List Row) → AreInOrder xs → IsNonDecreasingBy (λ (row : Row). row.0) xs
order-is [] order i j d le less = absurd (omega (arith, less))
order-is (x ∷ xs) order zero zero d le less = omega arith
order-is (x ∷ xs) order zero (suc j) d le less = listed-all (λ (q : Row). x.0 ≤ q.0) xs order.0 j d (omega arith)
order-is (x ∷ xs) order (suc i) zero d le less = absurd (omega (arith, le))
order-is (x ∷ xs) order (suc i) (suc j) d le less = order-is xs order.1 i j d (omega arith) (omega arith)

-- ---- memory's rows

module _ (relation a b : ℕ) where
  -- those of greater keys have no lesser record
  scanned-above : (key : Key) (m : List KeyWrites) → key.relation ≡ relation → AllAbove key m
      → AllByRecursion (λ (q : Row). key.record ≤ q.0) (scanned_rows relation a b m)
  unfolding of_record
  scanned-above key [] is above = tt
  scanned-above key (c ∷ cs) is above =
      let rest = scanned-above key cs is above.1 in
      let up = above.0 in
      let Goal : Bool → Type 0 = λ t. (c.key.relation == relation) ≡ t
      → AllByRecursion (λ (q : Row). key.record ≤ q.0) (cond t (shown_rows a b c) [] ++ scanned_rows relation a b cs) in
      let all : (t : Bool) → Goal t = λ t. elim t as Goal [
        | true ↦ λ same.
            let least : key.record ≤ c.key.record = grind (arith, nat_tests) in
            all-append (λ (q : Row). key.record ≤ q.0) (shown_rows a b c) (scanned_rows relation a b cs) (shown-all c least) rest
        | false ↦ λ other. rest
      ] in
      all (c.key.relation == relation) refl
    where
      shown-all : (c : KeyWrites) → key.record ≤ c.key.record → AllByRecursion (λ (q : Row). key.record ≤ q.0) (shown_rows a b c)
      shown-all c least = record-all (λ (q : Row). key.record ≤ q.0) c.key.record (rows (versions c.writes) a b) (λ row. least)

  pub scanned-order : (m : List KeyWrites) → IsOrdered m → AreInOrder (scanned_rows relation a b m)
  unfolding of_record
  scanned-order [] ordered = tt
  scanned-order (c ∷ cs) ordered =
      let rest = scanned-order cs ordered.1 in
      let Goal : Bool → Type 0 = λ t. (c.key.relation == relation) ≡ t → AreInOrder (cond t (shown_rows a b c) [] ++ scanned_rows relation a b cs) in
      let all : (t : Bool) → Goal t = λ t. elim t as Goal [
        | true ↦ λ same.
            let is : c.key.relation ≡ relation = grind (arith, nat_tests) in
            order-record c.key.record (rows (versions c.writes) a b) (scanned_rows relation a b cs) (scanned-above c.key cs is ordered.0) rest
        | false ↦ λ other. rest
      ] in
      all (c.key.relation == relation) refl

  -- of each record they say what its key does
  pub scanned-rows_of : (m : List KeyWrites) (number : ℕ) → IsOrdered m → rows_of number (scanned_rows relation a b m) ≡ rows_in m a b (key_of relation number)
  unfolding of_record
  scanned-rows_of [] number ordered = refl
  scanned-rows_of (c ∷ cs) number ordered =
      let key = key_of relation number in
      let own = rows (versions c.writes) a b in
      let rest = scanned-rows_of cs number ordered.1 in
      let shown = rows_of-record number c.key.record own in
      let Goal : Bool → Bool → Type 0 = λ r n. (c.key.relation == relation) ≡ r → (c.key.record == number) ≡ n →
      rows_of number (cond r (shown_rows a b c) []) ++ rows_in cs a b key ≡ rows (versions (writes_in (cond (r && n) (Some c) (find (is_of key) cs)))) a b in
      let all : (r n : Bool) → Goal r n = λ r n. elim r as (λ r. Goal r n) [
        | true ↦ elim n as (λ n. Goal true n) [
          | true ↦ λ of_it same.
              let relation_is : c.key.relation ≡ relation = grind (arith, nat_tests) in
              let number_is : c.key.record ≡ number = grind (arith, nat_tests) in
              let key_is : c.key ≡ key = λ i. record { relation = relation_is i; «record» = number_is i } in
              let above : AllAbove key cs = subst-above key_is ordered.0 in
              let none = find-below key cs above in
              let shown_is : rows_of number (shown_rows a b c) ≡ own = shown ∙ rw same refl in
              rw (shown_is, none) (append-nil own)
          | false ↦ λ of_it other.
              let shown_is : rows_of number (shown_rows a b c) ≡ [] = shown ∙ rw other refl in
              rw shown_is refl
        ]
        | false ↦ λ is n_is. refl
      ] in
      rows_of-append number (cond (c.key.relation == relation) (shown_rows a b c) []) (scanned_rows relation a b cs)
      ∙ ap (λ (vs : List (Version Value)). rows_of number (cond (c.key.relation == relation) (shown_rows a b c) []) ++ vs) rest
      ∙ all (c.key.relation == relation) (c.key.record == number) refl refl
    where
      subst-above : {j k : Key} → j ≡ k → AllAbove j cs → AllAbove k cs
      subst-above same above = rw same at above

-- ---- and what is cut of them

module _ (mark a b : ℕ) where
  part_of : Row → List (Version Value)
  part_of p = rows_after mark a b (p.1 ∷ [])

  after-above : (bound : ℕ) (ps : List Row) → AllByRecursion (λ (q : Row). bound ≤ q.0) ps
      → AllByRecursion (λ (q : Row). bound ≤ q.0) (scanned_after mark a b ps)
  unfolding of_record part_of
  after-above bound [] above = tt
  after-above bound (p ∷ ps) above = all-append (λ (q : Row). bound ≤ q.0) (of_record p.0 (part_of p)) (scanned_after mark a b ps)
      (record-all (λ (q : Row). bound ≤ q.0) p.0 (part_of p) (λ row. above.0)) (after-above bound ps above.1)

  pub after-order : (ps : List Row) → AreInOrder ps → AreInOrder (scanned_after mark a b ps)
  unfolding of_record part_of
  after-order [] order = tt
  after-order (p ∷ ps) order = order-record p.0 (part_of p) (scanned_after mark a b ps) (after-above p.0 ps order.0) (after-order ps order.1)

  pub after-rows_of : (number : ℕ) (ps : List Row) → rows_of number (scanned_after mark a b ps) ≡ rows_after mark a b (rows_of number ps)
  unfolding of_record part_of
  after-rows_of number [] = refl
  after-rows_of number (p ∷ ps) =
      let value : Row → Version Value = λ q. q.1 in
      let here : Row → Bool = λ q. q.0 == number in
      let others = rows_of number ps in
      let Goal : Bool → Type 0 =
      λ t. cond t (part_of p) [] ++ rows_after mark a b others ≡ rows_after mark a b (map value (cond t (p ∷ filter here ps) (filter here ps))) in
      rows_of-append number (of_record p.0 (part_of p)) (scanned_after mark a b ps)
      ∙ ap (λ (vs : List (Version Value)). vs ++ rows_of number (scanned_after mark a b ps)) (rows_of-record number p.0 (part_of p))
      ∙ ap (λ (vs : List (Version Value)). cond (p.0 == number) (part_of p) [] ++ vs) (after-rows_of number ps)
      ∙ elim (p.0 == number) as Goal [ true ↦ sym (after-append mark a b (p.1 ∷ []) others) | false ↦ refl ]
