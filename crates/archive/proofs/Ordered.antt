-- The rows of a scan, told record by record.
use Rattle.std.proofs.Common.{◌≡◌, ℕ, suc, ◌^◌, ◌<◌, Bool, true, false, cond, ◌==◌, ◌&&◌, nat_lt, List, [], ◌∷◌, ◌++◌, map, Some, None, refl, ap, sym, ◌∙◌}
use Rattle.std.proofs.Common.{arith}
use Rattle.std.specs.Prelude.{not, filter}
use Rattle.std.specs.List.{slice_get, flat_map, cons_option}
use Rattle.std.specs.List.Sorted.{ties}
use Rattle.std.specs.Ordering.{nat_cmp, is_lt}
use Rattle.std.proofs.lemmas.Bool.Decides.{nat_tests}
use Rattle.std.proofs.lemmas.List.Elements.{filter_agree}
use Rattle.history.specs.declared.time.Version.{Version}
use Rattle.history.specs.Key.{key_of}
use Rattle.history.specs.Versions.{cut, lasts, rows}
use Rattle.law_image.specs.Values.{Value}
use Rattle.law_image.specs.Reading.{ArchiveRecord}
use Rattle.law_image.specs.Facts.{run_versions}
use Rattle.archive.specs.declared.run.RunEntry.{RunEntry}
use Rattle.archive.specs.Runs.{HoldRuns}
use Rattle.archive.specs.Answers.{versions_in, rows_of, head_of, of_relation, is_wanted, with_record, row_of, rows_in}
use Rattle.archive.proofs.Conversion.{laid_run}
use Rattle.archive.proofs.Walking.{rows-append, where_lasting}

abbrev pub Row : Type 0
Row = ℕ × Version Value

rows_of-append : (number : ℕ) (xs ys : List Row) → rows_of number (xs ++ ys) ≡ rows_of number xs ++ rows_of number ys
rows_of-append number [] ys = refl
rows_of-append number (x ∷ xs) ys =
    let rest = rows_of-append number xs ys in
    let value : Row → Version Value = λ p. p.1 in
    let here : Row → Bool = λ p. p.0 == number in
    let Goal : Bool → Type 0 =
    λ b. map value (cond b (x ∷ filter here (xs ++ ys)) (filter here (xs ++ ys))) ≡ map value (cond b (x ∷ filter here xs) (filter here xs))
    ++ rows_of number ys in
    elim (x.0 == number) as Goal [ true ↦ ap (λ (vs : List (Version Value)). x.1 ∷ vs) rest | false ↦ rest ]

-- one record shows the same in a scan and under its own key
module _ (relation number a b : ℕ) where
  of_this_relation : (r : ArchiveRecord) → r.key.record < 2 ^ 64 → lasts (cut a b r.version) ≡ true → is_wanted (of_relation relation a b) (head_of r)
      ≡ (r.key.relation == relation)
  of_this_relation r few long =
      let begins : r.version.from < b = grind (arith, nat_tests) in
      let ends : a < r.version.to = grind (arith, nat_tests) in
      grind (arith, nat_tests)

  row_alone : (r : ArchiveRecord) (rest : List ArchiveRecord) → r.key.record < 2 ^ 64
      → rows_of number (row_of with_record (of_relation relation a b) r) ++ rows (run_versions (key_of relation number) rest) a b
      ≡ rows (run_versions (key_of relation number) (r ∷ rest)) a b
  row_alone r rest few =
      let part = cut a b r.version in
      let pair : Row = (r.key.record, part) in
      let value : Row → Version Value = λ p. p.1 in
      let here : Row → Bool = λ p. p.0 == number in
      let later = run_versions (key_of relation number) rest in
      let behind = rows later a b in
      let own = r.key.relation == relation in
      let same = r.key.record == number in
      let wanted = ap (λ (t : Bool). cond {A = List Row} t (pair ∷ []) []) (where_lasting _ own (lasts part) (of_this_relation r few)) in
      let Kept : Bool → Type 0 = λ t. filter here (cond t (pair ∷ []) []) ≡ cond t (cond same (pair ∷ []) []) [] in
      let kept : Kept (own && lasts part) = elim (own && lasts part) as Kept [ true ↦ refl | false ↦ refl ] in
      let Shown : Bool → Type 0 = λ t. rows (cons_option (cond t (Some r.version) None) later) a b ≡ cond t (cond (lasts part) (part ∷ behind) behind) behind in
      let shown : Shown (own && same) = elim (own && same) as Shown [ true ↦ refl | false ↦ refl ] in
      let Goal : Bool → Bool → Bool → Type 0 =
      λ s t u. map value (cond (s && t) (cond u (pair ∷ []) []) []) ++ behind ≡ cond (s && u) (cond t (part ∷ behind) behind) behind in
      let all : (s t u : Bool) → Goal s t u = λ s t u. elim s as (λ s. Goal s t u) [
        | true ↦ elim t as (λ t. Goal true t u) [
          | true ↦ elim u as (λ u. Goal true true u) [ true ↦ refl | false ↦ refl ]
          | false ↦ elim u as (λ u. Goal true false u) [ true ↦ refl | false ↦ refl ]
        ]
        | false ↦ refl
      ] in
      ap (λ (ps : List Row). rows_of number ps ++ behind) wanted ∙ ap (λ (ps : List Row). map value ps ++ behind) kept ∙ all own (lasts part) same ∙ sym shown

  run_alone : (records : List ArchiveRecord) → ((i : ℕ) (r : ArchiveRecord) → slice_get records i ≡ Some r → r.key.record < 2 ^ 64)
      → rows_of number (rows_in with_record (of_relation relation a b) records) ≡ rows (run_versions (key_of relation number) records) a b
  run_alone [] few = refl
  run_alone (r ∷ rs) few =
      rows_of-append number (row_of with_record (of_relation relation a b) r) (rows_in with_record (of_relation relation a b) rs)
      ∙ ap (λ (vs : List (Version Value)). rows_of number (row_of with_record (of_relation relation a b) r) ++ vs) (run_alone rs (λ i s at. few (suc i) s at))
      ∙ row_alone r rs (few 0 r refl)

  pub scan_alone : (area : List ℕ) (runs : List RunEntry) (lists : List (List ArchiveRecord)) → HoldRuns area runs lists
      → rows_of number (flat_map (rows_in with_record (of_relation relation a b)) lists) ≡ rows (versions_in (key_of relation number) lists) a b
  scan_alone area [] [] hold = refl
  scan_alone area [] (records ∷ lists) hold = absurd hold
  scan_alone area (x ∷ xs) [] hold = absurd hold
  scan_alone area (x ∷ xs) (records ∷ lists) hold =
      let laid = laid_run area x records hold.0 in
      rows_of-append number (rows_in with_record (of_relation relation a b) records) (flat_map (rows_in with_record (of_relation relation a b)) lists)
      ∙ ap (λ (vs : List (Version Value)). vs
      ++ rows_of number (flat_map (rows_in with_record (of_relation relation a b)) lists)) (run_alone records (λ i r at. (laid.each i r at).number))
      ∙ ap (λ (vs : List (Version Value)). rows (run_versions (key_of relation number) records) a b ++ vs) (scan_alone area xs lists hold.1)
      ∙ sym (rows-append (run_versions (key_of relation number) records) (versions_in (key_of relation number) lists) a b)

-- of two rows neither is before the other where they are of one record
abbrev pub before : Row → Row → Bool
before x y = is_lt (nat_cmp x.0 y.0)

is_before : (m n : ℕ) → is_lt (nat_cmp m n) ≡ nat_lt m n
is_before m n = grind (arith, nat_tests)

tie_is : (x y : Row) → ties before x y ≡ (y.0 == x.0)
tie_is x y =
    let first = is_before x.0 y.0 in
    let second = is_before y.0 x.0 in
    rw (first, second) (tested x.0 y.0)
  where
    tested : (m n : ℕ) → (not (nat_lt m n) && not (nat_lt n m)) ≡ (n == m)
    tested m n = grind (arith, nat_tests)

pub ties_alone : (number : ℕ) (old new : List Row) → ((x : Row) → filter (ties before x) new ≡ filter (ties before x) old) → rows_of number new
    ≡ rows_of number old
ties_alone number old new same =
    let here : Row → Bool = λ p. p.0 == number in
    let value : Row → Version Value = λ p. p.1 in
    let x : Row = (number, record { from = 0; to = 0; value = [] }) in
    let agree = filter_agree (ties before x) here (λ y. tie_is x y) in
    ap (λ (ps : List Row). map value ps) (sym (agree new) ∙ same x ∙ agree old)
