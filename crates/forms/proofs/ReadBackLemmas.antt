-- What is written as CSV is read back: as the kit has it of its default writer, but for the end of a row, which is of two bytes.
use Rattle.std.specs.Prelude.{◌⊎◌, ◌||◌, ◌<◌, ◌≤◌, ◌+◌, if◌then◌else◌, length, map}
use Rattle.std.proofs.Common.{◌≡◌, ◌==◌, ◌++◌, ◌∷◌, ◌∙◌, [], ℕ, List, Bool, Some, refl, sym, ap, subst, true, false, append_assoc, arith, inl, inr, suc, zero}
use Rattle.std.specs.List.{flat_map, list_any}
use Rattle.std.proofs.lemmas.Bool.{cases_Bool, ne_eqb}
use Rattle.std.proofs.lemmas.List.{length-append}
use Rattle.csv.specs.Machine.{next_record}
use Rattle.csv.specs.Reading.{default_config, records_from, records_next}
use Rattle.csv.specs.Writing.{default_writer, escaped, field_text, fields_text, is_blank, needs_byte, read_back, row_body}
use Rattle.csv.specs.declared.parser.State.TheVariants as st
use Rattle.csv.proofs.RoundTrip.{field-run, record-same}
use Rattle.forms.specs.Csv.{csv_line, rfc}
use Rattle.forms.specs.Fields.{Text}
use Rattle.forms.specs.Laws.{RowsReadBack}

-- ---- the cells are as the default writer has them

escaped-same : (x : Text) → escaped rfc x ≡ escaped default_writer x
unfolding escaped
escaped-same [] = refl
escaped-same (b ∷ rest) = rw (escaped-same rest) refl

field-same : (x : Text) → field_text rfc x ≡ field_text default_writer x
field-same x = rw (escaped-same x) refl

fields-same : (xs : List Text) → fields_text rfc xs ≡ fields_text default_writer xs
unfolding fields_text
fields-same [] = refl
fields-same (x ∷ xs) = rw (field-same x, fields-same xs) refl

-- ---- the start of a row

not-true : (x : Bool) → (x ≡ true → ⊥) → x ≡ false
not-true true n = absurd (n refl)
not-true false n = refl

or-left : (a b : Bool) → (a || b) ≡ false → a ≡ false
or-left false b e = refl
or-left true b e = cc e

-- a byte that calls for no quotes ends no row
ends-none : (b : ℕ) → needs_byte default_writer b ≡ false → ((b == 13) ≡ false) × ((b == 10) ≡ false)
ends-none b e =
    let a = not-true (b == 44) (λ t. cc (rw t at e)) in
    let q = not-true (b == 34) (λ t. cc (rw (a, t) at e)) in
    let r = not-true (b == 13) (λ t. cc (rw (a, q, t) at e)) in
    let n = not-true (b == 10) (λ t. cc (rw (a, q, r, t) at e)) in
    (r, n)

first-plain : (x : Text) (c : ℕ) (tail : Text) → list_any (needs_byte default_writer) x ≡ false
    → ((length x == 0) ≡ false) ⊎ (((c == 13) ≡ false) × ((c == 10) ≡ false))
    → next_record default_config st.StartRecord [] [] (x ++ (c ∷ tail)) ≡ next_record default_config st.StartField [] [] (x ++ (c ∷ tail))
first-plain [] c tail p (inl e) = cc e
first-plain [] c tail p (inr n) = record-same [] [] c tail n.0 n.1
first-plain (b ∷ rest) c tail p h =
    let q = ends-none b (or-left _ _ p) in
    record-same [] [] b (rest ++ (c ∷ tail)) q.0 q.1

first : (x : Text) (c : ℕ) (tail : Text) → ((length (field_text default_writer x) == 0) ≡ false) ⊎ (((c == 13) ≡ false) × ((c == 10) ≡ false))
    → next_record default_config st.StartRecord [] [] (field_text default_writer x ++ (c ∷ tail))
    ≡ next_record default_config st.StartField [] [] (field_text default_writer x ++ (c ∷ tail))
first x c tail h = elim (cases_Bool (list_any (needs_byte default_writer) x)) [
  | inl needs ↦ rw needs (record-same [] [] 34 _ refl refl)
  | inr plain ↦ rw plain (first-plain x c tail plain (rw plain at h))
]

-- ---- a row

-- what comes after a cell
abbrev head-of : List Text → ℕ
head-of [] = 13
head-of (z ∷ zs) = 44

abbrev tail-of : List Text → Text → Text
tail-of [] tail = tail
tail-of (z ∷ zs) tail = (field_text default_writer z ++ fields_text default_writer zs) ++ (13 ∷ tail)

text-head : (ys : List Text) (tail : Text) → fields_text default_writer ys ++ (13 ∷ tail) ≡ head-of ys ∷ tail-of ys tail
unfolding fields_text
text-head [] tail = refl
text-head (z ∷ zs) tail = refl

head-plain : (ys : List Text) → (head-of ys == 34) ≡ false
head-plain [] = refl
head-plain (z ∷ zs) = refl

-- a comma ends the cell
end-field : (cells : List Text) (x u : Text)
    → next_record default_config st.InField cells x (44 ∷ u) ≡ next_record default_config st.StartField (cells ++ (x ∷ [])) [] u
unfolding next_record
end-field cells x u = refl

-- the rest of a row, after a cell
rest-run : (cells : List Text) (x : Text) (rest : List Text) (tail : Text)
    → next_record default_config st.InField cells x (fields_text default_writer rest ++ (13 ∷ tail)) ≡ Some (cells ++ (x ∷ rest), st.AfterCr, tail)
unfolding next_record fields_text
rest-run cells x [] tail = refl
rest-run cells x (y ∷ ys) tail =
    let e = text-head ys tail in
    let u : (field_text default_writer y ++ fields_text default_writer ys) ++ (13 ∷ tail) ≡ field_text default_writer y ++ (head-of ys ∷ tail-of ys tail) =
    append_assoc (field_text default_writer y) (fields_text default_writer ys) (13 ∷ tail) ∙ ap (λ (t : Text). field_text default_writer y ++ t) e in
    let run = field-run (cells ++ (x ∷ [])) y (head-of ys) (tail-of ys tail) (head-plain ys) in
    let more = rest-run (cells ++ (x ∷ [])) y ys tail in
    let back = subst (λ (t : Text). next_record default_config st.InField (cells ++ (x ∷ [])) y t
    ≡ Some ((cells ++ (x ∷ [])) ++ (y ∷ ys), st.AfterCr, tail)) e more in
    rw (end-field cells x _, u) (run ∙ back ∙ rw (append_assoc cells (x ∷ []) (y ∷ ys)) refl)

-- a row, given how its text starts
row-run : (x : Text) (rest : List Text) (tail : Text)
    → next_record default_config st.StartRecord [] [] (field_text default_writer x ++ (head-of rest ∷ tail-of rest tail))
    ≡ next_record default_config st.StartField [] [] (field_text default_writer x ++ (head-of rest ∷ tail-of rest tail))
    → next_record default_config st.StartRecord [] [] (field_text default_writer x ++ (fields_text default_writer rest ++ (13 ∷ tail)))
    ≡ Some (x ∷ rest, st.AfterCr, tail)
row-run x rest tail start =
    let e = text-head rest tail in
    let run = field-run [] x (head-of rest) (tail-of rest tail) (head-plain rest) in
    let more = subst (λ (t : Text). next_record default_config st.InField [] x t ≡ Some ([] ++ (x ∷ rest), st.AfterCr, tail)) e (rest-run [] x rest tail) in
    rw e (start ∙ run ∙ more)

-- the text of a row that is not blank
line-plain : (x : Text) (rest : List Text) (tail : Text) → is_blank rfc (x ∷ rest) ≡ false
    → csv_line (x ∷ rest) ++ tail ≡ field_text default_writer x ++ (fields_text default_writer rest ++ (13 ∷ 10 ∷ tail))
line-plain x rest tail b = rw (b, field-same x, fields-same rest) (append_assoc (field_text default_writer x ++ fields_text default_writer rest)
    (13 ∷ 10 ∷ []) tail
    ∙ append_assoc (field_text default_writer x) (fields_text default_writer rest) (13 ∷ 10 ∷ tail))

not-zero : (n : ℕ) → (suc n == 0) ≡ true → ⊥
not-zero n e = cc (sym e ∙ ne_eqb (suc n) 0 (λ z. cc z))

-- a cell that is written as nothing is empty
empty-cell : (x : Text) → (length (field_text default_writer x) == 0) ≡ true → x ≡ []
empty-cell [] e = refl
empty-cell (b ∷ rest) e = elim (cases_Bool (list_any (needs_byte default_writer) (b ∷ rest))) [
  | inl needs ↦ absurd (not-zero _ (rw needs at e))
  | inr plain ↦ absurd (not-zero _ (rw plain at e))
]

blank-one : (x : Text) → is_blank rfc (x ∷ []) ≡ (length (field_text default_writer x) == 0)
unfolding is_blank
blank-one x = ap (λ (t : Text). length t == 0) (field-same x)

-- a row of one empty cell
read-empty : (tail : Text) → next_record default_config st.StartRecord [] [] (csv_line ([] ∷ []) ++ tail) ≡ Some ([] ∷ [], st.AfterCr, 10 ∷ tail)
unfolding is_blank next_record fields_text escaped
read-empty tail = refl

read-one : (x tail : Text) → next_record default_config st.StartRecord [] [] (csv_line (x ∷ []) ++ tail) ≡ Some (x ∷ [], st.AfterCr, 10 ∷ tail)
read-one x tail = elim (cases_Bool (length (field_text default_writer x) == 0)) [
  | inl none ↦ rw (empty-cell x none) (read-empty tail)
  | inr some ↦ rw (line-plain x [] tail (blank-one x ∙ some)) (row-run x [] (10 ∷ tail) (first x 13 (10 ∷ tail) (inl some)))
]

read-many : (x y : Text) (ys : List Text) (tail : Text)
    → next_record default_config st.StartRecord [] [] (csv_line (x ∷ y ∷ ys) ++ tail) ≡ Some (x ∷ y ∷ ys, st.AfterCr, 10 ∷ tail)
unfolding is_blank
read-many x y ys tail = rw (line-plain x (y ∷ ys) tail refl) (row-run x (y ∷ ys) (10 ∷ tail) (first x 44 _ (inr (refl, refl))))

read-row : (cells : List Text) (tail : Text)
    → next_record default_config st.StartRecord [] [] (csv_line cells ++ tail) ≡ Some (read_back cells, st.AfterCr, 10 ∷ tail)
unfolding is_blank next_record fields_text
read-row [] tail = refl
read-row (x ∷ []) tail = read-one x tail
read-row (x ∷ y ∷ ys) tail = read-many x y ys tail

-- ---- many rows

after-end : (tail : Text) → next_record default_config st.AfterCr [] [] (10 ∷ tail) ≡ next_record default_config st.StartRecord [] [] tail
unfolding next_record
after-end tail = refl

-- those after the first, with as many turns as there are rows and one more, or still more
read-more : (rows : List (List Text)) (turns : ℕ) → length rows < turns
    → records_from default_config turns st.AfterCr (10 ∷ flat_map csv_line rows) ≡ map read_back rows
unfolding records_from next_record
read-more rows zero lt = absurd (omega arith)
read-more [] (suc turns) lt = refl
read-more (row ∷ rows) (suc turns) lt = rw (after-end (csv_line row ++ flat_map csv_line rows), read-row row (flat_map csv_line rows))
    (ap (λ (more : List (List Text)). read_back row ∷ more) (read-more rows turns (omega arith)))

-- ---- a row has bytes, so there are as many turns as rows

some-end : (body quotes : Text) → 0 < length (body ++ (quotes ++ (13 ∷ 10 ∷ [])))
some-end body quotes =
    let whole = length-append body (quotes ++ (13 ∷ 10 ∷ [])) in
    let end = length-append quotes (13 ∷ 10 ∷ []) in
    omega arith

line-has : (cells : List Text) → 0 < length (csv_line cells)
line-has cells = some-end (row_body rfc cells) (if is_blank rfc cells then 34 ∷ 34 ∷ [] else [])

has-lines : (rows : List (List Text)) → length rows ≤ length (flat_map csv_line rows)
has-lines [] = omega arith
has-lines (row ∷ rows) =
    let some = line-has row in
    let more = has-lines rows in
    let whole = length-append (csv_line row) (flat_map csv_line rows) in
    omega arith

turn : (n : ℕ) (text : Text) → records_from default_config (suc n) st.StartRecord text
    ≡ records_next (records_from default_config n) (next_record default_config st.StartRecord [] [] text)
unfolding records_from
turn n text = refl

one-turn : (n : ℕ) (text : Text) → records_from default_config (n + 1) st.StartRecord text
    ≡ records_next (records_from default_config n) (next_record default_config st.StartRecord [] [] text)
one-turn n text =
    let next : n + 1 ≡ suc n = omega arith in
    ap (λ (m : ℕ). records_from default_config m st.StartRecord text) next ∙ turn n text

pub rows_read_back_lem : RowsReadBack
unfolding records_from next_record
rows_read_back_lem [] = refl
rows_read_back_lem (row ∷ rows) =
    let some = line-has row in
    let enough = has-lines rows in
    let whole = length-append (csv_line row) (flat_map csv_line rows) in
    let turns = length (csv_line row ++ flat_map csv_line rows) in
    rw (one-turn turns (csv_line row ++ flat_map csv_line rows), read-row row (flat_map csv_line rows))
    (ap (λ (more : List (List Text)). read_back row ∷ more) (read-more rows turns (omega arith)))
