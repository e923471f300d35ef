-- What a walk has left: its next record, and how many bytes its run has.
use Rattle.std.proofs.Common.{◌≡◌, ℕ, ◌+◌, ◌*◌, List, [], ◌∷◌, length, map, drop, Some, None, refl, ap, sym, ◌∙◌, arith, length-append}
use Rattle.std.specs.List.{slice_get}
use Rattle.wire.specs.Numbers.{u64_bytes}
use Rattle.law_image.specs.Reading.{ArchiveRecord}
use Rattle.archive.specs.Records.{record_bytes}
use Rattle.archive.specs.Runs.{records_bytes, index_bytes, run_bytes}
use Rattle.archive.specs.Pieces.{size_of, index_chunks}
use Rattle.archive.proofs.Places.{length-index_bytes}

pub first_left : (xs : List ArchiveRecord) (r : ArchiveRecord) → Some r ≡ slice_get xs 0 → xs ≡ r ∷ drop 1 xs
first_left [] r is = cc
first_left (x ∷ xs) r is = let same : x ≡ r = cc in ap (λ (y : ArchiveRecord). y ∷ xs) same

pub none_left : (xs : List ArchiveRecord) → None ≡ slice_get xs 0 → xs ≡ []
none_left [] is = refl
none_left (x ∷ xs) is = cc

records_size : (rs : List ArchiveRecord) → size_of rs ≡ length (records_bytes rs) + 8 * length rs
unfolding records_bytes
records_size [] = refl
records_size (r ∷ rs) = omega (arith, records_size rs, length-append (record_bytes r) (records_bytes rs))

pub run_size : (rs : List ArchiveRecord) → size_of rs ≡ length (run_bytes rs)
run_size rs = omega (arith, records_size rs, length-append (records_bytes rs) (index_bytes 0 rs), length-index_bytes 0 rs)

-- the next entry of the index, and the next record
pub one_entry : (at : ℕ) (r : ArchiveRecord) (left : List ArchiveRecord) (chunk : List ℕ) → Some r ≡ slice_get left 0 → chunk ≡ u64_bytes at
    → index_chunks at left ≡ chunk ∷ drop 1 (index_chunks at left)
one_entry at r left chunk is bytes =
    let split = ap (λ (xs : List ArchiveRecord). index_chunks at xs) (first_left left r is) in
    split
    ∙ ap (λ (xs : List ℕ). xs ∷ index_chunks (at + length (record_bytes r)) (drop 1 left)) (sym bytes)
    ∙ ap (λ (xss : List (List ℕ)). chunk ∷ drop 1 xss) (sym split)

pub one_record : (r : ArchiveRecord) (left : List ArchiveRecord) (chunk : List ℕ) → Some r ≡ slice_get left 0 → chunk ≡ record_bytes r → map record_bytes left
    ≡ chunk ∷ drop 1 (map record_bytes left)
one_record r left chunk is bytes =
    let split = ap (λ (xs : List ArchiveRecord). map record_bytes xs) (first_left left r is) in
    split
    ∙ ap (λ (xs : List ℕ). xs ∷ map record_bytes (drop 1 left)) (sym bytes)
    ∙ ap (λ (xss : List (List ℕ)). chunk ∷ drop 1 xss) (sym split)

-- those behind them
pub entries_behind : (at len : ℕ) (r : ArchiveRecord) (left after : List ArchiveRecord) → Some r ≡ slice_get left 0 → after ≡ drop 1 left → len
    ≡ length (record_bytes r) → index_chunks (at + len) after ≡ drop 1 (index_chunks at left)
entries_behind at len r left after is next size =
    ap (λ (xs : List ArchiveRecord). index_chunks (at + len) xs) next
    ∙ ap (λ (n : ℕ). index_chunks (at + n) (drop 1 left)) size
    ∙ ap (λ (xs : List ArchiveRecord). drop 1 (index_chunks at xs)) (sym (first_left left r is))

pub records_behind : (r : ArchiveRecord) (left after : List ArchiveRecord) → Some r ≡ slice_get left 0 → after ≡ drop 1 left → map record_bytes after
    ≡ drop 1 (map record_bytes left)
records_behind r left after is next =
    ap (λ (xs : List ArchiveRecord). map record_bytes xs) next
    ∙ ap (λ (xs : List ArchiveRecord). drop 1 (map record_bytes xs)) (sym (first_left left r is))

-- one record less
pub one_less : (r : ArchiveRecord) (left after : List ArchiveRecord) → Some r ≡ slice_get left 0 → after ≡ drop 1 left
    → (length left ≡ length after + 1) × (size_of left ≡ length (record_bytes r) + 8 + size_of after)
one_less r left after is next =
    let split = first_left left r is in
    (omega (arith, ap length split, ap length next), ap size_of split ∙ ap (λ (xs : List ArchiveRecord). length (record_bytes r) + 8 + size_of xs) (sym next))
