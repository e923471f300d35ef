-- What a piece takes of the bytes that are left, and the chunks of a run joined.
use Rattle.std.proofs.Common.{◌≡◌, inl, inr, ℕ, ◌+◌, min, List, [], ◌∷◌, ◌++◌, length, take, drop, map, refl, sym, ◌∙◌, ap, arith, append_assoc}
use Rattle.std.specs.List.{concat}
use Rattle.std.proofs.lemmas.Bool.{cases_lt}
use Rattle.std.proofs.lemmas.List.{take_at, drop_at, take_all, drop_all}
use Rattle.wire.specs.Numbers.{u64_bytes}
use Rattle.law_image.specs.Reading.{ArchiveRecord}
use Rattle.archive.specs.Records.{record_bytes}
use Rattle.archive.specs.Runs.{records_bytes, index_bytes, run_bytes}
use Rattle.archive.specs.Pieces.{run_chunks, index_chunks}

take_min : (k : ℕ) (xs : List ℕ) → take (min k (length xs)) xs ≡ take k xs
take_min k xs = elim (cases_lt k (length xs)) [
  | inl fits ↦ (let is : min k (length xs) ≡ k = omega arith in ap (λ (n : ℕ). take n xs) is)
  | inr past ↦ (let is : min k (length xs) ≡ length xs = omega arith in ap (λ (n : ℕ). take n xs) is ∙ take_all (length xs) xs (omega arith)
      ∙ sym (take_all k xs past))
]

drop_min : (k : ℕ) (xs : List ℕ) → drop (min k (length xs)) xs ≡ drop k xs
drop_min k xs = elim (cases_lt k (length xs)) [
  | inl fits ↦ (let is : min k (length xs) ≡ k = omega arith in ap (λ (n : ℕ). drop n xs) is)
  | inr past ↦ (let is : min k (length xs) ≡ length xs = omega arith in ap (λ (n : ℕ). drop n xs) is ∙ drop_all (length xs) xs (omega arith)
      ∙ sym (drop_all k xs past))
]

-- the front that a piece takes, and what is left
pub front_is : (all front rest : List ℕ) (n : ℕ) → all ≡ front ++ rest → n ≡ min 8192 (length all) → length front ≡ n → front ≡ take 8192 all
front_is all front rest n split count size =
    sym (take_at front rest n size)
    ∙ ap (λ (xs : List ℕ). take n xs) (sym split)
    ∙ ap (λ (k : ℕ). take k all) count
    ∙ take_min 8192 all

pub rest_is : (all front rest : List ℕ) (n : ℕ) → all ≡ front ++ rest → n ≡ min 8192 (length all) → length front ≡ n → rest ≡ drop 8192 all
rest_is all front rest n split count size =
    sym (drop_at front rest n size)
    ∙ ap (λ (xs : List ℕ). drop n xs) (sym split)
    ∙ ap (λ (k : ℕ). drop k all) count
    ∙ drop_min 8192 all

both : (xss yss : List (List ℕ)) → concat (xss ++ yss) ≡ concat xss ++ concat yss
both [] yss = refl
both (xs ∷ xss) yss = ap (λ (zs : List ℕ). xs ++ zs) (both xss yss) ∙ sym (append_assoc xs (concat xss) (concat yss))

joined_records : (records : List ArchiveRecord) → concat (map record_bytes records) ≡ records_bytes records
unfolding records_bytes
joined_records [] = refl
joined_records (r ∷ rs) = ap (λ (zs : List ℕ). record_bytes r ++ zs) (joined_records rs)

joined_index : (at : ℕ) (records : List ArchiveRecord) → concat (index_chunks at records) ≡ index_bytes at records
unfolding index_bytes
joined_index at [] = refl
joined_index at (r ∷ rs) = ap (λ (zs : List ℕ). u64_bytes at ++ zs) (joined_index (at + length (record_bytes r)) rs)

pub joined_run : (records : List ArchiveRecord) → concat (run_chunks records) ≡ run_bytes records
joined_run records =
    both (map record_bytes records) (index_chunks 0 records)
    ∙ ap (λ (zs : List ℕ). zs ++ concat (index_chunks 0 records)) (joined_records records)
    ∙ ap (λ (zs : List ℕ). records_bytes records ++ zs) (joined_index 0 records)
