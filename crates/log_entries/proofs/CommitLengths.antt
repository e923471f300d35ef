-- How long commits are.
use Rattle.std.proofs.Common.{◌≡◌, ℕ, ◌+◌, ◌*◌, ◌≤◌, List, [], ◌∷◌, length, map, sum, Some, None, slice_get, drop, refl, sym, ◌∙◌, ap, subst, arith}
use Rattle.std.proofs.Common.{length-append}
use Rattle.std.specs.List.{flat_map, fold}
use Rattle.deltas.specs.declared.«record».Record.{Record}
use Rattle.deltas.specs.Records.{spelling}
use Rattle.deltas.proofs.FilledChains.{next_is}
use Rattle.deltas.proofs.PackedAll.{none_next}
use Rattle.log_entries.specs.declared.entry.Member.{Member}
use Rattle.log_entries.specs.Spelling.{commit_bytes, member_bytes, commit_len}
use Rattle.log_entries.specs.Lengths.{length-commit}

abbrev pub lengths_of : List Record → List ℕ
lengths_of records = map (λ r. length (spelling r)) records

sum_from : (n : ℕ) (xs : List ℕ) → fold (λ a x. a + x) n xs ≡ n + sum xs
sum_from n [] = omega arith
sum_from n (x ∷ xs) = let rest = sum_from (n + x) xs in let first = sum_from (0 + x) xs in omega (arith, rest, first)

sum_first : (n : ℕ) (xs : List ℕ) → sum (n ∷ xs) ≡ n + sum xs
sum_first n xs = let first = sum_from (0 + n) xs in omega (arith, first)

length-spelled : (records : List Record) → length (flat_map spelling records) ≡ sum (lengths_of records)
length-spelled [] = refl
length-spelled (r ∷ rs) =
    let rest = length-spelled rs in
    omega (arith, rest, length-append (spelling r) (flat_map spelling rs), sum_first (length (spelling r)) (lengths_of rs))

pub length-member : (m : Member) → length (member_bytes m) ≡ commit_len (lengths_of m.records)
unfolding member_bytes
length-member m =
    omega (
      arith,
      length-append (commit_bytes m.label m.time (length m.records)) (flat_map spelling m.records),
      length-commit m.label m.time (length m.records),
      length-spelled m.records,
    )

-- so many bytes are counted, and these records are left
pub record IsCounting (all left : List Record) (len : ℕ) : Type 0 where
  pub sums : len + sum (lengths_of left) ≡ commit_len (lengths_of all)
  pub room : len + 4116 * length left ≤ 4214803

pub none_counted : (all : List Record) → length all ≤ 1024 → IsCounting all all 19
none_counted all few = record { sums = refl; room = omega (arith, few) }

pub one_counted : (all left rest : List Record) (len one : ℕ) (r : Record) → Some r ≡ slice_get left 0 → rest ≡ drop 1 left
    → one ≡ length (spelling r) → one ≤ 4116 → IsCounting all left len
    → IsCounting all rest (len + one)
one_counted all left rest len one r next behind is short so_far =
    let sums = so_far.sums in
    let room = so_far.room in
    let whole = next_is left r next in
    let sum_is : sum (lengths_of left) ≡ length (spelling r) + sum (lengths_of (drop 1 left)) =
    ap (λ (l : List Record). sum (lengths_of l)) whole ∙ sum_first (length (spelling r)) (lengths_of (drop 1 left)) in
    let len_is : length left ≡ length (r ∷ drop 1 left) = ap (λ (l : List Record). length l) whole in
    subst (λ (l : List Record). IsCounting all l (len + one)) (sym behind)
    (record { sums = omega (arith, sums, is, sum_is); room = omega (arith, room, short, len_is) })

pub all_counted : (all left : List Record) (len : ℕ) → None ≡ slice_get left 0 → IsCounting all left len → len ≡ commit_len (lengths_of all)
all_counted all left len end so_far =
    let sums = so_far.sums in
    let none = ap (λ (l : List Record). sum (lengths_of l)) (none_next left end) in
    omega (arith, sums, none)
