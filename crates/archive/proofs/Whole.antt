-- A run of which nothing breaks a rule is one that the area holds.
use Rattle.std.proofs.Common.{◌≡◌, ◌⊎◌, inl, inr, ℕ, zero, suc, ◌+◌, ◌-◌, ◌*◌, ◌^◌, ◌≤◌, ◌<◌, Bool, true, false, cond, ◌==◌, List, [], ◌∷◌, ◌++◌, length}
use Rattle.std.proofs.Common.{get_or, take, drop, refl, sym, ◌∙◌, ap, arith, length-take, length-drop}
use Rattle.std.specs.List.{slice_range, AllByRecursion}
use Rattle.std.specs.Int.{w16, w64, from_le_bytes}
use Rattle.std.proofs.lemmas.List.{append-nil, drop-drop, take-append-drop, get_or-take, get_or-drop, get_or_past}
use Rattle.std.proofs.lemmas.List.Elements.{All-get_or}
use Rattle.std.proofs.lemmas.Bool.{cases_lt}
use Rattle.std.proofs.lemmas.Bool.Decides.{nat_tests}
use Rattle.std.proofs.lemmas.Nat.{le_bytes_2, le_bytes_8}
use Rattle.byteorder.specs.Endian.{little_number}
use Rattle.byteorder.specs.Numbers.{little_from-lt}
use Rattle.disk.specs.Areas.{AreBytes}
use Rattle.wire.specs.Numbers.{u16_bytes, u64_bytes}
use Rattle.wire.specs.Values.{value_bytes}
use Rattle.wire.specs.Spelling.{IsRun}
use Rattle.history.specs.Key.{IsKey, key_lt}
use Rattle.history.proofs.Keys.{key_cmp-from_lt}
use Rattle.floors.specs.Floors.{floor_at}
use Rattle.law_image.specs.Values.{Value}
use Rattle.law_image.specs.Reading.{ArchiveRecord}
use Rattle.law_image.specs.StandsFor as stands
use Rattle.archive.specs.declared.run.RunEntry.{RunEntry}
use Rattle.archive.specs.declared.head.Head.{Head}
use Rattle.archive.specs.Records.{head_bytes, record_bytes, IsArchiveRecord}
use Rattle.archive.specs.Runs.{records_bytes, index_bytes, run_bytes, HoldsRun}
use Rattle.archive.specs.Answers.{head_at, head_of, record_of}
use Rattle.archive.specs.Searches.{index_start, is_in_range, is_before, may_follow}
use Rattle.archive.specs.Damages.{entry_at, placed_at, IsValueAt, IsUnbroken}
use Rattle.archive.specs.Traces.{nth_head}
use Rattle.archive.proofs.Caching.{parts_join}

-- ---- numbers in bytes

abbrev pub AreSmall : List ℕ → Type 0
AreSmall bytes = (i : ℕ) → get_or bytes i 0 < 256

small : (bytes : List ℕ) → AreBytes bytes → AreSmall bytes
small bytes are i = elim (cases_lt i (length bytes)) [
  | inl lt ↦ All-get_or (λ (b : ℕ). b < 256) bytes i 0 lt are
  | inr le ↦ rw (get_or_past bytes i 0 le) (omega arith)
]

small_take : (n : ℕ) (bytes : List ℕ) → AreSmall bytes → AreSmall (take n bytes)
small_take n bytes are i = elim (cases_lt i n) [
  | inl lt ↦ rw (get_or-take n bytes i 0 lt) (are i)
  | inr le ↦ rw (get_or_past (take n bytes) i 0 (omega (arith, length-take n bytes))) (omega arith)
]

small_drop : (n : ℕ) (bytes : List ℕ) → AreSmall bytes → AreSmall (drop n bytes)
small_drop n bytes are i = rw get_or-drop (are (n + i))

back_2 : (bytes : List ℕ) → AreSmall bytes → 2 ≤ length bytes → u16_bytes (little_number 2 bytes) ≡ take 2 bytes
unfolding u16_bytes
back_2 bytes are long =
    let number : little_number 2 bytes ≡ from_le_bytes w16 (take 2 bytes) =
    rw (get_or-take 2 bytes 0 0 (omega arith), get_or-take 2 bytes 1 0 (omega arith)) (omega arith) in
    le_bytes_2 (take 2 bytes) (little_number 2 bytes) (omega (arith, length-take 2 bytes)) (small_take 2 bytes are) number

back_8 : (bytes : List ℕ) → AreSmall bytes → 8 ≤ length bytes → u64_bytes (little_number 8 bytes) ≡ take 8 bytes
unfolding u64_bytes
back_8 bytes are long =
    let number : little_number 8 bytes ≡ from_le_bytes w64 (take 8 bytes) =
    rw (
      get_or-take 8 bytes 0 0 (omega arith),
      get_or-take 8 bytes 1 0 (omega arith),
      get_or-take 8 bytes 2 0 (omega arith),
      get_or-take 8 bytes 3 0 (omega arith),
      get_or-take 8 bytes 4 0 (omega arith),
      get_or-take 8 bytes 5 0 (omega arith),
      get_or-take 8 bytes 6 0 (omega arith),
      get_or-take 8 bytes 7 0 (omega arith),
    ) (omega arith) in
    le_bytes_8 (take 8 bytes) (little_number 8 bytes) (omega (arith, length-take 8 bytes)) (small_take 8 bytes are) number

-- eight bytes and those behind them
then_8 : (at : ℕ) (bytes : List ℕ) → AreSmall bytes → at + 8 ≤ length bytes → u64_bytes (little_number 8 (drop at bytes)) ++ drop (at + 8) bytes ≡ drop at bytes
then_8 at bytes are long =
    ap (λ (xs : List ℕ). xs ++ drop (at + 8) bytes) (back_8 (drop at bytes) (small_drop at bytes are) (omega (arith, length-drop at bytes)))
    ∙ ap (λ (xs : List ℕ). take 8 (drop at bytes) ++ xs) (sym (drop-drop 8 at bytes))
    ∙ take-append-drop 8 (drop at bytes)

-- a head that was read is spelled by the bytes
head_back : (bytes : List ℕ) (value : Value) → AreSmall bytes → length bytes ≡ 26 → head_bytes (record_of (head_at bytes) value) ≡ bytes
unfolding head_at head_bytes
head_back bytes value are long =
    let none : drop 26 bytes ≡ [] = nothing (drop 26 bytes) (omega (arith, length-drop 26 bytes)) in
    let last : u64_bytes (little_number 8 (drop 18 bytes)) ≡ drop 18 bytes =
    sym (append-nil (u64_bytes (little_number 8 (drop 18 bytes)))) ∙ ap (λ (xs : List ℕ). u64_bytes (little_number 8 (drop 18 bytes)) ++ xs) (sym none)
    ∙ then_8 18 bytes are (omega arith) in
    ap (λ (xs : List ℕ). u16_bytes (little_number 2 bytes)
    ++ (u64_bytes (little_number 8 (drop 2 bytes)) ++ (u64_bytes (little_number 8 (drop 10 bytes)) ++ xs))) last
    ∙ ap (λ (xs : List ℕ). u16_bytes (little_number 2 bytes) ++ (u64_bytes (little_number 8 (drop 2 bytes)) ++ xs)) (then_8 10 bytes are (omega arith))
    ∙ ap (λ (xs : List ℕ). u16_bytes (little_number 2 bytes) ++ xs) (then_8 2 bytes are (omega arith))
    ∙ ap (λ (xs : List ℕ). xs ++ drop 2 bytes) (back_2 bytes are (omega arith))
    ∙ take-append-drop 2 bytes
  where
    nothing : (xs : List ℕ) → length xs ≡ 0 → xs ≡ []
    nothing [] is = refl
    nothing (x ∷ xs) is = absurd (omega (arith, is))

-- ---- parts of the area

part_long : (area : List ℕ) (from to : ℕ) → from ≤ to → to ≤ length area → length (slice_range area from to) ≡ to - from
part_long area from to order within = length-take (to - from) (drop from area) ∙ omega (arith, length-drop from area)

small_part : (area : List ℕ) (from to : ℕ) → AreSmall area → AreSmall (slice_range area from to)
small_part area from to are = small_take (to - from) (drop from area) (small_drop from area are)

-- a part, and the part behind it
join : (area : List ℕ) (a b c : ℕ) → a ≤ b → b ≤ c → slice_range area a b ++ slice_range area b c ≡ slice_range area a c
join area a b c first second =
    let to : a + (b - a) ≡ b = omega arith in
    let next : a + (b - a) + (c - b) ≡ c = omega arith in
    let all : a + (b - a + (c - b)) ≡ c = omega arith in
    ap (λ (k : ℕ). slice_range area a k ++ slice_range area b c) (sym to)
    ∙ ap (λ (k : ℕ). slice_range area a (a + (b - a)) ++ slice_range area b k) (sym next)
    ∙ ap (λ (k : ℕ). slice_range area a (a + (b - a)) ++ slice_range area k (a + (b - a) + (c - b))) (sym to)
    ∙ parts_join area a (b - a) (c - b)
    ∙ ap (λ (k : ℕ). slice_range area a k) all

no_part : (area : List ℕ) (a : ℕ) → slice_range area a a ≡ []
no_part area a = let none : a - a ≡ 0 = omega arith in ap (λ (k : ℕ). take k (drop a area)) none

-- ---- the records of a run

module _ (area : List ℕ) (run : RunEntry) (are : AreSmall area) (is : IsRun run.slot) (whole : IsUnbroken area run) where
  start : ℕ
  start = run.slot.start

  entry : ℕ → ℕ
  entry n = entry_at area run n

  head : ℕ → Head
  head n = nth_head area run n

  entry_before : (n : ℕ) → n < run.slot.records → entry_at area run n
      ≡ little_number 8 (slice_range area (run.slot.start + (index_start run + 8 * n)) (run.slot.start + (index_start run + 8 * n) + 8))
  entry_before n less =
      let test : (n == run.slot.records) ≡ false = grind (arith, nat_tests) in
      ap (λ (b : Bool). cond b (index_start run)
      (little_number 8 (slice_range area (run.slot.start + (index_start run + 8 * n)) (run.slot.start + (index_start run + 8 * n) + 8)))) test

  entry_last : entry_at area run run.slot.records ≡ index_start run
  entry_last =
      let test : (run.slot.records == run.slot.records) ≡ true = grind (arith, nat_tests) in
      ap (λ (b : Bool). cond b (index_start run)
      (little_number 8 (slice_range area (run.slot.start + (index_start run + 8 * run.slot.records))
      (run.slot.start + (index_start run + 8 * run.slot.records) + 8)))) test

  index_fits : index_start run + 8 * run.slot.records ≡ run.slot.len
  index_fits = omega (arith, is.shortest)

  pick : (n : ℕ) → (n < run.slot.records) ⊎ (run.slot.records ≤ n) → Value
  pick n (inl less) = (whole.values n less).0
  pick n (inr past) = []

  picked : (n : ℕ) (side : (n < run.slot.records) ⊎ (run.slot.records ≤ n)) → n < run.slot.records → IsValueAt area run n (pick n side)
  unfolding pick
  picked n (inl less) there = (whole.values n less).1
  picked n (inr past) there = absurd (omega arith)

  value_for : ℕ → Value
  value_for n = pick n (cases_lt n run.slot.records)

  value_there : (n : ℕ) → n < run.slot.records → IsValueAt area run n (value_for n)
  unfolding value_for
  value_there n less = picked n (cases_lt n run.slot.records) less

  abbrev record_at : ℕ → ArchiveRecord
  record_at n = record_of (nth_head area run n) (value_for n)

  abbrev recs : ℕ → ℕ → List ArchiveRecord
  recs zero n = []
  recs (suc k) n = record_at n ∷ recs k (suc n)

  entry_room : (n : ℕ) → n ≤ run.slot.records → entry_at area run n ≤ index_start run
  entry_room n few = elim (cases_lt n run.slot.records) [
    | inl less ↦ (whole.heads n less).place.room
    | inr more ↦
        let same : n ≡ run.slot.records = omega arith in
        omega (arith, entry_last, ap (entry_at area run) same)
  ]

  record_part : (n : ℕ) (less : n < run.slot.records) → record_bytes (record_at n)
      ≡ slice_range area (run.slot.start + entry_at area run n) (run.slot.start + entry_at area run (n + 1))
  record_part n less =
      let from : ℕ = run.slot.start + entry_at area run n in
      let value = (value_there n less) in
      let room = entry_room (n + 1) (omega arith) in
      let low = value.least in
      let fits = whole.within in
      let size = index_fits in
      let long : length (slice_range area from (from + 26)) ≡ 26 = part_long area from (from + 26) (omega arith) (omega arith) ∙ omega arith in
      let front : head_bytes (record_of (nth_head area run n) (value_for n)) ≡ slice_range area from (from + 26) =
      head_back (slice_range area from (from + 26)) (value_for n) (small_part area from (from + 26) are) long in
      let at : run.slot.start + (entry_at area run n + 26) ≡ from + 26 = omega arith in
      ap (λ (xs : List ℕ). xs ++ value_bytes (value_for n)) front
      ∙ ap (λ (xs : List ℕ). slice_range area from (from + 26) ++ xs) (sym value.spelled
      ∙ ap (λ (k : ℕ). slice_range area k (run.slot.start + entry_at area run (n + 1))) at)
      ∙ join area from (from + 26) (run.slot.start + entry_at area run (n + 1)) (omega arith) (omega arith)

  record_long : (n : ℕ) (less : n < run.slot.records) → entry_at area run n + length (record_bytes (record_at n)) ≡ entry_at area run (n + 1)
  record_long n less =
      let part = ap length (record_part n less) in
      let room = entry_room (n + 1) (omega arith) in
      let low = (value_there n less).least in
      let fits = whole.within in
      let size = index_fits in
      let long = part_long area (run.slot.start + entry_at area run n) (run.slot.start + entry_at area run (n + 1)) (omega arith) (omega arith) in
      omega (arith, part, long)

  -- the places rise
  entry_rises : (k n : ℕ) → n + k ≤ run.slot.records → entry_at area run n ≤ entry_at area run (n + k)
  entry_rises zero n fits = let same : n + 0 ≡ n = omega arith in omega (arith, ap (entry_at area run) same)
  entry_rises (suc k) n fits =
      let rest = entry_rises k (suc n) (omega arith) in
      let low = (value_there n (omega arith)).least in
      let next : n + 1 ≡ suc n = omega arith in
      let last : suc n + k ≡ n + suc k = omega arith in
      omega (arith, rest, low, ap (entry_at area run) next, ap (entry_at area run) last)

  records_part : (k n : ℕ) (fits : n + k ≤ run.slot.records) → records_bytes (recs k n)
      ≡ slice_range area (run.slot.start + entry_at area run n) (run.slot.start + entry_at area run (n + k))
  unfolding records_bytes
  records_part zero n fits =
      let same : n + 0 ≡ n = omega arith in
      sym (no_part area (run.slot.start + entry_at area run n))
      ∙ ap (λ (k : ℕ). slice_range area (run.slot.start + entry_at area run n) (run.slot.start + entry_at area run k)) (sym same)
  records_part (suc k) n fits =
      let next : suc n ≡ n + 1 = omega arith in
      let last : suc n + k ≡ n + suc k = omega arith in
      let low = (value_there n (omega arith)).least in
      let rises = entry_rises k (suc n) (omega arith) in
      let next_same = ap (entry_at area run) next in
      let last_same = ap (entry_at area run) last in
      ap (λ (xs : List ℕ). record_bytes (record_at n) ++ xs) (records_part k (suc n) (omega arith))
      ∙ ap (λ (xs : List ℕ). xs
      ++ slice_range area (run.slot.start + entry_at area run (suc n)) (run.slot.start + entry_at area run (suc n + k))) (record_part n (omega arith))
      ∙ ap (λ (j : ℕ). slice_range area (run.slot.start + entry_at area run n) (run.slot.start + entry_at area run (n + 1))
      ++ slice_range area (run.slot.start + entry_at area run j) (run.slot.start + entry_at area run (suc n + k))) next
      ∙ ap (λ (j : ℕ). slice_range area (run.slot.start + entry_at area run n) (run.slot.start + entry_at area run (n + 1))
      ++ slice_range area (run.slot.start + entry_at area run (n + 1)) (run.slot.start + entry_at area run j)) last
      ∙ join area (run.slot.start + entry_at area run n) (run.slot.start + entry_at area run (n + 1)) (run.slot.start + entry_at area run (n + suc k))
      (omega (arith, low)) (omega (arith, rises, next_same, last_same))

  index_part : (k n : ℕ) (fits : n + k ≤ run.slot.records) → index_bytes (entry_at area run n) (recs k n)
      ≡ slice_range area (run.slot.start + (index_start run + 8 * n)) (run.slot.start + (index_start run + 8 * (n + k)))
  unfolding index_bytes
  index_part zero n fits =
      let same : n + 0 ≡ n = omega arith in
      sym (no_part area (run.slot.start + (index_start run + 8 * n)))
      ∙ ap (λ (k : ℕ). slice_range area (run.slot.start + (index_start run + 8 * n)) (run.slot.start + (index_start run + 8 * k))) (sym same)
  index_part (suc k) n fits =
      let a : ℕ = run.slot.start + (index_start run + 8 * n) in
      let b : ℕ = run.slot.start + (index_start run + 8 * suc n) in
      let step : a + 8 ≡ b = omega arith in
      let within = whole.within in
      let size = index_fits in
      let long : length (slice_range area a (a + 8)) ≡ 8 = part_long area a (a + 8) (omega arith) (omega arith) ∙ omega arith in
      let all : take 8 (slice_range area a (a + 8)) ≡ slice_range area a (a + 8) = take_all (slice_range area a (a + 8)) 8 long in
      let first : u64_bytes (entry_at area run n) ≡ slice_range area a b =
      ap u64_bytes (entry_before n (omega arith)) ∙ back_8 (slice_range area a (a + 8)) (small_part area a (a + 8) are) (omega (arith, long)) ∙ all
      ∙ ap (λ (j : ℕ). slice_range area a j) step in
      let next : entry_at area run n + length (record_bytes (record_at n)) ≡ entry_at area run (suc n) =
      record_long n (omega arith) ∙ ap (entry_at area run) (omega arith) in
      let last : suc n + k ≡ n + suc k = omega arith in
      ap (λ (xs : List ℕ). xs ++ index_bytes (entry_at area run n + length (record_bytes (record_at n))) (recs k (suc n))) first
      ∙ ap (λ (j : ℕ). slice_range area a b ++ index_bytes j (recs k (suc n))) next
      ∙ ap (λ (xs : List ℕ). slice_range area a b ++ xs) (index_part k (suc n) (omega arith))
      ∙ ap (λ (j : ℕ). slice_range area a b ++ slice_range area b (run.slot.start + (index_start run + 8 * j))) last
      ∙ join area a b (run.slot.start + (index_start run + 8 * (n + suc k))) (omega arith) (omega arith)
    where
      take_all : (xs : List ℕ) (n : ℕ) → length xs ≡ n → take n xs ≡ xs
      take_all [] zero is = refl
      take_all [] (suc n) is = refl
      take_all (x ∷ xs) zero is = absurd (omega (arith, is))
      take_all (x ∷ xs) (suc n) is = ap (λ (ys : List ℕ). x ∷ ys) (take_all xs n (omega (arith, is)))

  first_entry : entry_at area run 0 ≡ 0
  first_entry = elim (cases_lt 0 run.slot.records) [
    | inl some ↦ omega (arith, (whole.heads 0 some).place.high)
    | inr none ↦
        let same : 0 ≡ run.slot.records = omega arith in
        let long = is.longest in
        omega (arith, entry_last, ap (entry_at area run) same, long)
  ]

  every_fits : 0 + run.slot.records ≤ run.slot.records
  every_fits = omega arith

  every : List ArchiveRecord
  every = recs run.slot.records 0

  bytes_are : run_bytes every ≡ slice_range area run.slot.start (run.slot.start + run.slot.len)
  unfolding every
  bytes_are =
      let all : 0 + run.slot.records ≡ run.slot.records = omega arith in
      let end = entry_last in
      let size = index_fits in
      let zero_at = first_entry in
      let a : run.slot.start + entry_at area run 0 ≡ run.slot.start = omega (arith, zero_at) in
      let b : run.slot.start + entry_at area run (0 + run.slot.records) ≡ run.slot.start + index_start run = omega (arith, end, ap (entry_at area run) all) in
      let c : run.slot.start + (index_start run + 8 * 0) ≡ run.slot.start + index_start run = omega arith in
      let d : run.slot.start + (index_start run + 8 * (0 + run.slot.records)) ≡ run.slot.start + run.slot.len = omega (arith, size) in
      ap (λ (xs : List ℕ). xs ++ index_bytes 0 (recs run.slot.records 0)) (records_part run.slot.records 0 every_fits)
      ∙ ap (λ (j : ℕ). slice_range area (run.slot.start + entry_at area run 0) (run.slot.start + entry_at area run (0 + run.slot.records))
      ++ index_bytes j (recs run.slot.records 0)) (sym first_entry)
      ∙ ap (λ (xs : List ℕ). slice_range area (run.slot.start + entry_at area run 0) (run.slot.start + entry_at area run (0 + run.slot.records))
      ++ xs) (index_part run.slot.records 0 every_fits)
      ∙ ap (λ (j : ℕ). slice_range area j (run.slot.start + entry_at area run (0 + run.slot.records))
      ++ slice_range area (run.slot.start + (index_start run + 8 * 0)) (run.slot.start + (index_start run + 8 * (0 + run.slot.records)))) a
      ∙ ap (λ (j : ℕ). slice_range area run.slot.start j
      ++ slice_range area (run.slot.start + (index_start run + 8 * 0)) (run.slot.start + (index_start run + 8 * (0 + run.slot.records)))) b
      ∙ ap (λ (j : ℕ). slice_range area run.slot.start (run.slot.start + index_start run)
      ++ slice_range area j (run.slot.start + (index_start run + 8 * (0 + run.slot.records)))) c
      ∙ ap (λ (j : ℕ). slice_range area run.slot.start (run.slot.start + index_start run) ++ slice_range area (run.slot.start + index_start run) j) d
      ∙ join area run.slot.start (run.slot.start + index_start run) (run.slot.start + run.slot.len) (omega arith) (omega (arith, size))

  recs_long : (k n : ℕ) (fits : n + k ≤ run.slot.records) → length (recs k n) ≡ k
  recs_long zero n fits = refl
  recs_long (suc k) n fits = let rest = recs_long k (suc n) (omega arith) in omega (arith, rest)

  number_small : (n : ℕ) (xs : List ℕ) → AreSmall xs → little_number n xs < 256 ^ n
  number_small n xs small_xs = little_from-lt 0 n xs small_xs

  key_in_range : (n : ℕ) → IsKey (nth_head area run n).key
  unfolding head_at
  key_in_range n =
      let from : ℕ = run.slot.start + entry_at area run n in
      let here = small_part area from (from + 26) are in
      record {
        relation = number_small 2 (slice_range area from (from + 26)) here;
        number = number_small 8 (drop 2 (slice_range area from (from + 26))) (small_drop 2 (slice_range area from (from + 26)) here);
      }

  each_fits : (k n : ℕ) (fits : n + k ≤ run.slot.records) → AllByRecursion IsArchiveRecord (recs k n)
  each_fits zero n fits = tt
  each_fits (suc k) n fits = (record { key = key_in_range n; value = (value_there n (omega arith)).is }, each_fits k (suc n) (omega arith))

  in_range : (h : Head) → is_in_range h run ≡ true → (h.from < h.to) × (run.mark < h.to) × (floor_at run.floors h.key.relation < h.to) × (h.to ≤ run.slot.upto)
  in_range h test = (grind (arith, nat_tests), grind (arith, nat_tests), grind (arith, nat_tests), grind (arith, nat_tests))

  each_archived : (k n : ℕ) (fits : n + k ≤ run.slot.records) → AllByRecursion (stands.IsArchived run.mark (floor_at run.floors) run.slot.upto) (recs k n)
  each_archived zero n fits = tt
  each_archived (suc k) n fits =
      let here = in_range (nth_head area run n) (whole.heads n (omega arith)).in_range in
      (record { lasts = here.0; after_mark = here.1; after_floor = here.2; by_upto = here.3 }, each_archived k (suc n) (omega arith))

  ordered : (a b : ArchiveRecord) → is_before (head_of a) (head_of b) ≡ true → stands.IsBefore a b
  ordered a b before = by_key (key_lt a.key b.key) refl where
    by_key : (t : Bool) → key_lt a.key b.key ≡ t → stands.IsBefore a b
    by_key true test = inl (key_cmp-from_lt a.key b.key test)
    by_key false test =
        let relation : a.key.relation ≡ b.key.relation = grind (arith, nat_tests) in
        let number : a.key.record ≡ b.key.record = grind (arith, nat_tests) in
        let times : a.version.to ≤ b.version.from = grind (arith, nat_tests) in
        let keys : a.key ≡ b.key = λ i. record { relation = relation i; «record» = number i } in
        inr (keys, times)

  next_before : (n : ℕ) → suc n < run.slot.records → is_before (nth_head area run n) (nth_head area run (suc n)) ≡ true
  next_before n less =
      let follows : may_follow (placed_at area run n) (placed_at area run (suc n)) ≡ true = (whole.heads (suc n) less).follows in
      let next : suc n ≡ n + 1 = omega arith in
      grind (arith, nat_tests)

  all_ordered : (k n : ℕ) (fits : n + k ≤ run.slot.records) → stands.AreInOrder (recs k n)
  all_ordered zero n fits = tt
  all_ordered (suc zero) n fits = tt
  all_ordered (suc (suc k)) n fits = (ordered (record_at n) (record_at (suc n)) (next_before n (omega arith)), all_ordered (suc k) (suc n) (omega arith))

  pub unbroken_held : (records : List ArchiveRecord) × HoldsRun area run records
  unfolding every
  unbroken_held =
      let within = whole.within in
      let size : length (run_bytes every) ≡ run.slot.len =
      ap length bytes_are ∙ part_long area run.slot.start (run.slot.start + run.slot.len) (omega arith) within ∙ omega arith in (
        every,
        record {
          held = record {
            inside = omega (arith, size);
            is = ap (λ (k : ℕ). slice_range area run.slot.start (run.slot.start + k)) size ∙ sym bytes_are;
          };
          length_is = size;
          records_are = recs_long run.slot.records 0 every_fits;
          each = each_fits run.slot.records 0 every_fits;
          rules = record {
            each = each_archived run.slot.records 0 every_fits;
            in_order = all_ordered run.slot.records 0 every_fits;
          };
        },
      )

pub whole_run : (area : List ℕ) (run : RunEntry) → AreBytes area → IsRun run.slot → IsUnbroken area run → (records : List ArchiveRecord)
    × HoldsRun area run records
whole_run area run are is whole = unbroken_held area run (small area are) is whole
