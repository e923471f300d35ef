-- An extent that is filled with one record after the other.
use Rattle.std.proofs.Common.{◌≡◌, ◌≢◌, ℕ, ◌+◌, ◌-◌, ◌≤◌, ◌<◌, nat_le, true, false, Some, None, List, [], ◌∷◌, ◌++◌, length, take, drop, replicate, map, refl}
use Rattle.std.proofs.Common.{sym, ◌∙◌, ap, subst, arith, append_assoc, length-append, length-drop, inl, inr}
use Rattle.std.specs.List.{flat_map}
use borrow.Rule.Slice.PartMut.{put_mid, post_of}
use Rattle.std.proofs.lemmas.Bool.{cases_lt, cases_eq}
use Rattle.std.proofs.lemmas.Bool.Decides.{nat_tests}
use Rattle.std.proofs.lemmas.List.{append-nil, nil_from_length, length-take}
use Rattle.wire.specs.Numbers.{u32_bytes}
use Rattle.deltas.specs.Extents.{extent_bytes}
use Rattle.deltas.specs.declared.«record».Record.{Record}
use Rattle.deltas.specs.Records.{spelling}
use Rattle.deltas.specs.Packing.{bodies_from, bodies}
use Rattle.deltas.specs.Filling.{first_within, IsFirstBody}
use Rattle.deltas.proofs.Bodies.{behind_header}
use Rattle.deltas.proofs.Holding.{spelling-some}

-- these records are written so far
pub record IsFilling (before left : List Record) (count used : ℕ) (body : List ℕ) : Type 0 where
  pub taken : List Record
  pub all : before ≡ taken ++ left
  pub counted : count ≡ length taken
  pub bytes : take used body ≡ flat_map spelling taken
  pub used_is : used ≡ length (flat_map spelling taken)
  pub fits : used ≤ 8176
  pub few : count ≤ used
  pub len : length body ≡ 8176
  pub packed : 0 < count → bodies (map spelling before) ≡ bodies_from (flat_map spelling taken) (map spelling left)

flat_map-push : (records : List Record) (r : Record) → flat_map spelling (records ++ r ∷ []) ≡ flat_map spelling records ++ spelling r
flat_map-push [] r = append-nil (spelling r)
flat_map-push (x ∷ xs) r = ap (λ (l : List ℕ). spelling x ++ l) (flat_map-push xs r) ∙ sym (append_assoc (spelling x) (flat_map spelling xs) (spelling r))

-- what the test of the next record says
there_is : (room : ℕ) (left : List Record) (r : Record) → first_within room left ≡ Some r
    → (rest : List Record) × (left ≡ r ∷ rest) × (length (spelling r) ≤ room)
there_is room [] r is = cc
there_is room (x ∷ xs) r is = elim (cases_lt room (length (spelling x))) [
  | inl over ↦ absurd (let no : nat_le (length (spelling x)) room ≡ false = grind (arith, nat_tests) in let none : None ≡ Some r = rw no at is in cc)
  | inr fits ↦
      let yes : nat_le (length (spelling x)) room ≡ true = grind (arith, nat_tests) in
      let same : Some x ≡ Some r = rw yes at is in
      let first : x ≡ r = cc in
      (xs, ap (λ y. y ∷ xs) first, subst (λ y. length (spelling y) ≤ room) first fits)
]

-- one more record
next_filled : (before rest : List Record) (count used : ℕ) (body written : List ℕ) (r : Record) → length (spelling r) ≤ 8176 - used
    → take (used + length (spelling r)) written ≡ take used body ++ spelling r
    → length written ≡ length body → IsFilling before (r ∷ rest) count used body → IsFilling before rest (count + 1) (used + length (spelling r)) written
next_filled before rest count used body written r room front same so_far =
    let used_is = so_far.used_is in
    let fits = so_far.fits in
    let few = so_far.few in
    let counted = so_far.counted in
    let some = spelling-some r in
    let more = flat_map-push so_far.taken r in
    record {
      taken = so_far.taken ++ r ∷ [];
      all = so_far.all ∙ sym (append_assoc so_far.taken (r ∷ []) rest);
      counted = omega (arith, counted, length-append so_far.taken (r ∷ []));
      bytes = front ∙ ap (λ (l : List ℕ). l ++ spelling r) so_far.bytes ∙ sym more;
      used_is = omega (arith, used_is, ap (λ (l : List ℕ). length l) more, length-append (flat_map spelling so_far.taken) (spelling r));
      fits = omega (arith, fits, room);
      few = omega (arith, few, some);
      len = same ∙ so_far.len;
      packed = λ positive. elim (cases_eq count 0) [
        | inl none ↦
            let taken : so_far.taken ≡ [] = nil_from_length so_far.taken (omega (arith, counted, none)) in
            let all : before ≡ r ∷ rest = so_far.all ∙ ap (λ (l : List Record). l ++ r ∷ rest) taken in
            let body_is : spelling r ≡ flat_map spelling (so_far.taken ++ r ∷ []) =
            sym (more ∙ ap (λ (l : List Record). flat_map spelling l ++ spelling r) taken) in
            ap (λ (l : List Record). bodies (map spelling l)) all ∙ ap (λ (l : List ℕ). bodies_from l (map spelling rest)) body_is
        | inr some_before ↦
            let room' : length (flat_map spelling so_far.taken) + length (spelling r) ≤ 8176 = omega (arith, used_is, fits, room) in
            let yes : nat_le (length (flat_map spelling so_far.taken) + length (spelling r)) 8176 ≡ true = grind (arith, nat_tests) in
            let step : bodies_from (flat_map spelling so_far.taken) (spelling r ∷ map spelling rest)
            ≡ bodies_from (flat_map spelling so_far.taken ++ spelling r) (map spelling rest) = rw yes refl in
            so_far.packed (omega (arith, some_before)) ∙ step ∙ ap (λ (l : List ℕ). bodies_from l (map spelling rest)) (sym more)
      ];
    }

pub one_filled : (before left after : List Record) (count used end : ℕ) (body written : List ℕ) (r : Record) → first_within (8176 - used) left ≡ Some r
    → after ≡ drop 1 left → end ≡ used + length (spelling r)
    → take end written ≡ take used body ++ spelling r → length written ≡ length body → IsFilling before left count used body
    → IsFilling before after (count + 1) end written
one_filled before left after count used end body written r next behind end_is front same so_far =
    let there = there_is (8176 - used) left r next in
    let rest : after ≡ there.0 = behind ∙ ap (λ (l : List Record). drop 1 l) there.1 in
    subst (λ (l : List Record). IsFilling before l (count + 1) end written) (sym rest)
    (subst (λ n. IsFilling before there.0 (count + 1) n written) (sym end_is)
    (next_filled before there.0 count used body written r there.2 (subst (λ n. take n written ≡ take used body ++ spelling r) end_is front) same
    (subst (λ (l : List Record). IsFilling before l count used body) there.1 so_far)))

-- no other record fits
over : (room : ℕ) (x : Record) (xs : List Record) → first_within room (x ∷ xs) ≡ None → room < length (spelling x)
over room x xs none = elim (cases_lt room (length (spelling x))) [
  | inl more ↦ more
  | inr fits ↦ absurd (let yes : nat_le (length (spelling x)) room ≡ true = grind (arith, nat_tests) in let is : Some x ≡ None = rw yes at none in cc)
]

abbrev IsShort : List Record → Type 0
IsShort left = (first : Record) (rest : List Record) → left ≡ first ∷ rest → length (spelling first) ≤ 4116

packed_whole : (before left : List Record) (count used : ℕ) (body : List ℕ) → first_within (8176 - used) left ≡ None → IsShort left
    → (so_far : IsFilling before left count used body) → before ≢ []
    → bodies (map spelling before) ≡ flat_map spelling so_far.taken ∷ bodies (map spelling left)
packed_whole before [] count used body none short so_far some =
    let counted = so_far.counted in
    let positive : 0 < count = elim (cases_eq count 0) [
      | inl zero ↦ absurd (some (so_far.all ∙ append-nil so_far.taken ∙ nil_from_length so_far.taken (omega (arith, counted, zero))))
      | inr more ↦ omega (arith, more)
    ] in
    so_far.packed positive
packed_whole before (x ∷ xs) count used body none short so_far some =
    let counted = so_far.counted in
    let used_is = so_far.used_is in
    let most = short x xs refl in
    let long = over (8176 - used) x xs none in
    let positive : 0 < count = elim (cases_eq count 0) [
      | inl zero ↦
          let taken : so_far.taken ≡ [] = nil_from_length so_far.taken (omega (arith, counted, zero)) in
          let no_bytes : used ≡ 0 = used_is ∙ ap (λ (l : List Record). length (flat_map spelling l)) taken in
          absurd (omega (arith, no_bytes, most, long))
      | inr more ↦ omega (arith, more)
    ] in
    let past : 8176 < length (flat_map spelling so_far.taken) + length (spelling x) = omega (arith, used_is, long) in
    let no : nat_le (length (flat_map spelling so_far.taken) + length (spelling x)) 8176 ≡ false = grind (arith, nat_tests) in
    let step : bodies_from (flat_map spelling so_far.taken) (spelling x ∷ map spelling xs)
    ≡ flat_map spelling so_far.taken ∷ bodies_from (spelling x) (map spelling xs) = rw no refl in
    so_far.packed positive ∙ step

pub body_filled : (before left : List Record) (count used : ℕ) (body written : List ℕ) → first_within (8176 - used) left ≡ None → IsShort left
    → IsFilling before left count used body
    → written ≡ take used body ++ replicate (8176 - used) 0
    → (bytes : List ℕ) × IsFirstBody before bytes (record { records = count; used = used }) left × (written ≡ bytes ++ replicate (8176 - length bytes) 0)
body_filled before left count used body written none short so_far written_is =
    let used_is = so_far.used_is in
    let fits = so_far.fits in (
      flat_map spelling so_far.taken,
      record {
        taken = so_far.taken;
        all = so_far.all;
        body_is = refl;
        packed = packed_whole before left count used body none short so_far;
        records = so_far.counted;
        used = used_is;
        fits = omega (arith, used_is, fits);
      },
      written_is ∙ ap (λ (l : List ℕ). l ++ replicate (8176 - used) 0) so_far.bytes
          ∙ ap (λ n. flat_map spelling so_far.taken ++ replicate (8176 - n) 0) used_is,
    )

-- zeros written behind the records
pub zeros_behind : (used : ℕ) (body zeros : List ℕ) → length body ≡ 8176 → used ≤ 8176
    → zeros ≡ replicate (length (take (length body - used) (drop used body))) 0
    → put_mid used (length body - used) body zeros ≡ take used body ++ replicate (8176 - used) 0
zeros_behind used body zeros len fits is =
    let behind : post_of used (length body - used) body ≡ [] =
    nil_from_length (post_of used (length body - used) body) (omega (arith, length-drop (length body - used) (drop used body), length-drop used body)) in
    let count : length (take (length body - used) (drop used body)) ≡ 8176 - used =
    omega (arith, length-take (length body - used) (drop used body), length-drop used body) in
    ap (λ (l : List ℕ). take used body ++ (zeros ++ l)) behind
    ∙ ap (λ (l : List ℕ). take used body ++ l) (append-nil zeros ∙ is ∙ ap (λ n. replicate n 0) count)

-- the header written in front of them
pub header_in_front : (number next used : ℕ) (old body image bytes : List ℕ) → length old ≡ 8192 → length bytes ≤ 8176 → used ≡ length bytes
    → body ≡ bytes ++ replicate (8176 - length bytes) 0
    → image ≡ u32_bytes number ++ u32_bytes next ++ u32_bytes used ++ u32_bytes 0 ++ drop 16 (put_mid 16 8176 old body)
    → image ≡ extent_bytes (record { number = number; next = next; body = bytes })
unfolding extent_bytes
header_in_front number next used old body image bytes len fits used_is body_is image_is =
    let part : drop 16 (put_mid 16 8176 old body) ≡ body = behind_header old body len in
    image_is
    ∙ ap (λ (l : List ℕ). u32_bytes number ++ u32_bytes next ++ u32_bytes used ++ u32_bytes 0 ++ l) (part ∙ body_is)
    ∙ ap (λ n. u32_bytes number ++ u32_bytes next ++ u32_bytes n ++ u32_bytes 0 ++ (bytes ++ replicate (8176 - length bytes) 0)) used_is
    ∙ sym (append_assoc (u32_bytes number ++ u32_bytes next ++ u32_bytes (length bytes) ++ u32_bytes 0) bytes (replicate (8176 - length bytes) 0))
