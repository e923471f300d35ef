-- The extents of a chain that is written whole, one after the other.
use Rattle.std.proofs.Common.{◌≡◌, ℕ, ◌+◌, ◌*◌, ◌<◌, ◌≤◌, suc, ◌==◌, if◌then◌else◌, Bool, false, List}
use Rattle.std.proofs.Common.{[], ◌∷◌, length, take, drop, refl, sym, ap, ◌∙◌, arith, get_or, slice_set}
use Rattle.std.proofs.lemmas.List.{drop-drop, length-drop}
use Rattle.std.proofs.lemmas.Bool.Decides.{nat_tests}
use Rattle.std.proofs.Math.Seq.{drop-cons}
use Rattle.deltas.specs.Extents.{extent_start}
use Rattle.log_extents.specs.Extents.{LinkedExtent, linked_bytes}
use Rattle.log_extents.specs.Chains.{first_or}
use Rattle.log_writer.specs.Turns.{Part, extent_part}
use Rattle.log_writer.specs.Whole.{whole_parts, at_head, parts_left}
use Rattle.log_writer.proofs.Parts.{IsPart, first-is}

-- the extent of this index
abbrev pub extent_at : ℕ → ℕ → List ℕ → List ℕ → ℕ → ℕ → LinkedExtent
extent_at gate link numbers content index n = record {
  gate = at_head gate index;
  number = n;
  next = first_or 0 (drop (index + 1) numbers);
  link = at_head link index;
  body = take 8168 (drop (8168 * index) content);
}

pub left-many : (gate link : ℕ) (numbers content : List ℕ) → length (whole_parts gate link numbers content) ≡ length numbers
left-many gate link [] content = refl
left-many gate link (n ∷ ns) content = ap (λ (k : ℕ). suc k) (left-many 0 0 ns (drop 8168 content))

later : (value index : ℕ) → 0 ≡ at_head value (index + 1)
later value index =
    let not_first : (index + 1 == 0) ≡ false = grind (arith, nat_tests) in ap (λ (first : Bool). if first then value else 0) (sym not_first)

-- it is the first one that is left, and behind it are the others
pub split-left : (gate link : ℕ) (numbers content : List ℕ) (index n : ℕ) → index < length numbers → n ≡ get_or numbers index n
    → parts_left gate link numbers content index
    ≡ extent_part (extent_at gate link numbers content index n) ∷ parts_left gate link numbers content (index + 1)
split-left gate link numbers content index n within here =
    let more : suc index ≡ index + 1 = omega arith in
    let bytes : 8168 * index + 8168 ≡ 8168 * (index + 1) = omega arith in
    let split : drop index numbers ≡ n ∷ drop (index + 1) numbers = drop-cons numbers index n within ∙ (λ i. sym here i ∷ drop (more i) numbers) in
    ap (λ (ns : List ℕ). whole_parts (at_head gate index) (at_head link index) ns (drop (8168 * index) content)) split
    ∙ (λ i. extent_part (extent_at gate link numbers content index n) ∷ whole_parts (later gate index i) (later link index i) (drop (index + 1) numbers)
    ((drop-drop 8168 (8168 * index) content ∙ ap (λ (k : ℕ). drop k content) bytes) i))

pub left-count : (gate link : ℕ) (numbers content : List ℕ) (index : ℕ) → index ≤ length numbers
    → length (parts_left gate link numbers content index) + index ≡ length numbers
left-count gate link numbers content index within =
    let many = left-many (at_head gate index) (at_head link index) (drop index numbers) (drop (8168 * index) content) in
    let rest = length-drop index numbers in
    omega (arith, many, rest, within)

-- what is written of an extent, and where
pub next-is : (gate link : ℕ) (numbers content : List ℕ) (index g l n next : ℕ) (body image : List ℕ) (place : ℕ) → index < length numbers
    → g ≡ at_head gate index → l ≡ at_head link index → n ≡ get_or numbers index n → next ≡ first_or 0 (drop (index + 1) numbers)
    → body ≡ take 8168 (drop (8168 * index) content)
    → image ≡ linked_bytes (record { gate = g; number = n; next = next; link = l; body = body }) → place ≡ extent_start n
    → (p : Part) (rest : List Part) → parts_left gate link numbers content index ≡ p ∷ rest → IsPart place image p
next-is gate link numbers content index g l n next body image place within gate_is link_is here behind part whole at p rest is =
    let e = extent_at gate link numbers content index n in
    let same : extent_part e ≡ p =
    first-is (extent_part e) p (parts_left gate link numbers content (index + 1)) rest
    (sym (split-left gate link numbers content index n within here) ∙ is) in
    record {
      place_is = at ∙ ap (λ (q : Part). q.place) same;
      bytes_are = whole ∙ (λ i. linked_bytes (record { gate = gate_is i; number = n; next = behind i; link = link_is i; body = part i }))
          ∙ ap (λ (q : Part). q.bytes) same;
    }

-- the others are left behind it
pub others-left : (gate link : ℕ) (numbers content : List ℕ) (index n : ℕ) → index < length numbers → n ≡ get_or numbers index n
    → parts_left gate link numbers content (index + 1) ≡ drop 1 (parts_left gate link numbers content index)
others-left gate link numbers content index n within here =
    sym (ap (λ (parts : List Part). drop 1 parts) (split-left gate link numbers content index n within here))

-- the gate is the first byte of an extent
pub with_gate : (gate number next link : ℕ) (body : List ℕ)
    → slice_set (linked_bytes (record { gate = 0; number = number; next = next; link = link; body = body })) 0 gate
    ≡ linked_bytes (record { gate = gate; number = number; next = next; link = link; body = body })
unfolding linked_bytes
with_gate gate number next link body = refl
