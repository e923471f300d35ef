-- The parts of a chain, one after the other.
use Rattle.std.proofs.Common.{◌≡◌, ⊎_elim, get_or, replicate, length-append, ℕ, ◌+◌, ◌-◌, ◌*◌, ◌<◌, ◌≤◌, min, zero, suc, List, [], ◌∷◌, map, length, take, drop}
use Rattle.std.proofs.Common.{refl, sym, ap, ◌∙◌, arith}
use Rattle.std.proofs.lemmas.List.{drop-drop, take-take, take_all, length-drop, length-take, length-replicate}
use Rattle.std.proofs.lemmas.Bool.Decides.{nat_tests}
use Rattle.std.proofs.lemmas.Bool.{cases_lt}
use Rattle.std.proofs.Math.Seq.{drop-cons}
use Rattle.wire.specs.Numbers.{u32_bytes}
use Rattle.deltas.specs.Extents.{extent_start}
use Rattle.log_extents.specs.Extents.{LinkedExtent, linked_bytes}
use Rattle.log_extents.specs.Chains.{first_or, chain_to, chain_of}
use Rattle.log_writer.specs.Turns.{Part, open_gate, extent_part, head_part, written_parts}

least-low : (m n len : ℕ) → m ≡ min len n → m ≤ len
least-low m n len is = grind (arith, nat_tests, is)

least-all : (m n len : ℕ) → m ≡ min len n → len ≤ n → m ≡ len
least-all m n len is le = grind (arith, nat_tests, is, le)

least-some : (m n len : ℕ) → m ≡ min len n → n < len → m ≡ n
least-some m n len is lt = grind (arith, nat_tests, is, lt)

-- as many bytes as an extent holds, as far as there are so many
pub body-part : (from m n : ℕ) (xs : List ℕ) → m ≡ min (length xs - from) n → take m (take (length xs - from) (drop from xs)) ≡ take n (drop from xs)
body-part from m n xs is =
    let ys = drop from xs in
    let len = length xs - from in
    let long : length ys ≡ len = length-drop from xs in
    take-take m len ys (least-low m n len is)
    ∙ ⊎_elim
    (λ (more : n < len). ap (λ (k : ℕ). take k ys) (least-some m n len is more))
    (λ (all : len ≤ n). ap (λ (k : ℕ). take k ys) (least-all m n len is all) ∙ take_all len ys (omega (arith, long))
    ∙ sym (take_all n ys (omega (arith, long, all))))
    (cases_lt n len)

pub slice-part : (from m n : ℕ) (xs : List ℕ) → m ≡ min (length (take (length xs - from) (drop from xs))) n → take m (take (length xs - from) (drop from xs))
    ≡ take n (drop from xs)
slice-part from m n xs is =
    let long : length (take (length xs - from) (drop from xs)) ≡ length xs - from =
    omega (arith, length-take (length xs - from) (drop from xs), length-drop from xs) in
    body-part from m n xs (is ∙ ap (λ (k : ℕ). min k n) long)

-- ---- the extents of a chain from one of them on

-- behind the first one they have no gate and no link
chain-drop : (k end : ℕ) (numbers content : List ℕ) → drop k (chain_to end 0 0 numbers content) ≡ chain_to end 0 0 (drop k numbers) (drop (8168 * k) content)
chain-drop zero end numbers content = refl
chain-drop (suc k) end [] content = refl
chain-drop (suc k) end (n ∷ ns) content =
    let place : 8168 + 8168 * k ≡ 8168 * suc k = omega arith in
    chain-drop k end ns (drop 8168 content) ∙ ap (chain_to end 0 0 (drop k ns)) (drop-drop (8168 * k) 8168 content ∙ ap (λ (i : ℕ). drop i content) place)

drop-map : {A B : Type 0} (f : A → B) (k : ℕ) (xs : List A) → drop k (map f xs) ≡ map f (drop k xs)
drop-map f zero xs = refl
drop-map f (suc k) [] = refl
drop-map f (suc k) (x ∷ xs) = drop-map f k xs

-- the extent at a place of a chain, as it is written
abbrev pub part_at : ℕ → ℕ → ℕ → List ℕ → List ℕ → Part
part_at zero link n ns content = head_part (record { gate = open_gate; number = n; next = first_or 0 ns; link = link; body = take 8168 content })
part_at (suc k) link n ns content =
    extent_part (record { gate = 0; number = n; next = first_or 0 ns; link = 0; body = take 8168 (drop (8168 * suc k) content) })

-- what is left to be written from there on
pub parts-from : (k link : ℕ) (numbers content : List ℕ) (n : ℕ) (ns : List ℕ) → drop k numbers ≡ n ∷ ns
    → (rest : List Part) × (drop k (written_parts (chain_of open_gate link numbers content)) ≡ part_at k link n ns content ∷ rest)
parts-from zero link [] content n ns is = absurd (let none : [] ≡ n ∷ ns = is in cc)
parts-from zero link (m ∷ ms) content n ns is =
    (map extent_part (chain_to 0 0 0 ns (drop 8168 content)), ap (λ (numbers : List ℕ). written_parts (chain_of open_gate link numbers content)) is)
parts-from (suc k) link [] content n ns is = absurd (let none : [] ≡ n ∷ ns = is in cc)
parts-from (suc k) link (m ∷ ms) content n ns is =
    let place : 8168 + 8168 * k ≡ 8168 * suc k = omega arith in (
      map extent_part (chain_to 0 0 0 ns (drop 8168 (drop (8168 * suc k) content))),
      drop-map extent_part k (chain_to 0 0 0 ms (drop 8168 content))
          ∙ ap (map extent_part) (chain-drop k 0 ms (drop 8168 content))
          ∙ ap (λ (numbers : List ℕ). map extent_part (chain_to 0 0 0 numbers (drop (8168 * k) (drop 8168 content)))) is
          ∙ ap (λ (rest : List ℕ). map extent_part (chain_to 0 0 0 (n ∷ ns) rest)) (drop-drop (8168 * k) 8168 content ∙ ap (λ (i : ℕ). drop i content) place),
    )

-- ---- one write

-- an extent whose body fits has 8,192 bytes
pub linked-length : (e : LinkedExtent) → length e.body ≤ 8168 → length (linked_bytes e) ≡ 8192
unfolding linked_bytes u32_bytes
linked-length e fits = omega (arith, length-append e.body (replicate {A = ℕ} (8168 - length e.body) 0), length-replicate {A = ℕ} (8168 - length e.body) 0, fits)

-- but for its gate an extent has the same bytes
same-tail : (gate : ℕ) (e : LinkedExtent) → drop 1 (linked_bytes (record { gate = 0; number = e.number; next = e.next; link = e.link; body = e.body }))
    ≡ drop 1 (linked_bytes (record { gate = gate; number = e.number; next = e.next; link = e.link; body = e.body }))
unfolding linked_bytes
same-tail gate e = refl

first : Part → List Part → Part
first d [] = d
first d (p ∷ ps) = p

pub first-is : (p q : Part) (ps qs : List Part) → p ∷ ps ≡ q ∷ qs → p ≡ q
unfolding first
first-is p q ps qs same = ap (first p) same

-- what is written, and where
pub record IsPart (place : ℕ) (bytes : List ℕ) (p : Part) : Type 0 where
  pub place_is : place ≡ p.place
  pub bytes_are : bytes ≡ p.bytes

pub head-is : (numbers : List ℕ) (link : ℕ) (content : List ℕ) (n next : ℕ) (body image : List ℕ) (place : ℕ) → 0 < length numbers → n ≡ get_or numbers 0 n
    → next ≡ first_or 0 (drop 1 numbers)
    → body ≡ take 8168 content → image ≡ linked_bytes (record { gate = 0; number = n; next = next; link = link; body = body }) → place ≡ extent_start n
    → (p : Part) (rest : List Part) → written_parts (chain_of open_gate link numbers content) ≡ p ∷ rest → IsPart (place + 1) (take 8191 (drop 1 image)) p
head-is [] link content n next body image place some here behind part whole at p rest is = absurd (omega (arith, some))
head-is (m ∷ ms) link content n next body image place some here behind part whole at p rest is =
    let e : LinkedExtent = record { gate = open_gate; number = m; next = first_or 0 ms; link = link; body = take 8168 content } in
    let fits : length (take 8168 content) ≤ 8168 = omega (arith, length-take 8168 content) in
    let same : head_part e ≡ p = first-is (head_part e) p (map extent_part (chain_to 0 0 0 ms (drop 8168 content))) rest is in
    let bytes : image ≡ linked_bytes (record { gate = 0; number = m; next = first_or 0 ms; link = link; body = take 8168 content }) =
    whole ∙ (λ i. linked_bytes (record { gate = 0; number = here i; next = behind i; link = link; body = part i })) in
    let tail : drop 1 image ≡ drop 1 (linked_bytes e) = ap (drop 1) bytes ∙ same-tail open_gate e in
    let long : length (drop 1 (linked_bytes e)) ≤ 8191 = omega (arith, length-drop 1 (linked_bytes e), linked-length e fits) in
    record {
      place_is = ap (λ (k : ℕ). k + 1) (at ∙ ap extent_start here) ∙ ap (λ (q : Part). q.place) same;
      bytes_are = ap (take 8191) tail ∙ take_all 8191 (drop 1 (linked_bytes e)) long ∙ ap (λ (q : Part). q.bytes) same;
    }

pub other-is : (numbers : List ℕ) (link : ℕ) (content : List ℕ) (index n next : ℕ) (body image : List ℕ) (place : ℕ) → 0 < index → index < length numbers → n
    ≡ get_or numbers index n
    → next ≡ first_or 0 (drop (index + 1) numbers) → body ≡ take 8168 (drop (8168 * index) content) → image
    ≡ linked_bytes (record { gate = 0; number = n; next = next; link = 0; body = body })
    → place ≡ extent_start n → (p : Part) (rest : List Part) → drop index (written_parts (chain_of open_gate link numbers content)) ≡ p ∷ rest
    → IsPart place image p
other-is numbers link content zero n next body image place other within here behind part whole at p rest is = absurd (omega (arith, other))
other-is numbers link content (suc k) n next body image place other within here behind part whole at p rest is =
    let ns = drop (suc k + 1) numbers in
    let more : suc (suc k) ≡ suc k + 1 = omega arith in
    let split : drop (suc k) numbers ≡ n ∷ ns = drop-cons numbers (suc k) n within ∙ (λ i. sym here i ∷ drop (more i) numbers) in
    let from = parts-from (suc k) link numbers content n ns split in
    let same : part_at (suc k) link n ns content ≡ p = first-is (part_at (suc k) link n ns content) p from.0 rest (sym from.1 ∙ is) in
    record {
      place_is = at ∙ ap (λ (q : Part). q.place) same;
      bytes_are = whole ∙ (λ i. linked_bytes (record { gate = 0; number = n; next = behind i; link = 0; body = part i })) ∙ ap (λ (q : Part). q.bytes) same;
    }
