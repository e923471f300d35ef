-- Chains whose images begin alike.
use Rattle.std.proofs.Common.{◌≡◌, ◌≢◌, ℕ, suc, ◌+◌, ◌*◌, ◌^◌, ◌<◌, ◌≤◌, List, [], ◌∷◌, ◌++◌, length, map, take, drop, refl, sym, ◌∙◌, ap, arith}
use Rattle.std.proofs.lemmas.List.{length-take, drop-drop}
use Rattle.std.proofs.Math.Seq.{take-add}
use Rattle.log_extents.specs.Extents.{LinkedExtent, linked_bytes}
use Rattle.log_extents.specs.Chains.{count_of, first_or, pieces_by, chain_to, IsChainOf}
use Rattle.log_extents.specs.Laws.{IsSameContent}
use Rattle.log_extents.proofs.Bytes.{HasSmall, same_extent}
use Rattle.log_extents.proofs.Numbers.{AreSmall, small_numbers, first_small}
use Rattle.log_extents.proofs.Pieces.{flat, joined_by, count_holds}

-- the first extent of a chain, and the others have none of its gate and link
abbrev pub at_front : List ℕ → ℕ → ℕ
at_front [] own = own
at_front (n ∷ ns) own = 0

pub at_front-none : (numbers : List ℕ) → at_front numbers 0 ≡ 0
at_front-none [] = refl
at_front-none (n ∷ ns) = refl

-- an extent of a chain
abbrev pub extent_in : ℕ → ℕ → ℕ → ℕ → List ℕ → List ℕ → LinkedExtent
extent_in end gate link n ns content = record { gate = gate; number = n; next = first_or end ns; link = link; body = take 8168 content }

pub small_in : (end gate link n : ℕ) (ns content : List ℕ) → end < 2 ^ 32 → link < 2 ^ 32 → AreSmall (n ∷ ns) → HasSmall (extent_in end gate link n ns content)
small_in end gate link n ns content end_small link_small small = record {
  number = small.0;
  next = first_small end ns end_small small.1;
  link = link_small;
  fits = omega (arith, length-take 8168 content);
}

-- the numbers, links and bytes of a chain that begins with these images
pub record AgreesWith (ms : List ℕ) (end gate link link' : ℕ) (a numbers content : List ℕ) (image : List ℕ) (rest : List (List ℕ)) : Type 0 where
  pub others : List ℕ
  pub numbers_are : numbers ≡ ms ++ end ∷ others
  pub bytes_are : take (8168 * length ms) content ≡ take (8168 * length ms) a
  pub link_is : ms ≢ [] → link ≡ link'
  pub rest_is : image ∷ rest ≡ map linked_bytes (chain_to 0 (at_front ms gate) (at_front ms link) (end ∷ others) (drop (8168 * length ms) content))

pub agree : (ms numbers : List ℕ) (end gate link gate' link' : ℕ) (a content : List ℕ) (image : List ℕ) (rest : List (List ℕ))
    → AreSmall ms → AreSmall numbers → end < 2 ^ 32 → link < 2 ^ 32 → link' < 2 ^ 32 → first_or 0 numbers ≡ first_or end ms
    → map linked_bytes (chain_to 0 gate link numbers content) ≡ map linked_bytes (chain_to end gate' link' ms a) ++ image ∷ rest
    → AgreesWith ms end gate link link' a numbers content image rest
agree [] [] end gate link gate' link' a content image rest small_ms small end_small link_small link_small' first same = absurd (cc)
agree [] (n ∷ ns) end gate link gate' link' a content image rest small_ms small end_small link_small link_small' first same = record {
  others = ns;
  numbers_are = ap (λ x. x ∷ ns) first;
  bytes_are = refl;
  link_is = λ some. absurd (some refl);
  rest_is = sym same ∙ ap (λ x. map linked_bytes (chain_to 0 gate link (x ∷ ns) content)) first;
}
agree (m ∷ ms) [] end gate link gate' link' a content image rest small_ms small end_small link_small link_small' first same = absurd (cc)
agree (m ∷ ms) (n ∷ ns) end gate link gate' link' a content image rest small_ms small end_small link_small link_small' first same =
    let e : LinkedExtent = extent_in 0 gate link n ns content in
    let f : LinkedExtent = extent_in end gate' link' m ms a in
    let heads : linked_bytes e ≡ linked_bytes f = cc in
    let tails : map linked_bytes (chain_to 0 0 0 ns (drop 8168 content)) ≡ map linked_bytes (chain_to end 0 0 ms (drop 8168 a)) ++ image ∷ rest = cc in
    let one : e ≡ f =
    same_extent e f (small_in 0 gate link n ns content (omega arith) link_small small) (small_in end gate' link' m ms a end_small link_small' small_ms)
    heads in
    let number : n ≡ m = ap (λ x. x.number) one in
    let body : take 8168 content ≡ take 8168 a = ap (λ x. x.body) one in
    let others =
    agree ms ns end 0 0 0 0 (drop 8168 a) (drop 8168 content) image rest small_ms.1 small.1 end_small (omega arith) (omega arith) (ap (λ x. x.next) one)
    tails in
    let k : ℕ = 8168 * length ms in
    let count : 8168 * suc (length ms) ≡ 8168 + k = omega arith in
    record {
      others = others.others;
      numbers_are = λ i. number i ∷ others.numbers_are i;
      bytes_are =
          ap (λ j. take j content) count
          ∙ take-add 8168 k content
          ∙ ap (λ (l : List ℕ). l ++ take k (drop 8168 content)) body
          ∙ ap (λ (l : List ℕ). take 8168 a ++ l) others.bytes_are
          ∙ sym (take-add 8168 k a)
          ∙ ap (λ j. take j a) (sym count);
      link_is = λ some. ap (λ x. x.link) one;
      rest_is = others.rest_is
          ∙ ap (λ x. map linked_bytes (chain_to 0 x (at_front ms 0) (end ∷ others.others) (drop k (drop 8168 content)))) (at_front-none ms)
          ∙ ap (λ x. map linked_bytes (chain_to 0 0 x (end ∷ others.others) (drop k (drop 8168 content)))) (at_front-none ms)
          ∙ ap (λ (l : List ℕ). map linked_bytes (chain_to 0 0 0 (end ∷ others.others) l)) (drop-drop k 8168 content ∙ ap (λ j. drop j content) (sym count));
    }

-- ---- whole chains

pub record IsSameChain (numbers others : List ℕ) (gate gate' link link' : ℕ) (a b : List ℕ) : Type 0 where
  pub numbers_are : numbers ≡ others
  pub head : numbers ≢ [] → (gate ≡ gate') × (link ≡ link')
  pub pieces_are : pieces_by (length numbers) a ≡ pieces_by (length others) b

same_chain : (ms ns : List ℕ) (gate link gate' link' : ℕ) (a b : List ℕ) → AreSmall ms → AreSmall ns → link < 2 ^ 32 → link' < 2 ^ 32
    → map linked_bytes (chain_to 0 gate link ms a) ≡ map linked_bytes (chain_to 0 gate' link' ns b) → IsSameChain ms ns gate gate' link link' a b
same_chain [] [] gate link gate' link' a b small_ms small_ns link_small link_small' same =
    record { numbers_are = refl; head = λ some. absurd (some refl); pieces_are = refl }
same_chain [] (n ∷ ns) gate link gate' link' a b small_ms small_ns link_small link_small' same = absurd (cc)
same_chain (m ∷ ms) [] gate link gate' link' a b small_ms small_ns link_small link_small' same = absurd (cc)
same_chain (m ∷ ms) (n ∷ ns) gate link gate' link' a b small_ms small_ns link_small link_small' same =
    let e : LinkedExtent = extent_in 0 gate link m ms a in
    let f : LinkedExtent = extent_in 0 gate' link' n ns b in
    let heads : linked_bytes e ≡ linked_bytes f = cc in
    let tails : map linked_bytes (chain_to 0 0 0 ms (drop 8168 a)) ≡ map linked_bytes (chain_to 0 0 0 ns (drop 8168 b)) = cc in
    let one : e ≡ f =
    same_extent e f (small_in 0 gate link m ms a (omega arith) link_small small_ms) (small_in 0 gate' link' n ns b (omega arith) link_small' small_ns) heads
    in
    let number : m ≡ n = ap (λ x. x.number) one in
    let body : take 8168 a ≡ take 8168 b = ap (λ x. x.body) one in
    let others = same_chain ms ns 0 0 0 0 (drop 8168 a) (drop 8168 b) small_ms.1 small_ns.1 (omega arith) (omega arith) tails in
    record {
      numbers_are = λ i. number i ∷ others.numbers_are i;
      head = λ some. (ap (λ x. x.gate) one, ap (λ x. x.link) one);
      pieces_are = λ i. body i ∷ others.pieces_are i;
    }

some_numbers : (numbers : List ℕ) (len : ℕ) → 0 < len → length numbers ≡ count_of len → numbers ≢ []
some_numbers [] len some count is = omega (arith, some, count)
some_numbers (n ∷ ns) len some count is = cc

pub one_chain : (most gate other_gate link other_link : ℕ) (numbers others a b : List ℕ) (images : List (List ℕ)) → most < 2 ^ 32 → link ≤ most
    → other_link ≤ most
    → IsChainOf most numbers gate link a images → IsChainOf most others other_gate other_link b images
    → IsSameContent numbers others gate other_gate link other_link a b
one_chain most gate other_gate link other_link numbers others a b images few link_few other_few is_a is_b =
    let same =
    same_chain numbers others gate link other_gate other_link a b (small_numbers most numbers few is_a.in_range)
    (small_numbers most others few is_b.in_range) (omega arith) (omega arith) (sym is_a.images_are ∙ is_b.images_are) in
    let some = some_numbers numbers (length a) is_a.some is_a.count in
    let whole_a = joined_by (length numbers) a (let count = is_a.count in let holds = count_holds (length a) in omega (arith, count, holds)) in
    let whole_b = joined_by (length others) b (let count = is_b.count in let holds = count_holds (length b) in omega (arith, count, holds)) in
    record {
      numbers_are = same.numbers_are;
      gate_is = (same.head some).0;
      link_is = (same.head some).1;
      content_is = sym whole_a ∙ ap flat same.pieces_are ∙ whole_b;
    }
