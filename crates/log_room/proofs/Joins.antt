-- Contents joined, one after the other.
use Rattle.std.proofs.Common.{◌≡◌, ℕ, zero, suc, ◌+◌, ◌<◌, ◌≤◌, List, [], ◌∷◌, ◌++◌, length, take, drop, sym, ap, ◌∙◌, arith, slice_index_or, append-nil}
use Rattle.std.proofs.Math.Seq.{take-suc}
use Rattle.std.proofs.lemmas.Grind.{flat_map-append}
use Rattle.std.proofs.lemmas.List.{length-append}
use Rattle.log_extents.specs.Chains.{count_of}
use Rattle.log_room.specs.Contents.{joined, extents_of}

pub taken_more : (contents : List (List ℕ)) (place : ℕ) (content : List ℕ) → place < length contents → content ≡ slice_index_or contents place content
    → take (place + 1) contents ≡ take place contents ++ content ∷ []
taken_more contents place content within is =
    let next : place + 1 ≡ suc place = omega arith in
    ap (λ (n : ℕ). take n contents) next ∙ take-suc contents place content within
    ∙ ap (λ (c : List ℕ). take place contents ++ c ∷ []) (sym is)

pub joined_more : (contents : List (List ℕ)) (place : ℕ) (content : List ℕ) → place < length contents → content ≡ slice_index_or contents place content
    → joined (take (place + 1) contents) ≡ joined (take place contents) ++ content
joined_more contents place content within is =
    ap joined (taken_more contents place content within is)
    ∙ flat_map-append (λ (c : List ℕ). c) (take place contents) (content ∷ [])
    ∙ ap (λ (bytes : List ℕ). joined (take place contents) ++ bytes) (append-nil content)

pub extents_push : (contents : List (List ℕ)) (content : List ℕ) → extents_of (contents ++ content ∷ []) ≡ extents_of contents + count_of (length content)
extents_push [] content = omega arith
extents_push (c ∷ cs) content = let rest = extents_push cs content in omega (arith, rest)

pub extents_more : (contents : List (List ℕ)) (place : ℕ) (content : List ℕ) → place < length contents → content ≡ slice_index_or contents place content
    → extents_of (take (place + 1) contents) ≡ extents_of (take place contents) + count_of (length content)
extents_more contents place content within is =
    ap extents_of (taken_more contents place content within is) ∙ extents_push (take place contents) content

pub extents_within : (contents : List (List ℕ)) (count : ℕ) → extents_of (take count contents) ≤ extents_of contents
extents_within [] zero = omega arith
extents_within [] (suc n) = omega arith
extents_within (c ∷ cs) zero = omega arith
extents_within (c ∷ cs) (suc n) = let rest = extents_within cs n in omega (arith, rest)

-- a front and the rest together
pub extents_split : (contents : List (List ℕ)) (count : ℕ) → extents_of (take count contents) + extents_of (drop count contents) ≡ extents_of contents
extents_split [] zero = omega arith
extents_split [] (suc n) = omega arith
extents_split (c ∷ cs) zero = omega arith
extents_split (c ∷ cs) (suc n) = let rest = extents_split cs n in omega (arith, rest)

-- contents joined take no more extents than each alone
pub count_within : (contents : List (List ℕ)) → count_of (length (joined contents)) ≤ extents_of contents
count_within [] = omega arith
count_within (c ∷ cs) =
    let rest = count_within cs in
    let both = length-append c (joined cs) in
    omega (arith, rest, both)

-- and so many at least, where there is a byte
pub some_count : (len : ℕ) → 0 < len → 0 < count_of len
some_count len some = omega (arith, some)
