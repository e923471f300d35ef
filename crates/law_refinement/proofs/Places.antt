-- Which of the group's extents is written next.
use Rattle.std.proofs.Common.{◌≡◌, ℕ, zero, suc, ◌+◌, ◌<◌, ◌≤◌, nat_lt, true, false, List, [], ◌∷◌, ◌++◌, length, take, drop, map, Option, None, Some}
use Rattle.std.proofs.Common.{slice_get, refl, arith, ap, sym, subst, ◌∙◌, inl, inr, length-append}
use Rattle.std.specs.List.{flat_map}
use Rattle.std.proofs.lemmas.Bool.{cases_lt}
use Rattle.std.proofs.lemmas.Bool.Decides.{nat_tests}
use Rattle.std.proofs.lemmas.List.Concat.{flat_map-cons}
use Rattle.history.specs.Histories.{History}
use Rattle.law_image.specs.Values.{Value}
use Rattle.deltas.specs.Extents.{Extent, extent_bytes}
use Rattle.law_layout.specs.Layouts.{StoredMember, extents_of}
use Rattle.group.specs.Queued.{QueuedValue, numbers_of, stored_as}
use Rattle.deltas.specs.Chains.{chain_of, first_number}
use Rattle.group.specs.declared.queued.StoredExtent.{StoredExtent}
use Rattle.group.specs.Steps.{extent_at, place_behind}
use Rattle.group.specs.declared.stage.GroupStage.{GroupStage}
use Rattle.group.specs.declared.stage.GroupStage.TheVariants.{Storing}
use Rattle.law_refinement.specs.OnDisk.{packed, AllPacked, member_of, members_of, written_before}
use Rattle.law_refinement.proofs.Packed.{length-numbers}

-- the next of these is the extent that is stored
pub record IsNext (es : List Extent) (stored : StoredExtent) : Type 0 where
  pub extent : Extent
  pub rest : List Extent
  pub is : es ≡ extent ∷ rest
  pub number : extent.number ≡ stored.extent
  pub bytes : extent_bytes extent ≡ stored.image

in-chain : (k : ℕ) (ns : List ℕ) (bs : List (List ℕ)) (more : List Extent) (stored : StoredExtent)
    → slice_get (stored_as ns (map extent_bytes (chain_of ns bs))) k ≡ Some stored → IsNext (drop k (chain_of ns bs ++ more)) stored
in-chain k [] bs more stored there = absurd cc
in-chain k (n ∷ ns) [] more stored there = absurd cc
in-chain zero (n ∷ ns) (b ∷ bs) more stored there =
    let e : Extent = record { number = n; next = first_number ns; body = b } in
    let same : Path StoredExtent (record { extent = n; image = extent_bytes e }) stored = cc in
    record {
      extent = e;
      rest = chain_of ns bs ++ more;
      is = refl;
      number = ap (λ (s : StoredExtent). s.extent) same;
      bytes = ap (λ (s : StoredExtent). s.image) same;
    }
in-chain (suc k) (n ∷ ns) (b ∷ bs) more stored there = in-chain k ns bs more stored there

chain-length : (ns : List ℕ) (bs : List (List ℕ)) → length ns ≡ length bs → length (chain_of ns bs) ≡ length ns
chain-length [] bs len = refl
chain-length (n ∷ ns) [] len = absurd (omega (arith, len))
chain-length (n ∷ ns) (b ∷ bs) len = ap suc (chain-length ns bs (omega (arith, len)))

drop-past : {X : Type 0} (k : ℕ) (xs ys : List X) (n : ℕ) → n ≡ length xs + k → drop n (xs ++ ys) ≡ drop k ys
drop-past k [] ys n is = let same : n ≡ k = omega (arith, is) in ap (λ (j : ℕ). drop j ys) same
drop-past k (x ∷ xs) ys zero is = absurd (omega (arith, is))
drop-past k (x ∷ xs) ys (suc n) is = drop-past k xs ys n (omega (arith, is))

pub next-is : (size : ℕ) (h : History Value) (qs : List QueuedValue) (cs : History Value) (member extent : ℕ) (stored : StoredExtent) → AllPacked h qs cs
    → member < size → extent_at (slice_get qs member) extent ≡ Some stored
    → IsNext (drop (written_before qs member extent) (extents_of (members_of h (take size qs) (take size cs)))) stored
next-is zero h qs cs member extent stored all low there = absurd (omega (arith, low))
next-is (suc size) h [] [] member extent stored all low there = absurd cc
next-is (suc size) h [] (c ∷ cs) member extent stored all low there = absurd all
next-is (suc size) h (q ∷ qs) [] member extent stored all low there = absurd all
next-is (suc size) h (q ∷ qs) (c ∷ cs) zero extent stored all low there =
    let ns = numbers_of q in
    let bs = packed h c in
    let rest = members_of (h ++ c ∷ []) (take size qs) (take size cs) in
    let at : slice_get (stored_as ns (map extent_bytes (chain_of ns bs))) extent ≡ Some stored =
    subst (λ (l : List StoredExtent). slice_get l extent ≡ Some stored) (all.0).stored there in
    let first : written_before (q ∷ qs) 0 extent ≡ extent = omega arith in
    subst (λ (j : ℕ). IsNext (drop j (extents_of (members_of h (take (suc size) (q ∷ qs)) (take (suc size) (c ∷ cs))))) stored) (sym first)
    (subst (λ (es : List Extent). IsNext (drop extent es) stored) (sym (flat_map-cons (λ (s : StoredMember). s.extents) (member_of h q c) rest))
    (in-chain extent ns bs (extents_of rest) stored at))
next-is (suc size) h (q ∷ qs) (c ∷ cs) (suc member) extent stored all low there =
    let ns = numbers_of q in
    let bs = packed h c in
    let rest = members_of (h ++ c ∷ []) (take size qs) (take size cs) in
    let whole : length (flat_map numbers_of (q ∷ take member qs)) ≡ length ns + length (flat_map numbers_of (take member qs)) =
    ap (λ (l : List ℕ). length l) (flat_map-cons numbers_of q (take member qs)) ∙ simp length-append (omega arith) in
    let long : length (chain_of ns bs) ≡ length ns = chain-length ns bs (length-numbers q ∙ (all.0).many) in
    let past : drop (written_before (q ∷ qs) (suc member) extent) (chain_of ns bs ++ extents_of rest)
    ≡ drop (written_before qs member extent) (extents_of rest) =
    drop-past (written_before qs member extent) (chain_of ns bs) (extents_of rest) (written_before (q ∷ qs) (suc member) extent) (omega (arith, whole, long)) in
    subst (λ (es : List Extent). IsNext es stored)
    (sym (ap (drop (written_before (q ∷ qs) (suc member) extent)) (flat_map-cons (λ (s : StoredMember). s.extents) (member_of h q c) rest) ∙ past))
    (next-is size (h ++ c ∷ []) qs cs member extent stored all.1 (omega (arith, low)) there)

-- ---- the place behind

one-more : (qs : List QueuedValue) (member : ℕ) (q : QueuedValue) → slice_get qs member ≡ Some q → length (flat_map numbers_of (take (suc member) qs))
    ≡ length (flat_map numbers_of (take member qs)) + length q.stored
one-more [] member q there = absurd cc
one-more (p ∷ ps) zero q there =
    let same : p ≡ q = cc in
    ap (λ (l : List ℕ). length l) (flat_map-cons numbers_of p [])
    ∙ simp length-append (let len = length-numbers p in let is = ap (λ (x : QueuedValue). length x.stored) same in omega (arith, len, is))
one-more (p ∷ ps) (suc member) q there =
    let rest = one-more ps member q there in
    let a : length (flat_map numbers_of (p ∷ take (suc member) ps)) ≡ length (numbers_of p) + length (flat_map numbers_of (take (suc member) ps)) =
    ap (λ (l : List ℕ). length l) (flat_map-cons numbers_of p (take (suc member) ps)) ∙ simp length-append (omega arith) in
    let b : length (flat_map numbers_of (p ∷ take member ps)) ≡ length (numbers_of p) + length (flat_map numbers_of (take member ps)) =
    ap (λ (l : List ℕ). length l) (flat_map-cons numbers_of p (take member ps)) ∙ simp length-append (omega arith) in
    omega (arith, rest, a, b)

in-list : {X : Type 0} (xs : List X) (n : ℕ) (x : X) → slice_get xs n ≡ Some x → n < length xs
in-list [] n x there = absurd cc
in-list (y ∷ ys) zero x there = omega arith
in-list (y ∷ ys) (suc n) x there = let rest = in-list ys n x there in omega (arith, rest)

-- how many extents are written once this place is passed
pub record IsBehind (qs : List QueuedValue) (stage : GroupStage) (written : ℕ) : Type 0 where
  pub member : ℕ
  pub extent : ℕ
  pub is : stage ≡ Storing member extent
  pub written_is : written_before qs member extent ≡ written

pub behind-is : (qs : List QueuedValue) (member extent : ℕ) (stored : StoredExtent) (o : Option QueuedValue) → slice_get qs member ≡ o → extent_at o extent
    ≡ Some stored → IsBehind qs (place_behind o member extent) (suc (written_before qs member extent))
behind-is qs member extent stored None at there = absurd cc
behind-is qs member extent stored (Some q) at there = elim (cases_lt (extent + 1) (length q.stored)) [
  | inl more ↦
      let test : nat_lt (extent + 1) (length q.stored) ≡ true = grind (arith, nat_tests) in
      rw test (record { member = member; extent = extent + 1; is = refl; written_is = omega arith })
  | inr last ↦
      let test : nat_lt (extent + 1) (length q.stored) ≡ false = grind (arith, nat_tests) in
      let low = in-list q.stored extent stored there in
      let same : suc member ≡ member + 1 = omega arith in
      let next =
      subst (λ (n : ℕ). length (flat_map numbers_of (take n qs))
      ≡ length (flat_map numbers_of (take member qs)) + length q.stored) same (one-more qs member q at) in
      rw test (record { member = member + 1; extent = 0; is = refl; written_is = omega (arith, next, low, last) })
]

-- ---- parts of a list

pub take-next : {X : Type 0} (k : ℕ) (xs : List X) (x : X) (rest : List X) → drop k xs ≡ x ∷ rest → take (suc k) xs ≡ take k xs ++ x ∷ []
take-next zero [] x rest is = absurd cc
take-next zero (y ∷ ys) x rest is = let same : y ≡ x = cc in ap (λ z. z ∷ []) same
take-next (suc k) [] x rest is = absurd cc
take-next (suc k) (y ∷ ys) x rest is = ap (λ zs. y ∷ zs) (take-next k ys x rest is)

pub drop-next : {X : Type 0} (k : ℕ) (xs : List X) (x : X) (rest : List X) → drop k xs ≡ x ∷ rest → drop (suc k) xs ≡ rest
drop-next zero [] x rest is = absurd cc
drop-next zero (y ∷ ys) x rest is = cc
drop-next (suc k) [] x rest is = absurd cc
drop-next (suc k) (y ∷ ys) x rest is = drop-next k ys x rest is

pub none-left : {X : Type 0} (k : ℕ) (xs : List X) → length xs ≤ k → drop k xs ≡ []
none-left zero [] low = refl
none-left zero (x ∷ xs) low = absurd (omega (arith, low))
none-left (suc k) [] low = refl
none-left (suc k) (x ∷ xs) low = none-left k xs (omega (arith, low))
