-- The chain of anchors that a reclaim makes: as it begins, and while its extents are filled one after the other.
use Rattle.std.proofs.Common.{◌≡◌, ◌≢◌, ℕ, zero, suc, ◌+◌, ◌<◌, ◌≤◌, ◌^◌, nat_le, true, false, List, [], ◌∷◌, ◌++◌, length, map, take, drop, slice_get, None}
use Rattle.std.proofs.Common.{Some, refl, arith, ap, sym, subst, ◌∙◌, ⊎_elim, inl, inr}
use Rattle.std.specs.List.{AllByRecursion}
use Rattle.std.proofs.lemmas.Bool.{cases_lt, cases_eq}
use Rattle.std.proofs.lemmas.Bool.Decides.{nat_tests}
use Rattle.wire.specs.Spelling.{AreAnchors}
use Rattle.law_image.specs.Reading.{OldRecord}
use Rattle.deltas.specs.declared.«record».Record.{Record}
use Rattle.deltas.specs.declared.filled_extent.FilledExtent.{FilledExtent}
use Rattle.deltas.specs.Records.{spelling, old_record_of}
use Rattle.deltas.specs.Records as heap
use Rattle.deltas.specs.Packing.{bodies_from, bodies}
use Rattle.deltas.specs.Extents.{Extent, extent_bytes, AreLinked, first_of, IsChain}
use Rattle.deltas.specs.Chains.{IsNumber, first_number, chain_of}
use Rattle.deltas.specs.Filling.{IsFilled}
use Rattle.deltas.proofs.Holding.{chain-bodies, chain-numbers, chain_packed}
use Rattle.disk.specs.Areas.{AreaState}
use Rattle.law_layout.specs.Records.{old_bytes, IsOldRecord}
use Rattle.law_layout.specs.Layouts.{IsAnchorChain}
use Rattle.vacuum.specs.Anchors.{anchors_of, olds_of, Sourced}
use Rattle.store.specs.Values.{StoreValue}
use Rattle.store.specs.Reclaims.{anchor_bodies, anchors_named}
use Rattle.law_refinement.specs.OnDisk.{StoredAnchors, IsFilling}
use Rattle.law_refinement.proofs.Packed.{length-mapped}
use Rattle.law_refinement.proofs.Naming.{bodies-few}

-- ---- extents filled one after the other

abbrev numbers_in : List Extent → List ℕ
numbers_in es = map (λ (e : Extent). e.number) es

abbrev bodies_in : List Extent → List (List ℕ)
bodies_in es = map (λ (e : Extent). e.body) es

first-dropped : (n : ℕ) (es : List Extent) → first_number (drop n (numbers_in es)) ≡ first_of (drop n es)
first-dropped zero [] = refl
first-dropped zero (e ∷ es) = refl
first-dropped (suc n) [] = refl
first-dropped (suc n) (e ∷ es) = first-dropped n es

-- an extent at its place in a chain
record StandsAt (es : List Extent) (place behind number : ℕ) : Type 0 where
  pub extent : Extent
  pub there : slice_get es place ≡ Some extent
  pub number_is : extent.number ≡ number
  pub next_is : extent.next ≡ first_number (drop behind (numbers_in es))
  pub rest : drop place es ≡ extent ∷ drop behind es
  pub front : take behind es ≡ take place es ++ extent ∷ []

stands-at : (es : List Extent) (place number : ℕ) → AreLinked es → slice_get (numbers_in es) place ≡ Some number → StandsAt es place (suc place) number
stands-at [] place number linked is = absurd cc
stands-at (e ∷ es) zero number linked is =
    let same : e.number ≡ number = cc in
    record { extent = e; there = refl; number_is = same; next_is = linked.0 ∙ sym (first-dropped zero es); rest = refl; front = refl }
stands-at (e ∷ es) (suc place) number linked is =
    let at = stands-at es place number linked.1 is in
    record {
      extent = at.extent;
      there = at.there;
      number_is = at.number_is;
      next_is = at.next_is;
      rest = at.rest;
      front = ap (λ (l : List Extent). e ∷ l) at.front;
    }

-- what the next extent of a chain is, once it is filled
pub record FilledNext (es : List Extent) (written number : ℕ) (image : List ℕ) (left : List Record) : Type 0 where
  pub extent : Extent
  pub there : slice_get es written ≡ Some extent
  pub number_is : extent.number ≡ number
  pub image_is : image ≡ extent_bytes extent
  pub rest : drop written es ≡ extent ∷ drop (written + 1) es
  pub front : take (written + 1) es ≡ take written es ++ extent ∷ []
  -- the records that are left are those of the others
  pub others : map (λ (e : Extent). e.body) (drop (written + 1) es) ≡ bodies (map spelling left)

-- the extent that is filled is the chain's next one
fill-at : (es : List Extent) (before after : List Record) (written behind number : ℕ) (image : List ℕ) (filled : FilledExtent) → behind ≡ written + 1
    → StandsAt es written behind number
    → bodies_in (drop written es) ≡ bodies (map spelling before) → IsFilled number (first_number (drop behind (numbers_in es))) before image filled after
    → FilledNext es written number image after
fill-at es before after written behind number image filled next at so_far is =
    let whole : at.extent.body ∷ bodies_in (drop behind es) ≡ bodies (map spelling before) = sym (ap (λ (l : List Extent). bodies_in l) at.rest) ∙ so_far in
    let some : before ≢ [] = λ none. let empty : at.extent.body ∷ bodies_in (drop behind es) ≡ [] =
    whole ∙ ap (λ (rs : List Record). bodies (map spelling rs)) none in cc in
    let both : at.extent.body ∷ bodies_in (drop behind es) ≡ is.body ∷ bodies (map spelling after) = whole ∙ is.first.packed some in
    let body : at.extent.body ≡ is.body = cc in
    let others : bodies_in (drop behind es) ≡ bodies (map spelling after) = cc in
    let number_is = at.number_is in
    let next_is = at.next_is in
    record {
      extent = at.extent;
      there = at.there;
      number_is = at.number_is;
      image_is = is.image_is ∙ sym (λ i. extent_bytes (record { number = number_is i; next = next_is i; body = body i }));
      rest = subst (λ (n : ℕ). drop written es ≡ at.extent ∷ drop n es) next at.rest;
      front = subst (λ (n : ℕ). take n es ≡ take written es ++ at.extent ∷ []) next at.front;
      others = subst (λ (n : ℕ). bodies_in (drop n es) ≡ bodies (map spelling after)) next others;
    }

pub fill-is : (a : StoredAnchors) (reserved : List ℕ) (source : Sourced) (written number : ℕ) (heap : AreaState) (image : List ℕ) (filled : FilledExtent)
    (left : List Record) → IsAnchorChain a.entry a.extents a.olds
    → map (λ (e : Extent). e.number) a.extents ≡ reserved → IsFilling a source written heap → slice_get reserved written ≡ Some number
    → IsFilled number (first_number (drop (written + 1) reserved)) source.left image filled left
    → FilledNext a.extents written number image left
fill-is a reserved source written number heap image filled left chain named filling found is =
    let next : suc written ≡ written + 1 = omega arith in
    let at = stands-at a.extents written number chain.is_chain.linked (subst (λ (ns : List ℕ). slice_get ns written ≡ Some number) (sym named) found) in
    let filled-here : IsFilled number (first_number (drop (suc written) (numbers_in a.extents))) source.left image filled left =
    subst (λ (n : ℕ). IsFilled number (first_number (drop n (numbers_in a.extents))) source.left image filled left) (sym next)
    (subst (λ (ns : List ℕ). IsFilled number (first_number (drop (written + 1) ns)) source.left image filled left) (sym named) is) in
    fill-at a.extents source.left left written (suc written) number image filled next at filling.rest filled-here

-- where none is left all are written
none-left : (es : List Extent) (written : ℕ) → slice_get (numbers_in es) written ≡ None → take written es ≡ es
none-left [] zero is = refl
none-left [] (suc written) is = refl
none-left (e ∷ es) zero is = absurd cc
none-left (e ∷ es) (suc written) is = ap (λ (l : List Extent). e ∷ l) (none-left es written is)

pub all-filled : (a : StoredAnchors) (reserved : List ℕ) (written : ℕ) → map (λ (e : Extent). e.number) a.extents ≡ reserved → slice_get reserved written ≡ None
    → take written a.extents ≡ a.extents
all-filled a reserved written named none = none-left a.extents written (subst (λ (ns : List ℕ). slice_get ns written ≡ None) (sym named) none)

-- ---- the chain of a reclaim that begins

old-record : (r : OldRecord) → IsOldRecord r → heap.IsRecord (old_record_of r)
old-record r is = let low = is.from in record { key = is.key; content = (omega (arith, low), is.value) }

old-records : (rs : List OldRecord) → AllByRecursion IsOldRecord rs → AllByRecursion heap.IsRecord (map old_record_of rs)
old-records [] each = tt
old-records (r ∷ rs) each = (old-record r each.0, old-records rs each.1)

old-bytes : (rs : List OldRecord) → map spelling (map old_record_of rs) ≡ map old_bytes rs
unfolding old_bytes
old-bytes [] = refl
old-bytes (r ∷ rs) = ap (λ (l : List (List ℕ)). spelling (old_record_of r) ∷ l) (old-bytes rs)

-- the anchors in the extents of these numbers, as the slot is to name them
abbrev pub begun : StoreValue → List ℕ → StoredAnchors
begun v numbers = record { entry = anchors_named v numbers; olds = anchors_of v.archived v.transactions.versions; extents = chain_of numbers (anchor_bodies v) }

first-in-range : (ns : List ℕ) → 0 < length ns → AllByRecursion IsNumber ns → IsNumber (first_number ns)
first-in-range [] some all = absurd (omega (arith, some))
first-in-range (n ∷ ns) some all = all.0

no-records : (rs : List Record) → length (bodies (map spelling rs)) ≡ 0 → length rs ≡ 0
no-records [] none = refl
no-records (r ∷ rs) none = absurd (omega (arith, none, some (spelling r) (map spelling rs)))
  where
    some : (body : List ℕ) (pieces : List (List ℕ)) → 0 < length (bodies_from body pieces)
    some body [] = omega arith
    some body (p ∷ ps) = ⊎_elim
        (λ (over : 8176 < length body + length p). let no : nat_le (length body + length p) 8176 ≡ false = grind (arith, nat_tests) in rw no (omega arith))
        (λ (room : length body + length p ≤ 8176). let yes : nat_le (length body + length p) 8176 ≡ true =
        grind (arith, nat_tests) in rw yes (some (body ++ p) ps))
        (cases_lt 8176 (length body + length p))

no-number : (ns : List ℕ) → length ns ≡ 0 → first_number ns ≡ 0
no-number [] none = refl
no-number (n ∷ ns) none = absurd (omega (arith, none))

module _ (v : StoreValue) (numbers : List ℕ) (numbered : AllByRecursion IsNumber numbers) (many : length numbers ≡ length (anchor_bodies v)) where
  pub begun-named : map (λ (e : Extent). e.number) (begun v numbers).extents ≡ numbers
  begun-named = chain-numbers numbers (anchor_bodies v) (sym many)

  -- nothing of it is written yet
  pub begun-filling : (heap : AreaState)
      → IsFilling (begun v numbers) (record { all = olds_of v.archived v.transactions.versions; left = olds_of v.archived v.transactions.versions }) 0 heap
  begun-filling heap = record { rest = chain-bodies numbers (anchor_bodies v) (sym many); held = tt }

  pub begun-chain : AllByRecursion IsOldRecord (anchors_of v.archived v.transactions.versions)
      → IsAnchorChain (begun v numbers).entry (begun v numbers).extents (begun v numbers).olds
  begun-chain each =
      let rs : List OldRecord = anchors_of v.archived v.transactions.versions in
      let packed = chain_packed numbers (map old_record_of rs) numbered many (old-records rs each) in record {
        is_chain =
            subst (λ (l : List (List ℕ)). IsChain (first_number numbers) (length numbers) (length (map old_record_of rs)) (chain_of numbers (anchor_bodies v))
            l) (old-bytes rs) packed;
        each = each;
      }

  -- its numbers are in range
  pub begun-range : 0 < v.archived → v.archived < 2 ^ 63 → length numbers ≤ 65536 → length (olds_of v.archived v.transactions.versions) < 2 ^ 32
      → AreAnchors (begun v numbers).entry
  begun-range low high room few = (
    low,
    high,
    elim (cases_eq (length numbers) 0) [
      | inl none ↦ inl (record {
        first = no-number numbers none;
        extents = none;
        records = no-records (olds_of v.archived v.transactions.versions) (omega (arith, many, none));
      })
      | inr some ↦
          let first = first-in-range numbers (omega (arith, some)) numbered in
          let least = first.0 in
          let less = bodies-few (map spelling (olds_of v.archived v.transactions.versions)) in
          let mapped = length-mapped spelling (olds_of v.archived v.transactions.versions) in
          inr (record {
            first_low = omega (arith, least);
            first_high = first.1;
            extents_low = omega (arith, some);
            extents_high = room;
            records_low = omega (arith, many, less, mapped);
            records_high = few;
          })
    ],
  )
