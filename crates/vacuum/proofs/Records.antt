-- What is left of a walk over archive records, key by key.
use Rattle.std.proofs.Common.{◌≡◌, Bool, ℕ, zero, suc, ◌<◌, ◌+◌, max, true, false, List, [], ◌∷◌, ◌++◌, length, Option, Some, None, drop, refl, ap, sym, subst}
use Rattle.std.proofs.Common.{◌∙◌, arith}
use Rattle.std.specs.Prelude.{find, option_map}
use Rattle.std.specs.Option.{is_some}
use Rattle.std.specs.List.{slice_get}
use Rattle.chains.specs.declared.bound.Bound.TheVariants.{From, After}
use Rattle.chains.specs.Bounds.{is_in}
use Rattle.chains.specs.KeyWrites.{KeyWrites, IsOrdered, AreRising}
use Rattle.vacuum.specs.declared.archive_walk.Place.{Place}
use Rattle.vacuum.specs.declared.archive_walk.Since.{Since}
use Rattle.vacuum.specs.Archives.{keys_within, since_of, key_left, key_records, records_of, records_left, records_at}
use Rattle.history.specs.Time.{IsRisingAfter}
use Rattle.law_image.specs.Reading.{ArchiveRecord}
use Rattle.archive.specs.declared.head.Head.{Head}
use Rattle.archive.specs.Answers.{head_of}
use Rattle.vacuum.proofs.Firsts.{key-of-first, first-later, records-behind}
use Rattle.vacuum.proofs.Keys.{keys-next, keys-from, keys-none, keys-all, found-rises}

-- ---- lists by their first element

pub get-front : {X : Type 0} (xs ys : List X) → 0 < length xs → slice_get (xs ++ ys) 0 ≡ slice_get xs 0
get-front [] ys some = absurd (omega arith)
get-front (x ∷ xs) ys some = refl

pub drop-front : {X : Type 0} (xs ys : List X) → 0 < length xs → drop 1 (xs ++ ys) ≡ drop 1 xs ++ ys
drop-front [] ys some = absurd (omega arith)
drop-front (x ∷ xs) ys some = refl

pub no-first : {X : Type 0} (xs : List X) → None ≡ slice_get xs 0 → xs ≡ []
no-first [] e = refl
no-first (x ∷ xs) e = absurd (cc)

pub some-first : {X : Type 0} (xs : List X) (x : X) → Some x ≡ slice_get xs 0 → 0 < length xs
some-first [] x e = absurd (cc)
some-first (y ∷ ys) x e = omega arith

-- a test of the first element, which is shown by f
pub tested-none : {T X : Type 0} (f : T → X) (o : Option T) (xs : List X) → is_some o ≡ false → option_map f o ≡ slice_get xs 0 → xs ≡ []
tested-none f None xs empty e = no-first xs e
tested-none f (Some x) xs empty e = absurd (cc)

pub tested-some : {T X : Type 0} (f : T → X) (o : Option T) (xs : List X) → is_some o ≡ true → option_map f o ≡ slice_get xs 0 → 0 < length xs
tested-some f None xs full e = absurd (cc)
tested-some f (Some x) xs full e = some-first xs (f x) e

-- ---- a walk

-- where none is passed all are left
pub left-all : (since : Since) (upto : ℕ) (m : List KeyWrites) → records_left 0 since upto m ≡ records_of since upto m
left-all since upto [] = refl
left-all since upto (c ∷ cs) =
    let low : ℕ = since_of since c.key.relation in
    let none : max 0 low ≡ low = omega arith in
    ap (λ (n : ℕ). key_records n upto c ++ records_of since upto cs) none

pub at-first : (since : Since) (upto : ℕ) (m : List KeyWrites)
    → records_at since upto (record { bound = From (record { relation = 0; «record» = 0 }); passed = 0 }) m ≡ records_of since upto m
at-first since upto m = ap (records_left 0 since upto) (keys-all m) ∙ left-all since upto m

module _ (since : Since) (upto : ℕ) (m : List KeyWrites) where
  pub at-none : (place : Place) → find (λ (c : KeyWrites). is_in place.bound c.key) m ≡ None → records_at since upto place m ≡ []
  at-none place e = ap (records_left place.passed since upto) (keys-none place.bound m e)

  module _ (place : Place) (c : KeyWrites) (ordered : IsOrdered m) (first : find (λ (c : KeyWrites). is_in place.bound c.key) m ≡ Some c) where
    pub at-key : records_at since upto place m ≡ key_left place.passed since upto c ++ records_of since upto (keys_within (After c.key) m)
    at-key = ap (records_left place.passed since upto) (keys-next place.bound m c ordered first)

    -- a key that has no record is passed
    pub past-key : key_left place.passed since upto c ≡ [] → records_at since upto (record { bound = After c.key; passed = 0 }) m
        ≡ records_at since upto place m
    past-key none =
        left-all since upto (keys_within (After c.key) m)
        ∙ sym (at-key ∙ ap (λ l. l ++ records_of since upto (keys_within (After c.key) m)) none)

    pub fewer-keys : length (keys_within (After c.key) m) < length (keys_within place.bound m)
    fewer-keys = omega (arith, ap length (keys-next place.bound m c ordered first))

    pub next-is : 0 < length (key_left place.passed since upto c) → slice_get (records_at since upto place m) 0
        ≡ slice_get (key_left place.passed since upto c) 0
    next-is some = ap (λ l. slice_get l 0) at-key ∙ get-front (key_left place.passed since upto c) _ some

    -- behind the key's first record
    behind-key : IsRisingAfter 0 c.writes → (r : ArchiveRecord) → Some r ≡ slice_get (key_left place.passed since upto c) 0
        → records_at since upto (record { bound = From r.key; passed = r.version.to }) m ≡ drop 1 (records_at since upto place m)
    behind-key rising r is =
        let low : ℕ = since_of since c.key.relation in
        let own : r.key ≡ c.key = key-of-first (max place.passed low) upto c r is in
        let within = keys-from place.bound m c ordered first in
        let keys : keys_within (From r.key) m ≡ c ∷ keys_within (After c.key) m = ap (λ k. keys_within (From k) m) own ∙ within in
        let later = first-later (max place.passed low) upto c rising r is in
        let same : max r.version.to low ≡ r.version.to = omega (arith, later) in
        ap (records_left r.version.to since upto) keys
        ∙ ap (λ (n : ℕ). key_records n upto c ++ records_of since upto (keys_within (After c.key) m)) same
        ∙ ap (λ l. l ++ records_of since upto (keys_within (After c.key) m)) (records-behind (max place.passed low) upto c rising r is)
        ∙ sym (ap (drop 1) at-key ∙ drop-front (key_left place.passed since upto c) _ (some-first _ r is))

  -- behind the next record
  pub behind-next : (fuel : ℕ) (place : Place) → IsOrdered m → AreRising m → length (keys_within place.bound m) < fuel → (r : ArchiveRecord) → Some r
      ≡ slice_get (records_at since upto place m) 0
      → records_at since upto (record { bound = From r.key; passed = r.version.to }) m ≡ drop 1 (records_at since upto place m)
  behind-next zero place ordered rising few r is = absurd (omega arith)
  behind-next (suc fuel) place ordered rising few r is =
      let p : KeyWrites → Bool = λ c. is_in place.bound c.key in
      let Ends : Type 0 = records_at since upto (record { bound = From r.key; passed = r.version.to }) m ≡ drop 1 (records_at since upto place m) in
      let Goal : Option KeyWrites → Type 0 = λ o. find p m ≡ o → Ends in
      let by : (c : KeyWrites) → find p m ≡ Some c → (rs : List ArchiveRecord) → key_left place.passed since upto c ≡ rs → Ends =
      λ c e rs. elim rs as (λ rs. key_left place.passed since upto c ≡ rs → Ends) [
        | [] ↦ λ none.
            let past = past-key place c ordered e none in
            let less = fewer-keys place c ordered e in
            behind-next fuel (record { bound = After c.key; passed = 0 }) ordered rising (omega arith) r (is ∙ ap (λ l. slice_get l 0) (sym past))
            ∙ ap (drop 1) past
        | x ∷ xs ↦ λ some.
            let long : 0 < length (key_left place.passed since upto c) = omega (arith, ap length some) in
            behind-key place c ordered e (found-rises p m c rising e) r (is ∙ next-is place c ordered e long)
      ] in
      let all : (o : Option KeyWrites) → Goal o = λ o. elim o as Goal [
        | None ↦ λ e. absurd (let none : Some r ≡ None = is ∙ ap (λ l. slice_get l 0) (at-none place e) in cc)
        | Some c ↦ λ e. by c e (key_left place.passed since upto c) refl
      ] in
      all (find p m) refl

-- the same, told of the head of the next record
next-of-head : (rs : List ArchiveRecord) (head : Head) → option_map head_of (slice_get rs 0) ≡ Some head → (r : ArchiveRecord) × (Some r ≡ slice_get rs 0)
    × (head_of r ≡ head)
next-of-head [] head is = absurd (cc)
next-of-head (r ∷ rs) head is = let same : head_of r ≡ head = cc in (r, refl, same)

pub behind-head : (since : Since) (upto : ℕ) (place : Place) (m : List KeyWrites) (head : Head) → IsOrdered m → AreRising m
    → option_map head_of (slice_get (records_at since upto place m) 0) ≡ Some head
    → records_at since upto (record { bound = From head.key; passed = head.to }) m ≡ drop 1 (records_at since upto place m)
behind-head since upto place m head ordered rising is =
    let next = next-of-head (records_at since upto place m) head is in
    subst (λ (h : Head). records_at since upto (record { bound = From h.key; passed = h.to }) m ≡ drop 1 (records_at since upto place m)) next.2
    (behind-next since upto m (length (keys_within place.bound m) + 1) place ordered rising (omega arith) next.0 next.1)
