-- The first of one key's versions that ends after a time, and those behind it.
use Rattle.std.proofs.Common.{◌≡◌, ℕ, ◌<◌, ◌≤◌, nat_le, nat_lt, Bool, true, false, cond, List, [], ◌∷◌, Option, Some, None, map, drop, refl, ap, sym, subst}
use Rattle.std.proofs.Common.{◌∙◌, arith}
use Rattle.std.specs.Prelude.{find, filter}
use Rattle.std.specs.List.{slice_get}
use Rattle.std.proofs.lemmas.Bool.Decides.{nat_tests}
use Rattle.history.specs.declared.key.Key.{Key}
use Rattle.history.specs.declared.time.Version.{Version}
use Rattle.history.specs.Time.{IsRisingAfter}
use Rattle.history.specs.Versions.{first_time, versions, ends_after, ends_by, FollowOneAnotherFrom}
use Rattle.history.proofs.Orders.{is_lt, not_lt, is_le}
use Rattle.history.proofs.Values.{versions-apart}
use Rattle.chains.specs.Writes.{Value}
use Rattle.chains.specs.KeyWrites.{KeyWrites}
use Rattle.chains.proofs.Walks.{find-none-filter}
use Rattle.law_image.specs.PlansMade.{archive_record}
use Rattle.law_image.specs.Reading.{ArchiveRecord}
use Rattle.vacuum.specs.Archives.{key_records}

not-by : {a b : ℕ} → b < a → nat_le a b ≡ false
not-by {a} {b} h = grind (arith, nat_tests)

was-lt : {a b : ℕ} → nat_lt a b ≡ true → a < b
was-lt {a} {b} h = grind (arith, nat_tests)

was-ge : {a b : ℕ} → nat_lt a b ≡ false → b ≤ a
was-ge {a} {b} h = grind (arith, nat_tests)

pub was-le : {a b : ℕ} → nat_le a b ≡ true → a ≤ b
was-le {a} {b} h = grind (arith, nat_tests)

pub was-gt : {a b : ℕ} → nat_le a b ≡ false → b < a
was-gt {a} {b} h = grind (arith, nat_tests)

pub found-after : (t : ℕ) (vs : List (Version Value)) (v : Version Value) → find (ends_after t) vs ≡ Some v → t < v.to
found-after t [] v e = absurd (cc)
found-after t (u ∷ us) v e =
    let Goal : Bool → Type 0 = λ b. ends_after t u ≡ b → cond b (Some u) (find (ends_after t) us) ≡ Some v → t < v.to in
    let all : (b : Bool) → Goal b = λ b. elim b as Goal [
      | true ↦ λ after h. let same : u ≡ v = cc in subst (λ (x : Version Value). t < x.to) same (was-lt after)
      | false ↦ λ after h. found-after t us v h
    ] in
    all (ends_after t u) refl e

-- versions that begin late enough all end after the time
all-after : (t s : ℕ) (vs : List (Version Value)) → t ≤ s → FollowOneAnotherFrom s vs → filter (ends_after t) vs ≡ vs
all-after t s [] late apart = refl
all-after t s (v ∷ vs) late apart =
    let after : nat_lt t v.to ≡ true = is_lt (omega (arith, apart.0, apart.1)) in
    rw after (ap (λ l. v ∷ l) (all-after t v.to vs (omega (arith, apart.0, apart.1)) apart.2))

-- none of those that end after a time ends by one that is not later
none-by : (t upto : ℕ) (vs : List (Version Value)) → upto ≤ t → filter (ends_by upto) (filter (ends_after t) vs) ≡ []
none-by t upto [] early = refl
none-by t upto (v ∷ vs) early =
    let rest = none-by t upto vs early in
    let Goal : Bool → Type 0 = λ b. ends_after t v ≡ b → filter (ends_by upto) (cond b (v ∷ filter (ends_after t) vs) (filter (ends_after t) vs)) ≡ [] in
    let all : (b : Bool) → Goal b = λ b. elim b as Goal [
      | true ↦ λ after. let late : nat_le v.to upto ≡ false = not-by (let later : t < v.to = was-lt after in omega arith) in rw late rest
      | false ↦ λ after. rest
    ] in
    all (ends_after t v) refl

-- behind the first that ends after a time stand those that end after it
first-split : (t s : ℕ) (vs : List (Version Value)) (v : Version Value) → FollowOneAnotherFrom s vs → find (ends_after t) vs ≡ Some v
    → filter (ends_after t) vs ≡ v ∷ filter (ends_after v.to) vs
first-split t s [] v apart e = absurd (cc)
first-split t s (u ∷ us) v apart e =
    let Goal : Bool → Type 0 = λ b. ends_after t u ≡ b → cond b (Some u) (find (ends_after t) us) ≡ Some v
    → cond b (u ∷ filter (ends_after t) us) (filter (ends_after t) us) ≡ v ∷ filter (ends_after v.to) (u ∷ us) in
    let all : (b : Bool) → Goal b = λ b. elim b as Goal [
      | true ↦ λ after h.
          let same : u ≡ v = cc in
          let here : nat_lt u.to u.to ≡ false = not_lt (omega arith) in
          let later : t < u.to = was-lt after in
          let left : filter (ends_after t) us ≡ us = all-after t u.to us (omega arith) apart.2 in
          let right : filter (ends_after u.to) (u ∷ us) ≡ us = rw here (all-after u.to u.to us (omega arith) apart.2) in
          subst (λ (x : Version Value). u ∷ filter (ends_after t) us ≡ x ∷ filter (ends_after x.to) (u ∷ us)) same (ap (λ l. u ∷ l) (left ∙ sym right))
      | false ↦ λ after h.
          let early : u.to ≤ t = was-ge after in
          let late : t < v.to = found-after t us v h in
          let passed : nat_lt v.to u.to ≡ false = not_lt (omega arith) in
          rw passed (first-split t u.to us v apart.2 h)
    ] in
    all (ends_after t u) refl e

module _ (t upto : ℕ) (c : KeyWrites) (rising : IsRisingAfter 0 c.writes) where
  apart : FollowOneAnotherFrom (first_time c.writes) (versions c.writes)
  apart = versions-apart 0 c.writes rising

  pub records-none : find (ends_after t) (versions c.writes) ≡ None → key_records t upto c ≡ []
  records-none e = ap (λ vs. map (archive_record c.key) (filter (ends_by upto) vs)) (find-none-filter (ends_after t) (versions c.writes) e)

  pub records-late : (v : Version Value) → find (ends_after t) (versions c.writes) ≡ Some v → upto < v.to → key_records t upto c ≡ []
  records-late v e late =
      let out : nat_le v.to upto ≡ false = not-by late in
      ap (λ vs. map (archive_record c.key) (filter (ends_by upto) vs)) (first-split t (first_time c.writes) (versions c.writes) v apart e)
      ∙ rw (out, none-by v.to upto (versions c.writes) (omega arith)) refl

  pub records-next : (v : Version Value) → find (ends_after t) (versions c.writes) ≡ Some v → v.to ≤ upto → key_records t upto c ≡ archive_record c.key v
      ∷ key_records v.to upto c
  records-next v e by =
      let inside : nat_le v.to upto ≡ true = is_le by in
      ap (λ vs. map (archive_record c.key) (filter (ends_by upto) vs)) (first-split t (first_time c.writes) (versions c.writes) v apart e)
      ∙ rw inside refl

  -- behind the first record stand those of the versions that end after its own
  pub records-behind : (r : ArchiveRecord) → Some r ≡ slice_get (key_records t upto c) 0 → key_records r.version.to upto c ≡ drop 1 (key_records t upto c)
  records-behind r first =
      let Behind : Type 0 = key_records r.version.to upto c ≡ drop 1 (key_records t upto c) in
      let Ends : Bool → Version Value → Type 0 = λ b v. nat_le v.to upto ≡ b → Behind in
      let Goal : Option (Version Value) → Type 0 = λ o. find (ends_after t) (versions c.writes) ≡ o → Behind in
      let by : (v : Version Value) → find (ends_after t) (versions c.writes) ≡ Some v → (b : Bool) → Ends b v = λ v e b. elim b as (λ b. Ends b v) [
        | true ↦ λ h.
            let next = records-next v e (was-le h) in
            let same : Some r ≡ Some (archive_record c.key v) = first ∙ ap (λ (rs : List ArchiveRecord). slice_get rs 0) next in
            let one : r ≡ archive_record c.key v = cc in
            ap (λ (x : ArchiveRecord). key_records x.version.to upto c) one ∙ sym (ap (λ (rs : List ArchiveRecord). drop 1 rs) next)
        | false ↦ λ h. absurd (let none : Some r ≡ None = first ∙ ap (λ (rs : List ArchiveRecord). slice_get rs 0) (records-late v e (was-gt h)) in cc)
      ] in
      let all : (o : Option (Version Value)) → Goal o = λ o. elim o as Goal [
        | None ↦ λ e. absurd (let none : Some r ≡ None = first ∙ ap (λ (rs : List ArchiveRecord). slice_get rs 0) (records-none e) in cc)
        | Some v ↦ λ e. by v e (nat_le v.to upto) refl
      ] in
      all (find (ends_after t) (versions c.writes)) refl

  -- its version ended after the time
  pub first-later : (r : ArchiveRecord) → Some r ≡ slice_get (key_records t upto c) 0 → t < r.version.to
  first-later r first =
      let Later : Type 0 = t < r.version.to in
      let Ends : Bool → Version Value → Type 0 = λ b v. nat_le v.to upto ≡ b → Later in
      let Goal : Option (Version Value) → Type 0 = λ o. find (ends_after t) (versions c.writes) ≡ o → Later in
      let by : (v : Version Value) → find (ends_after t) (versions c.writes) ≡ Some v → (b : Bool) → Ends b v = λ v e b. elim b as (λ b. Ends b v) [
        | true ↦ λ h.
            let same : Some r ≡ Some (archive_record c.key v) = first ∙ ap (λ (rs : List ArchiveRecord). slice_get rs 0) (records-next v e (was-le h)) in
            let one : r ≡ archive_record c.key v = cc in
            subst (λ (x : ArchiveRecord). t < x.version.to) (sym one) (found-after t (versions c.writes) v e)
        | false ↦ λ h. absurd (let none : Some r ≡ None = first ∙ ap (λ (rs : List ArchiveRecord). slice_get rs 0) (records-late v e (was-gt h)) in cc)
      ] in
      let all : (o : Option (Version Value)) → Goal o = λ o. elim o as Goal [
        | None ↦ λ e. absurd (let none : Some r ≡ None = first ∙ ap (λ (rs : List ArchiveRecord). slice_get rs 0) (records-none e) in cc)
        | Some v ↦ λ e. by v e (nat_le v.to upto) refl
      ] in
      all (find (ends_after t) (versions c.writes)) refl

-- each record of a key has that key
map-first : (key : Key) (vs : List (Version Value)) (r : ArchiveRecord) → Some r ≡ slice_get (map (archive_record key) vs) 0 → r.key ≡ key
map-first key [] r is = absurd (cc)
map-first key (v ∷ vs) r is = let same : r ≡ archive_record key v = cc in ap (λ (x : ArchiveRecord). x.key) same

pub key-of-first : (t upto : ℕ) (c : KeyWrites) (r : ArchiveRecord) → Some r ≡ slice_get (key_records t upto c) 0 → r.key ≡ c.key
key-of-first t upto c r is = map-first c.key (filter (ends_by upto) (filter (ends_after t) (versions c.writes))) r is
