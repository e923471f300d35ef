-- The version of a key that stands at a time is the first that ends after it, or there is none.
use Rattle.std.proofs.Common.{◌≡◌, ℕ, ◌<◌, ◌≤◌, Bool, true, false, cond, List, [], ◌∷◌, Option, Some, None, map, refl, ap, sym, subst, ◌∙◌, drop, ⊎_elim, arith}
use Rattle.std.specs.Prelude.{find, filter}
use Rattle.std.proofs.lemmas.Bool.{cases_lt}
use Rattle.std.proofs.lemmas.Bool.Decides.{nat_tests}
use Rattle.history.specs.declared.time.Version.{Version}
use Rattle.history.specs.Time.{IsRisingAfter}
use Rattle.history.specs.Versions.{first_time, versions, ends_after, stands_at, FollowOneAnotherFrom}
use Rattle.history.proofs.Values.{versions-apart, filter-standing}
use Rattle.chains.specs.Writes.{Value}
use Rattle.chains.specs.KeyWrites.{KeyWrites}
use Rattle.law_image.specs.PlansMade.{old_record}
use Rattle.deltas.specs.Records.{old_record_of}
use Rattle.vacuum.specs.Anchors.{key_olds}

stands : (m : ℕ) (v : Version Value) → ends_after m v ≡ true → v.from ≤ m → stands_at m v ≡ true
stands m v after by = grind (arith, nat_tests)

stands-not : (m : ℕ) (v : Version Value) → m < v.from → stands_at m v ≡ false
stands-not m v late = grind (arith, nat_tests)

stands-over : (m : ℕ) (v : Version Value) → ends_after m v ≡ false → stands_at m v ≡ false
stands-over m v early = grind (arith, nat_tests)

before : (m : ℕ) (v : Version Value) → ends_after m v ≡ true → m < v.to
before m v after = grind (arith, nat_tests)

none-standing : (m : ℕ) (vs : List (Version Value)) → find (ends_after m) vs ≡ None → filter (stands_at m) vs ≡ []
none-standing m [] e = refl
none-standing m (u ∷ us) e =
    let Goal : Bool → Type 0 = λ b. ends_after m u ≡ b → cond b (Some u) (find (ends_after m) us) ≡ None → filter (stands_at m) (u ∷ us) ≡ [] in
    let all : (b : Bool) → Goal b = λ b. elim b as Goal [
      | true ↦ λ after h. absurd (cc)
      | false ↦ λ after h. rw (stands-over m u after) (none-standing m us h)
    ] in
    all (ends_after m u) refl e

late-standing : (m s : ℕ) (vs : List (Version Value)) (v : Version Value) → FollowOneAnotherFrom s vs → find (ends_after m) vs ≡ Some v → m < v.from
    → filter (stands_at m) vs ≡ []
late-standing m s [] v apart e late = refl
late-standing m s (u ∷ us) v apart e late =
    let Goal : Bool → Type 0 = λ b. ends_after m u ≡ b → cond b (Some u) (find (ends_after m) us) ≡ Some v → filter (stands_at m) (u ∷ us) ≡ [] in
    let all : (b : Bool) → Goal b = λ b. elim b as Goal [
      | true ↦ λ after h.
          let same : u ≡ v = cc in
          let later : m < u.from = subst (λ (x : Version Value). m < x.from) (sym same) late in
          rw (stands-not m u later) (filter-standing u.to m us (before m u after) apart.2)
      | false ↦ λ after h. rw (stands-over m u after) (late-standing m u.to us v apart.2 h late)
    ] in
    all (ends_after m u) refl e

one-standing : (m s : ℕ) (vs : List (Version Value)) (v : Version Value) → FollowOneAnotherFrom s vs → find (ends_after m) vs ≡ Some v → v.from ≤ m
    → filter (stands_at m) vs ≡ v ∷ []
one-standing m s [] v apart e by = absurd (cc)
one-standing m s (u ∷ us) v apart e by =
    let Goal : Bool → Type 0 = λ b. ends_after m u ≡ b → cond b (Some u) (find (ends_after m) us) ≡ Some v → filter (stands_at m) (u ∷ us) ≡ v ∷ [] in
    let all : (b : Bool) → Goal b = λ b. elim b as Goal [
      | true ↦ λ after h.
          let same : u ≡ v = cc in
          let begun : u.from ≤ m = subst (λ (x : Version Value). x.from ≤ m) (sym same) by in
          rw (stands m u after begun) (ap (λ l. u ∷ l) (filter-standing u.to m us (before m u after) apart.2) ∙ ap (λ (x : Version Value). x ∷ []) same)
      | false ↦ λ after h. rw (stands-over m u after) (one-standing m u.to us v apart.2 h by)
    ] in
    all (ends_after m u) refl e

module _ (mark : ℕ) (c : KeyWrites) (rising : IsRisingAfter 0 c.writes) where
  pub olds-none : find (ends_after mark) (versions c.writes) ≡ None → key_olds mark c ≡ []
  olds-none e = ap (λ vs. map old_record_of (map (old_record c.key) vs)) (none-standing mark (versions c.writes) e)

  pub olds-late : (v : Version Value) → find (ends_after mark) (versions c.writes) ≡ Some v → mark < v.from → key_olds mark c ≡ []
  olds-late v e late =
      ap (λ vs. map old_record_of (map (old_record c.key) vs))
      (late-standing mark (first_time c.writes) (versions c.writes) v (versions-apart 0 c.writes rising) e late)

  pub olds-one : (v : Version Value) → find (ends_after mark) (versions c.writes) ≡ Some v → v.from ≤ mark → key_olds mark c
      ≡ old_record_of (old_record c.key v) ∷ []
  olds-one v e by =
      ap (λ vs. map old_record_of (map (old_record c.key) vs))
      (one-standing mark (first_time c.writes) (versions c.writes) v (versions-apart 0 c.writes rising) e by)

  -- one record at most
  pub olds-few : drop 1 (key_olds mark c) ≡ []
  olds-few =
      let Goal : Option (Version Value) → Type 0 = λ o. find (ends_after mark) (versions c.writes) ≡ o → drop 1 (key_olds mark c) ≡ [] in
      let all : (o : Option (Version Value)) → Goal o = λ o. elim o as Goal [
        | None ↦ λ e. ap (λ l. drop 1 l) (olds-none e)
        | Some v ↦ λ e.
            ⊎_elim
            (λ (late : mark < v.from). ap (λ l. drop 1 l) (olds-late v e late))
            (λ (by : v.from ≤ mark). ap (λ l. drop 1 l) (olds-one v e by))
            (cases_lt mark v.from)
      ] in
      all (find (ends_after mark) (versions c.writes)) refl
