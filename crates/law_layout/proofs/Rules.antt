-- The rules of a log, slot by slot and as a whole.
use Rattle.std.proofs.Common.{◌≡◌, ℕ, zero, suc, ◌+◌, List, [], ◌∷◌, ◌++◌, take, Some, refl, sym, subst, append_assoc, IsTrue}
use Rattle.std.specs.Prelude.{slice_get}
use Rattle.std.proofs.lemmas.List.{append-nil}
use Rattle.wire.specs.Spelling.{kind_of}
use Rattle.wire.specs.declared.slot.Run.{Run}
use Rattle.wire.specs.declared.slot.Slot.{Slot}
use Rattle.law_image.specs.Log.{MayAllCome}
use Rattle.status.specs.Rules.{log_of, runs_in, runs_of, row_end, AreInRow, is_built, MayFollow, KeepsRules}
use Rattle.status.proofs.Ends.{log-push, end-push}

row_parts : (place : ℕ) (xs ys : List Run) → AreInRow place (xs ++ ys) → AreInRow place xs × AreInRow (row_end place xs) ys
row_parts place [] ys row = (tt, row)
row_parts place (x ∷ xs) ys row = let rest = row_parts (x.start + x.len) xs ys row.1 in ((row.0, rest.0), rest.1)

row_join : (place : ℕ) (xs ys : List Run) → AreInRow place xs → AreInRow (row_end place xs) ys → AreInRow place (xs ++ ys)
row_join place [] ys a b = b
row_join place (x ∷ xs) ys a b = (a.0, row_join (x.start + x.len) xs ys a.1 b)

module _ (profile : ℕ) where
  -- the slots behind some others, each after those before it
  Follow : List Slot → List Slot → Type 0
  Follow before rest = (n : ℕ) (slot : Slot) → slice_get rest n ≡ Some slot → MayFollow profile (before ++ take n rest) slot

  Built : List Slot → Type 0
  Built rest = (n : ℕ) (slot : Slot) → slice_get rest n ≡ Some slot → IsTrue (is_built profile (kind_of slot.body))

  some_is : (a b : Slot) → Some a ≡ Some b → a ≡ b
  some_is a b same = cc

  rules_each : (before rest : List Slot) → MayAllCome profile (log_of before) (log_of rest) → AreInRow (row_end 0 (runs_of before)) (runs_of rest) → Built rest
      → Follow before rest
  unfolding Follow Built some_is
  rules_each before [] may row built n slot is = cc
  rules_each before (s ∷ rest) may row built zero slot is =
      let same : s ≡ slot = some_is s slot is in
      let parts = row_parts (row_end 0 (runs_of before)) (runs_in s.body) (runs_of rest) row in
      subst (λ (x : Slot). MayFollow profile (before ++ []) x) same
      (subst (λ (b : List Slot). MayFollow profile b s) (sym (append-nil before)) (record { built = built zero s refl; may_come = may.0; in_row = parts.0 }))
  rules_each before (s ∷ rest) may row built (suc n) slot is =
      let parts = row_parts (row_end 0 (runs_of before)) (runs_in s.body) (runs_of rest) row in
      subst (λ (b : List Slot). MayFollow profile b slot) (append_assoc before (s ∷ []) (take n rest))
      (rules_each (before ++ s ∷ []) rest
      (subst (λ l. MayAllCome profile l (log_of rest)) (sym (log-push before s)) may.1)
      (subst (λ (e : ℕ). AreInRow e (runs_of rest)) (sym (end-push before s)) parts.1)
      (λ m x at. built (suc m) x at) n slot is)

  rules_all : (before rest : List Slot) → Follow before rest → MayAllCome profile (log_of before) (log_of rest)
      × AreInRow (row_end 0 (runs_of before)) (runs_of rest) × Built rest
  unfolding Follow Built
  rules_all before [] each = (tt, tt, λ n slot is. cc)
  rules_all before (s ∷ rest) each =
      let first : MayFollow profile before s = subst (λ (b : List Slot). MayFollow profile b s) (append-nil before) (each zero s refl) in
      let more =
      rules_all (before ++ s
      ∷ []) rest (λ n slot is. subst (λ (b : List Slot). MayFollow profile b slot) (sym (append_assoc before (s ∷ []) (take n rest)))
      (each (suc n) slot is)) in
      let built : (n : ℕ) (slot : Slot) → slice_get (s ∷ rest) n ≡ Some slot → IsTrue (is_built profile (kind_of slot.body)) =
      λ n slot is. (each n slot is).built in (
        (first.may_come, subst (λ l. MayAllCome profile l (log_of rest)) (log-push before s) more.0),
        row_join (row_end 0 (runs_of before)) (runs_in s.body) (runs_of rest) first.in_row
            (subst (λ (e : ℕ). AreInRow e (runs_of rest)) (end-push before s) more.1),
        built,
      )

  pub rules_kept : (slots : List Slot) → MayAllCome profile [] (log_of slots) → AreInRow 0 (runs_of slots)
      → ((n : ℕ) (slot : Slot) → slice_get slots n ≡ Some slot → IsTrue (is_built profile (kind_of slot.body)))
      → KeepsRules profile slots
  unfolding Follow Built
  rules_kept slots may row built = rules_each [] slots may row built

  pub rules_say : (slots : List Slot) → KeepsRules profile slots → MayAllCome profile [] (log_of slots) × AreInRow 0 (runs_of slots)
  unfolding Follow Built
  rules_say slots rules = let all = rules_all [] slots rules in (all.0, all.1)
