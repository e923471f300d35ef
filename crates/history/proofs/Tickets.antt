-- A commit is acknowledged where it is published.
use Rattle.std.proofs.Common.{◌≡◌, ℕ, ◌==◌, ◌↔◌, Bool, true, false, cond, IsTrue, List, refl, ap, sym, subst, arith}
use Rattle.std.specs.Prelude.{Contains}
use Rattle.std.proofs.lemmas.Bool.Decides.{nat_tests}
use Rattle.std.proofs.lemmas.List.Elements.{Contains-append_left}
use Rattle.history.specs.Histories.{Commit, History}
use Rattle.history.specs.Machine.{Machine}
use Rattle.history.specs.Steps.{Event, Run}
use Rattle.history.specs.Answers.{Done, Waiting, InDoubt, is_published, redeemed_by}
use Rattle.history.proofs.Conflicts.{Decides-list_any}
use Rattle.history.proofs.Runs.{run-shows}

not-done : (failed : Bool) (time : ℕ) → cond failed InDoubt Waiting ≡ Done time → ⊥
not-done true time e = absurd cc
not-done false time e = absurd cc

done-is : {V : Type 0} (m : Machine V) (time : ℕ) → (redeemed_by m time ≡ Done time) ↔ IsTrue (is_published m time)
done-is m time =
    let To : Bool → Type 0 = λ b. is_published m time ≡ b → cond b (Done time) (cond m.failed InDoubt Waiting) ≡ Done time → IsTrue (is_published m time) in
    let to : (b : Bool) → To b = λ b. elim b as To [
      | true ↦ λ e is. e
      | false ↦ λ e is. absurd (not-done m.failed time is)
    ] in
    (to (is_published m time) refl, λ is. ap (λ b. cond b (Done time) (cond m.failed InDoubt Waiting)) is)

pub done-published : {V : Type 0} (m : Machine V) (time : ℕ) → (redeemed_by m time ≡ Done time) ↔ ((c : Commit V) × Contains m.published c × (c.time ≡ time))
done-published {V} m time =
    let any = Decides-list_any (λ (c : Commit V). c.time == time) m.published in (
      λ done. let found = any.0 ((done-is m time).0 done) in let same : found.0.time ≡ time = grind (arith, nat_tests, found.2) in (found.0, found.1, same),
      λ found. let test : (found.0.time == time) ≡ true = grind (arith, nat_tests, found.2) in (done-is m time).1 (any.1 (found.0, found.1, test)),
    )

pub done-stays : {V : Type 0} (IsValue : V → Type 0) (old new : Machine V) (events : List (Event V)) (time : ℕ) → Run IsValue old events new
    → redeemed_by old time ≡ Done time → redeemed_by new time ≡ Done time
done-stays {V} IsValue old new events time run done =
    let found = (done-published old time).0 done in
    let more = run-shows IsValue old new events run in
    let has : Contains new.published found.0 =
    subst (λ (l : History V). Contains l found.0) (sym more.1) (Contains-append_left old.published more.0 found.0 found.1) in
    (done-published new time).1 (found.0, has, found.2)
