-- A text that was read is shown again.
use Rattle.std.proofs.Common.{◌≡◌, ℕ, ◌≤◌, List, Option, Some, None, Result, Ok, Err, IfOk, IfSome, sym, ◌∙◌, subst, refl, arith}
use Rattle.std.specs.Prelude.{IsNone, MatchOption, ◌↔◌}
use Rattle.clock.specs.Instant.{Spells, second_at, IsShownAsOne}
use Rattle.clock.proofs.Days.{spelling-instant, instant-upto}

pub shown_as_one : IsShownAsOne
shown_as_one text other t s o =
    s.spelled ∙ spelling-instant s.moment o.moment s.real o.real (sym s.instant ∙ o.instant) ∙ sym o.spelled

-- an instant that a text spells begins its second
begins_second : (text : List ℕ) (t : ℕ) → Spells text t → second_at t ≡ t
begins_second text t s = omega (arith, s.instant)

pub shown_again : {S E : Type 0} (bytes : S → List ℕ) (r : Result (Option S) E) (text : List ℕ) (t : ℕ) → Spells text t
    → IfOk r (λ shown. IsNone shown ↔ (253_402_300_800_000_000 ≤ t)) → IfOk r (λ shown. IfSome shown (λ s. Spells (bytes s) (second_at t)))
    → IfOk r (λ shown. MatchOption shown ((u : ℕ) → Spells text u → ⊥) (λ s. bytes s ≡ text))
shown_again bytes (Err e) text t s none some = tt
shown_again bytes (Ok None) text t s none some = absurd (let upto = instant-upto s.moment s.real in omega (arith, none.0 refl, upto, s.instant))
shown_again bytes (Ok (Some x)) text t s none some =
    let begins : second_at t ≡ t = begins_second text t s in
    shown_as_one (bytes x) text t (subst (λ u. Spells (bytes x) u) begins some) s
