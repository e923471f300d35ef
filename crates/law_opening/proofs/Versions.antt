-- Versions are no later than the last write of each key.
use Rattle.std.proofs.Common.{◌≡◌, ℕ, ◌≤◌, Bool, true, false, cond, List, [], ◌∷◌, Some, refl, arith, subst}
use Rattle.std.specs.Prelude.{find}
use Rattle.std.proofs.lemmas.Bool.Decides.{nat_tests}
use Rattle.history.specs.declared.key.Key.{Key}
use Rattle.history.specs.Key.{same_key}
use Rattle.chains.specs.Writes.{Write, last_time}
use Rattle.chains.specs.KeyWrites.{KeyWrites, is_of, IsOrdered, writes_in, writes_of, latest}
use Rattle.chains.proofs.Order.{find-below}
use Rattle.chains.proofs.Commits.{key-same}

same-self : (key : Key) → same_key key key ≡ true
same-self key = grind (arith, nat_tests)

pub latest-upto : (n : ℕ) (m : List KeyWrites) → IsOrdered m → ((key : Key) → last_time (writes_of m key) ≤ n) → latest m ≤ n
latest-upto n [] ordered each = omega arith
latest-upto n (c ∷ cs) ordered each =
    let own : writes_of (c ∷ cs) c.key ≡ c.writes = rw (same-self c.key) refl in
    let first : last_time c.writes ≤ n = subst (λ (ws : List Write). last_time ws ≤ n) own (each c.key) in
    let others : latest cs ≤ n = latest-upto n cs ordered.1 other in
    omega (arith, first, others)
  where
    other : (key : Key) → last_time (writes_of cs key) ≤ n
    other key = elim (same_key c.key key) as (λ (b : Bool). same_key c.key key ≡ b → last_time (writes_of cs key) ≤ n) [
      | true ↦ λ same.
          let none : last_time (writes_of cs c.key) ≤ n = rw (find-below c.key cs ordered.0) (omega arith) in
          subst (λ (k : Key). last_time (writes_of cs k) ≤ n) (key-same c.key key same) none
      | false ↦ λ apart. subst (λ (b : Bool). last_time (writes_in (cond b (Some c) (find (is_of key) cs))) ≤ n) apart (each key)
    ] refl
