-- The records of a relation in versions that are in the order of their keys.
use Rattle.std.proofs.Common.{◌≡◌, ℕ, ◌<◌, ◌≤◌, ◌==◌, Bool, true, false, cond, List, [], ◌∷◌, ◌++◌, Option, None, Some, option_map, option_to_list, find, refl}
use Rattle.std.proofs.Common.{arith, sym, ◌∙◌}
use Rattle.std.proofs.lemmas.Bool.Decides.{nat_tests}
use Rattle.history.specs.declared.key.Key.{Key}
use Rattle.history.specs.Key.{key_of, key_lt}
use Rattle.history.specs.Time.{value_at}
use Rattle.history.specs.Queries.{IsScan}
use Rattle.chains.specs.Writes.{Value}
use Rattle.chains.specs.KeyWrites.{KeyWrites, is_of, writes_in, writes_of, AllAbove, IsOrdered}
use Rattle.chains.specs.Scans.{scanned}
use Rattle.snapshot.proofs.ScanLemmas.{looked_up, Above, Climb, climb-to, none-above, looked_up-contained, contained-looked_up}

above-shown : (k number : ℕ) (value : Option Value) (more : List (ℕ × Value)) → k < number → Above k more
    → Above k (option_to_list (option_map (λ (v : Value). (number, v)) value) ++ more)
above-shown k number None more less h = h
above-shown k number (Some v) more less h = (less, h)

climb-shown : (number : ℕ) (value : Option Value) (more : List (ℕ × Value)) → Above number more → Climb more
    → Climb (option_to_list (option_map (λ (v : Value). (number, v)) value) ++ more)
climb-shown number None more above h = h
climb-shown number (Some v) more above h = (above, h)

own_shown : (n number : ℕ) (value : Option Value) (more : List (ℕ × Value)) → (number == n) ≡ true → looked_up n more ≡ None
    → looked_up n (option_to_list (option_map (λ (v : Value). (number, v)) value) ++ more) ≡ value
own_shown n number None more same none = none
own_shown n number (Some v) more same none = rw same refl

past_shown : (n number : ℕ) (value : Option Value) (more : List (ℕ × Value)) → (number == n) ≡ false
    → looked_up n (option_to_list (option_map (λ (v : Value). (number, v)) value) ++ more) ≡ looked_up n more
past_shown n number None more apart = refl
past_shown n number (Some v) more apart = rw apart refl

above-scanned : (relation time : ℕ) (key : Key) (m : List KeyWrites) → (key.relation == relation) ≡ true → AllAbove key m
    → Above key.record (scanned relation time m)
above-scanned relation time key [] of_it h = tt
above-scanned relation time key (c ∷ cs) of_it h =
    let rest = above-scanned relation time key cs of_it h.1 in
    let before : key_lt key c.key ≡ true = h.0 in
    let Goal : Bool → Type 0 =
    λ b. (c.key.relation == relation) ≡ b
    → Above key.record (cond b (option_to_list (option_map (λ (v : Value). (c.key.record, v)) (value_at c.writes time))) [] ++ scanned relation time cs) in
    let goal : Goal (c.key.relation == relation) = elim (c.key.relation == relation) as Goal [
      | true ↦ λ also. above-shown key.record c.key.record (value_at c.writes time) (scanned relation time cs) (grind (arith, nat_tests)) rest
      | false ↦ λ other. rest
    ] in
    goal refl

climb-scanned : (relation time : ℕ) (m : List KeyWrites) → IsOrdered m → Climb (scanned relation time m)
climb-scanned relation time [] h = tt
climb-scanned relation time (c ∷ cs) h =
    let rest = climb-scanned relation time cs h.1 in
    let Goal : Bool → Type 0 =
    λ b. (c.key.relation == relation) ≡ b
    → Climb (cond b (option_to_list (option_map (λ (v : Value). (c.key.record, v)) (value_at c.writes time))) [] ++ scanned relation time cs) in
    let goal : Goal (c.key.relation == relation) = elim (c.key.relation == relation) as Goal [
      | true ↦ λ of_it. climb-shown c.key.record (value_at c.writes time) (scanned relation time cs) (above-scanned relation time c.key cs of_it h.0) rest
      | false ↦ λ other. rest
    ] in
    goal refl

one_chain : (relation time n : ℕ) (c : KeyWrites) (cs : List KeyWrites) → AllAbove c.key cs
    → looked_up n (scanned relation time cs) ≡ value_at (writes_in (find (is_of (key_of relation n)) cs)) time
    → (a b : Bool) → (c.key.relation == relation) ≡ a → (c.key.record == n) ≡ b
    → looked_up n (scanned relation time (c ∷ cs)) ≡ value_at (writes_in (find (is_of (key_of relation n)) (c ∷ cs))) time
one_chain relation time n c cs above rest false b other is = rw other rest
one_chain relation time n c cs above rest true true of_it is =
    let upto : n ≤ c.key.record = grind (arith, nat_tests) in
    rw (of_it, is) (own_shown n c.key.record (value_at c.writes time) (scanned relation time cs) is
    (none-above n c.key.record (scanned relation time cs) upto (above-scanned relation time c.key cs of_it above)))
one_chain relation time n c cs above rest true false of_it is =
    rw (of_it, is) (past_shown n c.key.record (value_at c.writes time) (scanned relation time cs) is ∙ rest)

looked_up-scanned : (relation time n : ℕ) (m : List KeyWrites) → IsOrdered m → looked_up n (scanned relation time m)
    ≡ value_at (writes_of m (key_of relation n)) time
looked_up-scanned relation time n [] h = refl
looked_up-scanned relation time n (c ∷ cs) h =
    one_chain relation time n c cs h.0 (looked_up-scanned relation time n cs h.1) (c.key.relation == relation) (c.key.record == n) refl refl

-- a scan of versions at a time is that of their state then
pub scanned-is_scan : (relation time : ℕ) (m : List KeyWrites) → IsOrdered m
    → IsScan (λ key. value_at (writes_of m key) time) relation (scanned relation time m)
scanned-is_scan relation time m h = record {
  rising = climb-to (scanned relation time m) (climb-scanned relation time m h);
  each = λ n v. (
    λ found. sym (looked_up-scanned relation time n m h) ∙ looked_up-contained n v (scanned relation time m) (climb-scanned relation time m h) found,
    λ is. contained-looked_up n v (scanned relation time m) (looked_up-scanned relation time n m h ∙ is),
  );
}
