-- The keys that are left within a bound.
use Rattle.std.proofs.Common.{◌≡◌, Bool, true, false, cond, List, [], ◌∷◌, Some, None, refl, ap, sym, subst, ◌∙◌, arith}
use Rattle.std.specs.Prelude.{find, not}
use Rattle.std.proofs.lemmas.Bool.Decides.{nat_tests}
use Rattle.history.specs.declared.key.Key.{Key}
use Rattle.history.specs.Key.{key_lt}
use Rattle.history.specs.Time.{IsRisingAfter}
use Rattle.chains.specs.declared.bound.Bound.{Bound}
use Rattle.chains.specs.declared.bound.Bound.TheVariants.{From, After}
use Rattle.chains.specs.Bounds.{is_in}
use Rattle.chains.specs.KeyWrites.{KeyWrites, IsOrdered, AreRising}
use Rattle.chains.proofs.Walks.{find-head, find-none-filter, find-above, filter-behind}
use Rattle.chains.proofs.Scans.{head_is}
use Rattle.vacuum.specs.Archives.{keys_within}

pub keys-next : (bound : Bound) (m : List KeyWrites) (c : KeyWrites) → IsOrdered m → find (λ (c : KeyWrites). is_in bound c.key) m ≡ Some c
    → keys_within bound m ≡ c ∷ keys_within (After c.key) m
keys-next bound m c ordered e =
    head_is (keys_within bound m) c (sym e ∙ find-head (λ (x : KeyWrites). is_in bound x.key) m)
    ∙ ap (λ l. c ∷ l) (sym (filter-behind bound m c ordered e))

-- the first key within a bound is the first from itself on
pub first-from : (bound : Bound) (m : List KeyWrites) (c : KeyWrites) → IsOrdered m → find (λ (c : KeyWrites). is_in bound c.key) m ≡ Some c
    → find (λ (x : KeyWrites). is_in (From c.key) x.key) m ≡ Some c
first-from bound [] c o e = absurd (cc)
first-from bound (d ∷ ds) c o e =
    let Goal : Bool → Type 0 =
    λ t. cond t (Some d) (find (λ (c : KeyWrites). is_in bound c.key) ds) ≡ Some c → find (λ (x : KeyWrites). is_in (From c.key) x.key) (d ∷ ds) ≡ Some c in
    let all : (t : Bool) → Goal t = λ t. elim t as Goal [
      | true ↦ λ h.
          let same : d ≡ c = cc in
          let own : not (key_lt d.key d.key) ≡ true = grind (arith, nat_tests) in
          subst (λ (y : KeyWrites). find (λ (x : KeyWrites). is_in (From y.key) x.key) (d ∷ ds) ≡ Some y) same (rw own refl)
      | false ↦ λ h.
          let above : key_lt d.key c.key ≡ true = find-above (λ (c : KeyWrites). is_in bound c.key) d.key ds c o.0 h in
          let before : not (key_lt d.key c.key) ≡ false = grind (arith, nat_tests) in
          rw before (first-from bound ds c o.1 h)
    ] in
    all (is_in bound d.key) e

pub keys-from : (bound : Bound) (m : List KeyWrites) (c : KeyWrites) → IsOrdered m → find (λ (c : KeyWrites). is_in bound c.key) m ≡ Some c
    → keys_within (From c.key) m ≡ c ∷ keys_within (After c.key) m
keys-from bound m c ordered e = keys-next (From c.key) m c ordered (first-from bound m c ordered e)

pub keys-none : (bound : Bound) (m : List KeyWrites) → find (λ (c : KeyWrites). is_in bound c.key) m ≡ None → keys_within bound m ≡ []
keys-none bound m e = find-none-filter (λ (x : KeyWrites). is_in bound x.key) m e

not-before : (key : Key) → not (key_lt key (record { relation = 0; «record» = 0 })) ≡ true
not-before key = grind (arith, nat_tests)

pub keys-all : (m : List KeyWrites) → keys_within (From (record { relation = 0; «record» = 0 })) m ≡ m
keys-all [] = refl
keys-all (c ∷ cs) = rw (not-before c.key) (ap (λ l. c ∷ l) (keys-all cs))

-- the writes of a key that is found rise
pub found-rises : (p : KeyWrites → Bool) (m : List KeyWrites) (c : KeyWrites) → AreRising m → find p m ≡ Some c → IsRisingAfter 0 c.writes
found-rises p [] c up e = absurd (cc)
found-rises p (d ∷ ds) c up e =
    let Goal : Bool → Type 0 = λ b. cond b (Some d) (find p ds) ≡ Some c → IsRisingAfter 0 c.writes in
    let all : (b : Bool) → Goal b = λ b. elim b as Goal [
      | true ↦ λ h. let same : d ≡ c = cc in subst (λ (x : KeyWrites). IsRisingAfter 0 x.writes) same up.0
      | false ↦ λ h. found-rises p ds c up.1 h
    ] in
    all (p d) e
