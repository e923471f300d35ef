-- What a tree of chains shows of a relation, on the two sides of a chain.
use Rattle.std.proofs.Common.{◌≡◌, ◌≢◌, ℕ, ◌<◌, ◌==◌, true, false, cond, List, [], ◌∷◌, ◌++◌, refl, ap, sym, ◌∙◌, arith, append_assoc}
use Rattle.std.proofs.lemmas.Bool.Decides.{nat_tests}
use Rattle.history.specs.declared.key.Key.{Key}
use Rattle.history.specs.Key.{key_lt}
use Rattle.chains.specs.KeyWrites.{KeyWrites, AllAbove, IsOrdered}
use Rattle.chains.specs.Rows.{of_relation}
use Rattle.chains.specs.Scans.{shown, scanned, shown_value}
use Rattle.chains.specs.Writes.{Value}
use Rattle.chains.proofs.Order.{above-back}
use Rattle.chains.proofs.Scans.{above-relation}

pub other-part : {X : Type 0} (relation : ℕ) (shown : KeyWrites → List X) (c : KeyWrites) → c.key.relation ≢ relation
    → cond (c.key.relation == relation) (shown c) [] ≡ []
other-part relation shown c other =
    let differs : (c.key.relation == relation) ≡ false = grind (arith, nat_tests) in
    rw differs refl

pub relation-above : {X : Type 0} (relation : ℕ) (shown : KeyWrites → List X) (k : Key) (m : List KeyWrites) → relation < k.relation → AllAbove k m
    → of_relation relation shown m ≡ []
relation-above relation shown k [] h up = refl
relation-above relation shown k (c ∷ cs) h up =
    let later = above-relation k c.key up.0 in
    let other : c.key.relation ≢ relation = omega arith in
    rw (other-part relation shown c other) (relation-above relation shown k cs h up.1)

pub relation-append : {X : Type 0} (relation : ℕ) (shown : KeyWrites → List X) (l : List KeyWrites) (r : List KeyWrites) → of_relation relation shown (l ++ r)
    ≡ of_relation relation shown l ++ of_relation relation shown r
relation-append relation shown [] r = refl
relation-append {X} relation shown (d ∷ ds) r =
    let here : List X = cond (d.key.relation == relation) (shown d) [] in
    ap (λ (x : List X). here ++ x) (relation-append relation shown ds r)
    ∙ sym (append_assoc here (of_relation relation shown ds) (of_relation relation shown r))

-- chains before one of an earlier relation
pub relation-below : {X : Type 0} (relation : ℕ) (shown : KeyWrites → List X) (l : List KeyWrites) (c : KeyWrites) (r : List KeyWrites)
    → c.key.relation < relation → IsOrdered (l ++ c ∷ r) → of_relation relation shown l ≡ []
relation-below relation shown [] c r h o = refl
relation-below relation shown (d ∷ ds) c r h o =
    let below : key_lt d.key c.key ≡ true = (above-back d.key ds (c ∷ r) o.0).0 in
    let upto = above-relation d.key c.key below in
    let other : d.key.relation ≢ relation = omega arith in
    rw (other-part relation shown d other) (relation-below relation shown ds c r h o.1)

-- what is shown of a relation at a time, as what its chains show
pub scanned-is : (relation time : ℕ) (m : List KeyWrites) → of_relation relation (shown_value time) m ≡ scanned relation time m
scanned-is relation time [] = refl
scanned-is relation time (c ∷ cs) = ap (λ (l : List (ℕ × Value)). shown relation time c ++ l) (scanned-is relation time cs)
