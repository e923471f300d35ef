-- The chains of nodes: those of a fork, from the node on in which a bound lies.
use Rattle.std.proofs.Common.{◌≡◌, ◌≢◌, cond, ℕ, zero, suc, ◌+◌, ◌-◌, ◌<◌, ◌≤◌, true, false, Bool, List, [], ◌∷◌, ◌++◌, length, get_or, take, drop, Option}
use Rattle.std.proofs.Common.{None, Some, refl, ap, sym, subst, ◌∙◌, arith}
use Rattle.std.specs.Prelude.{find}
use Rattle.std.proofs.lemmas.Bool.Decides.{nat_tests}
use Rattle.std.proofs.lemmas.List.{take-append-drop, drop_more}
use Rattle.history.specs.declared.key.Key.{Key}
use Rattle.history.specs.Key.{key_lt, same_key}
use Rattle.chains.specs.declared.bound.Bound.{Bound}
use Rattle.chains.specs.declared.bound.Bound.TheVariants.{From, After}
use Rattle.chains.specs.Bounds.{is_in}
use Rattle.chains.specs.KeyNodes.{BeginAt, BeginWithout, BeginWithin, FirstWithout, FirstWithin, WithoutBehind, AreWithin, AreWithinBehind, IsFromBound}
use Rattle.chains.specs.KeyNodes.{IsKeyFork}
use Rattle.chains.specs.KeyWrites.{KeyWrites, is_of, forgotten, AllAbove, IsOrdered}
use Rattle.chains.specs.Rows.{of_relation}
use Rattle.chains.specs.Shapes.{Shape, all_of, highest}
use Rattle.chains.proofs.Bounds.{find-past, out-below}
use Rattle.chains.proofs.Order.{above-back, forgotten-two, ordered-back, lt-other}
use Rattle.chains.proofs.Relations.{other-part, relation-above, relation-append, relation-below}
use Rattle.chains.proofs.Shapes.{all_of-append, highest-append, at_low, behind, chunks_are, first_low}
use Rattle.chains.proofs.Walks.{in-later}

-- ---- the nodes from the last one on that begins without the bound

within-above : (bound : Bound) (k : Key) (m : List KeyWrites) → is_in bound k ≡ true → AllAbove k m → AreWithin bound m
within-above bound k [] h up = tt
within-above bound k (c ∷ cs) h up = (in-later bound k c.key up.0 h, within-above bound k cs h up.1)

within-all : (bound : Bound) (ps qs : List KeyWrites) → BeginWithin bound ps → IsOrdered (ps ++ qs) → AreWithin bound (ps ++ qs)
within-all bound [] qs begin o = absurd (omega (arith, begin))
within-all bound (c ∷ cs) qs begin o = (begin, within-above bound c.key (cs ++ qs) begin o.0)

within-back : (bound : Bound) (ps qs : List KeyWrites) → AreWithin bound (ps ++ qs) → AreWithin bound qs
within-back bound [] qs within = within
within-back bound (c ∷ cs) qs within = within-back bound cs qs within.1

within-nodes : (bound : Bound) (ns : List (Shape KeyWrites)) → FirstWithin bound ns → IsOrdered (all_of ns) → AreWithin bound (all_of ns)
within-nodes bound [] first o = tt
within-nodes bound (n ∷ ns) first o = within-all bound n.chunks (all_of ns) first o

within-drop : (bound : Bound) (k : ℕ) (ns : List (Shape KeyWrites)) → FirstWithin bound (drop (suc k) ns) → IsOrdered (all_of ns)
    → AreWithinBehind bound (drop k ns)
within-drop bound zero [] first o = tt
within-drop bound (suc k) [] first o = tt
within-drop bound zero (n ∷ ns) first o = within-nodes bound ns first (ordered-back n.chunks (all_of ns) o)
within-drop bound (suc k) (n ∷ ns) first o = within-drop bound k ns first (ordered-back n.chunks (all_of ns) o)

behind-any : (bound : Bound) (front rest : List (Shape KeyWrites)) → FirstWithout bound rest → WithoutBehind bound front rest
behind-any bound [] rest without = tt
behind-any bound (n ∷ ns) rest without = without

from-all : (bound : Bound) (ns : List (Shape KeyWrites)) → FirstWithin bound ns → IsOrdered (all_of ns) → IsFromBound bound ns ns
from-all bound [] first o = record { front = []; parts = refl; begun = tt; later = tt }
from-all bound (n ∷ ns) first o =
    record { front = []; parts = refl; begun = tt; later = within-back bound n.chunks (all_of ns) (within-nodes bound (n ∷ ns) first o) }

from-without : (bound : Bound) (k : ℕ) (ns : List (Shape KeyWrites)) → FirstWithout bound (drop k ns) → FirstWithin bound (drop (suc k) ns)
    → IsOrdered (all_of ns) → IsFromBound bound ns (drop k ns)
from-without bound k ns without first o = record {
  front = take k ns;
  parts = sym (take-append-drop k ns);
  begun = behind-any bound (take k ns) (drop k ns) without;
  later = within-drop bound k ns first o;
}

is-from-without : (bound : Bound) (n m : ℕ) (ns : List (Shape KeyWrites)) → m ≡ n - 1 → (0 < n → FirstWithout bound (drop m ns)) → FirstWithin bound (drop n ns)
    → IsOrdered (all_of ns) → IsFromBound bound ns (drop m ns)
is-from-without bound zero m ns is without first o = let none : m ≡ 0 = omega (arith, is) in rw none (from-all bound ns first o)
is-from-without bound (suc n) m ns is without first o =
    let same : n ≡ m = omega (arith, is) in
    from-without bound m ns (without (omega arith)) (rw same at first) o

pub is-from : (bound : Bound) (n m : ℕ) (ns : List (Shape KeyWrites)) → m ≡ n - 1 → (0 < n → FirstWithout bound (drop (n - 1) ns))
    → FirstWithin bound (drop n ns) → IsOrdered (all_of ns) → IsFromBound bound ns (drop m ns)
is-from bound n m ns is without first o = is-from-without bound n m ns is (λ h. subst (λ (k : ℕ). FirstWithout bound (drop k ns)) (sym is) (without h)) first o

-- the node of a number, and those behind it
from-number : (bound : Bound) (k : ℕ) (ns : List (Shape KeyWrites)) (n : Shape KeyWrites) → 0 < k → k ≤ length ns → n ≡ get_or ns (k - 1) n
    → (0 < k → FirstWithout bound (drop (k - 1) ns)) → FirstWithin bound (drop k ns) → IsOrdered (all_of ns) → IsFromBound bound ns (n ∷ drop k ns)
from-number bound k ns n some within is without first o =
    let next : k - 1 + 1 ≡ k = omega (arith, some) in
    let here : drop (k - 1) ns ≡ n ∷ drop k ns =
    drop_more ns (k - 1) n (omega (arith, some, within)) ∙ ap (λ (x : Shape KeyWrites). x ∷ drop (k - 1 + 1) ns) (sym is)
    ∙ ap (λ (i : ℕ). n ∷ drop i ns) next in
    subst (λ (rest : List (Shape KeyWrites)). IsFromBound bound ns rest) here (is-from bound k (k - 1) ns refl without first o)

-- ---- what lies before them is not asked for

-- none of these is of the key, nor within the bound, nor of the relation
key-front : (key : Key) (l ps qs : List KeyWrites) → BeginWithout (After key) ps → IsOrdered (l ++ (ps ++ qs)) → find (is_of key) l ≡ None
key-front key [] ps qs begin o = refl
key-front key (d ∷ ds) [] qs begin o = absurd (omega (arith, begin))
key-front key (d ∷ ds) (c ∷ cs) qs begin o =
    let below : key_lt d.key c.key ≡ true = (above-back d.key ds (c ∷ (cs ++ qs)) o.0).0 in
    let other : same_key d.key key ≡ false = grind (arith, nat_tests) in
    rw other (key-front key ds (c ∷ cs) qs begin o.1)

least-front : (bound : Bound) (l ps qs : List KeyWrites) → BeginWithout bound ps → IsOrdered (l ++ (ps ++ qs)) → find (λ (c : KeyWrites). is_in bound c.key) l
    ≡ None
least-front bound [] ps qs begin o = refl
least-front bound (d ∷ ds) [] qs begin o = absurd (omega (arith, begin))
least-front bound (d ∷ ds) (c ∷ cs) qs begin o =
    let below : key_lt d.key c.key ≡ true = (above-back d.key ds (c ∷ (cs ++ qs)) o.0).0 in
    rw (out-below bound d.key c.key below begin) (least-front bound ds (c ∷ cs) qs begin o.1)

earlier-relation : (relation : ℕ) (k : Key) → is_in (From (record { relation = relation; «record» = 0 })) k ≡ false → k.relation < relation
earlier-relation relation k without = grind (arith, nat_tests)

relation-front : {X : Type 0} (relation : ℕ) (shown : KeyWrites → List X) (l ps qs : List KeyWrites)
    → BeginWithout (From (record { relation = relation; «record» = 0 })) ps → IsOrdered (l ++ (ps ++ qs))
    → of_relation relation shown l ≡ []
relation-front relation shown l [] qs begin o = absurd (omega (arith, begin))
relation-front relation shown l (c ∷ cs) qs begin o = relation-below relation shown l c (cs ++ qs) (earlier-relation relation c.key begin) o

none-later : (key : Key) (m : List KeyWrites) → AreWithin (After key) m → find (is_of key) m ≡ None
none-later key [] within = refl
none-later key (c ∷ cs) within = rw (lt-other key c.key within.0) (none-later key cs within.1)

find-front : {X : Type 0} (p : X → Bool) (l m : List X) → find p m ≡ None → find p (l ++ m) ≡ find p l
find-front p [] m none = none
find-front {X} p (d ∷ ds) m none = ap (λ (o : Option X). cond (p d) (Some d) o) (find-front p ds m none)

module _ {bound : Bound} {all rest : List (Shape KeyWrites)} (from : IsFromBound bound all rest) where
  pub parted : all_of all ≡ all_of from.front ++ all_of rest
  parted = ap all_of from.parts ∙ all_of-append from.front rest

  pub low_from : highest rest ≤ highest all
  low_from = rw from.parts (highest-append from.front rest)

  pub ordered_from : IsOrdered (all_of all) → IsOrdered (all_of rest)
  ordered_from o = ordered-back (all_of from.front) (all_of rest) (rw parted at o)

  pub least_from : IsOrdered (all_of all) → find (λ (c : KeyWrites). is_in bound c.key) (all_of rest) ≡ find (λ (c : KeyWrites). is_in bound c.key) (all_of all)
  least_from o =
      sym (ap (λ (m : List KeyWrites). find (λ (c : KeyWrites). is_in bound c.key) m) parted
      ∙ find-past (λ (c : KeyWrites). is_in bound c.key) (all_of from.front) (all_of rest) (none from.front rest from.begun (rw parted at o)))
    where
      none : (front rest : List (Shape KeyWrites)) → WithoutBehind bound front rest → IsOrdered (all_of front ++ all_of rest)
          → find (λ (c : KeyWrites). is_in bound c.key) (all_of front) ≡ None
      none [] rest begun o = refl
      none (f ∷ fs) [] begun o = absurd (omega (arith, begun))
      none (f ∷ fs) (n ∷ ns) begun o = least-front bound (all_of (f ∷ fs)) n.chunks (all_of ns) begun o

pub relation_from : {X : Type 0} {relation : ℕ} {all rest : List (Shape KeyWrites)} (shown : KeyWrites
    → List X) (from : IsFromBound (From (record { relation = relation; «record» = 0 })) all rest) → IsOrdered (all_of all)
    → of_relation relation shown (all_of rest) ≡ of_relation relation shown (all_of all)
relation_from {X} {relation} {all} {rest} shown from o =
    sym (ap (λ (m : List KeyWrites). of_relation relation shown m) (parted from)
    ∙ relation-append relation shown (all_of from.front) (all_of rest)
    ∙ ap (λ (l : List X). l ++ of_relation relation shown (all_of rest)) (none from.front rest from.begun (rw (parted from) at o)))
  where
    none : (front rest : List (Shape KeyWrites)) → WithoutBehind (From (record { relation = relation; «record» = 0 })) front rest
        → IsOrdered (all_of front ++ all_of rest) → of_relation relation shown (all_of front) ≡ []
    none [] rest begun o = refl
    none (f ∷ fs) [] begun o = absurd (omega (arith, begun))
    none (f ∷ fs) (n ∷ ns) begun o = relation-front relation shown (all_of (f ∷ fs)) n.chunks (all_of ns) begun o

pub key_from : {key : Key} {all : List (Shape KeyWrites)} {n : Shape KeyWrites} {ns : List (Shape KeyWrites)} (from : IsFromBound (After key) all (n ∷ ns))
    → IsOrdered (all_of all) → find (is_of key) (all_of all) ≡ find (is_of key) n.chunks
key_from {key} {all} {n} {ns} from o =
    ap (λ (m : List KeyWrites). find (is_of key) m) (parted from)
    ∙ find-past (is_of key) (all_of from.front) (n.chunks ++ all_of ns) (none from.front from.begun (rw (parted from) at o))
    ∙ find-front (is_of key) n.chunks (all_of ns) (none-later key (all_of ns) from.later)
  where
    none : (front : List (Shape KeyWrites)) → WithoutBehind (After key) front (n ∷ ns) → IsOrdered (all_of front ++ (n.chunks ++ all_of ns))
        → find (is_of key) (all_of front) ≡ None
    none [] begun o = refl
    none (f ∷ fs) begun o = key-front key (all_of (f ∷ fs)) n.chunks (all_of ns) begun o

-- ---- of a fork

module _ {self : Shape KeyWrites} {ns : List (Shape KeyWrites)} (fork : IsKeyFork self ns) {bound : Bound} {rest : List (Shape KeyWrites)}
    (from : IsFromBound bound ns rest) where
  pub rest_low : highest rest < self.height
  rest_low = omega (arith, low_from from, fork.height)

  pub rest_ordered : IsOrdered (all_of rest)
  rest_ordered = ordered_from from fork.ordered

  pub rest_least : find (λ (c : KeyWrites). is_in bound c.key) (all_of rest) ≡ find (λ (c : KeyWrites). is_in bound c.key) self.chunks
  rest_least = least_from from fork.ordered ∙ ap (λ (m : List KeyWrites). find (λ (c : KeyWrites). is_in bound c.key) m) fork.chains

  pub lower : {n : Shape KeyWrites} → 1 ≤ length rest → n ≡ get_or rest 0 n → n.height < self.height
  lower some is = omega (arith, first_low rest some is, rest_low)

module _ {self : Shape KeyWrites} {ns : List (Shape KeyWrites)} (fork : IsKeyFork self ns) (key : Key) (k : ℕ) (first : FirstWithin (After key) (drop k ns))
  where
    pub none_without : k ≡ 0 → find (is_of key) self.chunks ≡ None
    none_without none =
        ap (λ (m : List KeyWrites). find (is_of key) m) (sym fork.chains)
        ∙ none-later key (all_of ns) (within-nodes (After key) ns (subst (λ (i : ℕ). FirstWithin (After key) (drop i ns)) none first) fork.ordered)

    module _ {n : Shape KeyWrites} (some : 0 < k) (within : k ≤ length ns) (is : n ≡ get_or ns (k - 1) n) where
      pub node_lower : n.height < self.height
      node_lower = omega (arith, fork.height, at_low ns (k - 1) n (omega (arith, some, within)) is)

      pub node_key : (0 < k → FirstWithout (After key) (drop (k - 1) ns)) → find (is_of key) self.chunks ≡ find (is_of key) n.chunks
      node_key without =
          ap (λ (m : List KeyWrites). find (is_of key) m) (sym fork.chains)
          ∙ key_from (from-number (After key) k ns n some within is without first fork.ordered) fork.ordered

pub fork_relation : {X : Type 0} {self : Shape KeyWrites} {ns : List (Shape KeyWrites)} (fork : IsKeyFork self ns) {relation : ℕ}
    {rest : List (Shape KeyWrites)} (shown : KeyWrites → List X)
    → IsFromBound (From (record { relation = relation; «record» = 0 })) ns rest → of_relation relation shown (all_of rest)
    ≡ of_relation relation shown self.chunks
fork_relation fork {relation} shown from = relation_from shown from fork.ordered ∙ ap (λ (m : List KeyWrites). of_relation relation shown m) fork.chains

-- ---- the first of some nodes and those behind it

module _ (rest : List (Shape KeyWrites)) {n : Shape KeyWrites} (some : 1 ≤ length rest) (is : n ≡ get_or rest 0 n) where
  pub relation_first : {X : Type 0} (relation : ℕ) (shown : KeyWrites → List X) → of_relation relation shown (all_of rest) ≡ of_relation relation shown n.chunks
      ++ of_relation relation shown (all_of (behind rest))
  relation_first relation shown =
      ap (λ (m : List KeyWrites). of_relation relation shown m) (chunks_are rest some is) ∙ relation-append relation shown n.chunks (all_of (behind rest))

  pub kept_first : (mark : ℕ) → forgotten mark (all_of rest) ≡ forgotten mark n.chunks ++ forgotten mark (all_of (behind rest))
  kept_first mark = ap (λ (m : List KeyWrites). forgotten mark m) (chunks_are rest some is) ∙ forgotten-two mark n.chunks (all_of (behind rest))

  pub same_first : (mark : ℕ) → forgotten mark n.chunks ≡ n.chunks → forgotten mark (all_of (behind rest)) ≡ all_of (behind rest) → forgotten mark (all_of rest)
      ≡ all_of rest
  same_first mark e f = kept_first mark ∙ (λ i. e i ++ f i) ∙ sym (chunks_are rest some is)

  pub behind_ordered : IsOrdered (all_of rest) → IsOrdered (all_of (behind rest))
  behind_ordered o = ordered-back n.chunks (all_of (behind rest)) (rw (chunks_are rest some is) at o)

  pub relation_late : {X : Type 0} (relation : ℕ) (shown : KeyWrites → List X) (first : Key) → BeginAt first n.chunks → relation < first.relation
      → IsOrdered (all_of rest) → of_relation relation shown (all_of rest) ≡ []
  relation_late {X} relation shown first begin late o =
      ap (λ (m : List KeyWrites). of_relation relation shown m) (chunks_are rest some is) ∙ none n.chunks begin (rw (chunks_are rest some is) at o)
    where
      none : (ps : List KeyWrites) → BeginAt first ps → IsOrdered (ps ++ all_of (behind rest)) → of_relation relation shown (ps ++ all_of (behind rest)) ≡ []
      none [] begin o = absurd (omega (arith, begin))
      none (c ∷ cs) begin o =
          let later : relation < c.key.relation = subst (λ (k : Key). relation < k.relation) begin late in
          let other : c.key.relation ≢ relation = omega (arith, later) in
          rw (other-part relation shown c other) (relation-above relation shown c.key (cs ++ all_of (behind rest)) later o.0)

-- ---- chains parted in the middle

pub split-is : {X : Type 0} (l : List X) {m r : List X} {x : X} {xs : List X} → m ≡ l ++ r → r ≡ x ∷ xs → m ≡ l ++ x ∷ xs
split-is {X} l whole first = whole ∙ ap (λ (r : List X). l ++ r) first
