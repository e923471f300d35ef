-- What the writes of a commit make of a tree's chains, on the two sides of one.
use Rattle.std.proofs.Common.{◌≡◌, ℕ, zero, suc, ◌<◌, ◌≤◌, ◌^◌, true, false, Bool, cond, List, [], ◌∷◌, ◌++◌, length, get_or, take, drop, Option, None, Some}
use Rattle.std.proofs.Common.{refl, ap, sym, ◌∙◌, subst, arith, append-nil, append_assoc}
use Rattle.std.specs.Prelude.{map}
use Rattle.std.specs.List.{AllByRecursion}
use Rattle.std.specs.List.Sorted.{IsStrictlySortedBy, IsPartitionedBy}
use Rattle.std.specs.declared.cmp.Ordering.TheVariants.{Less}
use Rattle.std.proofs.lemmas.Bool.Decides.{nat_tests}
use Rattle.std.proofs.lemmas.List.{take-append-drop}
use Rattle.history.specs.declared.key.Key.{Key}
use Rattle.history.specs.declared.key.KeyWrite.{KeyWrite}
use Rattle.history.specs.Key.{key_cmp, key_lt}
use Rattle.history.proofs.Keys.{key_lt-from_less}
use Rattle.chains.specs.Committing.{AreBefore, AreBehind, BeginFrom, IsParted, IsOwn, only, HasOwn, ArePartedAt, with_own}
use Rattle.chains.specs.KeyNodes.{BeginAt}
use Rattle.chains.specs.Writes.{Value, Write, last_time}
use Rattle.chains.specs.KeyWrites.{KeyWrites, IsOrdered, AreRising, latest, with_write, with_commit}
use Rattle.chains.proofs.Order.{above-back, lt-trans, lt-not, neither-same, with_write-left, with_write-right, with_write-middle, ordered-with_write}
use Rattle.chains.proofs.Commits.{stamped, MayAllFollow, key-same}
use Rattle.chains.proofs.Rising.{rising-with_write}

abbrev pub WriteSet : Type 0
WriteSet = List (KeyWrite Value)

abbrev pub keys : WriteSet → List Key
keys ws = map (λ (w : KeyWrite Value). w.key) ws

-- ---- a sorted write set, parted at a key

all-at : {K : Type 0} (P : K → Type 0) (f : KeyWrite Value → K) (ws : WriteSet) (j : ℕ) (d : KeyWrite Value) → j < length ws → AllByRecursion P (map f ws)
    → P (f (get_or ws j d))
all-at P f [] j d h all = absurd (omega arith)
all-at P f (w ∷ ws) zero d h all = all.0
all-at P f (w ∷ ws) (suc j) d h all = all-at P f ws j d (omega arith) all.1

pub parted-keys : (key : Key) (ws : WriteSet) → IsStrictlySortedBy key_cmp (keys ws) → IsPartitionedBy (λ (w : KeyWrite Value). key_lt w.key key) ws
unfolding IsStrictlySortedBy
parted-keys key [] sorted i j d order h = absurd (omega arith)
parted-keys key (w ∷ ws) sorted zero zero d order h = λ e. e
parted-keys key (w ∷ ws) sorted zero (suc j) d order h = λ e.
    lt-trans w.key (get_or ws j d).key key
    (key_lt-from_less w.key (get_or ws j d).key (all-at (λ y. key_cmp w.key y ≡ Less) (λ (x : KeyWrite Value). x.key) ws j d (omega arith) sorted.0)) e
parted-keys key (w ∷ ws) sorted (suc i) zero d order h = absurd (omega arith)
parted-keys key (w ∷ ws) sorted (suc i) (suc j) d order h = parted-keys key ws sorted.1 i j d (omega arith) (omega arith)

before-take : (key : Key) (ws : WriteSet) (n : ℕ) → n ≤ length ws → ((k : ℕ) (d : KeyWrite Value) → k < n → key_lt (get_or ws k d).key key ≡ true)
    → AreBefore key (take n ws)
before-take key ws zero h each = tt
before-take key [] (suc n) h each = absurd (omega arith)
before-take key (w ∷ ws) (suc n) h each = (each 0 w (omega arith), before-take key ws n (omega arith) (λ k d l. each (suc k) d (omega arith)))

from-drop : (key : Key) (ws : WriteSet) (n : ℕ) → ((k : ℕ) (d : KeyWrite Value) → n ≤ k → k < length ws → key_lt (get_or ws k d).key key ≡ false)
    → BeginFrom key (drop n ws)
from-drop key [] zero each = tt
from-drop key [] (suc n) each = tt
from-drop key (w ∷ ws) zero each = each 0 w (omega arith) (omega arith)
from-drop key (w ∷ ws) (suc n) each = from-drop key ws n (λ k d l m. each (suc k) d (omega arith) (omega arith))

above-take : (k : Key) (n : ℕ) (ws : WriteSet) → AllByRecursion (λ y. key_cmp k y ≡ Less) (keys ws)
    → AllByRecursion (λ y. key_cmp k y ≡ Less) (keys (take n ws))
above-take k zero ws up = tt
above-take k (suc n) [] up = tt
above-take k (suc n) (w ∷ ws) up = (up.0, above-take k n ws up.1)

sorted-take : (n : ℕ) (ws : WriteSet) → IsStrictlySortedBy key_cmp (keys ws) → IsStrictlySortedBy key_cmp (keys (take n ws))
unfolding IsStrictlySortedBy
sorted-take zero ws sorted = tt
sorted-take (suc n) [] sorted = tt
sorted-take (suc n) (w ∷ ws) sorted = (above-take w.key n ws sorted.0, sorted-take n ws sorted.1)

sorted-drop : (n : ℕ) (ws : WriteSet) → IsStrictlySortedBy key_cmp (keys ws) → IsStrictlySortedBy key_cmp (keys (drop n ws))
unfolding IsStrictlySortedBy
sorted-drop zero ws sorted = sorted
sorted-drop (suc n) [] sorted = tt
sorted-drop (suc n) (w ∷ ws) sorted = sorted-drop n ws sorted.1

behind-above : (key k : Key) (ws : WriteSet) → key ≡ k → AllByRecursion (λ y. key_cmp k y ≡ Less) (keys ws) → AreBehind key ws
behind-above key k [] same up = tt
behind-above key k (w ∷ ws) same up =
    let here : key_lt k w.key ≡ true = key_lt-from_less k w.key up.0 in
    (rw same here, behind-above key k ws same up.1)

behind-later : (key k : Key) (ws : WriteSet) → key_lt key k ≡ true → AllByRecursion (λ y. key_cmp k y ≡ Less) (keys ws) → AreBehind key ws
behind-later key k [] h up = tt
behind-later key k (w ∷ ws) h up = (lt-trans key k w.key h (key_lt-from_less k w.key up.0), behind-later key k ws h up.1)

-- the first one is of the key, or of a later one
pub key-found : (key k : Key) → key_lt k key ≡ false → key_lt key k ≡ false → k ≡ key
key-found key k h l = key-same k key (neither-same k key h l)

-- a write set, parted
pub parted-at : (key : Key) (ws : WriteSet) (n : ℕ) → IsStrictlySortedBy key_cmp (keys ws) → n ≤ length ws
    → ((k : ℕ) (d : KeyWrite Value) → k < n → key_lt (get_or ws k d).key key ≡ true)
    → ((k : ℕ) (d : KeyWrite Value) → n ≤ k → k < length ws → key_lt (get_or ws k d).key key ≡ false) → IsParted key ws (take n ws) (drop n ws)
parted-at key ws n sorted within low high = record {
  all = sym (take-append-drop n ws);
  earlier = before-take key ws n within low;
  begins = from-drop key ws n high;
  rising_before = sorted-take n ws sorted;
  rising_rest = sorted-drop n ws sorted;
}

-- one with no write of the key, and one that begins with it
pub own-none : (key : Key) (ws : WriteSet) → length ws ≡ 0 → HasOwn key ws None ws
unfolding IsStrictlySortedBy
own-none key [] none = record { all = refl; found_is = tt; behind = tt; rising_after = tt }
own-none key (w ∷ ws) none = absurd (omega (arith, none))

pub own-later : (key : Key) (ws : WriteSet) (w : KeyWrite Value) (vs : WriteSet) → ws ≡ w ∷ vs → IsStrictlySortedBy key_cmp (keys ws) → key_lt key w.key ≡ true
    → HasOwn key ws None ws
unfolding IsStrictlySortedBy
own-later key ws w vs is sorted h =
    let s : IsStrictlySortedBy key_cmp (keys (w ∷ vs)) = subst (λ (l : WriteSet). IsStrictlySortedBy key_cmp (keys l)) is sorted in
    let behind : AreBehind key (w ∷ vs) = (h, behind-later key w.key vs h s.0) in
    record { all = refl; found_is = tt; behind = subst (λ (l : WriteSet). AreBehind key l) (sym is) behind; rising_after = sorted }

pub own-here : (key : Key) (ws : WriteSet) (w : KeyWrite Value) (vs : WriteSet) → ws ≡ w ∷ vs → IsStrictlySortedBy key_cmp (keys ws) → BeginFrom key ws
    → key_lt key w.key ≡ false → HasOwn key ws (Some w) vs
unfolding IsStrictlySortedBy
own-here key ws w vs is sorted begins h =
    let s : IsStrictlySortedBy key_cmp (keys (w ∷ vs)) = subst (λ (l : WriteSet). IsStrictlySortedBy key_cmp (keys l)) is sorted in
    let low : key_lt w.key key ≡ false = subst (λ (l : WriteSet). BeginFrom key l) is begins in
    let same : w.key ≡ key = key-found key w.key low h in
    record { all = is; found_is = same; behind = behind-above key w.key vs (sym same) s.0; rising_after = s.1 }

above-split : (k : Key) (fs : WriteSet) (w : KeyWrite Value) (bs : WriteSet) → AllByRecursion (λ y. key_cmp k y ≡ Less) (keys (fs ++ w ∷ bs)) → key_lt k w.key
    ≡ true
above-split k [] w bs up = key_lt-from_less k w.key up.0
above-split k (f ∷ fs) w bs up = above-split k fs w bs up.1

above-front : (k : Key) (fs rest : WriteSet) → AllByRecursion (λ y. key_cmp k y ≡ Less) (keys (fs ++ rest)) → AllByRecursion (λ y. key_cmp k y ≡ Less) (keys fs)
above-front k [] rest up = tt
above-front k (f ∷ fs) rest up = (up.0, above-front k fs rest up.1)

tail-sorted : (fs : WriteSet) (w : KeyWrite Value) (bs : WriteSet) → IsStrictlySortedBy key_cmp (keys (fs ++ w ∷ bs)) → IsStrictlySortedBy key_cmp (keys bs)
unfolding IsStrictlySortedBy
tail-sorted [] w bs sorted = sorted.1
tail-sorted (f ∷ fs) w bs sorted = tail-sorted fs w bs sorted.1

-- a sorted write set around one of its writes
sorted-around : (fs : WriteSet) (w : KeyWrite Value) (bs : WriteSet) → IsStrictlySortedBy key_cmp (keys (fs ++ w ∷ bs)) → AreBefore w.key fs
    × AreBehind w.key bs
unfolding IsStrictlySortedBy
sorted-around [] w bs sorted = (tt, behind-above w.key w.key bs refl sorted.0)
sorted-around (f ∷ fs) w bs sorted =
    let rest = sorted-around fs w bs sorted.1 in
    ((above-split f.key fs w bs sorted.0, rest.0), rest.1)

-- ---- what the parts of a write set make of the chains around one

commit-append : (m : List KeyWrites) (time : ℕ) (fs bs : WriteSet) → with_commit m time (fs ++ bs) ≡ with_commit (with_commit m time fs) time bs
commit-append m time [] bs = refl
commit-append m time (w ∷ ws) bs = commit-append (with_write m w.key (stamped time w)) time ws bs

pub ordered-with_commit : (m : List KeyWrites) (time : ℕ) (ws : WriteSet) → IsOrdered m → IsOrdered (with_commit m time ws)
ordered-with_commit m time [] o = o
ordered-with_commit m time (w ∷ ws) o = ordered-with_commit (with_write m w.key (stamped time w)) time ws (ordered-with_write w.key (stamped time w) m o)

commit-before : (l : List KeyWrites) (c : KeyWrites) (r : List KeyWrites) (time : ℕ) (fs : WriteSet) → AreBefore c.key fs → with_commit (l ++ c ∷ r) time fs
    ≡ with_commit l time fs ++ c ∷ r
commit-before l c r time [] up = refl
commit-before l c r time (w ∷ ws) up =
    ap (λ (m : List KeyWrites). with_commit m time ws) (with_write-left w.key (stamped time w) l c r up.0)
    ∙ commit-before (with_write l w.key (stamped time w)) c r time ws up.1

commit-behind : (l : List KeyWrites) (c : KeyWrites) (r : List KeyWrites) (time : ℕ) (bs : WriteSet) → AreBehind c.key bs → IsOrdered (l ++ c ∷ r)
    → with_commit (l ++ c ∷ r) time bs ≡ l ++ c ∷ with_commit r time bs
commit-behind l c r time [] up o = refl
commit-behind l c r time (w ∷ ws) up o =
    let x = stamped time w in
    let moved = with_write-right w.key x l c r up.0 o in
    let ordered : IsOrdered (l ++ c ∷ with_write r w.key x) = subst IsOrdered moved (ordered-with_write w.key x (l ++ c ∷ r) o) in
    ap (λ (m : List KeyWrites). with_commit m time ws) moved ∙ commit-behind l c (with_write r w.key x) time ws up.1 ordered

irreflexive : (a : Key) → key_lt a a ≡ false
irreflexive a = grind (arith, nat_tests)

commit-own : (l : List KeyWrites) (c : KeyWrites) (r : List KeyWrites) (time : ℕ) (same : Option (KeyWrite Value)) → IsOwn c.key same → IsOrdered (l ++ c ∷ r)
    → with_commit (l ++ c ∷ r) time (only same) ≡ l ++ with_own time c same ∷ r
commit-own l c r time None is o = refl
commit-own l c r time (Some w) is o =
    let low : key_lt w.key c.key ≡ false = subst (λ (k : Key). key_lt k c.key ≡ false) (sym is) (irreflexive c.key) in
    let high : key_lt c.key w.key ≡ false = subst (λ (k : Key). key_lt c.key k ≡ false) (sym is) (irreflexive c.key) in
    with_write-middle w.key (stamped time w) l c r low high o

own-key : (time : ℕ) (c : KeyWrites) (same : Option (KeyWrite Value)) (bs : WriteSet) → AreBehind c.key bs → AreBehind (with_own time c same).key bs
own-key time c None bs up = up
own-key time c (Some w) bs up = up

commit-parted : (l : List KeyWrites) (c : KeyWrites) (r : List KeyWrites) (time : ℕ) (fs : WriteSet) (same : Option (KeyWrite Value)) (bs : WriteSet)
    → AreBefore c.key fs → IsOwn c.key same → AreBehind c.key bs → IsOrdered (l ++ c ∷ r)
    → with_commit (l ++ c ∷ r) time (fs ++ (only same ++ bs)) ≡ with_commit l time fs ++ with_own time c same ∷ with_commit r time bs
commit-parted l c r time fs same bs before is behind o =
    let l' = with_commit l time fs in
    let first : with_commit (l ++ c ∷ r) time fs ≡ l' ++ c ∷ r = commit-before l c r time fs before in
    let o1 : IsOrdered (l' ++ c ∷ r) = subst IsOrdered first (ordered-with_commit (l ++ c ∷ r) time fs o) in
    let second : with_commit (l' ++ c ∷ r) time (only same) ≡ l' ++ with_own time c same ∷ r = commit-own l' c r time same is o1 in
    let o2 : IsOrdered (l' ++ with_own time c same ∷ r) = subst IsOrdered second (ordered-with_commit (l' ++ c ∷ r) time (only same) o1) in
    commit-append (l ++ c ∷ r) time fs (only same ++ bs)
    ∙ ap (λ (m : List KeyWrites). with_commit m time (only same ++ bs)) first
    ∙ commit-append (l' ++ c ∷ r) time (only same) bs
    ∙ ap (λ (m : List KeyWrites). with_commit m time bs) second
    ∙ commit-behind l' (with_own time c same) r time bs (own-key time c same bs behind) o2

-- ---- a write set of new keys alone

-- all of these chains are of earlier keys
AreUnder : Key → List KeyWrites → Type 0
AreUnder key [] = Unit {0}
AreUnder key (c ∷ cs) = (key_lt c.key key ≡ true) × AreUnder key cs

under-with_write : (key k : Key) (w : Write) (m : List KeyWrites) → key_lt k key ≡ true → AreUnder key m → AreUnder key (with_write m k w)
unfolding AreUnder
under-with_write key k w [] h up = (h, tt)
under-with_write key k w (d ∷ ds) h up =
    let rest = under-with_write key k w ds h up.1 in
    let new : KeyWrites = record { key = k; writes = w ∷ [] } in
    let more : KeyWrites = record { key = d.key; writes = d.writes ++ w ∷ [] } in
    let Goal : Bool → Bool → Type 0 = λ a b. AreUnder key (cond a (new ∷ d ∷ ds) (cond b (d ∷ with_write ds k w) (more ∷ ds))) in
    elim (key_lt k d.key) as (λ a. Goal a (key_lt d.key k)) [
      | true ↦ (h, up)
      | false ↦ elim (key_lt d.key k) as (λ b. Goal false b) [ true ↦ (up.0, rest) | false ↦ (up.0, up.1) ]
    ]

under-with_commit : (key : Key) (m : List KeyWrites) (time : ℕ) (fs : WriteSet) → AreBefore key fs → AreUnder key m → AreUnder key (with_commit m time fs)
under-with_commit key m time [] before up = up
under-with_commit key m time (w ∷ ws) before up =
    under-with_commit key (with_write m w.key (stamped time w)) time ws before.1 (under-with_write key w.key (stamped time w) m before.0 up)

with_write-end : (key : Key) (w : Write) (m : List KeyWrites) → AreUnder key m → with_write m key w ≡ m ++ record { key = key; writes = w ∷ [] } ∷ []
unfolding AreUnder
with_write-end key w [] up = refl
with_write-end key w (d ∷ ds) up =
    rw (lt-not d.key key up.0, up.0) (ap (λ (x : List KeyWrites). d ∷ x) (with_write-end key w ds up.1))

commit-new : (time : ℕ) (fs : WriteSet) (w : KeyWrite Value) (bs : WriteSet) → AreBefore w.key fs → AreBehind w.key bs
    → with_commit [] time (fs ++ w ∷ bs) ≡ with_commit [] time fs ++ record { key = w.key; writes = stamped time w ∷ [] } ∷ with_commit [] time bs
unfolding AreUnder
commit-new time fs w bs before behind =
    let m = with_commit [] time fs in
    let c : KeyWrites = record { key = w.key; writes = stamped time w ∷ [] } in
    let ended : with_write m w.key (stamped time w) ≡ m ++ c ∷ [] = with_write-end w.key (stamped time w) m (under-with_commit w.key [] time fs before tt) in
    let ordered : IsOrdered (m ++ c ∷ []) = subst IsOrdered ended (ordered-with_write w.key (stamped time w) m (ordered-with_commit [] time fs tt)) in
    commit-append [] time fs (w ∷ bs)
    ∙ ap (λ (l : List KeyWrites). with_commit l time bs) ended
    ∙ commit-behind m c [] time bs behind ordered

-- the two sides of one of the writes
pub sorted-front : (ws fs rest : WriteSet) → ws ≡ fs ++ rest → IsStrictlySortedBy key_cmp (keys ws) → IsStrictlySortedBy key_cmp (keys fs)
unfolding IsStrictlySortedBy
sorted-front ws [] rest is sorted = tt
sorted-front ws (f ∷ fs) rest is sorted =
    let s : IsStrictlySortedBy key_cmp (keys (f ∷ (fs ++ rest))) = subst (λ (l : WriteSet). IsStrictlySortedBy key_cmp (keys l)) is sorted in
    (above-front f.key fs rest s.0, sorted-front (fs ++ rest) fs rest refl s.1)

pub sorted-back : (ws fs rest : WriteSet) (w : KeyWrite Value) (bs : WriteSet) → ws ≡ fs ++ rest → rest ≡ w ∷ bs → IsStrictlySortedBy key_cmp (keys ws)
    → IsStrictlySortedBy key_cmp (keys bs)
sorted-back ws fs rest w bs is first sorted =
    let whole : ws ≡ fs ++ w ∷ bs = is ∙ ap (λ (l : WriteSet). fs ++ l) first in
    tail-sorted fs w bs (subst (λ (l : WriteSet). IsStrictlySortedBy key_cmp (keys l)) whole sorted)

pub commit-around : (time : ℕ) (ws fs rest : WriteSet) (w : KeyWrite Value) (bs : WriteSet) → ws ≡ fs ++ rest → rest ≡ w ∷ bs
    → IsStrictlySortedBy key_cmp (keys ws)
    → with_commit [] time ws ≡ with_commit [] time fs ++ record { key = w.key; writes = stamped time w ∷ [] } ∷ with_commit [] time bs
commit-around time ws fs rest w bs is first sorted =
    let whole : ws ≡ fs ++ w ∷ bs = is ∙ ap (λ (l : WriteSet). fs ++ l) first in
    let around = sorted-around fs w bs (subst (λ (l : WriteSet). IsStrictlySortedBy key_cmp (keys l)) whole sorted) in
    ap (λ (l : WriteSet). with_commit [] time l) whole ∙ commit-new time fs w bs around.0 around.1

pub commit-nothing : (m : List KeyWrites) (time : ℕ) (ws : WriteSet) → length ws ≡ 0 → with_commit m time ws ≡ m
commit-nothing m time [] none = refl
commit-nothing m time (w ∷ ws) none = absurd (omega (arith, none))

-- ---- times

latest-front : (l m : List KeyWrites) → latest l ≤ latest (l ++ m)
latest-front [] m = omega arith
latest-front (c ∷ cs) m = omega (arith, latest-front cs m)

latest-back : (l m : List KeyWrites) → latest m ≤ latest (l ++ m)
latest-back [] m = omega arith
latest-back (c ∷ cs) m = omega (arith, latest-back cs m)

pub rising-with_commit : (time : ℕ) (m : List KeyWrites) (ws : WriteSet) → time < 2 ^ 63 → MayAllFollow time m ws → AreRising m
    → AreRising (with_commit m time ws)
rising-with_commit time m [] small follow up = up
rising-with_commit time m (w ∷ ws) small follow up =
    rising-with_commit time (with_write m w.key (stamped time w)) ws small follow.1 (rising-with_write w.key (stamped time w) m up follow.0 small)

module _ {m : List KeyWrites} (l : List KeyWrites) (c : KeyWrites) (r : List KeyWrites) (is : m ≡ l ++ c ∷ r) (time : ℕ) (later : latest m < time) where
  pub left_earlier : latest l < time
  left_earlier = let h : latest (l ++ c ∷ r) < time = rw is at later in omega (arith, h, latest-front l (c ∷ r))

  pub right_earlier : latest r < time
  right_earlier = let h : latest (l ++ c ∷ r) < time = rw is at later in omega (arith, h, latest-back l (c ∷ r))

  pub chain_earlier : last_time c.writes < time
  chain_earlier = let h : latest (l ++ c ∷ r) < time = rw is at later in omega (arith, h, latest-back l (c ∷ r))

-- chains with a write set that is parted at the key of one of them
pub commit-around_chain : {m : List KeyWrites} (l : List KeyWrites) (c : KeyWrites) (r : List KeyWrites) {key : Key} → m ≡ l ++ c ∷ r → key ≡ c.key
    → IsOrdered m
    → (time : ℕ) (ws before rest : WriteSet) (found : Option (KeyWrite Value)) (after : WriteSet) → IsParted key ws before rest → HasOwn key rest found after
    → with_commit m time ws ≡ with_commit l time before ++ with_own time c found ∷ with_commit r time after
commit-around_chain {m} l c r {key} is place ordered time ws before rest found after parted has =
    ap (λ (n : List KeyWrites). with_commit n time ws) is
    ∙ ap (λ (vs : WriteSet). with_commit (l ++ c ∷ r) time vs) (parted.all ∙ ap (λ (vs : WriteSet). before ++ vs) has.all)
    ∙ commit-parted l c r time before found after
    (subst (λ (k : Key). AreBefore k before) place parted.earlier) (subst (λ (k : Key). IsOwn k found) place has.found_is)
    (subst (λ (k : Key). AreBehind k after) place has.behind)
    (subst IsOrdered is ordered)

-- ---- chains in two parts, and a write set that is parted at the first key of the later ones

under-ordered : (l : List KeyWrites) (c : KeyWrites) (r : List KeyWrites) → IsOrdered (l ++ c ∷ r) → AreUnder c.key l
unfolding AreUnder
under-ordered [] c r o = tt
under-ordered (d ∷ ds) c r o = ((above-back d.key ds (c ∷ r) o.0).0, under-ordered ds c r o.1)

under-later : (a b : Key) (m : List KeyWrites) → key_lt b a ≡ false → AreUnder a m → AreUnder b m
unfolding AreUnder
under-later a b [] h up = tt
under-later a b (d ∷ ds) h up = (lt-upto d.key a b up.0 h, under-later a b ds h up.1)
  where
    lt-upto : (k a b : Key) → key_lt k a ≡ true → key_lt b a ≡ false → key_lt k b ≡ true
    lt-upto k a b h i = grind (arith, nat_tests)

with_write-over : (key : Key) (w : Write) (l m : List KeyWrites) → AreUnder key l → with_write (l ++ m) key w ≡ l ++ with_write m key w
unfolding AreUnder
with_write-over key w [] m up = refl
with_write-over key w (d ∷ ds) m up =
    rw (lt-not d.key key up.0, up.0) (ap (λ (x : List KeyWrites). d ∷ x) (with_write-over key w ds m up.1))

-- each of these is of no key before this one
AreFrom : Key → WriteSet → Type 0
AreFrom key [] = Unit {0}
AreFrom key (w ∷ ws) = (key_lt w.key key ≡ false) × AreFrom key ws

from-sorted : (key k : Key) (ws : WriteSet) → key_lt k key ≡ false → AllByRecursion (λ y. key_cmp k y ≡ Less) (keys ws) → AreFrom key ws
unfolding AreFrom
from-sorted key k [] h up = tt
from-sorted key k (w ∷ ws) h up = (not-before key k w.key h (key_lt-from_less k w.key up.0), from-sorted key k ws h up.1)
  where
    not-before : (a b c : Key) → key_lt b a ≡ false → key_lt b c ≡ true → key_lt c a ≡ false
    not-before a b c h i = grind (arith, nat_tests)

all-from : (key : Key) (ws : WriteSet) → BeginFrom key ws → IsStrictlySortedBy key_cmp (keys ws) → AreFrom key ws
unfolding AreFrom IsStrictlySortedBy
all-from key [] begins sorted = tt
all-from key (w ∷ ws) begins sorted = (begins, from-sorted key w.key ws begins sorted.0)

commit-over : (l m : List KeyWrites) (key : Key) (time : ℕ) (ws : WriteSet) → AreUnder key l → AreFrom key ws → with_commit (l ++ m) time ws ≡ l
    ++ with_commit m time ws
unfolding AreFrom
commit-over l m key time [] up from = refl
commit-over l m key time (w ∷ ws) up from =
    ap (λ (n : List KeyWrites). with_commit n time ws) (with_write-over w.key (stamped time w) l m (under-later key w.key l from.0 up))
    ∙ commit-over l (with_write m w.key (stamped time w)) key time ws up from.1

pub commit-two : (l m : List KeyWrites) (time : ℕ) (ws before rest : WriteSet) → ArePartedAt m ws before rest → IsOrdered (l ++ m)
    → with_commit (l ++ m) time ws ≡ with_commit l time before ++ with_commit m time rest
commit-two l [] time ws before rest parted o =
    (λ i. with_commit (append-nil l i) time (parted.0 i)) ∙ sym (append-nil (with_commit l time before))
    ∙ ap (λ (n : List KeyWrites). with_commit l time before ++ n) (ap (λ (vs : WriteSet). with_commit [] time vs) (sym parted.1))
commit-two l (c ∷ cs) time ws before rest parted o =
    let under : AreUnder c.key (with_commit l time before) = under-with_commit c.key l time before parted.earlier (under-ordered l c cs o) in
    ap (λ (vs : WriteSet). with_commit (l ++ c ∷ cs) time vs) parted.all
    ∙ commit-append (l ++ c ∷ cs) time before rest
    ∙ ap (λ (n : List KeyWrites). with_commit n time rest) (commit-before l c cs time before parted.earlier)
    ∙ commit-over (with_commit l time before) (c ∷ cs) c.key time rest under (all-from c.key rest parted.begins parted.rising_rest)

-- both parts of it rise
pub two-rising : (m : List KeyWrites) (ws before rest : WriteSet) → ArePartedAt m ws before rest → IsStrictlySortedBy key_cmp (keys ws)
    → IsStrictlySortedBy key_cmp (keys before) × IsStrictlySortedBy key_cmp (keys rest)
unfolding IsStrictlySortedBy
two-rising [] ws before rest parted sorted = (
  subst (λ (vs : WriteSet). IsStrictlySortedBy key_cmp (keys vs)) parted.0 sorted,
  subst (λ (vs : WriteSet). IsStrictlySortedBy key_cmp (keys vs)) (sym parted.1) tt,
)
two-rising (c ∷ cs) ws before rest parted sorted = (parted.rising_before, parted.rising_rest)

pub latest-parts : (l m : List KeyWrites) (time : ℕ) → latest (l ++ m) < time → (latest l < time) × (latest m < time)
latest-parts l m time h = (omega (arith, h, latest-front l m), omega (arith, h, latest-back l m))

-- what was put behind others one after another
pub put-around : {X : Type 0} (old first second new a c : List X) (x : X) → first ≡ old ++ a → second ≡ first ++ x ∷ [] → new ≡ second ++ c → new ≡ old
    ++ (a ++ x ∷ c)
put-around {X} old first second new a c x e f g =
    g ∙ ap (λ (l : List X). l ++ c) (f ∙ ap (λ (l : List X). l ++ x ∷ []) e) ∙ append_assoc (old ++ a) (x ∷ []) c ∙ append_assoc old a (x ∷ c)

-- a write set that is parted at the first key of some chains, with others behind them
pub parted-first : (ps qs : List KeyWrites) (key : Key) (ws before rest : WriteSet) → BeginAt key ps → IsParted key ws before rest
    → ArePartedAt (ps ++ qs) ws before rest
parted-first [] qs key ws before rest begin parted = absurd (omega (arith, begin))
parted-first (c ∷ cs) qs key ws before rest begin parted = subst (λ (k : Key). IsParted k ws before rest) begin parted
