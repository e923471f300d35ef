-- Where the extents of chains lie: those of different numbers have no place in common.
use Rattle.std.proofs.Common.{◌≡◌, ◌≢◌, ℕ, ◌+◌, ◌-◌, ◌<◌, ◌≤◌, List, [], ◌∷◌, ◌++◌, length, map, take, drop, replicate, refl, sym, arith}
use Rattle.std.proofs.Common.{length-append, ⊎_elim, inl, inr}
use Rattle.std.specs.List.{AllByRecursion}
use Rattle.std.proofs.lemmas.List.{length-take, length-drop, length-replicate}
use Rattle.wire.specs.Numbers.{u32_bytes}
use Rattle.deltas.specs.Extents.{extent_start}
use Rattle.disk.specs.Parts.{AreApart}
use Rattle.law_layout.proofs.Lists.{numbers_apart}
use Rattle.log_extents.specs.Extents.{LinkedExtent, linked_bytes}
use Rattle.log_extents.specs.Chains.{first_or, chain_to, chain_of, IsNumberOf, IsNew, AreDistinct}
use Rattle.law_log_layout.specs.Turns.{gate_part, ArePartsApart, AreApartFrom, AreInTurn}
use Rattle.log_writer.specs.Turns.{Part}
use Rattle.log_writer.specs.Turns.{extent_part, head_part, written_parts}

-- an extent whose body fits has 8,192 bytes
pub linked-length : (e : LinkedExtent) → length e.body ≤ 8168 → length (linked_bytes e) ≡ 8192
unfolding linked_bytes u32_bytes
linked-length e fits = omega (arith, length-append e.body (replicate {A = ℕ} (8168 - length e.body) 0), length-replicate {A = ℕ} (8168 - length e.body) 0, fits)

-- the part lies within the extent of this number
pub record IsWithin (n : ℕ) (p : Part) : Type 0 where
  pub low : 0 < n
  pub from : extent_start n ≤ p.place
  pub to : p.place + length p.bytes ≤ extent_start n + 8192

smaller-apart : (a m b n a' m' b' n' : ℕ) → AreApart a m b n → a ≤ a' → a' + m' ≤ a + m → b ≤ b' → b' + n' ≤ b + n → AreApart a' m' b' n'
smaller-apart a m b n a' m' b' n' apart la ua lb ub =
    ⊎_elim (λ (before : a + m ≤ b). inl (omega (arith, before, ua, lb))) (λ (after : b + n ≤ a). inr (omega (arith, after, ub, la))) apart

pub within-apart : (n m : ℕ) (p q : Part) → IsWithin n p → IsWithin m q → n ≢ m → ArePartsApart p q
within-apart n m p q a b other =
    smaller-apart (extent_start n) 8192 (extent_start m) 8192 p.place (length p.bytes) q.place (length q.bytes) (numbers_apart n m a.low b.low other) a.from
    a.to b.from b.to

-- parts, one in each of these extents
abbrev pub AreWithin : List ℕ → List Part → Type 0
AreWithin [] [] = Unit {0}
AreWithin [] (p ∷ ps) = ⊥
AreWithin (n ∷ ns) [] = ⊥
AreWithin (n ∷ ns) (p ∷ ps) = IsWithin n p × AreWithin ns ps

pub within-append : (ns ms : List ℕ) (ps qs : List Part) → AreWithin ns ps → AreWithin ms qs → AreWithin (ns ++ ms) (ps ++ qs)
within-append [] ms [] qs a b = b
within-append [] ms (p ∷ ps) qs a b = absurd a
within-append (n ∷ ns) ms [] qs a b = absurd a
within-append (n ∷ ns) ms (p ∷ ps) qs a b = (a.0, within-append ns ms ps qs a.1 b)

-- a part in another extent lies apart from all
pub one-apart : (m : ℕ) (q : Part) (ns : List ℕ) (ps : List Part) → IsWithin m q → AreWithin ns ps → IsNew m ns → AreApartFrom q ps
one-apart m q [] [] is are new = tt
one-apart m q [] (p ∷ ps) is are new = absurd are
one-apart m q (n ∷ ns) [] is are new = absurd are
one-apart m q (n ∷ ns) (p ∷ ps) is are new = (within-apart n m p q are.0 is new.0, one-apart m q ns ps is are.1 new.1)

pub apart-one : (m : ℕ) (q : Part) (ns : List ℕ) (ps : List Part) → IsWithin m q → AreWithin ns ps → IsNew m ns
    → AllByRecursion (λ (p : Part). ArePartsApart q p) ps
apart-one m q [] [] is are new = tt
apart-one m q [] (p ∷ ps) is are new = absurd are
apart-one m q (n ∷ ns) [] is are new = absurd are
apart-one m q (n ∷ ns) (p ∷ ps) is are new = (within-apart m n q p is are.0 (λ e. new.0 (sym e)), apart-one m q ns ps is are.1 new.1)

-- each of these numbers is none of those
abbrev pub AreNew : List ℕ → List ℕ → Type 0
AreNew numbers those = AllByRecursion (λ (n : ℕ). IsNew n those) numbers

pub all-apart : (ms : List ℕ) (qs : List Part) (ns : List ℕ) (ps : List Part) → AreWithin ms qs → AreWithin ns ps → AreNew ns ms
    → AllByRecursion (λ (p : Part). AreApartFrom p qs) ps
all-apart ms qs [] [] are within new = tt
all-apart ms qs [] (p ∷ ps) are within new = absurd within
all-apart ms qs (n ∷ ns) [] are within new = absurd within
all-apart ms qs (n ∷ ns) (p ∷ ps) are within new = (one-apart n p ms qs within.0 are new.0, all-apart ms qs ns ps are within.1 new.1)

-- ---- distinct numbers

pub new-front : (m : ℕ) (xs ys : List ℕ) → IsNew m (xs ++ ys) → IsNew m xs
new-front m [] ys new = tt
new-front m (x ∷ xs) ys new = (new.0, new-front m xs ys new.1)

pub new-back : (m : ℕ) (xs ys : List ℕ) → IsNew m (xs ++ ys) → IsNew m ys
new-back m [] ys new = new
new-back m (x ∷ xs) ys new = new-back m xs ys new.1

-- one more number that none of them is
new-more : (x : ℕ) (xs ys : List ℕ) → IsNew x ys → AreNew ys xs → AreNew ys (x ∷ xs)
new-more x xs [] new are = tt
new-more x xs (y ∷ ys) new are = (((λ e. new.0 (sym e)), are.0), new-more x xs ys new.1 are.1)

pub record ArePart (xs ys : List ℕ) : Type 0 where
  pub front : AreDistinct xs
  pub back : AreDistinct ys
  pub new : AreNew ys xs

pub none-new : (ys : List ℕ) → AreNew ys []
none-new [] = tt
none-new (y ∷ ys) = (tt, none-new ys)

pub distinct-parts : (xs ys : List ℕ) → AreDistinct (xs ++ ys) → ArePart xs ys
distinct-parts [] ys all = record { front = tt; back = all; new = none-new ys }
distinct-parts (x ∷ xs) ys all =
    let rest = distinct-parts xs ys all.1 in
    record { front = (new-front x xs ys all.0, rest.front); back = rest.back; new = new-more x xs ys (new-back x xs ys all.0) rest.new }

pub in-turn : (bs : List ℕ) (before : List Part) (ns : List ℕ) (ps : List Part) → AreWithin bs before → AreWithin ns ps → AreDistinct ns → AreNew ns bs
    → AreInTurn before ps
in-turn bs before [] [] are within distinct new = tt
in-turn bs before [] (p ∷ ps) are within distinct new = absurd within
in-turn bs before (n ∷ ns) [] are within distinct new = absurd within
in-turn bs before (n ∷ ns) (p ∷ ps) are within distinct new = (
  one-apart n p bs before within.0 are new.0,
  in-turn (bs ++ n ∷ []) (before ++ p
      ∷ []) ns ps (within-append bs (n ∷ []) before (p ∷ []) are (within.0, tt)) within.1 distinct.1 (new-behind n bs ns distinct.0 new.1),
)
  where
    new-one : (m n : ℕ) (xs : List ℕ) → IsNew m xs → n ≢ m → IsNew m (xs ++ n ∷ [])
    new-one m n [] new other = (other, tt)
    new-one m n (x ∷ xs) new other = (new.0, new-one m n xs new.1 other)

    new-behind : (n : ℕ) (bs ns : List ℕ) → IsNew n ns → AreNew ns bs → AreNew ns (bs ++ n ∷ [])
    new-behind n bs [] other new = tt
    new-behind n bs (m ∷ ms) other new = (new-one m n bs new.0 (λ e. other.0 (sym e)), new-behind n bs ms other.1 new.1)

-- ---- chains

fits : (content : List ℕ) → length (take 8168 content) ≤ 8168
fits content = omega (arith, length-take 8168 content)

extent-within : (n : ℕ) (e : LinkedExtent) → 0 < n → e.number ≡ n → length e.body ≤ 8168 → IsWithin n (extent_part e)
extent-within n e low is small = record { low = low; from = omega (arith, is); to = omega (arith, is, linked-length e small) }

pub chain-within : (most end gate link : ℕ) (numbers content : List ℕ) → AllByRecursion (IsNumberOf most) numbers
    → AreWithin numbers (map extent_part (chain_to end gate link numbers content))
chain-within most end gate link [] content are = tt
chain-within most end gate link (n ∷ ns) content are = (
  extent-within n (record { gate = gate; number = n; next = first_or end ns; link = link; body = take 8168 content }) are.0.0 refl (fits content),
  chain-within most end 0 0 ns (drop 8168 content) are.1,
)

pub written-within : (most gate link : ℕ) (numbers content : List ℕ) → AllByRecursion (IsNumberOf most) numbers
    → AreWithin numbers (written_parts (chain_of gate link numbers content))
written-within most gate link [] content are = tt
written-within most gate link (n ∷ ns) content are =
    let e : LinkedExtent = record { gate = gate; number = n; next = first_or 0 ns; link = link; body = take 8168 content } in (
      record { low = are.0.0; from = omega arith; to = omega (arith, linked-length e (fits content), length-drop 1 (linked_bytes e)) },
      chain-within most 0 0 0 ns (drop 8168 content) are.1,
    )

pub gate-within : (n gate : ℕ) → 0 < n → IsWithin n (gate_part (extent_start n) gate)
gate-within n gate low = record { low = low; from = omega arith; to = omega arith }

-- the head without its gate lies apart from the gate
pub head-apart : (e : LinkedExtent) (gate : ℕ) → ArePartsApart (head_part e) (gate_part (extent_start e.number) gate)
    × ArePartsApart (gate_part (extent_start e.number) gate) (head_part e)
head-apart e gate = (inr (omega arith), inl (omega arith))
