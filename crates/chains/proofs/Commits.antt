-- What the writes of one commit change.
use Rattle.std.proofs.Common.{◌≡◌, ℕ, ◌<◌, ◌≤◌, true, false, Bool, cond, List, [], ◌∷◌, ◌++◌, Option, Some, None, refl, ap, sym, ◌∙◌, subst, arith, append-nil}
use Rattle.std.specs.Prelude.{find, map, option_map, option_to_list}
use Rattle.std.specs.List.{AllByRecursion}
use Rattle.std.specs.List.Sorted.{IsStrictlySortedBy}
use Rattle.std.specs.declared.cmp.Ordering.TheVariants.{Less}
use Rattle.std.proofs.lemmas.Bool.Decides.{nat_tests}
use Rattle.history.specs.declared.key.Key.{Key}
use Rattle.history.specs.declared.key.KeyWrite.{KeyWrite}
use Rattle.history.specs.Key.{key_cmp, key_lt, same_key, write_in}
use Rattle.history.proofs.Keys.{key_lt-from_less}
use Rattle.chains.specs.Writes.{Value, Write, last_time, last_time_after, written}
use Rattle.chains.specs.KeyWrites.{KeyWrites, is_of, IsOrdered, writes_in, writes_of, latest, with_write, with_commit}
use Rattle.chains.proofs.Order.{lt-other', ordered-with_write}
use Rattle.chains.proofs.Written.{writes_of-with_write}

-- a write of a commit with its time
abbrev pub stamped : ℕ → KeyWrite Value → Write
stamped time w = record { time = time; write = w.write }

-- all of these keys were last written before the time
abbrev pub AreOlder : ℕ → List KeyWrites → List (KeyWrite Value) → Type 0
AreOlder time m [] = Unit {0}
AreOlder time m (w ∷ ws) = (last_time (writes_of m w.key) < time) × AreOlder time m ws

-- these writes may follow, one after another
abbrev pub MayAllFollow : ℕ → List KeyWrites → List (KeyWrite Value) → Type 0
MayAllFollow time m [] = Unit {0}
MayAllFollow time m (w ∷ ws) = (last_time (writes_of m w.key) < time) × MayAllFollow time (with_write m w.key (stamped time w)) ws

pub key-same : (a b : Key) → same_key a b ≡ true → a ≡ b
key-same a b h =
    let relation : a.relation ≡ b.relation = grind (arith, nat_tests) in
    let number : a.record ≡ b.record = grind (arith, nat_tests) in
    λ i. record { relation = relation i; «record» = number i }

pub last_time-upto : (m : List KeyWrites) (key : Key) → last_time (writes_of m key) ≤ latest m
last_time-upto [] key = omega arith
last_time-upto (c ∷ cs) key =
    elim (same_key c.key key) as (λ b. last_time (writes_in (cond b (Some c) (find (is_of key) cs))) ≤ latest (c ∷ cs)) [
      | true ↦ omega arith
      | false ↦ omega (arith, last_time-upto cs key)
    ]

pub last_time-found : (m : List KeyWrites) (key : Key) (c : KeyWrites) → Some c ≡ find (is_of key) m → last_time c.writes ≤ latest m
last_time-found m key c found =
    let P : Option KeyWrites → Type 0 = λ o. last_time (writes_in o) ≤ latest m in
    subst P (sym found) (last_time-upto m key)

pub older-latest : (time : ℕ) (m : List KeyWrites) (ws : List (KeyWrite Value)) → latest m < time → AreOlder time m ws
older-latest time m [] h = tt
older-latest time m (w ∷ ws) h = (omega (arith, last_time-upto m w.key), older-latest time m ws h)

writes_of-other : (m : List KeyWrites) (k : Key) (x : Write) (key : Key) → IsOrdered m → same_key k key ≡ false → writes_of (with_write m k x) key
    ≡ writes_of m key
writes_of-other m k x key o other = writes_of-with_write m k x key o ∙ rw other refl

others-older : (time : ℕ) (m : List KeyWrites) (k : Key) (x : Write) (ws : List (KeyWrite Value)) → IsOrdered m
    → AllByRecursion (λ y. key_cmp k y ≡ Less) (map (λ (w : KeyWrite Value). w.key) ws)
    → AreOlder time m ws → AreOlder time (with_write m k x) ws
others-older time m k x [] o above old = tt
others-older time m k x (w ∷ ws) o above old =
    let same = writes_of-other m k x w.key o (lt-other' k w.key (key_lt-from_less k w.key above.0)) in
    let P : List Write → Type 0 = λ l. last_time l < time in
    (subst P (sym same) old.0, others-older time m k x ws o above.1 old.1)

pub may-all-follow : (time : ℕ) (m : List KeyWrites) (ws : List (KeyWrite Value)) → IsOrdered m → AreOlder time m ws
    → IsStrictlySortedBy key_cmp (map (λ (w : KeyWrite Value). w.key) ws) → MayAllFollow time m ws
unfolding IsStrictlySortedBy
may-all-follow time m [] o old rising = tt
may-all-follow time m (w ∷ ws) o old rising =
    let x = stamped time w in
    (old.0, may-all-follow time (with_write m w.key x) ws (ordered-with_write w.key x m o) (others-older time m w.key x ws o rising.0 old.1) rising.1)

-- a key that all of these are behind is not among them
write_in-none : (k key : Key) (ws : List (KeyWrite Value)) → same_key k key ≡ true
    → AllByRecursion (λ y. key_cmp k y ≡ Less) (map (λ (w : KeyWrite Value). w.key) ws) → write_in ws key ≡ None
write_in-none k key [] same above = refl
write_in-none k key (w ∷ ws) same above =
    let lt : key_lt k w.key ≡ true = key_lt-from_less k w.key above.0 in
    let other : same_key w.key key ≡ false = grind (arith, nat_tests) in
    rw other (write_in-none k key ws same above.1)

pub writes_of-with_commit : (time : ℕ) (m : List KeyWrites) (ws : List (KeyWrite Value)) (key : Key) → IsOrdered m
    → IsStrictlySortedBy key_cmp (map (λ (w : KeyWrite Value). w.key) ws)
    → writes_of (with_commit m time ws) key ≡ writes_of m key ++ written time ws key
unfolding IsStrictlySortedBy
writes_of-with_commit time m [] key o rising = sym (append-nil (writes_of m key))
writes_of-with_commit time m (w ∷ ws) key o rising =
    let x = stamped time w in
    let rest = writes_of-with_commit time (with_write m w.key x) ws key (ordered-with_write w.key x m o) rising.1 in
    let step = ap (λ l. l ++ written time ws key) (writes_of-with_write m w.key x key o) in
    let Goal : Bool → Type 0 =
    λ b. same_key w.key key ≡ b → cond b (writes_of m w.key ++ x ∷ []) (writes_of m key) ++ written time ws key ≡ writes_of m key
    ++ option_to_list (option_map (λ (write : Option Value). record { time = time; write = write }) (cond b (Some w.write) (write_in ws key))) in
    let all : (b : Bool) → Goal b =
    λ b. elim b as Goal [
      | true ↦ λ same.
          let none : write_in ws key ≡ None = write_in-none w.key key ws same rising.0 in
          rw (none, key-same w.key key same) (append-nil (writes_of m key ++ x ∷ []))
      | false ↦ λ other. refl
    ] in
    rest ∙ step ∙ all (same_key w.key key) refl

last_time-push : (before : ℕ) (ws : List Write) (w : Write) → last_time_after before (ws ++ w ∷ []) ≡ w.time
last_time-push before [] w = refl
last_time-push before (v ∷ vs) w = last_time-push v.time vs w

latest-with_write : (time : ℕ) (m : List KeyWrites) (key : Key) (w : Write) → latest m ≤ time → w.time ≤ time → latest (with_write m key w) ≤ time
latest-with_write time [] key w h upto = omega arith
latest-with_write time (d ∷ ds) key w h upto =
    let rest = latest-with_write time ds key w (omega arith) upto in
    let pushed = last_time-push 0 d.writes w in
    let new : KeyWrites = record { key = key; writes = w ∷ [] } in
    let more : KeyWrites = record { key = d.key; writes = d.writes ++ w ∷ [] } in
    let Goal : Bool → Bool → Type 0 = λ a b. latest (cond a (new ∷ d ∷ ds) (cond b (d ∷ with_write ds key w) (more ∷ ds))) ≤ time in
    elim (key_lt key d.key) as (λ a. Goal a (key_lt d.key key)) [
      | true ↦ omega arith
      | false ↦ elim (key_lt d.key key) as (λ b. Goal false b) [ true ↦ omega arith | false ↦ omega arith ]
    ]

pub latest-with_commit : (time : ℕ) (m : List KeyWrites) (ws : List (KeyWrite Value)) → latest m ≤ time → latest (with_commit m time ws) ≤ time
latest-with_commit time m [] h = h
latest-with_commit time m (w ∷ ws) h =
    latest-with_commit time (with_write m w.key (stamped time w)) ws (latest-with_write time m w.key (stamped time w) h (omega arith))
