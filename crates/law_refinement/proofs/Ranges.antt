-- What a history writes is in range, and so is what the heap and the anchors of a reclaim have of it.
use Rattle.std.proofs.Common.{◌≡◌, ℕ, ◌<◌, ◌≤◌, ◌^◌, ◌&&◌, nat_lt, nat_le, Bool, true, false, cond, List, [], ◌∷◌, ◌++◌, map, Option, None, Some, MatchOption}
use Rattle.std.proofs.Common.{refl, arith, ap, sym, subst, ◌∙◌}
use Rattle.std.specs.Prelude.{filter, find, option_map}
use Rattle.std.specs.List.{AllByRecursion, cons_option}
use Rattle.std.proofs.lemmas.Bool.Decides.{nat_tests}
use Rattle.history.specs.declared.key.Key.{Key}
use Rattle.history.specs.declared.key.KeyWrite.{KeyWrite}
use Rattle.history.specs.declared.time.Version.{Version}
use Rattle.history.specs.Key.{IsKey, same_key, write_in}
use Rattle.history.specs.Time.{IsRisingAfter}
use Rattle.history.specs.Versions.{versions, version_of, first_time, stands_at}
use Rattle.history.specs.Histories as histories
use Rattle.history.specs.Histories.{History, IsWrite, MayAllFollow}
use Rattle.history.proofs.Filters.{AllByRecursion-append, AllByRecursion-filter}
use Rattle.history.proofs.Histories.{writes_of-commits_after}
use Rattle.law_image.specs.Values.{Value, IsValue}
use Rattle.law_image.specs.Reading.{OldRecord, Reading}
use Rattle.law_image.specs.Facts.{old_writes, heap_commits, heap_facts}
use Rattle.law_image.specs.PlansMade.{old_record}
use Rattle.law_image.specs.StandsFor.{StandsFor, reclaimed_upto}
use Rattle.chains.specs.Writes.{Write}
use Rattle.chains.specs.KeyWrites.{KeyWrites, is_of, IsOrdered, AreRising, writes_in, writes_of}
use Rattle.chains.proofs.Order.{find-below}
use Rattle.chains.proofs.Commits.{key-same}
use Rattle.law_layout.specs.Records.{IsOldRecord}
use Rattle.vacuum.specs.Anchors.{key_anchors, anchors_of}

-- ---- what a history writes is in range

abbrev pub IsInRange : Key → Write → Type 0
IsInRange key w = IsKey key × MatchOption w.write (Unit {0}) IsValue

pub write-in-range : (time : ℕ) (ws : List (KeyWrite Value)) (key : Key) → AllByRecursion (IsWrite IsValue) ws
    → MatchOption (write_in ws key) (Unit {0}) (λ write. IsInRange key (record { time = time; write = write }))
write-in-range time [] key each = tt
write-in-range time (w ∷ ws) key each =
    elim (same_key w.key key) as (λ (b : Bool). same_key w.key key ≡ b
    → MatchOption (cond b (Some w.write) (write_in ws key)) (Unit {0}) (λ write. IsInRange key (record { time = time; write = write }))) [
      | true ↦ λ same. (subst IsKey (key-same w.key key same) (each.0).key, (each.0).value)
      | false ↦ λ other. write-in-range time ws key each.1
    ] refl

pub writes-in-range : (before h : History Value) (key : Key) → MayAllFollow IsValue before h → AllByRecursion (IsInRange key) (histories.writes_of h key)
writes-in-range before [] key may = tt
writes-in-range before (c ∷ cs) key may =
    let rest = writes-in-range (before ++ c ∷ []) cs key may.1 in
    let one = write-in-range c.time c.writes key (may.0).writes in
    by-write (write_in c.writes key) one rest
  where
    by-write : (o : Option (Option Value)) → MatchOption o (Unit {0}) (λ write. IsInRange key (record { time = c.time; write = write }))
        → AllByRecursion (IsInRange key) (histories.writes_of cs key)
        → AllByRecursion (IsInRange key) (cons_option (option_map (λ write. record { time = c.time; write = write }) o) (histories.writes_of cs key))
    by-write None one rest = rest
    by-write (Some write) one rest = (one, rest)

-- ---- what holds of the writes of each key holds of each chain

same-self : (key : Key) → same_key key key ≡ true
same-self key = grind (arith, nat_tests)

pub each-chain : (P : Key → List Write → Type 0) → ((key : Key) → P key []) → (m : List KeyWrites) → IsOrdered m → ((key : Key) → P key (writes_of m key))
    → AllByRecursion (λ c. P c.key c.writes) m
each-chain P none [] ordered each = tt
each-chain P none (c ∷ cs) ordered each =
    let own : writes_of (c ∷ cs) c.key ≡ c.writes = rw (same-self c.key) refl in
    (subst (P c.key) own (each c.key), each-chain P none cs ordered.1 other)
  where
    other : (key : Key) → P key (writes_of cs key)
    other key = elim (same_key c.key key) as (λ (b : Bool). same_key c.key key ≡ b → P key (writes_of cs key)) [
      | true ↦ λ same.
          let absent : P c.key (writes_of cs c.key) = rw (find-below c.key cs ordered.0) (none c.key) in
          subst (λ (k : Key). P k (writes_of cs k)) (key-same c.key key same) absent
      | false ↦ λ apart. subst (λ (b : Bool). P key (writes_in (cond b (Some c) (find (is_of key) cs)))) apart (each key)
    ] refl

pub all-rising : (m : List KeyWrites) → AllByRecursion (λ (c : KeyWrites). IsRisingAfter 0 c.writes) m → AreRising m
all-rising [] each = tt
all-rising (c ∷ cs) each = (each.0, all-rising cs each.1)

-- ---- the versions are in range

version-in-range : (key : Key) (w : Write) (to : ℕ) → IsInRange key w
    → AllByRecursion (λ (v : Version Value). IsKey key × IsValue v.value) (version_of w.time to w.write)
version-in-range key w to is = by-write w.write is.1
  where
    by-write : (o : Option Value) → MatchOption o (Unit {0}) IsValue
        → AllByRecursion (λ (v : Version Value). IsKey key × IsValue v.value) (version_of w.time to o)
    by-write None value = tt
    by-write (Some value) ok = ((is.0, ok), tt)

pub versions-in-range : (key : Key) (ws : List Write) → AllByRecursion (IsInRange key) ws
    → AllByRecursion (λ (v : Version Value). IsKey key × IsValue v.value) (versions ws)
versions-in-range key [] each = tt
versions-in-range key (w ∷ ws) each =
    AllByRecursion-append (λ (v : Version Value). IsKey key
    × IsValue v.value) (version_of w.time (first_time ws) w.write) (versions ws) (version-in-range key w (first_time ws) each.0)
    (versions-in-range key ws each.1)

-- ---- what the heap has

old-writes-in-range : (olds : List OldRecord) (key : Key) → AllByRecursion IsOldRecord olds → AllByRecursion (IsInRange key) (old_writes olds key)
old-writes-in-range [] key each = tt
old-writes-in-range (o ∷ os) key each =
    let rest = old-writes-in-range os key each.1 in
    elim (same_key o.key key) as (λ (b : Bool). same_key o.key key ≡ b
    → AllByRecursion (IsInRange key) (cons_option (cond b (Some (record { time = o.from; write = Some o.value })) None) (old_writes os key))) [
      | true ↦ λ same. ((subst IsKey (key-same o.key key same) (each.0).key, (each.0).value), rest)
      | false ↦ λ other. rest
    ] refl

pub facts-in-range : (reading : Reading) (h : History Value) (floors : ℕ → ℕ) (key : Key) → StandsFor reading h floors
    → AllByRecursion IsOldRecord reading.anchors → AllByRecursion (IsInRange key) (heap_facts reading key)
facts-in-range reading h floors key stands each =
    let mark = reclaimed_upto reading in
    let later : histories.writes_of (heap_commits reading) key ≡ filter (λ (w : Write). nat_lt mark w.time) (histories.writes_of h key) =
    ap (λ (c : History Value). histories.writes_of c key) stands.opens.write_sets ∙ writes_of-commits_after mark h key in
    AllByRecursion-append (IsInRange key) (old_writes reading.anchors key) (histories.writes_of (heap_commits reading) key)
    (old-writes-in-range reading.anchors key each)
    (subst (AllByRecursion (IsInRange key)) (sym later)
    (AllByRecursion-filter (IsInRange key) (λ (w : Write). nat_lt mark w.time) (histories.writes_of h key) (writes-in-range [] h key stands.opens.history)))

-- ---- the anchors of a reclaim

first-true : (a b : Bool) → (a && b) ≡ true → a ≡ true
first-true true b is = refl
first-true false b is = absurd cc

standing-in-range : (key : Key) (mark : ℕ) (vs : List (Version Value)) → mark < 2 ^ 63 → AllByRecursion (λ (v : Version Value). IsKey key × IsValue v.value) vs
    → AllByRecursion IsOldRecord (map (old_record key) (filter (stands_at mark) vs))
standing-in-range key mark [] low each = tt
standing-in-range key mark (v ∷ vs) low each =
    let rest = standing-in-range key mark vs low each.1 in
    elim (nat_le v.from mark && nat_lt mark v.to) as (λ (b : Bool). (nat_le v.from mark && nat_lt mark v.to) ≡ b
    → AllByRecursion IsOldRecord (map (old_record key) (cond b (v ∷ filter (stands_at mark) vs) (filter (stands_at mark) vs)))) [
      | true ↦ λ stands.
          let test : nat_le v.from mark ≡ true = first-true (nat_le v.from mark) (nat_lt mark v.to) stands in
          let by : v.from ≤ mark = grind (arith, nat_tests) in
          (record { key = (each.0).0; from = omega (arith, by, low); value = (each.0).1 }, rest)
      | false ↦ λ other. rest
    ] refl

pub anchors-in-range : (mark : ℕ) (m : List KeyWrites) → mark < 2 ^ 63 → AllByRecursion (λ (c : KeyWrites). AllByRecursion (IsInRange c.key) c.writes) m
    → AllByRecursion IsOldRecord (anchors_of mark m)
anchors-in-range mark [] low each = tt
anchors-in-range mark (c ∷ cs) low each =
    AllByRecursion-append IsOldRecord (key_anchors mark c) (anchors_of mark cs)
    (standing-in-range c.key mark (versions c.writes) low (versions-in-range c.key c.writes each.0)) (anchors-in-range mark cs low each.1)
