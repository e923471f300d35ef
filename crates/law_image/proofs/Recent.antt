-- What the heap alone tells: the last value of each key, over which the next commits are stored.
use Rattle.std.proofs.Common.{◌≡◌, ℕ, ◌<◌, ◌≤◌, ◌^◌, nat_le, nat_lt, suc, true, false, cond, ⊎_elim, List, [], ◌∷◌, ◌++◌, map, length, Option, Some, None, refl}
use Rattle.std.proofs.Common.{ap, sym, subst, ◌∙◌, arith}
use Rattle.std.specs.Prelude.{option_map, unwrap_or, IsSome}
use Rattle.std.specs.List.{AllByRecursion, cons_option}
use Rattle.std.specs.List.Sorted.{IsStrictlySortedBy}
use Rattle.std.proofs.lemmas.Bool.{cases_lt}
use Rattle.history.specs.declared.key.Key.{Key}
use Rattle.history.specs.declared.key.KeyWrite.{KeyWrite}
use Rattle.history.specs.Key.{key_cmp, write_in}
use Rattle.history.specs.Time.{value_after, value_at}
use Rattle.history.specs.Queries.{values_after}
use Rattle.history.specs.Histories.{Commit, History, last_after, last, writes_of, state, HasRisingTimes, commits_after, MayAllFollow, IsWriteSet, EndsAValue}
use Rattle.history.proofs.Orders.{is_le, is_lt, not_lt}
use Rattle.history.proofs.Values.{standing_at-versions, value_after-append}
use Rattle.history.proofs.Histories.{commits_after-all, writes_of-append, rising-append}
use Rattle.law_image.specs.Values.{Value, IsValue}
use Rattle.law_image.specs.Reading.{Gone, Reading}
use Rattle.law_image.specs.Facts.{written, stored, write_of, commit_read, commits_from, IsStored, AreStored, latest, old_writes, heap_commits, heap_facts}
use Rattle.law_image.specs.StandsFor.{StandsFor, IsChain, reclaimed_upto}
use Rattle.law_image.specs.Plans.{stored_record, stored_member, stored_members, IsGroupOf, most_members}
use Rattle.law_image.proofs.FactsOf.{old_writes-latest}
use Rattle.law_image.proofs.Kept.{at-recent}
use Rattle.law_image.proofs.Deltas.{written-stored}
use Rattle.law_image.proofs.Standing.{rises, facts-rise, floor-range, archived-range, last-range, recent-rise}

-- gone is stored of gone alone
gone-only : (before new : Option Value) → stored before new ≡ Gone → written before (stored before new) ≡ None
gone-only before new is = ap (written before) is

stored-writes : (before : Key → Option Value) (ws : List (KeyWrite Value)) → map (write_of before) (map (stored_record before) ws) ≡ ws
stored-writes before [] = refl
stored-writes before (w ∷ ws) =
    ap (λ (x : Option Value). record { key = w.key; write = x } ∷ map (write_of before) (map (stored_record before) ws)) (written-stored (before w.key) w.write)
    ∙ ap (λ l. w ∷ l) (stored-writes before ws)

pub commit-stored : (before : Key → Option Value) (c : Commit Value) → commit_read before (stored_member before c) ≡ c
commit-stored before c = ap (λ (ws : List (KeyWrite Value)). record { time = c.time; label = c.label; writes = ws }) (stored-writes before c.writes)

pub commits-stored : (before : Key → Option Value) (next : History Value) → commits_from before (stored_members before next) ≡ next
commits-stored before [] = refl
commits-stored before (c ∷ cs) =
    ap (λ (d : Commit Value). d ∷ commits_from (values_after before d) (stored_members (values_after before c) cs)) (commit-stored before c)
    ∙ ap (λ l. c ∷ l) (commits-stored (values_after before c) cs)

-- the records of a write set, where gone is of a value
are-stored : (before : Key → Option Value) (ws : List (KeyWrite Value)) → AllByRecursion (λ w. w.write ≡ None → IsSome (before w.key)) ws
    → AllByRecursion (IsStored before) (map (stored_record before) ws)
are-stored before [] gone = tt
are-stored before (w ∷ ws) gone = (
  record {
    one_spelling = ap (stored (before w.key)) (sym (written-stored (before w.key) w.write));
    gone = λ is. gone.0 (sym (written-stored (before w.key) w.write) ∙ gone-only (before w.key) w.write is);
  },
  are-stored before ws gone.1,
)

keys-stored : (before : Key → Option Value) (ws : List (KeyWrite Value)) → map (λ r. r.key) (map (stored_record before) ws) ≡ map (λ w. w.key) ws
keys-stored before [] = refl
keys-stored before (w ∷ ws) = ap (λ l. w.key ∷ l) (keys-stored before ws)

length-stored : (before : Key → Option Value) (ws : List (KeyWrite Value)) → length (map (stored_record before) ws) ≡ length ws
length-stored before [] = refl
length-stored before (w ∷ ws) = ap (λ (n : ℕ). suc n) (length-stored before ws)

length-members : (before : Key → Option Value) (next : History Value) → length (stored_members before next) ≡ length next
length-members before [] = refl
length-members before (c ∷ cs) = ap (λ (n : ℕ). suc n) (length-members (values_after before c) cs)

chain-stored : (before : Key → Option Value) (c : Commit Value) → IsWriteSet c.writes → IsChain (stored_member before c)
chain-stored before c set = record {
  rising = subst (λ ks. IsStrictlySortedBy key_cmp ks) (sym (keys-stored before c.writes)) set.rising;
  some = omega (arith, length-stored before c.writes, set.some);
  few = omega (arith, length-stored before c.writes, set.few);
}

-- the last time is at least each before it
last-later : (t : ℕ) (h : History Value) → HasRisingTimes t h → t ≤ last_after t h
last-later t [] up = omega arith
last-later t (c ∷ cs) up = let rest = last-later c.time cs up.2 in omega (arith, up.0, rest)

-- the last of the commits after a mark is within what the last of all is
last-within : (t mark n : ℕ) (h : History Value) → HasRisingTimes t h → last_after t h ≤ n → mark ≤ n → last_after mark (commits_after mark h) ≤ n
last-within t mark n [] up within le = le
last-within t mark n (c ∷ cs) up within le =
    ⊎_elim
    (λ (later : mark < c.time).
    let late : nat_lt mark c.time ≡ true = is_lt later in
    rw (late, commits_after-all mark c.time cs (omega arith) up.2) within)
    (λ (early : c.time ≤ mark).
    let gone : nat_lt mark c.time ≡ false = not_lt early in
    rw gone (last-within c.time mark n cs up.2 within le))
    (cases_lt mark c.time)

-- from the last time on a state does not change
settled : (before : Option Value) (t a b : ℕ) (h : History Value) (key : Key) → HasRisingTimes t h → last_after t h ≤ a → last_after t h ≤ b
    → value_after before (writes_of h key) a ≡ value_after before (writes_of h key) b
settled before t a b [] key up la lb = refl
settled before t a b (c ∷ cs) key up la lb =
    let within = last-later c.time cs up.2 in
    let at_a : nat_le c.time a ≡ true = is_le (omega (arith, within, la)) in
    let at_b : nat_le c.time b ≡ true = is_le (omega (arith, within, lb)) in
    let step : Option (Option Value) → ℕ → Option Value =
    λ o n. value_after before (cons_option (option_map (λ write. record { time = c.time; write = write }) o) (writes_of cs key)) n in
    elim (write_in c.writes key) as (λ o. step o a ≡ step o b) [
      | None ↦ settled before c.time a b cs key up.2 la lb
      | Some w ↦
          ap (λ x. value_after (cond x w before) (writes_of cs key) a) at_a
          ∙ settled w c.time a b cs key up.2 la lb
          ∙ ap (λ x. value_after (cond x w before) (writes_of cs key) b) (sym at_b)
    ]

-- the values after a commit are those of the history with it
after-one : (h : History Value) (c : Commit Value) (key : Key) (t : ℕ) → c.time ≤ t → unwrap_or (write_in c.writes key) (value_at (writes_of h key) t)
    ≡ value_at (writes_of (h ++ c ∷ []) key) t
after-one h c key t le =
    let early : nat_le c.time t ≡ true = is_le le in
    let whole : value_at (writes_of (h ++ c ∷ []) key) t ≡ value_after (value_at (writes_of h key) t) (writes_of (c ∷ []) key) t =
    ap (λ ws. value_at ws t) (writes_of-append h (c ∷ []) key) ∙ value_after-append None (writes_of h key) (writes_of (c ∷ []) key) t in
    let v = value_at (writes_of h key) t in
    elim (write_in c.writes key) as (λ o. unwrap_or o v ≡ value_after v (cons_option (option_map (λ write. record { time = c.time; write = write }) o) []) t) [
      | None ↦ refl
      | Some w ↦ ap (λ x. cond x w v) (sym early)
    ] ∙ sym whole

gone-of_value : (h : History Value) (before : Key → Option Value) (ws : List (KeyWrite Value)) → ((key : Key) → state h (last h) key ≡ before key)
    → AllByRecursion (EndsAValue h) ws → AllByRecursion (λ w. w.write ≡ None → IsSome (before w.key)) ws
gone-of_value h before [] same gone = tt
gone-of_value h before (w ∷ ws) same gone = ((λ is. subst IsSome (same w.key) (gone.0 is)), gone-of_value h before ws same gone.1)

-- commits that may follow, over the values of the history, are chains of well stored records
members-stored : (h next : History Value) (before : Key → Option Value) → HasRisingTimes 0 h → MayAllFollow IsValue h next
    → ((key : Key) → value_at (writes_of h key) (2 ^ 63) ≡ before key)
    → AllByRecursion IsChain (stored_members before next) × AreStored before (stored_members before next)
members-stored h [] before up may same = (tt, tt)
members-stored h (c ∷ cs) before up may same =
    let here = (may.0).in_range in
    let up' : HasRisingTimes 0 (h ++ c ∷ []) = rising-append 0 h (c ∷ []) up ((may.0).later, here, tt) in
    let bound : last h ≤ 2 ^ 63 = omega (arith, (may.0).later, here) in
    let at_last : (key : Key) → state h (last h) key ≡ before key = λ key. settled None 0 (last h) (2 ^ 63) h key up (omega arith) bound ∙ same key in
    let next' : (key : Key) → value_at (writes_of (h ++ c ∷ []) key) (2 ^ 63) ≡ values_after before c key =
    λ key. sym (after-one h c key (2 ^ 63) (omega (arith, here))) ∙ ap (unwrap_or (write_in c.writes key)) (same key) in
    let rest = members-stored (h ++ c ∷ []) cs (values_after before c) up' may.1 next' in (
      (chain-stored before c (may.0).write_set, rest.0),
      (
        are-stored before c.writes (gone-of_value h before c.writes at_last (may.0).gone),
        subst (λ (d : Commit Value). AreStored (values_after before d) (stored_members (values_after before c) cs)) (sym (commit-stored before c)) rest.1,
      ),
    )

module _ (reading : Reading) (h : History Value) (floors : ℕ → ℕ) (stands : StandsFor reading h floors) where
  -- the heap's last value of each key is the history's
  pub latest-is : (key : Key) → value_at (writes_of h key) (2 ^ 63) ≡ latest (heap_facts reading key)
  latest-is key =
      let l = last h in
      let r = reclaimed_upto reading in
      let facts = heap_facts reading key in
      let below = last-range reading h floors stands in
      let past : r ≤ l = omega (arith, stands.homes.marks, archived-range reading h floors stands) in
      let recent : last_after r (heap_commits reading) ≤ l =
      subst (λ cs. last_after r cs ≤ l) (sym stands.opens.write_sets) (last-within 0 r l h (rises reading h floors stands) (omega arith) past) in
      let old = value_at (old_writes reading.anchors key) in
      let split = λ (t : ℕ). value_after-append None (old_writes reading.anchors key) (writes_of (heap_commits reading) key) t in
      settled None 0 (2 ^ 63) l h key (rises reading h floors stands) (omega (arith, below)) (omega arith)
      ∙ sym (at-recent reading h floors stands key l (floor-range reading h floors stands key.relation) past below)
      ∙ standing_at-versions 0 l facts below (facts-rise reading h floors stands key)
      ∙ split l
      ∙ ap (λ v. value_after v (writes_of (heap_commits reading) key) l)
      (old_writes-latest r l reading.anchors key None past (omega (arith, past, below)) stands.opens.reads.anchor_times)
      ∙ settled (old (2 ^ 63)) r l (2 ^ 63) (heap_commits reading) key (recent-rise reading h floors stands) recent (omega (arith, recent, below))
      ∙ sym (split (2 ^ 63))

  pub stored-is_group : (next : History Value) → MayAllFollow IsValue h next → 0 < length next → length next ≤ most_members reading.profile
      → IsGroupOf reading h next (stored_members (λ key. latest (heap_facts reading key)) next)
  stored-is_group next may some few =
      let before : Key → Option Value = λ key. latest (heap_facts reading key) in
      let all = members-stored h next before (rises reading h floors stands) may latest-is in
      record {
        may = may;
        facts = commits-stored before next;
        some = omega (arith, length-members before next, some);
        few = omega (arith, length-members before next, few);
        chains = all.0;
        stored = all.1;
      }
