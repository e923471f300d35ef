-- The numbers are those of the states: each state has its own, and each number is that of a state.
use Rattle.std.proofs.Common.{◌≡◌, ℕ, ◌<◌, ◌≤◌, ◌^◌, max, nat_le, true, cond, List, [], ◌∷◌, ◌++◌, Option, Some, None, refl, ap}
use Rattle.std.proofs.Common.{sym, subst, ◌∙◌, arith, ⊎_elim, ◌↔◌}
use Rattle.std.specs.Prelude.{unwrap_or, option_map}
use Rattle.std.specs.List.{AllByRecursion, cons_option}
use Rattle.std.specs.List.Sorted.{IsStrictlySortedBy}
use Rattle.std.proofs.lemmas.Bool.{cases_lt}
use mathlib.Core.Path.{fun_ext}
use Rattle.history.specs.declared.key.Key.{Key}
use Rattle.history.specs.Key.{write_in}
use Rattle.history.specs.Time.{IsRisingAfter, value_after}
use Rattle.history.specs.Queries.{values_after}
use Rattle.history.specs.Histories.{Commit, History, writes_of, HasRisingTimes}
use Rattle.history.proofs.Orders.{is_le}
use Rattle.history.proofs.Values.{value_after-append}
use Rattle.history.proofs.Histories.{writes_of-rising}
use Rattle.law_image.specs.Values.{Value}
use Rattle.law_image.specs.Reading.{Member, OldRecord, Reading}
use Rattle.law_image.specs.Facts.{commit_read, commits_from, old_writes, heap_commits, heap_facts, values_at_mark, values_now}
use Rattle.law_image.specs.StandsFor.{IsAnchorUpto}
use Rattle.law_image.proofs.FactsOf.{old_writes-rising}
use Rattle.law_log_sizes.specs.Sizes.{len_after, len_from, len_upto, lens_behind, values_behind, greatest, AreAllCounted, IsOrdered}
use Rattle.log_extents.specs.Chains.{count_of}
use Rattle.law_log_layout.specs.HeapLog.{AreAnchorsAt}
use Rattle.law_log_sizes.specs.Laws.{GoesOn}
use Rattle.law_log_sizes.proofs.Putting.{AreSorted, olds_len, first_value}
use Rattle.law_log_sizes.proofs.Commits.{same-olds}
use Rattle.law_log_sizes.proofs.Standing.{standing, standing_from, standing-append, standing-is, none-standing, standing-anchors, latest-anchors}
use Rattle.law_log_sizes.proofs.Walking.{Found, found, all-counted, commits-rise, all-lens, one-of_lens}

pub within-later : (mark time : ℕ) (olds : List OldRecord) → mark ≤ time → AllByRecursion (IsAnchorUpto mark) olds → AllByRecursion (IsAnchorUpto time) olds
within-later mark time [] le within = tt
within-later mark time (o ∷ olds) le within = ((within.0.0, omega (arith, within.0.1)), within-later mark time olds le within.1)

sorted-none : AreSorted []
unfolding IsStrictlySortedBy
sorted-none = tt

module _ (mark : ℕ) (reading : Reading) (ordered : IsOrdered mark reading) where
  pub rises : HasRisingTimes mark (heap_commits reading)
  rises = commits-rise mark (values_at_mark reading) reading.members ordered.times

  pub start-values : (key : Key) → first_value (old_writes reading.anchors key) ≡ values_at_mark reading key
  start-values key = latest-anchors mark reading.anchors key ordered.range ordered.anchors ordered.anchor_times

  pub facts-rise : (key : Key) → IsRisingAfter 0 (heap_facts reading key)
  facts-rise key =
      old_writes-rising mark reading.anchors key (writes_of (heap_commits reading) key) ordered.range ordered.anchors ordered.anchor_times
      (writes_of-rising mark (heap_commits reading) key rises)

  -- what stands at a time is found from the anchors
  pub stands : (time : ℕ) (key : Key) → mark ≤ time → time < 2 ^ 63
      → standing time (heap_facts reading key) ≡ standing_from time (old_writes reading.anchors key) (writes_of (heap_commits reading) key)
  stands time key le lt =
      standing-is 0 time (heap_facts reading key) lt (facts-rise key)
      ∙ standing-append time [] (old_writes reading.anchors key) (writes_of (heap_commits reading) key)
      ∙ ap (λ l. standing_from time l (writes_of (heap_commits reading) key))
      (standing-anchors time reading.anchors key ordered.anchors (within-later mark time reading.anchors le ordered.anchor_times))

  pub walked : (time : ℕ) → Found time (values_at_mark reading) reading.members reading.anchors
  walked time = found mark time (values_at_mark reading) reading.members reading.anchors ordered.anchors start-values rises ordered.keys

  -- a state has its anchors
  pub some-anchors : (time : ℕ) → mark ≤ time → time < 2 ^ 63 → AreAnchorsAt time reading (walked time).list
  some-anchors time le lt = record { each = λ key. (walked time).writes key ∙ sym (stands time key le lt); rising = (walked time).sorted }

  -- and these alone
  pub only-anchors : (time : ℕ) (olds : List OldRecord) → mark ≤ time → time < 2 ^ 63 → AreAnchorsAt time reading olds → olds ≡ (walked time).list
  only-anchors time olds le lt are =
      same-olds olds (walked time).list are.rising (walked time).sorted (λ key. are.each key ∙ stands time key le lt ∙ sym ((walked time).writes key))

  pub one-len : (time : ℕ) (olds : List OldRecord) → mark ≤ time → time < 2 ^ 63 → AreAnchorsAt time reading olds
      → olds_len olds ≡ len_upto time (olds_len reading.anchors) (values_at_mark reading) reading.members
  one-len time olds le lt are = ap olds_len (only-anchors time olds le lt are) ∙ (walked time).len

  -- at a time behind all there are none
  past-len : (time : ℕ) (olds : List OldRecord) → 2 ^ 63 ≤ time → AreAnchorsAt time reading olds → olds_len olds ≡ 0
  past-len time olds past are =
      ap olds_len (same-olds olds [] are.rising sorted-none (λ key. are.each key ∙ none-standing time 0 (heap_facts reading key) past (facts-rise key)))

  -- what holds of the states' bytes holds of the numbers, and the other way round
  pub all-states : (P : ℕ → Type 0) → P 0
      → ((time : ℕ) (olds : List OldRecord) → mark ≤ time → AreAnchorsAt time reading olds → P (olds_len olds))
      ↔ AllByRecursion P (olds_len reading.anchors ∷ lens_behind (olds_len reading.anchors) (values_at_mark reading) reading.members)
  all-states P none =
      let len = olds_len reading.anchors in
      let f = values_at_mark reading in (
        λ each. all-lens P mark len f reading.members ordered.range rises (λ time le lt.
            subst P (walked time).len (each time (walked time).list le (some-anchors time le lt))),
        λ all time olds le are.
            ⊎_elim
            (λ (lt : time < 2 ^ 63).
            subst P (sym (one-len time olds le lt are)) (one-of_lens P mark time len f reading.members rises all))
            (λ (past : 2 ^ 63 ≤ time). subst P (sym (past-len time olds past are)) none)
            (cases_lt time (2 ^ 63)),
      )

  pub counted : AreAllCounted (olds_len reading.anchors) (values_at_mark reading) reading.members
  counted = all-counted (values_at_mark reading) reading.members reading.anchors ordered.anchors start-values ordered.keys

-- ---- more members

values_after-step : (f : Key → Option Value) (c : Commit Value) (rest : History Value) (t : ℕ) (key : Key) → c.time ≤ t
    → value_after (values_after f c key) (writes_of rest key) t ≡ value_after (f key) (writes_of (c ∷ rest) key) t
values_after-step f c rest t key le =
    let early : nat_le c.time t ≡ true = is_le le in
    elim (write_in c.writes key) as (λ o. value_after (unwrap_or o (f key)) (writes_of rest key) t
    ≡ value_after (f key) (cons_option (option_map (λ write. record { time = c.time; write = write }) o) (writes_of rest key)) t) [
      | None ↦ refl
      | Some w ↦ ap (λ b. value_after (cond b w (f key)) (writes_of rest key) t) (sym early)
    ]

-- the values behind members
abbrev pub values_left : (Key → Option Value) → List Member → Key → Option Value
values_left f ms key = value_after (f key) (writes_of (commits_from f ms) key) (2 ^ 63)

pub lens-append : (s len : ℕ) (f : Key → Option Value) (ms ns : List Member) → HasRisingTimes s (commits_from f ms)
    → lens_behind len f (ms ++ ns) ≡ lens_behind len f ms ++ lens_behind (len_from len f ms) (values_left f ms) ns
lens-append s len f [] ns up = refl
lens-append s len f (m ∷ ms) ns up =
    let c = commit_read f m in
    let g = values_after f c in
    let next = len_after len f m in
    ap (λ l. next ∷ l) (
    lens-append m.head.time next g ms ns up.2
    ∙ ap (λ (v : Key → Option Value). lens_behind next g ms ++ lens_behind (len_from next g ms) v ns)
    (fun_ext (λ key. values_after-step f c (commits_from g ms) (2 ^ 63) key (omega (arith, up.1)))))

pub from-append : (s len : ℕ) (f : Key → Option Value) (ms ns : List Member) → HasRisingTimes s (commits_from f ms)
    → len_from len f (ms ++ ns) ≡ len_from (len_from len f ms) (values_left f ms) ns
from-append s len f [] ns up = refl
from-append s len f (m ∷ ms) ns up =
    let c = commit_read f m in
    let g = values_after f c in
    let next = len_after len f m in
    from-append m.head.time next g ms ns up.2
    ∙ ap (λ (v : Key → Option Value). len_from (len_from next g ms) v ns)
    (fun_ext (λ key. values_after-step f c (commits_from g ms) (2 ^ 63) key (omega (arith, up.1))))

pub counted-append : (s len : ℕ) (f : Key → Option Value) (ms ns : List Member) → HasRisingTimes s (commits_from f ms)
    → AreAllCounted len f (ms ++ ns) → AreAllCounted (len_from len f ms) (values_left f ms) ns
counted-append s len f [] ns up all = all
counted-append s len f (m ∷ ms) ns up all =
    let c = commit_read f m in
    let g = values_after f c in
    let next = len_after len f m in
    subst (λ (v : Key → Option Value). AreAllCounted (len_from next g ms) v ns)
    (fun_ext (λ key. values_after-step f c (commits_from g ms) (2 ^ 63) key (omega (arith, up.1))))
    (counted-append m.head.time next g ms ns up.2 all.1)

-- the values behind all members are those that the keys have now
pub left-now : (reading : Reading) → values_left (values_at_mark reading) reading.members ≡ values_now reading
left-now reading =
    fun_ext (λ key. sym (value_after-append None (old_writes reading.anchors key) (writes_of (heap_commits reading) key) (2 ^ 63)))

pub greatest-append : (most : ℕ) (ms ns : List ℕ) → greatest most (ms ++ ns) ≡ greatest (greatest most ms) ns
greatest-append most [] ns = refl
greatest-append most (m ∷ ms) ns = greatest-append (max most m) ms ns

-- wherever members are cut in two
lens-go_on : (len : ℕ) (before : Key → Option Value) (front back : List Member)
    → lens_behind len before (front ++ back) ≡ lens_behind len before front ++ lens_behind (len_from len before front) (values_behind before front) back
lens-go_on len before [] back = refl
lens-go_on len before (m ∷ front) back =
    ap (λ l. len_after len before m ∷ l) (lens-go_on (len_after len before m) (values_after before (commit_read before m)) front back)

last-goes_on : (len : ℕ) (before : Key → Option Value) (front back : List Member)
    → len_from len before (front ++ back) ≡ len_from (len_from len before front) (values_behind before front) back
last-goes_on len before [] back = refl
last-goes_on len before (m ∷ front) back = last-goes_on (len_after len before m) (values_after before (commit_read before m)) front back

counted-goes_on : (len : ℕ) (before : Key → Option Value) (front back : List Member) → AreAllCounted len before (front ++ back)
    → AreAllCounted (len_from len before front) (values_behind before front) back
counted-goes_on len before [] back all = all
counted-goes_on len before (m ∷ front) back all =
    counted-goes_on (len_after len before m) (values_after before (commit_read before m)) front back all.1

pub goes-on : (len : ℕ) (before : Key → Option Value) (front back : List Member) → GoesOn len before front back
goes-on len before front back =
    let lens = lens-go_on len before front back in
    record {
      lens_are = lens;
      last_is = last-goes_on len before front back;
      most_is = λ most.
          ap (greatest most) lens
          ∙ greatest-append most (lens_behind len before front) (lens_behind (len_from len before front) (values_behind before front) back);
      counted = counted-goes_on len before front back;
    }

-- the greatest number keeps a bound of extents where all do
both-within : (bound m n : ℕ) → count_of m ≤ bound → count_of n ≤ bound → count_of (max m n) ≤ bound
both-within bound m n a b = omega arith

left-within : (bound m n : ℕ) → count_of (max m n) ≤ bound → count_of m ≤ bound
left-within bound m n a = omega arith

right-within : (bound m n : ℕ) → count_of (max m n) ≤ bound → count_of n ≤ bound
right-within bound m n a = omega arith

pub greatest-within : (bound most : ℕ) (ns : List ℕ) → AllByRecursion (λ n. count_of n ≤ bound) (most ∷ ns) → count_of (greatest most ns) ≤ bound
greatest-within bound most [] all = all.0
greatest-within bound most (n ∷ ns) all = greatest-within bound (max most n) ns (both-within bound most n all.0 all.1.0, all.1.1)

pub all-within : (bound most : ℕ) (ns : List ℕ) → count_of (greatest most ns) ≤ bound → AllByRecursion (λ n. count_of n ≤ bound) (most ∷ ns)
all-within bound most [] within = (within, tt)
all-within bound most (n ∷ ns) within =
    let rest = all-within bound (max most n) ns within in
    (left-within bound most n rest.0, (right-within bound most n rest.0, rest.1))
