-- A base in the place of the log's front changes no state from its mark on.
use Rattle.std.proofs.Common.{◌≡◌, ℕ, ◌<◌, ◌≤◌, ◌-◌, ◌^◌, max, nat_le, nat_lt, Bool, true, false, cond, List, [], ◌∷◌, map, Some, None, refl, ap, sym, subst}
use Rattle.std.proofs.Common.{◌∙◌, arith, ⊎_elim, ◌↔◌}
use Rattle.std.specs.Prelude.{filter}
use Rattle.std.specs.List.{AllByRecursion, cons_option}
use Rattle.std.proofs.lemmas.Bool.{cases_lt}
use Rattle.std.proofs.lemmas.Bool.Decides.{nat_tests}
use Rattle.history.specs.declared.key.Key.{Key}
use Rattle.history.specs.declared.time.TimedWrite.{TimedWrite}
use Rattle.history.specs.Key.{same_key}
use Rattle.history.specs.Time.{value_after, writes_after}
use Rattle.history.specs.Histories.{writes_of}
use Rattle.history.proofs.Orders.{is_le}
use Rattle.history.proofs.Filters.{filter-map, AllByRecursion-filter}
use Rattle.history.proofs.Histories.{writes_of-rising, writes_of-commits_after}
use Rattle.law_image.specs.Values.{Value}
use Rattle.law_image.specs.Reading.{Head, Slot, Member, OldRecord, Reading}
use Rattle.law_image.specs.Log.{AreRisingAfter}
use Rattle.law_image.specs.Facts.{old_writes, heap_commits, heap_facts, values_at_mark}
use Rattle.law_image.specs.StandsFor.{IsAnchorUpto, archived_upto}
use Rattle.law_image.specs.HeapPlans.{with_base}
use Rattle.law_image.proofs.FactsOf.{commits_from-after}
use Rattle.law_log.specs.Chains.{later_heads}
use Rattle.law_log.proofs.Telling.{later-rising}
use Rattle.law_log_layout.specs.HeapLog.{AreAnchorsAt}
use Rattle.law_log_sizes.specs.Sizes.{len_from, HasRisingKeys, IsOrdered, anchors_len, size_at, size_now}
use Rattle.law_log_sizes.specs.Laws.{KeepsStates}
use Rattle.law_log_sizes.proofs.Putting.{first_value, same-itself}
use Rattle.law_log_sizes.proofs.Commits.{own-first}
use Rattle.law_log_sizes.proofs.Standing.{standing, standing_from, none-standing, standing-since, standing-value, standing-upto, IsUpto, latest-anchors}
use Rattle.law_log_sizes.proofs.Sizes.{within-later, rises, start-values, facts-rise, stands}
use Rattle.law_log_sizes.proofs.Told.{state-size, state-anchors}

-- ---- the times of anchors

-- what holds of each key's anchors holds of the others' too
rest-of : (P : TimedWrite Value → Type 0) (o : OldRecord) (olds : List OldRecord) (key : Key) → AllByRecursion P (old_writes (o ∷ olds) key)
    → AllByRecursion P (old_writes olds key)
rest-of P o olds key all =
    let list : Bool → List (TimedWrite Value) =
    λ b. cons_option (cond b (Some (record { time = o.from; write = Some o.value })) None) (old_writes olds key) in
    let Goal : Bool → Type 0 = λ b. AllByRecursion P (list b) → AllByRecursion P (old_writes olds key) in
    let by : (b : Bool) → Goal b = λ b. elim b as Goal [ true ↦ λ a. a.1 | false ↦ λ a. a ] in
    by (same_key o.key key) all

anchors-upto : (mark : ℕ) (olds : List OldRecord) → ((key : Key) → AllByRecursion (IsUpto mark) (old_writes olds key)) → AllByRecursion (IsAnchorUpto mark) olds
anchors-upto mark [] each = tt
anchors-upto mark (o ∷ olds) each =
    let own = subst (AllByRecursion (IsUpto mark)) (own-first o olds o.key (same-itself o.key)) (each o.key) in
    (own.0, anchors-upto mark olds (λ key. rest-of (IsUpto mark) o olds key (each key)))

writes-upto : (mark : ℕ) (olds : List OldRecord) (key : Key) → AllByRecursion (IsAnchorUpto mark) olds → AllByRecursion (IsUpto mark) (old_writes olds key)
writes-upto mark [] key within = tt
writes-upto mark (o ∷ olds) key within =
    let rest = writes-upto mark olds key within.1 in
    let list : Bool → List (TimedWrite Value) =
    λ b. cons_option (cond b (Some (record { time = o.from; write = Some o.value })) None) (old_writes olds key) in
    let Goal : Bool → Type 0 = λ b. AllByRecursion (IsUpto mark) (list b) in
    elim (same_key o.key key) as Goal [ true ↦ (within.0, rest) | false ↦ rest ]

-- ---- the members that stay

max-is : (mark later : ℕ) → mark ≤ later → max later mark ≡ later
max-is mark later le = grind (arith, nat_tests)

pub later-times : (mark later : ℕ) (ms : List Member) → mark ≤ later → AreRisingAfter mark (map (λ (m : Member). m.head) ms)
    → AreRisingAfter later (map (λ (m : Member). m.head) (filter (λ (m : Member). nat_lt later m.head.time) ms))
later-times mark later ms le up =
    let heads = map (λ (m : Member). m.head) ms in
    subst (AreRisingAfter later)
    (filter-map (λ (m : Member). nat_lt later m.head.time) (λ (head : Head). nat_lt later head.time) (λ (m : Member). m.head) ms (λ m. refl))
    (subst (λ (t : ℕ). AreRisingAfter t (later_heads later heads)) (max-is mark later le) (later-rising later mark heads up))

-- ---- all members up to the last time

all-upto : (s : ℕ) (ms : List Member) → AreRisingAfter s (map (λ (m : Member). m.head) ms)
    → filter (λ (m : Member). nat_le m.head.time (2 ^ 63 - 1)) ms ≡ ms
all-upto s [] up = refl
all-upto s (m ∷ ms) up =
    let early : nat_le m.head.time (2 ^ 63 - 1) ≡ true = is_le (omega (arith, up.1)) in
    rw early (ap (λ l. m ∷ l) (all-upto m.head.time ms up.2))

now-is : (mark : ℕ) (reading : Reading) → IsOrdered mark reading → size_at (2 ^ 63 - 1) reading ≡ size_now reading
now-is mark reading ordered = ap (len_from (anchors_len reading.anchors) (values_at_mark reading)) (all-upto mark reading.members ordered.times)

-- ---- the base

module _ (mark : ℕ) (reading : Reading) (olds : List OldRecord) (after : List Slot) (ordered : IsOrdered mark reading)
    (le : mark ≤ archived_upto reading) (lt : archived_upto reading < 2 ^ 63) (are : AreAnchorsAt (archived_upto reading) reading olds) where
  -- the anchors are what stands at the mark
  olds-stand : (key : Key) → old_writes olds key
      ≡ standing_from (archived_upto reading) (old_writes reading.anchors key) (writes_of (heap_commits reading) key)
  olds-stand key = are.each key ∙ stands mark reading ordered (archived_upto reading) key le lt

  writes-rise : (key : Key) → AllByRecursion (IsUpto (archived_upto reading)) (old_writes olds key)
  writes-rise key =
      let a = archived_upto reading in
      subst (AllByRecursion (IsUpto a)) (sym (olds-stand key))
      (standing-upto mark a (old_writes reading.anchors key) (writes_of (heap_commits reading) key)
      (writes-upto a reading.anchors key (within-later mark a reading.anchors le ordered.anchor_times))
      (writes_of-rising mark (heap_commits reading) key (rises mark reading ordered)))

  based-ordered : IsOrdered (archived_upto reading) (with_base reading olds after)
  based-ordered =
      let a = archived_upto reading in
      record {
        range = lt;
        anchors = are.rising;
        anchor_times = anchors-upto a olds writes-rise;
        times = later-times mark a reading.members le ordered.times;
        keys = AllByRecursion-filter HasRisingKeys (λ (m : Member). nat_lt a m.head.time) reading.members ordered.keys;
      }

  -- the values at the new mark
  based-values : (key : Key) → values_at_mark (with_base reading olds after) key
      ≡ value_after (values_at_mark reading key) (writes_of (heap_commits reading) key) (archived_upto reading)
  based-values key =
      let a = archived_upto reading in
      let ws = writes_of (heap_commits reading) key in
      sym (latest-anchors a olds key lt are.rising (anchors-upto a olds writes-rise))
      ∙ ap first_value (olds-stand key)
      ∙ standing-value a (old_writes reading.anchors key) ws
      ∙ ap (λ v. value_after v ws a) (start-values mark reading ordered key)

  -- the writes that stay are those later than it
  based-writes : (key : Key) → writes_of (heap_commits (with_base reading olds after)) key
      ≡ writes_after (archived_upto reading) (writes_of (heap_commits reading) key)
  based-writes key =
      let a = archived_upto reading in
      ap (λ c. writes_of c key)
      (commits_from-after mark a (values_at_mark reading) (values_at_mark (with_base reading olds after)) reading.members
      (rises mark reading ordered) based-values)
      ∙ writes_of-commits_after a (heap_commits reading) key

  -- so what stands later is the same
  based-stands : (time : ℕ) (key : Key) → archived_upto reading ≤ time
      → standing time (heap_facts (with_base reading olds after) key) ≡ standing time (heap_facts reading key)
  based-stands time key from =
      let a = archived_upto reading in
      let ws = writes_of (heap_commits reading) key in
      ⊎_elim
      (λ (within : time < 2 ^ 63).
      stands a (with_base reading olds after) based-ordered time key from within
      ∙ ap (standing_from time (old_writes olds key)) (based-writes key)
      ∙ ap (λ l. standing_from time l (writes_after a ws)) (olds-stand key)
      ∙ standing-since mark a time (old_writes reading.anchors key) ws from (writes_of-rising mark (heap_commits reading) key (rises mark reading ordered))
      ∙ sym (stands mark reading ordered time key (omega (arith, le, from)) within))
      (λ (past : 2 ^ 63 ≤ time).
      none-standing time 0 (heap_facts (with_base reading olds after) key) past (facts-rise a (with_base reading olds after) based-ordered key)
      ∙ sym (none-standing time 0 (heap_facts reading key) past (facts-rise mark reading ordered key)))
      (cases_lt time (2 ^ 63))

  based-states : (time : ℕ) (list : List OldRecord) → archived_upto reading ≤ time
      → AreAnchorsAt time (with_base reading olds after) list ↔ AreAnchorsAt time reading list
  based-states time list from = (
    λ has. record { each = λ key. has.each key ∙ based-stands time key from; rising = has.rising },
    λ has. record { each = λ key. has.each key ∙ sym (based-stands time key from); rising = has.rising },
  )

  pub base-keeps : KeepsStates (archived_upto reading) reading (with_base reading olds after)
  base-keeps =
      let a = archived_upto reading in
      let based = with_base reading olds after in
      let time : ℕ = 2 ^ 63 - 1 in
      let from : a ≤ time = omega (arith, lt) in
      let below : time < 2 ^ 63 = omega arith in
      let has = state-anchors mark reading ordered time (omega (arith, le, from)) below in
      record {
        ordered = based-ordered;
        states = based-states;
        last_is =
            sym (now-is a based based-ordered)
            ∙ sym (state-size a based based-ordered time has.list from below ((based-states time has.list from).1 has.are))
            ∙ has.len_is
            ∙ now-is mark reading ordered;
      }
