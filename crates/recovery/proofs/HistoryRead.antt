-- What is read of an image that stands for a history.
use Rattle.std.proofs.Common.{◌≡◌, ℕ, ◌<◌, ◌≤◌, nat_lt, Bool, true, false, cond, IsTrue, List, [], ◌∷◌, ◌++◌, Some, None, refl, sym, ap, subst, ◌∙◌, arith}
use Rattle.std.proofs.Common.{⊎_elim}
use Rattle.std.specs.Prelude.{filter}
use Rattle.std.specs.List.{AllByRecursion, cons_option}
use Rattle.std.proofs.lemmas.Bool.{cases_lt}
use Rattle.disk.specs.Areas.{Image}
use Rattle.history.specs.declared.key.Key.{Key}
use Rattle.history.specs.declared.time.TimedWrite.{TimedWrite}
use Rattle.history.specs.Key.{same_key}
use Rattle.history.specs.Time.{IsRisingAfter, writes_after}
use Rattle.history.specs.Versions.{versions, ends_after}
use Rattle.history.specs.Histories.{History, versions_of, writes_of}
use Rattle.history.proofs.Orders.{is_lt, not_lt}
use Rattle.history.proofs.Values.{writes_after-all}
use Rattle.history.proofs.Histories.{writes_of-rising, writes_of-commits_after, rising-from_following}
use Rattle.law_image.specs.Values.{Value, IsValue}
use Rattle.law_image.specs.Reading.{OldRecord, Reading}
use Rattle.law_image.specs.Log as log
use Rattle.law_image.specs.Facts.{old_writes, heap_facts}
use Rattle.law_image.specs.StandsFor.{StandsFor, IsAnchorUpto, reclaimed_upto}
use Rattle.law_image.proofs.Standing.{last_time-heads}
use Rattle.chains.specs.KeyWrites as chains
use Rattle.chains.specs.Writes.{last_time, last_time_after}
use Rattle.status.specs.declared.header.Header.{Header}
use Rattle.floors.specs.Floors.{FloorsValue, floor_at}
use Rattle.status.specs.Rules.{is_built}
use Rattle.status.proofs.Kept.{kept-of}
use Rattle.law_layout.specs.Layouts.{Layout, IsLayoutOf, HoldsLayout}
use Rattle.law_layout.specs.Opening.{AreBuilt, unread, unread_layout}
use Rattle.law_layout.proofs.Opening.{held_opens}
use Rattle.law_layout.proofs.OpensAsOne.{opens_once}
use Rattle.recovery.specs.declared.recovered.Recovered.{Recovered}
use Rattle.recovery.specs.ReadsImage.{IsOpening, IsReadAs, IsReadFrom}
use Rattle.recovery.specs.Laws.{IsHistoryRead}

-- ---- the last of a key's writes

last-append : (t : ℕ) (ws vs : List (TimedWrite Value)) → last_time_after t (ws ++ vs) ≡ last_time_after (last_time_after t ws) vs
last-append t [] vs = refl
last-append t (w ∷ ws) vs = last-append w.time ws vs

not_before : (t : ℕ) (ws : List (TimedWrite Value)) → IsRisingAfter t ws → t ≤ last_time_after t ws
not_before t [] rising = omega arith
not_before t (w ∷ ws) rising = let rest = not_before w.time ws rising.2 in let later = rising.0 in omega arith

-- where the last one is later than the mark, it is the last of those later than it
last_later : (mark before other : ℕ) (ws : List (TimedWrite Value)) → IsRisingAfter before ws → before ≤ mark → mark < last_time_after before ws
    → last_time_after other (writes_after mark ws) ≡ last_time_after before ws
last_later mark before other [] rising early late = absurd (omega arith)
last_later mark before other (w ∷ ws) rising early late = ⊎_elim
    (λ (later : mark < w.time).
    let counts : nat_lt mark w.time ≡ true = is_lt later in
    let all : writes_after mark (w ∷ ws) ≡ w ∷ ws = writes_after-all mark (w ∷ ws) (later, rising.1, rising.2) in
    ap (λ (l : List (TimedWrite Value)). last_time_after other l) all)
    (λ (earlier : w.time ≤ mark).
    let dropped : nat_lt mark w.time ≡ false = not_lt earlier in
    ap (λ b. last_time_after other (cond b (w ∷ writes_after mark ws) (writes_after mark ws))) dropped ∙ last_later mark w.time other ws rising.2 earlier late)
    (cases_lt mark w.time)

-- and where it is not, there are none
none_later : (mark before : ℕ) (ws : List (TimedWrite Value)) → IsRisingAfter before ws → last_time_after before ws ≤ mark → writes_after mark ws ≡ []
none_later mark before [] rising early = refl
none_later mark before (w ∷ ws) rising early =
    let first = not_before w.time ws rising.2 in
    let dropped : nat_lt mark w.time ≡ false = not_lt (omega arith) in
    ap (λ b. cond b (w ∷ writes_after mark ws) (writes_after mark ws)) dropped ∙ none_later mark w.time ws rising.2 early

-- the anchors' times are not later than the mark
pub anchors_upto : (mark before : ℕ) (olds : List OldRecord) (key : Key) → AllByRecursion (IsAnchorUpto mark) olds → before ≤ mark
    → last_time_after before (old_writes olds key) ≤ mark
anchors_upto mark before [] key upto early = early
anchors_upto mark before (o ∷ olds) key upto early =
    let write : TimedWrite Value = record { time = o.from; write = Some o.value } in
    elim (same_key o.key key) as (λ (b : Bool). last_time_after before (cons_option (cond b (Some write) None) (old_writes olds key)) ≤ mark) [
      | true ↦ anchors_upto mark o.from olds key upto.1 (upto.0).1
      | false ↦ anchors_upto mark before olds key upto.1 early
    ]

-- ---- the history

module _ (header : Header) (image : Image) (layout : Layout) (reading : Reading) (h : History Value) (floors : ℕ → ℕ)
    (laid : IsLayoutOf header layout reading) (held : HoldsLayout header image layout) (stands : StandsFor reading h floors)
    (built : IsTrue (is_built header.profile 1)) (all_built : AreBuilt header layout.slots) where
  pub stands_opening : IsOpening header image (unread_layout layout) (unread reading)
  stands_opening = record { built = built; opens = held_opens header image layout reading h floors laid held stands all_built }

  pub facts_are : (key : Key) → heap_facts reading key ≡ old_writes reading.anchors key ++ writes_after (reclaimed_upto reading) (writes_of h key)
  facts_are key =
      ap (λ (l : History Value). old_writes reading.anchors key ++ writes_of l key) stands.opens.write_sets
      ∙ ap (λ (l : List (TimedWrite Value)). old_writes reading.anchors key ++ l) (writes_of-commits_after (reclaimed_upto reading) h key)

  rising_writes : (key : Key) → IsRisingAfter 0 (writes_of h key)
  rising_writes key = writes_of-rising 0 h key (rising-from_following IsValue [] h stands.opens.history)

  last_fact : (key : Key) → reclaimed_upto reading < last_time (writes_of h key) → last_time (heap_facts reading key) ≡ last_time (writes_of h key)
  last_fact key late =
      ap (λ (l : List (TimedWrite Value)). last_time l) (facts_are key)
      ∙ last-append 0 (old_writes reading.anchors key) (writes_after (reclaimed_upto reading) (writes_of h key))
      ∙ last_later (reclaimed_upto reading) 0 (last_time (old_writes reading.anchors key)) (writes_of h key) (rising_writes key) (omega arith) late

  early_fact : (key : Key) → last_time (writes_of h key) ≤ reclaimed_upto reading → last_time (heap_facts reading key) ≤ reclaimed_upto reading
  early_fact key early =
      let same : last_time (heap_facts reading key) ≡ last_time (old_writes reading.anchors key) =
      ap (λ (l : List (TimedWrite Value)). last_time l) (facts_are key)
      ∙ last-append 0 (old_writes reading.anchors key) (writes_after (reclaimed_upto reading) (writes_of h key))
      ∙ ap (λ (l : List (TimedWrite Value)). last_time_after (last_time (old_writes reading.anchors key)) l)
      (none_later (reclaimed_upto reading) 0 (writes_of h key) (rising_writes key) early) in
      subst (λ (n : ℕ). n ≤ reclaimed_upto reading) (sym same)
      (anchors_upto (reclaimed_upto reading) 0 reading.anchors key stands.opens.reads.anchor_times (omega arith))

  pub history_read : (r : Recovered) → IsReadFrom image r → IsHistoryRead h floors r
  history_read r reads =
      let same = opens_once r.header header image reads.layout (unread_layout layout) reads.reading (unread reading) reads.opening.opens stands_opening.opens in
      let is : IsReadAs (unread_layout layout) (unread reading) r =
      subst (λ (l : Layout). IsReadAs l (unread reading) r) same.1 (subst (λ (x : Reading). IsReadAs reads.layout x r) same.2 reads.is) in
      let mark : r.reclaimed ≡ reclaimed_upto reading = is.reclaimed in
      record {
        commits = is.commits ∙ stands.opens.commits;
        floors_are =
            λ relation. ap (λ (f : FloorsValue). floor_at f relation) is.floors ∙ kept-of (unread reading).log relation ∙ stands.opens.floors_given relation;
        marks = let upto =
            stands.homes.marks in subst (λ (n : ℕ). n ≤ r.archived) (sym mark) (subst (λ (n : ℕ). reclaimed_upto reading ≤ n) (sym is.archived) upto);
        last_is = is.last_is ∙ ap (λ l. log.last_time_after 0 l) stands.opens.commits ∙ last_time-heads 0 h;
        versions_are = λ key.
            ap (λ (l : List (TimedWrite Value)). filter (ends_after (floors key.relation)) (versions l)) (is.writes key)
            ∙ stands.homes.in_heap key
            ∙ ap (λ (n : ℕ). filter (ends_after (floors key.relation)) (filter (ends_after n) (versions_of h key))) (sym mark);
        last_writes =
            λ key late. ap (λ (l : List (TimedWrite Value)). last_time l) (is.writes key)
            ∙ last_fact key (subst (λ (n : ℕ). n < last_time (writes_of h key)) mark late);
        earlier_writes = λ key early.
            subst (λ (n : ℕ). last_time (chains.writes_of r.chains key) ≤ n) (sym mark)
            (subst (λ (l : List (TimedWrite Value)). last_time l ≤ reclaimed_upto reading) (sym (is.writes key))
            (early_fact key (subst (λ (n : ℕ). last_time (writes_of h key) ≤ n) mark early)));
      }
