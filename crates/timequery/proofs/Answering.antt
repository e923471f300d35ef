-- What is found in memory and in the runs is what the history says.
use Rattle.std.proofs.Common.{◌≡◌, ℕ, ◌+◌, ◌<◌, ◌≤◌, ◌^◌, min, Bool, true, false, cond, List, [], ◌∷◌, ◌++◌, Option, Some, None, refl, ap, sym, ◌∙◌, subst}
use Rattle.std.proofs.Common.{arith}
use Rattle.std.specs.Prelude.{filter, find, option_map, option_to_list, Ok}
use Rattle.std.proofs.lemmas.Bool.Decides.{nat_tests}
use Rattle.disk.specs.Calls.{DiskState}
use Rattle.history.specs.declared.key.Key.{Key}
use Rattle.history.specs.declared.time.Version.{Version}
use Rattle.history.specs.Key.{key_of}
use Rattle.history.specs.Time.{value_at}
use Rattle.history.specs.Versions.{versions, stands_at, standing_at, rows, ends_after, FollowOneAnotherFrom}
use Rattle.history.specs.Histories.{History, last, state, between, versions_of, writes_of as history_writes, HasRisingTimes}
use Rattle.history.specs.Queries.{IsScanAt, IsScanBetween}
use Rattle.history.specs.Answers.{QueryRefusal, at_answer, between_answer, IsScanAtAnswer, IsScanBetweenAnswer, unless_refused}
use Rattle.history.proofs.Histories.{rising-from_following, writes_of-rising}
use Rattle.history.proofs.Values.{versions-apart, none-standing, standing_at-versions}
use Rattle.history.proofs.Intervals.{standing_at-kept, rows-kept}
use Rattle.history.proofs.Views.{at-kept, between-kept, at-recent, between-recent, in-range}
use Rattle.history.proofs.ViewScans.{time-kept, interval-kept}
use Rattle.floors.specs.Floors.{floor_at}
use Rattle.law_image.specs.Values.{Value, IsValue}
use Rattle.archive.specs.Answers.{versions_in, rows_of}
use Rattle.chains.specs.KeyWrites.{writes_of, AreRising, IsOrdered}
use Rattle.chains.specs.Rows.{rows_in, scanned_rows}
use Rattle.chains.specs.Scans.{scanned}
use Rattle.chains.proofs.Rising.{rising-writes_of}
use Rattle.chains.proofs.Shown.{scan_is}
use Rattle.timequery.specs.View.{ViewValue, mark_of}
use Rattle.timequery.specs.Homes.{ReadsHistory, view_of, recent_rows, values_of}
use Rattle.timequery.proofs.Parts.{rows-append}
use Rattle.timequery.proofs.Scanned.{Row, AreInOrder, scanned-order, scanned-rows_of}
use Rattle.timequery.proofs.ScanLists.{scan-is}
use Rattle.timequery.proofs.ScanValues.{row_at, rows-one, values-are}

-- ---- versions that stand at a time

find-part : {X : Type 0} (p q : X → Bool) (xs : List X) → find q xs ≡ None → find q (filter p xs) ≡ None
find-part p q [] none = refl
find-part {X} p q (x ∷ xs) none =
    let Goal : Bool → Bool → Type 0 = λ a b. q x ≡ b → cond b (Some x) (find q xs) ≡ None → find q (cond a (x ∷ filter p xs) (filter p xs)) ≡ None in
    let all : (a b : Bool) → Goal a b = λ a b. elim b as (λ b. Goal a b) [
      | true ↦ λ is h. absurd cc
      | false ↦ λ is h. elim a as (λ a. find q (cond a (x ∷ filter p xs) (filter p xs))
          ≡ None) [ true ↦ rw is (find-part p q xs h) | false ↦ find-part p q xs h ]
    ] in
    all (p x) (q x) refl none

none-of : (vs : List (Version Value)) (t : ℕ) → standing_at vs t ≡ None → find (stands_at t) vs ≡ None
none-of vs t none =
    let Goal : Option (Version Value) → Type 0 = λ o. option_map (λ (v : Version Value). v.value) o ≡ None → o ≡ None in
    (elim (find (stands_at t) vs) as Goal [ None ↦ λ h. refl | Some v ↦ λ h. absurd cc ]) none

-- some of the versions have what all of them have, where they have something
part-stands : (s t : ℕ) (p : Version Value → Bool) (vs : List (Version Value)) (value : Value) → FollowOneAnotherFrom s vs
    → standing_at (filter p vs) t ≡ Some value → standing_at vs t ≡ Some value
part-stands s t p [] value apart is = absurd cc
part-stands s t p (v ∷ vs) value apart is =
    let Goal : Bool → Bool → Type 0 =
    λ a b. stands_at t v ≡ b → option_map (λ (x : Version Value). x.value) (find (stands_at t) (cond a (v ∷ filter p vs) (filter p vs))) ≡ Some value
    → option_map (λ (x : Version Value). x.value) (cond b (Some v) (find (stands_at t) vs)) ≡ Some value in
    let all : (a b : Bool) → Goal a b = λ a b. elim b as (λ b. Goal a b) [
      | true ↦ elim a as (λ a. Goal a true) [
        | true ↦ λ here h. rw here at h
        | false ↦ λ here h.
            let lasting : t < v.to = grind (arith, nat_tests) in
            let none = find-part p (stands_at t) vs (none-standing v.to t vs lasting apart.2) in
            absurd (let not : None ≡ Some value = sym (ap (λ (o : Option (Version Value)). option_map (λ (x : Version Value). x.value) o) none) ∙ h in cc)
      ]
      | false ↦ elim a as (λ a. Goal a false) [
        | true ↦ λ here h. part-stands v.to t p vs value apart.2 (rw here at h)
        | false ↦ λ here h. part-stands v.to t p vs value apart.2 h
      ]
    ] in
    all (p v) (stands_at t v) refl is

front-stands : (vs ws : List (Version Value)) (t : ℕ) → find (stands_at t) ws ≡ None → standing_at (vs ++ ws) t ≡ standing_at vs t
front-stands [] ws t none = ap (λ (o : Option (Version Value)). option_map (λ (x : Version Value). x.value) o) none
front-stands (v ∷ vs) ws t none =
    let rest = front-stands vs ws t none in
    elim (stands_at t v) as (λ b. option_map (λ (x : Version Value). x.value) (cond b (Some v) (find (stands_at t) (vs ++ ws)))
    ≡ option_map (λ (x : Version Value). x.value) (cond b (Some v) (find (stands_at t) vs))) [ true ↦ refl | false ↦ rest ]

-- ---- answers

module _ (tells : Bool) (kept : List (ℕ × List ℕ)) (disk : DiskState) (v : ViewValue) (h : History Value) (reads : ReadsHistory tells kept disk v h)
    (rising : AreRising v.state) where
  up : HasRisingTimes 0 h
  up = rising-from_following IsValue [] h reads.history

  heap : Key → List (Version Value)
  heap key = versions (writes_of v.state key)

  archive : Key → List (Version Value)
  archive key = versions_in key reads.lists

  early : (key : Key) (t : ℕ) → t ≤ v.last → t < 2 ^ 63
  early key t le = in-range (view_of v reads.lists) h reads.view up key t le

  memory-is : (key : Key) (t : ℕ) → t ≤ v.last → standing_at (heap key) t ≡ value_at (writes_of v.state key) t
  unfolding heap
  memory-is key t le = standing_at-versions 0 t (writes_of v.state key) (early key t le) (rising-writes_of v.state key rising)

  history-apart : (key : Key) → (s : ℕ) × FollowOneAnotherFrom s (versions_of h key)
  history-apart key = (_, versions-apart 0 (history_writes h key) (writes_of-rising 0 h key up))

  history-is : (key : Key) (t : ℕ) → t ≤ v.last → standing_at (versions_of h key) t ≡ state h t key
  history-is key t le = standing_at-versions 0 t (history_writes h key) (early key t le) (writes_of-rising 0 h key up)

  at-said : (key : Key) (t : ℕ) (o : Option Value) → floor_at v.floors key.relation ≤ t → t ≤ v.last → state h t key ≡ o
      → at_answer h (floor_at v.floors) key t ≡ Ok o
  at-said key t o from le is =
      let none = time-kept (last h) (floor_at v.floors key.relation) t from (subst (λ (n : ℕ). t ≤ n) reads.view.newest_is le) in
      ap (λ (r : Option QueryRefusal). unless_refused r (state h t key)) none ∙ ap (λ (x : Option Value). Ok x) is

  -- what memory has
  pub value-in-memory : (key : Key) (t : ℕ) (value : Value) → floor_at v.floors key.relation ≤ t → t ≤ v.last → value_at (writes_of v.state key) t ≡ Some value
      → at_answer h (floor_at v.floors) key t ≡ Ok (Some value)
  unfolding heap
  value-in-memory key t value from le is =
      let homes = reads.view.homes in
      let part = filter (ends_after v.reclaimed) (versions_of h key) in
      let there : standing_at (heap key) t ≡ Some value = memory-is key t le ∙ is in
      let in_part : standing_at part t ≡ Some value =
      sym (standing_at-kept part (floor_at v.floors key.relation) t from) ∙ ap (λ (vs : List (Version Value)). standing_at vs t) (sym (homes.in_heap key))
      ∙ standing_at-kept (heap key) (floor_at v.floors key.relation) t from ∙ there in
      let apart = history-apart key in
      at-said key t (Some value) from le (sym (history-is key t le) ∙ part-stands apart.0 t (ends_after v.reclaimed) (versions_of h key) value apart.1 in_part)

  -- what memory says from the reclaim mark on
  pub value-recent : (key : Key) (t : ℕ) → floor_at v.floors key.relation ≤ t → t ≤ v.last → v.reclaimed ≤ t
      → at_answer h (floor_at v.floors) key t ≡ Ok (value_at (writes_of v.state key) t)
  unfolding heap
  value-recent key t from le recent =
      let is = at-recent h (floor_at v.floors) (mark_of v.runs) v.reclaimed (view_of v reads.lists).heap
      (view_of v reads.lists).archive reads.view.homes up key t from recent (early key t le) in
      at-said key t (value_at (writes_of v.state key) t) from le (sym is ∙ memory-is key t le)

  value-same : (key : Key) (t : ℕ) → floor_at v.floors key.relation ≤ t → t ≤ v.last → v.reclaimed ≤ t → value_at (writes_of v.state key) t ≡ state h t key
  unfolding heap
  value-same key t from le recent =
      sym (memory-is key t le)
      ∙ at-recent h (floor_at v.floors) (mark_of v.runs) v.reclaimed (view_of v reads.lists).heap
      (view_of v reads.lists).archive reads.view.homes up key t from recent (early key t le)

  -- what the runs have where memory has nothing
  pub value-in-runs : (key : Key) (t : ℕ) (o : Option Value) → floor_at v.floors key.relation ≤ t → t ≤ v.last → value_at (writes_of v.state key) t ≡ None
      → o ≡ standing_at (versions_in key reads.lists) t → at_answer h (floor_at v.floors) key t ≡ Ok o
  unfolding heap archive
  value-in-runs key t o from le none is =
      let both = at-kept h (floor_at v.floors) (mark_of v.runs) v.reclaimed (view_of v reads.lists).heap
      (view_of v reads.lists).archive reads.view.homes up key t from (early key t le) in
      let later = filter (ends_after (mark_of v.runs)) (heap key) in
      let empty = find-part (ends_after (mark_of v.runs)) (stands_at t) (heap key) (none-of (heap key) t (memory-is key t le ∙ none)) in
      at-said key t o from le
      (sym both ∙ standing_at-kept (archive key ++ later) (floor_at v.floors key.relation) t from ∙ front-stands (archive key) later t empty ∙ sym is)

  rows-said : (key : Key) (a b : ℕ) (found : List (Version Value)) → floor_at v.floors key.relation ≤ min a b → a < b → b ≤ v.last + 1
      → between h key a b ≡ found → between_answer h (floor_at v.floors) key a b ≡ Ok found
  rows-said key a b found from some upto is =
      let none = interval-kept (last h) (floor_at v.floors key.relation) a b (omega (arith, from)) some
      (subst (λ (n : ℕ). b ≤ n + 1) reads.view.newest_is upto) in
      ap (λ (r : Option QueryRefusal). unless_refused r (between h key a b)) none ∙ ap (λ (x : List (Version Value)). Ok x) is

  between-memory : (key : Key) (a b : ℕ) → floor_at v.floors key.relation ≤ a → v.reclaimed ≤ a → rows_in v.state a b key ≡ between h key a b
  between-memory key a b from recent = between-recent h (floor_at v.floors) (mark_of v.runs) v.reclaimed (view_of v reads.lists).heap
      (view_of v reads.lists).archive reads.view.homes up key a b from recent

  between-both : (key : Key) (a b : ℕ) → floor_at v.floors key.relation ≤ a
      → rows (versions_in key reads.lists) a b ++ recent_rows v a b key ≡ between h key a b
  unfolding heap archive
  between-both key a b from =
      let later = filter (ends_after (mark_of v.runs)) (heap key) in
      sym (rows-append (archive key) later a b)
      ∙ sym (rows-kept (archive key ++ later) (floor_at v.floors key.relation) a b from)
      ∙ between-kept h (floor_at v.floors) (mark_of v.runs) v.reclaimed (view_of v reads.lists).heap
      (view_of v reads.lists).archive reads.view.homes up key a b from

  pub rows-recent : (key : Key) (a b : ℕ) → floor_at v.floors key.relation ≤ min a b → a < b → b ≤ v.last + 1 → v.reclaimed ≤ a
      → between_answer h (floor_at v.floors) key a b ≡ Ok (rows_in v.state a b key)
  rows-recent key a b from some upto recent =
      rows-said key a b (rows_in v.state a b key) from some upto (sym (between-memory key a b (omega (arith, from)) recent))

  pub rows-of-both : (key : Key) (a b : ℕ) (found : List (Version Value)) → floor_at v.floors key.relation ≤ min a b → a < b → b ≤ v.last + 1
      → found ≡ rows (versions_in key reads.lists) a b ++ recent_rows v a b key → between_answer h (floor_at v.floors) key a b ≡ Ok found
  rows-of-both key a b found from some upto is = rows-said key a b found from some upto (sym (is ∙ between-both key a b (omega (arith, from))))

  -- ---- of a relation

  scan-rows : (relation a b : ℕ) (found : List Row) → floor_at v.floors relation ≤ a → AreInOrder found
      → ((number : ℕ) → rows_of number found ≡ between h (key_of relation number) a b) → IsScanBetween h relation a b found
  scan-rows relation a b found from order same = scan-is (λ key. between h key a b) relation found order same

  scan-said : (relation a b : ℕ) (found : List Row) → floor_at v.floors relation ≤ min a b → a < b → b ≤ v.last + 1 → IsScanBetween h relation a b found
      → IsScanBetweenAnswer h (floor_at v.floors) relation a b (Ok found)
  scan-said relation a b found from some upto is =
      (interval-kept (last h) (floor_at v.floors relation) a b (omega (arith, from)) some (subst (λ (n : ℕ). b ≤ n + 1) reads.view.newest_is upto), is)

  pub scan-recent : (relation a b : ℕ) → IsOrdered v.state → floor_at v.floors relation ≤ min a b → a < b → b ≤ v.last + 1 → v.reclaimed ≤ a
      → IsScanBetweenAnswer h (floor_at v.floors) relation a b (Ok (scanned_rows relation a b v.state))
  scan-recent relation a b ordered from some upto recent =
      scan-said relation a b (scanned_rows relation a b v.state) from some upto
      (scan-rows relation a b (scanned_rows relation a b v.state) (omega (arith, from)) (scanned-order relation a b v.state ordered)
      (λ number. scanned-rows_of relation a b v.state number ordered ∙ between-memory (key_of relation number) a b (omega (arith, from)) recent))

  both-scanned : (relation a b : ℕ) (found : List Row) → floor_at v.floors relation ≤ a → AreInOrder found
      → ((number : ℕ) → rows_of number found ≡ rows (versions_in (key_of relation number) reads.lists) a b ++ recent_rows v a b (key_of relation number))
      → IsScanBetween h relation a b found
  both-scanned relation a b found from order same =
      scan-rows relation a b found from order (λ number. same number ∙ between-both (key_of relation number) a b from)

  pub scan-of-both : (relation a b : ℕ) (found : List Row) → floor_at v.floors relation ≤ min a b → a < b → b ≤ v.last + 1 → AreInOrder found
      → ((number : ℕ) → rows_of number found ≡ rows (versions_in (key_of relation number) reads.lists) a b ++ recent_rows v a b (key_of relation number))
      → IsScanBetweenAnswer h (floor_at v.floors) relation a b (Ok found)
  scan-of-both relation a b found from some upto order same =
      scan-said relation a b found from some upto (both-scanned relation a b found (omega (arith, from)) order same)

  values-said : (relation t : ℕ) (found : List (ℕ × Value)) → floor_at v.floors relation ≤ t → t ≤ v.last → IsScanAt h relation t found
      → IsScanAtAnswer h (floor_at v.floors) relation t (Ok found)
  values-said relation t found from le is = (time-kept (last h) (floor_at v.floors relation) t from (subst (λ (n : ℕ). t ≤ n) reads.view.newest_is le), is)

  pub values-recent : (relation t : ℕ) → IsOrdered v.state → floor_at v.floors relation ≤ t → t ≤ v.last → v.reclaimed ≤ t
      → IsScanAtAnswer h (floor_at v.floors) relation t (Ok (scanned relation t v.state))
  values-recent relation t ordered from le recent =
      let is = scan_is v.state relation t ordered in
      values-said relation t (scanned relation t v.state) from le (record {
        rising = is.rising;
        each = λ number value.
            let same = value-same (key_of relation number) t from le recent in
            ((λ there. sym same ∙ (is.each number value).0 there), (λ says. (is.each number value).1 (same ∙ says)));
      })

  pub values-of-both : (relation t : ℕ) (found : List Row) → floor_at v.floors relation ≤ t → t ≤ v.last → AreInOrder found
      → ((number : ℕ) → rows_of number found ≡ rows (versions_in (key_of relation number) reads.lists) t (t + 1)
      ++ recent_rows v t (t + 1) (key_of relation number)) → IsScanAtAnswer h (floor_at v.floors) relation t (Ok (values_of found))
  values-of-both relation t found from le order same =
      let one : (number : ℕ) → between h (key_of relation number) t (t + 1) ≡ option_to_list (option_map (row_at t) (state h t (key_of relation number))) =
      λ number.
      let apart = history-apart (key_of relation number) in
      rows-one apart.0 t (versions_of h (key_of relation number)) apart.1
      ∙ ap (λ (o : Option Value). option_to_list (option_map (row_at t) o)) (history-is (key_of relation number) t le) in
      values-said relation t (values_of found) from le
      (values-are (λ key. between h key t (t + 1)) (state h t) relation t found one (both-scanned relation t (t + 1) found from order same))
