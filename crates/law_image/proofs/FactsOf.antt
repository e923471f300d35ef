-- The facts of a heap: members as commits, anchors, and that they rise.
use Rattle.std.proofs.Common.{◌≡◌, ℕ, ◌<◌, ◌≤◌, ◌^◌, nat_le, nat_lt, Bool, true, false, cond, List, [], ◌∷◌, ◌++◌, map, Option, Some, None, refl, ap, sym}
use Rattle.std.proofs.Common.{subst, ◌∙◌, arith, ⊎_elim, ◌↔◌, inl, inr}
use Rattle.std.proofs.lemmas.List.Elements.{Contains-append_cases, Contains-append_left, Contains-append_right}
use Rattle.history.specs.Sets.{Writes}
use Rattle.history.proofs.Sets.{writes-are}
use Rattle.std.specs.Prelude.{Contains, filter, unwrap_or, option_map, find}
use Rattle.std.specs.List.{AllByRecursion, cons_option}
use Rattle.std.specs.List.Sorted.{IsStrictlySortedBy}
use Rattle.std.specs.declared.cmp.Ordering.TheVariants.{Less}
use Rattle.std.proofs.lemmas.Bool.{cases_lt}
use Rattle.std.proofs.lemmas.Bool.Decides.{nat_tests}
use mathlib.Core.Path.{fun_ext}
use Rattle.history.specs.declared.key.Key.{Key}
use Rattle.history.specs.declared.time.TimedWrite.{TimedWrite}
use Rattle.history.specs.declared.time.Version.{Version}
use Rattle.history.specs.Key.{key_cmp, same_key, write_in}
use Rattle.history.specs.Time.{IsRisingAfter, value_after, writes_after}
use Rattle.history.specs.Versions.{versions, stands_at, standing_at, as_write, FollowOneAnotherFrom}
use Rattle.history.specs.Histories.{Commit, History, writes_of, HasRisingTimes, commits_after}
use Rattle.history.proofs.Orders.{is_lt, not_lt, is_le}
use Rattle.history.proofs.Values.{rising_earlier, filter-standing, value_after-later}
use Rattle.history.proofs.Histories.{writes_of-rising, commits_after-all, times-earlier}
use Rattle.law_image.specs.Values.{Value}
use Rattle.law_image.specs.Reading.{Member, OldRecord, Reading}
use Rattle.history.specs.Queries.{values_after}
use Rattle.law_image.specs.Facts.{commit_read, commits_from, old_writes, heap_commits, heap_facts, IsHeapFact, latest, AreStored}
use Rattle.law_image.specs.StandsFor.{head_of, IsAnchorUpto}

-- the members' heads are those of the commits that they stand for
pub heads-commits_from : (f : Key → Option Value) (ms : List Member) → map head_of (commits_from f ms) ≡ map (λ m. m.head) ms
heads-commits_from f [] = refl
heads-commits_from f (m ∷ ms) = ap (λ l. m.head ∷ l) (heads-commits_from (values_after f (commit_read f m)) ms)

-- a key's value after a commit and those that follow it
values_after-step : (f : Key → Option Value) (c : Commit Value) (rest : History Value) (t : ℕ) (key : Key) → c.time ≤ t
    → value_after (values_after f c key) (writes_of rest key) t ≡ value_after (f key) (writes_of (c ∷ rest) key) t
values_after-step f c rest t key le =
    let early : nat_le c.time t ≡ true = is_le le in
    elim (write_in c.writes key) as (λ o. value_after (unwrap_or o (f key)) (writes_of rest key) t
    ≡ value_after (f key) (cons_option (option_map (λ write. record { time = c.time; write = write }) o) (writes_of rest key)) t) [
      | None ↦ refl
      | Some w ↦ ap (λ b. value_after (cond b w (f key)) (writes_of rest key) t) (sym early)
    ]

-- members that follow others are resolved against the values that those leave
pub commits_from-append : (s : ℕ) (f : Key → Option Value) (ms ns : List Member) → HasRisingTimes s (commits_from f ms)
    → commits_from f (ms ++ ns) ≡ commits_from f ms ++ commits_from (λ key. value_after (f key) (writes_of (commits_from f ms) key) (2 ^ 63)) ns
commits_from-append s f [] ns up = refl
commits_from-append s f (m ∷ ms) ns up =
    let c = commit_read f m in
    let g = values_after f c in
    let rest = commits_from g ms in
    ap (λ l. c ∷ l) (
    commits_from-append m.head.time g ms ns up.2
    ∙ ap (λ (v : Key → Option Value). rest ++ commits_from v ns) (fun_ext (λ key. values_after-step f c rest (2 ^ 63) key (omega (arith, up.1))))
    )

-- members later than a mark
members-all : (mark : ℕ) (f : Key → Option Value) (ms : List Member) → HasRisingTimes mark (commits_from f ms) → filter (λ m. nat_lt mark m.head.time) ms ≡ ms
members-all mark f [] up = refl
members-all mark f (m ∷ ms) up =
    let late : nat_lt mark m.head.time ≡ true = is_lt up.0 in
    let rest = values_after f (commit_read f m) in
    rw late (ap (λ l. m ∷ l) (members-all mark rest ms (times-earlier mark m.head.time (commits_from rest ms) (omega (arith, up.0)) up.2)))

-- Without the members up to a mark, the others are the same commits, resolved against the values at the mark.
pub commits_from-after : (s mark : ℕ) (f g : Key → Option Value) (ms : List Member) → HasRisingTimes s (commits_from f ms)
    → ((key : Key) → g key ≡ value_after (f key) (writes_of (commits_from f ms) key) mark)
    → commits_from g (filter (λ m. nat_lt mark m.head.time) ms) ≡ commits_after mark (commits_from f ms)
commits_from-after s mark f g [] up values = refl
commits_from-after s mark f g (m ∷ ms) up values =
    let c = commit_read f m in
    let rest = commits_from (values_after f c) ms in
    ⊎_elim
    (λ (later : mark < m.head.time).
    let same : g ≡ f =
    fun_ext (λ key. values key ∙ value_after-later (f key) (writes_of (c ∷ rest) key) mark (writes_of-rising mark (c ∷ rest) key (later, up.1, up.2))) in
    let all : filter (λ (x : Member). nat_lt mark x.head.time) (m ∷ ms) ≡ m ∷ ms = members-all mark f (m ∷ ms) (later, up.1, up.2) in
    rw all (ap (λ (v : Key → Option Value). commits_from v (m ∷ ms)) same ∙ sym (commits_after-all mark mark (c ∷ rest) (omega arith) (later, up.1, up.2))))
    (λ (early : m.head.time ≤ mark).
    let dropped : nat_lt mark m.head.time ≡ false = not_lt early in
    rw dropped (commits_from-after m.head.time mark (values_after f c) g ms up.2 (λ key. values key ∙ sym (values_after-step f c rest mark key early))))
    (cases_lt mark m.head.time)

-- members are stored as their writes are, over the values that those before them leave
pub AreStored-append : (s : ℕ) (f : Key → Option Value) (ms ns : List Member) → HasRisingTimes s (commits_from f ms) → AreStored f ms
    → AreStored (λ key. value_after (f key) (writes_of (commits_from f ms) key) (2 ^ 63)) ns → AreStored f (ms ++ ns)
AreStored-append s f [] ns up stored next = next
AreStored-append s f (m ∷ ms) ns up stored next =
    let c = commit_read f m in
    let g = values_after f c in
    let rest = commits_from g ms in
    let values : (λ key. value_after (f key) (writes_of (c ∷ rest) key) (2 ^ 63)) ≡ (λ key. value_after (g key) (writes_of rest key) (2 ^ 63)) =
    fun_ext (λ key. sym (values_after-step f c rest (2 ^ 63) key (omega (arith, up.1)))) in
    (stored.0, AreStored-append m.head.time g ms ns up.2 stored.1 (subst (λ (v : Key → Option Value). AreStored v ns) values next))

-- and so they are without those up to a mark, over the values at the mark
pub AreStored-after : (s mark : ℕ) (f g : Key → Option Value) (ms : List Member) → HasRisingTimes s (commits_from f ms)
    → ((key : Key) → g key ≡ value_after (f key) (writes_of (commits_from f ms) key) mark) → AreStored f ms
    → AreStored g (filter (λ m. nat_lt mark m.head.time) ms)
AreStored-after s mark f g [] up values stored = tt
AreStored-after s mark f g (m ∷ ms) up values stored =
    let c = commit_read f m in
    let rest = commits_from (values_after f c) ms in
    ⊎_elim
    (λ (later : mark < m.head.time).
    let same : g ≡ f =
    fun_ext (λ key. values key ∙ value_after-later (f key) (writes_of (c ∷ rest) key) mark (writes_of-rising mark (c ∷ rest) key (later, up.1, up.2))) in
    let all : filter (λ (x : Member). nat_lt mark x.head.time) (m ∷ ms) ≡ m ∷ ms = members-all mark f (m ∷ ms) (later, up.1, up.2) in
    rw all (subst (λ (v : Key → Option Value). AreStored v (m ∷ ms)) (sym same) stored))
    (λ (early : m.head.time ≤ mark).
    let dropped : nat_lt mark m.head.time ≡ false = not_lt early in
    rw dropped (AreStored-after m.head.time mark (values_after f c) g ms up.2 (λ key. values key ∙ sym (values_after-step f c rest mark key early)) stored.1))
    (cases_lt mark m.head.time)

-- a later key is another one
other_key : (a b key : Key) → key_cmp a b ≡ Less → same_key a key ≡ true → same_key b key ≡ false
other_key a b key less same = grind (arith, nat_tests)

-- a key has no old record beyond one of its own
old_writes-beyond : (old : OldRecord) (olds : List OldRecord) (key : Key) → same_key old.key key ≡ true
    → AllByRecursion (λ k. key_cmp old.key k ≡ Less) (map (λ o. o.key) olds) → old_writes olds key ≡ []
old_writes-beyond old [] key same beyond = refl
old_writes-beyond old (o ∷ olds) key same beyond =
    let other : same_key o.key key ≡ false = other_key old.key o.key key beyond.0 same in
    rw other (old_writes-beyond old olds key same beyond.1)

-- a key has one old record at most, of a time up to the mark: the facts behind it rise
pub old_writes-rising : (mark : ℕ) (olds : List OldRecord) (key : Key) (later : List (TimedWrite Value)) → mark < 2 ^ 63
    → IsStrictlySortedBy key_cmp (map (λ old. old.key) olds) → AllByRecursion (IsAnchorUpto mark) olds → IsRisingAfter mark later
    → IsRisingAfter 0 (old_writes olds key ++ later)
unfolding IsStrictlySortedBy
old_writes-rising mark [] key later lt sorted within up = rising_earlier 0 mark later (omega arith) up
old_writes-rising mark (o ∷ olds) key later lt sorted within up =
    let rest = old_writes-rising mark olds key later lt sorted.1 within.1 up in
    let Goal : Bool → Type 0 =
    λ b. same_key o.key key ≡ b
    → IsRisingAfter 0 (cons_option (cond b (Some (record { time = o.from; write = Some o.value })) None) (old_writes olds key) ++ later) in
    let all : (b : Bool) → Goal b =
    λ b. elim b as Goal [
      | true ↦ λ e. rw (old_writes-beyond o olds key e sorted.0) (within.0.0, omega (arith, within.0.1), rising_earlier o.from mark later within.0.1 up)
      | false ↦ λ e. rest
    ] in
    all (same_key o.key key) refl

-- none of the anchors is later than their mark
-- an anchor alone stands at the mark
one-standing : (mark : ℕ) (o : OldRecord) → mark < 2 ^ 63 → o.from ≤ mark
    → map as_write (filter (stands_at mark) (versions (record { time = o.from; write = Some o.value } ∷ []))) ≡ record { time = o.from; write = Some o.value }
    ∷ []
one-standing mark o lt le =
    let from : nat_le o.from mark ≡ true = is_le le in
    let to : nat_lt mark (2 ^ 63) ≡ true = is_lt lt in
    rw (from, to) refl

-- the anchors stand at their mark
pub old_writes-standing : (mark : ℕ) (olds : List OldRecord) (key : Key) → mark < 2 ^ 63
    → IsStrictlySortedBy key_cmp (map (λ old. old.key) olds) → AllByRecursion (IsAnchorUpto mark) olds
    → map as_write (filter (stands_at mark) (versions (old_writes olds key))) ≡ old_writes olds key
unfolding IsStrictlySortedBy
old_writes-standing mark [] key lt sorted within = refl
old_writes-standing mark (o ∷ olds) key lt sorted within =
    let rest = old_writes-standing mark olds key lt sorted.1 within.1 in
    let Goal : Bool → Type 0 = λ b. same_key o.key key ≡ b
    → map as_write (filter (stands_at mark)
    (versions (cons_option (cond b (Some (record { time = o.from; write = Some o.value })) None) (old_writes olds key))))
    ≡ cons_option (cond b (Some (record { time = o.from; write = Some o.value })) None) (old_writes olds key) in
    let all : (b : Bool) → Goal b =
    λ b. elim b as Goal [
      | true ↦ λ e. rw (old_writes-beyond o olds key e sorted.0) (one-standing mark o lt within.0.1)
      | false ↦ λ e. rest
    ] in
    all (same_key o.key key) refl

pub old_writes-past : (mark later : ℕ) (olds : List OldRecord) (key : Key) → mark ≤ later → AllByRecursion (IsAnchorUpto mark) olds
    → writes_after later (old_writes olds key) ≡ []
old_writes-past mark later [] key le within = refl
old_writes-past mark later (o ∷ olds) key le within =
    let rest = old_writes-past mark later olds key le within.1 in
    let past : nat_lt later o.from ≡ false = not_lt (omega (arith, within.0.1)) in
    let Goal : Bool → Type 0 =
    λ b. writes_after later (cons_option (cond b (Some (record { time = o.from; write = Some o.value })) None) (old_writes olds key)) ≡ [] in
    elim (same_key o.key key) as Goal [ true ↦ rw past rest | false ↦ rest ]

-- from their mark on, what they give is the latest
pub old_writes-latest : (mark t : ℕ) (olds : List OldRecord) (key : Key) (before : Option Value) → mark ≤ t → mark < 2 ^ 63
    → AllByRecursion (IsAnchorUpto mark) olds
    → value_after before (old_writes olds key) t ≡ value_after before (old_writes olds key) (2 ^ 63)
old_writes-latest mark t [] key before le lt within = refl
old_writes-latest mark t (o ∷ olds) key before le lt within =
    let early : nat_le o.from t ≡ true = is_le (omega (arith, within.0.1)) in
    let early' : nat_le o.from (2 ^ 63) ≡ true = is_le (omega (arith, within.0.1)) in
    let Goal : Bool → Type 0 =
    λ b. value_after before (cons_option (cond b (Some (record { time = o.from; write = Some o.value })) None) (old_writes olds key)) t
    ≡ value_after before (cons_option (cond b (Some (record { time = o.from; write = Some o.value })) None) (old_writes olds key)) (2 ^ 63) in
    elim (same_key o.key key) as Goal [
      | true ↦ ap (λ b. value_after (cond b (Some o.value) before) (old_writes olds key) t) early
          ∙ old_writes-latest mark t olds key (Some o.value) le lt within.1
          ∙ ap (λ b. value_after (cond b (Some o.value) before) (old_writes olds key) (2 ^ 63)) (sym early')
      | false ↦ old_writes-latest mark t olds key before le lt within.1
    ]

-- the version that stands at a time, as a write, gives the value that stands then
pub latest-standing : (s t : ℕ) (vs : List (Version Value)) → t < 2 ^ 63 → FollowOneAnotherFrom s vs → latest (map as_write (filter (stands_at t) vs))
    ≡ standing_at vs t
latest-standing s t [] lt apart = refl
latest-standing s t (v ∷ vs) lt apart =
    let rest = latest-standing v.to t vs lt apart.2 in
    let Goal : Bool → Type 0 =
    λ b. stands_at t v ≡ b → latest (map as_write (cond b (v ∷ filter (stands_at t) vs) (filter (stands_at t) vs)))
    ≡ option_map (λ (x : Version Value). x.value) (cond b (Some v) (find (stands_at t) vs)) in
    let all : (b : Bool) → Goal b =
    λ b. elim b as Goal [
      | true ↦ λ e.
          let inside : t < v.to = grind (arith, nat_tests) in
          let began : nat_le v.from (2 ^ 63) ≡ true = grind (arith, nat_tests) in
          rw (filter-standing v.to t vs inside apart.2, began) refl
      | false ↦ λ e. rest
    ] in
    all (stands_at t v) refl

-- the list of a key's facts has those that the sets say
pub heap-facts_are : (reading : Reading) (key : Key) (time : ℕ) (write : Option Value)
    → Contains (heap_facts reading key) (record { time = time; write = write }) ↔ IsHeapFact reading key time write
heap-facts_are reading key time write =
    let fact : TimedWrite Value = record { time = time; write = write } in
    let olds = old_writes reading.anchors key in
    let later = writes_of (heap_commits reading) key in
    let are = writes-are (heap_commits reading) key time write in (
      λ has.
          ⊎_elim (λ (old : Contains olds fact). inl old) (λ (new : Contains later fact). inr (are.0 new)) (Contains-append_cases olds later fact has),
      λ either.
          ⊎_elim (λ (old : Contains olds fact). Contains-append_left olds later fact old)
          (λ (new : Writes (heap_commits reading) key time write). Contains-append_right olds later fact (are.1 new)) either,
    )
