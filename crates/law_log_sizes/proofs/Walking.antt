-- The anchors of the state at a time are found member by member, and their bytes with them.
use Rattle.std.proofs.Common.{◌≡◌, ℕ, ◌<◌, ◌≤◌, ◌^◌, nat_le, Bool, true, false, List, [], ◌∷◌, map, Option, Some, None, refl, ap, sym, subst, ◌∙◌, arith}
use Rattle.std.proofs.Common.{⊎_elim}
use Rattle.std.specs.Prelude.{filter, unwrap_or, option_map}
use Rattle.std.specs.List.{AllByRecursion, cons_option}
use Rattle.std.specs.List.Sorted.{IsStrictlySortedBy}
use Rattle.std.proofs.lemmas.Bool.{cases_lt}
use Rattle.history.specs.declared.key.Key.{Key}
use Rattle.history.specs.declared.key.KeyWrite.{KeyWrite}
use Rattle.history.specs.declared.time.TimedWrite.{TimedWrite}
use Rattle.history.specs.Key.{key_cmp, write_in}
use Rattle.history.specs.Queries.{values_after}
use Rattle.history.specs.Histories.{writes_of, HasRisingTimes}
use Rattle.history.proofs.Orders.{is_le, not_le}
use Rattle.history.proofs.Histories.{writes_of-rising, times-earlier}
use Rattle.law_image.specs.Values.{Value}
use Rattle.law_image.specs.Reading.{HeapRecord, Member, OldRecord}
use Rattle.law_image.specs.Log.{AreRisingAfter}
use Rattle.law_image.specs.Facts.{commit_read, commits_from, write_of, old_writes}
use Rattle.law_log_sizes.specs.Sizes.{len_after, len_from, len_upto, lens_behind, AreCounted, AreAllCounted, HasRisingKeys}
use Rattle.law_log_sizes.proofs.Putting.{AreSorted, olds_len, first_value}
use Rattle.law_log_sizes.proofs.Commits.{keys_written, put_all, left_by, HadValues, put_all-sorted, put_all-writes, put_all-len}
use Rattle.law_log_sizes.proofs.Standing.{standing_from, standing-later}

-- ---- members

-- the commits of members rise as their heads do
pub commits-rise : (s : ℕ) (f : Key → Option Value) (ms : List Member) → AreRisingAfter s (map (λ (m : Member). m.head) ms)
    → HasRisingTimes s (commits_from f ms)
commits-rise s f [] up = tt
commits-rise s f (m ∷ ms) up = (up.0, up.1, commits-rise m.head.time (values_after f (commit_read f m)) ms up.2)

-- none of them is of an earlier time
pub none-upto : (time : ℕ) (f : Key → Option Value) (ms : List Member) → HasRisingTimes time (commits_from f ms)
    → filter (λ (m : Member). nat_le m.head.time time) ms ≡ []
none-upto time f [] up = refl
none-upto time f (m ∷ ms) up =
    let late : nat_le m.head.time time ≡ false = not_le up.0 in
    let g = values_after f (commit_read f m) in
    rw late (none-upto time g ms (times-earlier time m.head.time (commits_from g ms) (omega (arith, up.0)) up.2))

-- the keys of a member's writes are those of its records
pub written-keys : (f : Key → Option Value) (rs : List HeapRecord) → keys_written (map (write_of f) rs) ≡ map (λ (r : HeapRecord). r.key) rs
written-keys f [] = refl
written-keys f (r ∷ rs) = ap (λ l. r.key ∷ l) (written-keys f rs)

pub rising-written : (f : Key → Option Value) (m : Member) → HasRisingKeys m → IsStrictlySortedBy key_cmp (keys_written (commit_read f m).writes)
rising-written f m rising = subst (IsStrictlySortedBy key_cmp) (sym (written-keys f m.records)) rising

had-all : (f : Key → Option Value) (olds : List OldRecord) (ws : List (KeyWrite Value)) → ((key : Key) → first_value (old_writes olds key) ≡ f key)
    → HadValues f olds ws
had-all f olds [] values = tt
had-all f olds (w ∷ ws) values = (values w.key, had-all f olds ws values)

-- the values behind a commit are those of the anchors behind it
left-value : (f : Key → Option Value) (key : Key) (time : ℕ) (o : Option (Option Value)) (ws : List (TimedWrite Value)) → first_value ws ≡ f key
    → first_value (left_by time o ws) ≡ unwrap_or o (f key)
left-value f key time None ws same = same
left-value f key time (Some None) ws same = refl
left-value f key time (Some (Some v)) ws same = refl

-- what stands is found with one commit more
left-standing : (time at : ℕ) (o : Option (Option Value)) (before rest : List (TimedWrite Value)) → nat_le at time ≡ true
    → standing_from time (left_by at o before) rest
    ≡ standing_from time before (cons_option (option_map (λ write. record { time = at; write = write }) o) rest)
left-standing time at None before rest early = refl
left-standing time at (Some w) before rest early = rw early refl

-- ---- one member

-- the anchors behind a member
abbrev pub olds_after : (Key → Option Value) → Member → List OldRecord → List OldRecord
olds_after f m olds = put_all m.head.time (commit_read f m).writes olds

module _ (f : Key → Option Value) (m : Member) (olds : List OldRecord) (sorted : AreSorted olds)
    (values : (key : Key) → first_value (old_writes olds key) ≡ f key) (rising : HasRisingKeys m) where
  one-sorted : AreSorted (olds_after f m olds)
  one-sorted = put_all-sorted m.head.time (commit_read f m).writes olds sorted

  one-writes : (key : Key) → old_writes (olds_after f m olds) key ≡ left_by m.head.time (write_in (commit_read f m).writes key) (old_writes olds key)
  one-writes key = put_all-writes m.head.time (commit_read f m).writes olds key sorted (rising-written f m rising)

  one-values : (key : Key) → first_value (old_writes (olds_after f m olds) key) ≡ values_after f (commit_read f m) key
  one-values key =
      ap first_value (one-writes key)
      ∙ left-value f key m.head.time (write_in (commit_read f m).writes key) (old_writes olds key) (values key)

  one-len : olds_len (olds_after f m olds) ≡ len_after (olds_len olds) f m
  one-len =
      (put_all-len m.head.time (commit_read f m).writes f olds sorted (rising-written f m rising) (had-all f olds (commit_read f m).writes values)).0

  one-counted : AreCounted (olds_len olds) f (commit_read f m).writes
  one-counted =
      (put_all-len m.head.time (commit_read f m).writes f olds sorted (rising-written f m rising) (had-all f olds (commit_read f m).writes values)).1

-- ---- all members

-- the anchors of the state at a time, found from those before these members
pub record Found (time : ℕ) (f : Key → Option Value) (ms : List Member) (olds : List OldRecord) : Type 0 where
  pub list : List OldRecord
  pub sorted : AreSorted list
  pub writes : (key : Key) → old_writes list key ≡ standing_from time (old_writes olds key) (writes_of (commits_from f ms) key)
  pub len : olds_len list ≡ len_upto time (olds_len olds) f ms

pub found : (s time : ℕ) (f : Key → Option Value) (ms : List Member) (olds : List OldRecord) → AreSorted olds
    → ((key : Key) → first_value (old_writes olds key) ≡ f key) → HasRisingTimes s (commits_from f ms) → AllByRecursion HasRisingKeys ms
    → Found time f ms olds
found s time f [] olds sorted values up rising = record { list = olds; sorted = sorted; writes = λ key. refl; len = refl }
found s time f (m ∷ ms) olds sorted values up rising =
    let c = commit_read f m in
    let g = values_after f c in
    let at = m.head.time in
    let p : Member → Bool = λ x. nat_le x.head.time time in
    ⊎_elim
    (λ (later : time < at).
    let none : filter p (m ∷ ms) ≡ [] = none-upto time f (m ∷ ms) (later, up.1, up.2) in
    record {
      list = olds;
      sorted = sorted;
      writes = λ key.
          sym (standing-later time (old_writes olds key) (writes_of (c ∷ commits_from g ms) key)
          (writes_of-rising time (c ∷ commits_from g ms) key (later, up.1, up.2)));
      len = sym (ap (len_from (olds_len olds) f) none);
    })
    (λ (here : at ≤ time).
    let early : nat_le at time ≡ true = is_le here in
    let rest =
    found at time g ms (olds_after f m olds) (one-sorted f m olds sorted values rising.0) (one-values f m olds sorted values rising.0) up.2 rising.1 in
    let taken : filter p (m ∷ ms) ≡ m ∷ filter p ms = rw early refl in
    record {
      list = rest.list;
      sorted = rest.sorted;
      writes = λ key.
          rest.writes key
          ∙ ap (λ l. standing_from time l (writes_of (commits_from g ms) key)) (one-writes f m olds sorted values rising.0 key)
          ∙ left-standing time at (write_in c.writes key) (old_writes olds key) (writes_of (commits_from g ms) key) early;
      len =
          rest.len
          ∙ ap (λ (n : ℕ). len_upto time n g ms) (one-len f m olds sorted values rising.0)
          ∙ sym (ap (len_from (olds_len olds) f) taken);
    })
    (cases_lt time at)

-- no subtraction goes below zero
pub all-counted : (f : Key → Option Value) (ms : List Member) (olds : List OldRecord) → AreSorted olds
    → ((key : Key) → first_value (old_writes olds key) ≡ f key) → AllByRecursion HasRisingKeys ms → AreAllCounted (olds_len olds) f ms
all-counted f [] olds sorted values rising = tt
all-counted f (m ∷ ms) olds sorted values rising =
    let g = values_after f (commit_read f m) in
    let rest =
    all-counted g ms (olds_after f m olds) (one-sorted f m olds sorted values rising.0) (one-values f m olds sorted values rising.0) rising.1 in (
      one-counted f m olds sorted values rising.0,
      subst (λ (n : ℕ). AreAllCounted n g ms) (one-len f m olds sorted values rising.0) rest,
    )

-- ---- the numbers

-- what holds of the number at each time holds of all
pub all-lens : (P : ℕ → Type 0) (s len : ℕ) (f : Key → Option Value) (ms : List Member) → s < 2 ^ 63 → HasRisingTimes s (commits_from f ms)
    → ((time : ℕ) → s ≤ time → time < 2 ^ 63 → P (len_upto time len f ms)) → AllByRecursion P (len ∷ lens_behind len f ms)
all-lens P s len f [] lt up each = (each s (omega arith) lt, tt)
all-lens P s len f (m ∷ ms) lt up each =
    let g = values_after f (commit_read f m) in
    let next = len_after len f m in
    let p : ℕ → Member → Bool = λ time x. nat_le x.head.time time in
    let first : P len =
    subst (λ (l : List Member). P (len_from len f l)) (none-upto s f (m ∷ ms) up) (each s (omega arith) lt) in
    let rest : AllByRecursion P (next ∷ lens_behind next g ms) =
    all-lens P m.head.time next g ms up.1 up.2 (λ time from below.
    let early : nat_le m.head.time time ≡ true = is_le from in
    let taken : filter (p time) (m ∷ ms) ≡ m ∷ filter (p time) ms = rw early refl in
    subst (λ (l : List Member). P (len_from len f l)) taken (each time (omega (arith, up.0, from)) below)) in
    (first, rest)

-- and what holds of all holds of the number at each time
pub one-of_lens : (P : ℕ → Type 0) (s time len : ℕ) (f : Key → Option Value) (ms : List Member) → HasRisingTimes s (commits_from f ms)
    → AllByRecursion P (len ∷ lens_behind len f ms) → P (len_upto time len f ms)
one-of_lens P s time len f [] up all = all.0
one-of_lens P s time len f (m ∷ ms) up all =
    let g = values_after f (commit_read f m) in
    let p : Member → Bool = λ x. nat_le x.head.time time in
    ⊎_elim
    (λ (later : time < m.head.time).
    let none : filter p (m ∷ ms) ≡ [] = none-upto time f (m ∷ ms) (later, up.1, up.2) in
    subst (λ (l : List Member). P (len_from len f l)) (sym none) all.0)
    (λ (here : m.head.time ≤ time).
    let early : nat_le m.head.time time ≡ true = is_le here in
    let taken : filter p (m ∷ ms) ≡ m ∷ filter p ms = rw early refl in
    subst (λ (l : List Member). P (len_from len f l)) (sym taken) (one-of_lens P m.head.time time (len_after len f m) g ms up.2 all.1))
    (cases_lt time m.head.time)
