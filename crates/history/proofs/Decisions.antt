-- The answers to a submission and to the start of a floor, exactly.
use Rattle.std.proofs.Common.{◌≡◌, ℕ, ◌<◌, ◌≤◌, ◌^◌, ◌↔◌, min, nat_le, nat_lt, Bool, true, false, cond, IsTrue, List, [], ◌∷◌, map, Option, Some, None, refl}
use Rattle.std.proofs.Common.{ap, sym, subst, ◌∙◌, arith}
use Rattle.std.specs.Prelude.{IsSome}
use Rattle.std.specs.List.{AllByRecursion}
use Rattle.std.specs.List.Sorted.{IsStrictlySortedBy}
use Rattle.std.specs.declared.cmp.Ordering.TheVariants.{Less}
use Rattle.std.proofs.lemmas.Bool.Decides.{nat_tests}
use Rattle.history.specs.declared.key.Key.{Key}
use Rattle.history.specs.declared.key.KeyWrite.{KeyWrite}
use Rattle.history.specs.Key.{key_cmp, same_key, write_in}
use Rattle.history.specs.Floors.{Raising, covers, covered}
use Rattle.history.specs.Histories.{Commit, History, last}
use Rattle.history.specs.Conflicts.{IsConflict, is_written_after, conflict_with}
use Rattle.history.specs.Machine.{Machine, commit_order, MayRaise}
use Rattle.history.specs.Submissions.{Submission, Conflicts, Ends, Queues, commit_made, timed, unless_conflict, conflict_of, decision_on, decision}
use Rattle.history.specs.FloorStarts.{NothingToDo, NotYet, least, in_use_below, in_use_refusal, floor_refusal}
use Rattle.history.proofs.Orders.{not_lt, not_le}
use Rattle.history.proofs.Conflicts.{shared-written}

-- ---- conflicts

-- a key that a write set has
same-keys : (a key : Key) → same_key a key ≡ true → a ≡ key
same-keys a key same = grind (arith, nat_tests)

-- some key that is in the write set was written later
found-key : {V : Type 0} (h : History V) (s : ℕ) (writes : List (KeyWrite V)) (key : Key) → IsSome (write_in writes key) → IsTrue (is_written_after h s key)
    → (k : Key) × (conflict_with h s writes ≡ Some k)
found-key h s [] key shared later = absurd (let no : false ≡ true = shared in cc)
found-key {V} h s (w ∷ ws) key shared later =
    let rest : IsSome (write_in ws key) → (k : Key) × (conflict_with h s ws ≡ Some k) = λ more. found-key h s ws key more later in
    let Goal : Bool → Type 0 = λ b. is_written_after h s w.key ≡ b → (k : Key) × (cond b (Some w.key) (conflict_with h s ws) ≡ Some k) in
    let all : (b : Bool) → Goal b = λ b. elim b as Goal [
      | true ↦ λ e. (w.key, refl)
      | false ↦ λ e.
          let In : Bool → Type 0 =
          λ c. same_key w.key key ≡ c → IsSome (cond c (Some w.write) (write_in ws key)) → (k : Key) × (conflict_with h s ws ≡ Some k) in
          let at : (c : Bool) → In c = λ c. elim c as In [
            | true ↦ λ same has. absurd (let no : true ≡ false = sym later ∙ ap (is_written_after h s) (sym (same-keys w.key key same)) ∙ e in cc)
            | false ↦ λ other has. rest has
          ] in
          at (same_key w.key key) refl shared
    ] in
    all (is_written_after h s w.key) refl

-- the key that is found is one of the write set's, and was written later
key-found : {V : Type 0} (h : History V) (s : ℕ) (writes : List (KeyWrite V)) (k : Key) → conflict_with h s writes ≡ Some k → IsSome (write_in writes k)
    × IsTrue (is_written_after h s k)
key-found h s [] k is = absurd cc
key-found {V} h s (w ∷ ws) k is =
    let Goal : Bool → Type 0 =
    λ b. is_written_after h s w.key ≡ b → cond b (Some w.key) (conflict_with h s ws) ≡ Some k → IsSome (write_in (w ∷ ws) k)
    × IsTrue (is_written_after h s k) in
    let all : (b : Bool) → Goal b = λ b. elim b as Goal [
      | true ↦ λ e is.
          let same : w.key ≡ k = cc in
          let test : same_key w.key k ≡ true = subst (λ x. same_key w.key x ≡ true) same (grind (arith, nat_tests)) in
          (subst IsSome (ap (λ c. cond c (Some w.write) (write_in ws k)) (sym test)) refl, ap (is_written_after h s) (sym same) ∙ e)
      | false ↦ λ e is.
          let rest = key-found h s ws k is in
          (elim (same_key w.key k) as (λ c. IsSome (cond c (Some w.write) (write_in ws k))) [ true ↦ refl | false ↦ rest.0 ], rest.1)
    ] in
    all (is_written_after h s w.key) refl is

pub conflict-found : {V : Type 0} (h : History V) (s : ℕ) (writes : List (KeyWrite V)) → ((key : Key) × (conflict_with h s writes ≡ Some key))
    ↔ IsConflict h s writes
conflict-found h s writes = (
  λ found.
      let parts = key-found h s writes found.0 found.1 in
      let later = (shared-written h s found.0).0 parts.1 in
      record { commit = later.0; key = found.0; committed = later.1; later = later.2; written = later.3; shared = parts.0 },
  λ conflict. found-key h s writes conflict.key conflict.shared ((shared-written h s conflict.key).1 (
    conflict.commit,
    conflict.committed,
    conflict.later,
    conflict.written,
  )),
)

-- no key before the one that is found is shared
less-other : (a b key : Key) → key_cmp a b ≡ Less → same_key b key ≡ true → key_cmp key a ≡ Less → ⊥
less-other a b key up same less = absurd (grind (arith, nat_tests))

same-less : (a key : Key) → same_key a key ≡ true → key_cmp key a ≡ Less → ⊥
same-less a key same less = absurd (grind (arith, nat_tests))

has-above : {V : Type 0} (low key : Key) (ws : List (KeyWrite V)) → AllByRecursion (λ k. key_cmp low k ≡ Less) (map (λ w. w.key) ws) → IsSome (write_in ws key)
    → key_cmp key low ≡ Less → ⊥
has-above low key [] above shared less = absurd (let none : false ≡ true = shared in cc)
has-above {V} low key (w ∷ ws) above shared less =
    let Goal : Bool → Type 0 = λ b. same_key w.key key ≡ b → IsSome (cond b (Some w.write) (write_in ws key)) → ⊥ in
    let all : (b : Bool) → Goal b = λ b. elim b as Goal [
      | true ↦ λ e has. less-other low w.key key above.0 e less
      | false ↦ λ e has. has-above low key ws above.1 has less
    ] in
    all (same_key w.key key) refl shared

pub conflict-least : {V : Type 0} (h : History V) (s : ℕ) (writes : List (KeyWrite V)) (key other : Key) → IsStrictlySortedBy key_cmp (map (λ w. w.key) writes)
    → conflict_with h s writes ≡ Some key
    → IsSome (write_in writes other) → IsTrue (is_written_after h s other) → key_cmp other key ≡ Less → ⊥
unfolding IsStrictlySortedBy
conflict-least h s [] key other sorted is shared later less = absurd (let none : false ≡ true = shared in cc)
conflict-least {V} h s (w ∷ ws) key other sorted is shared later less =
    let Goal : Bool → Type 0 = λ b. is_written_after h s w.key ≡ b → cond b (Some w.key) (conflict_with h s ws) ≡ Some key → ⊥ in
    let all : (b : Bool) → Goal b = λ b. elim b as Goal [
      | true ↦ λ e is.
          let head : w.key ≡ key = cc in
          let below : key_cmp other w.key ≡ Less = subst (λ k. key_cmp other k ≡ Less) (sym head) less in
          let In : Bool → Type 0 = λ c. same_key w.key other ≡ c → IsSome (cond c (Some w.write) (write_in ws other)) → ⊥ in
          let at : (c : Bool) → In c = λ c. elim c as In [
            | true ↦ λ same has. same-less w.key other same below
            | false ↦ λ differs has. has-above w.key other ws sorted.0 has below
          ] in
          at (same_key w.key other) refl shared
      | false ↦ λ e is.
          let In : Bool → Type 0 = λ c. same_key w.key other ≡ c → IsSome (cond c (Some w.write) (write_in ws other)) → ⊥ in
          let at : (c : Bool) → In c = λ c. elim c as In [
            | true ↦ λ same has. absurd (let none : true ≡ false = sym later ∙ ap (is_written_after h s) (sym (same-keys w.key other same)) ∙ e in cc)
            | false ↦ λ differs has. conflict-least h s ws key other sorted.1 is has later less
          ] in
          at (same_key w.key other) refl shared
    ] in
    all (is_written_after h s w.key) refl is

timed-is : {V : Type 0} (c : Commit V) (key : Key) → timed c ≡ Conflicts key → ⊥
timed-is {V} c key = elim (nat_lt c.time (2 ^ 63)) as (λ b. cond b (Queues c) Ends ≡ Conflicts key → ⊥) [ true ↦ λ e. absurd cc | false ↦ λ e. absurd cc ]

decided-key : {V : Type 0} (o : Option Key) (c : Commit V) (key : Key) → unless_conflict o (timed c) ≡ Conflicts key → o ≡ Some key
decided-key None c key e = absurd (timed-is c key e)
decided-key (Some k) c key e = cc

-- the answer is a conflict exactly where one is found
pub conflict-decided : {V : Type 0} (m : Machine V) (s : Submission V) → ((key : Key) × (decision m s ≡ Conflicts key))
    ↔ IsConflict (commit_order m) s.snapshot s.writes
conflict-decided {V} m s =
    let h = commit_order m in
    let found = conflict-found h s.snapshot s.writes in
    let To : List (KeyWrite V) → Type 0 = λ l. s.writes ≡ l → (key : Key) → decision_on m s l ≡ Conflicts key → conflict_of m s ≡ Some key in
    let to : (l : List (KeyWrite V)) → To l = λ l. elim l as To [
      | [] ↦ λ e key is. absurd cc
      | w ∷ ws ↦ λ e key is. decided-key (conflict_of m s) (commit_made m s) key is
    ] in
    let From : List (KeyWrite V) → Type 0 = λ l. s.writes ≡ l → (key : Key) → conflict_of m s ≡ Some key → decision_on m s l ≡ Conflicts key in
    let from : (l : List (KeyWrite V)) → From l = λ l. elim l as From [
      | [] ↦ λ e key is. absurd (let no : None ≡ Some key = ap (conflict_with h s.snapshot) (sym e) ∙ is in cc)
      | w ∷ ws ↦ λ e key is. ap (λ o. unless_conflict o (timed (commit_made m s))) is
    ] in (
      λ answered. found.0 (answered.0, to s.writes refl answered.0 answered.1),
      λ conflict. let k = found.1 conflict in (k.0, from s.writes refl k.0 k.1),
    )

-- ---- floors

least-first : (oldest : ℕ) (snapshots : List ℕ) → least oldest snapshots ≤ oldest
least-first oldest [] = omega arith
least-first oldest (s ∷ ss) = let rest = least-first (min oldest s) ss in omega (arith, rest)

least-below : (n oldest : ℕ) (snapshots : List ℕ) → n ≤ least oldest snapshots → (n ≤ oldest) × AllByRecursion (λ s. n ≤ s) snapshots
least-below n oldest [] le = (le, tt)
least-below n oldest (s ∷ ss) le = let rest = least-below n (min oldest s) ss le in (omega (arith, rest.0), (omega (arith, rest.0), rest.1))

below-least : (n oldest : ℕ) (snapshots : List ℕ) → n ≤ oldest → AllByRecursion (λ s. n ≤ s) snapshots → n ≤ least oldest snapshots
below-least n oldest [] le all = le
below-least n oldest (s ∷ ss) le all = below-least n (min oldest s) ss (omega (arith, all.0)) all.1

in_use-none : (n : ℕ) (snapshots : List ℕ) → (in_use_refusal (in_use_below snapshots n) ≡ None) ↔ AllByRecursion (λ s. n ≤ s) snapshots
in_use-none n [] = (λ e. tt, λ all. refl)
in_use-none n (s ∷ ss) =
    let To : Bool → Type 0 = λ b. nat_lt (least s ss) n ≡ b → in_use_refusal (cond b (Some (least s ss)) None) ≡ None → AllByRecursion (λ x. n ≤ x) (s ∷ ss) in
    let to : (b : Bool) → To b = λ b. elim b as To [
      | true ↦ λ e is. absurd cc
      | false ↦ λ e is. least-below n s ss (grind (arith, nat_tests))
    ] in (
      to (nat_lt (least s ss) n) refl,
      λ all. let not : nat_lt (least s ss) n ≡ false =
          not_lt (below-least n s ss all.0 all.1) in ap (λ b. in_use_refusal (cond b (Some (least s ss)) None)) not,
    )

covers-covered : (scope : Option ℕ) → IsTrue (covers scope (covered scope))
covers-covered None = refl
covers-covered (Some only) = grind (arith, nat_tests)

-- a floor above that of one relation that it covers is above each
rises-all : {V : Type 0} (m : Machine V) (r : Raising) → (r.scope ≡ None → (relation : ℕ) → m.floors relation ≡ m.floors 0)
    → m.floors (covered r.scope) < r.floor → (relation : ℕ) → IsTrue (covers r.scope relation) → m.floors relation < r.floor
rises-all m r one above relation covered_by =
    let Goal : Option ℕ → Type 0 = λ o. r.scope ≡ o → m.floors (covered o) < r.floor → IsTrue (covers o relation) → m.floors relation < r.floor in
    let all : (o : Option ℕ) → Goal o = λ o. elim o as Goal [
      | None ↦ λ e above covers_it. omega (arith, above, one e relation)
      | Some only ↦ λ e above covers_it. let same : only ≡ relation = grind (arith, nat_tests) in subst (λ x. m.floors x < r.floor) same above
    ] in
    all r.scope refl above covered_by

pub floor-refused : {V : Type 0} (m : Machine V) (r : Raising) → (r.scope ≡ None → (relation : ℕ) → m.floors relation ≡ m.floors 0) → (floor_refusal m r ≡ None)
    ↔ MayRaise m r
floor-refused m r one =
    let low = m.floors (covered r.scope) in
    let end = last m.published in
    let unused = in_use-none r.floor m.snapshots in
    let To : Bool → Bool → Type 0 =
    λ a b. nat_le r.floor low ≡ a → nat_lt end r.floor ≡ b
    → cond a (Some NothingToDo) (cond b (Some (NotYet end)) (in_use_refusal (in_use_below m.snapshots r.floor))) ≡ None → MayRaise m r in
    let to : (a b : Bool) → To a b = λ a b. elim a as (λ a. To a b) [
      | true ↦ λ e k is. absurd cc
      | false ↦ elim b as (λ b. To false b) [
        | true ↦ λ e k is. absurd cc
        | false ↦ λ e k is. record { rises = rises-all m r one (grind (arith, nat_tests)); upto_last = grind (arith, nat_tests); in_use = unused.0 is }
      ]
    ] in (
      to (nat_le r.floor low) (nat_lt end r.floor) refl refl,
      λ may.
          let above : nat_le r.floor low ≡ false = not_le (may.rises (covered r.scope) (covers-covered r.scope)) in
          let within : nat_lt end r.floor ≡ false = not_lt may.upto_last in
          ap (λ a. cond a (Some NothingToDo) (cond (nat_lt end r.floor) (Some (NotYet end)) (in_use_refusal (in_use_below m.snapshots r.floor)))) above
          ∙ ap (λ b. cond b (Some (NotYet end)) (in_use_refusal (in_use_below m.snapshots r.floor))) within
          ∙ unused.1 may.in_use,
    )
