-- The times of a log's commits.
use Rattle.std.proofs.Common.{◌≡◌, ◌≤◌, ◌<◌, ◌^◌, ℕ, nat_lt, Bool, true, false, cond, ⊎_elim, arith, length, get_or, List, [], ◌∷◌, ◌++◌, map, refl, sym, ap}
use Rattle.std.proofs.Common.{subst, ◌∙◌}
use Rattle.std.specs.Prelude.{filter}
use Rattle.std.proofs.lemmas.Bool.{cases_lt}
use Rattle.std.proofs.lemmas.List.{append-nil, map-append}
use Rattle.history.proofs.Orders.{is_lt, not_lt}
use Rattle.wire.specs.declared.slot.Anchors.{Anchors}
use Rattle.wire.specs.declared.slot.Member.{Member}
use Rattle.wire.specs.declared.slot.Body.{Body}
use Rattle.wire.specs.declared.slot.Body.TheVariants as bodies
use Rattle.wire.specs.declared.slot.Slot.{Slot as Wired}
use Rattle.law_image.specs.Reading.{Head, Slot, Commits, Archived, Reclaimed, Floor}
use Rattle.law_image.specs.Log.{heads_of, last_time_after, last_time, archive_mark, reclaim_mark, reclaim_mark_after, floor_of, AreRisingAfter, MayAllCome}
use Rattle.law_image.proofs.Logs.{heads_of-append, last_time_after-append, marked-all, marked-none}
use Rattle.status.specs.Rules.{head_of, slot_of, log_of, KeepsRules}
use Rattle.law_layout.specs.Layouts.{entries_in, entries_of, later_than, no_anchors, anchors_in, anchors_after}
use Rattle.law_layout.proofs.Rules.{rules_say}

rising_join : (t : ℕ) (xs ys : List Head) → AreRisingAfter t xs → AreRisingAfter (last_time_after t xs) ys → AreRisingAfter t (xs ++ ys)
rising_join t [] ys a b = b
rising_join t (x ∷ xs) ys a b = (a.0, a.1, rising_join x.time xs ys a.2 b)

-- the last time behind one slot more
last-commits : (before : List Slot) (heads : List Head) → last_time (before ++ Commits heads ∷ []) ≡ last_time_after (last_time before) heads
last-commits before heads =
    ap (last_time_after 0) (heads_of-append before (Commits heads ∷ []) ∙ ap (λ l. heads_of before ++ l) (append-nil heads))
    ∙ last_time_after-append 0 (heads_of before) heads

last-other : (before : List Slot) (slot : Slot) → heads_of (slot ∷ []) ≡ [] → last_time (before ++ slot ∷ []) ≡ last_time before
last-other before slot none = ap (last_time_after 0) (heads_of-append before (slot ∷ []) ∙ ap (λ l. heads_of before ++ l) none ∙ append-nil (heads_of before))

log_rises : (profile : ℕ) (before log : List Slot) → MayAllCome profile before log → AreRisingAfter (last_time before) (heads_of log)
log_rises profile before [] may = tt
log_rises profile before (Commits heads ∷ log) may =
    rising_join (last_time before) heads (heads_of log) (may.0).2
    (subst (λ (t : ℕ). AreRisingAfter t (heads_of log)) (last-commits before heads) (log_rises profile (before ++ Commits heads ∷ []) log may.1))
log_rises profile before (Archived upto ∷ log) may =
    subst (λ (t : ℕ). AreRisingAfter t (heads_of log)) (last-other before (Archived upto) refl) (log_rises profile (before ++ Archived upto ∷ []) log may.1)
log_rises profile before (Reclaimed upto ∷ log) may =
    subst (λ (t : ℕ). AreRisingAfter t (heads_of log)) (last-other before (Reclaimed upto) refl) (log_rises profile (before ++ Reclaimed upto ∷ []) log may.1)
log_rises profile before (Floor scope floor ∷ log) may =
    subst (λ (t : ℕ). AreRisingAfter t (heads_of log)) (last-other before (Floor scope floor) refl) (log_rises profile (before ++ Floor scope floor
    ∷ []) log may.1)

heads_in : (body : Body) (slots : List Wired) → map head_of (entries_of slots) ≡ heads_of (log_of slots) → map head_of (entries_in body ++ entries_of slots)
    ≡ heads_of (slot_of body ∷ log_of slots)
heads_in (bodies.Commit members) slots rest = map-append head_of members.items (entries_of slots) ∙ ap (λ l. map head_of members.items ++ l) rest
heads_in (bodies.Archived run) slots rest = rest
heads_in (bodies.Reclaimed anchors) slots rest = rest
heads_in (bodies.Floor scope floor) slots rest = rest

pub entry_heads : (slots : List Wired) → map head_of (entries_of slots) ≡ heads_of (log_of slots)
entry_heads [] = refl
entry_heads (s ∷ slots) = heads_in s.body slots (entry_heads slots)

-- the times of the commits that the slots name rise
pub entries_rise : (profile : ℕ) (slots : List Wired) → KeepsRules profile slots → AreRisingAfter 0 (map head_of (entries_of slots))
entries_rise profile slots rules = subst (AreRisingAfter 0) (sym (entry_heads slots)) (log_rises profile [] (log_of slots) (rules_say profile slots rules).0)

-- the archive mark is not later than the last commit that the slots name
pub archived_upto_last : (profile : ℕ) (slots : List Wired) → KeepsRules profile slots
    → archive_mark (log_of slots) ≤ last_time_after 0 (map head_of (entries_of slots))
archived_upto_last profile slots rules =
    subst (λ (heads : List Head). archive_mark (log_of slots) ≤ last_time_after 0 heads) (sym (entry_heads slots))
    (marked-all profile [] (log_of slots) marked-none (rules_say profile slots rules).0).archived

-- neither is a floor
pub floor_upto_last : (profile : ℕ) (slots : List Wired) (relation : ℕ) → KeepsRules profile slots
    → floor_of (log_of slots) relation ≤ last_time_after 0 (map head_of (entries_of slots))
floor_upto_last profile slots relation rules =
    subst (λ (heads : List Head). floor_of (log_of slots) relation ≤ last_time_after 0 heads) (sym (entry_heads slots))
    ((marked-all profile [] (log_of slots) marked-none (rules_say profile slots rules).0).floors relation)

-- neither is the reclaim mark, which is in range
pub reclaimed_upto_last : (profile : ℕ) (slots : List Wired) → KeepsRules profile slots
    → reclaim_mark (log_of slots) ≤ last_time_after 0 (map head_of (entries_of slots))
reclaimed_upto_last profile slots rules =
    let marks = (marked-all profile [] (log_of slots) marked-none (rules_say profile slots rules).0).reclaimed in
    let archived = archived_upto_last profile slots rules in
    omega arith

pub reclaimed_in_range : (profile : ℕ) (slots : List Wired) → KeepsRules profile slots → reclaim_mark (log_of slots) < 2 ^ 63
reclaimed_in_range profile slots rules =
    let marked = marked-all profile [] (log_of slots) marked-none (rules_say profile slots rules).0 in
    let marks = marked.reclaimed in
    let archived = marked.archived in
    let last = marked.last in
    omega arith

-- ---- the commits later than a mark

anchored_in : (before : Anchors) (body : Body) (log : List Slot) → reclaim_mark_after before.upto (slot_of body ∷ log)
    ≡ reclaim_mark_after (anchors_in before body).upto log
anchored_in before (bodies.Commit members) log = refl
anchored_in before (bodies.Archived run) log = refl
anchored_in before (bodies.Reclaimed anchors) log = refl
anchored_in before (bodies.Floor scope floor) log = refl

anchored_upto : (before : Anchors) (slots : List Wired) → reclaim_mark_after before.upto (log_of slots) ≡ (anchors_after before slots).upto
anchored_upto before [] = refl
anchored_upto before (s ∷ slots) = anchored_in before s.body (log_of slots) ∙ anchored_upto (anchors_in before s.body) slots

-- the anchors of a log are of its reclaim mark
pub mark_is : (slots : List Wired) → reclaim_mark (log_of slots) ≡ (anchors_after no_anchors slots).upto
mark_is slots = anchored_upto no_anchors slots

all_later : (mark time : ℕ) (entries : List Member) → mark ≤ time → AreRisingAfter time (map head_of entries) → later_than mark entries ≡ entries
all_later mark time [] low rising = refl
all_later mark time (e ∷ entries) low rising =
    let late : nat_lt mark e.time ≡ true = is_lt (let up = rising.0 in omega arith) in
    ap (λ b. cond b (e ∷ later_than mark entries) (later_than mark entries)) late
    ∙ ap (λ l. e ∷ l) (all_later mark e.time entries (let up = rising.0 in omega arith) rising.2)

-- from the first that is later on, all are
pub later_from : (mark time : ℕ) (e : Member) (entries : List Member) → mark < e.time → AreRisingAfter time (map head_of (e ∷ entries))
    → later_than mark (e ∷ entries) ≡ e ∷ entries
later_from mark time e entries late rising =
    ap (λ b. cond b (e ∷ later_than mark entries) (later_than mark entries)) (is_lt late)
    ∙ ap (λ l. e ∷ l) (all_later mark e.time entries (omega arith) rising.2)

pub earlier_out : (mark : ℕ) (e : Member) (entries : List Member) → e.time ≤ mark → later_than mark (e ∷ entries) ≡ later_than mark entries
earlier_out mark e entries early = ap (λ b. cond b (e ∷ later_than mark entries) (later_than mark entries)) (not_lt early)

-- they rise from the mark on
pub later_rise : (mark time : ℕ) (entries : List Member) → AreRisingAfter time (map head_of entries)
    → AreRisingAfter mark (map head_of (later_than mark entries))
later_rise mark time [] rising = tt
later_rise mark time (e ∷ entries) rising = ⊎_elim
    (λ (late : mark < e.time). subst (λ (l : List Member). AreRisingAfter mark (map head_of l)) (sym (later_from mark time e entries late rising)) (
      late,
      rising.1,
      rising.2,
    ))
    (λ (early : e.time ≤ mark). subst (λ (l : List Member). AreRisingAfter mark (map head_of l)) (sym (earlier_out mark e entries early))
    (later_rise mark e.time entries rising.2))
    (cases_lt mark e.time)

-- and the last of them, or the mark where there is none, is the last of all
pub later_last : (mark time : ℕ) (entries : List Member) → AreRisingAfter time (map head_of entries) → time ≤ mark
    → mark ≤ last_time_after time (map head_of entries)
    → last_time_after mark (map head_of (later_than mark entries)) ≡ last_time_after time (map head_of entries)
later_last mark time [] rising low high = omega arith
later_last mark time (e ∷ entries) rising low high = ⊎_elim
    (λ (late : mark < e.time). ap (λ (l : List Member). last_time_after mark (map head_of l)) (later_from mark time e entries late rising))
    (λ (early : e.time ≤ mark). ap (λ (l : List Member). last_time_after mark (map head_of l)) (earlier_out mark e entries early)
    ∙ later_last mark e.time entries rising.2 early high)
    (cases_lt mark e.time)

pub later_heads : (mark : ℕ) (entries : List Member) → map head_of (later_than mark entries)
    ≡ filter (λ (head : Head). nat_lt mark head.time) (map head_of entries)
later_heads mark [] = refl
later_heads mark (e ∷ entries) =
    let rest = later_heads mark entries in
    let Goal : Bool → Type 0 =
    λ b. map head_of (cond b (e ∷ later_than mark entries) (later_than mark entries))
    ≡ cond b (head_of e ∷ filter (λ (head : Head). nat_lt mark head.time) (map head_of entries))
    (filter (λ (head : Head). nat_lt mark head.time) (map head_of entries)) in
    elim (nat_lt mark e.time) as Goal [ true ↦ ap (λ l. head_of e ∷ l) rest | false ↦ rest ]

-- where the first of commits is later than the mark, they all are
pub later_here : (mark time : ℕ) (rest : List Member) (d : Member) → 1 ≤ length rest → mark < (get_or rest 0 d).time → AreRisingAfter time (map head_of rest)
    → rest ≡ later_than mark rest
later_here mark time [] d some late rising = absurd (omega arith)
later_here mark time (e ∷ entries) d some late rising = sym (later_from mark time e entries late rising)
