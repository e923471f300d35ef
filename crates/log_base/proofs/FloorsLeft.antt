-- The floors that a front leaves.
use Rattle.std.proofs.Common.{◌≡◌, ℕ, ◌+◌, ◌-◌, ◌<◌, ◌≤◌, ◌==◌, nat_lt, zero, suc, true, false, cond, List, [], ◌∷◌, ◌++◌, length, map, refl, ap, sym, subst}
use Rattle.std.proofs.Common.{◌∙◌}
use Rattle.std.proofs.Common.{Some, arith, inl, inr}
use Rattle.std.specs.List.{AllByRecursion}
use Rattle.std.proofs.lemmas.Bool.{cases_eq}
use Rattle.std.proofs.lemmas.Bool.Decides.{nat_tests}
use Rattle.history.specs.Floors.{raised}
use Rattle.floors.specs.declared.floors.OwnFloor.{OwnFloor}
use Rattle.floors.specs.Floors.{AreRising, floor_or, behind, with_own}
use Rattle.floors.proofs.Owns.{rising-with, raised-is}
use Rattle.law_image.specs.Reading.{Head, Slot}
use Rattle.law_image.specs.Reading as slots
use Rattle.law_image.specs.Log.{last_time_after, floors_after, floor_of}
use Rattle.law_image.specs.HeapPlans.{marks_of, first_runs}
use Rattle.law_image.proofs.Logs.{floors-append}
use Rattle.law_layout.proofs.Lists.{weaker}
use Rattle.law_log.specs.Chains.{LogChain, OfBase, OfGroup, OfRun, OfFloor, commits_slot, later_heads, floor_slot, base_slots, heads_in, told_behind, told_from}
use Rattle.law_log.specs.Chains.{commits_in, AreFloorsTo, MayFollow, MayAllFollow, IsUpTo}
use Rattle.law_log.specs.Chains as logs
use Rattle.log_entries.specs.declared.entry.RelationFloor.{RelationFloor}
use Rattle.log_entries.specs.declared.entry.Entry.{Entry}
use Rattle.log_entries.specs.declared.entry.Entry.TheVariants.{Group, Archived, Floor}
use Rattle.log_entries.specs.declared.entry.Entry.TheVariants as entries
use Rattle.law_log_layout.specs.HeapLog.{PlacedChain, member_told, floor_told, base_told, chain_told, chains_told}
use Rattle.log_recovery.specs.Live.{part_of, live_of}
use Rattle.log_base.specs.Bases.{raised_by, own_behind, own_from, relation_floor}
use Rattle.log_base.proofs.RunsLeft.{last-upto}

-- ---- what changes no floor

commits-floors : (f : ℕ → ℕ) (heads : List Head) → floors_after f (commits_slot heads) ≡ f
commits-floors f [] = refl
commits-floors f (head ∷ heads) = refl

first-floors : (f : ℕ → ℕ) (kept : ℕ) (log : List Slot) → floors_after f (first_runs kept log) ≡ floors_after f log
first-floors f zero [] = refl
first-floors f (suc kept) [] = refl
first-floors f zero (slots.Commits heads ∷ rest) = first-floors f zero rest
first-floors f (suc kept) (slots.Commits heads ∷ rest) = first-floors f (suc kept) rest
first-floors f zero (slots.Archived upto ∷ rest) = first-floors f zero rest
first-floors f (suc kept) (slots.Archived upto ∷ rest) = first-floors f kept rest
first-floors f zero (slots.Reclaimed upto ∷ rest) = first-floors f zero rest
first-floors f (suc kept) (slots.Reclaimed upto ∷ rest) = first-floors f (suc kept) rest
first-floors f zero (slots.Floor scope floor ∷ rest) = first-floors (raised scope floor f) zero rest
first-floors f (suc kept) (slots.Floor scope floor ∷ rest) = first-floors (raised scope floor f) (suc kept) rest

marks-floors : (f : ℕ → ℕ) (marks : List ℕ) → floors_after f (map slots.Archived marks) ≡ f
marks-floors f [] = refl
marks-floors f (m ∷ marks) = marks-floors f marks

-- of a base only its own floors do
pub base-floors : (f : ℕ → ℕ) (b : logs.Base) → floors_after f (base_slots b) ≡ floors_after f (map floor_slot b.floors)
base-floors f b =
    floors-append f (commits_slot b.names) (slots.Reclaimed b.upto ∷ (map slots.Archived b.marks ++ map floor_slot b.floors))
    ∙ ap (λ (g : ℕ → ℕ). floors_after g (map slots.Archived b.marks ++ map floor_slot b.floors)) (commits-floors f b.names)
    ∙ floors-append f (map slots.Archived b.marks) (map floor_slot b.floors)
    ∙ ap (λ (g : ℕ → ℕ). floors_after g (map floor_slot b.floors)) (marks-floors f b.marks)

-- ---- own floors as functions

-- the floor of each relation by these, 0 if it has none
abbrev own_of : List OwnFloor → ℕ → ℕ
own_of own relation = floor_or 0 own relation

raised-own : (own : List OwnFloor) (only floor : ℕ) → own_of (with_own own only floor) ≡ raised (Some only) floor (own_of own)
raised-own own only floor = λ i relation. raised-is (record { every = 0; own = own }) (Some only) floor relation i

raised-all : (own : List OwnFloor) (more : List RelationFloor) → own_of (raised_by own more) ≡ floors_after (own_of own) (map floor_slot (map floor_told more))
raised-all own [] = refl
raised-all own (f ∷ more) =
    raised-all (with_own own f.relation f.floor) more
    ∙ ap (λ (g : ℕ → ℕ). floors_after g (map floor_slot (map floor_told more))) (raised-own own f.relation f.floor)

floors-one : (mark : ℕ) (before : List Slot) (own : List OwnFloor) (names : List Head) (e : Entry) → own_of own ≡ floor_of before
    → own_of (own_behind own (part_of e)) ≡ floor_of (told_behind mark before (chain_told names e))
floors-one mark before own names (Group members) is =
    let heads = later_heads mark (heads_in (map member_told members)) in
    is ∙ sym (floors-append (λ q. 0) before (commits_slot heads) ∙ commits-floors (floor_of before) heads)
floors-one mark before own names (Archived archive) is =
    let kept = length (marks_of before) - archive.runs in
    is ∙ sym (floors-append (λ q. 0) (first_runs kept before) (slots.Archived archive.upto ∷ []) ∙ first-floors (λ q. 0) kept before)
floors-one mark before own names (Floor floor) is =
    raised-own own floor.relation floor.floor
    ∙ ap (λ (g : ℕ → ℕ). raised (Some floor.relation) floor.floor g) is
    ∙ sym (floors-append (λ q. 0) before (floor_slot (floor_told floor) ∷ []))
floors-one mark before own names (entries.Base base) is =
    raised-all own base.floors
    ∙ ap (λ (g : ℕ → ℕ). floors_after g (map floor_slot (map floor_told base.floors))) is
    ∙ sym (floors-append (λ q. 0) before (base_slots (base_told names base)) ∙ base-floors (floor_of before) (base_told names base))

-- they are those that the log tells
pub floors-left : (mark : ℕ) (before : List Slot) (own : List OwnFloor) (names : List Head) (chains : List PlacedChain) → own_of own ≡ floor_of before
    → own_of (own_from own (map live_of chains)) ≡ floor_of (told_from mark before (chains_told names chains))
floors-left mark before own names [] is = is
floors-left mark before own names (c ∷ chains) is =
    floors-left mark (told_behind mark before (chain_told names c.entry)) (own_behind own (part_of c.entry)) names chains
    (floors-one mark before own names c.entry is)

-- ---- by rising relation

raised-rise : (own : List OwnFloor) (more : List RelationFloor) → AreRising own → AreRising (raised_by own more)
raised-rise own [] up = up
raised-rise own (f ∷ more) up = raised-rise (with_own own f.relation f.floor) more (rising-with own f.relation f.floor up)

own-rises : (own : List OwnFloor) (e : Entry) → AreRising own → AreRising (own_behind own (part_of e))
own-rises own (Group members) up = up
own-rises own (Archived archive) up = up
own-rises own (Floor floor) up = rising-with own floor.relation floor.floor up
own-rises own (entries.Base base) up = raised-rise own base.floors up

pub floors-rise : (own : List OwnFloor) (chains : List PlacedChain) → AreRising own → AreRising (own_from own (map live_of chains))
floors-rise own [] up = up
floors-rise own (c ∷ chains) up = floors-rise (own_behind own (part_of c.entry)) chains (own-rises own c.entry up)

-- floors by rising relation, as the base of a log tells them
abbrev slots_of : List OwnFloor → List Slot
slots_of own = map floor_slot (map floor_told (map relation_floor own))

above-none : (every low : ℕ) (own : List OwnFloor) → AllByRecursion (λ (p : OwnFloor). low < p.relation) own → every ≡ floor_or every own low
above-none every low [] above = refl
above-none every low (o ∷ own) above =
    let apart : (o.relation == low) ≡ false = let less = above.0 in grind (arith, nat_tests, less) in
    rw apart (above-none every low own above.1)

pub floors-told : (f : ℕ → ℕ) (own : List OwnFloor) (relation : ℕ) → AreRising own → floors_after f (slots_of own) relation ≡ floor_or (f relation) own relation
floors-told f [] relation up = refl
floors-told f (o ∷ own) relation up =
    let rest = floors-told (raised (Some o.relation) o.floor f) own relation up.1 in
    elim (cases_eq o.relation relation) [
      | inl same ↦
          let yes : (o.relation == relation) ≡ true = grind (arith, nat_tests, same) in
          let now : raised (Some o.relation) o.floor f relation ≡ o.floor = rw yes refl in
          rest ∙ ap (λ (n : ℕ). floor_or n own relation) now
          ∙ sym (above-none o.floor relation own (subst (λ (r : ℕ). AllByRecursion (λ (p : OwnFloor). r < p.relation) own) same up.0))
          ∙ sym (ap (λ b. cond b o.floor (floor_or (f relation) own relation)) yes)
      | inr other ↦
          let no : (o.relation == relation) ≡ false = grind (arith, nat_tests, other) in
          let now : raised (Some o.relation) o.floor f relation ≡ f relation = rw no refl in
          rest ∙ ap (λ (n : ℕ). floor_or n own relation) now ∙ sym (ap (λ b. cond b o.floor (floor_or (f relation) own relation)) no)
    ]

-- ---- none is 0, and none is later than the mark

abbrev IsTo : ℕ → OwnFloor → Type 0
IsTo end o = (0 < o.floor) × (o.floor ≤ end)

behind-all : (P : OwnFloor → Type 0) (own : List OwnFloor) (relation : ℕ) → AllByRecursion P own → AllByRecursion P (behind own relation)
behind-all P [] relation all = tt
behind-all P (o ∷ own) relation all = elim (o.relation == relation) as (λ b. AllByRecursion P (cond b own (o ∷ own))) [ true ↦ all.1 | false ↦ all ]

-- what holds of each floor holds with one more that is raised
pub own-all : (P : OwnFloor → Type 0) (own : List OwnFloor) (relation floor : ℕ) → P (record { relation = relation; floor = floor }) → AllByRecursion P own
    → AllByRecursion P (with_own own relation floor)
own-all P [] relation floor one all = (one, tt)
own-all P (o ∷ own) relation floor one all =
    let rest = own-all P own relation floor one all.1 in
    let others = behind-all P (o ∷ own) relation all in
    elim (nat_lt o.relation relation) as (λ b. AllByRecursion P
    (cond b (o ∷ with_own own relation floor) (record { relation = relation; floor = floor } ∷ behind (o ∷ own) relation))) [
      | true ↦ (all.0, rest)
      | false ↦ (one, others)
    ]

own-to : (end : ℕ) (own : List OwnFloor) (relation floor : ℕ) → 0 < floor → floor ≤ end → AllByRecursion (IsTo end) own
    → AllByRecursion (IsTo end) (with_own own relation floor)
own-to end own relation floor some le all = own-all (IsTo end) own relation floor (some, le) all

raised-to : (end from : ℕ) (own : List OwnFloor) (more : List RelationFloor) → AreFloorsTo end from (map floor_told more) → AllByRecursion (IsTo end) own
    → AllByRecursion (IsTo end) (raised_by own more)
raised-to end from own [] are all = all
raised-to end from own (f ∷ more) are all =
    raised-to end (f.relation + 1) (with_own own f.relation f.floor) more are.3 (own-to end own f.relation f.floor are.1 are.2 all)

floors-weaker : (early late from : ℕ) (floors : List logs.RelationFloor) → early ≤ late → AreFloorsTo early from floors → AreFloorsTo late from floors
floors-weaker early late from [] le are = tt
floors-weaker early late from (f ∷ floors) le are = (are.0, are.1, omega (arith, le, are.2), floors-weaker early late (f.relation + 1) floors le are.3)

to-one : (end mark last : ℕ) (before : List Slot) (own : List OwnFloor) (names : List Head) (e : Entry) → mark ≤ end → last ≤ end
    → MayFollow mark last before (chain_told names e) → AllByRecursion (IsTo end) own → AllByRecursion (IsTo end) (own_behind own (part_of e))
to-one end mark last before own names (Group members) le late may all = all
to-one end mark last before own names (Archived archive) le late may all = all
to-one end mark last before own names (Floor floor) le late may all =
    own-to end own floor.relation floor.floor (omega (arith, may.0)) (omega (arith, may.1, le, late)) all
to-one end mark last before own names (entries.Base base) le late may all =
    raised-to end 0 own base.floors (floors-weaker base.upto end 0 (map floor_told base.floors) (omega (arith, le, may.2)) may.3.floors) all

pub floors-to : (end mark last : ℕ) (before : List Slot) (own : List OwnFloor) (names : List Head) (chains : List PlacedChain) → mark ≤ end → last ≤ end
    → AllByRecursion (IsUpTo end) (chains_told names chains) → MayAllFollow mark last before (chains_told names chains) → AllByRecursion (IsTo end) own
    → AllByRecursion (IsTo end) (own_from own (map live_of chains))
floors-to end mark last before own names [] le late up may all = all
floors-to end mark last before own names (c ∷ chains) le late up may all =
    let told = chain_told names c.entry in
    floors-to end mark (last_time_after last (commits_in told)) (told_behind mark before told) (own_behind own (part_of c.entry)) names chains le
    (last-upto end last (commits_in told) late up.0) up.1 may.1 (to-one end mark last before own names c.entry le late may.0 all)

-- so a base may have them
pub are-floors : (end from : ℕ) (own : List OwnFloor) → AreRising own → AllByRecursion (λ (o : OwnFloor). from ≤ o.relation) own
    → AllByRecursion (IsTo end) own → AreFloorsTo end from (map floor_told (map relation_floor own))
are-floors end from [] up above all = tt
are-floors end from (o ∷ own) up above all = (
  above.0,
  all.0.0,
  all.0.1,
  are-floors end (o.relation + 1) own up.1
      (weaker (λ (p : OwnFloor). o.relation < p.relation) (λ (p : OwnFloor). o.relation + 1 ≤ p.relation) own (λ p less. omega (arith, less)) up.0) all.1,
)
