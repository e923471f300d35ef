-- Which commits may follow a log.
use Rattle.std.proofs.Common.{◌≡◌, ◌↔◌, ℕ, zero, suc, ◌+◌, ◌<◌, ◌≤◌, List, [], ◌∷◌, length, get_or, take, add-one, Bool, true, false, Option, None, Some, arith}
use Rattle.std.proofs.Common.{rules, refl, sym, ap, ◌∙◌, subst}
use Rattle.std.specs.Prelude.{IsTrue, map, nat_lt, ◌==◌}
use Rattle.std.proofs.lemmas.List.{length-map}
use Rattle.wire.specs.declared.slot.Member.{Member}
use Rattle.wire.specs.declared.slot.Run.{Run}
use Rattle.wire.specs.declared.slot.Anchors.{Anchors}
use Rattle.wire.specs.declared.slot.Body.{Body}
use Rattle.wire.specs.declared.slot.Body.TheVariants.{Commit, Archived, Reclaimed, Floor}
use Rattle.wire.specs.declared.slot.Slot.{Slot}
use Rattle.wire.specs.Spelling.{Rises, AreMembers, IsRelationOf, InRange, kind_of}
use Rattle.floors.specs.Floors.{FloorsValue, floor_at}
use Rattle.law_image.specs.Log.{last_time_after, floor_of, AreRisingAfter, IsScopeOf}
use Rattle.status.specs.Rules.{is_built, head_of, log_of, MayFollow}
use Rattle.status.specs.declared.log_end.LogEnd.{LogEnd}
use Rattle.status.specs.Walking.{StartsAfter, IsNextRun, AreNextAnchors, IsNextFloor, EndsAt}
use Rattle.status.proofs.Kept.{kept-of}
use Rattle.std.proofs.lemmas.Bool.Decides.{nat_tests}

is_below : (a b : ℕ) → (IsTrue (nat_lt a b) ↔ (a < b))
is_below a b = search rules

-- the first commit
pub first_member : (time : ℕ) (members : List Member) (d : Member) → 1 ≤ length members
    → (IsTrue (nat_lt time (get_or members 0 d).time) ↔ StartsAfter time members)
first_member time [] d some = absurd (omega arith)
first_member time (m ∷ ms) d some = is_below time m.time

rising : (time : ℕ) (members : List Member) → Rises time members → AreRisingAfter time (map head_of members)
rising time [] rises = tt
rising time (m ∷ ms) rises = (rises.1, rises.0.time_high, rising m.time ms rises.2)

later_rising : (time : ℕ) (members : List Member) → Rises 0 members → StartsAfter time members → AreRisingAfter time (map head_of members)
later_rising time [] rises after = absurd after
later_rising time (m ∷ ms) rises after = (after, rises.0.time_high, rising m.time ms rises.2)

starts : (time : ℕ) (members : List Member) → 0 < length members → AreRisingAfter time (map head_of members) → StartsAfter time members
starts time [] some up = absurd (omega arith)
starts time (m ∷ ms) some up = up.0

-- ---- what may follow, by where the log ends

commit_follows : (profile : ℕ) (before : List Slot) (end : LogEnd) (number : ℕ) (members : List Member) (later : Bool) → IsTrue (is_built profile 1)
    → AreMembers members → EndsAt before end
    → (IsTrue later ↔ StartsAfter end.last members) → (IsTrue later ↔ MayFollow profile before
    (record { number = number; body = Commit (record { items = members }) }))
commit_follows profile before end number members later built in_range ends test =
    let some : 0 < length members = in_range.some in (
      λ yes. record {
        built = built;
        may_come = (
          rw length-map some,
          rw length-map in_range.few,
          subst (λ (t : ℕ). AreRisingAfter t (map head_of members)) ends.last_is
              (later_rising end.last members in_range.rises (test.0 yes)),
        );
        in_row = tt;
      },
      λ may. test.1 (starts end.last members some (subst (λ (t : ℕ). AreRisingAfter t (map head_of members)) (sym ends.last_is) may.may_come.2)),
    )

run_follows : (profile : ℕ) (before : List Slot) (end : LogEnd) (number : ℕ) (run : Run) (next : Bool) → IsTrue (is_built profile 2) → EndsAt before end
    → (IsTrue next ↔ IsNextRun end run) → (IsTrue next ↔ MayFollow profile before (record { number = number; body = Archived run }))
run_follows profile before end number run next built ends test = (
  λ yes. record {
    built = built;
    may_come = (subst (λ (t : ℕ). t < run.upto) ends.archived_is (test.0 yes).later, subst (λ (t : ℕ). run.upto ≤ t) ends.last_is (test.0 yes).upto_last);
    in_row = ((test.0 yes).next ∙ ends.runs_end_is, tt);
  },
  λ may. test.1 (record {
    later = subst (λ (t : ℕ). t < run.upto) (sym ends.archived_is) may.may_come.0;
    upto_last = subst (λ (t : ℕ). run.upto ≤ t) (sym ends.last_is) may.may_come.1;
    next = may.in_row.0 ∙ sym ends.runs_end_is;
  }),
)

anchors_follow : (profile : ℕ) (before : List Slot) (end : LogEnd) (number : ℕ) (anchors : Anchors) (next : Bool) → IsTrue (is_built profile 3)
    → EndsAt before end
    → (IsTrue next ↔ AreNextAnchors end anchors) → (IsTrue next ↔ MayFollow profile before (record { number = number; body = Reclaimed anchors }))
anchors_follow profile before end number anchors next built ends test = (
  λ yes. record {
    built = built;
    may_come = ((test.0 yes).upto_mark ∙ ends.archived_is, subst (λ (t : ℕ). t < anchors.upto) ends.reclaimed_is (test.0 yes).later);
    in_row = tt;
  },
  λ may. test.1 (record {
    upto_mark = may.may_come.0 ∙ sym ends.archived_is;
    later = subst (λ (t : ℕ). t < anchors.upto) (sym ends.reclaimed_is) may.may_come.1;
  }),
)

-- a floor in range is of a scope of its profile
pub scope_is : (profile : ℕ) (relation : Option ℕ) → IsRelationOf profile relation → IsScopeOf profile relation
scope_is profile None other = let no : (profile == 3) ≡ false = grind (arith, nat_tests, other) in rw no refl
scope_is profile (Some relation) three = rw three.0 (search rules)

floor_follows : (profile : ℕ) (before : List Slot) (end : LogEnd) (number : ℕ) (relation : Option ℕ) (floor : ℕ) (next : Bool) → IsTrue (is_built profile 4)
    → InRange profile (Floor relation floor) → EndsAt before end
    → (IsTrue next ↔ IsNextFloor end relation floor) → (IsTrue next ↔ MayFollow profile before (record { number = number; body = Floor relation floor }))
floor_follows profile before end number relation floor next built in_range ends test =
    let is : (other : ℕ) → floor_at end.floors other ≡ floor_of (log_of before) other =
    λ other. ap (λ (f : FloorsValue). floor_at f other) ends.floors_are ∙ kept-of (log_of before) other in (
      λ yes. record {
        built = built;
        may_come = (
          scope_is profile relation in_range.2,
          subst (λ (t : ℕ). floor ≤ t) ends.last_is (test.0 yes).upto_last,
          λ other covered. subst (λ (t : ℕ). t < floor) (is other) ((test.0 yes).later other covered),
        );
        in_row = tt;
      },
      λ may. test.1 (record {
        later = λ other covered. subst (λ (t : ℕ). t < floor) (sym (is other)) (may.may_come.2 other covered);
        upto_last = subst (λ (t : ℕ). floor ≤ t) (sym ends.last_is) may.may_come.1;
      }),
    )

is_true : (b : Bool) → b ≡ true → IsTrue b
is_true b is = let yes : IsTrue true = search rules in subst IsTrue (sym is) yes

-- commits in range may follow where they are built and the first is later than the last
pub commits_follow : (profile : ℕ) (before : List Slot) (slot : Slot) (end : LogEnd) (members : List Member) (later : Bool)
    → slot.body ≡ Commit (record { items = members }) → is_built profile (kind_of slot.body) ≡ true → InRange profile slot.body → EndsAt before end
    → (IsTrue later ↔ StartsAfter end.last members) → (IsTrue later ↔ MayFollow profile before slot)
commits_follow profile before slot end members later body_is built in_range ends test =
    subst (λ (body : Body). IsTrue later ↔ MayFollow profile before (record { number = slot.number; body = body })) (sym body_is)
    (commit_follows profile before end slot.number members later (is_true _ (sym (ap (λ (body : Body). is_built profile (kind_of body)) body_is) ∙ built))
    (subst (λ (body : Body). InRange profile body) body_is in_range) ends test)

-- a run may follow where it is built and is the next one
pub runs_follow : (profile : ℕ) (before : List Slot) (slot : Slot) (end : LogEnd) (run : Run) (next : Bool)
    → slot.body ≡ Archived run → is_built profile (kind_of slot.body) ≡ true → EndsAt before end
    → (IsTrue next ↔ IsNextRun end run) → (IsTrue next ↔ MayFollow profile before slot)
runs_follow profile before slot end run next body_is built ends test =
    subst (λ (body : Body). IsTrue next ↔ MayFollow profile before (record { number = slot.number; body = body })) (sym body_is)
    (run_follows profile before end slot.number run next (is_true _ (sym (ap (λ (body : Body). is_built profile (kind_of body)) body_is) ∙ built)) ends test)

-- a reclaim may follow where it is built and is the next one
pub reclaims_follow : (profile : ℕ) (before : List Slot) (slot : Slot) (end : LogEnd) (anchors : Anchors) (next : Bool)
    → slot.body ≡ Reclaimed anchors → is_built profile (kind_of slot.body) ≡ true → EndsAt before end
    → (IsTrue next ↔ AreNextAnchors end anchors) → (IsTrue next ↔ MayFollow profile before slot)
reclaims_follow profile before slot end anchors next body_is built ends test =
    subst (λ (body : Body). IsTrue next ↔ MayFollow profile before (record { number = slot.number; body = body })) (sym body_is)
    (anchors_follow profile before end slot.number anchors next (is_true _ (sym (ap (λ (body : Body). is_built profile (kind_of body)) body_is) ∙ built)) ends
    test)

-- a floor may follow where it is built and is the next one
pub floors_follow : (profile : ℕ) (before : List Slot) (slot : Slot) (end : LogEnd) (relation : Option ℕ) (floor : ℕ) (next : Bool)
    → slot.body ≡ Floor relation floor → is_built profile (kind_of slot.body) ≡ true → InRange profile slot.body → EndsAt before end
    → (IsTrue next ↔ IsNextFloor end relation floor) → (IsTrue next ↔ MayFollow profile before slot)
floors_follow profile before slot end relation floor next body_is built in_range ends test =
    subst (λ (body : Body). IsTrue next ↔ MayFollow profile before (record { number = slot.number; body = body })) (sym body_is)
    (floor_follows profile before end slot.number relation floor next (is_true _ (sym (ap (λ (body : Body). is_built profile (kind_of body)) body_is) ∙ built))
    (subst (λ (body : Body). InRange profile body) body_is in_range) ends test)

-- ---- the last time

taken_last : (time : ℕ) (members : List Member) (i : ℕ) (d : Member) → i < length members
    → last_time_after time (map head_of (take (suc i) members)) ≡ (get_or members i d).time
taken_last time [] i d lt = absurd (omega arith)
taken_last time (m ∷ ms) zero d lt = refl
taken_last time (m ∷ ms) (suc i) d lt = taken_last m.time ms i d (omega arith)

pub last_taken : (time : ℕ) (members : List Member) (i : ℕ) (d : Member) → i < length members
    → last_time_after time (map head_of (take (i + 1) members)) ≡ (get_or members i d).time
last_taken time members i d lt = ap (λ (n : ℕ). last_time_after time (map head_of (take n members))) (add-one i) ∙ taken_last time members i d lt
