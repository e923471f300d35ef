-- An image with a floor's slot stands for the same history with the floor raised.
use Rattle.std.proofs.Common.{◌≡◌, ℕ, ◌<◌, ◌≤◌, nat_lt, Bool, true, false, cond, List, [], ◌∷◌, ◌++◌, length, Option, refl, ap, sym, subst, ◌∙◌, arith}
use Rattle.std.proofs.Common.{length-append}
use Rattle.std.specs.Prelude.{filter, IsTrue, MatchBool}
use Rattle.std.specs.List.{AllByRecursion}
use Rattle.std.proofs.lemmas.List.{append-nil}
use Rattle.history.specs.declared.time.Version.{Version}
use Rattle.history.specs.Versions.{ends_after, ends_by}
use Rattle.history.specs.Histories.{History, versions_of, commits_after}
use Rattle.law_image.specs.Values.{Value}
use Rattle.law_image.specs.Reading.{Head, Floor, Reading, slot_count}
use Rattle.history.specs.Floors.{Raising, covers, raised}
use Rattle.history.specs.Machine.{Machine, MayRaise}
use Rattle.law_image.specs.Log.{heads_of, last_time, archive_mark, reclaim_mark, floor_of, is_in_heap, IsScopeOf, MayCome, MayComeInHeap}
use Rattle.law_image.specs.Facts.{heap_versions, archived_versions}
use Rattle.law_image.specs.StandsFor.{StandsFor, IsAnchorUpto, AreRunsOf, AreRunsBy, no_floors, IsSlotLog, IsHeapLog, archived_upto, reclaimed_upto}
use Rattle.law_image.specs.Plans.{HasSlots, HasRoom, with_floor}
use Rattle.law_image.proofs.Forms.{in-slots, of-slots, in-heap, of-heap, room-in_slots}
use Rattle.law_image.proofs.Logs.{heads_of-append, archive_mark-append, reclaim_mark-append, floors-append, log-more, all-more, runs-more, same_last}
use Rattle.history.proofs.Views.{filter-later}
use Rattle.law_image.proofs.Standing.{last-is}

-- lists that agree on what ends after a floor agree on what ends after a later one
raise : {V : Type 0} (low high : ℕ) (xs ys : List (Version V)) → low ≤ high → filter (ends_after low) xs ≡ filter (ends_after low) ys
    → filter (ends_after high) xs ≡ filter (ends_after high) ys
raise low high xs ys le same = sym (filter-later low high xs le) ∙ ap (filter (ends_after high)) same ∙ filter-later low high ys le

-- a floor that the machine may raise may come next in the log
pub raise-may_come : (reading : Reading) (m : Machine Value) (r : Raising) → StandsFor reading m.published m.floors → MayRaise m r
    → IsScopeOf reading.profile r.scope
    → MayCome reading.profile reading.log (Floor r.scope r.floor)
raise-may_come reading m r stands may scope = (
  scope,
  omega (arith, may.upto_last, last-is reading m.published m.floors stands),
  λ relation covered. omega (arith, may.rises relation covered, stands.opens.floors_given relation),
)

module _ (reading : Reading) (h : History Value) (floors : ℕ → ℕ) (stands : StandsFor reading h floors)
    (scope : Option ℕ) (floor : ℕ) (above : (relation : ℕ) → IsTrue (covers scope relation) → floor_of reading.log relation < floor)
    (form : MatchBool (is_in_heap reading.profile) (IsHeapLog (with_floor reading scope floor)) (IsSlotLog (with_floor reading scope floor))) where
  same_archived : archive_mark (reading.log ++ Floor scope floor ∷ []) ≡ archive_mark reading.log
  same_archived = archive_mark-append 0 reading.log (Floor scope floor ∷ [])

  same_reclaimed : reclaim_mark (reading.log ++ Floor scope floor ∷ []) ≡ reclaim_mark reading.log
  same_reclaimed = reclaim_mark-append 0 reading.log (Floor scope floor ∷ [])

  same_heads : heads_of (reading.log ++ Floor scope floor ∷ []) ≡ heads_of reading.log
  same_heads = heads_of-append reading.log (Floor scope floor ∷ []) ∙ append-nil (heads_of reading.log)

  -- no floor falls
  rises : (relation : ℕ) → floors relation ≤ raised scope floor floors relation
  rises relation =
      let Goal : Bool → Type 0 = λ b. covers scope relation ≡ b → floors relation ≤ cond b floor (floors relation) in
      let all : (b : Bool) → Goal b =
      λ b. elim b as Goal [
        | true ↦ λ e. let above : floor_of reading.log relation < floor = above relation e in omega (arith, above, stands.opens.floors_given relation)
        | false ↦ λ e. omega arith
      ] in
      all (covers scope relation) refl

  pub raised-stands_for : StandsFor (with_floor reading scope floor) h (raised scope floor floors)
  raised-stands_for = record {
    opens = record {
      reads = record {
        form = form;
        members = stands.opens.reads.members
            ∙ ap (λ l. filter (λ (head : Head). nat_lt (reclaim_mark reading.log) head.time) l) (sym same_heads)
            ∙ ap (λ (r : ℕ). filter (λ (head : Head). nat_lt r head.time) (heads_of (reading.log ++ Floor scope floor ∷ []))) (sym same_reclaimed);
        chains = stands.opens.reads.chains;
        stored = stands.opens.reads.stored;
        anchors = stands.opens.reads.anchors;
        anchor_times = subst (λ r. AllByRecursion (IsAnchorUpto r) reading.anchors) (sym same_reclaimed) stands.opens.reads.anchor_times;
      };
      floors_given = λ relation.
          ap (λ (f : ℕ → ℕ). f relation) (floors-append (λ q. 0) reading.log (Floor scope floor ∷ []))
          ∙ ap (λ (n : ℕ). cond (covers scope relation) floor n) (stands.opens.floors_given relation);
      history = stands.opens.history;
      commits = same_heads ∙ stands.opens.commits;
      write_sets = stands.opens.write_sets ∙ ap (λ (r : ℕ). commits_after r h) (sym same_reclaimed);
    };
    homes = record {
      marks = omega (arith, same_archived, same_reclaimed, stands.homes.marks);
      in_heap = λ key.
          let f = raised scope floor floors key.relation in
          raise (floors key.relation) f (heap_versions reading key) (filter (ends_after (reclaimed_upto reading)) (versions_of h key)) (rises key.relation)
          (stands.homes.in_heap key)
          ∙ ap (λ (r : ℕ). filter (ends_after f) (filter (ends_after r) (versions_of h key))) (sym same_reclaimed);
      in_archive = λ key.
          let f = raised scope floor floors key.relation in
          raise (floors key.relation) f (archived_versions reading key) (filter (ends_by (archived_upto reading)) (versions_of h key)) (rises key.relation)
          (stands.homes.in_archive key)
          ∙ ap (λ (a : ℕ). filter (ends_after f) (filter (ends_by a) (versions_of h key))) (sym same_archived);
    };
  }

-- a slot at the end of the log
pub floor-stands_for : (reading : Reading) (h : History Value) (floors : ℕ → ℕ) → StandsFor reading h floors → (scope : Option ℕ) (floor : ℕ)
    → MayCome reading.profile reading.log (Floor scope floor)
    → HasSlots reading → HasRoom reading → StandsFor (with_floor reading scope floor) h (raised scope floor floors)
floor-stands_for reading h floors stands scope floor may slots has_room =
    let is : IsSlotLog reading = in-slots reading slots stands.opens.reads.form in
    let room : length reading.log < slot_count reading = room-in_slots reading slots has_room in
    raised-stands_for reading h floors stands scope floor may.2
    (of-slots (with_floor reading scope floor) slots (record {
      header = is.header;
      log = log-more reading.profile [] reading.log (Floor scope floor) is.log may;
      fits = omega (arith, length-append reading.log (Floor scope floor ∷ []), room);
      runs = subst (AreRunsOf [] (reading.log ++ Floor scope floor ∷ [])) (append-nil reading.runs) (runs-more floor_of [] reading.log (Floor scope floor
          ∷ []) reading.runs [] is.runs tt);
    }))

-- a chain of its own at the end of a log in the heap
pub floor-in_heap : (reading : Reading) (h : History Value) (floors : ℕ → ℕ) (scope : Option ℕ) (floor : ℕ)
    → StandsFor reading h floors → is_in_heap reading.profile ≡ true → MayComeInHeap reading.log (Floor scope floor)
    → StandsFor (with_floor reading scope floor) h (raised scope floor floors)
floor-in_heap reading h floors scope floor stands heap may =
    let is : IsHeapLog reading = in-heap reading heap stands.opens.reads.form in
    let a = archive_mark-append 0 reading.log (Floor scope floor ∷ []) in
    let r = reclaim_mark-append 0 reading.log (Floor scope floor ∷ []) in
    let l : last_time (reading.log ++ Floor scope floor ∷ []) ≡ last_time reading.log = same_last reading.log (Floor scope floor) refl in
    raised-stands_for reading h floors stands scope floor may.2
    (of-heap (with_floor reading scope floor) heap (record {
      header = is.header;
      log = record {
        each = all-more MayComeInHeap [] reading.log (Floor scope floor) (is.log).each may;
        archived = omega (arith, a, r, (is.log).archived);
        published = omega (arith, l, r, (is.log).published);
      };
      runs = subst (AreRunsBy no_floors [] (reading.log ++ Floor scope floor
          ∷ [])) (append-nil reading.runs) (runs-more no_floors [] reading.log (Floor scope floor ∷ []) reading.runs [] is.runs tt);
    }))
