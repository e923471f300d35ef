-- The plans of the jobs stay plans while groups are published beside them.
use Rattle.std.proofs.Common.{◌≡◌, ℕ, ◌<◌, ◌≤◌, ◌^◌, max, nat_le, false, List, [], ◌∷◌, ◌++◌, map, refl, ap, sym, subst, ◌∙◌, arith}
use Rattle.std.specs.Prelude.{filter}
use Rattle.std.specs.List.{AllByRecursion}
use Rattle.std.proofs.lemmas.List.{append-nil}
use Rattle.std.proofs.lemmas.List.Elements.{filter-append}
use Rattle.std.proofs.lemmas.Bool.Decides.{nat_tests}
use Rattle.history.specs.declared.key.Key.{Key}
use Rattle.history.specs.declared.time.Version.{Version}
use Rattle.history.specs.declared.time.TimedWrite.{TimedWrite}
use Rattle.history.specs.Time.{IsRisingAfter}
use Rattle.history.specs.Versions.{versions, first_time, ended, stands_at, as_write, ends_after, ends_by, FollowOneAnotherFrom}
use Rattle.history.specs.Histories.{History, last, writes_of}
use Rattle.history.proofs.Orders.{not_le}
use Rattle.history.proofs.Filters.{filter-swap, filter-map}
use Rattle.history.proofs.Values.{first_time-later, versions-apart, rising_earlier}
use Rattle.history.proofs.Appending.{versions-append, ends_by-append}
use Rattle.law_image.specs.Values.{Value}
use Rattle.law_image.specs.Reading.{Commits, Member, OldRecord, ArchiveRecord, Reading}
use Rattle.law_image.specs.Log.{floor_of}
use Rattle.law_image.specs.Facts.{heap_facts, heap_versions}
use Rattle.law_image.specs.StandsFor.{StandsFor, IsRun, IsAnchorUpto, archived_upto}
use Rattle.law_image.specs.Plans.{with_group, HasRoom, IsGroupOf, IsArchivePlan, IsReclaimPlan}
use Rattle.law_image.proofs.Logs.{floors-append}
use Rattle.law_image.proofs.GroupStep.{same_archived, more_facts, later}
use Rattle.law_image.proofs.Standing.{archived-range, last-range, facts-rise}

-- where a version stands at a mark is not changed by its being ended later
stands-ended : {V : Type 0} (mark time : ℕ) (v : Version V) → mark < time → mark < 2 ^ 63 → stands_at mark (ended time v) ≡ stands_at mark v
stands-ended mark time v a b = grind (arith, nat_tests)

-- versions that begin after a mark do not stand at it
none-stands : {V : Type 0} (s mark : ℕ) (vs : List (Version V)) → mark < s → FollowOneAnotherFrom s vs → filter (stands_at mark) vs ≡ []
none-stands s mark [] lt apart = refl
none-stands s mark (v ∷ vs) lt apart =
    let late : nat_le v.from mark ≡ false = not_le (omega (arith, apart.0)) in
    rw late (none-stands v.to mark vs (omega (arith, apart.0, apart.1)) apart.2)

as-writes-ended : {V : Type 0} (time : ℕ) (vs : List (Version V)) → map as_write (map (ended time) vs) ≡ map as_write vs
as-writes-ended time [] = refl
as-writes-ended time (v ∷ vs) = ap (λ l. as_write v ∷ l) (as-writes-ended time vs)

-- what stands at a mark is written the same, whatever is written after the mark
pub standing-stays : {V : Type 0} (s mark : ℕ) (ws more : List (TimedWrite V)) → mark < 2 ^ 63 → IsRisingAfter s ws → IsRisingAfter mark more
    → map as_write (filter (stands_at mark) (versions (ws ++ more))) ≡ map as_write (filter (stands_at mark) (versions ws))
standing-stays s mark ws more lt up up' =
    let n = first_time more in
    let next : mark < n = first_time-later mark more lt up' in
    ap (λ l. map as_write (filter (stands_at mark) l)) (versions-append s ws more up)
    ∙ ap (map as_write) (filter-append (stands_at mark) (map (ended n) (versions ws)) (versions more))
    ∙ ap (λ l. map as_write (filter (stands_at mark) (map (ended n) (versions ws))
    ++ l)) (none-stands n mark (versions more) next (versions-apart mark more up'))
    ∙ ap (map as_write) (append-nil (filter (stands_at mark) (map (ended n) (versions ws))))
    ∙ ap (map as_write) (filter-map (stands_at mark) (stands_at mark) (ended n) (versions ws) (λ v. stands-ended mark n v next lt))
    ∙ as-writes-ended n (filter (stands_at mark) (versions ws))

module _ (reading : Reading) (h next : History Value) (floors : ℕ
    → ℕ) (group : List Member) (stands : StandsFor reading h floors) (joins : IsGroupOf reading h next group) (room : HasRoom reading) where
  same-mark : archived_upto (with_group reading group) ≡ archived_upto reading
  same-mark = same_archived reading h floors stands group next joins room

  same-floors : floor_of (with_group reading group).log ≡ floor_of reading.log
  same-floors = floors-append (λ q. 0) reading.log (Commits (map (λ m. m.head) group) ∷ [])

  facts : (key : Key) → heap_facts (with_group reading group) key ≡ heap_facts reading key ++ writes_of next key
  facts = more_facts reading h floors stands group next joins room

  rise : (key : Key) → IsRisingAfter (last h) (writes_of next key)
  rise = later reading h floors stands group next joins room

  pub archive-plan-stays : (upto : ℕ) (run : List ArchiveRecord) → upto ≤ last h → IsArchivePlan reading upto run
      → IsArchivePlan (with_group reading group) upto run
  archive-plan-stays upto run by plan = record {
    each = λ key.
        let mark = max (archived_upto reading) (floor_of reading.log key.relation) in
        let mark' = max (archived_upto (with_group reading group)) (floor_of (with_group reading group).log key.relation) in
        let ws = heap_facts reading key in
        let more = writes_of next key in
        let bound : upto < 2 ^ 63 = omega (arith, by, last-range reading h floors stands) in
        let same : mark ≡ mark' = ap (λ (a : ℕ). max a (floor_of reading.log key.relation)) (sym same-mark)
        ∙ ap (λ (f : ℕ → ℕ). max (archived_upto (with_group reading group)) (f key.relation)) (sym same-floors) in
        plan.each key
        ∙ filter-swap (ends_by upto) (ends_after mark) (versions ws)
        ∙ ap (filter (ends_after mark))
        (sym (ends_by-append 0 upto ws more bound (facts-rise reading h floors stands key) (rising_earlier upto (last h) more by (rise key))))
        ∙ ap (λ l. filter (ends_after mark) (filter (ends_by upto) (versions l))) (sym (facts key))
        ∙ sym (filter-swap (ends_by upto) (ends_after mark) (heap_versions (with_group reading group) key))
        ∙ ap (λ (m : ℕ). filter (ends_by upto) (filter (ends_after m) (heap_versions (with_group reading group) key))) same;
    is_run = subst (λ (f : ℕ → ℕ). IsRun (archived_upto (with_group reading group)) f upto run) (sym same-floors)
        (subst (λ (a : ℕ). IsRun a (floor_of reading.log) upto run) (sym same-mark) plan.is_run);
  }

  pub reclaim-plan-stays : (olds : List OldRecord) → IsReclaimPlan reading olds → IsReclaimPlan (with_group reading group) olds
  reclaim-plan-stays olds plan = record {
    each = λ key.
        let mark = archived_upto reading in
        let ws = heap_facts reading key in
        let more = writes_of next key in
        let range = archived-range reading h floors stands in
        plan.each key
        ∙ sym (standing-stays 0 mark ws more (omega (
          arith,
          range,
          last-range reading h floors stands,
        )) (facts-rise reading h floors stands key) (rising_earlier mark (last h) more range (rise key)))
        ∙ ap (λ l. map as_write (filter (stands_at mark) (versions l))) (sym (facts key))
        ∙ ap (λ (a : ℕ). map as_write (filter (stands_at a) (heap_versions (with_group reading group) key))) (sym same-mark);
    rising = plan.rising;
    in_range = subst (λ (a : ℕ). AllByRecursion (IsAnchorUpto a) olds) (sym same-mark) plan.in_range;
  }
