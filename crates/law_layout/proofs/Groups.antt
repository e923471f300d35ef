-- What each device call of a group leaves, and where it leads.
use Rattle.std.proofs.Common.{◌≡◌, ◌≢◌, ℕ, ◌<◌, List, [], ◌∷◌, ◌++◌, length, refl, sym, subst, ◌∙◌, append_assoc, Result, Ok}
use Rattle.std.specs.List.{AllByRecursion}
use Rattle.std.proofs.lemmas.List.{append-nil}
use Rattle.disk.specs.declared.area.Area.TheVariants.{Heap}
use Rattle.disk.specs.declared.area.DeviceFault.{DeviceFault}
use Rattle.disk.specs.Areas.{AreaState, Areas, Image, LeavesImage, AreSound, IsSound, loosened, written, synced}
use Rattle.disk.proofs.Stops.{left_by_write, left_by_sync}
use Rattle.disk.specs.Parts.{IsLoosened}
use Rattle.history.proofs.Filters.{AllByRecursion-append}
use Rattle.wire.specs.Spelling.{IsSpelled}
use Rattle.law_layout.specs.Extents.{Extent, IsExtent, AreDistinct, KeepsExtent, extent_start, extent_bytes}
use Rattle.law_layout.specs.Layouts.{Layout, live, extents_of, HoldsLayout}
use Rattle.law_layout.specs.Keeping.{KeepsExtents, KeepsParts}
use Rattle.law_layout.specs.SlotTurns.{Adds, IsTurnAt}
use Rattle.law_layout.specs.Turn.{Group, laid_out, Stage, Storing, Turning, IsCallOf, stage_after, IsStoring, IsAt, MayBe, MayBecome}
use Rattle.law_layout.proofs.Lists.{all_of_front, all_of_back, others}
use Rattle.law_layout.proofs.Extents.{others_kept, one_more_held, loosened_is, written_is, extents_kept_by_sync, extents_synced}
use Rattle.law_layout.proofs.Layouts.{live_more}
use Rattle.law_layout.proofs.Standing.{rests_leave, parts_hold, rests_hold}
use Rattle.law_layout.proofs.SlotTurns.{turn_holds, turn_call_holds, turn_call_leads}
use Rattle.status.specs.declared.header.Header.{Header}
use Rattle.status.specs.Header.{total}
use Rattle.status.specs.SlotCalls.{Begun}

-- the write of an extent that no live chain has keeps the layout's parts
pub parts_kept : (layout : Layout) (e : Extent) (old : Areas) (heap : AreaState) → AllByRecursion IsExtent (live layout) → IsExtent e
    → AllByRecursion (λ (f : Extent). f.number ≢ e.number) (live layout)
    → IsSound old.heap → IsLoosened (extent_start e.number) (length (extent_bytes e)) old.heap heap → KeepsParts layout old
    → KeepsParts layout (record old { heap = heap })
parts_kept layout e old heap are is apart sound loose keeps = record {
  extents = others_kept e is (live layout) are apart old.heap heap sound loose keeps.extents;
  runs = keeps.runs;
}

module _ (header : Header) (layout : Layout) (group : Group) (room : length layout.slots < total header) (live_are : AllByRecursion IsExtent (live layout))
    (group_are : AllByRecursion IsExtent (extents_of group.members))
    (free : AreDistinct (live layout ++ extents_of group.members)) where
  adds : Adds header layout group.slot (laid_out layout group)
  adds = record { slots_are = refl; room = room }

  -- ---- one extent of the group

  module _ (done : List Extent) (e : Extent) (rest : List Extent) (parts : done ++ e ∷ rest ≡ extents_of group.members) where
    each : AllByRecursion IsExtent (done ++ e ∷ rest)
    each = rw parts group_are

    is_extent : IsExtent e
    is_extent = (all_of_back IsExtent done (e ∷ rest) each).0

    done_are : AllByRecursion IsExtent done
    done_are = all_of_front IsExtent done (e ∷ rest) each

    others_apart : AllByRecursion (λ (f : Extent). f.number ≢ e.number) (live layout ++ done)
    others_apart =
        let whole : AreDistinct ((live layout ++ done) ++ e ∷ rest) = rw (append_assoc (live layout) done (e ∷ rest), parts) free in
        others e (live layout ++ done) rest whole

    live_apart : AllByRecursion (λ (f : Extent). f.number ≢ e.number) (live layout)
    live_apart = all_of_front (λ (f : Extent). f.number ≢ e.number) (live layout) done others_apart

    done_apart : AllByRecursion (λ (f : Extent). f.number ≢ e.number) done
    done_apart = all_of_back (λ (f : Extent). f.number ≢ e.number) (live layout) done others_apart

  stored_one : (done : List Extent) (e : Extent) (rest : List Extent) (old : Areas) → IsStoring header layout group done (e ∷ rest) old → AreSound old
      → IsStoring header layout group (done ++ e ∷ []) rest (record old { heap = written (extent_start e.number) (extent_bytes e) old.heap })
  stored_one done e rest old at sound =
      let parts = at.parts_are in
      let is = is_extent done e rest parts in
      let new : AreaState = written (extent_start e.number) (extent_bytes e) old.heap in
      record {
        rests = record {
          status = at.rests.status;
          parts = parts_kept layout e old new live_are is (live_apart done e rest parts) (sound Heap)
              (written_is (extent_start e.number) (extent_bytes e) old.heap (sound Heap)) at.rests.parts;
        };
        parts_are = append_assoc done (e ∷ []) rest ∙ parts;
        written = one_more_held e is done (done_are done e rest parts) (done_apart done e rest parts) old.heap.bytes at.written;
      }

  all_synced : (done : List Extent) (old : Areas) → IsStoring header layout group done [] old → AreSound old
      → IsTurnAt header layout group.slot (laid_out layout group) Begun (record old { heap = synced old.heap })
  all_synced done old at sound =
      let all : done ≡ extents_of group.members = sym (append-nil done) ∙ at.parts_are in
      let was : KeepsExtents (live layout) (synced old.heap) = extents_kept_by_sync (live layout) old.heap (sound Heap) at.rests.parts.extents in
      let more : KeepsExtents (extents_of group.members) (synced old.heap) =
      subst (λ es. KeepsExtents es (synced old.heap)) all (extents_synced done old.heap at.written) in
      record {
        status = at.rests.status;
        old_parts = record { extents = was; runs = at.rests.parts.runs };
        new_parts = record {
          extents =
              subst (λ es. KeepsExtents es (synced old.heap)) (sym (live_more layout group))
              (AllByRecursion-append (KeepsExtent (synced old.heap)) (live layout) (extents_of group.members) was more);
          runs = at.rests.parts.runs;
        };
      }

  -- ---- what a stop may leave

  pub group_holds : (stage : Stage) (areas : Areas) (image : Image) → IsAt header layout group stage areas → LeavesImage areas image
      → MayBe stage (HoldsLayout header image layout) (HoldsLayout header image (laid_out layout group))
  group_holds (Storing done rest) areas image at left = rests_hold header layout areas image at.rests left
  group_holds (Turning stage) areas image at left = turn_holds header layout group.slot (laid_out layout group) adds stage areas image at left

  module _ (body : List ℕ) (long : length body ≡ 511) (spelled : IsSpelled header.profile (length layout.slots) body group.slot) where
    pub group_call_holds : (stage : Stage) (result : Result (Unit {0}) DeviceFault) (old new : Areas) (image : Image) → IsAt header layout group stage old
        → AreSound old
        → IsCallOf layout body stage result old new → LeavesImage new image
        → MayBecome stage (HoldsLayout header image layout) (HoldsLayout header image (laid_out layout group))
    group_call_holds (Storing done (e ∷ rest)) result old new image at sound call left =
        let at_e = extent_start e.number in
        let n = length (extent_bytes e) in
        let before = (left_by_write Heap at_e (extent_bytes e) result old new call sound).each image left in
        let torn : AreaState = loosened at_e n old.heap.bytes old.heap in
        parts_hold header layout (record old { heap = torn }) image
        (parts_kept layout e old torn live_are (is_extent done e rest at.parts_are) (live_apart done e rest at.parts_are) (sound Heap)
        (loosened_is at_e n old.heap) at.rests.parts)
        (rests_leave header old.status image.status layout.slots at.rests.status before.status) before.heap before.archive
    group_call_holds (Storing done []) result old new image at sound call left =
        rests_hold header layout old image at.rests ((left_by_sync Heap result old new call sound).each image left)
    group_call_holds (Turning stage) result old new image at sound call left =
        turn_call_holds header layout group.slot (laid_out layout group) adds body long spelled stage result old new image at sound call left

    -- ---- where a call that is answered Ok leads

    pub group_call_leads : (stage : Stage) (old new : Areas) → IsAt header layout group stage old → AreSound old
        → IsCallOf layout body stage (Ok tt) old new → IsAt header layout group (stage_after stage) new
    group_call_leads (Storing done (e ∷ rest)) old new at sound call = rw call.written (stored_one done e rest old at sound)
    group_call_leads (Storing done []) old new at sound call = rw call.synced (all_synced done old at sound)
    group_call_leads (Turning stage) old new at sound call =
        turn_call_leads header layout group.slot (laid_out layout group) adds body long spelled stage old new at sound call
