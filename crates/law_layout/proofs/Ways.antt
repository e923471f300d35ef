-- A group's way to the disk.
use Rattle.std.proofs.Common.{◌≡◌, ℕ, ◌+◌, ◌≤◌, List, [], ◌∷◌, ◌++◌, length, refl, sym, subst, arith}
use Rattle.std.specs.List.{AllByRecursion}
use Rattle.disk.specs.Areas.{AreaState, Areas, Image, AreSound, settled_on, settled_area}
use Rattle.disk.specs.Parts.{HoldsPart}
use Rattle.disk.proofs.Parts.{held_again, synced_part}
use Rattle.wire.specs.Spelling.{IsSpelled}
use Rattle.status.specs.Log.{IsLog}
use Rattle.status.proofs.Frame.{same_log}
use Rattle.status.proofs.Agreement.{then_new}
use Rattle.history.specs.Histories.{History}
use Rattle.history.proofs.Filters.{AllByRecursion-append}
use Rattle.law_image.specs.Values.{Value}
use Rattle.law_image.specs.Reading.{Reading}
use Rattle.law_image.specs.StandsFor.{StandsFor}
use Rattle.law_image.specs.Plans.{with_group, empty_reading}
use Rattle.law_image.proofs.Empty.{empty-stands_for}
use Rattle.law_layout.specs.Extents.{Extent, IsExtent, HoldsExtent, KeepsExtent, extent_start, extent_bytes}
use Rattle.law_layout.specs.Runs.{StoredRun, HoldsRun, KeepsRun, run_bytes}
use Rattle.law_layout.specs.Layouts.{Layout, live, extents_of, IsLayoutOf, HoldsLayout, ImageStandsFor}
use Rattle.law_layout.specs.Keeping.{RestsAs}
use Rattle.law_layout.specs.Turn.{Group, Stage, Storing, Turning, members_of, laid_out, MayJoin, stage_after, IsAt, MayBe, MayBecome}
use Rattle.law_layout.specs.Frames.{HasPartOf, HasExtentOf, HasRunOf, HasLayoutOf, HasGroupToo}
use Rattle.law_layout.specs.Laws.{Goes, stage_after_all, last_of, IsGroupWay}
use Rattle.law_layout.proofs.Lists.{weaker, both}
use Rattle.law_layout.proofs.Layouts.{laid_more, stands_more, live_more, live_extents_are, group_extents_are}
use Rattle.law_layout.proofs.Standing.{held_stands, may_at, may_within}
use Rattle.law_layout.proofs.SlotTurns.{opened_rests}
use Rattle.law_layout.proofs.Groups.{group_holds, group_call_holds, group_call_leads}
use Rattle.status.specs.declared.header.Header.{Header}
use Rattle.status.specs.SlotCalls.{Begun, Opened}

-- ---- frames

part_again : (at : ℕ) (part old new : List ℕ) → HoldsPart at part old → HasPartOf at (length part) old new → HoldsPart at part new
part_again at part old new held has = held_again at part old new has.inside has.same held

extents_again : (es : List Extent) (old new : List ℕ) → AllByRecursion (HoldsExtent old) es → AllByRecursion (HasExtentOf old new) es
    → AllByRecursion (HoldsExtent new) es
extents_again es old new held has =
    both (HoldsExtent old) (HasExtentOf old new) (HoldsExtent new) es (λ e was same. part_again (extent_start e.number) (extent_bytes e) old new was same) held
    has

runs_again : (runs : List StoredRun) (old new : List ℕ) → AllByRecursion (HoldsRun old) runs → AllByRecursion (HasRunOf old new) runs
    → AllByRecursion (HoldsRun new) runs
runs_again runs old new held has =
    both (HoldsRun old) (HasRunOf old new) (HoldsRun new) runs (λ s was same. part_again s.entry.start (run_bytes s.records) old new was same) held has

pub layout_again : (header : Header) (layout : Layout) (old new : Image) → HoldsLayout header old layout → HasLayoutOf header layout old new
    → HoldsLayout header new layout
layout_again header layout old new held has = record {
  log = same_log header layout.slots old.status new.status held.log has.log;
  extents = extents_again (live layout) old.heap new.heap held.extents has.parts.extents;
  runs = runs_again layout.runs old.archive new.archive held.runs has.parts.runs;
}

-- what was synced is kept
pub synced_rests : (header : Header) (layout : Layout) (image : Image) → HoldsLayout header image layout → RestsAs header layout (settled_on image)
synced_rests header layout image held =
    let heap : AreaState = settled_area image.heap in
    let archive : AreaState = settled_area image.archive in
    record {
      status = record { settled = record { firm = refl; loose = refl }; log = held.log };
      parts = record {
        extents =
            weaker (HoldsExtent image.heap) (KeepsExtent heap) (live layout) (λ e was. synced_part (extent_start e.number) (extent_bytes e) heap was)
            held.extents;
        runs = weaker (HoldsRun image.archive) (KeepsRun archive) layout.runs (λ s was. synced_part s.entry.start (run_bytes s.records) archive was) held.runs;
      };
    }

module _ (header : Header) (layout : Layout) (reading : Reading) (h next : History Value) (floors : ℕ → ℕ) (group : Group)
    (laid : IsLayoutOf header layout reading) (stands : StandsFor reading h floors) (joins : MayJoin header layout reading h next group) where
  -- one slot more
  pub slot_stands : (old new : Image) → HoldsLayout header old layout → HasGroupToo header layout group old new → ImageStandsFor header new (h ++ next) floors
  slot_stands old new held has = record {
    reading = with_group reading (members_of group);
    reads_as = record {
      layout = laid_out layout group;
      is_layout = laid_more header layout reading h next floors group laid stands joins;
      held = record {
        log = then_new header layout.slots old.status new.status held.log has.elsewhere group.slot joins.room has.is_open has.spelled;
        extents = subst (AllByRecursion (HoldsExtent new.heap)) (sym (live_more layout group))
            (AllByRecursion-append (HoldsExtent new.heap) (live layout) (extents_of group.members)
            (extents_again (live layout) old.heap new.heap held.extents has.parts.extents) has.extents);
        runs = runs_again layout.runs old.archive new.archive held.runs has.parts.runs;
      };
    };
    stands = stands_more header layout reading h next floors group laid stands joins;
  }

  -- ---- the way

  old_stands : (image : Image) → HoldsLayout header image layout → ImageStandsFor header image h floors
  old_stands image held = held_stands header layout reading h floors image laid stands held

  new_stands : (image : Image) → HoldsLayout header image (laid_out layout group) → ImageStandsFor header image (h ++ next) floors
  new_stands image held =
      held_stands header (laid_out layout group) (with_group reading (members_of group)) (h ++ next) floors image
      (laid_more header layout reading h next floors group laid stands joins) (stands_more header layout reading h next floors group laid stands joins) held

  may_be : (stage : Stage) (image : Image) → MayBe stage (HoldsLayout header image layout) (HoldsLayout header image (laid_out layout group))
      → MayBe stage (ImageStandsFor header image h floors) (ImageStandsFor header image (h ++ next) floors)
  may_be (Storing done rest) image may = old_stands image may
  may_be (Turning stage) image may = may_at stage _ _ _ _ (old_stands image) (new_stands image) may

  may_become : (stage : Stage) (image : Image) → MayBecome stage (HoldsLayout header image layout) (HoldsLayout header image (laid_out layout group))
      → MayBecome stage (ImageStandsFor header image h floors) (ImageStandsFor header image (h ++ next) floors)
  may_become (Storing done rest) image may = old_stands image may
  may_become (Turning stage) image may = may_within stage _ _ _ _ (old_stands image) (new_stands image) may

  live_are : AllByRecursion IsExtent (live layout)
  live_are = live_extents_are header layout reading laid

  group_are : AllByRecursion IsExtent (extents_of group.members)
  group_are = group_extents_are group.members joins.each

  module _ (body : List ℕ) (long : length body ≡ 511) (spelled : IsSpelled header.profile (length layout.slots) body group.slot) where
    -- where the calls that were answered Ok lead
    reached : (stage : Stage) (old : Areas) (states : List Areas) → IsAt header layout group stage old → Goes layout body stage old states
        → IsAt header layout group (stage_after_all stage states) (last_of old states) × AreSound (last_of old states)
    reached stage old [] at goes = (at, goes)
    reached stage old (new ∷ more) at goes =
        reached (stage_after stage) new more
        (group_call_leads header layout group joins.room live_are group_are joins.free body long spelled stage old new at goes.0 goes.1) goes.2

    pub group_goes : (start : Areas) (states : List Areas) → RestsAs header layout start → Goes layout body (Storing [] (extents_of group.members)) start states
        → IsGroupWay header layout h next floors group body (stage_after_all (Storing [] (extents_of group.members)) states) (last_of start states)
    group_goes start states rests goes =
        let stage : Stage = stage_after_all (Storing [] (extents_of group.members)) states in
        let areas : Areas = last_of start states in
        let begun : IsAt header layout group (Storing [] (extents_of group.members)) start = record { rests = rests; parts_are = refl; written = tt } in
        let here = reached (Storing [] (extents_of group.members)) start states begun goes in
        record {
          before = λ image left. may_be stage image (group_holds header layout group joins.room live_are group_are joins.free stage areas image here.0 left);
          within = λ result new image call left. may_become stage image
              (group_call_holds header layout group joins.room live_are group_are joins.free body long spelled stage result areas new image here.0 here.1 call
              left);
          rests = λ end. opened_rests header layout group.slot (laid_out layout group) (record {
            slots_are = refl;
            room = joins.room;
          }) areas (subst (λ (s : Stage). IsAt header layout group s areas) end here.0);
        }

opened_stays : (states : List Areas) → stage_after_all (Turning Opened) states ≡ Turning Opened
opened_stays [] = refl
opened_stays (new ∷ more) = opened_stays more

four_more : (states : List Areas) → 4 ≤ length states → stage_after_all (Turning Begun) states ≡ Turning Opened
four_more [] n = absurd (omega arith)
four_more (a ∷ []) n = absurd (omega arith)
four_more (a ∷ b ∷ []) n = absurd (omega arith)
four_more (a ∷ b ∷ c ∷ []) n = absurd (omega arith)
four_more (a ∷ b ∷ c ∷ d ∷ states) n = opened_stays states

pub group_ends : (done rest : List Extent) (states : List Areas) → length rest + 5 ≤ length states → stage_after_all (Storing done rest) states ≡ Turning Opened
group_ends done rest [] n = absurd (omega arith)
group_ends done [] (a ∷ states) n = four_more states (omega arith)
group_ends done (e ∷ rest) (a ∷ states) n = group_ends (done ++ e ∷ []) rest states (omega arith)

-- ---- the empty image

pub empty_laid : (header : Header)
    → IsLayoutOf header (record { slots = []; anchors = []; members = []; runs = [] }) (empty_reading header.profile header.slots header.pieces)
empty_laid header = record {
  heap = record {
    profile_is = refl;
    slots_are = refl;
    pieces_are = refl;
    log_is = refl;
    members_are = refl;
    entries_are = refl;
    each_member = tt;
    anchors_are =
        record { is_chain = record { first_is = refl; extents_are = refl; records_are = refl; linked = tt; each = tt; bodies_are = refl }; each = tt };
    apart = tt;
    in_row = tt;
  };
  runs = record {
    runs_are = refl;
    entries_are = refl;
    each_run = tt;
  };
}

pub empty_image_stands : (header : Header) (image : Image) → IsLog header image.status [] → ImageStandsFor header image [] (λ relation. 0)
empty_image_stands header image log = record {
  reading = empty_reading header.profile header.slots header.pieces;
  reads_as = record {
    layout = record { slots = []; anchors = []; members = []; runs = [] };
    is_layout = empty_laid header;
    held = record { log = log; extents = tt; runs = tt };
  };
  stands = empty-stands_for header.profile header.slots header.pieces log.header_is.front.numbers;
}
