-- The layout with one slot more.
use Rattle.std.proofs.Common.{◌≡◌, ℕ, ◌≤◌, nat_lt, true, List, [], ◌∷◌, ◌++◌, length, map, refl, sym, ap, subst, ◌∙◌, arith, append_assoc}
use Rattle.std.specs.List.{AllByRecursion}
use Rattle.std.proofs.lemmas.List.{append-nil, map-append}
use Rattle.std.proofs.lemmas.Grind.{flat_map-append}
use Rattle.std.proofs.lemmas.List.Elements.{filter-append}
use Rattle.wire.specs.declared.slot.Member.{Member as Entry}
use Rattle.wire.specs.declared.slot.Anchors.{Anchors}
use Rattle.wire.specs.declared.slot.Body.{Body}
use Rattle.wire.specs.declared.slot.Slot.{Slot}
use Rattle.history.specs.Histories.{History}
use Rattle.history.proofs.Orders.{is_lt}
use Rattle.history.proofs.Filters.{AllByRecursion-append}
use Rattle.law_image.specs.Values.{Value}
use Rattle.law_image.specs.Reading.{Head, Reading, Commits}
use Rattle.law_image.specs.Log.{AreRisingAfter, reclaim_mark, last_time}
use Rattle.law_image.specs.StandsFor.{StandsFor}
use Rattle.law_image.specs.Plans.{with_group, HasRoom}
use Rattle.law_image.proofs.Logs.{reclaim_mark-append}
use Rattle.law_image.proofs.Standing.{last-is}
use Rattle.law_image.proofs.Forms.{has-room}
use Rattle.law_image.proofs.GroupStep.{group-stands_for, group-rise, reclaimed-range, length-map}
use Rattle.law_layout.specs.Extents.{IsExtent, AreDistinct}
use Rattle.law_layout.specs.Layouts.{StoredMember, IsStoredMember, Layout, extents_of, live, entries_in, entries_of, later_than, anchors_in, anchors_after}
use Rattle.law_layout.specs.Layouts.{no_anchors, IsLayoutOf, IsAnchorChain}
use Rattle.law_layout.specs.Turn.{Names, Group, members_of, laid_out, MayJoin}
use Rattle.status.specs.declared.header.Header.{Header}
use Rattle.status.specs.Rules.{head_of, slot_of, runs_in, runs_of, AreInRow}

-- ---- all extents of a layout are extents

member_extents : (members : List StoredMember) → AllByRecursion IsStoredMember members → AllByRecursion IsExtent (extents_of members)
member_extents [] all = tt
member_extents (s ∷ members) all = AllByRecursion-append IsExtent s.extents (extents_of members) (all.0).chain.each (member_extents members all.1)

pub group_extents_are : (members : List StoredMember) → AllByRecursion IsStoredMember members → AllByRecursion IsExtent (extents_of members)
group_extents_are = member_extents

pub live_extents_are : (header : Header) (layout : Layout) (reading : Reading) → IsLayoutOf header layout reading → AllByRecursion IsExtent (live layout)
live_extents_are header layout reading laid =
    AllByRecursion-append IsExtent layout.anchors (extents_of layout.members) laid.heap.anchors_are.is_chain.each
    (member_extents layout.members laid.heap.each_member)

-- ---- what a slot of commits names

named_slot : (body : Body) (entries : List Entry) → Names body entries → slot_of body ≡ Commits (map head_of entries)
named_slot body entries named = ap slot_of named

named_entries : (body : Body) (entries : List Entry) → Names body entries → entries_in body ≡ entries
named_entries body entries named = ap entries_in named

named_runs : (body : Body) (entries : List Entry) → Names body entries → runs_in body ≡ []
named_runs body entries named = ap runs_in named

named_anchors : (before : Anchors) (body : Body) (entries : List Entry) → Names body entries → anchors_in before body ≡ before
named_anchors before body entries named = ap (anchors_in before) named

pub anchors-append : (before : Anchors) (slots : List Slot) (slot : Slot) → anchors_after before (slots ++ slot ∷ [])
    ≡ anchors_in (anchors_after before slots) slot.body
anchors-append before [] slot = refl
anchors-append before (s ∷ slots) slot = anchors-append (anchors_in before s.body) slots slot

-- entries that rise after a time are later than a mark that is not
later_entries : (mark t : ℕ) (entries : List Entry) → mark ≤ t → AreRisingAfter t (map head_of entries) → later_than mark entries ≡ entries
later_entries mark t [] le up = refl
later_entries mark t (entry ∷ entries) le up =
    let late : nat_lt mark entry.time ≡ true = is_lt (omega (arith, up.0)) in
    rw late (ap (λ l. entry ∷ l) (later_entries mark entry.time entries (omega (arith, up.0)) up.2))

member_heads : (members : List StoredMember) → AllByRecursion IsStoredMember members → map (λ m. m.head) (map (λ s. s.member) members)
    ≡ map head_of (map (λ s. s.entry) members)
member_heads [] all = refl
member_heads (s ∷ members) all =
    ap (λ (h : Head). h ∷ map (λ m. m.head) (map (λ (s : StoredMember). s.member) members)) (all.0).head_is
    ∙ ap (λ l. head_of s.entry ∷ l) (member_heads members all.1)

-- ---- one slot more

pub live_more : (layout : Layout) (group : Group) → live (laid_out layout group) ≡ live layout ++ extents_of group.members
live_more layout group =
    ap (λ l. layout.anchors ++ l) (flat_map-append (λ (s : StoredMember). s.extents) layout.members group.members)
    ∙ sym (append_assoc layout.anchors (extents_of layout.members) (extents_of group.members))

module _ (header : Header) (layout : Layout) (reading : Reading) (h next : History Value) (floors : ℕ → ℕ) (group : Group)
    (laid : IsLayoutOf header layout reading) (stands : StandsFor reading h floors) (joins : MayJoin header layout reading h next group) where
  entries : List Entry
  entries = map (λ s. s.entry) group.members

  pub has_room : HasRoom reading
  has_room =
      has-room reading (omega (
        arith,
        joins.room,
        laid.heap.slots_are,
        ap (λ l. length l) laid.heap.log_is,
        length-map (λ (s : Slot). slot_of s.body) layout.slots,
      ))

  pub stands_more : StandsFor (with_group reading (members_of group)) (h ++ next) floors
  stands_more = group-stands_for reading h floors stands (members_of group) next joins.is_group has_room

  heads_are : map (λ m. m.head) (members_of group) ≡ map head_of entries
  unfolding entries
  heads_are = member_heads group.members joins.each

  entries_rise : AreRisingAfter (last_time reading.log) (map head_of entries)
  entries_rise = subst (AreRisingAfter (last_time reading.log)) heads_are (group-rise reading h floors stands (members_of group) next joins.is_group has_room)

  same_mark : reclaim_mark (reading.log ++ Commits (map (λ m. m.head) (members_of group)) ∷ []) ≡ reclaim_mark reading.log
  same_mark = reclaim_mark-append 0 reading.log (Commits (map (λ m. m.head) (members_of group)) ∷ [])

  entries_more : entries_of (layout.slots ++ group.slot ∷ []) ≡ entries_of layout.slots ++ entries
  unfolding entries
  entries_more =
      flat_map-append (λ (s : Slot). entries_in s.body) layout.slots (group.slot ∷ [])
      ∙ ap (λ l. entries_of layout.slots ++ l) (append-nil (entries_in group.slot.body) ∙ named_entries group.slot.body entries joins.named)

  pub runs_more : runs_of (layout.slots ++ group.slot ∷ []) ≡ runs_of layout.slots
  runs_more =
      flat_map-append (λ (s : Slot). runs_in s.body) layout.slots (group.slot ∷ [])
      ∙ ap (λ l. runs_of layout.slots ++ l) (append-nil (runs_in group.slot.body) ∙ named_runs group.slot.body (map (λ s. s.entry) group.members) joins.named)
      ∙ append-nil (runs_of layout.slots)

  later_more : map (λ s. s.entry) (layout.members ++ group.members) ≡ later_than (reclaim_mark reading.log) (entries_of (layout.slots ++ group.slot ∷ []))
  unfolding entries
  later_more =
      let mark = reclaim_mark reading.log in
      let range : mark ≤ last_time reading.log =
      omega (arith, reclaimed-range reading h floors stands (members_of group) next joins.is_group has_room, last-is reading h floors stands) in
      map-append (λ (s : StoredMember). s.entry) layout.members group.members
      ∙ ap (λ l. l ++ entries) laid.heap.entries_are
      ∙ ap (λ l. later_than mark (entries_of layout.slots) ++ l) (sym (later_entries mark (last_time reading.log) entries range entries_rise))
      ∙ sym (filter-append (λ (entry : Entry). nat_lt mark entry.time) (entries_of layout.slots) entries)
      ∙ ap (later_than mark) (sym entries_more)

  -- the layout with the group's slot spells the reading with the group
  pub laid_more : IsLayoutOf header (laid_out layout group) (with_group reading (members_of group))
  laid_more = record {
    heap = record {
      profile_is = laid.heap.profile_is;
      slots_are = laid.heap.slots_are;
      pieces_are = laid.heap.pieces_are;
      log_is =
          map-append (λ (s : Slot). slot_of s.body) layout.slots (group.slot ∷ [])
          ∙ ap (λ l. l ++ slot_of group.slot.body ∷ []) laid.heap.log_is
          ∙ ap (λ b. reading.log ++ b ∷ []) (named_slot group.slot.body (map (λ s. s.entry) group.members) joins.named
          ∙ ap Commits (sym (member_heads group.members joins.each)));
      members_are = map-append (λ (s : StoredMember). s.member) layout.members group.members ∙ ap (λ l. l ++ members_of group) laid.heap.members_are;
      entries_are = later_more ∙ ap (λ (mark : ℕ). later_than mark (entries_of (layout.slots ++ group.slot ∷ []))) (sym same_mark);
      each_member = AllByRecursion-append IsStoredMember layout.members group.members laid.heap.each_member joins.each;
      anchors_are = subst (λ a. IsAnchorChain a layout.anchors reading.anchors)
          (sym (anchors-append no_anchors layout.slots group.slot
          ∙ named_anchors (anchors_after no_anchors layout.slots) group.slot.body (map (λ s. s.entry) group.members) joins.named)) laid.heap.anchors_are;
      apart = subst AreDistinct (sym (live_more layout group)) joins.free;
      in_row = subst (AreInRow 0) (sym runs_more) laid.heap.in_row;
    };
    runs = record {
      runs_are = laid.runs.runs_are;
      entries_are = laid.runs.entries_are ∙ sym runs_more;
      each_run = laid.runs.each_run;
    };
  }
