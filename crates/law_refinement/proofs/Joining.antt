-- The group that is being written may follow what is published, and what a stop may leave while it is written.
use Rattle.std.proofs.Common.{◌≡◌, ◌≢◌, ℕ, zero, suc, ◌<◌, ◌≤◌, List, [], ◌∷◌, ◌++◌, length, take, drop, map, Option, Result, Ok, refl, arith, ap, sym, subst}
use Rattle.std.proofs.Common.{◌∙◌, inl, inr}
use Rattle.std.specs.Prelude.{IsTrue}
use Rattle.std.specs.List.{AllByRecursion, flat_map}
use Rattle.std.proofs.lemmas.List.Concat.{flat_map-append}
use mathlib.Core.Path.{fun_ext}
use Rattle.history.specs.declared.key.Key.{Key}
use Rattle.history.specs.Histories.{History, MayAllFollow}
use Rattle.history.specs.Machine.{Machine, Gate, MayBeOpen, OfGroup}
use Rattle.history.specs.Fronts.{OnFront, OnOpened}
use Rattle.history.specs.Steps.{gated}
use Rattle.history.proofs.Histories.{may_follow-behind, may_follow-front}
use Rattle.disk.specs.Areas.{Areas, Image, AreSound, LeavesImage}
use Rattle.disk.specs.declared.area.DeviceFault.{DeviceFault}
use Rattle.wire.specs.Spelling.{IsSpelled, spelling, kind_of}
use Rattle.wire.specs.declared.slot.Body.TheVariants.{Commit as CommitBody}
use Rattle.wire.specs.declared.slot.Slot.{Slot}
use Rattle.law_image.specs.Values.{Value, IsValue}
use Rattle.law_image.specs.Reading.{Reading, Member}
use Rattle.law_image.specs.Facts.{latest, heap_facts}
use Rattle.law_image.specs.Plans.{stored_members, IsGroupOf, with_group}
use Rattle.law_image.specs.StandsFor.{StandsFor}
use Rattle.law_image.proofs.Recent.{latest-is, stored-is_group}
use Rattle.law_image.proofs.Forms.{most-least}
use Rattle.extents.specs.declared.usage.Usage.{Usage}
use Rattle.extents.specs.declared.usage.Usage.TheVariants.{Out, Kept}
use Rattle.extents.specs.Usages as usages
use Rattle.extents.specs.Usages.{IsKept, IsOut, AreOut, IsNoneOf}
use Rattle.extents.proofs.Frames.{are_apart}
use Rattle.deltas.specs.Chains.{IsNumber}
use Rattle.status.specs.declared.header.Header.{Header}
use Rattle.status.specs.Header.{total}
use Rattle.status.specs.Rules.{is_built}
use Rattle.status.specs.SlotCalls.{SlotStage}
use Rattle.status.specs.SlotCalls as slots
use Rattle.law_layout.specs.Extents.{Extent, IsExtent, AreDistinct}
use Rattle.law_layout.specs.Layouts.{Layout, StoredMember, IsStoredMember, IsLayoutOf, HoldsLayout, live, extents_of}
use Rattle.law_layout.specs.Opening.{AreBuilt}
use Rattle.law_layout.specs.SlotTurns.{MayAt, MayWithin}
use Rattle.law_layout.specs.Turn.{Group, laid_out, MayJoin, Stage, IsAt, IsCallOf, stage_after}
use Rattle.law_layout.specs.Turn as turns
use Rattle.law_layout.proofs.Lists.{AreCross, distinct_join}
use Rattle.law_layout.proofs.Layouts.{group_extents_are, live_extents_are, stands_more, laid_more}
use Rattle.law_layout.proofs.Groups.{group_holds, group_call_holds, group_call_leads}
use Rattle.group.specs.Queued.{QueuedValue, numbers_of}
use Rattle.group.specs.Values.{TransactionsValue}
use Rattle.group.proofs.Publishing.{out-front}
use Rattle.store.specs.Values.{StoreValue}
use Rattle.law_refinement.specs.Standing.{AllWait}
use Rattle.law_refinement.specs.OnDisk.{IsImageOf, values_in, AllPacked, group_of}
use Rattle.law_refinement.proofs.Working.{Working, room-left}
use Rattle.law_refinement.proofs.Packed.{as-many, wait-front, packed-front, entries-named, members-are, members-stored, extents-numbered, length-mapped}
use Rattle.law_refinement.proofs.Naming.{spelling-long, slot-spelled}

-- ---- extents

numbered : (us : List Usage) (ns : List ℕ) → AllByRecursion (IsOut us) ns → AllByRecursion IsNumber ns
numbered us [] all = tt
numbered us (n ∷ ns) all = let first = all.0 in ((first.low, first.high), numbered us ns all.1)

pub distinct-extents : (es : List Extent) → usages.AreDistinct (map (λ (e : Extent). e.number) es) → AreDistinct es
distinct-extents [] all = tt
distinct-extents (e ∷ es) all = (apart es all.0, distinct-extents es all.1)
  where
    apart : (fs : List Extent) → IsNoneOf e.number (map (λ (f : Extent). f.number) fs) → AllByRecursion (λ (f : Extent). e.number ≢ f.number) fs
    apart [] none = tt
    apart (f ∷ fs) none = ((λ same. none.0 (sym same)), apart fs none.1)

-- what is kept is none of what is out
kept-apart : (us : List Usage) (e : Extent) (fs : List Extent) → IsKept us e.number → AllByRecursion (IsOut us) (map (λ (f : Extent). f.number) fs)
    → AllByRecursion (λ (f : Extent). e.number ≢ f.number) fs
kept-apart us e [] kept out = tt
kept-apart us e (f ∷ fs) kept out = (are_apart us Kept Out e.number f.number (λ same. cc) kept out.0, kept-apart us e fs kept out.1)

pub kept-cross : (us : List Usage) (es fs : List Extent) → AllByRecursion (λ (e : Extent). IsKept us e.number) es
    → AllByRecursion (IsOut us) (map (λ (f : Extent). f.number) fs) → AreCross es fs
kept-cross us [] fs kept out = tt
kept-cross us (e ∷ es) fs kept out = (kept-apart us e fs kept.0 out, kept-cross us es fs kept.1 out)

pub numbers-split : (n : ℕ) (qs : List QueuedValue) → flat_map numbers_of qs ≡ flat_map numbers_of (take n qs) ++ flat_map numbers_of (drop n qs)
numbers-split n qs = ap (λ (l : List QueuedValue). flat_map numbers_of l) (sym (taken n qs)) ∙ flat_map-append numbers_of (take n qs) (drop n qs)
  where
    taken : (k : ℕ) (ps : List QueuedValue) → take k ps ++ drop k ps ≡ ps
    taken zero ps = refl
    taken (suc k) [] = refl
    taken (suc k) (p ∷ ps) = ap (λ (l : List QueuedValue). p ∷ l) (taken k ps)

taken-and-rest : (n : ℕ) (cs : History Value) → take n cs ++ drop n cs ≡ cs
taken-and-rest zero cs = refl
taken-and-rest (suc n) [] = refl
taken-and-rest (suc n) (c ∷ cs) = ap (λ (ds : History Value). c ∷ ds) (taken-and-rest n cs)

length-taken : {X : Type 0} (n : ℕ) (xs : List X) → n ≤ length xs → length (take n xs) ≡ n
length-taken zero xs low = refl
length-taken (suc n) [] low = absurd (omega arith)
length-taken (suc n) (x ∷ xs) low = ap suc (length-taken n xs (omega arith))

-- ---- kinds

pub built-more : (header : Header) (ss : List Slot) (s : Slot) → AreBuilt header ss → IsTrue (is_built header.profile (kind_of s.body))
    → AreBuilt header (ss ++ s ∷ [])
built-more header [] s built new zero slot at = let same : s ≡ slot = cc in subst (λ (x : Slot). IsTrue (is_built header.profile (kind_of x.body))) same new
built-more header [] s built new (suc n) slot at = absurd cc
built-more header (x ∷ xs) s built new zero slot at = built zero slot at
built-more header (x ∷ xs) s built new (suc n) slot at = built-more header xs s (λ k y is. built (suc k) y is) new n slot at

-- ---- the gate

-- a stage before whose call the gate may be open
abbrev pub MayOpen : SlotStage → Type 0
MayOpen slots.Begun = ⊥
MayOpen slots.BodyWritten = ⊥
MayOpen slots.BodySynced = ⊥
MayOpen slots.GateWritten = Unit {0}
MayOpen slots.Opened = Unit {0}

-- and one within whose call it may be
abbrev pub MayOpenWithin : SlotStage → Type 0
MayOpenWithin slots.Begun = ⊥
MayOpenWithin slots.BodyWritten = ⊥
MayOpenWithin slots.BodySynced = Unit {0}
MayOpenWithin slots.GateWritten = Unit {0}
MayOpenWithin slots.Opened = Unit {0}

-- so it is of a group
abbrev pub MayOpenAt : Stage → Type 0
MayOpenAt (turns.Storing done rest) = ⊥
MayOpenAt (turns.Turning stage) = MayOpen stage

abbrev pub MayOpenInCall : Stage → Type 0
MayOpenInCall (turns.Storing done rest) = ⊥
MayOpenInCall (turns.Turning stage) = MayOpenWithin stage

-- ---- what the store keeps of its disk, apart from where the group is

-- the log stands for what is published, and the group may follow it
module _ (store : StoreValue) (m : Machine Value) (c : Working store m) (some : 0 < store.transactions.group) where
  abbrev v : TransactionsValue
  v = store.transactions

  abbrev header : Header
  header = c.header

  abbrev layout : Layout
  layout = c.works.log.layout

  abbrev reading : Reading
  reading = c.works.log.reading

  room : length layout.slots < total header
  room = room-left store m c some

  abbrev next : History Value
  next = take v.group m.queue

  abbrev taken : List QueuedValue
  taken = take v.group v.queue

  waits : AllWait v.reclaimed v.versions taken next
  waits = wait-front v.group v.reclaimed v.versions v.queue m.queue c.inside.memory.queue

  each : AllPacked m.published taken next
  each = packed-front v.group m.published v.queue m.queue c.works.packed

  may : MayAllFollow IsValue m.published next
  may =
      let behind : MayAllFollow IsValue m.published m.queue = may_follow-behind IsValue [] m.published m.queue c.inside.machine.history in
      may_follow-front IsValue m.published (take v.group m.queue) (drop v.group m.queue)
      (subst (λ (l : History Value). MayAllFollow IsValue m.published l) (sym (taken-and-rest v.group m.queue)) behind)

  pub out : AreOut v.usages (flat_map numbers_of taken)
  out = out-front v.usages (flat_map numbers_of (take v.group v.queue)) (flat_map numbers_of (drop v.group v.queue))
      (subst (λ (l : List ℕ). AreOut v.usages l) (numbers-split v.group v.queue)
      (out-front v.usages (flat_map numbers_of v.queue) v.reserved c.inside.order.out))

  pub in_range : AllByRecursion IsNumber (flat_map numbers_of taken)
  in_range = numbered v.usages (flat_map numbers_of taken) out.each

  many : length next ≡ v.group
  many = length-taken v.group m.queue (omega (arith, c.inside.order.group_within, as-many v.reclaimed v.versions v.queue m.queue c.inside.memory.queue))

  taken-many : length taken ≡ v.group
  taken-many = length-taken v.group v.queue c.inside.order.group_within

  abbrev group : Group
  group = group_of layout v m

  stored : AllByRecursion IsStoredMember group.members
  stored = members-stored v.reclaimed v.versions m.published taken next waits each may in_range

  values : (λ (key : Key). latest (heap_facts reading key)) ≡ values_in m.published
  values = fun_ext (λ key. sym (latest-is reading m.published m.floors c.works.log.stands key))

  is_group : IsGroupOf reading m.published next (map (λ (s : StoredMember). s.member) group.members)
  is_group =
      subst (λ (ms : List Member). IsGroupOf reading m.published next ms)
      (ap (λ (f : Key → Option Value). stored_members f next) values ∙ sym (members-are v.reclaimed v.versions m.published taken next waits may))
      (stored-is_group reading m.published m.floors c.works.log.stands next may (omega (arith, many, some)) (omega (
        arith,
        many,
        c.inside.order.group_few,
        most-least reading.profile,
      )))

  pub numbers : map (λ (e : Extent). e.number) (extents_of group.members) ≡ flat_map numbers_of taken
  numbers = extents-numbered m.published taken next each

  free : AreDistinct (live layout ++ extents_of group.members)
  free =
      let outs : AllByRecursion (IsOut v.usages) (map (λ (e : Extent). e.number) (extents_of group.members)) =
      subst (AllByRecursion (IsOut v.usages)) (sym numbers) out.each in
      distinct_join (live layout) (extents_of group.members) c.works.log.laid.heap.apart
      (distinct-extents (extents_of group.members) (subst usages.AreDistinct (sym numbers) out.distinct))
      (kept-cross v.usages (live layout) (extents_of group.members) c.works.heap.kept outs)

  pub joins : MayJoin header layout reading m.published next group
  joins = record {
    is_group = is_group;
    room = room;
    each = stored;
    named = ap (λ es. CommitBody (record { items = es })) (sym (entries-named v.reclaimed v.versions m.published taken next waits));
    free = free;
  }

  -- ---- the slot

  abbrev body : List ℕ
  body = spelling header.profile group.slot

  pub long : length body ≡ 511
  long = spelling-long header.profile (length layout.slots) (map (λ (q : QueuedValue). q.entry) taken) (omega (
    arith,
    length-mapped (λ (q : QueuedValue). q.entry) taken,
    taken-many,
    c.inside.order.group_few,
  ))

  pub spelled : IsSpelled header.profile (length layout.slots) body group.slot
  spelled =
      slot-spelled header.profile (length layout.slots) v.reclaimed v.versions m.published taken next waits each may in_range (omega (
        arith,
        taken-many,
        some,
      )) (omega (arith, taken-many, c.inside.order.group_few))

  -- ---- images

  pub old_image : (image : Image) → HoldsLayout header image layout → IsImageOf header image m.published m.floors
  old_image image held =
      record {
        layout = layout;
        reading = reading;
        laid = c.works.log.laid;
        held = held;
        stands = c.works.log.stands;
        profile_built = c.profile_built;
        built = c.works.log.built;
      }

  pub built_then : AreBuilt header (laid_out layout group).slots
  built_then = built-more header layout.slots group.slot c.works.log.built c.profile_built

  pub laid_then : IsLayoutOf header (laid_out layout group) (with_group reading (turns.members_of group))
  laid_then = laid_more header layout reading m.published next m.floors group c.works.log.laid c.works.log.stands joins

  pub stands_then : StandsFor (with_group reading (turns.members_of group)) (m.published ++ next) m.floors
  stands_then = stands_more header layout reading m.published next m.floors group c.works.log.laid c.works.log.stands joins

  pub new_image : (image : Image) → HoldsLayout header image (laid_out layout group) → IsImageOf header image (m.published ++ next) m.floors
  new_image image held =
      record {
        layout = laid_out layout group;
        reading = with_group reading (turns.members_of group);
        laid = laid_then;
        held = held;
        stands = stands_then;
        profile_built = c.profile_built;
        built = built_then;
      }

  -- what is published with the whole group is a front, where the gate may be open
  opened-front : (gate : Gate) → gate ≡ MayBeOpen OfGroup → (image : Image) → IsImageOf header image (m.published ++ next) m.floors
      → OnFront (IsImageOf header image) (gated m gate)
  opened-front gate is image new =
      inr (subst (λ (g : Gate). OnOpened (IsImageOf header image) (gated m g) g) (sym is)
      (subst (λ (n : ℕ). IsImageOf header image (m.published ++ take n m.queue) m.floors) c.inside.memory.group new))

  by-slot : (gate : Gate) (stage : SlotStage) (image : Image) → (MayOpen stage → gate ≡ MayBeOpen OfGroup)
      → MayAt stage (HoldsLayout header image layout) (HoldsLayout header image (laid_out layout group)) → OnFront (IsImageOf header image) (gated m gate)
  by-slot gate slots.Begun image open-is may_be = inl (old_image image may_be)
  by-slot gate slots.BodyWritten image open-is may_be = inl (old_image image may_be)
  by-slot gate slots.BodySynced image open-is may_be = inl (old_image image may_be)
  by-slot gate slots.GateWritten image open-is (inl old) = inl (old_image image old)
  by-slot gate slots.GateWritten image open-is (inr new) = opened-front gate (open-is tt) image (new_image image new)
  by-slot gate slots.Opened image open-is may_be = opened-front gate (open-is tt) image (new_image image may_be)

  within-slot : (gate : Gate) (stage : SlotStage) (image : Image) → (MayOpenWithin stage → gate ≡ MayBeOpen OfGroup)
      → MayWithin stage (HoldsLayout header image layout) (HoldsLayout header image (laid_out layout group)) → OnFront (IsImageOf header image) (gated m gate)
  within-slot gate slots.Begun image open-is may_be = inl (old_image image may_be)
  within-slot gate slots.BodyWritten image open-is may_be = inl (old_image image may_be)
  within-slot gate slots.BodySynced image open-is (inl old) = inl (old_image image old)
  within-slot gate slots.BodySynced image open-is (inr new) = opened-front gate (open-is tt) image (new_image image new)
  within-slot gate slots.GateWritten image open-is (inl old) = inl (old_image image old)
  within-slot gate slots.GateWritten image open-is (inr new) = opened-front gate (open-is tt) image (new_image image new)
  within-slot gate slots.Opened image open-is may_be = opened-front gate (open-is tt) image (new_image image may_be)

  pub live_are : AllByRecursion IsExtent (live layout)
  live_are = live_extents_are header layout reading c.works.log.laid

  pub group_are : AllByRecursion IsExtent (extents_of group.members)
  group_are = group_extents_are group.members stored

  -- what a stop may leave before the next call of the group
  pub leaves_at : (gate : Gate) (stage : Stage) (areas : Areas) (image : Image) → (MayOpenAt stage → gate ≡ MayBeOpen OfGroup)
      → IsAt header layout group stage areas → LeavesImage areas image → OnFront (IsImageOf header image) (gated m gate)
  leaves_at gate (turns.Storing done rest) areas image open-is at left =
      inl (old_image image (group_holds header layout group room live_are group_are free (turns.Storing done rest) areas image at left))
  leaves_at gate (turns.Turning stage) areas image open-is at left =
      by-slot gate stage image open-is (group_holds header layout group room live_are group_are free (turns.Turning stage) areas image at left)

  -- and within it and after it, also where it is refused
  pub leaves_within : (bytes : List ℕ) → length bytes ≡ 511 → IsSpelled header.profile (length layout.slots) bytes group.slot
      → (gate : Gate) (stage : Stage) (result : Result (Unit {0}) DeviceFault) (old new : Areas) (image : Image)
      → (MayOpenInCall stage → gate ≡ MayBeOpen OfGroup) → IsAt header layout group stage old → AreSound old → IsCallOf layout bytes stage result old new
      → LeavesImage new image → OnFront (IsImageOf header image) (gated m gate)
  leaves_within bytes long spelled gate (turns.Storing done rest) result old new image open-is at sound call left =
      inl (old_image image (group_call_holds header layout group room live_are group_are free bytes long spelled (turns.Storing done rest) result old new image
      at sound call left))
  leaves_within bytes long spelled gate (turns.Turning stage) result old new image open-is at sound call left =
      within-slot gate stage image open-is
      (group_call_holds header layout group room live_are group_are free bytes long spelled (turns.Turning stage) result old new image at sound call left)

  -- where a call leads that is answered Ok
  pub leads : (bytes : List ℕ) → length bytes ≡ 511 → IsSpelled header.profile (length layout.slots) bytes group.slot → (stage : Stage) (old new : Areas)
      → IsAt header layout group stage old → AreSound old
      → IsCallOf layout bytes stage (Ok tt) old new → IsAt header layout group (stage_after stage) new
  leads bytes long spelled stage old new at sound call =
      group_call_leads header layout group room live_are group_are free bytes long spelled stage old new at sound call
