-- What a stop leaves stands for the history, by what the areas keep.
use Rattle.std.proofs.Common.{inl, inr, ℕ, List}
use Rattle.std.specs.List.{AllByRecursion}
use Rattle.disk.specs.Areas.{AreaState, Areas, Image, MayLeave, LeavesImage}
use Rattle.history.specs.Histories.{History}
use Rattle.law_image.specs.Values.{Value}
use Rattle.law_image.specs.Reading.{Reading}
use Rattle.law_image.specs.StandsFor.{StandsFor}
use Rattle.status.specs.Log.{IsLog}
use Rattle.law_layout.specs.Extents.{Extent, HoldsExtent, KeepsExtent}
use Rattle.law_layout.specs.Runs.{StoredRun, HoldsRun, KeepsRun}
use Rattle.law_layout.specs.Layouts.{Layout, live, IsLayoutOf, HoldsLayout, ImageStandsFor}
use Rattle.law_layout.specs.Keeping.{StatusRests, KeepsExtents, KeepsRuns, KeepsParts, RestsAs}
use Rattle.law_layout.specs.SlotTurns.{MayAt, MayWithin}
use Rattle.law_layout.proofs.Lists.{weaker}
use Rattle.status.specs.declared.header.Header.{Header}
use Rattle.status.specs.SlotCalls.{SlotStage, Begun, BodyWritten, BodySynced, GateWritten, Opened}

-- what is kept is in what a stop leaves
extents_left : (es : List Extent) (a : AreaState) (content : List ℕ) → KeepsExtents es a → MayLeave a content → AllByRecursion (HoldsExtent content) es
extents_left es a content keeps left = weaker (KeepsExtent a) (HoldsExtent content) es (λ e kept. kept.left content left) keeps

runs_left : (runs : List StoredRun) (a : AreaState) (content : List ℕ) → KeepsRuns runs a → MayLeave a content → AllByRecursion (HoldsRun content) runs
runs_left runs a content keeps left = weaker (KeepsRun a) (HoldsRun content) runs (λ s kept. kept.left content left) keeps

-- a resting status area leaves its log alone
pub rests_leave : (header : Header) (a : AreaState) (content : List ℕ) (slots : _) → StatusRests header slots a → MayLeave a content
    → IsLog header content slots
rests_leave header a content slots rests left = rw (left.settled rests.settled.loose) rests.log

-- what is kept of a layout's parts, with its log, is the layout
pub parts_hold : (header : Header) (layout : Layout) (areas : Areas) (image : Image) → KeepsParts layout areas → IsLog header image.status layout.slots
    → MayLeave areas.heap image.heap → MayLeave areas.archive image.archive → HoldsLayout header image layout
parts_hold header layout areas image keeps log left_heap left_archive = record {
  log = log;
  extents = extents_left (live layout) areas.heap image.heap keeps.extents left_heap;
  runs = runs_left layout.runs areas.archive image.archive keeps.runs left_archive;
}

pub rests_hold : (header : Header) (layout : Layout) (areas : Areas) (image : Image) → RestsAs header layout areas → LeavesImage areas image
    → HoldsLayout header image layout
rests_hold header layout areas image rests left =
    parts_hold header layout areas image rests.parts (rests_leave header areas.status image.status layout.slots rests.status left.status) left.heap left.archive

-- an image that holds a layout stands for what its reading stands for
pub held_stands : (header : Header) (layout : Layout) (reading : Reading) (h : History Value) (floors : ℕ → ℕ) (image : Image)
    → IsLayoutOf header layout reading → StandsFor reading h floors → HoldsLayout header image layout → ImageStandsFor header image h floors
held_stands header layout reading h floors image laid stands held = record {
  reading = reading;
  reads_as = record { layout = layout; is_layout = laid; held = held };
  stands = stands;
}

-- a claim for another
pub may_at : (stage : SlotStage) (A B C D : Type 0) → (A → C) → (B → D) → MayAt stage A B → MayAt stage C D
may_at Begun A B C D f g may = f may
may_at BodyWritten A B C D f g may = f may
may_at BodySynced A B C D f g may = f may
may_at GateWritten A B C D f g (inl a) = inl (f a)
may_at GateWritten A B C D f g (inr b) = inr (g b)
may_at Opened A B C D f g may = g may

pub may_within : (stage : SlotStage) (A B C D : Type 0) → (A → C) → (B → D) → MayWithin stage A B → MayWithin stage C D
may_within Begun A B C D f g may = f may
may_within BodyWritten A B C D f g may = f may
may_within BodySynced A B C D f g (inl a) = inl (f a)
may_within BodySynced A B C D f g (inr b) = inr (g b)
may_within GateWritten A B C D f g (inl a) = inl (f a)
may_within GateWritten A B C D f g (inr b) = inr (g b)
may_within Opened A B C D f g may = g may
