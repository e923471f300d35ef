-- What opening reads of the heap, and the first of its checks that fails.
use Rattle.std.specs.Prelude.{ℕ, ◌≡◌, ◌⊎◌, ◌+◌, ◌<◌, ◌≤◌, List, [], ◌∷◌, ◌++◌, length, map, take}
use Rattle.std.specs.List.{AllByRecursion}
use Rattle.disk.specs.Areas.{Image}
use Rattle.disk.specs.declared.area.Area.TheVariants.{Status, Heap, Archive}
use Rattle.recovery.specs.declared.fault.OpenFault.{OpenFault}
use Rattle.recovery.specs.declared.fault.OpenFault.TheVariants.{NotAStore, Damaged, Device, NoMemory}
use Rattle.log_roots.specs.declared.roots.Roots.{Roots}
use Rattle.log_roots.specs.Roots.{root_of, HasRoots}
use Rattle.law_log_layout.specs.HeapLog.{PlacedChain, PlacedAnchors, Span, run_span}
use Rattle.log_recovery.specs.Chains.{numbers_of, HoldsChains, FailsChain}
use Rattle.log_recovery.specs.Rules.{roll_part, mark_of, no_log, MayAllComeBehind, FailsRule}
use Rattle.log_recovery.specs.Anchored.{AreRightAnchors, anchor_names, FailsAnchors}
use Rattle.log_recovery.specs.Members.{values_of, AreAllStored, FailsMembers}
use Rattle.log_recovery.specs.Ends.{runs_left, rolls_named, EndsRight}

-- a status area begins with the header of these roots
pub record ReadsRoots (status : List ℕ) (roots : Roots) : Type 0 where
  pub long : 512 ≤ length status
  pub has : HasRoots (take 512 status) roots

-- ---- the checks of the heap, in their order

-- the chains are right, and keep the rules between them
pub record KeepsRules (most root : ℕ) (heap : List ℕ) (chains : List PlacedChain) (next : ℕ) : Type 0 where
  pub chains_hold : HoldsChains most root heap chains next
  pub rules : MayAllComeBehind (mark_of chains) no_log chains

-- so are the anchors
pub record HoldsAnchors (most root : ℕ) (heap : List ℕ) (chains : List PlacedChain) (next : ℕ) (a : PlacedAnchors) : Type 0 where
  pub before : KeepsRules most root heap chains next
  pub anchors : AreRightAnchors most (mark_of chains) heap (numbers_of chains) (anchor_names chains) a

-- so are the members
pub record HoldsMembers (most root : ℕ) (heap : List ℕ) (chains : List PlacedChain) (next : ℕ) (a : PlacedAnchors) : Type 0 where
  pub before : HoldsAnchors most root heap chains next a
  pub stored : AreAllStored (mark_of chains) (values_of a.records) chains

-- and the log ends right: this is what the heap holds
pub record HoldsHeap (most root : ℕ) (heap : List ℕ) (chains : List PlacedChain) (next : ℕ) (a : PlacedAnchors) : Type 0 where
  pub before : HoldsMembers most root heap chains next a
  pub ends : EndsRight most heap chains next a

-- the first check of the heap that fails, and the extent that it is told with
pub data FailsHeap (most root : ℕ) (heap : List ℕ) (place : ℕ) : Type 0 where
  AtChain : FailsChain most root heap place → FailsHeap most root heap place
  AtRule : (chains : List PlacedChain) (next : ℕ) → HoldsChains most root heap chains next → FailsRule (mark_of chains) chains place
      → FailsHeap most root heap place
  AtAnchors : (chains : List PlacedChain) (next : ℕ) → KeepsRules most root heap chains next
      → FailsAnchors most (mark_of chains) heap (numbers_of chains) (anchor_names chains) place → FailsHeap most root heap place
  AtMembers : (chains : List PlacedChain) (next : ℕ) (a : PlacedAnchors) → HoldsAnchors most root heap chains next a
      → FailsMembers (mark_of chains) (values_of a.records) chains place → FailsHeap most root heap place
  AtEnd : (chains : List PlacedChain) (next : ℕ) (a : PlacedAnchors) → HoldsMembers most root heap chains next a → ¬ EndsRight most heap chains next a
      → place ≡ root → FailsHeap most root heap place

-- ---- the archive

-- the parts that are to end within the archive: each run that stands, then each roll
abbrev pub archive_parts : List PlacedChain → List Span
archive_parts chains = map run_span (runs_left chains) ++ map roll_part (rolls_named chains)

-- a part ends within an archive of this length
abbrev pub EndsWithin : ℕ → Span → Type 0
EndsWithin archive_len s = s.start + s.len ≤ archive_len

-- the first part that does not starts here
abbrev pub FailsSpans : ℕ → List Span → ℕ → Type 0
FailsSpans archive_len [] place = ⊥
FailsSpans archive_len (s ∷ spans) place =
    ((place ≡ s.start) × (archive_len < s.start + s.len)) ⊎ (EndsWithin archive_len s × FailsSpans archive_len spans place)

-- The heap is read, and each run and each roll ends within the archive: the image opens.
pub record Opens (most root : ℕ) (heap : List ℕ) (archive_len : ℕ) (chains : List PlacedChain) (next : ℕ) (a : PlacedAnchors) : Type 0 where
  pub heap_is : HoldsHeap most root heap chains next a
  pub within : AllByRecursion (EndsWithin archive_len) (archive_parts chains)

-- the heap is read, and the first run or roll that does not end within the archive starts here
pub record FailsArchive (most root : ℕ) (heap : List ℕ) (archive_len place : ℕ) : Type 0 where
  pub chains : List PlacedChain
  pub next : ℕ
  pub anchors : PlacedAnchors
  pub heap_is : HoldsHeap most root heap chains next anchors
  pub fails : FailsSpans archive_len (archive_parts chains) place

-- ---- why it is not read

-- why the chains are not read
abbrev pub IsChainFault : ℕ → ℕ → List ℕ → OpenFault → Type 0
IsChainFault most root heap NotAStore = ⊥
IsChainFault most root heap (Damaged Status n) = ⊥
IsChainFault most root heap (Damaged Heap n) = FailsChain most root heap n
IsChainFault most root heap (Damaged Archive n) = ⊥
IsChainFault most root heap Device = Unit {0}
IsChainFault most root heap NoMemory = Unit {0}

-- why the heap is not read
abbrev pub IsHeapFault : ℕ → ℕ → List ℕ → OpenFault → Type 0
IsHeapFault most root heap NotAStore = ⊥
IsHeapFault most root heap (Damaged Status n) = ⊥
IsHeapFault most root heap (Damaged Heap n) = FailsHeap most root heap n
IsHeapFault most root heap (Damaged Archive n) = ⊥
IsHeapFault most root heap Device = Unit {0}
IsHeapFault most root heap NoMemory = Unit {0}

-- why the image is not opened
abbrev pub IsImageFault : Image → OpenFault → Type 0
IsImageFault image NotAStore = (roots : Roots) → ¬ ReadsRoots image.status roots
IsImageFault image (Damaged Status n) = ⊥
IsImageFault image (Damaged Heap n) = (roots : Roots) × ReadsRoots image.status roots × FailsHeap roots.extents (root_of roots) image.heap n
IsImageFault image (Damaged Archive n) =
    (roots : Roots) × ReadsRoots image.status roots × FailsArchive roots.extents (root_of roots) image.heap (length image.archive) n
IsImageFault image Device = Unit {0}
IsImageFault image NoMemory = Unit {0}

-- why no roots are read
abbrev pub IsRootsFault : List ℕ → OpenFault → Type 0
IsRootsFault status NotAStore = (roots : Roots) → ¬ ReadsRoots status roots
IsRootsFault status (Damaged area n) = ⊥
IsRootsFault status Device = Unit {0}
IsRootsFault status NoMemory = ⊥
