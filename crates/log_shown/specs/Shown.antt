-- What is shown of a log: what its chains say, up to the first check of opening that fails. What the commits write is not shown.
use Rattle.std.specs.Prelude.{ℕ, ◌≡◌, ◌==◌, ◌+◌, if◌then◌else◌, Bool, true, false, List, [], ◌∷◌, ◌++◌, length, map, flat_map, take}
use Rattle.recovery.specs.declared.fault.OpenFault.{OpenFault}
use Rattle.recovery.specs.declared.fault.OpenFault.TheVariants.{NotAStore, Damaged, Device, NoMemory}
use Rattle.log_roots.specs.declared.roots.Roots.{Roots}
use Rattle.log_roots.specs.Roots.{root_of}
use Rattle.log_extents.specs.Chains.{first_or}
use Rattle.log_entries.specs.declared.entry.Member.{Member}
use Rattle.log_entries.specs.declared.entry.Base.{Base}
use Rattle.log_entries.specs.declared.entry.Entry.{Entry}
use Rattle.log_entries.specs.declared.entry.Entry.TheVariants as entries
use Rattle.law_log_layout.specs.HeapLog.{PlacedChain, PlacedAnchors}
use Rattle.log_recovery.specs.Chains.{numbers_of, HoldsChains, FailsChain}
use Rattle.log_recovery.specs.Ends.{counted_in}
use Rattle.log_recovery.specs.Opening.{ReadsRoots, HoldsHeap, FailsHeap, AtChain, AtRule, AtAnchors, AtMembers, AtEnd}
use Rattle.log_shown.specs.declared.items.LogItem.{LogItem}
use Rattle.log_shown.specs.declared.items.LogItem.TheVariants as says
use Rattle.log_shown.specs.declared.reading.LogExtents.{LogExtents}
use Rattle.log_shown.specs.declared.reading.ShownEnd.{ShownEnd}
use Rattle.log_shown.specs.declared.reading.ShownEnd.TheVariants as ends
use Rattle.log_shown.specs.declared.shown.LogShown.{LogShown}

-- ---- what chains say

abbrev pub member_item : Member → LogItem
member_item m = says.Commit m.label m.time (length m.records)

-- behind the base: its rolls, its runs and its floors
abbrev pub base_parts : Base → List LogItem
base_parts b = map says.BaseRoll b.rolls ++ (map says.BaseRun b.archives ++ map says.BaseFloor b.floors)

-- a chain with this first extent and so many
abbrev pub entry_items : (head extents : ℕ) → Entry → List LogItem
entry_items head extents (entries.Group members) = says.Group head extents ∷ map member_item members
entry_items head extents (entries.Archived run) = says.Run head run ∷ []
entry_items head extents (entries.Floor floor) = says.Floor head floor ∷ []
entry_items head extents (entries.Base base) = says.Base head base.upto base.anchors ∷ base_parts base

abbrev pub chain_items : PlacedChain → List LogItem
chain_items c = entry_items (first_or 0 c.numbers) (length c.numbers) c.entry

abbrev pub items_of : List PlacedChain → List LogItem
items_of chains = flat_map chain_items chains

-- ---- up to a chain

-- a chain that begins at this extent is said here
abbrev pub begins_at : ℕ → LogItem → Bool
begins_at place (says.Base head upto anchors) = head == place
begins_at place (says.BaseRoll roll) = false
begins_at place (says.BaseRun run) = false
begins_at place (says.BaseFloor floor) = false
begins_at place (says.Group head extents) = head == place
begins_at place (says.Commit label time records) = false
begins_at place (says.Run head run) = head == place
begins_at place (says.Floor head floor) = head == place

-- what is said in front of the chain that begins at this extent
abbrev pub items_before : ℕ → List LogItem → List LogItem
items_before place [] = []
items_before place (item ∷ items) = if begins_at place item then [] else item ∷ items_before place items

-- ---- what is shown

-- The chains in front of the one that is not right, or that breaks a rule, or a record of which is not stored as it is to be; of anchors that are not right the
-- base, which names them; and all chains where the end is not right.
abbrev pub shown_at : (most root : ℕ) (heap : List ℕ) (place : ℕ) → FailsHeap most root heap place → List LogItem
shown_at most root heap place (AtChain fails) = items_of fails.front
shown_at most root heap place (AtRule chains next holds fails) = items_before place (items_of chains)
shown_at most root heap place (AtAnchors chains next keeps fails) = items_of (take 1 chains)
shown_at most root heap place (AtMembers chains next a holds fails) = items_before place (items_of chains)
shown_at most root heap place (AtEnd chains next a holds none same) = items_of chains

-- The heap is read: all chains, the extent where the log goes on, how many extents the live chains have, and how many count as the log's, that one with them.
pub record IsWholeShown (most root : ℕ) (heap : List ℕ) (items : List LogItem) (extents : LogExtents) : Type 0 where
  pub chains : List PlacedChain
  pub anchors : PlacedAnchors
  pub holds : HoldsHeap most root heap chains extents.next anchors
  pub items_are : items ≡ items_of chains
  pub used_is : extents.used ≡ length (numbers_of chains) + length anchors.numbers
  pub log_is : extents.log ≡ length (counted_in chains) + 1

-- what is shown of a heap: all, or what stands in front of the first check that fails, which is told with this extent
abbrev pub IsHeapShown : (most root : ℕ) (heap : List ℕ) → List LogItem → ShownEnd → Type 0
IsHeapShown most root heap items (ends.Right extents) = IsWholeShown most root heap items extents
IsHeapShown most root heap items (ends.Damaged place) = (fails : FailsHeap most root heap place) × (items ≡ shown_at most root heap place fails)

-- A header stands in front of the status area, and so much is shown of the heap.
pub record IsLogShown (status heap : List ℕ) (shown : LogShown) : Type 0 where
  pub roots : ReadsRoots status shown.roots
  pub items : IsHeapShown shown.roots.extents (root_of shown.roots) heap shown.items.items shown.end

-- ---- the chains that are read for it

-- these are all chains, or those in front of one that is not right
abbrev pub IsFront : Bool → (most root : ℕ) (heap : List ℕ) → List PlacedChain → ℕ → Type 0
IsFront true most root heap chains next = HoldsChains most root heap chains next
IsFront false most root heap chains next = (fails : FailsChain most root heap next) × (fails.front ≡ chains)

-- of what was read already: memory gave out
abbrev pub IsNoMemory : OpenFault → Type 0
IsNoMemory NotAStore = ⊥
IsNoMemory (Damaged area n) = ⊥
IsNoMemory Device = ⊥
IsNoMemory NoMemory = Unit {0}

-- why nothing is shown: no header stands in front, or the device or memory gave out
abbrev pub IsShownFault : List ℕ → OpenFault → Type 0
IsShownFault status NotAStore = (roots : Roots) → ¬ ReadsRoots status roots
IsShownFault status (Damaged area n) = ⊥
IsShownFault status Device = Unit {0}
IsShownFault status NoMemory = Unit {0}
