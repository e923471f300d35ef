-- What opening has read of the heap, step by step.
use Rattle.std.specs.Prelude.{ℕ, ◌≡◌, ◌+◌, List, [], ◌∷◌, length, map, flat_map}
use Rattle.log_entries.specs.declared.entry.Archive.{Archive}
use Rattle.log_entries.specs.declared.entry.Entry.{Entry}
use Rattle.log_entries.specs.declared.entry.Entry.TheVariants.{Group, Archived, Floor}
use Rattle.log_entries.specs.declared.entry.Entry.TheVariants as entries
use Rattle.law_log_layout.specs.HeapLog.{PlacedChain, PlacedAnchors}
use Rattle.log_space.specs.Uses.{all_used}
use Rattle.log_sizes.specs.Counted.{AreSizesBehind}
use Rattle.log_recovery.specs.declared.opening.LogRead.{LogRead}
use Rattle.log_recovery.specs.declared.opening.LogHeap.{LogHeap}
use Rattle.log_recovery.specs.declared.opening.AnchoredLog.{AnchoredLog}
use Rattle.log_recovery.specs.Anchored.{TakesAnchors, first_names}
use Rattle.log_recovery.specs.Chains.{uses_of}
use Rattle.log_recovery.specs.Rules.{mark_of}
use Rattle.log_recovery.specs.Following.{IsEndOf}
use Rattle.log_recovery.specs.Members.{members_of_all, HasFacts}
use Rattle.log_recovery.specs.Live.{live_of}
use Rattle.log_recovery.specs.Ends.{counted_in}
use Rattle.log_recovery.specs.Opening.{KeepsRules, HoldsHeap}

-- the chains, which keep the rules between them, and their end; just their extents are in use
pub record IsLogRead (most root : ℕ) (heap : List ℕ) (read : LogRead) : Type 0 where
  pub keeps : KeepsRules most root heap read.chains.items read.next
  pub end_is : IsEndOf (mark_of read.chains.items) read.chains.items read.end
  pub space_is : read.space ≡ uses_of most read.chains.items

-- the same with the anchors that the chains name: these are right, and their extents are in use too
pub record IsAnchoredLog (most root : ℕ) (heap : List ℕ) (read : AnchoredLog) : Type 0 where
  pub keeps : KeepsRules most root heap read.log.chains.items read.log.next
  pub takes : TakesAnchors most (mark_of read.log.chains.items) heap (uses_of most read.log.chains.items) read.log.space
      (first_names read.log.chains.items) read.anchors

-- the archives that a chain names
abbrev pub archives_named : Entry → List Archive
archives_named (Group members) = []
archives_named (Archived archive) = archive ∷ []
archives_named (Floor floor) = []
archives_named (entries.Base base) = base.archives

-- and those that all of these do, in their order
abbrev pub all_archives : List PlacedChain → List Archive
all_archives chains = flat_map (λ (c : PlacedChain). archives_named c.entry) chains

-- The heap is read, and this is what it says.
pub record IsHeapRead (most root : ℕ) (heap : List ℕ) (read : LogHeap) : Type 0 where
  pub chains : List PlacedChain
  pub anchors : PlacedAnchors
  pub holds : HoldsHeap most root heap chains read.next anchors
  pub end_is : IsEndOf (mark_of chains) chains read.end
  pub space_is : read.space ≡ all_used (uses_of most chains) anchors.numbers
  pub anchors_are : read.anchors.items ≡ anchors.numbers
  -- the extents that count as the log's, with the one where it ends
  pub log_is : read.log ≡ length (counted_in chains) + 1
  pub live_are : read.live.items ≡ map live_of chains
  pub archives_are : read.archives.items ≡ all_archives chains
  pub facts : HasFacts (mark_of chains) anchors.records (members_of_all (mark_of chains) chains) read.members
  pub sizes : AreSizesBehind anchors.records (members_of_all (mark_of chains) chains) read.members.sizes
