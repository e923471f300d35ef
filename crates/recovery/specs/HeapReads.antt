-- What was read of a heap, beside the anchors and the members that its chains are.
use Rattle.std.specs.Prelude.{◌≡◌, ◌⊎◌, ℕ, List, ◌++◌, map, replicate, Option}
use Rattle.disk.specs.declared.area.Area.TheVariants.{Status, Heap, Archive}
use Rattle.wire.specs.declared.slot.Anchors.{Anchors}
use Rattle.wire.specs.declared.slot.Member.{Member as Entry}
use Rattle.history.specs.declared.key.Key.{Key}
use Rattle.history.specs.Histories.{History, HasRisingTimes, last_after, writes_of}
use Rattle.law_image.specs.Values.{Value}
use Rattle.law_image.specs.Reading.{OldRecord}
use Rattle.law_image.specs.Facts.{commits_from, latest, old_writes}
use Rattle.chains.specs.KeyWrites as chains
use Rattle.extents.specs.declared.usage.Usage.TheVariants.{Free}
use Rattle.law_layout.specs.Extents.{Extent}
use Rattle.law_layout.specs.Layouts.{StoredMember, extents_of}
use Rattle.law_layout.specs.Opening.{AreLive, FailsAt, HasAnchors}
use Rattle.recovery.specs.declared.recovered.HeapRead.{HeapRead}
use Rattle.recovery.specs.declared.fault.OpenFault.{OpenFault}
use Rattle.recovery.specs.declared.fault.OpenFault.TheVariants.{NotAStore, Damaged, Device, NoMemory}
use Rattle.recovery.specs.Walk.{claimed}
use Rattle.recovery.specs.Chains.{live_named}

-- the value of each key by these anchors
abbrev pub values_of : List OldRecord → Key → Option Value
values_of olds key = latest (old_writes olds key)

-- the numbers of these extents
abbrev pub numbers_in : List Extent → List ℕ
numbers_in extents = map (λ e. e.number) extents

-- the time and the extents of a member's chain
abbrev pub live_of : StoredMember → ℕ × List ℕ
live_of s = (s.entry.time, numbers_in s.extents)

-- the commits that these members stand for, over these anchors
abbrev pub commits_of : List OldRecord → List StoredMember → History Value
commits_of olds members = commits_from (values_of olds) (map (λ s. s.member) members)

-- The heap holds these members later than the mark, one after another, over anchors in this chain, and they are what was read: the extents of all chains are
-- kept and all others are free, and the anchors' and the members' writes are those of each key.
pub record HoldsMembers (heap : List ℕ) (mark : ℕ) (chain : List Extent) (olds : List OldRecord) (members : List StoredMember) (read : HeapRead) : Type 0 where
  pub are : AreLive heap chain (values_of olds) members
  pub extents : read.extents ≡ claimed (replicate 65536 Free) (numbers_in (chain ++ extents_of members))
  pub live : map live_named read.live.items ≡ map live_of members
  pub writes : (key : Key) → chains.writes_of read.chains key ≡ old_writes olds key ++ writes_of (commits_of olds members) key
  pub rising : HasRisingTimes mark (commits_of olds members)
  pub last_is : read.last ≡ last_after mark (commits_of olds members)

-- these are the anchors and the members that the slots name
pub record HoldsEntries (heap : List ℕ) (mark : ℕ) (anchors : Anchors) (entries : List Entry) (read : HeapRead) : Type 0 where
  pub anchored : HasAnchors heap mark anchors
  pub members : List StoredMember
  pub entries_are : map (λ s. s.entry) members ≡ entries
  pub holds : HoldsMembers heap mark anchored.chain anchored.olds members read

-- of the anchors' chain and those of these members the first that is not right begins there
abbrev pub FailsChains : List ℕ → ℕ → Anchors → List Entry → ℕ → Type 0
FailsChains heap mark anchors entries place =
    ((place ≡ anchors.first) × ¬ HasAnchors heap mark anchors)
    ⊎ ((has : HasAnchors heap mark anchors) × FailsAt heap has.chain (values_of has.olds) entries place)

-- why a heap is not read
abbrev pub IsMembersFault : List ℕ → ℕ → Anchors → List Entry → OpenFault → Type 0
IsMembersFault heap mark anchors entries NotAStore = ⊥
IsMembersFault heap mark anchors entries (Damaged Status place) = ⊥
IsMembersFault heap mark anchors entries (Damaged Heap place) = FailsChains heap mark anchors entries place
IsMembersFault heap mark anchors entries (Damaged Archive place) = ⊥
IsMembersFault heap mark anchors entries Device = Unit {0}
IsMembersFault heap mark anchors entries NoMemory = Unit {0}
