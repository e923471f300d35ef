-- The anchors that the base names.
use Rattle.std.specs.Prelude.{ℕ, ◌≡◌, ◌≤◌, Bool, List, [], ◌∷◌, ◌++◌, length, map, flat_map}
use Rattle.std.specs.List.{AllByRecursion}
use Rattle.std.specs.List.Sorted.{IsStrictlySortedBy}
use Rattle.history.specs.declared.key.Key.{Key}
use Rattle.history.specs.Key.{key_cmp}
use Rattle.law_image.specs.Reading.{OldRecord}
use Rattle.law_image.specs.StandsFor.{IsAnchorUpto}
use Rattle.law_image.specs.Facts.{old_writes}
use Rattle.chains.specs.KeyWrites.{writes_of, latest}
use Rattle.deltas.specs.declared.«record».Record.{Record}
use Rattle.deltas.specs.declared.chain.Kinds.TheVariants.{OfAnchors}
use Rattle.deltas.specs.Records.{spelling, IsRecord}
use Rattle.deltas.specs.Chains.{IsPermitted, AreRecordsOf}
use Rattle.law_layout.specs.Records.{old_bytes}
use Rattle.log_extents.specs.Chains.{AreDistinct}
use Rattle.log_entries.specs.declared.entry.AnchorName.{AnchorName}
use Rattle.log_writer.specs.Turns.{extent_part}
use Rattle.law_log_layout.specs.Turns.{HoldsAll}
use Rattle.law_log_layout.specs.HeapLog.{PlacedChain, PlacedAnchors, anchor_extents, ArePlaced, AreNamed, anchors_in}
use Rattle.disk.specs.declared.area.Area.TheVariants.{Status, Heap, Archive}
use Rattle.recovery.specs.declared.fault.OpenFault.{OpenFault}
use Rattle.recovery.specs.declared.fault.OpenFault.TheVariants.{NotAStore, Damaged, Device, NoMemory}
use Rattle.log_space.specs.Uses.{all_used}
use Rattle.log_recovery.specs.Taking.{AreClaimable}
use Rattle.log_recovery.specs.declared.anchors.AnchorsRead.{AnchorsRead}

-- The chain of anchors is right: it is the one of this name, the heap holds it, none of its extents is taken or there twice, and its records are by rising key,
-- each of a time from 1 to the mark.
pub record AreRightAnchors (most mark : ℕ) (heap taken : List ℕ) (names : List AnchorName) (a : PlacedAnchors) : Type 0 where
  pub named : AreNamed names a
  pub placed : ArePlaced most a
  pub apart : AreDistinct (taken ++ a.numbers)
  pub held : HoldsAll (map extent_part (anchor_extents a)) heap
  pub rising : IsStrictlySortedBy key_cmp (map (λ (old : OldRecord). old.key) a.records)
  pub times : AllByRecursion (IsAnchorUpto mark) a.records

-- the names of anchors in a log: that of its base
abbrev pub anchor_names : List PlacedChain → List AnchorName
anchor_names chains = flat_map (λ (c : PlacedChain). anchors_in c.entry) chains

-- no chain of anchors of this name is right, and its first extent is this one
pub record FailsAnchors (most mark : ℕ) (heap taken : List ℕ) (names : List AnchorName) (place : ℕ) : Type 0 where
  pub name : AnchorName
  pub names_are : names ≡ name ∷ []
  pub none : (a : PlacedAnchors) → ¬ AreRightAnchors most mark heap taken names a
  pub place_is : place ≡ name.first

-- ---- what is read of them

-- a record that anchors up to a mark may have
abbrev pub IsAnchorRecord : ℕ → Record → Type 0
IsAnchorRecord mark r = IsRecord r × IsPermitted (OfAnchors mark) r.content

-- these bytes are so many records of anchors, by rising keys
pub record AreAnchorsIn (mark count : ℕ) (bytes : List ℕ) (records : List Record) : Type 0 where
  pub are : AreRecordsOf (OfAnchors mark) records
  pub count_is : length records ≡ count
  pub bytes_are : bytes ≡ flat_map spelling records

abbrev pub HasNoAnchorsIn : ℕ → ℕ → List ℕ → Type 0
HasNoAnchorsIn mark count bytes = (records : List Record) → ¬ AreAnchorsIn mark count bytes records

-- the chain of anchors of these names is right; whether its extents are taken is not said
pub record AreAnchorsAt (most mark : ℕ) (heap : List ℕ) (names : List AnchorName) (a : PlacedAnchors) : Type 0 where
  pub named : AreNamed names a
  pub placed : ArePlaced most a
  pub distinct : AreDistinct a.numbers
  pub held : HoldsAll (map extent_part (anchor_extents a)) heap
  pub rising : IsStrictlySortedBy key_cmp (map (λ (old : OldRecord). old.key) a.records)
  pub times : AllByRecursion (IsAnchorUpto mark) a.records

-- so it is, its extents were free and are taken now, and its records are the writes of each key
pub record TakesAnchors (most mark : ℕ) (heap : List ℕ) (old new : List Bool) (names : List AnchorName) (read : AnchorsRead) : Type 0 where
  pub records : List OldRecord
  pub are : AreAnchorsAt most mark heap names (record { numbers = read.numbers.items; records = records })
  pub free : AreClaimable old read.numbers.items
  pub taken : new ≡ all_used old read.numbers.items
  pub len_is : read.len ≡ length (flat_map old_bytes records)
  pub writes : (key : Key) → writes_of read.versions key ≡ old_writes records key
  pub latest_is : latest read.versions ≤ mark

-- no such chain has free extents alone
abbrev pub HasNoAnchors : ℕ → ℕ → List ℕ → List Bool → List AnchorName → Type 0
HasNoAnchors most mark heap flags names = (a : PlacedAnchors) → AreAnchorsAt most mark heap names a → ¬ AreClaimable flags a.numbers

-- those that the first chain names: no other one is a base
abbrev pub first_names : List PlacedChain → List AnchorName
first_names [] = []
first_names (c ∷ chains) = anchors_in c.entry

-- the first of these names has this extent
abbrev pub IsFirstOf : ℕ → List AnchorName → Type 0
IsFirstOf place [] = ⊥
IsFirstOf place (name ∷ names) = place ≡ name.first

-- why no anchors of these names are read
abbrev pub IsAnchorsFault : ℕ → ℕ → List ℕ → List Bool → List AnchorName → OpenFault → Type 0
IsAnchorsFault most mark heap flags names NotAStore = ⊥
IsAnchorsFault most mark heap flags names (Damaged Status n) = ⊥
IsAnchorsFault most mark heap flags names (Damaged Heap n) = HasNoAnchors most mark heap flags names × IsFirstOf n names
IsAnchorsFault most mark heap flags names (Damaged Archive n) = ⊥
IsAnchorsFault most mark heap flags names Device = Unit {0}
IsAnchorsFault most mark heap flags names NoMemory = Unit {0}
