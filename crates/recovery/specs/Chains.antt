-- What is read of a chain, and what one commit's chain adds to what was read of a heap.
use Rattle.std.specs.Prelude.{◌≡◌, ℕ, List, [], ◌∷◌, ◌++◌, map, Option}
use Rattle.std.specs.List.{AllByRecursion}
use Rattle.wire.specs.declared.slot.Member.{Member}
use Rattle.history.specs.declared.key.Key.{Key}
use Rattle.law_image.specs.Values.{Value}
use Rattle.law_image.specs.Facts.{IsStored, write_of}
use Rattle.chains.specs.KeyWrites.{writes_of}
use Rattle.chains.specs.Writes.{written}
use Rattle.deltas.specs.declared.«record».Record.{Record}
use Rattle.deltas.specs.declared.chain.ChainName.{ChainName}
use Rattle.deltas.specs.declared.chain.Kinds.{Kinds}
use Rattle.deltas.specs.declared.chain.Kinds.TheVariants.{OfCommit}
use Rattle.deltas.specs.Records.{heap_record}
use Rattle.deltas.specs.Chains.{HoldsRecords}
use Rattle.extents.specs.declared.usage.Usage.{Usage}
use Rattle.recovery.specs.declared.recovered.LiveChain.{LiveChain}
use Rattle.recovery.specs.declared.recovered.HeapRead.{HeapRead}
use Rattle.recovery.specs.declared.records.ReadRecords.{ReadRecords}
use Rattle.recovery.specs.Resolving.{before_of}
use Rattle.recovery.specs.Walk.{extent_at, numbers_at, claimed, AreClaimable}

-- the extents of a commit's chain, each named by the one before it
abbrev pub numbers_of : List ℕ → Member → List ℕ
numbers_of heap entry = numbers_at heap entry.first entry.extents

-- the name of a commit's chain, as its slot gives it
abbrev pub chain_name : Member → ChainName
chain_name entry = record { first = entry.first; extents = entry.extents; records = entry.records }

-- those of a chain of this name
abbrev pub numbers_named : List ℕ → ChainName → List ℕ
numbers_named heap name = numbers_at heap name.first name.extents

-- The chain of this name has these records: its extents lie in the heap and are free, and they are just these records, packed.
pub record HasRecords (heap : List ℕ) (heap_len : ℕ) (usages : List Usage) (name : ChainName) (kinds : Kinds) (records : List Record) : Type 0 where
  pub claimable : AreClaimable heap_len usages (numbers_named heap name)
  pub held : HoldsRecords name kinds (map (extent_at heap) (numbers_named heap name)) records

-- it has none
abbrev pub HasNoRecords : List ℕ → ℕ → List Usage → ChainName → Kinds → Type 0
HasNoRecords heap heap_len usages name kinds = (records : List Record) → ¬ HasRecords heap heap_len usages name kinds records

-- its records are read, and its extents are kept
pub record AreReadRecords (heap : List ℕ) (heap_len : ℕ) (old : List Usage) (name : ChainName) (kinds : Kinds) (new : List Usage) (read : ReadRecords) : Type 0
  where
    pub numbers : read.numbers.items ≡ numbers_named heap name
    pub has : HasRecords heap heap_len old name kinds read.records.items
    pub kept : new ≡ claimed old (numbers_named heap name)

-- each record is the one that its write is stored as, over the values before it
pub record IsRightChain (heap : List ℕ) (heap_len : ℕ) (usages : List Usage) (before : Key
    → Option Value) (entry : Member) (records : List Record) : Type 0 where
  pub has : HasRecords heap heap_len usages (chain_name entry) OfCommit records
  pub stored : AllByRecursion (IsStored before) (map heap_record records)

-- the time and the extents of a live chain
abbrev pub live_named : LiveChain → ℕ × List ℕ
live_named live = (live.time, live.extents.items)

-- the chain of a commit is right, and is read too
pub record AddsChain (heap : List ℕ) (heap_len : ℕ) (entry : Member) (old new : HeapRead) : Type 0 where
  pub records : List Record
  pub right : IsRightChain heap heap_len old.extents (before_of old.chains) entry records
  pub extents : new.extents ≡ claimed old.extents (numbers_of heap entry)
  pub live : map live_named new.live.items ≡ map live_named old.live.items ++ (entry.time, numbers_of heap entry) ∷ []
  pub chains : (key : Key) → writes_of new.chains key ≡ writes_of old.chains key
      ++ written entry.time (map (write_of (before_of old.chains)) (map heap_record records)) key
  pub last : new.last ≡ entry.time

-- there is no such chain
abbrev pub HasNoChain : List ℕ → ℕ → HeapRead → Member → Type 0
HasNoChain heap heap_len old entry = (records : List Record) → ¬ IsRightChain heap heap_len old.extents (before_of old.chains) entry records
