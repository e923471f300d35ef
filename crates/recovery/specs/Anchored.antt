-- What is read of the chain of the anchors.
use Rattle.std.specs.Prelude.{◌≡◌, ℕ, List, [], ◌∷◌, replicate, Some}
use Rattle.wire.specs.declared.slot.Anchors.{Anchors}
use Rattle.history.specs.declared.key.Key.{Key}
use Rattle.law_image.specs.Facts.{old_writes}
use Rattle.chains.specs.KeyWrites.{KeyWrites, writes_of}
use Rattle.deltas.specs.declared.«record».Record.{Record}
use Rattle.deltas.specs.declared.chain.ChainName.{ChainName}
use Rattle.deltas.specs.Records.{from_of, value_of}
use Rattle.extents.specs.declared.usage.Usage.TheVariants.{Free}
use Rattle.law_layout.specs.Opening.{HasAnchors}
use Rattle.recovery.specs.declared.recovered.HeapRead.{HeapRead}
use Rattle.recovery.specs.HeapReads.{numbers_in}
use Rattle.recovery.specs.Walk.{claimed}

-- the name of the anchors' chain, as its slot gives it
abbrev pub anchors_name : Anchors → ChainName
anchors_name anchors = record { first = anchors.first; extents = anchors.extents; records = anchors.records }

-- a key with the one write that an anchor stands for: its value, from its own time on
abbrev pub anchor_writes : Record → KeyWrites
anchor_writes r = record { key = r.key; writes = record { time = from_of r.content; write = Some (value_of r.content) } ∷ [] }

-- The chain of the anchors is right, and it alone is read: its extents are kept and all others are free, and its records are each key's writes.
pub record HoldsAnchors (heap : List ℕ) (anchors : Anchors) (read : HeapRead) : Type 0 where
  pub has : HasAnchors heap anchors.upto anchors
  pub extents : read.extents ≡ claimed (replicate 65536 Free) (numbers_in has.chain)
  pub live : read.live.items ≡ []
  pub writes : (key : Key) → writes_of read.chains key ≡ old_writes has.olds key
  pub last_is : read.last ≡ anchors.upto

-- there is no such chain
abbrev pub HasNoAnchors : List ℕ → Anchors → Type 0
HasNoAnchors heap anchors = ¬ HasAnchors heap anchors.upto anchors
