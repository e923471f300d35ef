-- What holds of opening an image.
use Rattle.std.specs.Prelude.{◌≡◌, ◌⊎◌, ◌↔◌, ℕ, ◌<◌, ◌≤◌, IsTrue, map, filter}
use Rattle.disk.specs.Areas.{Image}
use Rattle.history.specs.declared.key.Key.{Key}
use Rattle.history.specs.Versions.{versions, ends_after}
use Rattle.history.specs.Histories.{History, last, versions_of, writes_of}
use Rattle.law_image.specs.Values.{Value}
use Rattle.law_image.specs.Reading.{Reading}
use Rattle.law_image.specs.StandsFor.{StandsFor, head_of}
use Rattle.chains.specs.Writes.{last_time}
use Rattle.chains.specs.KeyWrites as chains
use Rattle.extents.specs.Usages.{IsFree, IsKept}
use Rattle.floors.specs.Floors.{floor_at}
use Rattle.status.specs.declared.header.Header.{Header}
use Rattle.status.specs.Rules as rules
use Rattle.status.specs.Rules.{is_built}
use Rattle.law_layout.specs.Layouts.{Layout, IsLayoutOf, HoldsLayout}
use Rattle.law_layout.specs.Opening.{AreBuilt}
use Rattle.recovery.specs.declared.recovered.Recovered.{Recovered}
use Rattle.recovery.specs.declared.fault.OpenFault.{OpenFault}
use Rattle.recovery.specs.Chains.{live_named}
use Rattle.recovery.specs.Faults.{IsReadFault, IsImageFault}
use Rattle.recovery.specs.ReadsImage.{IsOpening, IsReadFrom}

-- where an image opens, no fault is told but that the device or memory gave out
abbrev pub OpensOrFails : Type 0
OpensOrFails =
    (header : Header) (image : Image) (layout : Layout) (reading : Reading) (fault : OpenFault) → IsOpening header image layout reading
    → IsImageFault image fault → IsReadFault fault

-- and where checks fail, it is one fault that is told
abbrev pub FailsOnce : Type 0
FailsOnce = (image : Image) (a b : OpenFault) → IsImageFault image a → IsImageFault image b → IsReadFault a ⊎ (IsReadFault b ⊎ (a ≡ b))

-- two openings say the same
pub record SaySame (r s : Recovered) : Type 0 where
  pub headers : r.header ≡ s.header
  pub lengths : r.used ≡ s.used
  pub names : map rules.head_of r.commits.items ≡ map rules.head_of s.commits.items
  pub floors : r.floors ≡ s.floors
  pub archives : r.archived ≡ s.archived
  pub reclaims : r.reclaimed ≡ s.reclaimed
  pub runs_are : r.runs.items ≡ s.runs.items
  pub kept : (number : ℕ) → 1 ≤ number → number ≤ 65536 → (IsKept r.extents number ↔ IsKept s.extents number)
  pub free : (number : ℕ) → 1 ≤ number → number ≤ 65536 → (IsFree r.extents number ↔ IsFree s.extents number)
  pub live_are : map live_named r.live.items ≡ map live_named s.live.items
  pub writes : (key : Key) → chains.writes_of r.chains key ≡ chains.writes_of s.chains key
  pub lasts : r.last ≡ s.last

-- two openings of one image say the same
abbrev pub OpensOnce : Type 0
OpensOnce = (image : Image) (r s : Recovered) → IsReadFrom image r → IsReadFrom image s → SaySame r s

-- What was read is a history with its floors: of each key its versions that end after the reclaim mark and the floor, and when it was last written, if after
-- that mark.
pub record IsHistoryRead (h : History Value) (floors : ℕ → ℕ) (r : Recovered) : Type 0 where
  pub commits : map rules.head_of r.commits.items ≡ map head_of h
  pub floors_are : (relation : ℕ) → floor_at r.floors relation ≡ floors relation
  pub marks : r.reclaimed ≤ r.archived
  pub last_is : r.last ≡ last h
  pub versions_are : (key : Key) → filter (ends_after (floors key.relation)) (versions (chains.writes_of r.chains key))
      ≡ filter (ends_after (floors key.relation)) (filter (ends_after r.reclaimed) (versions_of h key))
  pub last_writes : (key : Key) → r.reclaimed < last_time (writes_of h key) → last_time (chains.writes_of r.chains key) ≡ last_time (writes_of h key)
  pub earlier_writes : (key : Key) → last_time (writes_of h key) ≤ r.reclaimed → last_time (chains.writes_of r.chains key) ≤ r.reclaimed

-- An image that stands for a history opens, and what is read of it is that history.
abbrev pub StandsOpens : Type 0
StandsOpens = (header : Header) (image : Image) (layout : Layout) (reading : Reading) (h : History Value) (floors : ℕ → ℕ)
    → IsLayoutOf header layout reading → HoldsLayout header image layout → StandsFor reading h floors → IsTrue (is_built header.profile 1)
    → AreBuilt header layout.slots
    → ((r : Recovered) → IsReadFrom image r → IsHistoryRead h floors r) × ((fault : OpenFault) → IsImageFault image fault → IsReadFault fault)
