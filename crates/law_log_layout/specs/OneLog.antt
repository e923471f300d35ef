-- The bytes of a heap are those of one log at most, and with those of the archive they tell one thing.
use Rattle.std.specs.Prelude.{ℕ, ◌≡◌, ◌<◌, ◌^◌, List}
use Rattle.law_image.specs.Reading.{Reading}
use Rattle.law_log_layout.specs.HeapLog.{HeapLog, IsLogOf, HoldsLog}

-- two logs have the same chains, end at the same extent, and have the same anchors
pub record IsSameInHeap (l m : HeapLog) : Type 0 where
  pub chains : l.chains ≡ m.chains
  pub next : l.next ≡ m.next
  pub anchors : l.anchors ≡ m.anchors

-- so are any two that one heap holds from one root on
abbrev pub OneLogInHeap : Type 0
OneLogInHeap = (most root : ℕ) (l m : HeapLog) (r s : Reading) (heap archive other : List ℕ) → most < 2 ^ 32
    → IsLogOf most root l r → IsLogOf most root m s → HoldsLog l heap archive → HoldsLog m heap other → IsSameInHeap l m

-- two readings say the same but for what the runs hold
pub record TellTheSame (r s : Reading) : Type 0 where
  pub slots : r.slots ≡ s.slots
  pub log : r.log ≡ s.log
  pub members : r.members ≡ s.members
  pub anchors : r.anchors ≡ s.anchors

-- so do any two that a heap and an archive hold
abbrev pub OneReading : Type 0
OneReading = (most root : ℕ) (l m : HeapLog) (r s : Reading) (heap archive : List ℕ) → most < 2 ^ 32
    → IsLogOf most root l r → IsLogOf most root m s → HoldsLog l heap archive → HoldsLog m heap archive → TellTheSame r s
