-- Contents of a status area that differ only in what the growth of a piece writes.
use Rattle.std.specs.Prelude.{◌≡◌, ◌≢◌, ℕ, ◌+◌, ◌<◌, ◌≤◌, List, length, slice_index}
use Rattle.wire.specs.declared.slot.Slot.{Slot}
use Rattle.status.specs.declared.header.Header.{Header}
use Rattle.status.specs.Header.{total}
use Rattle.status.specs.Log.{slot_start, IsLog}
use Rattle.status.specs.Growth.{grown}

-- the place of the gate of the piece that comes next, and its value
abbrev pub next_gate : Header → ℕ
next_gate h = 16 + h.pieces

-- one piece more may come
pub record MayGrow (header : Header) : Type 0 where
  pub pieces : 1 < header.profile
  pub room : total header + 256 ≤ 65536

-- both have the header's slots, and are the same in front of their end but for the next piece's gate
pub record IsBeside (header : Header) (calm content : List ℕ) : Type 0 where
  pub room : slot_start (total header) ≤ length calm
  pub long : slot_start (total header) ≤ length content
  pub same : (k : ℕ) → k < slot_start (total header) → k ≢ next_gate header → slice_index content k ≡ slice_index calm k

-- so many zeros stand behind the header's slots
pub record HasZeros (header : Header) (many : ℕ) (content : List ℕ) : Type 0 where
  pub long : slot_start (total header) + many ≤ length content
  pub zeros : (k : ℕ) → slot_start (total header) ≤ k → k < slot_start (total header) + many → slice_index content k ≡ 0

-- those of a whole piece
abbrev pub piece_length : ℕ
piece_length = 131072

-- with its gate shut a piece counts for nothing
abbrev pub PieceShut : Type 0
PieceShut = (header : Header) (slots : List Slot) (calm content : List ℕ) → MayGrow header → IsLog header calm slots → IsBeside header calm content
    → slice_index content (next_gate header) ≢ 0xC7 → IsLog header content slots

-- with its gate open and zeros behind the slots that there were, the log is the same and has more room
abbrev pub PieceOpens : Type 0
PieceOpens = (header : Header) (slots : List Slot) (calm content : List ℕ) → MayGrow header → IsLog header calm slots → IsBeside header calm content
    → HasZeros header piece_length content → slice_index content (next_gate header) ≡ 0xC7 → IsLog (grown header) content slots
