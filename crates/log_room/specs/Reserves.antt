-- The extents of a base that a reclaim makes, and what stays of the log behind it.
use Rattle.std.specs.Prelude.{ℕ, ◌≡◌, ◌+◌, false, List, length, replicate}
use Rattle.log_space.specs.Uses.{all_used}
use Rattle.log_room.specs.Rooms.{RoomValue, AreLeastFree}

-- so many extents are taken for a base and its anchors, each the least free one
pub record Reserves (old : RoomValue) (count : ℕ) (numbers : List ℕ) (new : RoomValue) : Type 0 where
  pub many : length numbers ≡ count
  pub least : AreLeastFree old.used numbers
  pub new_is : new ≡ record old { used = all_used old.used numbers; reserved = count }

-- the anchors and the base stand, and nothing of the log is counted yet
abbrev pub based_on : RoomValue → List ℕ → List ℕ → RoomValue
based_on v anchors base = record v { used = all_used (all_used (replicate (length v.used) false) anchors) base; log = 0; reserved = 0 }

-- these extents of the log stay
abbrev pub with_kept : RoomValue → List ℕ → RoomValue
with_kept v numbers = record v { used = all_used v.used numbers; log = v.log + length numbers }
