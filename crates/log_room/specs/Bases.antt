-- What a base takes of the heap.
use Rattle.std.specs.Prelude.{ℕ, ◌+◌, ◌*◌, ◌/◌, nat_le, Bool, length}
use Rattle.log_extents.specs.Chains.{count_of}
use Rattle.log_room.specs.declared.base_share.BaseParts.{BaseParts}
use Rattle.log_room.specs.Rooms.{RoomValue}

-- the bytes of a base with two rolls and two archives more than a log names, and with its floors
abbrev pub base_len : BaseParts → ℕ
base_len parts = 21 + 17 * (parts.rolls + 2) + 35 * (parts.archives + 2) + 11 * parts.floors

-- how many extents it takes, and how many with one floor more
abbrev pub base_extents : BaseParts → ℕ
base_extents parts = count_of (base_len parts)

abbrev pub floored_extents : BaseParts → ℕ
floored_extents parts = count_of (base_len parts + 11)

-- it keeps its share of the heap
abbrev pub has_base_room : RoomValue → BaseParts → Bool
has_base_room v parts = nat_le (base_extents parts) (length v.used / 16)

-- with one floor more it keeps half of its share: no more than that is for floors
abbrev pub has_floor_room : RoomValue → BaseParts → Bool
has_floor_room v parts = nat_le (2 * floored_extents parts) (length v.used / 16)
