-- The device calls that make a piece of 256 slots more: its zeros, then its gate.
use Rattle.std.specs.Prelude.{ℕ, ◌+◌, ◌*◌, ◌||◌, ◌==◌, Bool, true, false, nat_lt, if◌then◌else◌, [], ◌∷◌, replicate, Option, None, Some, Result, MatchBool}
use Rattle.disk.specs.Areas.{Areas}
use Rattle.disk.specs.Calls.{Writes, Syncs}
use Rattle.disk.specs.declared.area.Area.TheVariants.{Status}
use Rattle.disk.specs.declared.area.DeviceFault.{DeviceFault}
use Rattle.status.specs.declared.header.Header.{Header}
use Rattle.status.specs.declared.growth.GrowthStage.{GrowthStage}
use Rattle.status.specs.declared.growth.GrowthStage.TheVariants.{Zeroing, ZerosSynced, GateWritten}
use Rattle.status.specs.declared.growth.Grew.{Grew}
use Rattle.status.specs.declared.growth.Grew.TheVariants as grew
use Rattle.status.specs.Log.{slot_start}
use Rattle.status.specs.TurnState.{LogState}
use Rattle.status.specs.GrowthState.{GrowthState}

-- the header once one piece more is open
abbrev pub grown : Header → Header
grown h = record h { pieces = h.pieces + 1 }

-- The piece that comes next, of which nothing is made. Profile 1 has no pieces, and no store more than 65,536 slots.
abbrev pub next_piece : LogState → Option GrowthState
next_piece log =
    if (log.profile == 1) || nat_lt 65536 (log.slots + 256) then None
    else Some (record { slots = log.slots; piece = log.pieces; stage = Zeroing 0 })

-- the next 8,192 zeros of a piece behind so many slots
abbrev pub WritesZeros : (slots parts : ℕ) → Result (Unit {0}) DeviceFault → Areas → Areas → Type 0
WritesZeros slots parts result old new = Writes Status (slot_start slots + 8192 * parts) (replicate 8192 0) result old new

-- The device call of a stage, with its answer. The zeros stand behind the slots that there are, 8,192 bytes a call; the gate is the header's byte of the piece.
abbrev pub IsGrowthCall : GrowthStage → (slots piece : ℕ) → Result (Unit {0}) DeviceFault → Areas → Areas → Type 0
IsGrowthCall (Zeroing parts) slots piece result old new = MatchBool (nat_lt parts 16) (WritesZeros slots parts result old new) (Syncs Status result old new)
IsGrowthCall ZerosSynced slots piece result old new = Writes Status (16 + piece) (0xC7 ∷ []) result old new
IsGrowthCall GateWritten slots piece result old new = Syncs Status result old new

-- and what it did
abbrev pub grew_at : GrowthStage → Grew
grew_at (Zeroing parts) = if nat_lt parts 16 then grew.WroteZeros else grew.ZerosSynced
grew_at ZerosSynced = grew.GateWritten
grew_at GateWritten = grew.Grown

-- the stage after it
abbrev pub growth_stage_after : GrowthStage → GrowthStage
growth_stage_after (Zeroing parts) = if nat_lt parts 16 then Zeroing (parts + 1) else ZerosSynced
growth_stage_after ZerosSynced = GateWritten
growth_stage_after GateWritten = GateWritten

-- the piece in the making once the call of its stage was made
abbrev pub growth_after : GrowthState → GrowthState
growth_after growth = record growth { stage = growth_stage_after growth.stage }

-- the piece may be open from the moment that the write of its gate begins
abbrev pub may_be_open : GrowthStage → Bool
may_be_open (Zeroing parts) = false
may_be_open ZerosSynced = false
may_be_open GateWritten = true

-- the log once the piece is open, and the log after a call
abbrev pub with_piece : GrowthState → LogState → LogState
with_piece growth log = record log { slots = growth.slots + 256; pieces = growth.piece + 1 }

-- the log after such a call: only the last one adds the piece
abbrev pub grown_by : Grew → GrowthState → LogState → LogState
grown_by grew.WroteZeros growth log = log
grown_by grew.ZerosSynced growth log = log
grown_by grew.GateWritten growth log = log
grown_by grew.Grown growth log = with_piece growth log
