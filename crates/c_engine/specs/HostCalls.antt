-- The device calls that a host makes.
use Rattle.std.specs.Prelude.{◌≡◌, ℕ, List, length, take, nat_le, Option, None, Some, MatchBool}
use Rattle.disk.specs.Areas.{Areas, area_of, with_area, written, synced}
use Rattle.disk.specs.declared.area.Area.{Area}
use Rattle.c_engine.specs.Areas.{area_number}
use Rattle.c_engine.specs.LastWrites.{last_write}
use Rattle.c_engine.specs.declared.code.Call.{Call}
use Rattle.c_engine.specs.declared.code.Code.{Code}
use Rattle.c_engine.specs.declared.code.Code.TheVariants as code
use Rattle.c_engine.specs.declared.device_call.DeviceCall.{DeviceCall}
use Rattle.c_engine.specs.declared.device_call.DeviceCall.TheVariants.{Write, Sync}

-- bytes are written to a place of an area, or an area is synced
pub data HostCall : Type 0 where
  Writes : Area → ℕ → List ℕ → HostCall
  Syncs : Area → HostCall

-- the areas once the call is made
abbrev pub made : HostCall → Areas → Areas
made (Writes area at bytes) areas = with_area area (written at bytes (area_of areas area)) areas
made (Syncs area) areas = with_area area (synced (area_of areas area)) areas

-- the last write of an area as a call
abbrev pub write_in : Area → Option (ℕ × List ℕ) → Option HostCall
write_in area None = None
write_in area (Some write) = Some (Writes area write.0 write.1)

-- the call that was made last of this kind, if these are the areas after it
abbrev pub call_in : DeviceCall → Areas → Option HostCall
call_in (Write area) areas = write_in area (last_write (area_of areas area))
call_in (Sync area) areas = Some (Syncs area)

-- a call as the host is told it: of a write its place, its length and its bytes, which stand in front where there is room for them
abbrev pub IsTold : HostCall → Code → Call → List ℕ → Type 0
IsTold (Writes area at bytes) said told out = (told ≡ record { kind = 1; area = area_number area; at = at; len = length bytes })
    × MatchBool (nat_le (length bytes) (length out)) ((said ≡ code.Ok) × (take (length bytes) out ≡ bytes)) (said ≡ code.Small)
IsTold (Syncs area) said told out = (said ≡ code.Ok) × (told ≡ record { kind = 2; area = area_number area; at = 0; len = 0 })

-- no call is told
abbrev pub TellsNoCall : Code → Call → Type 0
TellsNoCall said told = (said ≡ code.None) × (told ≡ record { kind = 0; area = 0; at = 0; len = 0 })

-- the call is told, or that there is none
abbrev pub Tells : Option HostCall → Code → Call → List ℕ → Type 0
Tells None said told out = TellsNoCall said told
Tells (Some call) said told out = IsTold call said told out
