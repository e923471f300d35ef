-- Rows as a caller gets them: records of one size, and the bytes of their values one behind the other.
use Rattle.std.specs.Prelude.{◌≡◌, ◌↔◌, ◌<◌, ◌≤◌, ◌+◌, ◌&&◌, ℕ, Bool, List, [], ◌∷◌, ◌++◌, length, take, min, nat_le, flat_map, IsTrue, MatchBool}
use Rattle.history.specs.declared.time.Version.{Version}
use Rattle.wire.specs.Values.{value_bytes}
use Rattle.chains.specs.Writes.{Value}
use Rattle.disk.specs.Calls.{top}
use Rattle.c_engine.specs.declared.code.Code.{Code}
use Rattle.c_engine.specs.declared.code.Code.TheVariants as code
use Rattle.c_engine.specs.declared.code.Info.{Info}
use Rattle.c_engine.specs.declared.code.Row.{Row}
use Rattle.c_engine.specs.declared.rows.Copying.{Copying}

-- a row that is told: its record, from when on and up to when it had the value
pub record Shown : Type 0 where
  pub number : ℕ
  pub from : ℕ
  pub upto : ℕ
  pub value : Value

-- ---- what the answers of a store show

-- a record of one moment, which has no times
abbrev pub shown_record : ℕ × Value → Shown
shown_record found = record { number = found.0; from = 0; upto = 0; value = found.1 }

-- a row of this record
abbrev pub shown_version : ℕ → Version Value → Shown
shown_version number v = record { number = number; from = v.from; upto = v.to; value = v.value }

-- a row with its record
abbrev pub shown_entry : ℕ × Version Value → Shown
shown_entry found = shown_version found.0 found.1

-- ---- their bytes

-- the values, one behind the other
abbrev pub bytes_of : List Shown → List ℕ
bytes_of shown = flat_map (λ s. value_bytes s.value) shown

-- a row whose value stands at this place
abbrev pub row_at : ℕ → Shown → Row
row_at at s = record { «record» = s.number; from = s.from; upto = s.upto; at = at; len = length (value_bytes s.value) }

-- the rows, where the value of the first one stands at this place and each other value behind the one before it
abbrev pub rows_from : ℕ → List Shown → List Row
rows_from at [] = []
rows_from at (s ∷ ss) = row_at at s ∷ rows_from (at + length (value_bytes s.value)) ss

-- there is room for all rows and for all of their values
abbrev pub has_room : List Shown → List Row → List ℕ → Bool
has_room shown rows out = nat_le (length shown) (length rows) && nat_le (length (bytes_of shown)) (length out)

-- the rows stand in front, and so do their values
abbrev pub StandInFront : List Shown → ℕ → ℕ → List Row → List ℕ → Type 0
StandInFront shown count len rows out = (take count rows ≡ rows_from 0 shown) × (take len out ≡ bytes_of shown)

-- how many rows there are and how many bytes their values take is told, also where there is no room for them
pub record AreTold (shown : List Shown) (said : Code) (info : Info) (rows : List Row) (out : List ℕ) : Type 0 where
  pub count : info.a ≡ length shown
  pub bytes : info.b ≡ min (length (bytes_of shown)) top
  pub told : MatchBool (has_room shown rows out) ((said ≡ code.Ok) × StandInFront shown info.a info.b rows out) (said ≡ code.Small)

-- ---- while they are copied out

-- a row, before the place of its value is known
abbrev pub shown_as : Row → Value → Shown
shown_as row value = record { number = row.«record»; from = row.from; upto = row.upto; value = value }

-- there is room for one more row with this value
abbrev pub HasRoomAt : Copying → Value → List Row → List ℕ → Type 0
HasRoomAt c value rows out = IsTrue c.fits × (c.rows < length rows) × (c.bytes + length (value_bytes value) ≤ length out)

-- it stands behind those before it
pub record IsPlaced (c : Copying) (s : Shown) (rows : List Row) (out : List ℕ) (new_rows : List Row) (new_out : List ℕ) : Type 0 where
  pub row_is : take (c.rows + 1) new_rows ≡ take c.rows rows ++ row_at c.bytes s ∷ []
  pub value_is : take (c.bytes + length (value_bytes s.value)) new_out ≡ take c.bytes out ++ value_bytes s.value

-- so far these were copied out
pub record AreLaid (shown : List Shown) (c : Copying) (rows : List Row) (out : List ℕ) : Type 0 where
  pub count : c.rows ≡ length shown
  pub bytes : c.bytes ≡ min (length (bytes_of shown)) top
  pub room : IsTrue c.fits ↔ ((length shown ≤ length rows) × (length (bytes_of shown) ≤ length out))
  pub laid : IsTrue c.fits → StandInFront shown c.rows c.bytes rows out
