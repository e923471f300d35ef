-- How the logic stores the areas of a disk.
use Rattle.std.specs.Prelude.{ℕ, List, refl}
use Rattle.std.specs.Coded.{Coded, code_by, coded×, coded_ℕ, coded_list}
use Rattle.disk.specs.Areas.{AreaState, Areas}

-- an area as a tuple: its bytes, its length at the last sync, and the ranges that were written since
abbrev AreaParts : Type 0
AreaParts = List ℕ × (ℕ × List (ℕ × ℕ))

-- an area taken apart
abbrev area_parts : AreaState → AreaParts
area_parts a = (a.bytes, (a.firm, a.loose))

-- an area put together again
abbrev area_from : AreaParts → AreaState
area_from p = record { bytes = p.0; firm = p.1.0; loose = p.1.1 }

-- how the logic stores one area
abbrev area_code : Coded AreaState
area_code = code_by AreaParts (coded× (coded_list coded_ℕ) (coded× coded_ℕ (coded_list (coded× coded_ℕ coded_ℕ)))) area_parts area_from (λ _. refl)

-- the areas of a disk as a tuple
abbrev Parts : Type 0
Parts = AreaState × (AreaState × AreaState)

-- the areas of a disk taken apart
abbrev parts : Areas → Parts
parts a = (a.status, (a.heap, a.archive))

-- the areas of a disk put together again
abbrev from : Parts → Areas
from p = record { status = p.0; heap = p.1.0; archive = p.1.1 }

-- how the logic stores all three areas
abbrev pub areas_code : Coded Areas
areas_code = code_by Parts (coded× area_code (coded× area_code area_code)) parts from (λ _. refl)
