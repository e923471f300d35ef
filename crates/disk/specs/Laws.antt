-- Laws of parts.
use Rattle.std.specs.Prelude.{ℕ, List, length}
use Rattle.disk.specs.Areas.{AreaState, IsSound}
use Rattle.disk.specs.Parts.{KeepsPart, AreApart, IsLoosened}

-- a write, in full or in part, keeps the parts that lie apart from it
abbrev pub WriteKeeps : Type 0
WriteKeeps =
    (at n from : ℕ) (part : List ℕ) (old new : AreaState) → IsSound old → KeepsPart from part old → AreApart from (length part) at n → IsLoosened at n old new
    → KeepsPart from part new
