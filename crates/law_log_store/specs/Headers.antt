-- The parts of the status area's header that stay.
use Rattle.std.specs.Prelude.{ℕ, List, [], ◌∷◌, replicate}
use Rattle.status.specs.Header.{header_front}
use Rattle.log_writer.specs.Turns.{Part}

-- what the header of a heap of so many extents has besides its turn gate and its roots
abbrev pub header_parts : ℕ → List Part
header_parts extents =
    record { place = 0; bytes = header_front 4 extents } ∷ record { place = 17; bytes = 0 ∷ 0 ∷ 0 ∷ [] }
    ∷ record { place = 28; bytes = replicate 484 0 } ∷ []
