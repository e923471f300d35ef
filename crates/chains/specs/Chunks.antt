-- The writes of a chunk that may be there.
use Rattle.std.specs.Prelude.{List, [], Option, None, Some}

-- the writes of a chunk that may be there, none where it is not
abbrev pub held : {W : Type 0} → Option (List W) → List W
held None = []
held (Some p) = p
