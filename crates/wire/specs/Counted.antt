-- How many fields there are, and their bytes.
use Rattle.std.specs.Prelude.{ℕ, ◌+◌, List, ◌++◌}
use Rattle.wire.specs.Fields.{field_bytes}

-- so many fields, spelled by these bytes
pub record Counted : Type 0 where
  pub count : ℕ
  pub bytes : List ℕ

-- one field more at the end
abbrev pub with_field : Counted → List ℕ → Counted
with_field c field = record { count = c.count + 1; bytes = c.bytes ++ field_bytes field }
