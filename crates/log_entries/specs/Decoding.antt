-- What is found where the bytes of a chain are read.
use Rattle.std.specs.Prelude.{◌≡◌, ℕ, List, Option, MatchOption}
use Rattle.log_entries.specs.declared.entry.Entry.{Entry}
use Rattle.log_entries.specs.Spelling.{entry_bytes}
use Rattle.log_entries.specs.Ranges.{IsEntry}
use Rattle.log_entries.specs.Items.{HasNoneAlone}

-- an entry that has just these bytes, or none where none has
abbrev pub IsDecoded : ℕ → List ℕ → Option Entry → Type 0
IsDecoded most bytes o = MatchOption o (HasNoneAlone entry_bytes (IsEntry most) bytes) (λ e. IsEntry most e × (bytes ≡ entry_bytes e))
