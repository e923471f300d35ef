-- What holds of the bytes of chains.
use Rattle.std.specs.Prelude.{◌≡◌, ℕ, length, map}
use Rattle.deltas.specs.Records.{spelling}
use Rattle.log_entries.specs.declared.entry.Member.{Member}
use Rattle.log_entries.specs.declared.entry.Entry.{Entry}
use Rattle.log_entries.specs.Spelling.{member_bytes, entry_bytes, commit_len}
use Rattle.log_entries.specs.Ranges.{IsEntry}

-- bytes are those of at most one entry
abbrev pub OneEntry : Type 0
OneEntry = (most : ℕ) (a b : Entry) → IsEntry most a → IsEntry most b → entry_bytes a ≡ entry_bytes b → a ≡ b

-- a commit's bytes are as many as its records' lengths say
abbrev pub CommitLen : Type 0
CommitLen = (m : Member) → length (member_bytes m) ≡ commit_len (map (λ r. length (spelling r)) m.records)
