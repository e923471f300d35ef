-- The bytes of commits that wait, and of a group of them.
use Rattle.std.specs.Prelude.{ℕ, ◌+◌, List, [], ◌∷◌, length, map}
use Rattle.std.specs.List.{flat_map}
use Rattle.history.specs.declared.key.KeyWrite.{KeyWrite}
use Rattle.law_image.specs.Facts.{latest}
use Rattle.law_image.specs.Plans.{stored_record}
use Rattle.law_image.specs.Values.{Value}
use Rattle.chains.specs.KeyWrites.{KeyWrites, writes_of}
use Rattle.deltas.specs.declared.«record».Record.{Record}
use Rattle.deltas.specs.Records.{spelling, record_of}
use Rattle.log_entries.specs.declared.entry.Member.{Member}
use Rattle.log_entries.specs.Spelling.{member_bytes, commit_len}
use Rattle.log_extents.specs.Chains.{count_of}

-- the records that the heap keeps of these writes, over these versions
abbrev pub records_over : List KeyWrites → List (KeyWrite Value) → List Record
records_over versions writes = map record_of (map (stored_record (λ key. latest (writes_of versions key))) writes)

-- the commit as a member of a group
abbrev pub member_over : List KeyWrites → ℕ → ℕ → List (KeyWrite Value) → Member
member_over versions label time writes = record { label = label; time = time; records = records_over versions writes }

-- its bytes
abbrev pub content_over : List KeyWrites → ℕ → ℕ → List (KeyWrite Value) → List ℕ
content_over versions label time writes = member_bytes (member_over versions label time writes)

-- how many extents they take alone, whatever its label and time
abbrev pub extents_over : List KeyWrites → List (KeyWrite Value) → ℕ
extents_over versions writes = count_of (commit_len (map (λ (r : Record). length (spelling r)) (records_over versions writes)))

-- the contents joined
abbrev pub joined : List (List ℕ) → List ℕ
joined contents = flat_map (λ (content : List ℕ). content) contents

-- how many extents they take, each alone
abbrev pub extents_of : List (List ℕ) → ℕ
extents_of [] = 0
extents_of (content ∷ contents) = count_of (length content) + extents_of contents
