-- What the log names in the archive.
use Rattle.std.specs.Prelude.{ℕ, ◌+◌, List, []}
use Rattle.log_entries.specs.declared.entry.Archive.{Archive}
use Rattle.log_entries.specs.declared.entry.Roll.{Roll}

pub record NamedValue : Type 0 where
  -- its archives in their order, those of its base first, also where another took the place of their run; and its rolls
  pub archives : List Archive
  pub rolls : List Roll
  -- the archive mark
  pub upto : ℕ
  -- the greatest end of all runs and rolls that the log has named since the store was opened
  pub end : ℕ

-- nothing
abbrev pub none_named : NamedValue
none_named = record { archives = []; rolls = []; upto = 0; end = 0 }

-- the log has these archives, of which the last is new
abbrev pub with_archives : List Archive → Archive → NamedValue → NamedValue
with_archives archives archive v = record v { archives = archives; upto = archive.upto; end = archive.start + archive.len }
