-- What a reader of the archive keeps.
use Rattle.std.specs.Prelude.{ℕ, List}
use Rattle.archive.specs.declared.reader.ArchiveReader.{ArchiveReader}
use Rattle.archive.specs.Parts.{parts_in}

-- the blocks, each with the place in the archive at which it begins
abbrev pub kept_of : ArchiveReader → List (ℕ × List ℕ)
kept_of reader = parts_in reader.blocks.cache.blocks
