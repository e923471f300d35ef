-- What holds of chains and of stored writes.
use Rattle.std.specs.Prelude.{◌≡◌, ◌≢◌, ℕ, [], ◌∷◌, List, length, map, Option}
use Rattle.std.specs.List.{AllByRecursion}
use Rattle.law_image.specs.Values.{Value}
use Rattle.law_image.specs.Reading as readings
use Rattle.law_image.specs.Facts.{stored, written}
use Rattle.deltas.specs.declared.«record».Record.{Record}
use Rattle.deltas.specs.declared.chain.Kinds.{Kinds}
use Rattle.deltas.specs.declared.chain.ChainName.{ChainName}
use Rattle.deltas.specs.Records.{spelling, content_of}
use Rattle.deltas.specs.Packing.{bodies}
use Rattle.deltas.specs.declared.filled_extent.FilledExtent.{FilledExtent}
use Rattle.deltas.specs.Filling.{IsFilled, AreFilled}
use Rattle.deltas.specs.Chains.{AreRecordsOf, HoldsRecords, IsNumber, first_number, images_of}

-- images hold the records of at most one list
abbrev pub OnePacking : Type 0
OnePacking = (name other : ChainName) (kinds others : Kinds) (images : List (List ℕ)) (a b : List Record) → HoldsRecords name kinds images a
    → HoldsRecords other others images b → a ≡ b

-- records that are packed and sealed under any numbers are held
abbrev pub PackedIsHeld : Type 0
PackedIsHeld = (kinds : Kinds) (numbers : List ℕ) (records : List Record) → AllByRecursion IsNumber numbers
    → length numbers ≡ length (bodies (map spelling records)) → AreRecordsOf kinds records
    → HoldsRecords (record { first = first_number numbers; extents = length numbers; records = length records }) kinds
    (images_of numbers (bodies (map spelling records))) records

-- a record is stored as a write over at most one way: what it writes is that write
abbrev pub StoredIsWritten : Type 0
StoredIsWritten = (before write : Option Value) (content : readings.Content) → content_of content ≡ content_of (stored before write)
    → (content ≡ stored before (written before content)) × (written before content ≡ write)

-- the extent that is filled first is the first image of the records packed, and those of the records that are left are the others
abbrev pub FilledIsFirst : Type 0
FilledIsFirst = (number : ℕ) (numbers : List ℕ) (before after : List Record) (image : List ℕ) (filled : FilledExtent) → before ≢ []
    → IsFilled number (first_number numbers) before image filled after
    → images_of (number ∷ numbers) (bodies (map spelling before)) ≡ image ∷ images_of numbers (bodies (map spelling after))

-- extents filled one after the other, until no record is left, are the images of those records packed
abbrev pub FilledIsPacked : Type 0
FilledIsPacked = (numbers : List ℕ) (records : List Record) (images : List (List ℕ)) → AreFilled numbers records images
    → (length numbers ≡ length (bodies (map spelling records))) × (images ≡ images_of numbers (bodies (map spelling records)))
