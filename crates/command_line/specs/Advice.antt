-- What to do about words that are no command.
use Rattle.std.specs.Prelude.{[], ◌∷◌, ◌||◌, Bool, not, List, Option, Some, None, codes, if◌then◌else◌}
use Rattle.std.specs.Str.{bytes_eq}
use Rattle.clap.specs.Words.{Text}
use Rattle.clap.specs.declared.error.kind.ErrorKind.{ErrorKind}
use Rattle.clap.specs.declared.error.kind.ErrorKind.TheVariants as kind

-- by which numbers a store is asked
abbrev pub numbers : Text
numbers = codes "REL is a number from 0 to 65535, REC and LABEL one from 0 to 18446744073709551615"

-- each command takes such numbers but these
abbrev pub takes_numbers : Text → Bool
takes_numbers name = not (bytes_eq name (codes "format") || bytes_eq name (codes "stress"))

-- of a value that is not one of its argument; the first word is the program's, the second the command
abbrev pub value_advice : List Text → Option Text
value_advice (program ∷ name ∷ rest) = if takes_numbers name then Some numbers else None
value_advice _ = None

-- what to do about words that are refused by an error of this kind
abbrev pub words_advice : ErrorKind → List Text → Option Text
words_advice kind.ValueValidation words = value_advice words
words_advice _ words = None
