-- What to do about words that no store can answer.
use Rattle.std.specs.Prelude.{ℕ, ◌%◌, ◌==◌, ◌&&◌, ◌||◌, Bool, not, is_none, length, List, Option, Some, None, codes, if◌then◌else◌, nat_le, nat_lt}
use Rattle.std.specs.Borrow.{Bor}
use Rattle.std.specs.List.{list_all}
use Rattle.std.specs.Str.{bytes_eq}
use Rattle.command_line.specs.declared.action.Action.{Action}
use Rattle.command_line.specs.declared.action.Action.TheVariants as action
use Rattle.command_line.specs.declared.layout.Layout.{Layout}
use Rattle.command_line.specs.declared.question.RecordWrite.{RecordWrite}
use Rattle.shell.specs.Layouts.{is_size}

abbrev pub Text : Type 0
Text = List ℕ

-- ---- the advice

-- of a time, as `at`, `between` and `vacuum` take it, as `floor` does, and as a question does
abbrev pub script_time : Text
script_time = codes "a TIME is microseconds since 1970, or YYYY-MM-DDTHH:MM:SSZ"

abbrev pub moment : Text
moment = codes "a TIME is microseconds since 1970, YYYY-MM-DD, or YYYY-MM-DDTHH:MM:SS with Z or an offset as +01:00"

abbrev pub when : Text
when = codes "a TIME is `now`, microseconds since 1970, YYYY-MM-DD, or YYYY-MM-DDTHH:MM:SS with Z or an offset as +01:00"

-- of a field
abbrev pub field : Text
field = codes "a FIELD is in lower-case hexadecimal, two digits a byte, `-` if empty; with --text it is text"

-- of a size of another profile, and of one that no store has
abbrev pub profile : Text
profile = codes "--slots is of profile 3, and --extents of --profile 4"

abbrev pub size : Text
size = codes "--slots is 16 to 65536, and --extents a multiple of 16 from 64 to 1048576"

-- ---- when it is given

abbrev pub advice_if : Bool → Text → Option Text
advice_if is_so text = if is_so then Some text else None

-- the words say a size of another profile, or one that no store has
abbrev pub layout_advice : Option Layout → Option Text
layout_advice (Some layout) = advice_if (not (is_size layout)) size
layout_advice None = Some profile

-- a lower-case hexadecimal digit
abbrev pub is_digit : ℕ → Bool
is_digit b = (nat_le 48 b && nat_le b 57) || (nat_le 97 b && nat_le b 102)

abbrev pub are_digits : Text → Bool
are_digits bytes = list_all is_digit bytes

-- a word is a field in hexadecimal
abbrev pub is_field : Text → Bool
is_field word = bytes_eq word (codes "-") || (nat_lt 0 (length word) && (length word % 2 == 0) && are_digits word)

abbrev pub are_fields : List (Bor Text) → Bool
are_fields words = list_all (λ (word : Bor Text). is_field word.now) words

-- a word that is to be in hexadecimal is not
abbrev pub fields_advice : Bool → Option (Bor (List (Bor Text))) → Option Text
fields_advice is_text (Some words) = advice_if (not is_text && not (are_fields words.now)) field
fields_advice is_text None = None

abbrev pub write_advice : RecordWrite → Option Text
write_advice write = fields_advice write.is_text write.fields

-- what to do about what the words ask for, where no store can answer it
abbrev pub advice : Action → Option Text
advice (action.Format dir layout) = layout_advice layout
advice (action.At dir key time) = advice_if (is_none time) script_time
advice (action.Between dir key from to) = advice_if (is_none from || is_none to) script_time
advice (action.Ask dir question style) = advice_if (is_none question) when
advice (action.Write dir write) = write_advice write
advice (action.Vacuum dir time) = advice_if (is_none time) script_time
advice (action.Floor dir relation time) = advice_if (is_none time) moment
advice _ = None
