-- The lines of answers, in each form.
use Rattle.std.specs.Prelude.{◌≡◌, ℕ, List, [], ◌∷◌, ◌++◌, Option, Some, None, codes}
use Rattle.std.specs.List.{flat_map}
use Rattle.std.specs.Fmt.{decimal}
use Rattle.json.specs.Print.{print}
use Rattle.json.specs.Token.{Token, begin_object, end_object, key, null, number}
use Rattle.forms.specs.Csv.{csv_line, found_table, record_cells, record_names, row_cells, row_names}
use Rattle.forms.specs.Fields.{Text, hex_field, text_field, value_tokens}
use Rattle.forms.specs.Times.{IsShown, Moment, time_text, time_token}
use Rattle.forms.specs.declared.style.Form.{Form}
use Rattle.forms.specs.declared.style.Form.TheVariants as form
use Rattle.forms.specs.declared.style.Style.{Style}

-- a text of each, one after another
abbrev pub Each : {X : Type 0} → (X → Text → Type 0) → List X → Text → Type 0
Each P [] text = text ≡ []
Each P (x ∷ xs) text = (first : Text) × (more : Text) × P x first × Each P xs more × (text ≡ first ++ more)

-- what stands before each word but the first of a line; JSON and CSV have none
abbrev pub gap : Form → Text
gap form.Hex = codes " "
gap form.Text = codes "\t"
gap form.Json = []
gap form.Csv = []

-- a field in a line of words
abbrev pub field_word : Form → Text → Text
field_word form.Hex field = hex_field field
field_word form.Text field = text_field field
field_word form.Json field = []
field_word form.Csv field = []

-- each field after a gap
abbrev pub field_words : Form → List Text → Text
field_words form fields = flat_map (λ f. gap form ++ field_word form f) fields

-- a line of JSON
abbrev pub json_line : List Token → Text
json_line tokens = print tokens ++ codes "\n"

-- ---- a value, or none

-- a value's fields, or null
abbrev pub found_tokens : Option (List Text) → List Token
found_tokens None = begin_object ∷ key (codes "value") ∷ null ∷ end_object ∷ []
found_tokens (Some fields) = begin_object ∷ key (codes "value") ∷ (value_tokens fields ++ end_object ∷ [])

-- the same in words
abbrev pub found_words : Form → Option (List Text) → Text
found_words form None = codes "none\n"
found_words form (Some fields) = codes "value" ++ (field_words form fields ++ codes "\n")

-- the line that says a value or none, in CSV below the names of its columns
abbrev pub found_text : Form → Option (List Text) → Text
found_text form.Hex found = found_words form.Hex found
found_text form.Text found = found_words form.Text found
found_text form.Json found = json_line (found_tokens found)
found_text form.Csv found = found_table found

-- ---- a record and its value

-- both in JSON, and in words
abbrev pub record_tokens : ℕ → List Text → List Token
record_tokens number_of fields =
    begin_object ∷ key (codes "record") ∷ number (decimal number_of) ∷ key (codes "value") ∷ (value_tokens fields ++ end_object ∷ [])

abbrev pub record_words : Form → ℕ → List Text → Text
record_words form number_of fields = decimal number_of ++ (field_words form fields ++ codes "\n")

-- what stands before records: in CSV the names of its columns, of which so many are those of fields
abbrev pub record_head : Form → (width : ℕ) → Text
record_head form.Hex width = []
record_head form.Text width = []
record_head form.Json width = []
record_head form.Csv width = csv_line (record_names width)

-- the line that says a record and its value's fields
abbrev pub record_text : Form → (width number_of : ℕ) → List Text → Text
record_text form.Hex width number_of fields = record_words form.Hex number_of fields
record_text form.Text width number_of fields = record_words form.Text number_of fields
record_text form.Json width number_of fields = json_line (record_tokens number_of fields)
record_text form.Csv width number_of fields = csv_line (record_cells width number_of fields)

-- ---- a row

-- from when on and up to when a value stood
abbrev pub span_tokens : Moment → Moment → List Token
span_tokens from to = key (codes "from") ∷ time_token from ∷ key (codes "to") ∷ time_token to ∷ []

-- these, and the value's fields
abbrev pub row_tokens : Moment → Moment → List Text → List Token
row_tokens from to fields = begin_object ∷ (span_tokens from to ++ key (codes "value") ∷ (value_tokens fields ++ end_object ∷ []))

abbrev pub row_words : Form → Moment → Moment → List Text → Text
row_words form from to fields = time_text from ++ (gap form ++ (time_text to ++ (field_words form fields ++ codes "\n")))

-- what stands before rows
abbrev pub row_head : Form → (width : ℕ) → Text
row_head form.Hex width = []
row_head form.Text width = []
row_head form.Json width = []
row_head form.Csv width = csv_line (row_names width)

-- the line of a row whose times are shown so
abbrev pub row_line : Form → (width : ℕ) → Moment → Moment → List Text → Text
row_line form.Hex width from to fields = row_words form.Hex from to fields
row_line form.Text width from to fields = row_words form.Text from to fields
row_line form.Json width from to fields = json_line (row_tokens from to fields)
row_line form.Csv width from to fields = csv_line (row_cells width from to fields)

-- the line that says a row
abbrev pub IsRowText : Style → (width from to : ℕ) → List Text → Text → Type 0
IsRowText style width from to fields text =
    (a : Moment) × (b : Moment) × IsShown style.instants from a × IsShown style.instants to b × (text ≡ row_line style.form width a b fields)

-- ---- how many lines came before; JSON and CSV say nothing of it

abbrev pub count_text : Form → ℕ → Text
count_text form.Hex count = codes "rows " ++ (decimal count ++ codes "\n")
count_text form.Text count = codes "rows\t" ++ (decimal count ++ codes "\n")
count_text form.Json count = []
count_text form.Csv count = []

-- ---- the times of the commits with a label

-- before the first of them, and after the last; JSON and CSV have a line for each
abbrev pub times_front : Form → Text
times_front form.Hex = codes "times"
times_front form.Text = codes "times"
times_front form.Json = []
times_front form.Csv = csv_line (codes "time" ∷ [])

abbrev pub times_end : Form → Text
times_end form.Hex = codes "\n"
times_end form.Text = codes "\n"
times_end form.Json = []
times_end form.Csv = []

abbrev pub time_tokens : Moment → List Token
time_tokens time = begin_object ∷ key (codes "time") ∷ time_token time ∷ end_object ∷ []

-- one of them
abbrev pub time_piece : Form → Moment → Text
time_piece form.Hex time = codes " " ++ time_text time
time_piece form.Text time = codes "\t" ++ time_text time
time_piece form.Json time = json_line (time_tokens time)
time_piece form.Csv time = csv_line (time_text time ∷ [])

-- so it is
abbrev pub IsTimePiece : Style → ℕ → Text → Type 0
IsTimePiece style time text = (shown : Moment) × IsShown style.instants time shown × (text ≡ time_piece style.form shown)

-- each of them
abbrev pub AreTimePieces : Style → List ℕ → Text → Type 0
AreTimePieces style times text = Each (IsTimePiece style) times text

-- the text that says them
abbrev pub IsTimesText : Style → List ℕ → Text → Type 0
IsTimesText style times text =
    (pieces : Text) × AreTimePieces style times pieces × (text ≡ times_front style.form ++ (pieces ++ times_end style.form))
