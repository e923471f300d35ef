-- The answers to questions, in a style.
use Rattle.std.specs.Prelude.{◌≡◌, ℕ, ◌++◌, List, [], ◌∷◌, length, max}
use Rattle.std.specs.List.{flat_map}
use Rattle.history.specs.declared.time.Version.{Version}
use Rattle.forms.specs.Fields.{Text}
use Rattle.forms.specs.Lines.{IsRowText, IsTimesText, count_text, found_text, record_head, record_text, row_head}
use Rattle.forms.specs.declared.style.Form.{Form}
use Rattle.forms.specs.declared.style.Style.{Style}
use Rattle.session.specs.Texts.{text_of}
use Rattle.shell.specs.Dump.{Each}
use Rattle.session.specs.declared.reply.Reply.{Reply}
use Rattle.session.specs.declared.reply.Reply.TheVariants as reply

-- the most fields that a value of these has, or this number where none has more: the columns of fields that their table has
abbrev pub widest : {X : Type 0} → (X → List Text) → ℕ → List X → ℕ
widest value width [] = width
widest value width (x ∷ xs) = widest value (max width (length (value x))) xs

abbrev pub record_width : List (ℕ × List Text) → ℕ
record_width found = widest (λ (pair : ℕ × List Text). pair.1) 0 found

abbrev pub row_width : List (Version (List Text)) → ℕ
row_width rows = widest (λ (row : Version (List Text)). row.value) 0 rows

-- the line of a record and its value, in a table of so many columns of fields
abbrev pub pair_text : Form → (width : ℕ) → ℕ × List Text → Text
pair_text form width pair = record_text form width pair.0 pair.1

-- in a form that has them the names of the columns, a line for each record, and then how many they are
abbrev pub records_text : Form → List (ℕ × List Text) → Text
records_text form found =
    record_head form (record_width found) ++ (flat_map (pair_text form (record_width found)) found ++ count_text form (length found))

-- the line of a row
abbrev pub IsRowLine : Style → (width : ℕ) → Version (List Text) → Text → Type 0
IsRowLine style width row text = IsRowText style width row.from row.to row.value text

-- in a form that has them the names of the columns, a line for each row, and then how many they are
abbrev pub IsRowsText : Style → List (Version (List Text)) → Text → Type 0
IsRowsText style rows text = (lines : Text) × Each (IsRowLine style (row_width rows)) rows lines
    × (text ≡ row_head style.form (row_width rows) ++ (lines ++ count_text style.form (length rows)))

-- the text of a reply in a style; that of a reply to no question is as in scripts
abbrev pub IsTextOf : Style → Reply → Text → Type 0
IsTextOf style (reply.Found value) text = text ≡ found_text style.form value
IsTextOf style (reply.Rows rows) text = IsRowsText style rows.items text
IsTextOf style (reply.Records found) text = text ≡ records_text style.form found.items
IsTextOf style (reply.Times times) text = IsTimesText style times.items text
IsTextOf style r text = text ≡ text_of r
