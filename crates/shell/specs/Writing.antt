-- The lines of a script that write one record, and how they are answered.
use Rattle.std.specs.Prelude.{◌≡◌, ◌⊎◌, ◌++◌, Bool, true, false, List, [], ◌∷◌, Option, Some, None, codes, MatchBool, MatchOption}
use Rattle.std.specs.List.{flat_map}
use Rattle.std.specs.Option.{option_map_or}
use Rattle.forms.specs.Fields.{field_of, hex_field}
use Rattle.std.specs.Borrow.{Bor}
use Rattle.std.specs.Fmt.{decimal}
use Rattle.history.specs.declared.key.Key.{Key}
use Rattle.snapshot.specs.declared.txn.TxnFault.TheVariants as txn
use Rattle.script.specs.Lines.{said}
use Rattle.script.specs.declared.line.Line.{Line}
use Rattle.script.specs.declared.line.Line.TheVariants as line
use Rattle.session.specs.Texts.{Text}
use Rattle.session.specs.declared.fault.Fault.TheVariants as fault
use Rattle.session.specs.declared.reply.Reply.{Reply}
use Rattle.session.specs.declared.reply.Reply.TheVariants as reply
use Rattle.command_line.specs.declared.question.RecordWrite.{RecordWrite}
use Rattle.shell.specs.Vacuums.{is_refusal}
use Rattle.shell.specs.declared.writing.WriteLines.{WriteLines}

-- ---- the lines

-- a field as a line has it: a word that is in hexadecimal stands itself; of one that is text, the field that it means, and itself where it means none, which
-- is then no field of a line
abbrev pub field_word : Bool → Text → Text
field_word false word = word
field_word true word = option_map_or hex_field (field_of word) word

-- each word after a space
abbrev pub words_text : Bool → List (Bor Text) → Text
words_text is_text words = flat_map (λ (word : Bor Text). codes " " ++ field_word is_text word.now) words

-- a relation and a record, as a line names them
abbrev pub key_text : Key → Text
key_text key = decimal key.relation ++ (codes " " ++ decimal key.«record»)

-- the line that puts the fields which words spell, or that deletes
abbrev pub change_line : Key → Bool → Option (Bor (List (Bor Text))) → Text
change_line key is_text (Some words) = (codes "put t " ++ key_text key) ++ words_text is_text words.now
change_line key is_text None = codes "del t " ++ key_text key

-- the line that submits with the label, at the clock's time
abbrev pub submit_line : RecordWrite → Text
submit_line write = codes "submit t " ++ (decimal write.label ++ (codes " " ++ decimal write.now))

-- the lines of a write
abbrev pub write_lines : RecordWrite → List Text
write_lines write = codes "begin t" ∷ change_line write.key write.is_text write.fields ∷ submit_line write ∷ codes "flush" ∷ codes "redeem t" ∷ []

-- all lines of a write, of which two are kept
abbrev pub all_lines : WriteLines → List Text
all_lines lines = codes "begin t" ∷ lines.change.items ∷ lines.submit.items ∷ codes "flush" ∷ codes "redeem t" ∷ []

-- these are the lines of the write
abbrev pub AreLinesOf : RecordWrite → WriteLines → Type 0
AreLinesOf write lines = all_lines lines ≡ write_lines write

-- ---- how they are answered

-- the answer to a line of no form: its fields are none
abbrev pub no_form : Reply
no_form = reply.Refused (fault.Txn txn.BadValue)

-- so a line is answered that is not one of those, and nothing happens
abbrev pub IsNotAnswered : {M : Type 0} → M → Reply → M → Type 0
IsNotAnswered old r new = (r ≡ no_form) × (new ≡ old)

-- a line is answered as one of a script; or it is of no form, or would open the store again
abbrev pub AnswersText : {M : Type 0} → (M → Line → Reply → M → Type 0) → Text → M → Reply → M → Type 0
AnswersText step text old r new =
    MatchOption (said text) (IsNotAnswered old r new) (λ l. step old l r new ⊎ ((l ≡ line.Reopen) × IsNotAnswered old r new))

-- lines are answered in turn, up to the first that is refused; the last answer is given, or this one where there is no line
abbrev pub AnswersInTurn : {M : Type 0} → (M → Line → Reply → M → Type 0) → Reply → List Text → M → Reply → M → Type 0
AnswersInTurn step last [] old r new = (r ≡ last) × (new ≡ old)
AnswersInTurn step last (text ∷ rest) old r new = (answer : Reply) × (mid : _) × AnswersText step text old answer mid
    × MatchBool (is_refusal answer) ((r ≡ answer) × (new ≡ mid)) (AnswersInTurn step answer rest mid r new)
