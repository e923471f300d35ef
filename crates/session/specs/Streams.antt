-- What is known of a script's input and of its output.
use Rattle.std.specs.Prelude.{◌≡◌, ℕ, ◌++◌, Bool, true, Option, Result, MatchResult}
use Rattle.std.specs.Io.KnownBytes.{Appends}
use Rattle.session.specs.declared.ending.Ending.{Ending}
use Rattle.session.specs.declared.ending.Ending.TheVariants as ending
use Rattle.session.specs.declared.input.Lines.{Lines}
use Rattle.session.specs.declared.output.Answers.{Answers}
use Rattle.session.specs.Texts.{Text}

-- the text that is left of an input, where it is known
abbrev pub text_left : {R : Type 0} → (R → Option Text) → Lines R → Option Text
text_left remaining input = remaining input.reader

-- the line that was read last, and how many were
abbrev pub last_line : {R : Type 0} → Lines R → Text
last_line input = input.line.items

-- how many lines were read so far
abbrev pub lines_read : {R : Type 0} → Lines R → ℕ
lines_read input = input.count

-- the reader refused, or there was no memory for a line
abbrev pub is_input_refused : {R : Type 0} → Lines R → Bool
is_input_refused input = input.refused

-- the text that was written, where it is known
abbrev pub text_said : {W : Type 0} → (W → Option Text) → Answers W → Option Text
text_said contents output = contents output.writer

-- the text that is to be written next
abbrev pub text_spelled : {W : Type 0} → Answers W → Text
text_spelled output = output.text.items

-- the writer refused, or there was no memory for a line
abbrev pub is_output_refused : {W : Type 0} → Answers W → Bool
is_output_refused output = output.refused

-- a front of the text
abbrev pub IsFront : Text → Text → Type 0
IsFront part text = (rest : Text) × (text ≡ part ++ rest)

-- known bytes grow by a front of the text
abbrev pub AppendsFront : Option Text → Option Text → Text → Type 0
AppendsFront old new text = (part : Text) × IsFront part text × Appends old new part

-- a front of the text was written, and the rest is left
abbrev pub Writes : Option Text → Option Text → Text → Text → Type 0
Writes old new text rest = (part : Text) × (text ≡ part ++ rest) × Appends old new part

-- the text was written; or a front of it was, and the output is refused
abbrev pub Says : {T E : Type 0} → Option Text → Text → Result T E → Option Text → Bool → Type 0
Says old text result new refused = MatchResult result (λ _. Appends old new text) (λ _. AppendsFront old new text × (refused ≡ true))

-- an ending says that the input or the output was refused only where it was
abbrev pub IsToldOf : {R W : Type 0} → Ending → Lines R → Answers W → Type 0
IsToldOf end input output = (end ≡ ending.InputRefused → is_input_refused input ≡ true) × (end ≡ ending.OutputRefused → is_output_refused output ≡ true)
