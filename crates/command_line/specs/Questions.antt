-- The questions and writes of the command line.
use Rattle.std.specs.Prelude.{ℕ, Bool, false, List, Option, Some, None, codes, map, if◌then◌else◌, option_map}
use Rattle.std.specs.Borrow.{Bor}
use Rattle.std.specs.Option.{option_map_or}
use Rattle.std.specs.Str.{bytes_eq}
use Rattle.clap.specs.Words.{Row, Text, first_of}
use Rattle.forms.specs.declared.style.Form.{Form}
use Rattle.forms.specs.declared.style.Form.TheVariants as form
use Rattle.forms.specs.declared.style.Style.{Style}
use Rattle.history.specs.declared.key.Key.{Key}
use Rattle.command_line.specs.Moments.{moment}
use Rattle.command_line.specs.declared.question.Question.{Question}
use Rattle.command_line.specs.declared.question.Question.TheVariants as question
use Rattle.command_line.specs.declared.question.When.{When}
use Rattle.command_line.specs.declared.question.When.TheVariants as when

-- the texts of words
abbrev pub texts : Bor (List (Bor Text)) → List Text
texts words = map (λ (w : Bor Text). w.now) words.now

-- `now`, or the time that a word spells
abbrev pub when_in : Text → Option When
when_in word = if bytes_eq word (codes "now") then Some when.Now else option_map (λ t. when.At t) (moment word)

-- the time of a word that may be left out
abbrev pub when_of : When → Option Text → Option When
when_of absent None = Some absent
when_of absent (Some word) = when_in word

-- the question for a key's value, if there is a time
abbrev pub value_of : Key → Option When → Option Question
value_of key time = option_map (λ t. question.Value key t) time

-- the question for a relation's records
abbrev pub records_of : ℕ → Option When → Option Question
records_of relation time = option_map (λ t. question.Records relation t) time

-- the question for a key's rows, if there are both times
abbrev pub rows_of_key : Key → Option When → Option When → Option Question
rows_of_key key (Some from) (Some to) = Some (question.Rows key from to)
rows_of_key key _ _ = None

-- a flag is set
abbrev pub is_set : Text → List Row → Bool
is_set name rows = option_map_or (λ (t : Text). bytes_eq t (codes "true")) (first_of name rows) false

-- the form of an answer: in JSON, in CSV or as text where these flags are set, of several the first of these, else in hexadecimal
abbrev pub form_by : (is_text is_json is_csv : Bool) → Form
form_by is_text is_json is_csv = if is_json then form.Json else if is_csv then form.Csv else if is_text then form.Text else form.Hex

-- how an answer is to be spelled
abbrev pub style_of : List Row → Style
style_of rows = record {
  form = form_by (is_set (codes "text") rows) (is_set (codes "json") rows) (is_set (codes "csv") rows);
  instants = is_set (codes "instants") rows;
}
