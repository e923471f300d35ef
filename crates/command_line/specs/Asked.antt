-- What a parsed command line asks for.
use Rattle.std.specs.Prelude.{◌≡◌, ℕ, false, List, Option, Some, None, Ok, codes, MatchBool, MatchOption}
use Rattle.std.specs.Borrow.{Bor}
use Rattle.std.specs.Str.{bytes_eq}
use Rattle.std.specs.Str.Parse.{ParsesUnsigned}
use Rattle.clap.specs.Words.{Row, Text, all_of, first_of, one_of}
use Rattle.history.specs.declared.key.Key.{Key}
use Rattle.script.specs.Lines.{time_in}
use Rattle.command_line.specs.declared.action.Action.{Action}
use Rattle.command_line.specs.declared.action.Action.TheVariants as action
use Rattle.command_line.specs.declared.question.Question.TheVariants as question
use Rattle.command_line.specs.declared.question.When.TheVariants as when
use Rattle.command_line.specs.declared.layout.Layout.{Layout}
use Rattle.command_line.specs.Layouts.{layout_of}
use Rattle.command_line.specs.Moments.{moment}
use Rattle.command_line.specs.Questions.{is_set, style_of, records_of, rows_of_key, texts, value_of, when_of}

-- the argument has a text, which spells n in digits, n below 2 ^ bits
abbrev pub HasNumber : ℕ → Text → List Row → ℕ → Type 0
HasNumber bits id rows n = (t : Text) × (one_of id rows ≡ Some t) × ParsesUnsigned {E = ℕ} bits 10 t (Ok n)

-- the argument has a text, and this is the time that it spells, or none where it spells none
abbrev pub HasTime : Text → List Row → Option ℕ → Type 0
HasTime id rows time = (t : Text) × (first_of id rows ≡ Some t) × (time ≡ time_in t)

-- the argument has a text, and this is the moment that it spells, or none where it spells none
abbrev pub HasMoment : Text → List Row → Option ℕ → Type 0
HasMoment id rows time = (t : Text) × (first_of id rows ≡ Some t) × (time ≡ moment t)

-- the arguments name this key, by relation and record
abbrev pub HasKey : List Row → Key → Type 0
HasKey rows key = HasNumber 16 (codes "REL") rows key.relation × HasNumber 64 (codes "REC") rows key.«record»

-- the argument has a text that spells this number, or none that spells one
abbrev pub MayHaveNumber : ℕ → Text → List Row → Option ℕ → Type 0
MayHaveNumber bits id rows number = MatchOption number ((n : ℕ) → HasNumber bits id rows n → ⊥) (λ n. HasNumber bits id rows n)

-- the layout that the words say, by the profile and the size
pub record HasLayout (rows : List Row) (layout : Option Layout) : Type 0 where
  pub profile : ℕ
  pub slots : Option ℕ
  pub extents : Option ℕ
  pub of_profile : HasNumber 8 (codes "profile") rows profile
  pub of_slots : MayHaveNumber 32 (codes "slots") rows slots
  pub of_extents : MayHaveNumber 32 (codes "extents") rows extents
  pub is : layout ≡ layout_of profile slots extents

-- `format` is asked for, in this directory and with this layout
abbrev pub AsksFormat : List Row → Action → Type 0
AsksFormat rows (action.Format dir layout) = (first_of (codes "DIR") rows ≡ Some dir.now) × HasLayout rows layout
AsksFormat rows _ = ⊥

-- `run` is asked for, on the store in this directory
abbrev pub AsksRun : List Row → Action → Type 0
AsksRun rows (action.Run dir) = first_of (codes "DIR") rows ≡ Some dir.now
AsksRun rows _ = ⊥

-- `at` is asked for, of this key and at the time that the words spell
abbrev pub AsksAt : List Row → Action → Type 0
AsksAt rows (action.At dir key time) = (first_of (codes "DIR") rows ≡ Some dir.now)
    × HasKey rows key × HasTime (codes "TIME") rows time
AsksAt rows _ = ⊥

-- `between` is asked for, of this key and from and to the times that the words spell
abbrev pub AsksBetween : List Row → Action → Type 0
AsksBetween rows (action.Between dir key from to) = (first_of (codes "DIR") rows ≡ Some dir.now)
    × HasKey rows key × HasTime (codes "FROM") rows from × HasTime (codes "TO") rows to
AsksBetween rows _ = ⊥

-- `vacuum` is asked for, up to the time that the words spell
abbrev pub AsksVacuum : List Row → Action → Type 0
AsksVacuum rows (action.Vacuum dir time) = (first_of (codes "DIR") rows ≡ Some dir.now) × HasTime (codes "TIME") rows time
AsksVacuum rows _ = ⊥

-- `grow` is asked for, of the store in this directory
abbrev pub AsksGrow : List Row → Action → Type 0
AsksGrow rows (action.Grow dir) = first_of (codes "DIR") rows ≡ Some dir.now
AsksGrow rows _ = ⊥

-- `dump` is asked for, of the store in this directory
abbrev pub AsksDump : List Row → Action → Type 0
AsksDump rows (action.Dump dir) = first_of (codes "DIR") rows ≡ Some dir.now
AsksDump rows _ = ⊥

-- `stress` is asked for, with so many writers, readers and rounds
abbrev pub AsksStress : List Row → Action → Type 0
AsksStress rows (action.Stress writers readers rounds) = HasNumber 8 (codes "WRITERS") rows writers
    × HasNumber 8 (codes "READERS") rows readers × HasNumber 16 (codes "ROUNDS") rows rounds
AsksStress rows _ = ⊥

-- `get` is asked for: the value of this key at the time that the words spell, or at that of the last commit
abbrev pub AsksGet : List Row → Action → Type 0
AsksGet rows (action.Ask dir asked style) = (first_of (codes "DIR") rows ≡ Some dir.now)
    × (key : Key) × HasKey rows key × (asked ≡ value_of key (when_of when.Now (first_of (codes "TIME") rows))) × (style ≡ style_of rows)
AsksGet rows _ = ⊥

-- `scan` is asked for: the records of this relation at the time that the words spell, or at that of the last commit
abbrev pub AsksScan : List Row → Action → Type 0
AsksScan rows (action.Ask dir asked style) = (first_of (codes "DIR") rows ≡ Some dir.now)
    × (relation : ℕ) × HasNumber 16 (codes "REL") rows relation × (asked ≡ records_of relation (when_of when.Now (first_of (codes "TIME") rows)))
    × (style ≡ style_of rows)
AsksScan rows _ = ⊥

-- `history` is asked for: the rows of this key, from the first time that is kept where the words spell none, and up to now where they spell none
abbrev pub AsksHistory : List Row → Action → Type 0
AsksHistory rows (action.Ask dir asked style) = (first_of (codes "DIR") rows ≡ Some dir.now) × (key : Key) × HasKey rows key
    × (asked ≡ rows_of_key key (when_of when.First (first_of (codes "FROM") rows)) (when_of when.Now (first_of (codes "TO") rows)))
    × (style ≡ style_of rows)
AsksHistory rows _ = ⊥

-- `times` is asked for, of this label
abbrev pub AsksTimes : List Row → Action → Type 0
AsksTimes rows (action.Ask dir asked style) = (first_of (codes "DIR") rows ≡ Some dir.now)
    × (label : ℕ) × HasNumber 64 (codes "LABEL") rows label × (asked ≡ Some (question.Times label)) × (style ≡ style_of rows)
AsksTimes rows _ = ⊥

-- the arguments have these words as fields
abbrev pub HasFields : List Row → Bor (List (Bor Text)) → Type 0
HasFields rows fields = all_of (codes "FIELD") rows ≡ Some (texts fields)

-- `put` is asked for, of this key, with these fields and this label, at the clock's time
abbrev pub AsksPut : ℕ → List Row → Action → Type 0
AsksPut now rows (action.Write dir write) = (first_of (codes "DIR") rows ≡ Some dir.now) × HasKey rows write.key
    × MatchOption write.fields ⊥ (λ fields. HasFields rows fields) × (write.is_text ≡ is_set (codes "text") rows) × HasNumber 64
    (codes "label") rows write.label × (write.now ≡ now)
AsksPut now rows _ = ⊥

-- `del` is asked for, of this key, with this label, at the clock's time
abbrev pub AsksDelete : ℕ → List Row → Action → Type 0
AsksDelete now rows (action.Write dir write) = (first_of (codes "DIR") rows ≡ Some dir.now) × HasKey rows write.key
    × (write.fields ≡ None) × (write.is_text ≡ false) × HasNumber 64 (codes "label") rows write.label × (write.now ≡ now)
AsksDelete now rows _ = ⊥

-- `floor` is asked for, of this relation and up to the time that the words spell
abbrev pub AsksFloor : List Row → Action → Type 0
AsksFloor rows (action.Floor dir relation time) = (first_of (codes "DIR") rows ≡ Some dir.now)
    × HasNumber 16 (codes "REL") rows relation × HasMoment (codes "TIME") rows time
AsksFloor rows _ = ⊥

-- `info` is asked for, of the store in this directory, in JSON or not
abbrev pub AsksInfo : List Row → Action → Type 0
AsksInfo rows (action.Info dir json) = (first_of (codes "DIR") rows ≡ Some dir.now) × (json ≡ is_set (codes "json") rows)
AsksInfo rows _ = ⊥

-- a command that tells of a store or raises a floor, and the rows of its arguments
abbrev pub AsksOfStore : Text → List Row → Action → Type 0
AsksOfStore name rows a = MatchBool (bytes_eq name (codes "floor")) (AsksFloor rows a)
    (MatchBool (bytes_eq name (codes "info")) (AsksInfo rows a) ⊥)

-- a command on one record or relation, and the rows of its arguments; the clock says now
abbrev pub AsksOfRecord : ℕ → Text → List Row → Action → Type 0
AsksOfRecord now name rows a = MatchBool (bytes_eq name (codes "get")) (AsksGet rows a)
    (MatchBool (bytes_eq name (codes "scan")) (AsksScan rows a)
    (MatchBool (bytes_eq name (codes "history")) (AsksHistory rows a)
    (MatchBool (bytes_eq name (codes "times")) (AsksTimes rows a)
    (MatchBool (bytes_eq name (codes "put")) (AsksPut now rows a)
    (MatchBool (bytes_eq name (codes "del")) (AsksDelete now rows a) (AsksOfStore name rows a))))))

-- a subcommand's name, and the rows of its arguments; the clock says now
abbrev pub AsksCommand : ℕ → Text → List Row → Action → Type 0
AsksCommand now name rows a = MatchBool (bytes_eq name (codes "format")) (AsksFormat rows a)
    (MatchBool (bytes_eq name (codes "run")) (AsksRun rows a)
    (MatchBool (bytes_eq name (codes "at")) (AsksAt rows a)
    (MatchBool (bytes_eq name (codes "between")) (AsksBetween rows a)
    (MatchBool (bytes_eq name (codes "vacuum")) (AsksVacuum rows a)
    (MatchBool (bytes_eq name (codes "grow")) (AsksGrow rows a)
    (MatchBool (bytes_eq name (codes "dump")) (AsksDump rows a)
    (MatchBool (bytes_eq name (codes "stress")) (AsksStress rows a) (AsksOfRecord now name rows a))))))))

-- without a subcommand the example is asked for
abbrev pub Asks : ℕ → Option (Text × List Row) → Action → Type 0
Asks now None a = a ≡ action.Example
Asks now (Some p) a = AsksCommand now p.0 p.1 a

-- no action is asked for
abbrev pub AsksNothing : ℕ → Option (Text × List Row) → Type 0
AsksNothing now met = (a : Action) → Asks now met a → ⊥
