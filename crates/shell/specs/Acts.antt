-- What an action does to the disk and writes.
use Rattle.std.specs.Prelude.{[], ◌≡◌, ◌≢◌, ◌⊎◌, ◌+◌, ℕ, ◌++◌, Bool, true, IsTrue, List, Option, Some, None, Err, codes, MatchBool, MatchOption}
use Rattle.std.specs.Fmt.{decimal}
use Rattle.std.specs.Io.KnownBytes.{Appends, Keeps}
use Rattle.disk.specs.Areas.{AreSound}
use Rattle.disk.specs.Calls.{DiskState, looked, refused_answer}
use Rattle.recovery.specs.declared.fault.FormatFault.{FormatFault}
use Rattle.recovery.specs.declared.fault.OpenFault.{OpenFault}
use Rattle.recovery.specs.declared.fault.OpenFault.TheVariants as opening
use Rattle.recovery.specs.Answers.{after_fault}
use Rattle.log_shown.specs.Shown.{IsShownFault}
use Rattle.log_dump.specs.Dumped.{IsDumpOf}
use Rattle.log_dump.specs.declared.dump.Dump.{Dump}
use Rattle.log_facts.specs.HeapTexts.{IsInfoFault, IsInfoOf}
use Rattle.status.specs.Reading.{AnswersHeader, HoldsLog, IsHeaderFault, IsLogFault, ReadsHeader, refused_by}
use Rattle.status.specs.declared.fault.LogFault.{LogFault}
use Rattle.status.specs.declared.header.Header.{Header}
use Rattle.status.specs.Header.{total}
use Rattle.wire.specs.declared.slot.Slot.{Slot}
use Rattle.any_store.specs.Values.{StoreValue, disk_of}
use Rattle.log_store.specs.Formats.{HasLogHeader}
use Rattle.any_store.specs.Opens.{Opens, OpenRefuses}
use Rattle.any_store.specs.Formats.{IsSize, IsFormatted, FormatRefuses}
use Rattle.any_store.specs.declared.formatting.Layout.{Layout as StoreLayout}
use Rattle.any_store.specs.declared.formatting.Layout.TheVariants.{Slots}
use Rattle.store.specs.declared.job.StartFault.TheVariants as start
use Rattle.script.specs.declared.line.Line.{Line}
use Rattle.script.specs.declared.line.Line.TheVariants as line
use Rattle.session.specs.Lines.{AreLines}
use Rattle.session.specs.Run.{Run}
use Rattle.session.specs.Session.{State, fresh, Step, Closes}
use Rattle.session.specs.Streams.{AppendsFront, is_input_refused, is_output_refused, lines_read, text_left, text_said}
use Rattle.session.specs.Texts.{Text, open_line, refusal_line, text_of}
use Rattle.session.specs.declared.ending.Ending.{Ending}
use Rattle.session.specs.declared.ending.Ending.TheVariants.{InputRefused, OutputRefused, Whole}
use Rattle.session.specs.declared.fault.Fault.TheVariants as fault
use Rattle.session.specs.declared.input.Lines.{Lines}
use Rattle.session.specs.declared.output.Answers.{Answers}
use Rattle.session.specs.declared.reply.Reply.{Reply}
use Rattle.session.specs.declared.reply.Reply.TheVariants as reply
use Rattle.forms.specs.Styles.{is_plain, plain}
use Rattle.log_facts.specs.Texts.{info_text}
use Rattle.forms.specs.declared.style.Style.{Style}
use Rattle.command_line.specs.declared.layout.Layout.{Layout}
use Rattle.shell.specs.Asking.{line_asked}
use Rattle.shell.specs.Layouts.{formatted_line, size_of, store_layout}
use Rattle.shell.specs.Styled.{IsTextOf}
use Rattle.shell.specs.Dump.{IsDump}
use Rattle.shell.specs.Vacuums.{DoesJob, DoesVacuum, HasNoHeaderFor, LogNames, LogNamesNone, archived_line, is_refusal, open_fault_of, reclaimed_line}
use Rattle.shell.specs.declared.job_records.JobRecords.{JobRecords}
use Rattle.shell.specs.Writing.{AnswersInTurn, write_lines}
use Rattle.shell.specs.declared.vacuuming.Vacuumed.{Vacuumed}
use Rattle.shell.specs.declared.vacuuming.Vacuumed.TheVariants as vacuumed
use Rattle.command_line.specs.declared.question.RecordWrite.{RecordWrite}
use Rattle.command_line.specs.declared.action.Action.{Action}
use Rattle.command_line.specs.declared.action.Action.TheVariants as action

-- what is known of a script's input: its text, how many lines were read before, and whether it was refused since
pub record Input : Type 0 where
  pub text : Option Text
  pub read : ℕ
  pub refused : Bool

-- what is known of an input from before an action, and of its refusal from after it
abbrev pub given : {R : Type 0} → (R → Option Text) → Lines R → Lines R → Input
given remaining old new = record { text = text_left remaining old; read = lines_read old; refused = is_input_refused new }

-- the program's status, what is known of a writer's bytes before and after, and whether the output was refused
pub record Output : Type 0 where
  pub status : ℕ
  pub before : Option Text
  pub after : Option Text
  pub refused : Bool

-- what an action told, by the output before it and after it
abbrev pub told : {W : Type 0} → (W → Option Text) → ℕ → Answers W → Answers W → Output
told contents status old new = record { status = status; before = text_said contents old; after = text_said contents new; refused = is_output_refused new }

-- the whole text was written, where the writer's bytes are known
abbrev pub SaysAll : Output → Text → Type 0
SaysAll o text = Appends o.before o.after text

-- a front of the text was written, and the output is refused
abbrev pub SaysFront : Output → Text → Type 0
SaysFront o text = (o.refused ≡ true) × AppendsFront o.before o.after text

-- what was done is said, with status 0; where the output is refused, with status 1
abbrev pub IsSaid : Output → Text → Type 0
IsSaid o text = ((o.status ≡ 0) × SaysAll o text) ⊎ ((o.status ≡ 1) × SaysFront o text)

-- what was refused is said, with status 1
abbrev pub IsRefused : Output → Text → Type 0
IsRefused o text = (o.status ≡ 1) × (SaysAll o text ⊎ SaysFront o text)

-- the output is given out, or it is refused
abbrev pub GivesOut : Output → Output → Type 0
GivesOut old new =
    (new.before ≡ old.before) × Keeps old.after new.after
    × (((new.status ≡ old.status) × (new.refused ≡ old.refused)) ⊎ ((new.status ≡ 1) × (new.refused ≡ true)))

-- ---- format

-- an empty store is made, and its size is said
pub record MakesStore (tells : Bool) (old : DiskState) (layout : Layout) (output : Output) (new : DiskState) : Type 0 where
  pub size : IsSize (store_layout layout)
  pub formatted : IsTrue tells → IsFormatted (store_layout layout) old.areas new.areas
  pub said : IsSaid output (formatted_line (size_of layout))

-- no store is made, and why is said
abbrev pub RefusesToMake : Bool → DiskState → StoreLayout → Output → DiskState → Type 0
RefusesToMake tells old layout output new = (f : FormatFault) × FormatRefuses tells layout old f new × IsRefused output (refusal_line (fault.Format f))

-- `format`: an empty store is made, or refused
abbrev pub Makes : Bool → DiskState → Layout → Output → DiskState → Type 0
Makes tells old layout output new = MakesStore tells old layout output new ⊎ RefusesToMake tells old (store_layout layout) output new

-- what is not of the profile is refused, and the disk is as it was
abbrev pub RefusesProfile : DiskState → Output → DiskState → Type 0
RefusesProfile old output new = (new ≡ old) × IsRefused output (refusal_line (fault.Start start.WrongProfile))

-- ---- scripts

-- the store does not open, or there is no memory for its session
abbrev pub DoesNotOpen : Bool → DiskState → Output → DiskState → Type 0
DoesNotOpen tells old output new = (f : OpenFault) × OpenRefuses tells old f new × IsRefused output (open_line f)

-- the store opens, but no session can begin for want of memory, which is said
abbrev pub HasNoMemory : Bool → DiskState → Output → DiskState → Type 0
HasNoMemory tells old output new = (store : StoreValue) × Opens tells old 1 store × (new ≡ disk_of store) × IsRefused output (refusal_line fault.NoMemory)

-- status 0 where the script ran to its end and all was given out, and only there
abbrev pub HasStatusOf : Ending → Output → Type 0
HasStatusOf end output = ((output.status ≡ 0) × (end ≡ Whole)) ⊎ ((output.status ≡ 1) × ((end ≢ Whole) ⊎ (output.refused ≡ true)))

-- it ended for the input or the output only where that was refused
abbrev pub IsEndOf : Ending → Input → Output → Type 0
IsEndOf end input output = (end ≡ InputRefused → input.refused ≡ true) × (end ≡ OutputRefused → output.refused ≡ true)

-- the store opens, and the lines of the input run on it, all or a front of them
pub record Runs (tells : Bool) (old : DiskState) (input : Input) (output : Output) (new : DiskState) : Type 0 where
  pub opened : StoreValue
  pub opens : Opens tells old 1 opened
  pub lines : List Text
  pub are : AreLines input.text lines
  pub out : Text
  pub end : Ending
  pub run : Run tells (input.read + 1) (fresh opened) lines out (end, new)
  pub said : SaysAll output out
  pub ends : IsEndOf end input output
  pub status : HasStatusOf end output

-- `run`: the script runs on the store, or does not begin
abbrev pub RunsScript : Bool → DiskState → Input → Output → DiskState → Type 0
RunsScript tells old input output new = DoesNotOpen tells old output new ⊎ (HasNoMemory tells old output new ⊎ Runs tells old input output new)

-- an empty store of 16 slots is made, and the script runs on it
pub record RunsOnNew (tells : Bool) (old : DiskState) (input : Input) (output : Output) (new : DiskState) : Type 0 where
  pub made : DiskState
  pub formatted : IsTrue tells → IsFormatted (Slots 16) old.areas made.areas
  -- a disk that tells its bytes is sound
  pub sound : IsTrue tells → AreSound made.areas
  pub runs : RunsScript tells made input output new

-- the example: a script runs on an empty store that is made for it, or none is made
abbrev pub RunsNew : Bool → DiskState → Input → Output → DiskState → Type 0
RunsNew tells old input output new = RefusesToMake tells old (Slots 16) output new ⊎ RunsOnNew tells old input output new

-- ---- one question

-- a reply is said
abbrev pub IsTold : Output → Reply → Type 0
IsTold o r = MatchBool (is_refusal r) (IsRefused o (text_of r)) (IsSaid o (text_of r))

-- a text that is so is said, or there is no memory for it, which is said
abbrev pub SaysSo : (Text → Type 0) → Output → Type 0
SaysSo Is o = ((text : Text) × Is text × IsSaid o text) ⊎ IsRefused o (refusal_line fault.NoMemory)

-- a reply is said in a style that is not that of scripts; a refusal is said as in scripts
abbrev pub IsToldAs : Style → Output → Reply → Type 0
IsToldAs style o (reply.Found value) = SaysSo (IsTextOf style (reply.Found value)) o
IsToldAs style o (reply.Rows rows) = SaysSo (IsTextOf style (reply.Rows rows)) o
IsToldAs style o (reply.Records found) = SaysSo (IsTextOf style (reply.Records found)) o
IsToldAs style o (reply.Times times) = SaysSo (IsTextOf style (reply.Times times)) o
IsToldAs style o r = IsTold o r

-- a reply is said in a style
abbrev pub IsToldIn : Style → Output → Reply → Type 0
IsToldIn style o r = MatchBool (is_plain style) (IsTold o r) (IsToldAs style o r)

-- the store opens, and answers the one line of a script that asks this of it; the answer is said in this style
pub record AsksStore (tells : Bool) (style : Style) (old : DiskState) (asks : StoreValue → Line) (output : Output) (new : DiskState) : Type 0 where
  pub opened : StoreValue
  pub opens : Opens tells old 1 opened
  pub answer : Reply
  pub asked : State
  pub step : Step tells (fresh opened) (asks opened) answer asked
  pub told : IsToldIn style output answer
  pub closes : Closes asked new

-- a question, as one line: the store answers it, or is not asked, and why is said
abbrev pub Asks : Bool → Style → DiskState → (StoreValue → Line) → Output → DiskState → Type 0
Asks tells style old asks output new = DoesNotOpen tells old output new ⊎ (HasNoMemory tells old output new ⊎ AsksStore tells style old asks output new)

-- what is of no disk is not done, and nothing is said
abbrev pub DoesNothing : DiskState → Output → DiskState → Type 0
DoesNothing old output new = (new ≡ old) × IsRefused output []

-- a time that is none is refused, and the disk is as it was
abbrev pub RefusesTime : DiskState → Output → DiskState → Type 0
RefusesTime old output new = (new ≡ old) × IsRefused output (refusal_line fault.Time)

-- ---- one write

-- the store opens, and answers the lines of a script in turn, up to the first that is refused; the last answer is said
pub record WritesStore (tells : Bool) (old : DiskState) (lines : List Text) (output : Output) (new : DiskState) : Type 0 where
  pub opened : StoreValue
  pub opens : Opens tells old 1 opened
  pub answer : Reply
  pub asked : State
  pub does : AnswersInTurn (Step tells) reply.Ok lines (fresh opened) answer asked
  pub told : IsTold output answer
  pub closes : Closes asked new

-- there is no memory for the lines
abbrev pub LacksLines : DiskState → Output → DiskState → Type 0
LacksLines old output new = (new ≡ old) × IsRefused output (refusal_line fault.NoMemory)

-- `put` and `del`: the store answers the lines of the write, or is not asked, and why is said
abbrev pub Writes : Bool → DiskState → RecordWrite → Output → DiskState → Type 0
Writes tells old write output new = LacksLines old output new
    ⊎ (DoesNotOpen tells old output new ⊎ (HasNoMemory tells old output new ⊎ WritesStore tells old (write_lines write) output new))

-- ---- dump

-- no header stands there
pub record HasNoHeader (tells : Bool) (old : DiskState) (output : Output) (new : DiskState) : Type 0 where
  pub why : LogFault
  pub fault : IsHeaderFault why
  pub only : IsTrue tells → (header : Header) → ReadsHeader old.areas.status.bytes header → AnswersHeader header (Err why)
  pub same : new ≡ refused_by why old
  pub said : IsRefused output (open_line (open_fault_of why))

-- no log follows the header
pub record HasNoLog (tells : Bool) (old : DiskState) (output : Output) (new : DiskState) : Type 0 where
  pub header : Header
  pub reads : IsTrue tells → ReadsHeader old.areas.status.bytes header
  pub why : LogFault
  pub fault : IsTrue tells → IsLogFault header old.areas.status.bytes why
  pub same : new ≡ refused_by why old
  pub said : IsRefused output (open_line (open_fault_of why))

-- the log that stands on the disk is said, and the disk is as it was
pub record DumpsLog (tells : Bool) (old : DiskState) (output : Output) (new : DiskState) : Type 0 where
  pub header : Header
  pub slots : List Slot
  pub reads : IsTrue tells → ReadsHeader old.areas.status.bytes header
  pub log : IsTrue tells → HoldsLog header old.areas.status.bytes slots
  pub text : Text
  pub dump : IsDump header slots text
  pub said : IsSaid output text
  pub same : new ≡ old

-- there is no memory for its text
abbrev pub LacksText : DiskState → Output → DiskState → Type 0
LacksText old output new = (new ≡ old) × IsRefused output (refusal_line fault.NoMemory)

-- slots are said, or why they are not
abbrev pub Dumps : Bool → DiskState → Output → DiskState → Type 0
Dumps tells old output new = (HasNoHeader tells old output new ⊎ HasNoLog tells old output new) ⊎ (DumpsLog tells old output new ⊎ LacksText old output new)

-- ---- vacuum

-- the archive is done, and its records are said; then the reclaim is refused so, which alone is said where the log is not read
abbrev pub SaysArchived : Bool → ℕ → DiskState → Reply → Output → DiskState → Type 0
SaysArchived tells upto given refusal output new =
    ((counts : JobRecords) × LogNames tells upto given counts new × IsRefused output (archived_line counts ++ text_of refusal))
    ⊎ ((why : OpenFault) × LogNamesNone tells given why new × IsRefused output (text_of refusal))

-- both are done, and the records of each are said, or why the log is not read
abbrev pub SaysBoth : Bool → ℕ → DiskState → Output → DiskState → Type 0
SaysBoth tells upto given output new =
    ((counts : JobRecords) × LogNames tells upto given counts new × IsSaid output (archived_line counts ++ reclaimed_line counts))
    ⊎ ((why : OpenFault) × LogNamesNone tells given why new × IsRefused output (open_line why))

-- of a vacuum that got so far, by the log that stands on the disk once the store is closed
abbrev pub SaysVacuum : Bool → ℕ → DiskState → Vacuumed → Output → DiskState → Type 0
SaysVacuum tells upto given (vacuumed.Nothing refusal) output new = (new ≡ given) × IsRefused output (text_of refusal)
SaysVacuum tells upto given (vacuumed.Archived refusal) output new = SaysArchived tells upto given refusal output new
SaysVacuum tells upto given vacuumed.Both output new = SaysBoth tells upto given output new

-- the store opens, a session answers the lines of a vacuum, and it is closed
pub record VacuumsStore (tells : Bool) (old : DiskState) (upto : ℕ) (output : Output) (new : DiskState) : Type 0 where
  pub opened : StoreValue
  pub opens : Opens tells old 1 opened
  pub done : Vacuumed
  pub asked : State
  pub does : DoesVacuum (Step tells) upto (fresh opened) done asked
  pub given : DiskState
  pub closes : Closes asked given
  pub says : SaysVacuum tells upto given done output new

-- `vacuum`: the store archives and reclaims, or is not asked, and why is said
abbrev pub Vacuums : Bool → DiskState → ℕ → Output → DiskState → Type 0
Vacuums tells old upto output new = DoesNotOpen tells old output new ⊎ (HasNoMemory tells old output new ⊎ VacuumsStore tells old upto output new)

-- ---- grow

-- no header is read, and the disk is as it was
abbrev pub LacksHeader : Bool → DiskState → LogFault → DiskState → Type 0
LacksHeader tells old why new = IsHeaderFault why × (IsTrue tells → HasNoHeaderFor old.areas.status.bytes why) × (new ≡ refused_by why old)

-- the line that says how many slots a store has
abbrev pub slots_line : Header → Text
slots_line header = codes "slots " ++ (decimal (total header) ++ codes "\n")

-- the slots of the header that stands on the disk are said, or why none is read
abbrev pub SaysSlots : Bool → DiskState → Output → DiskState → Type 0
SaysSlots tells given output new =
    ((header : Header) × (IsTrue tells → ReadsHeader given.areas.status.bytes header) × IsSaid output (slots_line header) × (new ≡ given))
    ⊎ ((why : LogFault) × LacksHeader tells given why new × IsRefused output (open_line (open_fault_of why)))

-- of a growth that was done, or was refused so, once the store is closed
abbrev pub SaysGrown : Bool → DiskState → Option Reply → Output → DiskState → Type 0
SaysGrown tells given None output new = SaysSlots tells given output new
SaysGrown tells given (Some refusal) output new = (new ≡ given) × IsRefused output (text_of refusal)

-- the store opens, a session answers `grow` and `finish`, and it is closed
pub record GrowsStore (tells : Bool) (old : DiskState) (output : Output) (new : DiskState) : Type 0 where
  pub opened : StoreValue
  pub opens : Opens tells old 1 opened
  pub refused : Option Reply
  pub asked : State
  pub does : DoesJob (Step tells) line.Grow (fresh opened) refused asked
  pub given : DiskState
  pub closes : Closes asked given
  pub says : SaysGrown tells given refused output new

-- `grow`: the store grows by a piece, or is not asked, and why is said
abbrev pub Grows : Bool → DiskState → Output → DiskState → Type 0
Grows tells old output new = DoesNotOpen tells old output new ⊎ (HasNoMemory tells old output new ⊎ GrowsStore tells old output new)

-- ---- floor

-- the line that says from when on a relation is kept
abbrev pub floor_line : ℕ → Text
floor_line time = codes "floor " ++ (decimal time ++ codes "\n")

-- of a floor that was raised, or was refused so
abbrev pub SaysRaised : ℕ → Option Reply → Output → Type 0
SaysRaised time None output = IsSaid output (floor_line time)
SaysRaised time (Some refusal) output = IsRefused output (text_of refusal)

-- the store opens, a session answers `floorof` and `finish`, and it is closed
pub record RaisesStore (tells : Bool) (old : DiskState) (relation time : ℕ) (output : Output) (new : DiskState) : Type 0 where
  pub opened : StoreValue
  pub opens : Opens tells old 1 opened
  pub refused : Option Reply
  pub asked : State
  pub does : DoesJob (Step tells) (line.Floor (Some relation) time) (fresh opened) refused asked
  pub closes : Closes asked new
  pub says : SaysRaised time refused output

-- `floor`: the store lets a relation's history before a time go, or is not asked, and why is said
abbrev pub Raises : Bool → DiskState → ℕ → ℕ → Output → DiskState → Type 0
Raises tells old relation time output new =
    DoesNotOpen tells old output new ⊎ (HasNoMemory tells old output new ⊎ RaisesStore tells old relation time output new)

-- ---- info

-- what the log that stands on the disk tells is said, and the disk is as it was
pub record TellsLog (tells : Bool) (old : DiskState) (json : Bool) (output : Output) (new : DiskState) : Type 0 where
  pub header : Header
  pub slots : List Slot
  pub reads : IsTrue tells → ReadsHeader old.areas.status.bytes header
  pub log : IsTrue tells → HoldsLog header old.areas.status.bytes slots
  pub said : IsSaid output (info_text json header slots)
  pub same : new ≡ old

-- what slots tell is said, or why it is not
abbrev pub Tells : Bool → DiskState → Bool → Output → DiskState → Type 0
Tells tells old json output new =
    (HasNoHeader tells old output new ⊎ HasNoLog tells old output new) ⊎ (TellsLog tells old json output new ⊎ LacksText old output new)

-- ---- a log in the heap

-- what the log tells is said, and the disk is as it was
pub record TellsHeap (tells : Bool) (old : DiskState) (json : Bool) (output : Output) (new : DiskState) : Type 0 where
  pub text : Text
  pub is : IsInfoOf tells json old.areas.status.bytes old.areas.heap.bytes text
  pub said : IsSaid output text
  pub same : new ≡ old

-- or the first check of opening that fails, or that the device or memory gave out
pub record HasNoInfo (tells : Bool) (old : DiskState) (output : Output) (new : DiskState) : Type 0 where
  pub why : OpenFault
  pub fault : IsTrue tells → IsInfoFault old.areas.status.bytes old.areas.heap.bytes why
  pub left : new ≡ after_fault why old
  pub said : IsRefused output (open_line why)

-- the text of a dump is said, and behind it the first check of opening that fails
abbrev pub SaysDump : Dump → Output → Type 0
SaysDump dump output = MatchOption dump.fault (IsSaid output dump.text.items) (λ why. IsRefused output (dump.text.items ++ open_line why))

-- what is shown of the log is said, and the disk is as it was
pub record DumpsHeap (tells : Bool) (old : DiskState) (output : Output) (new : DiskState) : Type 0 where
  pub dump : Dump
  pub is : IsDumpOf tells old.areas.status.bytes old.areas.heap.bytes dump
  pub said : SaysDump dump output
  pub same : new ≡ old

-- or that the device or memory gave out, or that no header stands in front
pub record HasNoDump (tells : Bool) (old : DiskState) (output : Output) (new : DiskState) : Type 0 where
  pub why : OpenFault
  pub fault : IsTrue tells → IsShownFault old.areas.status.bytes why
  pub left : new ≡ after_fault why old
  pub said : IsRefused output (open_line why)

-- the header can't be read
abbrev pub LacksFront : DiskState → Output → DiskState → Type 0
LacksFront old output new = (new ≡ looked refused_answer old) × IsRefused output (open_line opening.Device)

-- so it is where the log is slots, and so where it lies in the heap
abbrev pub ByLayout : Bool → DiskState → Output → DiskState → (InSlots InHeap : Type 0) → Type 0
ByLayout tells old output new InSlots InHeap =
    ((IsTrue tells → ¬ HasLogHeader old.areas.status.bytes) × InSlots)
    ⊎ (((IsTrue tells → HasLogHeader old.areas.status.bytes) × InHeap) ⊎ LacksFront old output new)

-- `info`: what the log tells is said, or why it is not
abbrev pub TellsByLayout : Bool → DiskState → Bool → Output → DiskState → Type 0
TellsByLayout tells old json output new =
    ByLayout tells old output new (Tells tells old json output new) (TellsHeap tells old json output new ⊎ HasNoInfo tells old output new)

-- `dump`: what is shown of the log is said, or why it is not
abbrev pub DumpsByLayout : Bool → DiskState → Output → DiskState → Type 0
DumpsByLayout tells old output new = ByLayout tells old output new (Dumps tells old output new)
    (DumpsHeap tells old output new ⊎ HasNoDump tells old output new)

-- ---- actions

-- With status 0 it is done and said in full. With status 1 the store, the input or the output was refused, which is said as far as the output took it, and the
-- disk is as this says.
abbrev pub Acts : Bool → Action → DiskState → Input → Output → DiskState → Type 0
Acts tells action.Example old input output new = RunsNew tells old input output new
Acts tells (action.Format dir layout) old input output new = MatchOption layout (RefusesProfile old output new) (λ l. Makes tells old l output new)
Acts tells (action.Run dir) old input output new = RunsScript tells old input output new
Acts tells (action.At dir key time) old input output new = MatchOption time (RefusesTime old output new) (λ t. Asks tells plain old
    (λ store. line.At key t) output new)
Acts tells (action.Between dir key from to) old input output new =
    MatchOption from (RefusesTime old output new) (λ a. MatchOption to (RefusesTime old output new) (λ b. Asks tells plain old
    (λ store. line.Between key a b) output new))
Acts tells (action.Ask dir question style) old input output new =
    MatchOption question (RefusesTime old output new) (λ asked. Asks tells style old (line_asked asked) output new)
Acts tells (action.Write dir write) old input output new = Writes tells old write output new
Acts tells (action.Vacuum dir time) old input output new = MatchOption time (RefusesTime old output new) (λ t. Vacuums tells old t output new)
Acts tells (action.Grow dir) old input output new = Grows tells old output new
Acts tells (action.Floor dir relation time) old input output new = MatchOption time (RefusesTime old output new) (λ t. Raises tells old relation t output new)
Acts tells (action.Info dir json) old input output new = TellsByLayout tells old json output new
Acts tells (action.Dump dir) old input output new = DumpsByLayout tells old output new
Acts tells (action.Stress writers readers rounds) old input output new = DoesNothing old output new
