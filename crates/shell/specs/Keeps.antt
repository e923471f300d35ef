-- What the program promises of each action, however it ends.
use Rattle.std.specs.Prelude.{ℕ, ◌≡◌, ◌⊎◌, ◌+◌, Bool, List, [], Option, Result, Ok, Err, Some, MatchOption}
use Rattle.std.specs.declared.alloc.Global.{Global}
use Rattle.std.specs.declared.vec.Vec.{Vec}
use Rattle.disk.specs.Areas.{Image, LeavesImage, image_of}
use Rattle.disk.specs.Calls.{DiskState}
use Rattle.history.specs.Answers as answers
use Rattle.history.specs.Answers.{IsScanAtAnswer, QueryRefusal, at_answer, between_answer, times_of}
use Rattle.history.specs.Histories.{History, last}
use Rattle.history.specs.declared.time.Version.{Version}
use Rattle.law_image.specs.Values.{Value}
use Rattle.recovery.specs.Faults.{IsReadFault}
use Rattle.recovery.specs.declared.fault.FormatFault.{FormatFault}
use Rattle.recovery.specs.declared.fault.OpenFault.{OpenFault}
use Rattle.timequery.specs.declared.fault.QueryFault.TheVariants as query
use Rattle.any_store.specs.declared.formatting.Layout.{Layout as StoreLayout}
use Rattle.any_store.specs.declared.formatting.Layout.TheVariants.{Slots}
use Rattle.any_store.specs.Values.{StoreValue, disk_of}
use Rattle.any_store.specs.Opens.{Opens, OpenRefuses}
use Rattle.any_store.specs.Formats.{IsFormatted, FormatRefuses}
use Rattle.law_any_store.specs.Formatted.{header_of}
use Rattle.law_any_store.specs.Opened.{RecoversHeader}
use Rattle.law_any_store.specs.Standing.{AnyHeader, IsImageOf, opened_in}
use Rattle.script.specs.declared.line.Line.{Line}
use Rattle.script.specs.declared.line.Line.TheVariants as line
use Rattle.session.specs.Lines.{AreLines}
use Rattle.session.specs.declared.fault.Fault.TheVariants as fault
use Rattle.session.specs.declared.reply.Reply.{Reply}
use Rattle.session.specs.declared.reply.Reply.TheVariants as reply
use Rattle.session.specs.Texts.{Text, open_line, refusal_line}
use Rattle.run.specs.Promise.{IsKeptAs}
use Rattle.session.specs.declared.ending.Ending.{Ending}
use Rattle.law_script.specs.Keeps.{Closed, LineKeeps}
use Rattle.law_script.specs.ScriptMoments.{ScriptMoment, first_script_moment}
use Rattle.law_script.specs.Promise.{ScriptKeeps}
use Rattle.command_line.specs.declared.question.Question.{Question}
use Rattle.command_line.specs.declared.question.Question.TheVariants as question
use Rattle.command_line.specs.declared.action.Action.{Action}
use Rattle.command_line.specs.declared.action.Action.TheVariants as action
use Rattle.forms.specs.Styles.{plain}
use Rattle.forms.specs.declared.style.Style.{Style}
use Rattle.shell.specs.Acts.{Input, IsRefused, IsTold, IsToldIn, Output, SaysAll, SaysGrown, SaysRaised, SaysVacuum}
use Rattle.shell.specs.Asking.{end_asked, line_asked, time_asked}
use Rattle.shell.specs.Layouts.{store_layout}
use Rattle.shell.specs.Vacuums.{DoesJob, DoesVacuum}
use Rattle.shell.specs.Writing.{AnswersInTurn, write_lines}
use Rattle.shell.specs.declared.vacuuming.Vacuumed.{Vacuumed}

-- The lines of the input are run, all or a front of them, and the run keeps the promise: at every moment whatever a stop may leave survives, with every commit
-- of which `done` was written, and what is written is what a run of the machine answers.
pub record LinesKeep (tells : Bool) (h : History Value) (floors : ℕ → ℕ) (store : StoreValue) (input : Input) (output : Output) (new : DiskState) : Type 0 where
  pub lines : List Text
  pub are : AreLines input.text lines
  pub out : Text
  pub end : Ending
  pub keeps : ScriptKeeps tells (input.read + 1) (first_script_moment store (opened_in store h floors)) lines out (end, new)
  pub said : SaysAll output out

-- the store opens as this history; no line is run, or lines are
abbrev pub OpenedKeeps : Bool → History Value → (ℕ → ℕ) → DiskState → Input → Output → DiskState → Type 0
OpenedKeeps tells h floors old input output new =
    (store : StoreValue) × Opens tells old 1 store × ((new ≡ disk_of store) ⊎ LinesKeep tells h floors store input output new)

-- it does not open, and the disk holds what it held, or it does
abbrev pub RunKeeps : Bool → History Value → (ℕ → ℕ) → DiskState → Input → Output → DiskState → Type 0
RunKeeps tells h floors old input output new = ((f : OpenFault) × OpenRefuses tells old f new) ⊎ OpenedKeeps tells h floors old input output new

-- so it is on an empty store of 16 slots
pub record NewRunKeeps (tells : Bool) (old : DiskState) (input : Input) (output : Output) (new : DiskState) : Type 0 where
  pub made : DiskState
  pub formatted : IsFormatted (Slots 16) old.areas made.areas
  pub keeps : RunKeeps tells [] (λ relation. 0) made input output new

-- a line leads from a moment to the next, and keeps the promise
abbrev pub LineLeads : Bool → ScriptMoment → Line → Reply → ScriptMoment → Type 0
LineLeads tells before l r after = LineKeeps tells l r before after

-- The lines of a vacuum are answered as those of a script, and the store is closed: at every moment whatever a stop may leave survives. The log is read of what
-- the disk holds then.
pub record VacuumKeeps (tells : Bool) (h : History Value) (floors : ℕ → ℕ) (store : StoreValue) (upto : ℕ) (output : Output) (new : DiskState) : Type 0 where
  pub done : Vacuumed
  pub after : ScriptMoment
  pub does : DoesVacuum (LineLeads tells) upto (first_script_moment store (opened_in store h floors)) done after
  pub given : DiskState
  pub closed : Closed tells after given
  pub says : SaysVacuum tells upto given done output new
  pub holds : new.areas ≡ given.areas

-- the store opens as this history; no line is answered, or lines are
abbrev pub VacuumOpenedKeeps : Bool → History Value → (ℕ → ℕ) → DiskState → ℕ → Output → DiskState → Type 0
VacuumOpenedKeeps tells h floors old upto output new =
    (store : StoreValue) × Opens tells old 1 store × ((new ≡ disk_of store) ⊎ VacuumKeeps tells h floors store upto output new)

-- it does not open, and the disk holds what it held, or it does
abbrev pub VacuumingKeeps : Bool → DiskState → ℕ → Output → DiskState → Type 0
VacuumingKeeps tells old upto output new = (header : AnyHeader) (h : History Value) (floors : ℕ → ℕ) → IsImageOf header (image_of old.areas) h floors
    → ((f : OpenFault) × OpenRefuses tells old f new) ⊎ VacuumOpenedKeeps tells h floors old upto output new

-- So are `grow` and `finish`.
pub record GrowthKeeps (tells : Bool) (h : History Value) (floors : ℕ → ℕ) (store : StoreValue) (output : Output) (new : DiskState) : Type 0 where
  pub refused : Option Reply
  pub after : ScriptMoment
  pub does : DoesJob (LineLeads tells) line.Grow (first_script_moment store (opened_in store h floors)) refused after
  pub given : DiskState
  pub closed : Closed tells after given
  pub says : SaysGrown tells given refused output new
  pub holds : new.areas ≡ given.areas

-- the store opens as this history; no line is answered, or a growth keeps the promise
abbrev pub GrowthOpenedKeeps : Bool → History Value → (ℕ → ℕ) → DiskState → Output → DiskState → Type 0
GrowthOpenedKeeps tells h floors old output new =
    (store : StoreValue) × Opens tells old 1 store × ((new ≡ disk_of store) ⊎ GrowthKeeps tells h floors store output new)

-- of whatever history the image stands for: the store does not open, or a growth keeps the promise
abbrev pub GrowingKeeps : Bool → DiskState → Output → DiskState → Type 0
GrowingKeeps tells old output new = (header : AnyHeader) (h : History Value) (floors : ℕ → ℕ) → IsImageOf header (image_of old.areas) h floors
    → ((f : OpenFault) × OpenRefuses tells old f new) ⊎ GrowthOpenedKeeps tells h floors old output new

-- So are `floorof` and `finish`.
pub record FloorKeeps (tells : Bool) (h : History Value) (floors : ℕ → ℕ) (store : StoreValue) (relation time : ℕ) (output : Output)
    (new : DiskState) : Type 0 where
  pub refused : Option Reply
  pub after : ScriptMoment
  pub does : DoesJob (LineLeads tells) (line.Floor (Some relation) time) (first_script_moment store (opened_in store h floors)) refused after
  pub closed : Closed tells after new
  pub says : SaysRaised time refused output

-- the store opens as this history; no line is answered, or a floor keeps the promise
abbrev pub FloorOpenedKeeps : Bool → History Value → (ℕ → ℕ) → DiskState → ℕ → ℕ → Output → DiskState → Type 0
FloorOpenedKeeps tells h floors old relation time output new =
    (store : StoreValue) × Opens tells old 1 store × ((new ≡ disk_of store) ⊎ FloorKeeps tells h floors store relation time output new)

-- of whatever history the image stands for: the store does not open, or a floor keeps the promise
abbrev pub RaisingKeeps : Bool → DiskState → ℕ → ℕ → Output → DiskState → Type 0
RaisingKeeps tells old relation time output new = (header : AnyHeader) (h : History Value) (floors : ℕ → ℕ) → IsImageOf header (image_of old.areas) h floors
    → ((f : OpenFault) × OpenRefuses tells old f new) ⊎ FloorOpenedKeeps tells h floors old relation time output new

-- ---- an empty store

-- Whatever a stop may leave of what was made is kept as the empty history, with these slots or extents.
pub record LeavesEmpty (tells : Bool) (layout : StoreLayout) (new : DiskState) : Type 0 where
  pub kept : (image : Image) → LeavesImage new.areas image → IsKeptAs tells image [] (λ relation. 0)
  pub has : (image : Image) → LeavesImage new.areas image → RecoversHeader tells image (header_of layout)

-- an empty store is made, or none, and the disk is as this says
abbrev pub MakingKeeps : Bool → DiskState → StoreLayout → DiskState → Type 0
MakingKeeps tells old layout new = LeavesEmpty tells layout new ⊎ ((f : FormatFault) × FormatRefuses tells layout old f new)

-- ---- one question

-- the reply of a refusal that the write sets say
abbrev pub refusal_of : QueryRefusal → Reply
refusal_of (answers.BeforeKept floor) = reply.Refused (fault.Query (query.BeforeKept floor))
refusal_of (answers.NotYet last) = reply.Refused (fault.Query (query.NotYet last))
refusal_of answers.EmptyInterval = reply.Refused (fault.Query query.EmptyInterval)

-- the reply is the value of a key at a time that the write sets say, or their refusal
abbrev pub IsValueReply : Result (Option Value) QueryRefusal → Reply → Type 0
IsValueReply (Ok value) r = r ≡ reply.Found value
IsValueReply (Err why) r = r ≡ refusal_of why

-- the reply is the rows of a key in an interval that the write sets say, or their refusal
abbrev pub IsRowsReply : Result (List (Version Value)) QueryRefusal → Reply → Type 0
IsRowsReply (Ok rows) r = (found : Vec (Version Value) Global) × (found.items ≡ rows) × (r ≡ reply.Rows found)
IsRowsReply (Err why) r = r ≡ refusal_of why

-- the reply of records that were found, or of a refusal
abbrev pub IsFoundReply : Result (List (ℕ × Value)) QueryRefusal → Reply → Type 0
IsFoundReply (Ok records) r = (found : Vec (ℕ × Value) Global) × (found.items ≡ records) × (r ≡ reply.Records found)
IsFoundReply (Err why) r = r ≡ refusal_of why

-- the reply is the records of a relation at a time that the write sets say, or their refusal
abbrev pub IsRecordsReply : History Value → (ℕ → ℕ) → ℕ → ℕ → Reply → Type 0
IsRecordsReply h floors relation time r =
    (said : Result (List (ℕ × Value)) QueryRefusal) × IsScanAtAnswer h floors relation time said × IsFoundReply said r

-- the reply is these times
abbrev pub IsTimesReply : List ℕ → Reply → Type 0
IsTimesReply times r = (found : Vec ℕ Global) × (found.items ≡ times) × (r ≡ reply.Times found)

-- the reply to a question is what the write sets say: at the floor of the relation, at the time that was said, or at that of the last commit
abbrev pub IsReplyTo : Question → History Value → (ℕ → ℕ) → Reply → Type 0
IsReplyTo (question.Value key time) h floors r = IsValueReply (at_answer h floors key (time_asked (floors key.relation) (last h) time)) r
IsReplyTo (question.Records relation time) h floors r = IsRecordsReply h floors relation (time_asked (floors relation) (last h) time) r
IsReplyTo (question.Rows key from to) h floors r =
    IsRowsReply (between_answer h floors key (time_asked (floors key.relation) (last h) from) (end_asked (floors key.relation) (last h) to)) r
IsReplyTo (question.Times label) h floors r = IsTimesReply (times_of h label) r

-- this is replied, or that memory or the device gave out
abbrev pub OrGaveOut : (Reply → Type 0) → Reply → Type 0
OrGaveOut Is r = Is r ⊎ ((r ≡ reply.Refused (fault.Query query.NoMemory)) ⊎ (r ≡ reply.Refused (fault.Query query.Device)))

-- The line of a question is answered as one of a script, and the store is closed: at every moment whatever a stop may leave survives. What is printed, in this
-- style, is what the write sets of the history say.
pub record QuestionKeeps (tells : Bool) (style : Style) (h : History Value) (floors : ℕ → ℕ) (store : StoreValue) (asks : Line) (Is : Reply
    → Type 0) (output : Output) (new : DiskState) : Type 0 where
  pub answer : Reply
  pub after : ScriptMoment
  pub line : LineKeeps tells asks answer (first_script_moment store (opened_in store h floors)) after
  pub closed : Closed tells after new
  pub printed : IsToldIn style output answer
  pub says : OrGaveOut Is answer

-- the store opens as this history; there is no memory for a session, or the question is answered by the history
abbrev pub QuestionOpenedKeeps : Bool → Style → History Value → (ℕ → ℕ) → DiskState → (StoreValue → Line) → (Reply → Type 0) → Output → DiskState → Type 0
QuestionOpenedKeeps tells style h floors old asks Is output new =
    (store : StoreValue) × Opens tells old 1 store
    × (((new ≡ disk_of store) × IsRefused output (refusal_line fault.NoMemory)) ⊎ QuestionKeeps tells style h floors store (asks store) Is output new)

-- of whatever history the image stands for: the store does not open, since the device or memory gives out, or the question is answered by that history
abbrev pub AskingKeeps : Bool → Style → DiskState → (StoreValue → Line) → (History Value → (ℕ → ℕ) → Reply → Type 0) → Output → DiskState → Type 0
AskingKeeps tells style old asks Is output new = (header : AnyHeader) (h : History Value) (floors : ℕ → ℕ) → IsImageOf header (image_of old.areas) h floors
    → ((f : OpenFault) × OpenRefuses tells old f new × IsReadFault f × IsRefused output (open_line f))
    ⊎ QuestionOpenedKeeps tells style h floors old asks (Is h floors) output new

-- ---- one write

-- The lines of a write are answered as those of a script, up to the first that is refused, and the store is closed: at every moment whatever a stop may leave
-- survives, with the commit once `done` is its answer. The last answer is printed.
pub record WriteKeeps (tells : Bool) (h : History Value) (floors : ℕ → ℕ) (store : StoreValue) (lines : List Text) (output : Output)
    (new : DiskState) : Type 0 where
  pub answer : Reply
  pub after : ScriptMoment
  pub does : AnswersInTurn (LineLeads tells) reply.Ok lines (first_script_moment store (opened_in store h floors)) answer after
  pub closed : Closed tells after new
  pub printed : IsTold output answer

-- the store opens as this history; no line is answered, or lines are
abbrev pub WriteOpenedKeeps : Bool → History Value → (ℕ → ℕ) → DiskState → List Text → Output → DiskState → Type 0
WriteOpenedKeeps tells h floors old lines output new =
    (store : StoreValue) × Opens tells old 1 store × ((new ≡ disk_of store) ⊎ WriteKeeps tells h floors store lines output new)

-- the disk is as it was; or of whatever history the image stands for: the store does not open, or the write keeps the promise
abbrev pub WritingKeeps : Bool → DiskState → List Text → Output → DiskState → Type 0
WritingKeeps tells old lines output new = (new ≡ old) ⊎ ((header : AnyHeader) (h : History Value) (floors : ℕ
    → ℕ) → IsImageOf header (image_of old.areas) h floors → ((f : OpenFault) × OpenRefuses tells old f new)
    ⊎ WriteOpenedKeeps tells h floors old lines output new)

-- ---- actions

-- What each action keeps. A script is run on an empty store, or on the one that a disk holds, of whatever history its image stands for, and so are the lines of
-- a vacuum, of a growth, of a floor, of a question and of a write: at every moment whatever a stop may leave survives. What is printed of a question is
-- what the write sets of that
-- history say. A store that was made is kept as the empty history, and a dump and what is told of a store leave the areas as they were.
abbrev pub KeepsPromise : Bool → Action → DiskState → Input → Output → DiskState → Type 0
KeepsPromise tells action.Example old input output new = ((f : FormatFault) × FormatRefuses tells (Slots 16) old f new) ⊎ NewRunKeeps tells old input output new
KeepsPromise tells (action.Run dir) old input output new =
    (header : AnyHeader) (h : History Value) (floors : ℕ → ℕ) → IsImageOf header (image_of old.areas) h floors → RunKeeps tells h floors old input output new
KeepsPromise tells (action.Format dir layout) old input output new = MatchOption layout (new ≡ old) (λ l. MakingKeeps tells old (store_layout l) new)
KeepsPromise tells (action.At dir key time) old input output new =
    MatchOption time (new ≡ old)
    (λ t. AskingKeeps tells plain old (λ store. line.At key t) (λ h floors. IsValueReply (at_answer h floors key t)) output new)
KeepsPromise tells (action.Between dir key from to) old input output new =
    MatchOption from (new
    ≡ old) (λ a. MatchOption to (new
    ≡ old) (λ b. AskingKeeps tells plain old (λ store. line.Between key a b) (λ h floors. IsRowsReply (between_answer h floors key a b)) output new))
KeepsPromise tells (action.Ask dir asked style) old input output new =
    MatchOption asked (new ≡ old) (λ q. AskingKeeps tells style old (line_asked q) (IsReplyTo q) output new)
KeepsPromise tells (action.Write dir write) old input output new = WritingKeeps tells old (write_lines write) output new
KeepsPromise tells (action.Vacuum dir time) old input output new = MatchOption time (new ≡ old) (λ t. VacuumingKeeps tells old t output new)
KeepsPromise tells (action.Grow dir) old input output new = GrowingKeeps tells old output new
KeepsPromise tells (action.Floor dir relation time) old input output new = MatchOption time (new ≡ old) (λ t. RaisingKeeps tells old relation t output new)
KeepsPromise tells (action.Info dir json) old input output new = new.areas ≡ old.areas
KeepsPromise tells (action.Dump dir) old input output new = new.areas ≡ old.areas
KeepsPromise tells (action.Stress writers readers rounds) old input output new = new ≡ old
