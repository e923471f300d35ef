-- The texts of answers.
use Rattle.std.specs.Prelude.{ℕ, List, [], ◌∷◌, ◌++◌, length, Some, None, codes}
use Rattle.std.specs.List.{flat_map}
use Rattle.std.specs.Fmt.{decimal}
use Rattle.hex.specs.Hex.{encode_lower}
use Rattle.history.specs.declared.time.Version.{Version}
use Rattle.disk.specs.declared.area.Area.{Area}
use Rattle.disk.specs.declared.area.Area.TheVariants as area
use Rattle.group.specs.declared.answers.BeginFault.{BeginFault}
use Rattle.group.specs.declared.answers.BeginFault.TheVariants as begin
use Rattle.group.specs.declared.answers.SubmitFault.{SubmitFault}
use Rattle.group.specs.declared.answers.SubmitFault.TheVariants as submit
use Rattle.group.specs.declared.answers.PumpFault.{PumpFault}
use Rattle.group.specs.declared.answers.PumpFault.TheVariants as pump
use Rattle.snapshot.specs.declared.txn.TxnFault.{TxnFault}
use Rattle.snapshot.specs.declared.txn.TxnFault.TheVariants as txn
use Rattle.timequery.specs.declared.fault.QueryFault.{QueryFault}
use Rattle.timequery.specs.declared.fault.QueryFault.TheVariants as query
use Rattle.store.specs.declared.job.StartFault.{StartFault}
use Rattle.store.specs.declared.job.StartFault.TheVariants as start
use Rattle.recovery.specs.declared.fault.OpenFault.{OpenFault}
use Rattle.recovery.specs.declared.fault.OpenFault.TheVariants as opening
use Rattle.recovery.specs.declared.fault.FormatFault.{FormatFault}
use Rattle.recovery.specs.declared.fault.FormatFault.TheVariants as format
use Rattle.any_store.specs.declared.steps.Did.{Did}
use Rattle.any_store.specs.declared.steps.Did.TheVariants as did
use Rattle.any_store.specs.declared.steps.JobDid.{JobDid}
use Rattle.any_store.specs.declared.steps.JobDid.TheVariants as job
use Rattle.session.specs.declared.fault.Fault.{Fault}
use Rattle.session.specs.declared.fault.Fault.TheVariants as fault
use Rattle.session.specs.declared.reply.Reply.{Reply}
use Rattle.session.specs.declared.reply.Reply.TheVariants as reply

-- the bytes of a text
abbrev pub Text : Type 0
Text = List ℕ

-- a line of no form is told by its number
abbrev pub bad_line : ℕ → Text
bad_line n = codes "line " ++ decimal n ++ codes ": bad\n"

-- two lower-case digits a byte
abbrev pub hex_text : Text → Text
hex_text bytes = encode_lower bytes

-- a field in hex, or a dash where it is empty
abbrev pub field_text : Text → Text
field_text [] = codes "-"
field_text (b ∷ bs) = hex_text (b ∷ bs)

-- each field after a space
abbrev pub fields_text : List Text → Text
fields_text fields = flat_map (λ f. codes " " ++ field_text f) fields

-- the line that says a value
abbrev pub value_text : List Text → Text
value_text fields = codes "value" ++ fields_text fields ++ codes "\n"

-- each number after a space
abbrev pub numbers_text : List ℕ → Text
numbers_text numbers = flat_map (λ n. codes " " ++ decimal n) numbers

-- the line that says the times of a label
abbrev pub times_text : List ℕ → Text
times_text times = codes "times" ++ numbers_text times ++ codes "\n"

-- how many lines came before
abbrev pub rows_line : ℕ → Text
rows_line count = codes "rows " ++ decimal count ++ codes "\n"

-- from when on and up to when a value stood, and its fields
abbrev pub row_text : Version (List Text) → Text
row_text row = decimal row.from ++ (codes " " ++ (decimal row.to ++ (fields_text row.value ++ codes "\n")))

-- a line for each row, and then how many they are
abbrev pub rows_text : List (Version (List Text)) → Text
rows_text rows = flat_map row_text rows ++ rows_line (length rows)

-- a record and its value's fields
abbrev pub record_text : ℕ × List Text → Text
record_text pair = decimal pair.0 ++ (fields_text pair.1 ++ codes "\n")

-- a line for each record, and then how many they are
abbrev pub records_text : List (ℕ × List Text) → Text
records_text found = flat_map record_text found ++ rows_line (length found)

-- the line that says what a step of the group did
abbrev pub step_text : Did → Text
step_text did.Idle = codes "idle\n"
step_text did.WroteExtent = codes "wrote extent\n"
step_text did.GateClosed = codes "gate closed\n"
step_text did.HeapSynced = codes "heap synced\n"
step_text did.BodyWritten = codes "body written\n"
step_text did.BodySynced = codes "body synced\n"
step_text did.GateWritten = codes "gate written\n"
step_text (did.Published count) = codes "published " ++ decimal count ++ codes "\n"

-- the line that says what a step of a job did
abbrev pub job_step_text : JobDid → Text
job_step_text job.Idle = codes "idle\n"
job_step_text job.WroteRun = codes "wrote run\n"
job_step_text job.WroteZeros = codes "wrote zeros\n"
job_step_text job.ZerosSynced = codes "zeros synced\n"
job_step_text job.RunSynced = codes "run synced\n"
job_step_text job.WroteExtent = codes "wrote extent\n"
job_step_text job.HeapSynced = codes "heap synced\n"
job_step_text job.BodyWritten = codes "body written\n"
job_step_text job.BodySynced = codes "body synced\n"
job_step_text job.WroteEntry = codes "wrote entry\n"
job_step_text job.GateClosed = codes "gate closed\n"
job_step_text job.WroteRoll = codes "wrote roll\n"
job_step_text job.RollSynced = codes "roll synced\n"
job_step_text job.RootWritten = codes "root written\n"
job_step_text job.RootSynced = codes "root synced\n"
job_step_text job.TurnWritten = codes "turn written\n"
job_step_text job.GateWritten = codes "gate written\n"
job_step_text job.JobDone = codes "job done\n"

-- the words for why no transaction begins
abbrev pub begin_text : BeginFault → Text
begin_text begin.NoMemory = codes "no memory"
begin_text begin.Failed = codes "failed"

-- the words for why a transaction refuses a write
abbrev pub txn_text : TxnFault → Text
txn_text txn.Missing = codes "missing"
txn_text txn.TooManyKeys = codes "too many keys"
txn_text txn.BadValue = codes "bad value"
txn_text txn.NoMemory = codes "no memory"

-- the words for why a step is refused
abbrev pub pump_text : PumpFault → Text
pump_text pump.Busy = codes "busy"
pump_text pump.NoMemory = codes "no memory"
pump_text pump.Failed = codes "failed"

-- the words for why no store is made
abbrev pub format_text : FormatFault → Text
format_text format.BadSlots = codes "bad slots"
format_text format.Occupied = codes "occupied"
format_text format.Device = codes "device"
format_text format.NoMemory = codes "no memory"

-- the refusal of a damaged store: its area, and the place in it
abbrev pub damage_line : Area → ℕ → Text
damage_line area.Status place = codes "refused: damaged status " ++ decimal place ++ codes "\n"
damage_line area.Heap place = codes "refused: damaged heap " ++ decimal place ++ codes "\n"
damage_line area.Archive place = codes "refused: damaged archive " ++ decimal place ++ codes "\n"

-- the line that says a refusal in these words
abbrev pub refused : Text → Text
refused text = codes "refused: " ++ text ++ codes "\n"

-- the line that says why a submit is refused, with the key of a conflict
abbrev pub submit_line : SubmitFault → Text
submit_line (submit.Conflict key) = codes "refused: conflict " ++ (decimal key.relation ++ (codes " " ++ (decimal key.«record» ++ codes "\n")))
submit_line submit.HeapFull = codes "refused: heap full\n"
submit_line submit.StatusFull = codes "refused: status full\n"
submit_line submit.ClockEnd = codes "refused: clock end\n"
submit_line submit.NoMemory = codes "refused: no memory\n"
submit_line submit.Failed = codes "refused: failed\n"
submit_line submit.Stranger = codes "refused: stranger\n"

-- the line that says why a job does not begin
abbrev pub start_line : StartFault → Text
start_line start.Failed = codes "refused: failed\n"
start_line start.WrongProfile = codes "refused: wrong profile\n"
start_line start.JobBusy = codes "refused: job busy\n"
start_line start.NothingToDo = codes "refused: nothing to do\n"
start_line (start.NotYet last) = codes "refused: not yet " ++ decimal last ++ codes "\n"
start_line start.StatusFull = codes "refused: status full\n"
start_line start.ArchiveFull = codes "refused: archive full\n"
start_line (start.InUse oldest) = codes "refused: in use " ++ decimal oldest ++ codes "\n"
start_line start.HeapFull = codes "refused: heap full\n"
start_line start.NotGrowable = codes "refused: not growable\n"
start_line start.NoMemory = codes "refused: no memory\n"

-- the line that says why a query is refused
abbrev pub query_line : QueryFault → Text
query_line (query.BeforeKept floor) = codes "refused: before kept " ++ decimal floor ++ codes "\n"
query_line (query.NotYet last) = codes "refused: not yet " ++ decimal last ++ codes "\n"
query_line query.EmptyInterval = codes "refused: empty interval\n"
query_line query.Device = codes "refused: device\n"
query_line query.NoMemory = codes "refused: no memory\n"
query_line (query.Damaged start) = codes "refused: damaged archive " ++ decimal start ++ codes "\n"
query_line query.NeedsDisk = codes "refused: needs disk\n"
query_line query.Stranger = codes "refused: stranger\n"

-- the line that says why a store does not open
abbrev pub open_line : OpenFault → Text
open_line opening.NotAStore = codes "refused: not a store\n"
open_line (opening.Damaged part place) = damage_line part place
open_line opening.Device = codes "refused: device\n"
open_line opening.NoMemory = codes "refused: no memory\n"

-- the line that says any refusal
abbrev pub refusal_line : Fault → Text
refusal_line fault.Name = codes "refused: name\n"
refusal_line fault.Time = codes "refused: bad time\n"
refusal_line fault.NoMemory = codes "refused: no memory\n"
refusal_line fault.Stranger = codes "refused: stranger\n"
refusal_line (fault.Begin f) = refused (begin_text f)
refusal_line (fault.Txn f) = refused (txn_text f)
refusal_line (fault.Submit f) = submit_line f
refusal_line (fault.Pump f) = refused (pump_text f)
refusal_line (fault.Start f) = start_line f
refusal_line (fault.Query f) = query_line f
refusal_line (fault.Open f) = open_line f
refusal_line (fault.Format f) = refused (format_text f)

-- the line of an answer that has one; rows and records have several
abbrev pub line_text : Reply → Text
line_text (reply.Snapshot t) = codes "snapshot " ++ decimal t ++ codes "\n"
line_text reply.Ok = codes "ok\n"
line_text (reply.Found None) = codes "none\n"
line_text (reply.Found (Some value)) = value_text value
line_text reply.Queued = codes "queued\n"
line_text (reply.ReadOnly t) = codes "readonly " ++ decimal t ++ codes "\n"
line_text (reply.Done t) = codes "done " ++ decimal t ++ codes "\n"
line_text reply.Waiting = codes "waiting\n"
line_text reply.InDoubt = codes "in doubt\n"
line_text (reply.Did step) = step_text step
line_text reply.Started = codes "started\n"
line_text (reply.JobDid step) = job_step_text step
line_text (reply.Times times) = times_text times.items
line_text (reply.Rows rows) = []
line_text (reply.Records found) = []
line_text (reply.Opened last floor) = codes "last " ++ (decimal last ++ (codes " floor " ++ (decimal floor ++ codes "\n")))
line_text (reply.OpenedByRelation last many) = codes "last " ++ (decimal last ++ (codes " floors " ++ (decimal many ++ codes "\n")))
line_text (reply.Refused f) = refusal_line f

-- the lines of an answer
abbrev pub text_of : Reply → Text
text_of (reply.Rows rows) = rows_text rows.items
text_of (reply.Records found) = records_text found.items
text_of r = line_text r
