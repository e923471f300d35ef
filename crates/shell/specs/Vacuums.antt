-- What a vacuum does, line by line, and what the log says of it.
use Rattle.std.specs.Prelude.{◌≡◌, ◌⊎◌, ℕ, ◌++◌, ◌==◌, Bool, true, false, IsTrue, List, [], ◌∷◌, Option, Some, None, Err, codes, if◌then◌else◌}
use Rattle.std.specs.Option.{option_map_or}
use Rattle.std.specs.Fmt.{decimal}
use Rattle.disk.specs.Calls.{DiskState, looked, refused_answer}
use Rattle.disk.specs.declared.area.Area.TheVariants as area
use Rattle.recovery.specs.declared.fault.OpenFault.{OpenFault}
use Rattle.recovery.specs.declared.fault.OpenFault.TheVariants as opening
use Rattle.recovery.specs.Answers.{after_fault}
use Rattle.status.specs.Reading.{AnswersHeader, HoldsLog, IsHeaderFault, IsLogFault, ReadsHeader, refused_by}
use Rattle.status.specs.declared.fault.LogFault.{LogFault}
use Rattle.status.specs.declared.fault.LogFault.TheVariants as log
use Rattle.status.specs.declared.header.Header.{Header}
use Rattle.wire.specs.declared.slot.Body.{Body}
use Rattle.wire.specs.declared.slot.Body.TheVariants as body
use Rattle.wire.specs.declared.slot.Slot.{Slot}
use Rattle.log_shown.specs.declared.items.LogItem.{LogItem}
use Rattle.log_shown.specs.declared.items.LogItem.TheVariants as says
use Rattle.log_shown.specs.declared.reading.LogExtents.{LogExtents}
use Rattle.log_shown.specs.declared.reading.ShownEnd.TheVariants as ends
use Rattle.log_shown.specs.declared.shown.LogShown.{LogShown}
use Rattle.log_shown.specs.Shown.{IsLogShown}
use Rattle.log_facts.specs.HeapTexts.{IsInfoFault}
use Rattle.log_store.specs.Formats.{HasLogHeader}
use Rattle.script.specs.declared.line.Line.{Line}
use Rattle.script.specs.declared.line.Line.TheVariants as line
use Rattle.session.specs.Texts.{Text}
use Rattle.session.specs.declared.reply.Reply.{Reply}
use Rattle.session.specs.declared.reply.Reply.TheVariants as reply
use Rattle.shell.specs.declared.job_records.JobRecords.{JobRecords}
use Rattle.shell.specs.declared.vacuuming.Job.{Job}
use Rattle.shell.specs.declared.vacuuming.Job.TheVariants as job
use Rattle.shell.specs.declared.vacuuming.Vacuumed.{Vacuumed}
use Rattle.shell.specs.declared.vacuuming.Vacuumed.TheVariants as vacuumed

-- the answer refuses its line
abbrev pub is_refusal : Reply → Bool
is_refusal (reply.Refused f) = true
is_refusal _ = false

-- ---- the lines; a step leads from one moment by a line and its answer to the next moment

-- a line is answered, and `finish` after it; neither is refused
abbrev pub DoesAll : {M : Type 0} → (M → Line → Reply → M → Type 0) → Line → M → M → Type 0
DoesAll step l old new = (r : Reply) × (mid : _) × (s : Reply) × step old l r mid × (is_refusal r ≡ false) × step mid line.Finish s new × (is_refusal s ≡ false)

-- the line is refused so, and nothing comes after it; or it is not, and `finish` is
abbrev pub DoesPart : {M : Type 0} → (M → Line → Reply → M → Type 0) → Line → M → Reply → M → Type 0
DoesPart step l old refusal new =
    (is_refusal refusal ≡ true)
    × (step old l refusal new ⊎ ((r : Reply) × (mid : _) × step old l r mid × (is_refusal r ≡ false) × step mid line.Finish refusal new))

-- the job that a line begins is done, or refused so
abbrev pub DoesJob : {M : Type 0} → (M → Line → Reply → M → Type 0) → Line → M → Option Reply → M → Type 0
DoesJob step l old None new = DoesAll step l old new
DoesJob step l old (Some refusal) new = DoesPart step l old refusal new

-- `archive` up to a time, `finish`, `reclaim` and `finish` are answered in this order, until one is refused
abbrev pub DoesVacuum : {M : Type 0} → (M → Line → Reply → M → Type 0) → ℕ → M → Vacuumed → M → Type 0
DoesVacuum step upto old (vacuumed.Nothing refusal) new = DoesPart step (line.Archive upto) old refusal new
DoesVacuum step upto old (vacuumed.Archived refusal) new = (mid : _) × DoesAll step (line.Archive upto) old mid × DoesPart step line.Reclaim mid refusal new
DoesVacuum step upto old vacuumed.Both new = (mid : _) × DoesAll step (line.Archive upto) old mid × DoesAll step line.Reclaim mid new

-- ---- the log where it is slots

-- this log stands on the disk, which is as it was
abbrev pub HasLog : Bool → DiskState → List Slot → DiskState → Type 0
HasLog tells old slots new =
    (header : Header) × (IsTrue tells → ReadsHeader old.areas.status.bytes header) × (IsTrue tells → HoldsLog header old.areas.status.bytes slots) × (new ≡ old)

-- no header is read, or no log that follows it
abbrev pub HasNoHeaderFor : List ℕ → LogFault → Type 0
HasNoHeaderFor bytes why = (header : Header) → ReadsHeader bytes header → AnswersHeader header (Err why)

-- the header is read, and the log that follows it has this fault
abbrev pub HasNoLogFor : List ℕ → LogFault → Type 0
HasNoLogFor bytes why = (header : Header) × ReadsHeader bytes header × IsLogFault header bytes why

-- no log is read, and the disk is as it was
abbrev pub LacksLog : Bool → DiskState → LogFault → DiskState → Type 0
LacksLog tells old why new =
    (IsTrue tells → (IsHeaderFault why × HasNoHeaderFor old.areas.status.bytes why) ⊎ HasNoLogFor old.areas.status.bytes why) × (new ≡ refused_by why old)

-- the records that a slot's body names, where it is that of a job up to this time
abbrev pub records_of : Job → ℕ → Body → Option ℕ
records_of job.Archive upto (body.Archived run) = if run.upto == upto then Some run.records else None
records_of job.Reclaim upto (body.Reclaimed anchors) = if anchors.upto == upto then Some anchors.records else None
records_of kind upto slot = None

-- those that the log names for it, in the one slot that it may have of it; 0 where it has none
abbrev pub records_in : Job → ℕ → List Slot → ℕ
records_in kind upto [] = 0
records_in kind upto (slot ∷ slots) = option_map_or (λ (n : ℕ). n) (records_of kind upto slot.body) (records_in kind upto slots)

-- ---- the log of either layout

-- what a fault of the log is called where a store is opened
abbrev pub open_fault_of : LogFault → OpenFault
open_fault_of log.NotAStore = opening.NotAStore
open_fault_of (log.Damaged slot) = opening.Damaged area.Status slot
open_fault_of log.Device = opening.Device
open_fault_of log.NoMemory = opening.NoMemory

-- what these slots name for both jobs up to this time
abbrev pub named_by_slots : ℕ → List Slot → JobRecords
named_by_slots upto slots = record { archived = records_in job.Archive upto slots; reclaimed = records_in job.Reclaim upto slots }

-- the records that a thing names that a log in the heap says, where it is of a job up to this time: a run for an archive, the base for a reclaim
abbrev pub records_said : Job → ℕ → LogItem → Option ℕ
records_said job.Archive upto (says.BaseRun run) = if run.upto == upto then Some run.records else None
records_said job.Archive upto (says.Run head run) = if run.upto == upto then Some run.records else None
records_said job.Reclaim upto (says.Base head mark anchors) = if mark == upto then Some anchors.records else None
records_said kind upto item = None

-- those that the log names for it, in the one thing that it may say of it; 0 where it says none
abbrev pub records_among : Job → ℕ → List LogItem → ℕ
records_among kind upto [] = 0
records_among kind upto (item ∷ items) = option_map_or (λ (n : ℕ). n) (records_said kind upto item) (records_among kind upto items)

-- what these things name for both jobs up to this time
abbrev pub named_by_items : ℕ → List LogItem → JobRecords
named_by_items upto items = record { archived = records_among job.Archive upto items; reclaimed = records_among job.Reclaim upto items }

-- slots stand on the disk, which is as it was, and name so many
abbrev pub SlotsName : Bool → ℕ → DiskState → JobRecords → DiskState → Type 0
SlotsName tells upto old counts new = (slots : List Slot) × HasLog tells old slots new × (counts ≡ named_by_slots upto slots)

-- a log stands in the heap of which no check fails, and names so many; the disk is as it was
pub record HeapNames (tells : Bool) (upto : ℕ) (old : DiskState) (counts : JobRecords) (new : DiskState) : Type 0 where
  pub shown : LogShown
  pub extents : LogExtents
  pub stands : IsTrue tells → IsLogShown old.areas.status.bytes old.areas.heap.bytes shown
  pub right : shown.end ≡ ends.Right extents
  pub counts_are : counts ≡ named_by_items upto shown.items.items
  pub same : new ≡ old

-- the log of the layout that the header tells names so many
abbrev pub LogNames : Bool → ℕ → DiskState → JobRecords → DiskState → Type 0
LogNames tells upto old counts new =
    ((IsTrue tells → ¬ HasLogHeader old.areas.status.bytes) × SlotsName tells upto old counts new)
    ⊎ ((IsTrue tells → HasLogHeader old.areas.status.bytes) × HeapNames tells upto old counts new)

-- no slots are read
abbrev pub LacksSlots : Bool → DiskState → OpenFault → DiskState → Type 0
LacksSlots tells old why new = (fault : LogFault) × LacksLog tells old fault new × (why ≡ open_fault_of fault)

-- no log in the heap is read
abbrev pub LacksHeap : Bool → DiskState → OpenFault → DiskState → Type 0
LacksHeap tells old why new = (IsTrue tells → IsInfoFault old.areas.status.bytes old.areas.heap.bytes why) × (new ≡ after_fault why old)

-- no log is read, or its header can't be
abbrev pub LogNamesNone : Bool → DiskState → OpenFault → DiskState → Type 0
LogNamesNone tells old why new =
    ((IsTrue tells → ¬ HasLogHeader old.areas.status.bytes) × LacksSlots tells old why new)
    ⊎ (((IsTrue tells → HasLogHeader old.areas.status.bytes) × LacksHeap tells old why new)
    ⊎ ((why ≡ opening.Device) × (new ≡ looked refused_answer old)))

-- ---- what is said

-- the line that says how many records the archive wrote, by the log
abbrev pub archived_line : JobRecords → Text
archived_line counts = codes "archived " ++ (decimal counts.archived ++ codes "\n")

-- the line that says how many records the anchors of the reclaim hold, by the log
abbrev pub reclaimed_line : JobRecords → Text
reclaimed_line counts = codes "reclaimed " ++ (decimal counts.reclaimed ++ codes "\n")
