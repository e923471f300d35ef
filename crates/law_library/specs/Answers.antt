-- What the queries of the library answer a host that lends its own archive area.
use Rattle.std.specs.Prelude.{ℕ, ◌≡◌, ◌≢◌, ◌<◌, ◌≤◌, suc, false, List, [], length, slice_get, Option, Some, Result, Ok, Err}
use Rattle.std.specs.List.{AllByRecursion}
use Rattle.std.specs.declared.alloc.Global.{Global}
use Rattle.std.specs.declared.vec.Vec.{Vec}
use Rattle.disk.specs.Areas.{AreBytes, settled_on}
use Rattle.history.specs.declared.key.Key.{Key}
use Rattle.history.specs.declared.time.Version.{Version}
use Rattle.history.specs.Answers.{at_answer, times_of}
use Rattle.history.specs.Histories.{History, last}
use Rattle.law_image.specs.Values.{Value}
use Rattle.timequery.specs.declared.fault.QueryFault.{QueryFault}
use Rattle.timequery.specs.declared.fault.QueryFault.TheVariants.{BeforeKept, NotYet, EmptyInterval, Device, NoMemory, Damaged, NeedsDisk, Stranger}
use Rattle.law_refinement.specs.Laws.{SaysAt, SaysScanAt, SaysBetween, SaysScanBetween}
use Rattle.law_any_store.specs.Standing.{AnyHeader, IsImageOf, opened_as}
use Rattle.run.specs.Moments.{HasCommitAt}
use Rattle.run.specs.Runs.{Follows, SaysRecent}
use Rattle.c_engine.specs.Engines.{OpensEngine, TellsLabels, AreTimesTold, is_failed}
use Rattle.c_engine.specs.Queries.{AsksAt, AsksRecent, AsksScanAt, AsksRows, AsksScanRows, TellsValue, TellsRows, IsFaultCode}
use Rattle.c_engine.specs.Rows.{shown_record, shown_version, shown_entry}
use Rattle.c_engine.specs.declared.code.Code.{Code}
use Rattle.c_engine.specs.declared.code.Code.TheVariants as code
use Rattle.c_engine.specs.declared.code.Info.{Info}
use Rattle.c_engine.specs.declared.code.Row.{Row}
use Rattle.c_engine.specs.declared.engine.Engine.{Engine}
use Rattle.c_engine.specs.declared.engine.EngineState.TheVariants.{Settled}
use Rattle.law_library.specs.Calls.{Reply, View, End}
use Rattle.law_library.specs.Hosts.{Host, Event, Calls, Makes, Refuses, HostStep, HostRun, with_event, acknowledged_by}
use Rattle.law_library.specs.Moments.{HostMoment, IsHostMoment}

-- ---- what is told

-- A key's value at a time is told as the write sets of this history say, or why it is refused. Memory or the device may give out.
abbrev pub TellsAt : History Value → (ℕ → ℕ) → Key → ℕ → Code → Info → List ℕ → Type 0
TellsAt h floors key time said info out =
    (answer : Result (Option Value) QueryFault) × SaysAt (Unit {0}) (at_answer h floors key time) answer × TellsValue answer said info out

-- It is told so from memory alone. A time before a mark may need the archive.
abbrev pub TellsRecently : History Value → (ℕ → ℕ) → Key → ℕ → Code → Info → List ℕ → Type 0
TellsRecently h floors key time said info out =
    (mark : ℕ) × (answer : Result (Option Value) QueryFault) × (mark ≤ last h) × SaysRecent mark time (at_answer h floors key time) answer
    × TellsValue answer said info out

-- so are a relation's records at a time
abbrev pub TellsScanAt : History Value → (ℕ → ℕ) → ℕ → ℕ → Code → Info → List Row → List ℕ → Type 0
TellsScanAt h floors relation time said info rows out =
    (answer : Result (Vec (ℕ × Value) Global) QueryFault) × SaysScanAt (Unit {0}) h floors relation time answer
    × TellsRows shown_record answer said info rows out

-- so are a key's rows of an interval
abbrev pub TellsBetween : History Value → (ℕ → ℕ) → Key → ℕ → ℕ → Code → Info → List Row → List ℕ → Type 0
TellsBetween h floors key a b said info rows out =
    (answer : Result (Vec (Version Value) Global) QueryFault) × SaysBetween (Unit {0}) h floors key a b answer
    × TellsRows (shown_version key.«record») answer said info rows out

-- so are the rows of all records of a relation
abbrev pub TellsScanBetween : History Value → (ℕ → ℕ) → ℕ → ℕ → ℕ → Code → Info → List Row → List ℕ → Type 0
TellsScanBetween h floors relation a b said info rows out =
    (answer : Result (Vec (ℕ × Version Value) Global) QueryFault) × SaysScanBetween (Unit {0}) h floors relation a b answer
    × TellsRows shown_entry answer said info rows out

-- just these times are answered, or memory or the device gave out
abbrev pub AreJust : List ℕ → Result (Vec ℕ Global) QueryFault → Type 0
AreJust times (Ok found) = found.items ≡ times
AreJust times (Err (BeforeKept floor)) = ⊥
AreJust times (Err (NotYet last)) = ⊥
AreJust times (Err EmptyInterval) = ⊥
AreJust times (Err Device) = Unit {0}
AreJust times (Err NoMemory) = Unit {0}
AreJust times (Err (Damaged start)) = ⊥
AreJust times (Err NeedsDisk) = ⊥
AreJust times (Err Stranger) = ⊥

-- the times that were found are told, or why there are none
abbrev pub TellsTimesFound : Result (Vec ℕ Global) QueryFault → Code → Info → List ℕ → Type 0
TellsTimesFound (Ok found) said info times = AreTimesTold found.items said info times
TellsTimesFound (Err why) said info times = IsFaultCode why said info

-- the times of a label are told as the commits of this history say
abbrev pub TellsTimesOf : History Value → ℕ → Code → Info → List ℕ → Type 0
TellsTimesOf h label said info times =
    (answer : Result (Vec ℕ Global) QueryFault) × AreJust (times_of h label) answer × TellsTimesFound answer said info times

-- ---- a host that lends its archive

-- Each query by this number is answered by this history with these floors.
pub record ViewAnswers (host : Host) (number : ℕ) (h : History Value) (floors : ℕ → ℕ) : Type 0 where
  pub at : (key : Key) (time : ℕ) (said : Code) (info : Info) (out : List ℕ)
      → AsksAt host.areas.archive.bytes number key time host.engine said info out → TellsAt h floors key time said info out
  pub recent : (key : Key) (time : ℕ) (said : Code) (info : Info) (out : List ℕ)
      → AsksRecent number key time host.engine said info out → TellsRecently h floors key time said info out
  pub scan_at : (relation time : ℕ) (said : Code) (info : Info) (rows : List Row) (out : List ℕ)
      → AsksScanAt host.areas.archive.bytes number relation time host.engine said info rows out → TellsScanAt h floors relation time said info rows out
  pub between : (key : Key) (a b : ℕ) (said : Code) (info : Info) (rows : List Row) (out : List ℕ)
      → AsksRows host.areas.archive.bytes number key a b host.engine said info rows out → TellsBetween h floors key a b said info rows out
  pub scan_between : (relation a b : ℕ) (said : Code) (info : Info) (rows : List Row) (out : List ℕ)
      → AsksScanRows host.areas.archive.bytes number relation a b host.engine said info rows out → TellsScanBetween h floors relation a b said info rows out

-- ---- the moments of a host

-- an event leads from one moment to the next
pub record IsNext (e : Event) (before after : HostMoment) : Type 0 where
  pub step : HostStep e before.host after.host
  pub done : after.at.done ≡ with_event e before.at.done
  pub follows : Follows before.at.world.machine after.at.world.machine
  pub is : IsHostMoment after

-- The moments before, between and after these events of a host.
pub record HostTrace (events : List Event) : Type 0 where
  pub moment : ℕ → HostMoment
  pub first : IsHostMoment (moment 0)
  pub next : (i : ℕ) (e : Event) → slice_get events i ≡ Some e → IsNext e (moment i) (moment (suc i))

-- it goes from the opening of this store to this host
pub record GoesFrom {events : List Event} (t : HostTrace events) (start : Host) (header : AnyHeader) (h : History Value) (floors : ℕ → ℕ) (end : Host) : Type 0
  where
    pub start_is : (t.moment 0).host ≡ start
    pub machine : (t.moment 0).at.world.machine ≡ opened_as header h floors
    pub none_done : (t.moment 0).at.done ≡ []
    pub end_is : (t.moment (length events)).host ≡ end
    pub all_done : (t.moment (length events)).at.done ≡ acknowledged_by events []

-- every list of events of a host has its moments
abbrev pub EventsHaveMoments : Type 0
EventsHaveMoments = (status heap archive : List ℕ) (mark : ℕ) (info : Info) (e : Engine) (header : AnyHeader) (h : History Value) (floors : ℕ → ℕ)
    (events : List Event) (host : Host) → AreBytes status → AreBytes heap → AreBytes archive
    → IsImageOf header (record { status = status; heap = heap; archive = archive }) h floors → OpensEngine status heap archive mark info e
    → HostRun events (record { engine = e; areas = settled_on (record { status = status; heap = heap; archive = archive }) }) host
    → (t : HostTrace events)
    × GoesFrom t (record { engine = e; areas = settled_on (record { status = status; heap = heap; archive = archive }) }) header h floors host

-- ---- the laws

-- the event does not end this view
abbrev pub LeavesView : ℕ → Event → Type 0
LeavesView number (Calls (End other) r) = other ≢ number
LeavesView number (Calls c r) = Unit {0}
LeavesView number (Makes r) = Unit {0}
LeavesView number (Refuses r) = Unit {0}

-- a write of the archive that was refused has changed nothing of it
abbrev pub LeavesArchive : Event → HostMoment → HostMoment → Type 0
LeavesArchive (Calls c r) before after = Unit {0}
LeavesArchive (Makes r) before after = Unit {0}
LeavesArchive (Refuses r) before after = after.host.areas.archive ≡ before.host.areas.archive

-- The call of this place in the list told the number of a view, before any device call was refused, and no later event up to this moment ended it. Where a
-- write of the archive was refused since, it has changed nothing.
pub record IsOpenView {events : List Event} (t : HostTrace events) (i k number : ℕ) : Type 0 where
  pub reply : Reply
  pub told : slice_get events i ≡ Some (Calls View reply)
  pub ok : reply.said ≡ code.Ok
  pub number_is : reply.info.a ≡ number
  pub later : i < k
  pub within : k ≤ length events
  pub stays : (j : ℕ) (e : Event) → i < j → j < k → slice_get events j ≡ Some e → LeavesView number e
  pub works : is_failed (t.moment i).host.engine.state ≡ false
  pub whole : (j : ℕ) (e : Event) → i < j → j < k → slice_get events j ≡ Some e → LeavesArchive e (t.moment j) (t.moment (suc j))

-- It is answered by what was published when its number was told, which has every commit that was acknowledged till then.
pub record AnswersByMoment (told : HostMoment) (host : Host) (number : ℕ) : Type 0 where
  pub acknowledged : AllByRecursion (HasCommitAt told.at.world.machine.published) told.at.done
  pub answers : ViewAnswers host number told.at.world.machine.published told.at.world.machine.floors

-- so it is of each view, for every list of events and at every moment
abbrev pub ViewsAreAnswered : Type 0
ViewsAreAnswered = (events : List Event) (t : HostTrace events) (i k number : ℕ) → IsOpenView t i k number
    → AnswersByMoment (t.moment i) (t.moment k).host number

-- the times of a label are those of what is published, where no device call is due and none was refused
abbrev pub TimesAreAnswered : Type 0
TimesAreAnswered = (m : HostMoment) (label : ℕ) (said : Code) (info : Info) (times : List ℕ) → IsHostMoment m → m.host.engine.state ≡ Settled
    → TellsLabels m.host.areas.archive.bytes label m.host.engine said info times → TellsTimesOf m.at.world.machine.published label said info times
