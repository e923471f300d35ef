-- What each line of a script keeps, and what the end of its run does.
use Rattle.std.specs.Prelude.{ℕ, ◌≡◌, Bool, List, map, length}
use Rattle.std.specs.List.{AllByRecursion}
use Rattle.disk.specs.Areas.{LeavesNoMore}
use Rattle.disk.specs.Calls.{DiskState}
use Rattle.history.specs.Fronts.{OnFront}
use Rattle.recovery.specs.Faults.{IsReadFault}
use Rattle.recovery.specs.declared.fault.OpenFault.{OpenFault}
use Rattle.any_store.specs.Values.{disk_of}
use Rattle.law_any_store.specs.Standing.{AnyHeader, opened_as}
use Rattle.law_any_store.specs.Opened.{IsHeaderLeftBy, IsOfHeader}
use Rattle.script.specs.declared.line.Line.{Line}
use Rattle.script.specs.declared.line.Line.TheVariants as line
use Rattle.session.specs.Session.{Step}
use Rattle.session.specs.declared.reply.Reply.{Reply}
use Rattle.run.specs.declared.calls.Call.TheVariants as call
use Rattle.run.specs.declared.calls.Answer.TheVariants as answer
use Rattle.run.specs.Moments.{Moment, HasCommitAt}
use Rattle.run.specs.Promise.{Promises, Leaves}
use Rattle.law_script.specs.ScriptMoments.{ScriptMoment, moment_of, with_reply}
use Rattle.law_script.specs.Says.{Exchange, Says}

-- A line is answered by calls: their answers are those of a run of the machine, which the reply says, and whatever a stop may leave before, within or after any
-- of them survives, with every commit of which `done` was written.
pub record KeepsByCalls (tells : Bool) (l : Line) (r : Reply) (before after : ScriptMoment) : Type 0 where
  pub made : Exchange
  pub says : Says before l made r
  pub end : Moment
  pub promises : Promises tells made.calls made.answers (moment_of before) end
  pub store : end.store ≡ after.state.store
  pub machine : end.world.machine ≡ after.machine
  pub done : end.done ≡ after.done
  pub acknowledges : after.done ≡ with_reply r before.done

-- What is open is aborted, and the store is closed: so it is at each of these calls and of the disk that is given back.
pub record Closed (tells : Bool) (before : ScriptMoment) (given : DiskState) : Type 0 where
  -- where the transactions are
  pub places : List ℕ
  pub each : length places ≡ length before.state.opened
  pub end : Moment
  pub promises : Promises tells (map call.Abort places) (map (λ (place : ℕ). answer.Abort) places) (moment_of before) end
  pub disk : disk_of end.store ≡ given
  pub done : end.done ≡ before.done

-- It is closed and opened again, with the slots that there were or those of a piece in the making too, on a history that has every commit of which `done` was
-- written. While it is opened a stop leaves nothing that it might not have left before.
pub record KeepsByOpening (tells : Bool) (before after : ScriptMoment) : Type 0 where
  pub given : DiskState
  pub closed : Closed tells before given
  pub stops : LeavesNoMore given.areas (disk_of after.state.store).areas
  pub header : (header : AnyHeader) × IsHeaderLeftBy closed.end.store header × IsOfHeader after.state.store header
  pub front : OnFront (λ h floors. (after.machine ≡ opened_as header.0 h floors) × AllByRecursion (HasCommitAt h) before.done) closed.end.world.machine
  pub done : after.done ≡ before.done
  pub leaves : Leaves tells (moment_of after)

-- It is closed and does not open, since the device or memory gives out. A stop leaves nothing that it might not have left before.
pub record KeepsUnopened (tells : Bool) (before : ScriptMoment) (why : OpenFault) (disk : DiskState) : Type 0 where
  pub given : DiskState
  pub closed : Closed tells before given
  pub fault : IsReadFault why
  pub stops : LeavesNoMore given.areas disk.areas

-- what a line keeps: a `reopen` by opening again, and any other by its calls
abbrev pub KeepsBy : Bool → Line → Reply → ScriptMoment → ScriptMoment → Type 0
KeepsBy tells line.Reopen r before after = KeepsByOpening tells before after
KeepsBy tells l r before after = KeepsByCalls tells l r before after

-- a line leads from one moment to the next
pub record LineKeeps (tells : Bool) (l : Line) (r : Reply) (before after : ScriptMoment) : Type 0 where
  pub step : Step tells before.state l r after.state
  pub keeps : KeepsBy tells l r before after
