-- What the library promises a host that upholds what the header asks, in the words of its users.
use Rattle.std.specs.Prelude.{ℕ, ◌≡◌, List, []}
use Rattle.disk.specs.Areas.{AreBytes, settled_on}
use Rattle.history.specs.Histories.{History}
use Rattle.law_image.specs.Values.{Value}
use Rattle.law_any_store.specs.Standing.{AnyHeader, IsImageOf, opened_as}
use Rattle.run.specs.Runs.{Follows}
use Rattle.c_engine.specs.Engines.{OpensEngine}
use Rattle.c_engine.specs.declared.code.Info.{Info}
use Rattle.c_engine.specs.declared.engine.Engine.{Engine}
use Rattle.law_library.specs.Hosts.{Event, Host, HostStep, HostRun, with_event, acknowledged_by}
use Rattle.law_library.specs.Moments.{HostMoment, HostLeaves, HostLeavesWithin, IsHostMoment}

-- an event leads from a moment of the host to one after it
pub record HostLink (e : Event) (before : HostMoment) (new : Host) : Type 0 where
  pub after : HostMoment
  pub host : after.host ≡ new
  pub done : after.at.done ≡ with_event e before.at.done
  pub follows : Follows before.at.world.machine after.at.world.machine
  pub is : IsHostMoment after

-- this event leads so from each moment
abbrev pub EventLeads : Event → Type 0
EventLeads e = (before : HostMoment) (new : Host) → IsHostMoment before → HostStep e before.host new → HostLink e before new

-- at each moment, and while the host makes the device call that is due, whatever a stop may leave survives
abbrev pub MomentLeaves : Type 0
MomentLeaves = (m : HostMoment) → IsHostMoment m → HostLeaves m × HostLeavesWithin m

-- a store that is opened from the bytes of an image that stands for a history is at a first moment, with nothing acknowledged
abbrev pub OpensAtMoment : Type 0
OpensAtMoment = (status heap archive : List ℕ) (mark : ℕ) (info : Info) (e : Engine) (header : AnyHeader) (h : History Value) (floors : ℕ → ℕ) → AreBytes status
    → AreBytes heap → AreBytes archive
    → IsImageOf header (record { status = status; heap = heap; archive = archive }) h floors → OpensEngine status heap archive mark info e
    → (m : HostMoment) × (m.host ≡ record { engine = e; areas = settled_on (record { status = status; heap = heap; archive = archive }) }) × (m.at.done ≡ [])
    × (m.at.world.machine ≡ opened_as header h floors) × IsHostMoment m

-- what holds after some events: the host is at a moment that the machine has come to, and whatever a stop may leave of its areas survives, with every commit
-- that was acknowledged
pub record HostKeeps (header : AnyHeader) (h : History Value) (floors : ℕ → ℕ) (events : List Event) (host : Host) : Type 0 where
  pub moment : HostMoment
  pub is_host : moment.host ≡ host
  pub acknowledged : moment.at.done ≡ acknowledged_by events []
  pub follows : Follows (opened_as header h floors) moment.at.world.machine
  pub leaves : HostLeaves moment
  pub within : HostLeavesWithin moment

-- The whole promise: for every list of events, on a store opened from the bytes of an image that stands for some history.
abbrev pub LibraryPromise : Type 0
LibraryPromise = (status heap archive : List ℕ) (mark : ℕ) (info : Info) (e : Engine) (header : AnyHeader) (h : History Value) (floors : ℕ → ℕ)
    (events : List Event) (host : Host) → AreBytes status → AreBytes heap → AreBytes archive
    → IsImageOf header (record { status = status; heap = heap; archive = archive }) h floors → OpensEngine status heap archive mark info e
    → HostRun events (record { engine = e; areas = settled_on (record { status = status; heap = heap; archive = archive }) }) host
    → HostKeeps header h floors events host
