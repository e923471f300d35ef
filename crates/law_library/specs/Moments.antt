-- The moments between the events of a host.
use Rattle.std.specs.Prelude.{ℕ, ◌≡◌, ◌⊎◌, ◌++◌, true, List, slice_get, Option, None, Some, MatchOption}
use Rattle.disk.specs.Areas.{AreSound, Image, LeavesImage}
use Rattle.disk.specs.Within.{LeavesWithin}
use Rattle.history.specs.Histories.{History, last}
use Rattle.law_image.specs.Values.{Value}
use Rattle.any_store.specs.Values.{disk_of}
use Rattle.run.specs.declared.held.Held.{Held}
use Rattle.run.specs.declared.held.Held.TheVariants as held
use Rattle.run.specs.Moments.{Moment, IsAtMoment}
use Rattle.run.specs.Promise.{Survives}
use Rattle.c_engine.specs.Engines.{due_in, due_call}
use Rattle.c_engine.specs.Held.{named}
use Rattle.c_engine.specs.HostCalls.{HostCall, made}
use Rattle.c_engine.specs.declared.engine.Published.{Published}
use Rattle.c_engine.specs.declared.engine.EngineState.{EngineState}
use Rattle.c_engine.specs.declared.engine.EngineState.TheVariants.{Settled, Asks, Failed}
use Rattle.c_engine.specs.declared.places.Held.TheVariants.{Nothing, Transaction, Ticket, View}
use Rattle.c_engine.specs.declared.places.Held as engine
use Rattle.c_engine.specs.declared.places.Places.{Places}
use Rattle.law_library.specs.Hosts.{Host}

-- ---- numbers and places

-- what a number names, as a place of a list of calls holds it
abbrev pub held_as : engine.Held → Option Held
held_as Nothing = None
held_as (Transaction txn) = Some (held.Transaction txn)
held_as (Ticket ticket) = Some (held.Ticket ticket)
held_as (View view) = Some (held.View view)

-- Each number that names something has a place of its own in the list, which holds the same.
pub record Holds (places : Places) (xs : List Held) (at : ℕ → ℕ) : Type 0 where
  pub same : (n : ℕ) (x : Held) → held_as (named places n) ≡ Some x → slice_get xs (at n) ≡ Some x
  pub once : (n m : ℕ) (x y : Held) → held_as (named places n) ≡ Some x → held_as (named places m) ≡ Some y → at n ≡ at m → n ≡ m

-- ---- moments

-- A host between two events.
pub record HostMoment : Type 0 where
  pub host : Host
  -- the store within, what its callers hold, and what was acknowledged
  pub at : Moment
  -- while a device call is due, and after one that was refused: the store before its step
  pub before : Option Moment

-- It survives: it is kept as a front of what the store stands for or, where a device call was not made yet, of what it stood for before its step; with every
-- commit that was acknowledged.
abbrev pub HostSurvives : HostMoment → Image → Type 0
HostSurvives m image = Survives true m.at image ⊎ MatchOption m.before ⊥ (λ before. Survives true before image)

-- whatever a stop may leave of the host's areas survives
abbrev pub HostLeaves : HostMoment → Type 0
HostLeaves m = (image : Image) → LeavesImage m.host.areas image → HostSurvives m image

-- and so does whatever it may leave while the host makes the device call that is due
abbrev pub HostLeavesWithin : HostMoment → Type 0
HostLeavesWithin m = MatchOption (due_call (due_in m.host.engine.state) (disk_of m.host.engine.store).areas) (Unit {0})
    (λ call. (image : Image) → LeavesWithin m.host.areas (made call m.host.areas) image → HostSurvives m image)

-- ---- what holds at each

-- the moment before the step whose device call is not made: it is a moment of a store, all that is acknowledged was published then, and what views after a
-- refusal show is what was
pub record WasBefore (m : HostMoment) (before : Moment) : Type 0 where
  pub is_before : m.before ≡ Some before
  pub held : List Held
  pub was : IsAtMoment true before.store held before
  pub done : before.done ≡ m.at.done
  pub more : History Value
  pub goes_on : m.at.world.machine.published ≡ before.world.machine.published ++ more
  pub shown : MatchOption m.host.engine.before ⊥ (λ (p : Published). p.last ≡ last before.world.machine.published)

-- the host has made all that the store has
pub record IsSettled (m : HostMoment) : Type 0 where
  pub none : m.before ≡ None
  pub areas : m.host.areas ≡ (disk_of m.host.engine.store).areas
  pub sound : AreSound m.host.areas

-- a device call is due, which leads from the host's areas to the store's
pub record IsDue (m : HostMoment) : Type 0 where
  pub before : Moment
  pub was : WasBefore m before
  pub areas : m.host.areas ≡ (disk_of before.store).areas
  pub call : HostCall
  pub due : due_call (due_in m.host.engine.state) (disk_of m.host.engine.store).areas ≡ Some call
  pub leads : (disk_of m.host.engine.store).areas ≡ made call m.host.areas
  pub sound : AreSound m.host.areas
  pub sound_after : AreSound (disk_of m.host.engine.store).areas

-- one was refused: a stop leaves what it might have left within it
pub record HasFailed (m : HostMoment) : Type 0 where
  pub before : Moment
  pub was : WasBefore m before
  pub left : (image : Image) → LeavesImage m.host.areas image → LeavesWithin (disk_of before.store).areas (disk_of m.host.engine.store).areas image

-- by how the engine stands
abbrev pub IsAtStage : EngineState → HostMoment → Type 0
IsAtStage Settled m = IsSettled m
IsAtStage (Asks step) m = IsDue m
IsAtStage Failed m = HasFailed m

-- The engine and the areas of a host are at this moment.
pub record IsHostMoment (m : HostMoment) : Type 0 where
  pub held : List Held
  pub is : IsAtMoment true m.host.engine.store held m.at
  pub place : ℕ → ℕ
  pub numbers : Holds m.host.engine.places held place
  pub stage : IsAtStage m.host.engine.state m
