-- What a host does that upholds what the header asks of it.
use Rattle.std.specs.Prelude.{ℕ, ◌≡◌, true, false, List, [], ◌∷◌, length, Option, MatchOption}
use Rattle.disk.specs.Areas.{Areas}
use Rattle.disk.specs.Calls.{MadeInPart}
use Rattle.any_store.specs.Values.{disk_of}
use Rattle.c_engine.specs.Engines.{HasCalled, due_in, due_call}
use Rattle.c_engine.specs.HostCalls.{HostCall, made, Writes, Syncs}
use Rattle.c_engine.specs.declared.engine.Engine.{Engine}
use Rattle.law_library.specs.Calls.{LibraryCall, Reply, Exports, with_told}

-- the store in the handle, and the areas as the host has them
pub record Host : Type 0 where
  pub engine : Engine
  pub areas : Areas

-- what its program does next
pub data Event : Type 0 where
  Calls : LibraryCall → Reply → Event
  -- it makes the device call that is due and says so, and is told what the step did
  Makes : Reply → Event
  -- the device refuses it, and the host says so
  Refuses : Reply → Event

-- the device call that is due, which ts_call tells
abbrev pub due_of : Engine → Option HostCall
due_of e = due_call (due_in e.state) (disk_of e.store).areas

-- a refused call has changed nothing, or a write was made in part
abbrev pub IsRefusedIn : HostCall → Areas → Areas → Type 0
IsRefusedIn (Writes area at bytes) old new = MadeInPart area at (length bytes) old new
IsRefusedIn (Syncs area) old new = new ≡ old

-- what an event does to the areas of a host for which this call is due, or none
abbrev pub IsDone : Event → Option HostCall → Areas → Areas → Type 0
IsDone (Calls c r) due old new = new ≡ old
IsDone (Makes r) due old new = MatchOption due (new ≡ old) (λ call. new ≡ made call old)
IsDone (Refuses r) due old new = MatchOption due (new ≡ old) (λ call. IsRefusedIn call old new)

-- and what to its engine
abbrev pub IsTold : Event → Engine → Engine → Type 0
IsTold (Calls c r) old new = Exports c r old new
IsTold (Makes r) old new = HasCalled true old r.said r.info new
IsTold (Refuses r) old new = HasCalled false old r.said r.info new

-- An event of a host.
pub record HostStep (e : Event) (old new : Host) : Type 0 where
  pub told : IsTold e old.engine new.engine
  pub done : IsDone e (due_of old.engine) old.areas new.areas

-- one event after another
abbrev pub HostRun : List Event → Host → Host → Type 0
HostRun [] start end = end ≡ start
HostRun (e ∷ es) start end = (next : Host) × HostStep e start next × HostRun es next end

-- what is acknowledged after an event
abbrev pub with_event : Event → List ℕ → List ℕ
with_event (Calls c r) done = with_told c r done
with_event (Makes r) done = done
with_event (Refuses r) done = done

-- what is acknowledged by all of these, beside what was before them
abbrev pub acknowledged_by : List Event → List ℕ → List ℕ
acknowledged_by [] done = done
acknowledged_by (e ∷ es) done = acknowledged_by es (with_event e done)
