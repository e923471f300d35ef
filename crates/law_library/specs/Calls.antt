-- What a program calls of an open store, and what each call does.
use Rattle.std.specs.Prelude.{ℕ, ◌≡◌, ◌<◌, ◌^◌, List, ◌∷◌, Option, None, Some}
use Rattle.history.specs.declared.key.Key.{Key}
use Rattle.c_engine.specs.Engines.{BeginsEngine, Writes, SubmitsEngine, AbortsEngine, PumpsEngine, RedeemsEngine, GivesUp, GivesView, EndsView, ArchivesEngine}
use Rattle.c_engine.specs.Engines.{ReclaimsEngine, RaisesEngine, RaisesFloorOf, GrowsEngine, PumpsJobOf}
use Rattle.c_engine.specs.Writes.{Puts, Deletes}
use Rattle.c_engine.specs.declared.code.Code.{Code}
use Rattle.c_engine.specs.declared.code.Code.TheVariants as code
use Rattle.c_engine.specs.declared.code.Info.{Info}
use Rattle.c_engine.specs.declared.engine.Engine.{Engine}

-- A call of an exported function; transactions, tickets and views are named by their numbers.
pub data LibraryCall : Type 0 where
  -- any that changes nothing: the last time, the device call that is due, what a transaction sees, a query of a view, the times of a label
  Reads : LibraryCall
  Begin : LibraryCall
  -- the bytes are those of a value
  Put : ℕ → Key → List ℕ → LibraryCall
  Delete : ℕ → Key → LibraryCall
  -- a transaction, a label and the time now
  Submit : ℕ → ℕ → ℕ → LibraryCall
  Abort : ℕ → LibraryCall
  Pump : LibraryCall
  Redeem : ℕ → LibraryCall
  GiveUp : ℕ → LibraryCall
  View : LibraryCall
  End : ℕ → LibraryCall
  Archive : ℕ → LibraryCall
  Reclaim : LibraryCall
  -- of one relation, or of all together
  Floor : Option ℕ → ℕ → LibraryCall
  Grow : LibraryCall
  JobPump : LibraryCall

-- what a call tells
pub record Reply : Type 0 where
  pub said : Code
  pub info : Info

-- a floor begins to rise
abbrev pub RaisesFloor : Option ℕ → ℕ → Engine → Code → Info → Engine → Type 0
RaisesFloor None time = RaisesEngine time
RaisesFloor (Some relation) time = RaisesFloorOf relation time

-- the call does this to the engine, by the clause of its exported function
abbrev pub Exports : LibraryCall → Reply → Engine → Engine → Type 0
Exports Reads r old new = new ≡ old
Exports Begin r old new = BeginsEngine old r.said r.info new
Exports (Put number key bytes) r old new = Writes number (Puts key bytes) old r.said new
Exports (Delete number key) r old new = Writes number (Deletes key) old r.said new
Exports (Submit number label now) r old new = (label < 2 ^ 64) × SubmitsEngine number label now old r.said r.info new
Exports (Abort number) r old new = AbortsEngine number old r.said new
Exports Pump r old new = PumpsEngine old r.said r.info new
Exports (Redeem number) r old new = RedeemsEngine number old r.said r.info new
Exports (GiveUp number) r old new = GivesUp number old r.said new
Exports View r old new = GivesView old r.said r.info new
Exports (End number) r old new = EndsView number old r.said new
Exports (Archive upto) r old new = ArchivesEngine upto old r.said r.info new
Exports Reclaim r old new = ReclaimsEngine old r.said r.info new
Exports (Floor scope time) r old new = RaisesFloor scope time old r.said r.info new
Exports Grow r old new = GrowsEngine old r.said r.info new
Exports JobPump r old new = PumpsJobOf old r.said r.info new

-- a redeem that answered TS_OK acknowledges the commit of the time that it tells
abbrev pub with_redeemed : Code → ℕ → List ℕ → List ℕ
with_redeemed code.Ok time done = time ∷ done
with_redeemed said time done = done

-- what is acknowledged once this is told too
abbrev pub with_told : LibraryCall → Reply → List ℕ → List ℕ
with_told (Redeem number) r done = with_redeemed r.said r.info.a done
with_told c r done = done
