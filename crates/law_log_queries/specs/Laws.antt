-- A store with its archive stands for a state of the machine, from its opening on.
use Rattle.std.specs.Prelude.{ℕ, Bool, IsTrue, List}
use Rattle.disk.specs.Areas.{AreSound, LeavesImage, image_of}
use Rattle.disk.specs.Calls.{DiskState}
use Rattle.history.specs.Fronts.{OnFront}
use Rattle.history.specs.Histories.{History}
use Rattle.history.specs.Machine.{Machine, opened_by}
use Rattle.history.specs.Steps.{Event, Run}
use Rattle.law_image.specs.Values.{Value, IsValue}
use Rattle.log_roots.specs.declared.roots.Roots.{Roots}
use Rattle.log_store.specs.Values.{LogStoreValue, IsInStep}
use Rattle.log_store.specs.Opens.{Opens}
use Rattle.law_log_store.specs.Standing.{IsImageOf}
use Rattle.law_log_steps.specs.Store.{IsStoreOf}
use Rattle.law_log_queries.specs.Archive.{Stands, GoesOn}
use Rattle.law_log_queries.specs.Calls.{IsCall, LeadsTo}

-- ---- opening

-- a store that was opened on an image which stands for a history stands for a machine that is opened on it
abbrev pub OpenStands : Type 0
OpenStands =
    (tells : Bool) (old : DiskState) (mark : ℕ) (v : LogStoreValue) (roots : Roots) (h : History Value) (floors : ℕ → ℕ) → IsTrue tells → AreSound old.areas
    → IsImageOf roots (image_of old.areas) h floors → Opens tells old mark v → Stands tells v (opened_by 1024 h floors)

-- so does a store that is opened on what a stop left, for a front of the machine
abbrev pub StopReopens : Type 0
StopReopens =
    (tells : Bool) (v : LogStoreValue) (m : Machine Value) (old : DiskState) (mark : ℕ) (again : LogStoreValue) → IsTrue tells → IsInStep v
    → IsStoreOf tells v m
    → LeavesImage v.disk.areas (image_of old.areas) → AreSound old.areas → Opens tells old mark again
    → OnFront (λ h floors. Stands tells again (opened_by 1024 h floors)) m

-- ---- calls

-- What a call leads to: the store stands for a state of the machine, and its views go on.
pub record GoesTo (tells : Bool) (old new : LogStoreValue) : Type 0 where
  pub after : Machine Value
  pub stands : Stands tells new after
  pub goes : GoesOn tells old new

-- A call keeps the archive for whatever state the store then stands for, where the machine has run to it.
abbrev pub CallKeeps : Type 0
CallKeeps =
    (tells : Bool) (old new : LogStoreValue) (m after : Machine Value) (events : List (Event Value)) → Stands tells old m → IsCall tells old new
    → Run IsValue m events after → IsStoreOf tells new after → Stands tells new after × GoesOn tells old new

-- and there is such a state after each call, on a device that tells of its calls
abbrev pub CallStands : Type 0
CallStands = (tells : Bool) (old new : LogStoreValue) (m : Machine Value) → IsTrue tells → IsInStep old → Stands tells old m → IsCall tells old new
    → GoesTo tells old new

-- so after any calls
abbrev pub CallsGoOn : Type 0
CallsGoOn =
    (tells : Bool) (old now : LogStoreValue) (between : List LogStoreValue) (m : Machine Value) → IsTrue tells → Stands tells old m
    → LeadsTo tells old between now → GoesTo tells old now
