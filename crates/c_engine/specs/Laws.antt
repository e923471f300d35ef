-- Laws of an engine.
use Rattle.std.specs.Prelude.{◌≡◌, ◌≢◌, ℕ, true, Some}
use Rattle.disk.specs.Areas.{Areas}
use Rattle.any_store.specs.Values.{disk_of}
use Rattle.c_engine.specs.Engines.{asks, due_in, due_call, PumpsEngine, PumpsJobOf}
use Rattle.c_engine.specs.Held.{named}
use Rattle.c_engine.specs.HostCalls.{HostCall, made}
use Rattle.c_engine.specs.Numbers.{tag_in}
use Rattle.c_engine.specs.declared.code.Code.{Code}
use Rattle.c_engine.specs.declared.code.Info.{Info}
use Rattle.c_engine.specs.declared.engine.Engine.{Engine}
use Rattle.c_engine.specs.declared.engine.EngineState.{EngineState}
use Rattle.c_engine.specs.declared.engine.EngineState.TheVariants.{Settled}
use Rattle.c_engine.specs.declared.places.Held.TheVariants.{Nothing}
use Rattle.c_engine.specs.declared.places.Places.{Places}

-- the call that stands out is one that leads from the areas before the step to those after it
abbrev pub LeadsByItsCall : Areas → EngineState → Areas → Type 0
LeadsByItsCall before state after = (call : HostCall) × (due_call (due_in state) after ≡ Some call) × (after ≡ made call before)

-- The device call that stands out after a step of a group is the step's own: made on the areas before it, it gives those after it.
abbrev pub GroupCallIsTheSteps : Type 0
GroupCallIsTheSteps = (old new : Engine) (said : Code) (info : Info) → old.state ≡ Settled → PumpsEngine old said info new → asks new.state ≡ true
    → LeadsByItsCall (disk_of old.store).areas new.state (disk_of new.store).areas

-- and so is that after a step of a job
abbrev pub JobCallIsTheSteps : Type 0
JobCallIsTheSteps = (old new : Engine) (said : Code) (info : Info) → old.state ≡ Settled → PumpsJobOf old said info new → asks new.state ≡ true
    → LeadsByItsCall (disk_of old.store).areas new.state (disk_of new.store).areas

-- a number that names something is of the store whose tag it has
abbrev pub NumberKnowsItsStore : Type 0
NumberKnowsItsStore = (places : Places) (number : ℕ) → named places number ≢ Nothing → tag_in number ≡ places.tag
