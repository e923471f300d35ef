-- A store that works: what is said of it in memory and of its disk, in one place.
use Rattle.std.proofs.Common.{◌≡◌, ℕ, ◌<◌, ◌≤◌, false, IsTrue, Bool, length, Option, None, Some, is_some, refl, arith, sym, ◌∙◌}
use Rattle.history.specs.Machine.{Machine, Shut, IsMachine}
use Rattle.law_image.specs.Values.{Value, IsValue}
use Rattle.status.specs.declared.header.Header.{Header}
use Rattle.status.specs.Header.{total}
use Rattle.status.specs.Rules.{is_built}
use Rattle.status.specs.TurnState.{TurnState}
use Rattle.law_layout.specs.Turn.{Group}
use Rattle.group.specs.Order.{IsInOrder}
use Rattle.group.specs.Values.{claimed_by}
use Rattle.group.specs.declared.stage.GroupStage.{GroupStage}
use Rattle.group.specs.declared.stage.GroupStage.TheVariants.{NoGroup, Storing, Stored, Turning}
use Rattle.store.specs.Values.{StoreValue, IsInStep, turn_in, turn_of, lent_to}
use Rattle.store.specs.declared.job.Job.{Job}
use Rattle.store.specs.declared.job.JobStage.{JobStage}
use Rattle.store.specs.declared.job.JobStage.TheVariants as job
use Rattle.law_refinement.specs.Standing.{StandsInMemory}
use Rattle.law_refinement.specs.OnDisk.{Works, group_of}
use Rattle.law_refinement.specs.Stands.{StandsBeside, gate_in, job_gate, gate_of, HasGate, RaisesFloor, HasMarks, KeepsJobIn}

pub none-there : {X : Type 0} (o : Option X) → is_some o ≡ false → o ≡ None
none-there None nothing = refl
none-there (Some x) nothing = absurd cc

-- what is said of a store in memory
pub record Inside (v : StoreValue) (m : Machine Value) : Type 0 where
  pub memory : StandsInMemory v.transactions m
  pub machine : IsMachine IsValue m
  pub order : IsInOrder v.transactions
  pub in_step : IsInStep v
  pub gate : HasGate v m
  pub raises : RaisesFloor v m
  pub marks : HasMarks v m
  pub job : KeepsJobIn v m

-- and with it of its disk, where no call was refused
pub record Working (v : StoreValue) (m : Machine Value) : Type 0 where
  pub header : Header
  pub inside : Inside v m
  pub on : m.failed ≡ false
  pub profile : v.log.profile ≡ header.profile
  pub slots : v.log.slots ≡ total header
  pub pieces : v.log.pieces ≡ header.pieces
  pub profile_built : IsTrue (is_built header.profile 1)
  pub works : Works header v m

abbrev pub inside : (tells : Bool) (v : StoreValue) (m : Machine Value) → StandsBeside tells v m → Inside v m
inside tells v m s =
    record { memory = s.memory; machine = s.machine; order = s.order; in_step = s.in_step; gate = s.gate; raises = s.raises; marks = s.marks; job = s.job }

abbrev pub working : (tells : Bool) (v : StoreValue) (m : Machine Value) → StandsBeside tells v m → m.failed ≡ false → IsTrue tells → Working v m
working tells v m s on told = record {
  header = (s.disk told).header;
  inside = inside tells v m s;
  on = on;
  profile = (s.disk told).profile;
  slots = (s.disk told).slots;
  pieces = (s.disk told).pieces;
  profile_built = (s.disk told).profile_built;
  works = (s.disk told).works on;
}

-- the group that is being written
abbrev pub group_in : (v : StoreValue) (m : Machine Value) → Working v m → Group
group_in v m c = group_of c.works.log.layout v.transactions m

-- ---- the gate

-- a job whose slot is not in the writing opens none
pub still-shut : (o : Option Job) → turn_of o ≡ None → job_gate o ≡ Shut
still-shut None still = refl
still-shut (Some j) still = by-stage j.stage still
  where
    by-stage : (s : JobStage) → turn_in s ≡ None → gate_in j.work s ≡ Shut
    by-stage job.Writing still = refl
    by-stage job.Stored still = refl
    by-stage (job.Turning t) still = absurd cc

-- beside such jobs it is that of the group alone
pub gate-beside : (turn : Option TurnState) (before after : Option Job) → job_gate before ≡ Shut → job_gate after ≡ Shut → gate_of turn before
    ≡ gate_of turn after
gate-beside None before after shut still = shut ∙ sym still
gate-beside (Some t) before after shut still = refl

-- ---- room in the log

pub claims-some : (s : GroupStage) (group waiting : ℕ) → 0 < group → group ≤ waiting → 0 < claimed_by s group waiting
claims-some NoGroup group waiting some within = omega (arith, some, within)
claims-some (Storing member extent) group waiting some within = omega (arith, some, within)
claims-some Stored group waiting some within = omega (arith, some, within)
claims-some Turning group waiting some within = omega arith

-- a slot is there for the group that is being written
pub room-left : (v : StoreValue) (m : Machine Value) (c : Working v m) → 0 < v.transactions.group → length c.works.log.layout.slots < total c.header
room-left v m c some =
    let claims = claims-some v.transactions.stage v.transactions.group (length v.transactions.queue) some c.inside.order.group_within in
    omega (arith, claims, c.inside.order.room, c.inside.in_step.slots, c.inside.in_step.used, c.slots, c.works.log.used)

-- and one for a job
pub job-room : (v : StoreValue) (m : Machine Value) (c : Working v m) → lent_to v.job ≡ 1 → length c.works.log.layout.slots < total c.header
job-room v m c lent = omega (arith, lent, c.inside.order.room, c.inside.in_step.slots, c.inside.in_step.used, c.slots, c.works.log.used)
