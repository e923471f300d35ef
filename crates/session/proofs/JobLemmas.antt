-- Where the log is slots, each step of a job or a group makes one device call, and the calls that are left grow fewer.
use Rattle.std.proofs.Common.{◌≡◌, ◌≢◌, ◌<◌, ◌+◌, ◌-◌, ℕ, Bool, true, false, List, [], ◌∷◌, is_some, Option, Some, None, Result, Ok, Err, MatchBool}
use Rattle.std.proofs.Common.{MatchOption, nat_lt, if◌then◌else◌, slice_get, arith, inl, inr}
use Rattle.std.proofs.lemmas.Bool.Decides.{nat_tests}
use Rattle.std.specs.Prelude.{min}
use Rattle.disk.specs.Calls.{DiskState, Counts, top}
use Rattle.disk.specs.declared.area.DeviceFault.{DeviceFault}
use Rattle.group.specs.declared.answers.PumpFault.{PumpFault}
use Rattle.group.specs.declared.answers.PumpFault.TheVariants as fault
use Rattle.group.specs.declared.answers.Did.{Did}
use Rattle.group.specs.declared.answers.Did.TheVariants as group
use Rattle.store.specs.Values.{StoreValue}
use Rattle.store.specs.Pumps.{Pumps}
use Rattle.store.proofs.Made.{pump-one}
use Rattle.archive.specs.Pieces.{InWriting}
use Rattle.vacuum.specs.Anchors.{Sourced}
use Rattle.wire.specs.declared.slot.Anchors.{Anchors}
use Rattle.wire.specs.declared.slot.Run.{Run}
use Rattle.store.specs.Jobs.{PumpsJob, TakesJobStep, Stores, WritesOrSyncs, AnchorsOrSync, BeginsJobSlot, TurnsJob, first_turn, slot_taken, made_ready}
use Rattle.store.specs.declared.job.Job.{Job}
use Rattle.store.specs.declared.job.JobWork.{JobWork}
use Rattle.store.specs.declared.job.JobWork.TheVariants.{Archive, Reclaim, Floor, Grow}
use Rattle.store.specs.declared.job.JobStage.{JobStage}
use Rattle.store.specs.declared.job.JobStage.TheVariants as stages
use Rattle.store.specs.declared.job.JobDid.{JobDid}
use Rattle.store.specs.declared.job.JobDid.TheVariants as did

-- how many calls are left where so many were made
abbrev pub left_of : ℕ → ℕ → ℕ
left_of t made = if nat_lt t made then t + 1 else t - made

fewer : (t a b : ℕ) → b ≡ min (a + 1) t → a ≢ t → left_of t b < left_of t a
fewer t a b next room = grind (arith, nat_tests)

-- fewer are left
abbrev pub IsFewer : DiskState → DiskState → Type 0
IsFewer old new = left_of top new.made < left_of top old.made

pub counted-fewer : (old new : DiskState) → Counts {T = Unit {0}} {E = DeviceFault} (Ok tt) old new → IsFewer old new
counted-fewer old new counts = fewer top old.made new.made counts.made (λ full. let no = (counts.full full).0 in cc)

run-fewer : (tells : Bool) (left : List ℕ) (run : Run) (writer : InWriting) (job : Job) (old new : StoreValue) (what : JobDid)
    → WritesOrSyncs tells left run writer job old (Ok what) new → IsFewer old.disk new.disk
run-fewer tells [] run writer job old new what takes = counted-fewer old.disk new.disk takes.call.counts
run-fewer tells (b ∷ bs) run writer job old new what takes = counted-fewer old.disk new.disk takes.call.counts

anchors-fewer : (tells : Bool) (o : Option ℕ) (anchors : Anchors) (source : Sourced) (written : ℕ) (job : Job) (old new : StoreValue) (what : JobDid)
    → AnchorsOrSync tells o anchors source written job old (Ok what) new → IsFewer old.disk new.disk
anchors-fewer tells None anchors source written job old new what takes = counted-fewer old.disk new.disk takes.call.counts
anchors-fewer tells (Some number) anchors source written job old new what takes = counted-fewer old.disk new.disk takes.call.counts

stores-fewer : (tells : Bool) (work : JobWork) (job : Job) (old new : StoreValue) (what : JobDid) → Stores tells work job old (Ok what) new
    → IsFewer old.disk new.disk
stores-fewer tells (Archive run writer) job old new what takes = run-fewer tells writer.left run writer job old new what takes
stores-fewer tells (Reclaim anchors source written) job old new what takes =
    anchors-fewer tells (slice_get old.transactions.reserved written) anchors source written job old new what takes
stores-fewer tells (Floor scope floor floors) job old new what takes = absurd takes
stores-fewer tells (Grow growth) job old new what takes = counted-fewer old.disk new.disk takes.call.counts

first-fewer : (tells : Bool) (work : JobWork) (job : Job) (old new : StoreValue) (what : JobDid)
    → TurnsJob tells job (first_turn old job) (slot_taken (made_ready work old)) (Ok what) new → IsFewer old.disk new.disk
first-fewer tells (Archive run writer) job old new what takes = counted-fewer old.disk new.disk takes.call.counts
first-fewer tells (Reclaim anchors source written) job old new what takes = counted-fewer old.disk new.disk takes.call.counts
first-fewer tells (Floor scope floor floors) job old new what takes = counted-fewer old.disk new.disk takes.call.counts
first-fewer tells (Grow growth) job old new what takes = counted-fewer old.disk new.disk takes.call.counts

begun-fewer : (tells b : Bool) (job : Job) (old new : StoreValue) (what : JobDid)
    → MatchBool b (Path (Result JobDid PumpFault) (Ok what) (Err fault.Busy) × (new ≡ old)) (BeginsJobSlot tells job old (Ok what) new)
    → IsFewer old.disk new.disk
begun-fewer tells true job old new what takes = absurd (let is = takes.0 in cc)
begun-fewer tells false job old new what (inl short) = absurd (let is = short.1 in cc)
begun-fewer tells false job old new what (inr takes) = first-fewer tells job.work job old new what takes

step-fewer : (tells : Bool) (stage : JobStage) (job : Job) (old new : StoreValue) (what : JobDid) → TakesJobStep tells stage job old (Ok what) new
    → IsFewer old.disk new.disk
step-fewer tells stages.Writing job old new what takes = stores-fewer tells job.work job old new what takes
step-fewer tells stages.Stored job old new what takes = begun-fewer tells (is_some old.turn) job old new what takes
step-fewer tells (stages.Turning turn) job old new what takes = counted-fewer old.disk new.disk takes.call.counts

job-fewer : (tells : Bool) (o : Option Job) (old new : StoreValue) (what : JobDid)
    → MatchOption o (Path (Result JobDid PumpFault) (Ok what) (Ok did.Idle) × (new ≡ old)) (λ job. TakesJobStep tells job.stage job old (Ok what) new)
    → what ≢ did.Idle → IsFewer old.disk new.disk
job-fewer tells None old new what takes some = absurd (some (let is = takes.0 in cc))
job-fewer tells (Some job) old new what takes some = step-fewer tells job.stage job old new what takes

works-fewer : (tells b : Bool) (old new : StoreValue) (what : JobDid)
    → MatchBool b (Path (Result JobDid PumpFault) (Ok what) (Err fault.Failed) × (new ≡ old))
    (MatchOption old.job (Path (Result JobDid PumpFault) (Ok what) (Ok did.Idle) × (new ≡ old)) (λ job. TakesJobStep tells job.stage job old (Ok what) new))
    → what ≢ did.Idle → IsFewer old.disk new.disk
works-fewer tells true old new what pumps some = absurd (let is = pumps.0 in cc)
works-fewer tells false old new what pumps some = job-fewer tells old.job old new what pumps some

-- so it is where the log is slots
pub slots-fewer : (tells : Bool) (old new : StoreValue) (what : JobDid) → PumpsJob tells old (Ok what) new → what ≢ did.Idle → IsFewer old.disk new.disk
slots-fewer tells old new what pumps some = works-fewer tells old.transactions.failed old new what pumps some

-- and of the steps of a group there
pub group-slots-fewer : (tells : Bool) (old new : StoreValue) (what : Did) → Pumps tells old (Ok what) new → what ≢ group.Idle → IsFewer old.disk new.disk
group-slots-fewer tells old new what pumps some =
    let one = pump-one tells old new what pumps some in fewer top old.disk.made new.disk.made one.made one.room
