-- The beginnings and steps of jobs.
use Rattle.std.specs.Prelude.{◌≡◌, ℕ, Bool, Option, Result, Ok, Err, if◌then◌else◌}
use Rattle.group.specs.declared.answers.PumpFault.{PumpFault}
use Rattle.store.specs.Archives as archives
use Rattle.store.specs.Floors as raises
use Rattle.store.specs.Growths as growths
use Rattle.store.specs.Reclaims as reclaims
use Rattle.store.specs.declared.job.StartFault.{StartFault}
use Rattle.store.specs.declared.job.StartFault.TheVariants as fault
use Rattle.log_store.specs.Archives as log_archives
use Rattle.log_store.specs.Jobs as log_jobs
use Rattle.log_store.specs.Reclaims as log_reclaims
use Rattle.log_store.specs.Values.{LogStoreValue}
use Rattle.log_store.specs.declared.job.StartFault as log_starts
use Rattle.log_store.specs.declared.job.StartFault.TheVariants as log_fault
use Rattle.any_store.specs.declared.steps.JobDid.{JobDid}
use Rattle.any_store.specs.Steps.{PumpsSlotsJob, PumpsLogJob}
use Rattle.any_store.specs.Values.{StoreValue, ByEngine}

-- why no job begins in a store of a profile that has none of its kind
abbrev pub none_of : Bool → StartFault → StartFault
none_of failed why = if failed then fault.Failed else why

-- no job begins, and nothing has changed
abbrev pub BeginsNone : StartFault → Result (Unit {0}) StartFault → LogStoreValue → LogStoreValue → Type 0
BeginsNone why answer old new = (answer ≡ Err (none_of old.commits.failed why)) × (new ≡ old)

-- why none begins where the log lies in the heap
abbrev pub told_fault : log_starts.StartFault → StartFault
told_fault log_fault.Failed = fault.Failed
told_fault log_fault.WrongProfile = fault.WrongProfile
told_fault log_fault.JobBusy = fault.JobBusy
told_fault log_fault.NothingToDo = fault.NothingToDo
told_fault (log_fault.NotYet time) = fault.NotYet time
told_fault (log_fault.InUse snapshot) = fault.InUse snapshot
told_fault log_fault.HeapFull = fault.HeapFull
told_fault log_fault.ArchiveFull = fault.ArchiveFull
told_fault log_fault.NoMemory = fault.NoMemory

abbrev pub told_start : Result (Unit {0}) log_starts.StartFault → Result (Unit {0}) StartFault
told_start (Ok done) = Ok tt
told_start (Err why) = Err (told_fault why)

-- an archive begins in either layout
abbrev pub StartsLogArchive : ℕ → Result (Unit {0}) StartFault → LogStoreValue → LogStoreValue → Type 0
StartsLogArchive upto answer old new =
    (said : Result (Unit {0}) log_starts.StartFault) × log_archives.StartsArchive old upto said new × (answer ≡ told_start said)

abbrev pub StartsArchive : StoreValue → ℕ → Result (Unit {0}) StartFault → StoreValue → Type 0
StartsArchive old upto answer new = ByEngine (λ s s'. archives.StartsArchive s upto answer s') (StartsLogArchive upto answer) old new

-- and so does a reclaim
abbrev pub StartsLogReclaim : Result (Unit {0}) StartFault → LogStoreValue → LogStoreValue → Type 0
StartsLogReclaim answer old new =
    (said : Result (Unit {0}) log_starts.StartFault) × log_reclaims.StartsReclaim old said new × (answer ≡ told_start said)

abbrev pub StartsReclaim : StoreValue → Result (Unit {0}) StartFault → StoreValue → Type 0
StartsReclaim old answer new = ByEngine (λ s s'. reclaims.StartsReclaim s answer s') (StartsLogReclaim answer) old new

-- a floor begins in either layout; where the log lies in the heap it is one of one relation
abbrev pub StartsLogFloor : Option ℕ → ℕ → Result (Unit {0}) StartFault → LogStoreValue → LogStoreValue → Type 0
StartsLogFloor scope floor answer old new =
    (said : Result (Unit {0}) log_starts.StartFault) × log_jobs.StartsFloor old scope floor said new × (answer ≡ told_start said)

abbrev pub StartsFloor : StoreValue → Option ℕ → ℕ → Result (Unit {0}) StartFault → StoreValue → Type 0
StartsFloor old scope floor answer new = ByEngine (λ s s'. raises.StartsFloor s scope floor answer s') (StartsLogFloor scope floor answer) old new

-- and so does a growth; a log in the heap has no slots
abbrev pub StartsGrowth : StoreValue → Result (Unit {0}) StartFault → StoreValue → Type 0
StartsGrowth old answer new = ByEngine (λ s s'. growths.StartsGrowth s answer s') (BeginsNone fault.NotGrowable answer) old new

-- a step of the job that runs
abbrev pub PumpsJob : Bool → StoreValue → Result JobDid PumpFault → StoreValue → Type 0
PumpsJob tells old answer new = ByEngine (PumpsSlotsJob tells answer) (PumpsLogJob tells answer) old new
