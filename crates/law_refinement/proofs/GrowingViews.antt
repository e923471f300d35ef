-- Queries of a store in which a piece of slots may be in the making, and what its calls leave of views.
use Rattle.std.proofs.Common.{◌≡◌, ℕ, ◌==◌, Bool, true, false, is_some, Option, None, Some, Result, Ok, Err, MatchBool, MatchOption, refl, sym, ap, subst, ◌∙◌}
use Rattle.disk.specs.Areas.{AreaState}
use Rattle.disk.specs.Calls.{DiskState}
use Rattle.history.specs.Histories.{History}
use Rattle.history.specs.Machine.{Machine}
use Rattle.law_image.specs.Values.{Value}
use Rattle.archive.specs.Searches.{archive_of}
use Rattle.archive.specs.Pieces.{InWriting}
use Rattle.wire.specs.declared.slot.Run.{Run as WireRun}
use Rattle.timequery.specs.Faults.{after_query}
use Rattle.timequery.specs.View.{ViewValue}
use Rattle.timequery.specs.declared.fault.QueryFault.{QueryFault}
use Rattle.timequery.specs.declared.fault.QueryFault.TheVariants as query
use Rattle.group.specs.declared.answers.Did.{Did}
use Rattle.group.specs.declared.answers.PumpFault.{PumpFault}
use Rattle.status.specs.Growth.{next_piece}
use Rattle.status.specs.GrowthState.{GrowthState}
use Rattle.store.specs.Calls.{Asks, Finds, OrStranger, is_front, is_own}
use Rattle.store.specs.Values.{StoreValue}
use Rattle.store.specs.Pumps.{Pumps}
use Rattle.store.specs.Archives.{StartsArchive, BeginsRun}
use Rattle.store.specs.Reclaims.{StartsReclaim, BeginsReclaim}
use Rattle.store.specs.Floors.{StartsFloor, BeginsFloor, is_wrong_profile}
use Rattle.store.specs.Growths.{StartsGrowth, BeginsPiece, refusal_to_grow}
use Rattle.store.specs.Jobs.{PumpsJob, growing}
use Rattle.store.specs.declared.job.JobDid.{JobDid}
use Rattle.store.specs.declared.job.JobStage.{JobStage}
use Rattle.store.specs.declared.job.JobStage.TheVariants.{Writing, Turning}
use Rattle.store.specs.declared.job.JobWork.TheVariants.{Archive}
use Rattle.store.specs.declared.job.StartFault.{StartFault}
use Rattle.law_refinement.specs.Homes.{GoesOn}
use Rattle.law_refinement.specs.Stands.{Stands, StandsGrowing, without_growth, growth_of}
use Rattle.law_refinement.proofs.Asking.{after-is, asks-stands, own-front}
use Rattle.law_refinement.proofs.Asking as asking
use Rattle.law_refinement.proofs.RunsKept.{machine-rises, same-later, up_to-same}
use Rattle.law_refinement.proofs.RunsStep.{goes-same}
use Rattle.law_refinement.proofs.RunsCalls.{beside-leaves, pump-stays, job_pump-leaves}
use Rattle.law_refinement.proofs.Whole as whole
use Rattle.law_refinement.proofs.Growing.{as-still, as-growing, by-kind, still-growing}
use Rattle.law_refinement.proofs.GrowingCalls.{bars, floor-bars, busy-job}

-- ---- queries

-- a query does not look at the status area
after-calm : {T : Type 0} (answer : Result T QueryFault) (d : DiskState) (calm : AreaState)
    → record (after_query answer d) { areas = record (after_query answer d).areas { status = calm } }
    ≡ after_query answer (record d { areas = record d.areas { status = calm } })
after-calm (Ok found) d calm = refl
after-calm (Err query.Device) d calm = refl
after-calm (Err (query.BeforeKept floor)) d calm = refl
after-calm (Err (query.NotYet last)) d calm = refl
after-calm (Err query.EmptyInterval) d calm = refl
after-calm (Err query.NoMemory) d calm = refl
after-calm (Err (query.Damaged start)) d calm = refl
after-calm (Err query.NeedsDisk) d calm = refl
after-calm (Err query.Stranger) d calm = refl

same-goes : (tells : Bool) (v new : StoreValue) → new ≡ v → GoesOn tells v new
same-goes tells v new is =
    subst (λ (x : StoreValue). GoesOn tells v x) (sym is)
    (goes-same tells v v (record {
      runs = refl;
      kept = refl;
      archived = refl;
      runs_end = refl;
      mark = refl;
    }) (λ told. up_to-same v.runs_end (archive_of v.disk)))

asks-growing : {T : Type 0} (tells : Bool) (growth : GrowthState) (v new : StoreValue) (m : Machine Value) (view : ViewValue) (answer : Result T QueryFault)
    → StandsGrowing tells growth v m → is_front view.runs v.archive.runs ≡ true → Asks tells v view answer new
    → Stands tells new m × GoesOn tells v new
asks-growing tells growth v new m view answer s front asks =
    let calm : AreaState = s.calm in
    let bare : Asks tells (without_growth v calm) view answer (without_growth new calm) = record {
      new_is = ap (λ (x : StoreValue). without_growth x calm) asks.new_is
          ∙ ap (λ (d : DiskState). record (without_growth v calm) {
            archive = record v.archive { kept = new.archive.kept };
            disk = d;
          }) (after-calm answer v.disk calm);
      kept = asks.kept;
    } in
    let done = asks-stands tells (without_growth v calm) (without_growth new calm) m view answer s.still front bare in
    let areas : new.disk.areas ≡ v.disk.areas = ap (λ (x : StoreValue). x.disk.areas) asks.new_is ∙ ap (λ (d : DiskState). d.areas) (after-is answer v.disk) in
    let goes = done.1 in (
      as-growing tells growth new m
          (still-growing tells growth v new m m s (ap (λ (x : StoreValue). x.job) asks.new_is) (ap (λ (x : StoreValue). x.log) asks.new_is) areas (λ on. on)
          done.0),
      record { mark = goes.mark; more = goes.more; runs = goes.runs; end = goes.end; bytes = goes.bytes },
    )

pub query-stands : {T : Type 0} (tells : Bool) (v new : StoreValue) (m : Machine Value) (view : ViewValue) (from : ℕ) (Refuses : QueryFault
    → Type 0) (Recent : T → Type 0) (OfHistory : History Value → T → Type 0) (Exact : Result T QueryFault → Type 0) (answer : Result T QueryFault)
    → Stands tells v m
    → OrStranger v view (Finds tells v view from Refuses Recent OfHistory Exact) answer new → Stands tells new m × GoesOn tells v new
query-stands tells v new m view from Refuses Recent OfHistory Exact answer stands says =
    by-kind tells v m (Stands tells new m × GoesOn tells v new) stands
    (λ still. let done = asking.query-stands tells v new m view from Refuses Recent OfHistory Exact answer still says in (as-still tells new m done.0, done.1))
    (λ growth s. by-own growth s (is_own v view) refl says)
  where
    by-own : (growth : GrowthState) → StandsGrowing tells growth v m → (b : Bool) → is_own v view ≡ b
        → MatchBool b (Finds tells v view from Refuses Recent OfHistory Exact answer new) ((answer ≡ Err query.Stranger) × (new ≡ v)) → Stands tells new m
        × GoesOn tells v new
    by-own growth s true is finds =
        asks-growing tells growth v new m view answer s (own-front (view.mark == v.transactions.mark) (is_front view.runs v.archive.runs) is) finds.asks
    by-own growth s false is strange = (subst (λ (x : StoreValue). Stands tells x m) (sym strange.1) stands, same-goes tells v new strange.1)

-- ---- views go on

pub pump-goes : (tells : Bool) (old new : StoreValue) (answer : Result Did PumpFault) (m : Machine Value) → Stands tells old m → Pumps tells old answer new
    → GoesOn tells old new
pump-goes tells old new answer m stands pumps =
    (beside-leaves tells old new m m (machine-rises m stands.machine) (same-later m) (pump-stays tells old new answer pumps) stands.place stands.runs).goes

pub job-pump-goes : (tells : Bool) (old new : StoreValue) (answer : Result JobDid PumpFault) (m : Machine Value) → Stands tells old m
    → PumpsJob tells old answer new → GoesOn tells old new
job-pump-goes tells old new answer m stands pumps =
    by-kind tells old m (GoesOn tells old new) stands (λ still. whole.job-pump-goes tells old new answer m still pumps) of-growth
  where
    no-run : (growth : GrowthState) → StandsGrowing tells growth old m → (run : WireRun) (writer : InWriting) (stage : JobStage) → old.job
        ≡ Some (record { work = Archive run writer; stage = stage }) → ⊥
    no-run growth s run writer stage is = let no : Some growth ≡ None = sym (ap growth_of s.job) ∙ ap growth_of is in cc

    of-growth : (growth : GrowthState) → StandsGrowing tells growth old m → GoesOn tells old new
    of-growth growth s =
        (job_pump-leaves tells old new m m answer (machine-rises m stands.machine) (same-later m) stands.place stands.runs
        (λ on told. record {
          behind = λ run writer is. absurd (no-run growth s run writer Writing is);
          ready = λ run writer t is. absurd (no-run growth s run writer (Turning t) is);
        }) pumps).goes

pub archive-start-goes : (tells : Bool) (old new : StoreValue) (upto : ℕ) (answer : Result (Unit {0}) StartFault) (m : Machine Value) → Stands tells old m
    → StartsArchive old upto answer new → GoesOn tells old new
archive-start-goes tells old new upto answer m stands starts =
    by-kind tells old m (GoesOn tells old new) stands (λ still. whole.archive-start-goes tells old new upto answer m still starts)
    (λ growth s. same-goes tells old new
    (bars (BeginsRun old upto answer new) old.transactions.failed (is_some old.job) _ answer old new (busy-job tells growth old m s) starts).0)

pub reclaim-start-goes : (tells : Bool) (old new : StoreValue) (answer : Result (Unit {0}) StartFault) (m : Machine Value) → Stands tells old m
    → StartsReclaim old answer new → GoesOn tells old new
reclaim-start-goes tells old new answer m stands starts =
    by-kind tells old m (GoesOn tells old new) stands (λ still. whole.reclaim-start-goes tells old new answer m still starts)
    (λ growth s. same-goes tells old new
    (bars (BeginsReclaim old answer new) old.transactions.failed (is_some old.job) _ answer old new (busy-job tells growth old m s) starts).0)

pub floor-start-goes : (tells : Bool) (old new : StoreValue) (scope : Option ℕ) (floor : ℕ) (answer : Result (Unit {0}) StartFault) (m : Machine Value)
    → Stands tells old m → StartsFloor old scope floor answer new → GoesOn tells old new
floor-start-goes tells old new scope floor answer m stands starts =
    by-kind tells old m (GoesOn tells old new) stands (λ still. whole.floor-start-goes tells old new scope floor answer m still starts)
    (λ growth s. same-goes tells old new
    (floor-bars (BeginsFloor old scope floor answer new) old.transactions.failed (is_wrong_profile old.log.profile scope) (is_some old.job) _ answer old new
    (busy-job tells growth old m s) starts).0)

pub grow-start-goes : (tells : Bool) (old new : StoreValue) (answer : Result (Unit {0}) StartFault) (m : Machine Value) → Stands tells old m
    → StartsGrowth old answer new → GoesOn tells old new
grow-start-goes tells old new answer m stands starts = by-refusal (refusal_to_grow old) starts
  where
    by-piece : (o : Option GrowthState) → BeginsPiece old o answer new → GoesOn tells old new
    by-piece None said = same-goes tells old new said.1
    by-piece (Some growth) said =
        subst (λ (x : StoreValue). GoesOn tells old x) (sym said.1)
        (goes-same tells old (record old { job = Some (growing growth) }) (record {
          runs = refl;
          kept = refl;
          archived = refl;
          runs_end = refl;
          mark = refl;
        }) (λ told. up_to-same old.runs_end (archive_of old.disk)))

    by-refusal : (o : Option StartFault) → MatchOption o (BeginsPiece old (next_piece old.log) answer new) (λ why. (answer ≡ Err why) × (new ≡ old))
        → GoesOn tells old new
    by-refusal None said = by-piece (next_piece old.log) said
    by-refusal (Some why) said = same-goes tells old new said.1
