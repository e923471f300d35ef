-- A store stands for a state over any disk, where nothing is said of the disk.
use Rattle.std.proofs.Common.{◌≡◌, ℕ, false, Bool, Option, None, Some, MatchOption, length, refl, sym, ap, ◌∙◌, subst, inl, inr}
use Rattle.disk.specs.Calls.{DiskState}
use Rattle.disk_file.specs.Counts.{untold}
use Rattle.history.specs.Histories.{History}
use Rattle.history.specs.Machine.{Machine}
use Rattle.law_image.specs.Values.{Value}
use Rattle.status.specs.GrowthState.{GrowthState}
use Rattle.store.specs.Values.{StoreValue, IsInStep, TurnsOne}
use Rattle.store.specs.declared.job.Job.{Job}
use Rattle.store.specs.declared.job.JobWork.{JobWork}
use Rattle.store.specs.declared.job.JobWork.TheVariants.{Archive, Reclaim, Floor, Grow}
use Rattle.commits.specs.Values.{CommitsValue}
use Rattle.log_store.specs.Values.{LogStoreValue}
use Rattle.log_store.specs.Values as logs
use Rattle.any_store.specs.Values as any
use Rattle.any_store.specs.Values.{commits_of, with_disk}
use Rattle.any_store.specs.declared.engine.Engine.TheVariants.{Slots, Log}
use Rattle.law_log_steps.specs.Store.{IsLeft}
use Rattle.law_log_queries.specs.Archive as archives
use Rattle.law_any_store.specs.Standing as any_stands
use Rattle.law_any_store.specs.Standing.{opened_in}
use Rattle.shared.specs.Counts.{told_count}
use Rattle.law_refinement.specs.Homes.{HasPlace}
use Rattle.law_refinement.specs.Stands.{RaisesFloor, Stands, StandsStill, StandsGrowing, without_growth}
use Rattle.law_refinement.proofs.Growing.{as-still, as-growing, by-kind}

turns-over : (v : StoreValue) (disk : DiskState) → TurnsOne v → TurnsOne (record v { disk = disk })
turns-over v disk t = record { turning = t.turning; writing = t.writing; turn = t.turn; job = t.job }

step-over : (v : StoreValue) (disk : DiskState) → IsInStep v → IsInStep (record v { disk = disk })
step-over v disk s = record { slots = s.slots; used = s.used; turns = λ works. turns-over v disk (s.turns works) }

place-over : (o : Option Job) (v : StoreValue) (m : Machine Value) (disk : DiskState) → MatchOption o (Unit {0}) (λ job. HasPlace job.work v m)
    → MatchOption o (Unit {0}) (λ job. HasPlace job.work (record v { disk = disk }) m)
place-over None v m disk p = p
place-over (Some job) v m disk p = by-work job.work p
  where
    by-work : (w : JobWork) → HasPlace w v m → HasPlace w (record v { disk = disk }) m
    by-work (Archive run writer) p = p
    by-work (Reclaim anchors source written) p = p
    by-work (Floor scope floor floors) p = p
    by-work (Grow growth) p = p

raises-over : (v : StoreValue) (m : Machine Value) (disk : DiskState) → RaisesFloor v m → RaisesFloor (record v { disk = disk }) m
raises-over v m disk r = record { is = r.is; scope = r.scope; of_profile = r.of_profile }

still-over : (tells : Bool) (v : StoreValue) (m : Machine Value) (disk : DiskState) → StandsStill tells v m → StandsStill false (record v { disk = disk }) m
still-over tells v m disk s = record {
  memory = s.memory;
  machine = s.machine;
  order = s.order;
  in_step = step-over v disk s.in_step;
  gate = s.gate;
  raises = raises-over v m disk s.raises;
  marks = s.marks;
  job = s.job;
  disk = λ told. untold told;
  place = place-over v.job v m disk s.place;
  runs = λ told. untold told;
}

growing-over : (tells : Bool) (growth : GrowthState) (v : StoreValue) (m : Machine Value) (disk : DiskState) → StandsGrowing tells growth v m
    → StandsGrowing false growth (record v { disk = disk }) m
growing-over tells growth v m disk s = record {
  job = s.job;
  slots = s.slots;
  piece = s.piece;
  calm = s.calm;
  still = still-over tells (without_growth v s.calm) m (record disk { areas = record disk.areas { status = s.calm } }) s.still;
  beside = λ told. untold told;
}

over : (tells : Bool) (v : StoreValue) (m : Machine Value) (disk : DiskState) → Stands tells v m → Stands false (record v { disk = disk }) m
over tells v m disk s =
    by-kind tells v m (Stands false (record v { disk = disk }) m) s
    (λ still. as-still false (record v { disk = disk }) m (still-over tells v m disk still))
    (λ growth grows. as-growing false growth (record v { disk = disk }) m (growing-over tells growth v m disk grows))

log-step-over : (l : LogStoreValue) (disk : DiskState) → logs.IsInStep l → logs.IsInStep (record l { disk = disk })
log-step-over l disk s =
    record {
      contents = s.contents;
      bytes = s.bytes;
      promised = s.promised;
      few = s.few;
      many = s.many;
      counted = s.counted;
      turn = s.turn;
      beside = s.beside;
      place = s.place;
      live = s.live;
      reclaim = s.reclaim;
    }

left-over : (tells : Bool) (l : LogStoreValue) (m : Machine Value) (disk : DiskState) → IsLeft tells l m → IsLeft false (record l { disk = disk }) m
left-over tells l m disk (inl gate) = inl gate
left-over tells l m disk (inr calm) = inr (record { gate = calm.gate; stops = λ told. untold told })

log-over : (tells : Bool) (l : LogStoreValue) (m : Machine Value) (disk : DiskState) → archives.Stands tells l m
    → archives.Stands false (record l { disk = disk }) m
log-over tells l m disk s =
    let w = s.store.writing in
    record {
      store = record {
        memory = s.store.memory;
        machine = s.store.machine;
        writing = record {
          most = w.most;
          group = w.group;
          raising = w.raising;
          made = w.made;
          gate = w.gate;
          left = λ fails. left-over tells l m disk (w.left fails);
        };
        fresh = s.store.fresh;
        marks = record {
          reclaimed = s.store.marks.reclaimed;
          base = s.store.marks.base;
          job = s.store.marks.job;
          reclaim = s.store.marks.reclaim;
        };
        ends = s.store.ends;
        disk = λ told. untold told;
      };
      place = s.place;
      runs = λ told. untold told;
      names = λ told. untold told;
    }

-- in either layout
any-over : (tells : Bool) (v : any.StoreValue) (disk : DiskState) (h : History Value) (floors : ℕ → ℕ) → any_stands.Stands tells v (opened_in v h floors)
    → any_stands.Stands false (with_disk v disk) (opened_in (with_disk v disk) h floors)
any-over tells (Slots s) disk h floors stands = over tells s (opened_in (Slots s) h floors) disk stands
any-over tells (Log l) disk h floors stands = (log-step-over l disk stands.0, log-over tells l (opened_in (Log l) h floors) disk stands.1)

pub over-stands : (tells : Bool) (v w : any.StoreValue) (disk : DiskState) (h : History Value) (floors : ℕ → ℕ) → w ≡ with_disk v disk
    → any_stands.Stands tells v (opened_in v h floors) → any_stands.Stands false w (opened_in w h floors)
over-stands tells v w disk h floors is s =
    subst (λ (x : any.StoreValue). any_stands.Stands false x (opened_in x h floors)) (sym is) (any-over tells v disk h floors s)

-- what is in memory is as it was
over-commits : (v : any.StoreValue) (disk : DiskState) → commits_of (with_disk v disk) ≡ commits_of v
over-commits (Slots s) disk = refl
over-commits (Log l) disk = refl

pub over-told : (v w : any.StoreValue) (disk : DiskState) → w ≡ with_disk v disk → told_count (commits_of v).heads ≡ length (commits_of v).heads
    → told_count (commits_of w).heads ≡ length (commits_of w).heads
over-told v w disk is told =
    subst (λ (c : CommitsValue). told_count c.heads ≡ length c.heads) (sym (ap commits_of is ∙ over-commits v disk)) told
