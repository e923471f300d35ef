-- A device call that leads from areas to areas.
use Rattle.std.specs.Prelude.{ℕ, ◌≡◌, List, Option, None, Some, Ok}
use Rattle.std.proofs.Common.{◌∙◌, sym, ap, subst, refl}
use Rattle.disk.specs.Areas.{Areas, AreaState, area_of, with_area, written}
use Rattle.disk.specs.Calls.{Writes, Syncs}
use Rattle.disk.specs.declared.area.Area.{Area}
use Rattle.disk.specs.declared.area.Area.TheVariants.{Status, Heap, Archive}
use Rattle.disk.proofs.Stops.{slice_range-overlaid_same}
use Rattle.any_store.specs.declared.steps.Did.{Did}
use Rattle.any_store.specs.declared.steps.JobDid.{JobDid}
use Rattle.c_engine.specs.HostCalls.{HostCall, made, call_in}
use Rattle.c_engine.specs.HostCalls as host
use Rattle.c_engine.specs.LastWrites.{last_write}
use Rattle.c_engine.specs.Steps.{group_call, job_call}
use Rattle.c_engine.specs.declared.device_call.DeviceCall.{DeviceCall}
use Rattle.c_engine.specs.declared.device_call.DeviceCall.TheVariants.{Write, Sync}

pub last_written : (a : AreaState) (at : ℕ) (bytes : List ℕ) → last_write (written at bytes a) ≡ Some (at, bytes)
last_written a at bytes = ap (λ (b : List ℕ). Some (at, b)) (slice_range-overlaid_same a.bytes at bytes)

-- such a call leads from areas to areas, if one is due; else they are the same
abbrev pub LeadsBy : Areas → Option DeviceCall → Areas → Type 0
LeadsBy before None after = after ≡ before
LeadsBy before (Some due) after = (call : HostCall) × (call_in due after ≡ Some call) × (after ≡ made call before)

wrote : (area : Area) (at : ℕ) (bytes : List ℕ) (before : Areas)
    → call_in (Write area) (with_area area (written at bytes (area_of before area)) before) ≡ Some (host.Writes area at bytes)
wrote Status at bytes before = ap (λ (w : Option (ℕ × List ℕ)). host.write_in Status w) (last_written before.status at bytes)
wrote Heap at bytes before = ap (λ (w : Option (ℕ × List ℕ)). host.write_in Heap w) (last_written before.heap at bytes)
wrote Archive at bytes before = ap (λ (w : Option (ℕ × List ℕ)). host.write_in Archive w) (last_written before.archive at bytes)

pub by-write : (area : Area) (at : ℕ) (bytes : List ℕ) (before after : Areas) → Writes area at bytes (Ok tt) before after
    → LeadsBy before (Some (Write area)) after
by-write area at bytes before after writes = (
  host.Writes area at bytes,
  ap (λ (a : Areas). call_in (Write area) a) writes.written
      ∙ wrote area at bytes before,
  writes.written,
)

pub by-sync : (area : Area) (before after : Areas) → Syncs area (Ok tt) before after → LeadsBy before (Some (Sync area)) after
by-sync area before after syncs = (host.Syncs area, refl, syncs.synced)

-- ---- by what a step did

pub of-did : (log : Area) (before after : Areas) (what other : Did) → what ≡ other → LeadsBy before (group_call log other) after
    → LeadsBy before (group_call log what) after
of-did log before after what other same leads = subst (λ (d : Did). LeadsBy before (group_call log d) after) (sym same) leads

pub of-job-did : (log : Area) (before after : Areas) (what other : JobDid) → what ≡ other → LeadsBy before (job_call log other) after
    → LeadsBy before (job_call log what) after
of-job-did log before after what other same leads = subst (λ (d : JobDid). LeadsBy before (job_call log d) after) (sym same) leads
