use Rattle.disk.specs.Calls.{DiskState}
use Rattle.disk.specs.Areas.{image_of}
use Rattle.status.specs.Reading.{AreSlots, HoldsLog}
use Rattle.std.proofs.Common.{◌≡◌, List, arith, length, map, ap, refl, sym, subst, ◌∙◌}
use Rattle.std.proofs.lemmas.Result.{err_from_is_err_and}
use Rattle.std.specs.List.{AllByRecursion}
use Rattle.wire.specs.Spelling.{IsRun}
use Rattle.wire.specs.declared.slot.Run.{Run}
use Rattle.wire.specs.declared.slot.Member.{Member}
use Rattle.wire.specs.declared.slot.Slot.{Slot}
use Rattle.law_image.specs.Reading.{Head}
use Rattle.law_image.specs.Log.{AreRisingAfter, last_time_after, archive_mark}
use Rattle.floors.specs.Floors.{FloorsValue, floor_at}
use Rattle.status.specs.Kept.{kept_of}
use Rattle.status.specs.Rules.{head_of, log_of, runs_of, row_end, AreInRow}
use Rattle.status.proofs.Kept.{kept-of}
use Rattle.law_layout.specs.Layouts.{entries_of}
use Rattle.law_layout.specs.Opening.{EndsWithin}
use Rattle.recovery.specs.declared.fault.OpenFault.{OpenFault}
use Rattle.recovery.specs.Faults.{IsRunsFault}
use Rattle.law_layout.proofs.Rules.{rules_say}
use Rattle.recovery.specs.RunEntries.{runs_named, AreEntriesOf}
use Rattle.recovery.proofs.RunEntries.{go_on}
use Rattle.recovery.proofs.Heads.{entries_rise, archived_upto_last, floor_upto_last}
use Rattle.recovery.proofs.OpenedHeap.{HoldsSlots, IsSlotsFault, runs_in_range, image_read, members_fail, runs_fail}
use Rattle.recovery.proofs.opening.read_settled.Goals as goal

pub read_heap-requires : goal.read_heap-requires
read_heap-requires g c =
    let slots : c.deref-2.result.now ≡ c.in_ok-log.log.slots.items = c.deref-2.ensures.value in
    let entries : c.deref-3.result.now ≡ entries_of c.in_ok-log.log.slots.items =
    c.deref-3.ensures.value ∙ c.in_ok-entries.ensures ∙ ap entries_of c.deref.ensures.value in
    record {
      slots = (c.in_ok-header.header.profile, subst (λ (l : List Slot). AreSlots c.in_ok-header.header.profile l) (sym slots) c.in_ok-log.ensures.slots);
      entries = entries ∙ ap entries_of (sym slots);
    }

pub returns-clause-rising : goal.returns-clause-rising
returns-clause-rising g c =
    let entries : c.in_ok-entries.entries.items ≡ entries_of c.in_ok-log.log.slots.items = c.in_ok-entries.ensures ∙ ap entries_of c.deref.ensures.value in
    subst (λ (l : List Member). AreRisingAfter 0 (map head_of l)) (sym entries) (entries_rise _ _ c.in_ok-log.ensures.slots.rules)

pub returns-clause-last : goal.returns-clause-last
returns-clause-last g c =
    let entries : c.in_ok-entries.entries.items ≡ entries_of c.in_ok-log.log.slots.items = c.in_ok-entries.ensures ∙ ap entries_of c.deref.ensures.value in
    c.in-Ok.ensures.last
    ∙ ap (λ (l : List Slot). last_time_after 0 (map head_of (entries_of l))) c.deref-2.ensures.value
    ∙ ap (λ (heads : List Head). last_time_after 0 heads) (sym (ap (λ (l : List Member). map head_of l) entries))

pub returns-clause-archived : goal.returns-clause-archived
returns-clause-archived g c =
    let slots : List Slot = c.in_ok-log.log.slots.items in
    let mark = c.in_ok-log.ensures.ends.archived_is in
    let last = c.in-Ok.ensures.last ∙ ap (λ (l : List Slot). last_time_after 0 (map head_of (entries_of l))) c.deref-2.ensures.value in
    omega (arith, mark, last, archived_upto_last _ slots c.in_ok-log.ensures.slots.rules)

pub returns-clause-floors : goal.returns-clause-floors
returns-clause-floors g c = λ relation.
    let slots : List Slot = c.in_ok-log.log.slots.items in
    let floor =
    ap (λ (f : FloorsValue). floor_at f relation) c.in_ok-log.ensures.ends.floors_are ∙ kept-of (log_of slots) relation in
    let last = c.in-Ok.ensures.last ∙ ap (λ (l : List Slot). last_time_after 0 (map head_of (entries_of l))) c.deref-2.ensures.value in
    omega (arith, floor, last, floor_upto_last _ slots relation c.in_ok-log.ensures.slots.rules)

pub read_runs-requires : goal.read_runs-requires
read_runs-requires g c =
    let slots : c.deref-4.result.now ≡ c.in_ok-log.log.slots.items = c.deref-4.ensures.value in
    subst (λ (l : List Slot). AllByRecursion IsRun (runs_of l)) (sym slots) (runs_in_range _ _ c.in_ok-log.ensures.slots.in_range)

pub returns-clause-runs : goal.returns-clause-runs
returns-clause-runs g c =
    let slots : List Slot = c.in_ok-log.log.slots.items in
    let listed = subst (λ (l : List Slot). AreEntriesOf l c.in_ok-runs.runs.items) c.deref-4.ensures.value c.in_ok-runs.ensures in (
      subst (AreInRow 0) (sym listed.runs_are) (rules_say _ _ c.in_ok-log.ensures.slots.rules).1,
      go_on slots 0 c.in_ok-runs.runs.items listed.runs_are listed.marks_are,
    )

pub returns-clause-runs_end : goal.returns-clause-runs_end
returns-clause-runs_end g c =
    let listed = subst (λ (l : List Slot). AreEntriesOf l c.in_ok-runs.runs.items) c.deref-4.ensures.value c.in_ok-runs.ensures in
    c.in_ok-log.ensures.ends.runs_end_is ∙ ap (row_end 0) (sym listed.runs_are)

pub returns-clause-found : goal.returns-clause-found
returns-clause-found g c = λ told.
    let slots : List Slot = c.in_ok-log.log.slots.items in
    let log =
    subst (λ (s : DiskState). HoldsLog c.in_ok-header.header s.areas.status.bytes slots) c.in_ok-header.ensures.reads (c.in_ok-log.ensures.log told) in
    let entries : c.in_ok-entries.entries.items ≡ entries_of slots = c.in_ok-entries.ensures ∙ ap entries_of c.deref.ensures.value in
    let state = c.in_ok-log.ensures.same ∙ c.in_ok-header.ensures.reads in
    let heap : HoldsSlots (g.D.Disk.state c.args.disk.now).areas.heap.bytes slots c.in-Ok.heap =
    subst (λ (l : List Slot). HoldsSlots (g.D.Disk.state c.args.disk.now).areas.heap.bytes l c.in-Ok.heap) c.deref-2.ensures.value
    (subst (λ (s : DiskState). HoldsSlots s.areas.heap.bytes c.deref-2.result.now c.in-Ok.heap) state (c.in-Ok.ensures.read told)) in
    let listed = subst (λ (l : List Slot). AreEntriesOf l c.in_ok-runs.runs.items) c.deref-4.ensures.value c.in_ok-runs.ensures in
    let runs : runs_named c.deref-5.result.now ≡ runs_of slots = ap runs_named c.deref-5.ensures.value ∙ listed.runs_are in
    let within : AllByRecursion (EndsWithin (length (g.D.Disk.state c.args.disk.now).areas.archive.bytes)) (runs_of slots) =
    subst (AllByRecursion (EndsWithin (length (g.D.Disk.state c.args.disk.now).areas.archive.bytes))) runs
    (subst (λ (s : DiskState). AllByRecursion (EndsWithin (length s.areas.archive.bytes)) (runs_named c.deref-5.result.now)) (c.in-Ok.ensures.reads
    ∙ state) (c.in_ok-check_runs.ensures.within told)) in
    image_read (image_of (g.D.Disk.state c.args.disk.now).areas) c.in_ok-header.header slots (record {
      header_reads = c.in_ok-header.ensures.found told;
      log = log;
    }) c.in-Ok.heap _ refl heap within
    (record {
      used = omega (arith, c.len.ensures, c.in_ok-log.log.slots.ok.0);
      commits = ap (λ (l : List Member). map head_of l) entries;
      floors = c.in_ok-log.ensures.ends.floors_are;
      archived = c.in_ok-log.ensures.ends.archived_is;
      reclaimed = c.in_ok-log.ensures.ends.reclaimed_is;
      runs = listed;
      extents = refl;
      live = refl;
      chains = refl;
      last_is = c.in-Ok.ensures.last ∙ ap (λ (l : List Slot). last_time_after 0 (map head_of (entries_of l))) c.deref-2.ensures.value;
    })

pub returns-in-Err-clause-fault : goal.returns-in-Err-clause-fault
returns-in-Err-clause-fault g c = λ told.
    let slots : List Slot = c.in_ok-log.log.slots.items in
    let log =
    subst (λ (s : DiskState). HoldsLog c.in_ok-header.header s.areas.status.bytes slots) c.in_ok-header.ensures.reads (c.in_ok-log.ensures.log told) in
    let state = c.in_ok-log.ensures.same ∙ c.in_ok-header.ensures.reads in
    let fails : IsSlotsFault (g.D.Disk.state c.args.disk.now).areas.heap.bytes slots c.in-Err.fault =
    subst (λ (l : List Slot). IsSlotsFault (g.D.Disk.state c.args.disk.now).areas.heap.bytes l c.in-Err.fault) c.deref-2.ensures.value
    (subst (λ (s : DiskState). IsSlotsFault s.areas.heap.bytes c.deref-2.result.now c.in-Err.fault) state (c.in-Err.ensures.first told)) in
    members_fail (image_of (g.D.Disk.state c.args.disk.now).areas) c.in_ok-header.header slots (record {
      header_reads = c.in_ok-header.ensures.found told;
      log = log;
    }) c.in-Err.fault fails

pub returns-in_err-check_runs-clause-fault : goal.returns-in_err-check_runs-clause-fault
returns-in_err-check_runs-clause-fault g c = λ told.
    let slots : List Slot = c.in_ok-log.log.slots.items in
    let log =
    subst (λ (s : DiskState). HoldsLog c.in_ok-header.header s.areas.status.bytes slots) c.in_ok-header.ensures.reads (c.in_ok-log.ensures.log told) in
    let listed = subst (λ (l : List Slot). AreEntriesOf l c.in_ok-runs.runs.items) c.deref-4.ensures.value c.in_ok-runs.ensures in
    let runs : runs_named c.deref-5.result.now ≡ runs_of slots = ap runs_named c.deref-5.ensures.value ∙ listed.runs_are in
    let state = c.in_ok-log.ensures.same ∙ c.in_ok-header.ensures.reads in
    let heap : HoldsSlots (g.D.Disk.state c.args.disk.now).areas.heap.bytes slots c.in-Ok.heap =
    subst (λ (l : List Slot). HoldsSlots (g.D.Disk.state c.args.disk.now).areas.heap.bytes l c.in-Ok.heap) c.deref-2.ensures.value
    (subst (λ (s : DiskState). HoldsSlots s.areas.heap.bytes c.deref-2.result.now c.in-Ok.heap) state (c.in-Ok.ensures.read told)) in
    let fault : OpenFault = c.in_err-check_runs.field-0.0 in
    let fails : IsRunsFault (length (g.D.Disk.state c.args.disk.now).areas.archive.bytes) (runs_of slots) fault =
    subst (λ (l : List Run). IsRunsFault (length (g.D.Disk.state c.args.disk.now).areas.archive.bytes) l fault) runs
    (subst (λ (s : DiskState). IsRunsFault (length s.areas.archive.bytes) (runs_named c.deref-5.result.now) fault) (c.in-Ok.ensures.reads
    ∙ state) (c.in_err-check_runs.ensures.fault told)) in
    let p = err_from_is_err_and c.from_residual-in_err-check_runs.result c.from_residual-in_err-check_runs.ensures.1 in
    rw (p.1, p.2)
    (runs_fail (image_of (g.D.Disk.state c.args.disk.now).areas) c.in_ok-header.header slots (record {
      header_reads = c.in_ok-header.ensures.found told;
      log = log;
    }) c.in-Ok.heap fault heap fails)
