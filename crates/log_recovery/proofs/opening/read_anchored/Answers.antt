use Rattle.std.proofs.Common.{◌≡◌, ℕ, ◌^◌, ◌<◌, List, sym, subst}
use Rattle.disk.specs.Calls.{DiskState}
use Rattle.law_log_layout.specs.HeapLog.{PlacedChain}
use Rattle.log_recovery.specs.Rules.{mark_of}
use Rattle.log_recovery.specs.Anchored.{first_names, IsAnchorsFault}
use Rattle.log_recovery.proofs.HeapRead.{mark_is_time, fault_of_base}
use Rattle.log_recovery.proofs.opening.read_anchored.Goals as goal

pub read_base-requires-clause-mark : goal.read_base-requires-clause-mark
read_base-requires-clause-mark g c =
    subst (λ (m : ℕ). m < 2 ^ 63) (sym c.in-Ok.ensures.end.says.mark_is)
    (mark_is_time c.args.heap.most c.in-Ok.log.chains.items c.in-Ok.ensures.entries)

pub returns-in-Err-read_base-clause-fault : goal.returns-in-Err-read_base-clause-fault
returns-in-Err-read_base-clause-fault g c = λ told.
    let heap = (g.D.Disk.state c.args.disk.now).areas.heap.bytes in
    let most = c.args.heap.most in
    let read = c.in-Ok.ensures.found told in
    let fault = c.in-Err-read_base.fault in
    let here = subst (λ (s : DiskState). IsAnchorsFault most c.in-Ok.log.end.mark s.areas.heap.bytes c.in-Ok.log.space (first_names c.deref.result.now) fault)
    c.in-Ok.ensures.reads (c.in-Err-read_base.ensures.fault told) in
    let named = subst (λ (l : List PlacedChain). IsAnchorsFault most c.in-Ok.log.end.mark heap c.in-Ok.log.space
    (first_names l) fault) c.deref.ensures.value here in
    let marked = subst (λ (m : ℕ). IsAnchorsFault most m heap c.in-Ok.log.space (first_names c.in-Ok.log.chains.items) fault)
    c.in-Ok.ensures.end.says.mark_is named in
    fault_of_base most c.args.root heap c.in-Ok.log.chains.items c.in-Ok.log.next read.keeps c.in-Ok.log.space read.space_is fault marked
