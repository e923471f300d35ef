use Rattle.std.proofs.Common.{◌≡◌, ℕ, List, sym, subst}
use Rattle.std.specs.List.{AllByRecursion}
use Rattle.log_entries.specs.Ranges.{IsEntry}
use Rattle.law_log_layout.specs.HeapLog.{PlacedChain}
use Rattle.log_recovery.specs.Rules.{mark_of, FailsRule}
use Rattle.log_recovery.specs.Opening.{FailsHeap, AtRule}
use Rattle.log_recovery.proofs.opening.read_rules.Goals as goal

pub check_rules-requires : goal.check_rules-requires
check_rules-requires g c = (
  c.args.heap.most,
  subst (AllByRecursion (λ (d : PlacedChain). IsEntry c.args.heap.most d.entry)) (sym c.deref.ensures.value) c.in-Ok.ensures.entries,
)

pub returns-in-Breaks-clause-fault : goal.returns-in-Breaks-clause-fault
returns-in-Breaks-clause-fault g c = λ told.
    let heap = (g.D.Disk.state c.args.disk.now).areas.heap.bytes in
    let fails = rw c.in-Breaks.is at c.in_ok-end.ensures in
    subst (FailsHeap c.args.heap.most c.args.root heap) (sym c.from.ensures)
    (AtRule c.in-Ok.read.chains.items c.in-Ok.read.next (c.in-Ok.ensures.chains told)
    (subst (λ (l : List PlacedChain). FailsRule (mark_of l) l c.in-Breaks.head) c.deref.ensures.value fails))
