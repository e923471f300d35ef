use Rattle.std.proofs.Common.{ℕ, List, refl, sym, ◌∙◌, ap, subst}
use Rattle.std.specs.List.{AllByRecursion}
use Rattle.log_entries.specs.Ranges.{IsEntry}
use Rattle.law_log_layout.specs.HeapLog.{PlacedChain}
use Rattle.log_recovery.specs.Rules.{mark_of, FailsRule}
use Rattle.log_recovery.specs.Opening.{AtRule}
use Rattle.log_shown.specs.Shown.{items_before, items_of}
use Rattle.log_shown.specs.declared.reading.ShownEnd.TheVariants as stops
use Rattle.log_shown.proofs.Showing.{shown_damaged}
use Rattle.log_shown.proofs.reading.show_rules.Goals as goal

pub check_rules-requires : goal.check_rules-requires
check_rules-requires g c = (
  c.args.heap.most,
  subst (AllByRecursion (λ (d : PlacedChain). IsEntry c.args.heap.most d.entry)) (sym c.deref.ensures.value) c.requires.entries,
)

pub returns-in-Breaks-clause-shown : goal.returns-in-Breaks-clause-shown
returns-in-Breaks-clause-shown g c = λ told.
    let heap = (g.D.Disk.state c.args.disk.now).areas.heap.bytes in
    let chains = c.args.read.chains.items in
    let head = c.in-Breaks.head in
    let fails = rw c.in-Breaks.is at c.in_ok-end.ensures in
    let rule = subst (λ (l : List PlacedChain). FailsRule (mark_of l) l head) c.deref.ensures.value fails in
    shown_damaged c.args.heap.most c.args.root heap head c.damaged.result.items.items (items_before head (items_of chains)) c.damaged.result.end
    (AtRule chains c.args.read.next (c.requires.chains told) rule, refl)
    (c.damaged.ensures.items ∙ c.items_before.ensures ∙ ap (items_before c.from-place.result) c.requires.items
    ∙ ap (λ (n : ℕ). items_before n (items_of chains)) c.from-place.ensures)
    (c.damaged.ensures.end ∙ ap stops.Damaged c.from-place.ensures)
