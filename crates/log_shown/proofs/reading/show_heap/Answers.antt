use Rattle.std.proofs.Common.{Bool, sym, ◌∙◌, ap, subst}
use Rattle.disk.specs.Calls.{DiskState}
use Rattle.log_recovery.specs.Chains.{HoldsChains}
use Rattle.log_recovery.specs.Opening.{AtChain}
use Rattle.log_shown.specs.Shown.{IsFront, items_of}
use Rattle.log_shown.specs.declared.reading.ShownEnd.TheVariants as stops
use Rattle.log_shown.proofs.Showing.{shown_damaged}
use Rattle.log_shown.proofs.reading.show_heap.Goals as goal

pub returns-then-not-whole-clause-shown : goal.returns-then-not-whole-clause-shown
returns-then-not-whole-clause-shown g c = λ told.
    let heap = (g.D.Disk.state c.args.disk.now).areas.heap.bytes in
    let most = c.args.heap.most in
    let front = c.in-Ok.front in
    let stopped = subst (λ (b : Bool). IsFront b most c.args.root heap front.read.chains.items front.read.next) c.if-not-whole.true
    (c.in-Ok.ensures.front told) in
    shown_damaged most c.args.root heap front.read.next c.damaged.result.items.items (items_of front.read.chains.items) c.damaged.result.end
    (AtChain stopped.0, ap items_of (sym stopped.1))
    (c.damaged.ensures.items ∙ c.in_ok-items.ensures ∙ ap items_of c.deref.ensures.value)
    (c.damaged.ensures.end ∙ ap stops.Damaged c.from.ensures)

pub show_rules-requires-clause-chains : goal.show_rules-requires-clause-chains
show_rules-requires-clause-chains g c = λ told.
    let most = c.args.heap.most in
    let front = c.in-Ok.front in
    let whole = subst (λ (b : Bool). IsFront b most c.args.root (g.D.Disk.state c.args.disk.now).areas.heap.bytes front.read.chains.items front.read.next)
    c.if-not-whole.false (c.in-Ok.ensures.front told) in
    subst (λ (s : DiskState). HoldsChains most c.args.root s.areas.heap.bytes front.read.chains.items front.read.next) (sym c.in-Ok.ensures.reads) whole
