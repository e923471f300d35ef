use Rattle.std.proofs.Common.{ℕ, ◌^◌, ◌<◌, Bool, List, sym, ◌∙◌, ap, subst, take}
use Rattle.law_log_layout.specs.HeapLog.{PlacedChain}
use Rattle.log_recovery.specs.Rules.{mark_of}
use Rattle.log_recovery.specs.Anchored.{first_names, TakesAnchors, IsAnchorsFault}
use Rattle.log_shown.specs.Shown.{items_of}
use Rattle.log_recovery.proofs.HeapRead.{mark_is_time}
use Rattle.log_shown.proofs.Showing.{shown_damaged, anchors_shown_of}
use Rattle.log_shown.proofs.reading.show_anchored.Goals as goal

pub read_base-requires-clause-mark : goal.read_base-requires-clause-mark
read_base-requires-clause-mark g c =
    subst (λ (m : ℕ). m < 2 ^ 63) (sym c.requires.end.says.mark_is) (mark_is_time c.args.heap.most c.args.log.chains.items c.requires.entries)

pub returns-in-Ok-clause-shown : goal.returns-in-Ok-clause-shown
returns-in-Ok-clause-shown g c = λ told.
    let heap = (g.D.Disk.state c.args.disk.now).areas.heap.bytes in
    let most = c.args.heap.most in
    let chains = c.args.log.chains.items in
    let read = c.requires.read told in
    let found = c.in-Ok.ensures.found told in
    let named = subst (λ (l : List PlacedChain). TakesAnchors most c.args.log.end.mark heap c.args.log.space c.read_base.new.space
    (first_names l) c.in-Ok.anchors) c.deref.ensures.value found in
    let marked = subst (λ (m : ℕ). TakesAnchors most m heap c.args.log.space c.read_base.new.space (first_names chains) c.in-Ok.anchors)
    c.requires.end.says.mark_is named in
    let takes = subst (λ (u : List Bool). TakesAnchors most (mark_of chains) heap u c.read_base.new.space (first_names chains) c.in-Ok.anchors)
    read.space_is marked in
    c.show_members.ensures.shown heap (c.requires.len told) (record { keeps = read.keeps; takes = takes })

pub returns-in-Err-Damaged-clause-shown : goal.returns-in-Err-Damaged-clause-shown
returns-in-Err-Damaged-clause-shown g c = λ told.
    let heap = (g.D.Disk.state c.args.disk.now).areas.heap.bytes in
    let most = c.args.heap.most in
    let root = c.args.root in
    let chains = c.args.log.chains.items in
    let read = c.requires.read told in
    let place = c.in-Err-Damaged.place in
    let fault = c.in-Err-Damaged.field-0 in
    let named = subst (λ (l : List PlacedChain). IsAnchorsFault most c.args.log.end.mark heap c.args.log.space (first_names l) fault)
    c.deref.ensures.value (c.in-Err-Damaged.ensures.fault told) in
    let here = subst (λ (m : ℕ). IsAnchorsFault most m heap c.args.log.space (first_names chains) fault) c.requires.end.says.mark_is named in
    let stopped = rw c.in-Err-Damaged.field-0-is at c.damaged.ensures.end in
    shown_damaged most root heap place c.damaged.result.items.items (items_of (take 1 chains)) c.damaged.result.end
    (anchors_shown_of most root heap chains c.args.log.next c.args.log.space fault _ place c.in-Err-Damaged.field-0-is read.keeps read.space_is here)
    (c.damaged.ensures.items ∙ c.in_ok-base-in-Err-Damaged.ensures
    ∙ ap (λ (l : List PlacedChain). items_of (take 1 l)) c.deref-in-Err-Damaged.ensures.value) stopped
