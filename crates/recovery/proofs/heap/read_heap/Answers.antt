use Rattle.std.proofs.Common.{◌≡◌, ℕ, ◌^◌, ◌<◌, List, length, map, ap, sym, subst, ◌∙◌, arith}
use Rattle.std.specs.Prelude.{IfOk, IfErr}
use Rattle.std.specs.List.{AllByRecursion}
use Rattle.wire.specs.Spelling.{IsMember}
use Rattle.wire.specs.declared.slot.Anchors.{Anchors}
use Rattle.wire.specs.declared.slot.Member.{Member}
use Rattle.disk.specs.Calls.{DiskState}
use Rattle.law_image.specs.Log.{AreRisingAfter, last_time_after}
use Rattle.status.specs.Rules.{head_of}
use Rattle.law_layout.specs.Layouts.{entries_of, later_than, anchors_after, no_anchors}
use Rattle.law_layout.specs.Opening.{mark_of}
use Rattle.recovery.specs.HeapReads.{HoldsEntries, IsMembersFault}
use Rattle.recovery.proofs.Heads.{entries_rise, reclaimed_upto_last, reclaimed_in_range, mark_is, later_rise, later_last}
use Rattle.recovery.proofs.OpenedHeap.{entries_in_range, later_in_range}
use Rattle.recovery.proofs.heap.read_heap.Goals as goal

pub later_than-later-requires : goal.later_than-later-requires
later_than-later-requires g c =
    subst (λ (l : List Member). AreRisingAfter 0 (map head_of l)) (sym c.requires.entries)
    (entries_rise c.requires.slots.0 c.args.slots.now c.requires.slots.1.rules)

pub read_members-requires : goal.read_members-requires
read_members-requires g c =
    let slots = c.args.slots.now in
    let profile = c.requires.slots.0 in
    let mark : c.last_anchors-anchors.result.upto ≡ mark_of slots = ap (λ (a : Anchors). a.upto) c.last_anchors-anchors.ensures ∙ sym (mark_is slots) in
    let later : c.later_than-later.result.now ≡ later_than (mark_of slots) (entries_of slots) =
    c.later_than-later.ensures ∙ ap (λ (n : ℕ). later_than n c.args.entries.now) mark
    ∙ ap (λ (l : List Member). later_than (mark_of slots) l) c.requires.entries in
    record {
      len = λ told. c.in_ok-heap_len.ensures.len told ∙ ap (λ (s : DiskState). length s.areas.heap.bytes) (sym c.in_ok-heap_len.ensures.same);
      mark = subst (λ (n : ℕ). n < 2 ^ 63) (sym mark) (reclaimed_in_range profile slots c.requires.slots.1.rules);
      rising =
          subst (λ (n : ℕ). AreRisingAfter n (map head_of c.later_than-later.result.now)) (sym mark)
          (subst (λ (l : List Member). AreRisingAfter (mark_of slots) (map head_of l)) (sym later)
          (later_rise (mark_of slots) 0 (entries_of slots) (entries_rise profile slots c.requires.slots.1.rules)));
      in_range =
          subst (AllByRecursion IsMember) (sym later)
          (later_in_range (mark_of slots) (entries_of slots) (entries_in_range profile slots c.requires.slots.1.in_range));
    }

pub returns-clause-last : goal.returns-clause-last
returns-clause-last g c =
    let slots = c.args.slots.now in
    let profile = c.requires.slots.0 in
    let mark : c.last_anchors-anchors.result.upto ≡ mark_of slots = ap (λ (a : Anchors). a.upto) c.last_anchors-anchors.ensures ∙ sym (mark_is slots) in
    let later : c.later_than-later.result.now ≡ later_than (mark_of slots) (entries_of slots) =
    c.later_than-later.ensures ∙ ap (λ (n : ℕ). later_than n c.args.entries.now) mark
    ∙ ap (λ (l : List Member). later_than (mark_of slots) l) c.requires.entries in
    subst (λ (n : ℕ). IfOk c.read_members.result (λ heap. heap.last ≡ n))
    (ap (λ (n : ℕ). last_time_after n (map head_of c.later_than-later.result.now)) mark
    ∙ ap (λ (l : List Member). last_time_after (mark_of slots) (map head_of l)) later
    ∙ later_last (mark_of slots) 0 (entries_of slots) (entries_rise profile slots c.requires.slots.1.rules) (omega arith)
    (reclaimed_upto_last profile slots c.requires.slots.1.rules))
    c.read_members.ensures.last

pub returns-clause-read : goal.returns-clause-read
returns-clause-read g c = λ told.
    let slots = c.args.slots.now in
    let heap : DiskState → List ℕ = λ s. s.areas.heap.bytes in
    let mark : c.last_anchors-anchors.result.upto ≡ mark_of slots = ap (λ (a : Anchors). a.upto) c.last_anchors-anchors.ensures ∙ sym (mark_is slots) in
    let later : c.later_than-later.result.now ≡ later_than (mark_of slots) (entries_of slots) =
    c.later_than-later.ensures ∙ ap (λ (n : ℕ). later_than n c.args.entries.now) mark
    ∙ ap (λ (l : List Member). later_than (mark_of slots) l) c.requires.entries in
    subst (λ (s : DiskState). IfOk c.read_members.result
    (HoldsEntries (heap s) (mark_of slots) (anchors_after no_anchors slots) (later_than (mark_of slots) (entries_of slots)))) c.in_ok-heap_len.ensures.same
    (subst (λ (l : List Member). IfOk c.read_members.result
    (HoldsEntries (heap (g.D.Disk.state c.len.new.self)) (mark_of slots) (anchors_after no_anchors slots) l)) later
    (subst (λ (a : Anchors). IfOk c.read_members.result (HoldsEntries (heap (g.D.Disk.state c.len.new.self)) (mark_of slots) a c.later_than-later.result.now))
    c.last_anchors-anchors.ensures
    (subst (λ (n : ℕ). IfOk c.read_members.result
    (HoldsEntries (heap (g.D.Disk.state c.len.new.self)) n c.last_anchors-anchors.result c.later_than-later.result.now)) mark
    (c.read_members.ensures.read told))))

pub returns-clause-first : goal.returns-clause-first
returns-clause-first g c = λ told.
    let slots = c.args.slots.now in
    let heap : DiskState → List ℕ = λ s. s.areas.heap.bytes in
    let mark : c.last_anchors-anchors.result.upto ≡ mark_of slots = ap (λ (a : Anchors). a.upto) c.last_anchors-anchors.ensures ∙ sym (mark_is slots) in
    let later : c.later_than-later.result.now ≡ later_than (mark_of slots) (entries_of slots) =
    c.later_than-later.ensures ∙ ap (λ (n : ℕ). later_than n c.args.entries.now) mark
    ∙ ap (λ (l : List Member). later_than (mark_of slots) l) c.requires.entries in
    subst (λ (s : DiskState). IfErr c.read_members.result
    (IsMembersFault (heap s) (mark_of slots) (anchors_after no_anchors slots) (later_than (mark_of slots) (entries_of slots))))
    c.in_ok-heap_len.ensures.same
    (subst (λ (l : List Member). IfErr c.read_members.result
    (IsMembersFault (heap (g.D.Disk.state c.len.new.self)) (mark_of slots) (anchors_after no_anchors slots) l)) later
    (subst (λ (a : Anchors). IfErr c.read_members.result
    (IsMembersFault (heap (g.D.Disk.state c.len.new.self)) (mark_of slots) a c.later_than-later.result.now)) c.last_anchors-anchors.ensures
    (subst (λ (n : ℕ). IfErr c.read_members.result
    (IsMembersFault (heap (g.D.Disk.state c.len.new.self)) n c.last_anchors-anchors.result c.later_than-later.result.now)) mark
    (c.read_members.ensures.first told))))
