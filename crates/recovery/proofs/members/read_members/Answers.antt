use Rattle.std.proofs.Common.{◌≡◌, inl, refl, ℕ, [], ◌∷◌, List, length, map, ap, sym, subst, ◌∙◌}
use Rattle.std.specs.List.{AllByRecursion}
use Rattle.disk.specs.Calls.{DiskState}
use Rattle.law_image.specs.Log.{AreRisingAfter, last_time_after}
use Rattle.status.specs.Rules.{head_of}
use Rattle.wire.specs.Spelling.{IsMember}
use Rattle.wire.specs.declared.slot.Member.{Member}
use Rattle.recovery.specs.Anchored.{HoldsAnchors}
use Rattle.recovery.specs.Chains.{AddsChain, HasNoChain}
use Rattle.recovery.proofs.HeldMembers.{IsUnderWay, way_begins, way_goes_on, way_ends, way_fails}
use Rattle.recovery.proofs.AnchorChains.{none_left}
use Rattle.recovery.proofs.members.read_members.Goals as goal

pub returns-in-Ok-None-clause-first : goal.returns-in-Ok-None-clause-first
returns-in-Ok-None-clause-first g c = λ told.
    let none = rw c.in-Ok-None.field-0-is at (c.in-Ok-None.ensures.found told) in
    inl (refl, none)

pub returns-in-Ok-None-read_member-clause-first : goal.returns-in-Ok-None-read_member-clause-first
returns-in-Ok-None-read_member-clause-first g c = λ told.
    let heap : List ℕ = (g.D.Disk.state c.args.disk.now).areas.heap.bytes in
    let begun : List ℕ = (g.D.Disk.state c.read_anchors.new.disk).areas.heap.bytes in
    let split : c.loop-entry.rest.now ≡ c.in-Some.entry.now ∷ c.in-Some.after.now = c.in-Some.ensures.cases.0 in
    let way : IsUnderWay heap c.args.anchors.now.upto c.args.anchors.now c.args.entries.now (c.in-Some.entry.now ∷ c.in-Some.after.now) c.loop-entry.heap =
    subst (λ (s : DiskState). IsUnderWay s.areas.heap.bytes c.args.anchors.now.upto c.args.anchors.now c.args.entries.now (c.in-Some.entry.now
    ∷ c.in-Some.after.now) c.loop-entry.heap) c.in-Ok-Some.ensures.reads
    (subst (λ (l : List Member). IsUnderWay begun c.args.anchors.now.upto c.args.anchors.now c.args.entries.now l c.loop-entry.heap) split
    (c.loop-entry.invariant.4 told)) in
    let none = rw c.in-Ok-None-read_member.field-0-is at (c.in-Ok-None-read_member.ensures.found told) in
    let here : HasNoChain heap c.args.heap_len c.loop-entry.heap c.in-Some.entry.now =
    subst (λ (s : DiskState). HasNoChain s.areas.heap.bytes c.args.heap_len c.loop-entry.heap c.in-Some.entry.now) (c.loop-entry.invariant.0
    ∙ c.in-Ok-Some.ensures.reads) none in
    way_fails heap c.args.heap_len c.args.anchors.now.upto c.args.anchors.now c.args.entries.now c.in-Some.entry.now c.in-Some.after.now c.loop-entry.heap
    (c.requires.len told) way here

pub loop-entry-preserved : goal.loop-entry-preserved
loop-entry-preserved g c =
    let split : c.loop-entry.rest.now ≡ c.in-Some.entry.now ∷ c.in-Some.after.now = c.in-Some.ensures.cases.0 in
    let last : c.in-Ok-Some-read_member.next.last ≡ c.in-Some.entry.now.time =
    rw c.in-Ok-Some-read_member.field-0-is at c.in-Ok-Some-read_member.ensures.last in
    let rising = subst (λ (l : List Member). AreRisingAfter c.loop-entry.heap.last (map head_of l)) split c.loop-entry.invariant.1 in
    let times : last_time_after c.in-Some.entry.now.time (map head_of c.in-Some.after.now)
    ≡ last_time_after c.args.anchors.now.upto (map head_of c.args.entries.now) =
    ap (λ (l : List Member). last_time_after c.loop-entry.heap.last (map head_of l)) (sym split) ∙ c.loop-entry.invariant.2 in
    let ranges = subst (AllByRecursion IsMember) split c.loop-entry.invariant.3 in (
      c.in-Ok-Some-read_member.ensures.reads ∙ c.loop-entry.invariant.0,
      subst (λ (n : ℕ). AreRisingAfter n (map head_of c.in-Some.after.now)) (sym last) rising.2,
      ap (λ (n : ℕ). last_time_after n (map head_of c.in-Some.after.now)) last ∙ times,
      ranges.1,
      λ told.
          let begun : List ℕ = (g.D.Disk.state c.read_anchors.new.disk).areas.heap.bytes in
          let whole : c.args.heap_len ≡ length begun =
          c.requires.len told ∙ ap (λ (s : DiskState). length s.areas.heap.bytes) (sym c.in-Ok-Some.ensures.reads) in
          let way : IsUnderWay begun c.args.anchors.now.upto c.args.anchors.now c.args.entries.now (c.in-Some.entry.now
          ∷ c.in-Some.after.now) c.loop-entry.heap =
          subst (λ (l : List Member). IsUnderWay begun c.args.anchors.now.upto c.args.anchors.now c.args.entries.now l c.loop-entry.heap) split
          (c.loop-entry.invariant.4 told) in
          let adds = rw c.in-Ok-Some-read_member.field-0-is at (c.in-Ok-Some-read_member.ensures.found told) in
          let here : AddsChain begun c.args.heap_len c.in-Some.entry.now c.loop-entry.heap c.in-Ok-Some-read_member.next =
          subst (λ (s : DiskState). AddsChain s.areas.heap.bytes c.args.heap_len c.in-Some.entry.now c.loop-entry.heap c.in-Ok-Some-read_member.next)
          c.loop-entry.invariant.0 adds in
          way_goes_on begun c.args.heap_len c.args.anchors.now.upto c.args.anchors.now c.args.entries.now c.in-Some.entry.now c.in-Some.after.now
          c.loop-entry.heap c.in-Ok-Some-read_member.next whole ranges.0 rising.0 way here,
    )

pub loop-entry-init : goal.loop-entry-init
loop-entry-init g c =
    let last : c.in-Ok-Some.heap.last ≡ c.args.anchors.now.upto = rw c.in-Ok-Some.field-0-is at c.in-Ok-Some.ensures.last in (
      refl,
      subst (λ (n : ℕ). AreRisingAfter n (map head_of c.args.entries.now)) (sym last) c.requires.rising,
      ap (λ (n : ℕ). last_time_after n (map head_of c.args.entries.now)) last,
      c.requires.in_range,
      λ told.
          let holds = rw c.in-Ok-Some.field-0-is at (c.in-Ok-Some.ensures.found told) in
          way_begins (g.D.Disk.state c.read_anchors.new.disk).areas.heap.bytes c.args.anchors.now c.args.entries.now c.in-Ok-Some.heap
          (subst (λ (s : DiskState). HoldsAnchors s.areas.heap.bytes c.args.anchors.now c.in-Ok-Some.heap) (sym c.in-Ok-Some.ensures.reads) holds),
    )

pub returns-clause-read : goal.returns-clause-read
returns-clause-read g c = λ told.
    let heap : List ℕ = (g.D.Disk.state c.args.disk.now).areas.heap.bytes in
    let begun : List ℕ = (g.D.Disk.state c.read_anchors.new.disk).areas.heap.bytes in
    let none : c.loop-entry.rest.now ≡ [] = none_left c.loop-entry.rest.now c.in_default.ensures.cases in
    way_ends heap c.args.anchors.now.upto c.args.anchors.now c.args.entries.now c.loop-entry.heap
    (subst (λ (s : DiskState). IsUnderWay s.areas.heap.bytes c.args.anchors.now.upto c.args.anchors.now c.args.entries.now [] c.loop-entry.heap)
    c.in-Ok-Some.ensures.reads
    (subst (λ (l : List Member). IsUnderWay begun c.args.anchors.now.upto c.args.anchors.now c.args.entries.now l c.loop-entry.heap) none
    (c.loop-entry.invariant.4 told)))
