use Rattle.std.proofs.Common.{◌≡◌, ℕ, ◌+◌, ◌-◌, ◌<◌, ◌≤◌, Bool, List, length, refl, sym, ◌∙◌, ap, subst, arith}
use Rattle.std.specs.Prelude.{slice_range}
use Rattle.disk.specs.Calls.{DiskState}
use Rattle.deltas.specs.Extents.{extent_start}
use Rattle.log_extents.specs.Taking.{ChainState, IsLinkOf}
use Rattle.log_extents.specs.declared.chain_reader.ChainKind.{ChainKind}
use Rattle.log_space.specs.Uses.{used_count}
use Rattle.log_recovery.specs.Taking.{IsTakenChain, free_left}
use Rattle.log_recovery.proofs.Images.{IsReading, reading_starts, reading_ends, reading_fails, reading_goes_on, reading_is_whole, fewer_free}
use Rattle.log_recovery.proofs.taking.read_chain.Goals as goal

pub loop-heap-init : goal.loop-heap-init
loop-heap-init g c = (
  refl,
  λ told.
      let heap = (g.D.Disk.state c.args.disk.now).areas.heap.bytes in
      subst (λ (s : ChainState). IsReading c.args.kind c.args.heap.most c.args.number heap c.args.space.now c.args.space.now s c.args.number)
      (sym c.new-reader.ensures) (reading_starts c.args.kind c.args.heap.most c.args.number heap c.args.space.now),
  omega arith,
  ap (λ (s : ChainState). s.kind) c.new-reader.ensures,
  ap (λ (s : ChainState). s.most) c.new-reader.ensures,
)

pub loop-heap-smaller : goal.loop-heap-smaller
loop-heap-smaller g c =
    let there = c.loop-heap-test.ensures.claimed.0 refl in
    subst (λ (u : List Bool). length u - used_count u < length c.loop-heap.space - used_count c.loop-heap.space)
    (sym c.loop-heap-test.ensures.used) (fewer_free c.loop-heap.space c.loop-heap.next there.1)

pub loop-heap-preserved : goal.loop-heap-preserved
loop-heap-preserved g c = (
  c.in_ok-read_into.ensures.reads ∙ c.loop-heap.invariant.0,
  λ told.
      let heap = (g.D.Disk.state c.args.disk.now).areas.heap.bytes in
      let there = c.loop-heap-test.ensures.claimed.0 refl in
      let len = c.requires.len told in
      let read = c.in_ok-read_into.ensures.bytes told
      ∙ ap (λ (s : DiskState). slice_range s.areas.heap.bytes (extent_start c.loop-heap.next) (extent_start c.loop-heap.next + 8192)) c.loop-heap.invariant.0 in
      let more = rw c.in-More.is at c.in_ok-another.ensures.taken in
      subst (λ (u : List Bool). IsReading c.args.kind c.args.heap.most c.args.number heap c.args.space.now u c.take.new.self c.in-More.another)
      (sym c.loop-heap-test.ensures.used)
      (reading_goes_on c.args.kind c.args.heap.most c.args.number heap c.args.space.now c.loop-heap.space c.loop-heap.reader c.take.new.self c.loop-heap.next
      c.in-More.another c.read_into.new.image (c.loop-heap.invariant.1 told) c.read_into.array_long (omega (arith, there.0, len)) there.1 read more),
  (
      let there = c.loop-heap-test.ensures.claimed.0 refl in
      subst (λ (u : List Bool). free_left u ≤ free_left c.args.space.now) (sym c.loop-heap-test.ensures.used)
      (omega (arith, fewer_free c.loop-heap.space c.loop-heap.next there.1, c.loop-heap.invariant.2))
      ),
  (let more = rw c.in-More.is at c.in_ok-another.ensures.taken in more.same.kind ∙ c.loop-heap.invariant.3),
  (let more = rw c.in-More.is at c.in_ok-another.ensures.taken in more.same.most ∙ c.loop-heap.invariant.4),
)

pub returns-in-Whole-clause-found : goal.returns-in-Whole-clause-found
returns-in-Whole-clause-found g c = λ told.
    let heap = (g.D.Disk.state c.args.disk.now).areas.heap.bytes in
    let there = c.loop-heap-test.ensures.claimed.0 refl in
    let len = c.requires.len told in
    let read = c.in_ok-read_into.ensures.bytes told
    ∙ ap (λ (s : DiskState). slice_range s.areas.heap.bytes (extent_start c.loop-heap.next) (extent_start c.loop-heap.next + 8192)) c.loop-heap.invariant.0 in
    let whole = rw c.in-Whole.is at c.in_ok-another.ensures.taken in
    subst (λ (u : List Bool). IsTakenChain c.args.kind c.args.heap.most c.args.number heap c.args.space.now u c.into_parts.result)
    (sym c.loop-heap-test.ensures.used)
    (reading_is_whole c.args.kind c.args.heap.most c.args.number heap c.args.space.now c.loop-heap.space c.loop-heap.reader c.take.new.self c.loop-heap.next
    c.read_into.new.image c.into_parts.result c.into_parts.ensures.numbers c.into_parts.ensures.link c.into_parts.ensures.content
    (c.loop-heap.invariant.1 told) c.read_into.array_long (omega (arith, there.0, len)) there.1 read whole)

pub returns-in-Bad-clause-found : goal.returns-in-Bad-clause-found
returns-in-Bad-clause-found g c = λ told.
    let heap = (g.D.Disk.state c.args.disk.now).areas.heap.bytes in
    let read = c.in_ok-read_into.ensures.bytes told
    ∙ ap (λ (s : DiskState). slice_range s.areas.heap.bytes (extent_start c.loop-heap.next) (extent_start c.loop-heap.next + 8192)) c.loop-heap.invariant.0 in
    let bad = rw c.in-Bad.is at c.in_ok-another.ensures.taken in
    reading_fails c.args.kind c.args.heap.most c.args.number heap c.args.space.now c.loop-heap.space c.loop-heap.reader c.loop-heap.next
    c.read_into.new.image (c.loop-heap.invariant.1 told) read bad.1

pub returns-clause-found : goal.returns-clause-found
returns-clause-found g c = λ told.
    reading_ends c.args.kind c.args.heap.most c.args.number (g.D.Disk.state c.args.disk.now).areas.heap.bytes c.args.space.now c.loop-heap.space
    c.loop-heap.reader c.loop-heap.next c.args.heap.len (c.loop-heap.invariant.1 told) (c.requires.len told)
    (λ both. let absurdity = c.loop-heap-test.ensures.claimed.1 both in cc)

pub returns-in-Whole-clause-fewer : goal.returns-in-Whole-clause-fewer
returns-in-Whole-clause-fewer g c =
    let there = c.loop-heap-test.ensures.claimed.0 refl in
    subst (λ (u : List Bool). free_left u < free_left c.args.space.now) (sym c.loop-heap-test.ensures.used)
    (omega (arith, fewer_free c.loop-heap.space c.loop-heap.next there.1, c.loop-heap.invariant.2))

pub returns-in-Whole-clause-link : goal.returns-in-Whole-clause-link
returns-in-Whole-clause-link g c =
    let whole = rw c.in-Whole.is at c.in_ok-another.ensures.taken in
    subst (IsLinkOf c.args.kind c.args.heap.most) (sym c.into_parts.ensures.link)
    (subst (λ (k : ChainKind). IsLinkOf k c.args.heap.most c.take.new.self.link) c.loop-heap.invariant.3
    (subst (λ (m : ℕ). IsLinkOf c.loop-heap.reader.kind m c.take.new.self.link) c.loop-heap.invariant.4 whole.is_chain.link_is))
