use Rattle.std.proofs.Common.{◌≡◌, ◌-◌, ◌+◌, suc, ℕ, List, ◌∷◌, ◌++◌, map, take, drop, arith, ap, sym, subst, ◌∙◌}
use Rattle.std.specs.List.{flat_map}
use Rattle.extents.specs.declared.usage.Usage.{Usage}
use Rattle.extents.specs.declared.usage.Usage.TheVariants.{Kept}
use Rattle.extents.specs.Usages.{with_usages, AreOut}
use Rattle.chains.specs.KeyWrites.{KeyWrites}
use Rattle.group.specs.Queued.{QueuedValue, numbers_of}
use Rattle.group.specs.declared.queued.StoredExtent.{StoredExtent}
use Rattle.group.specs.Values.{versions_after}
use Rattle.group.specs.Steps.{with_chains}
use Rattle.extents.specs.Times.{with_times}
use Rattle.wire.specs.declared.slot.Member.{Member}
use Rattle.std.proofs.lemmas.List.Concat.{flat_map-cons}
use Rattle.group.proofs.Publishing.{AreLeft, first-out, one_less, out-beside}
use Rattle.group.proofs.steps.publish_first.Goals as goal

pub loop-preserved : goal.loop-preserved
loop-preserved c =
    let q = c.in-Some.queued in
    let qs = c.pop_front.new.self.items in
    let count = c.args.count in
    let all = c.args.queue.now.items in
    let Left = λ (versions : List KeyWrites) (usages : List Usage) (queue : List QueuedValue) (left : ℕ) (times : List ℕ).
    AreLeft versions usages queue left times (with_chains c.args.times.now (take count all)) (versions_after c.args.versions.now (take count all))
    (with_usages c.args.extents.now (flat_map numbers_of (take count all)) Kept) (drop count all) in
    let left = count - (c.loop.counter + 1) in
    let more : count - c.loop.counter ≡ suc left = omega (arith, c.loop-test.true) in
    let before : Left c.loop.versions c.loop.extents (q ∷ qs) (suc left) c.loop.times =
    subst (λ (n : ℕ). Left c.loop.versions c.loop.extents (q ∷ qs) n c.loop.times) more
    (subst (λ (xs : List QueuedValue). Left c.loop.versions c.loop.extents xs (count - c.loop.counter) c.loop.times) c.in-Some.ensures.items
    c.loop.invariant.left) in
    let stored_is : c.spend-after.result.stored.items ≡ q.stored = c.spend-after.ensures.stored in
    let numbers_are : map (λ (s : StoredExtent). s.extent) c.spend-after.result.stored.items ≡ numbers_of q =
    ap (λ (ss : List StoredExtent). map (λ s. s.extent) ss) stored_is in
    let kept : c.keep_all.new.extents ≡ with_usages c.loop.extents (numbers_of q) Kept =
    c.keep_all.ensures (subst (λ (ns : List ℕ). AreOut c.loop.extents ns) (sym numbers_are) (first-out before))
    ∙ ap (λ (ns : List ℕ). with_usages c.loop.extents ns Kept) numbers_are in
    let times_are : c.set_times.new.times ≡ with_times c.loop.times (numbers_of q) q.entry.time =
    c.set_times.ensures ∙ ap (λ (ss : List StoredExtent). with_times c.loop.times (map (λ s. s.extent) ss) c.spend-after.result.entry.time)
    (c.deref.ensures.value ∙ stored_is) ∙ ap (λ (m : Member). with_times c.loop.times (numbers_of q) m.time) c.spend-after.ensures.entry in
    rw (c.spend-after.ensures.after, kept, times_are) record {
      left = one_less left before;
      still = λ others out.
          let first : AreOut c.loop.extents (flat_map numbers_of (q ∷ qs) ++ others) =
          subst (λ (xs : List QueuedValue). AreOut c.loop.extents (flat_map numbers_of xs ++ others)) c.in-Some.ensures.items
          (c.loop.invariant.still others out) in
          out-beside c.loop.extents (numbers_of q) (flat_map numbers_of qs) others Kept
          (subst (λ (ns : List ℕ). AreOut c.loop.extents (ns ++ others)) (flat_map-cons numbers_of q qs) first);
    }
