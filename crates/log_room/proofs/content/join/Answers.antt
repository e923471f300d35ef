use Rattle.std.proofs.Common.{ℕ, List, ◌≡◌, ◌+◌, ◌<◌, ◌++◌, length, sym, ap, ◌∙◌, arith}
use Rattle.log_extents.specs.Chains.{count_of}
use Rattle.log_room.proofs.Joins.{joined_more, extents_more, extents_within}
use Rattle.log_room.proofs.content.join.Goals as goal

pub overflow_add-extents : goal.overflow_add-extents
overflow_add-extents c =
    let contents = c.args.contents.now.items in
    let content = c.in-Some.content.now in
    let within : c.loop-place.place < length contents = omega (arith, c.requires.within, c.loop-place-test.true) in
    let more = extents_more contents c.loop-place.place content within c.in-Some.ensures.lookup in
    let all = extents_within contents (c.loop-place.place + 1) in
    let counted : c.count_extents-extents.result ≡ count_of (length content) =
    c.count_extents-extents.ensures ∙ ap count_of (c.len.ensures ∙ sym c.deref.ensures.len
    ∙ ap (λ (bytes : List ℕ). length bytes) (c.deref.ensures.value ∙ c.content.view_is)) in
    omega (arith, more, all, c.requires.few, c.loop-place.invariant.count, counted)

pub loop-place-preserved : goal.loop-place-preserved
loop-place-preserved c =
    let contents = c.args.contents.now.items in
    let content = c.in-Some.content.now in
    let within : c.loop-place.place < length contents = omega (arith, c.requires.within, c.loop-place-test.true) in
    let counted : c.count_extents-extents.result ≡ count_of (length content) =
    c.count_extents-extents.ensures ∙ ap count_of (c.len.ensures ∙ sym c.deref.ensures.len
    ∙ ap (λ (bytes : List ℕ). length bytes) (c.deref.ensures.value ∙ c.content.view_is)) in
    record {
      bytes = c.in_ok-extend_from_slice-in-Some.ensures.items
          ∙ ap (λ (bytes : List ℕ). c.loop-place.bytes.items ++ bytes) (c.deref.ensures.value ∙ c.content.view_is)
          ∙ ap (λ (bytes : List ℕ). bytes ++ content) c.loop-place.invariant.bytes
          ∙ sym (joined_more contents c.loop-place.place content within c.in-Some.ensures.lookup);
      count = let more = extents_more contents c.loop-place.place content within c.in-Some.ensures.lookup in
          omega (arith, more, c.loop-place.invariant.count, counted);
    }
