use Rattle.std.proofs.Common.{Option, ap, sym, ◌∙◌}
use Rattle.law_image.specs.Values.{Value}
use Rattle.law_image.specs.Facts.{stored, written}
use Rattle.deltas.specs.Records.{content_of, heap_content}
use Rattle.recovery.specs.Resolving.{before_of}
use Rattle.recovery.proofs.Stored.{applied_is, stored_applies}
use Rattle.recovery.proofs.resolving.resolve_one.Goals as goal

pub returns-in_default : goal.returns-in_default
returns-in_default c = λ is.
    let before : Option Value = before_of c.args.chains.now c.args.entry.key in
    let w : Option Value = written before (heap_content c.args.entry.content) in
    let can = stored_applies (before_of c.args.chains.now) c.args.entry c.requires is in
    let now =
    c.in_ok-write.ensures.only w (can.0
    ∙ ap (λ (b : Option Value). content_of (stored b w)) (sym c.value_before.ensures.is)) (λ gone. c.value_before.ensures.some.1 (can.1 gone)) in
    c.in_default.not-Some w now

pub returns : goal.returns
returns c =
    let found = rw c.in-Some.is at c.in_ok-write.ensures.found in
    rw c.shared.ensures
    (applied_is (before_of c.args.chains.now) c.args.entry c.in-Some.write c.requires
    (found.0 ∙ ap (λ (b : Option Value). content_of (stored b c.in-Some.write)) c.value_before.ensures.is)
    (λ gone. c.value_before.ensures.some.0 (found.1 gone)))
