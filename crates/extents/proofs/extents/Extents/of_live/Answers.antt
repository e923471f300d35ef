use Rattle.std.proofs.lemmas.Grind.{common_steps}
use Rattle.std.proofs.Common.{refl, arith}
use Rattle.extents.proofs.Claims.{next_claimed, all_claimed, none_claims, kept_are, free_are}
use Rattle.extents.proofs.extents.Extents.of_live.Goals as goal

pub returns-in-Err-clause-fault : goal.returns-in-Err-clause-fault
returns-in-Err-clause-fault c =
    none_claims c.loop-number.extents c.args.numbers.now c.loop-number.number-index _ c.loop-number-test.true refl c.loop-number.invariant
    c.in-Err.ensures.err.0

pub loop-number-preserved : goal.loop-number-preserved
loop-number-preserved c =
    next_claimed c.loop-number.extents c.claim.new.self c.args.numbers.now c.loop-number.number-index _ c.loop-number-test.true refl c.loop-number.invariant
    c.in-Ok.ensures.ok.0 c.in-Ok.ensures.ok.1

pub returns-clause-kept : goal.returns-clause-kept
returns-clause-kept c = λ number.
    let all = all_claimed c.loop-number.extents c.args.numbers.now c.loop-number.number-index c.loop-number-test.false c.loop-number.invariant in
    rw all.usages_are (kept_are c.args.numbers.now number all.live.each)

pub returns-clause-free : goal.returns-clause-free
returns-clause-free c = λ number.
    let all = all_claimed c.loop-number.extents c.args.numbers.now c.loop-number.number-index c.loop-number-test.false c.loop-number.invariant in
    rw all.usages_are (free_are c.args.numbers.now number all.live.each)

pub returns-clause-live : goal.returns-clause-live
returns-clause-live c = grind (arith, common_steps)

pub returns-clause-counted : goal.returns-clause-counted
returns-clause-counted c = grind (arith, common_steps)
