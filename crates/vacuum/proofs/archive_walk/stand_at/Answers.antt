use Rattle.std.proofs.Common.{◌≡◌, ◌∙◌, [], sym}
use Rattle.vacuum.specs.Archives.{key_left}
use Rattle.vacuum.proofs.Records.{past-key, fewer-keys}
use Rattle.vacuum.proofs.archive_walk.stand_at.Goals as goal

pub loop-chain-smaller : goal.loop-chain-smaller
loop-chain-smaller c =
    rw c.key.ensures (fewer-keys c.args.since.now c.args.upto c.args.frozen.now c.loop-chain.place c.in-Some.chain.now c.in-Some.ensures.ordered
    (sym c.in-Some.ensures.is))

pub loop-chain-preserved : goal.loop-chain-preserved
loop-chain-preserved c =
    let chain = c.in-Some.chain.now in
    let place = c.loop-chain.place in
    let none : key_left place.passed c.args.since.now c.args.upto chain ≡ [] = rw c.in-Ok-None.field-0-is at c.in-Ok-None.ensures in
    rw c.key.ensures (past-key c.args.since.now c.args.upto c.args.frozen.now place chain c.in-Some.ensures.ordered (sym c.in-Some.ensures.is) none
    ∙ c.loop-chain.invariant)
