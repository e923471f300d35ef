use Rattle.std.proofs.Common.{◌∙◌, sym}
use Rattle.deltas.specs.Loans.{record_of_loan}
use Rattle.vacuum.specs.Anchors.{key_olds}
use Rattle.vacuum.proofs.Records.{tested-none, tested-some}
use Rattle.vacuum.proofs.Anchors.{anchored-key, anchored-none, olds-past, olds-fewer}
use Rattle.vacuum.proofs.anchor_source.settled.Goals as goal

pub returns-then-is_some-clause-left : goal.returns-then-is_some-clause-left
returns-then-is_some-clause-left c = c.loop-chain.invariant

pub returns-then-is_some-clause-settled : goal.returns-then-is_some-clause-settled
returns-then-is_some-clause-settled c =
    let chain = c.in-Some.chain.now in
    let some = tested-some record_of_loan c.anchor_of.result (key_olds c.args.mark chain) (sym c.if-is_some.ensures) c.anchor_of.ensures in
    anchored-key c.args.mark c.loop-chain.bound c.args.frozen.now chain c.in-Some.ensures.ordered (sym c.in-Some.ensures.is) some

pub loop-chain-smaller : goal.loop-chain-smaller
loop-chain-smaller c =
    rw c.key.ensures (olds-fewer c.args.mark c.loop-chain.bound c.args.frozen.now c.in-Some.chain.now c.in-Some.ensures.ordered (sym c.in-Some.ensures.is))

pub loop-chain-preserved : goal.loop-chain-preserved
loop-chain-preserved c =
    let chain = c.in-Some.chain.now in
    let none = tested-none record_of_loan c.anchor_of.result (key_olds c.args.mark chain) (sym c.if-is_some.ensures) c.anchor_of.ensures in
    rw c.key.ensures (olds-past c.args.mark c.loop-chain.bound c.args.frozen.now chain c.in-Some.ensures.ordered (sym c.in-Some.ensures.is) none
    ∙ c.loop-chain.invariant)

pub returns-clause-left : goal.returns-clause-left
returns-clause-left c = c.loop-chain.invariant

pub returns-clause-settled : goal.returns-clause-settled
returns-clause-settled c = anchored-none c.args.mark c.loop-chain.bound c.args.frozen.now (sym c.in_default.ensures.is)
