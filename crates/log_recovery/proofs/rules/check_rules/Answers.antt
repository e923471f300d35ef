use Rattle.std.proofs.Common.{Bool, true, false, ap, subst}
use Rattle.log_entries.specs.declared.entry.Entry.{Entry}
use Rattle.law_log_layout.specs.HeapLog.{PlacedChain}
use Rattle.log_recovery.specs.Rules.{mark_of}
use Rattle.log_recovery.specs.Following.{Answers, HasParts}
use Rattle.log_recovery.proofs.Following.{next_chain, breaks_at}
use Rattle.log_recovery.proofs.rules.check_rules.Goals as goal

pub returns-then-not-branch : goal.returns-then-not-branch
returns-then-not-branch c =
    let no =
    subst (λ (e : Entry). Answers false c.loop-chain.end c.follow.new.self e) (ap (λ (p : PlacedChain). p.entry) c.chain.view_is)
    (subst (λ (b : Bool). Answers b c.loop-chain.end c.follow.new.self c.chain.inside.entry) c.if-not-branch.true c.in_ok-follow.ensures.answers) in
    breaks_at (mark_of c.args.chains.now) c.args.chains.now c.loop-chain.chain-index c.chain-item.result c.loop-chain.end c.head_of.result
    c.loop-chain-test.true c.chain-item.is c.loop-chain.invariant (no _ _ c.loop-chain.invariant.says) c.head_of.ensures

pub loop-chain-preserved : goal.loop-chain-preserved
loop-chain-preserved c =
    let at = ap (λ (p : PlacedChain). p.entry) c.chain.view_is in
    let yes =
    subst (λ (e : Entry). Answers true c.loop-chain.end c.follow.new.self e) at
    (subst (λ (b : Bool). Answers b c.loop-chain.end c.follow.new.self c.chain.inside.entry) c.if-not-branch.false c.in_ok-follow.ensures.answers) in
    next_chain (mark_of c.args.chains.now) c.args.chains.now c.loop-chain.chain-index c.chain-item.result c.loop-chain.end c.follow.new.self
    c.loop-chain-test.true c.chain-item.is c.loop-chain.invariant (yes _ _ c.loop-chain.invariant.says)
    (subst (λ (e : Entry). HasParts c.loop-chain.end c.follow.new.self e) at (c.in_ok-follow.ensures.parts c.if-not-branch.false))
