use Rattle.std.proofs.Common.{◌++◌, List, sym, ◌∙◌, ap}
use Rattle.log_shown.specs.Shown.{chain_items}
use Rattle.log_shown.specs.declared.items.LogItem.{LogItem}
use Rattle.log_shown.proofs.Showing.{items_more}
use Rattle.log_shown.proofs.items.items_of.Goals as goal

pub loop-chain-preserved : goal.loop-chain-preserved
loop-chain-preserved c =
    c.in_ok-push_chain.ensures
    ∙ ap (λ (l : List LogItem). l ++ chain_items c.chain-item.result) c.loop-chain.invariant
    ∙ sym (items_more c.args.chains.now c.loop-chain.chain-index c.chain-item.result c.loop-chain-test.true c.chain-item.is)
