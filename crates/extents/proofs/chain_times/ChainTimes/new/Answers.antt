use Rattle.extents.proofs.chain_times.ChainTimes.new.Goals as goal

pub returns : goal.returns
returns c = c.in_ok-times.ensures.items_if_clones_equal (λ y e. e)
