use Rattle.std.proofs.Common.{[], ◌∷◌, ◌++◌, ap, ◌∙◌}
use Rattle.chains.specs.KeyWrites.{KeyWrites}
use Rattle.chains.specs.Writes.{Write}
use Rattle.chains.proofs.Rising.{rising-append}
use Rattle.chains.proofs.frozen.Frozen.with_key.Goals as goal

pub invariant_of-result : goal.invariant_of-result
invariant_of-result c =
    let chain : KeyWrites = record { key = c.args.key; writes = c.args.write ∷ [] } in
    let is = c.in_ok-with_last.ensures
    ∙ ap (λ (k : KeyWrites). c.self.inside.keys ++ k ∷ []) (c.in_ok-chain.ensures
    ∙ ap (λ (w : Write). record { key = c.args.key; writes = w ∷ [] }) c.lent.ensures.is) in
    rw is (
      rw c.self.view_is c.requires.ordered,
      rising-append c.self.inside.keys (chain ∷ []) c.self.invariant.1 ((c.requires.positive, c.requires.in_range, tt), tt),
    )
