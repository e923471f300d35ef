use Rattle.std.proofs.Common.{ℕ, List, sym, subst, ◌∙◌}
use Rattle.deltas.specs.Chains.{HoldsRecords}
use Rattle.recovery.proofs.records.read_records.Goals as goal

pub returns-in_default-2-clause-found : goal.returns-in_default-2-clause-found
returns-in_default-2-clause-found g c = λ told records has.
    let chain = rw c.in-Some.is at (c.in_ok-chain.ensures.chain told) in
    let held : HoldsRecords c.args.name c.args.kinds c.deref.result.now records =
    subst (λ (l : List (List ℕ)). HoldsRecords c.args.name c.args.kinds l records) (sym (c.deref.ensures.value ∙ chain.images)) has.held in
    rw c.in_default-2.is at (c.in_ok-records.ensures.only records held)
