use Rattle.std.proofs.Common.{rules, ◌∙◌, ap, sym}
use Rattle.shared.specs.Seen.{SightValue}
use Rattle.shared.proofs.Passes.{returns, takes_back}
use Rattle.shared.proofs.txn_pass.TxnPass.give_back.Goals as goal

pub join_pass-requires : goal.join_pass-requires
join_pass-requires g c =
    let i = c.self.invariant in
    let r = c.requires in
    (search rules, (search rules, ((r.cell.1 ∙ sym r.cell.0, i.0 ∙ sym r.cell.1, i.2), returns _ _ _ _ r.writes i.1)))

pub load_as-requires : goal.load_as-requires
load_as-requires g c =
    let j = c.join_pass.ensures in
    let r = c.requires in
    (search rules, (search rules, (j.0.0 ∙ r.cell.1 ∙ sym r.cell.0, takes_back _ _ (ap (λ (v : SightValue). v.writes) j.1 ∙ r.writes))))
