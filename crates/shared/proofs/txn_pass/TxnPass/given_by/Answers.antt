use Rattle.std.proofs.Common.{rules, ◌∙◌, ap, sym}
use Rattle.shared.specs.Seen.{SightValue}
use Rattle.shared.proofs.Passes.{hands}
use Rattle.shared.proofs.txn_pass.TxnPass.given_by.Goals as goal

pub split_pass-requires : goal.split_pass-requires
split_pass-requires g c =
    let o = c.give_out.ensures in
    let writes = ap (λ (v : SightValue). v.writes) o.view ∙ c.requires.writes in
    (search rules, (search rules, (o.cell ∙ c.requires.cell.1 ∙ sym c.requires.cell.0, hands _ _ writes)))
