use Rattle.std.proofs.Common.{◌≡◌, Option, unwrap_or, option_copied, ap, sym, ◌∙◌, subst}
use Rattle.history.specs.declared.key.KeyWrite.{KeyWrite}
use Rattle.law_image.specs.Values.{Value}
use Rattle.snapshot.specs.WriteSets.{IsPlaceOf, IsPlaceFor}
use Rattle.snapshot.specs.Txn.{TxnValue, at_snapshot, seen_by}
use Rattle.snapshot.proofs.WriteSetLemmas.{write_in-at, write_in-for}
use Rattle.snapshot.proofs.txn.Txn.get.Goals as goal

pub returns-in-Ok : goal.returns-in-Ok
returns-in-Ok c =
    let found =
    write_in-at c.args.key c.self.inside.writes.items c.in-Ok.place c.index.result.now c.self.invariant.rising
    (subst (λ ws. IsPlaceOf c.args.key ws c.in-Ok.place) c.deref.ensures.value c.in-Ok.ensures) in
    subst (λ (t : TxnValue). option_copied c.as_ref.result ≡ seen_by t c.args.key) c.self.view_is
    (c.as_ref.ensures.value ∙ ap (λ (w : KeyWrite Value). w.write) c.index.ensures
    ∙ ap (λ (f : Option (Option Value)). unwrap_or f (at_snapshot c.self.inside.frozen c.self.inside.snapshot c.args.key)) (sym found))

pub returns-in-Err : goal.returns-in-Err
returns-in-Err c =
    let none =
    write_in-for c.args.key c.self.inside.writes.items c.in-Err.field-0
    (subst (λ ws. IsPlaceFor c.args.key ws c.in-Err.field-0) c.deref.ensures.value c.in-Err.ensures) in
    subst (λ (t : TxnValue). option_copied c.at.result ≡ seen_by t c.args.key) c.self.view_is
    (c.at.ensures ∙ ap (λ (f : Option (Option Value)). unwrap_or f (at_snapshot c.self.inside.frozen c.self.inside.snapshot c.args.key)) (sym none))
