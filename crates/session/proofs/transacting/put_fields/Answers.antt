use Rattle.std.proofs.Common.{◌≡◌, List, map, ap, subst, ◌∙◌, inr, Bor, Vec, ℕ}
use Rattle.std.specs.declared.alloc.Global.{Global}
use Rattle.session.specs.Session as told
use Rattle.session.specs.Texts.{Text}
use Rattle.session.proofs.transacting.put_fields.Goals as goal

pub returns : goal.returns
returns c =
    let is : map (λ (part : Bor Text). part.now) c.deref-2.result.now ≡ c.args.fields =
    ap (λ (l : List (Bor Text)). map (λ (part : Bor Text). part.now) l) c.deref-2.ensures.value ∙ c.in-Ok-slices.ensures
    ∙ ap (λ (l : List (Vec ℕ Global)). map (λ (f : Vec ℕ Global). f.items) l) c.deref.ensures.value ∙ c.in-Ok.ensures in
    let puts = c.put.ensures in
    inr (subst (λ (f : List Text). told.AnswersPut c.args.txn.now c.args.key f c.put.result c.put.new.self) is (record {
      ok = puts.ok;
      missing = puts.missing;
      too_many = puts.too_many;
      bad = puts.bad;
      err = puts.err;
    }))
