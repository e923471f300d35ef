use Rattle.std.proofs.Common.{ℕ, List, sym, ap, subst, ◌∙◌}
use Rattle.extents.specs.declared.usage.Usage.{Usage}
use Rattle.extents.specs.declared.usage.Usage.TheVariants.{Free}
use Rattle.extents.specs.Usages.{with_usages, AreOut}
use Rattle.group.proofs.Publishing.{given_back, now_out}
use Rattle.group.proofs.submit.store.Goals as goal

pub returns-in-Err-seal_all-clause-err : goal.returns-in-Err-seal_all-clause-err
returns-in-Err-seal_all-clause-err c =
    let start = c.args.extents.now in
    let ns = c.in-Ok.taken.items in
    let took = c.in-Ok.ensures in
    let back = c.in-Err-seal_all.ensures.err in
    let out : AreOut c.take_extents.new.extents c.in-Err-seal_all.taken.items =
    subst (λ (xs : List ℕ). AreOut c.take_extents.new.extents xs) (sym back)
    (subst (λ (us : List Usage). AreOut us ns) (sym took.2) (now_out start ns took.1)) in
    c.give_back_all.ensures out
    ∙ ap (λ (xs : List ℕ). with_usages c.take_extents.new.extents xs Free) back
    ∙ ap (λ (us : List Usage). with_usages us ns Free) took.2
    ∙ given_back start ns took.1
