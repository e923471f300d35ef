use Rattle.std.proofs.Common.{sym, ◌∙◌, subst}
use Rattle.snapshot.specs.WriteSets.{IsPlaceOf, IsPlaceFor}
use Rattle.snapshot.proofs.WriteSetLemmas.{without-remove, without-none, write_in-for}
use Rattle.snapshot.proofs.write_set.remove_write.Goals as goal

pub returns-in-Ok : goal.returns-in-Ok
returns-in-Ok c =
    c.remove-removed.ensures.items
    ∙ without-remove c.args.key c.args.writes.now.items c.in-Ok.place c.requires
    (subst (λ ws. IsPlaceOf c.args.key ws c.in-Ok.place) c.deref.ensures.value c.in-Ok.ensures)

pub returns-in_default : goal.returns-in_default
returns-in_default c =
    sym (without-none c.args.key c.args.writes.now.items
    (write_in-for c.args.key c.args.writes.now.items c.in_default.field-0
    (subst (λ ws. IsPlaceFor c.args.key ws c.in_default.field-0) c.deref.ensures.value c.in_default.ensures)))
