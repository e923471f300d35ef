use Rattle.std.proofs.Common.{Some, sym, subst}
use Rattle.any_store.specs.Queries.{AnswersAtView}
use Rattle.any_store.specs.Values.{StoreValue}
use Rattle.session.proofs.queries.value_at.Goals as goal

pub returns : goal.returns
returns g c = (
  Some c.in-Ok.view,
  (
    c.in-Ok.ensures,
    subst (λ (v : StoreValue). AnswersAtView g.D.Disk.tells c.args.store.now c.in-Ok.view c.args.key c.args.time c.at-found.result v) (sym c.end.ensures)
        c.at-found.ensures,
  ),
)
