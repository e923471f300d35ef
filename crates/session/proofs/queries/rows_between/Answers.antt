use Rattle.std.proofs.Common.{Some, sym, subst}
use Rattle.any_store.specs.Queries.{AnswersRows}
use Rattle.any_store.specs.Values.{StoreValue}
use Rattle.session.proofs.queries.rows_between.Goals as goal

pub returns : goal.returns
returns g c = (
  Some c.in-Ok.view,
  (
    c.in-Ok.ensures,
    subst (λ (v : StoreValue). AnswersRows g.D.Disk.tells c.args.store.now c.in-Ok.view c.args.key c.args.a c.args.b c.between-found.result v)
        (sym c.end.ensures) c.between-found.ensures,
  ),
)
