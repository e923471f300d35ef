use Rattle.std.proofs.Common.{Some, sym, subst}
use Rattle.any_store.specs.Queries.{AnswersScanAt}
use Rattle.any_store.specs.Values.{StoreValue}
use Rattle.session.proofs.queries.scan_at.Goals as goal

pub returns : goal.returns
returns g c = (
  Some c.in-Ok.view,
  (
    c.in-Ok.ensures,
    subst (λ (v : StoreValue). AnswersScanAt g.D.Disk.tells c.args.store.now c.in-Ok.view c.args.relation c.args.time c.scan_at-found.result v)
        (sym c.end.ensures) c.scan_at-found.ensures,
  ),
)
