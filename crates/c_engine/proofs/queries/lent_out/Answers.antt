use Rattle.std.proofs.Common.{Ok, Err, Option, subst}
use Rattle.chains.specs.Writes.{Value}
use Rattle.c_engine.specs.Queries.{IsValueTold}
use Rattle.c_engine.proofs.queries.lent_out.Goals as goal

pub returns-in-Err : goal.returns-in-Err
returns-in-Err c = λ v. (Err c.in-Err.fault, c.in-Err.ensures v, c.query_code.ensures)

pub returns-in-Ok : goal.returns-in-Ok
returns-in-Ok c =
    λ v. (
      Ok c.in-Ok.found,
      c.in-Ok.ensures v,
      subst (λ (o : Option Value). IsValueTold o c.value_out.result c.value_out.new.info c.value_out.new.out) c.as_ref.ensures.value c.value_out.ensures,
    )
