use Rattle.std.proofs.Common.{Ok, Err}
use Rattle.std.specs.Option.{option_copied}
use Rattle.c_engine.proofs.queries.recent_out.Goals as goal

pub returns-in-Err : goal.returns-in-Err
returns-in-Err c = (Err c.in-Err.fault, c.in-Err.ensures, c.query_code.ensures)

pub returns-in-Ok : goal.returns-in-Ok
returns-in-Ok c = (Ok (option_copied c.in-Ok.found), c.in-Ok.ensures, c.value_out.ensures)
