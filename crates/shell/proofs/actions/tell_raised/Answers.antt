use Rattle.std.proofs.Common.{◌++◌, codes}
use Rattle.std.specs.Fmt.{decimal}
use Rattle.shell.specs.Acts.{told}
use Rattle.shell.proofs.Said.{said-by}
use Rattle.shell.proofs.actions.tell_raised.Goals as goal

pub returns-in-Some : goal.returns-in-Some
returns-in-Some g c = rw c.in-Some.is c.refuse_reply.ensures

pub returns-in-None : goal.returns-in-None
returns-in-None g c = rw c.in-None.is (said-by (told g.W.Write.contents c.status_of.result c.args.output.now c.write_numbered.new.output)
    (codes "floor " ++ (decimal c.args.time ++ codes "\n")) c.write_numbered.result c.write_numbered.ensures c.status_of.ensures)
