use Rattle.std.proofs.Common.{◌++◌, subst}
use Rattle.session.specs.Streams.{Says}
use Rattle.session.specs.Texts.{Text, open_line}
use Rattle.shell.specs.Acts.{IsRefused, told}
use Rattle.shell.proofs.Said.{said-by}
use Rattle.shell.proofs.showing.tell_dump.Goals as goal

pub returns-in-None : goal.returns-in-None
returns-in-None g c = rw c.in-None.is (said-by (told g.W.Write.contents c.status_of.result c.args.output.now c.say.new.self) c.args.dump.now.text.items
    c.say.result (subst (λ (t : Text). Says (g.W.Write.contents c.args.output.now.writer) t c.say.result (g.W.Write.contents c.say.new.self.writer)
    c.say.new.self.refused) c.as_slice.ensures.value c.say.ensures) c.status_of.ensures)

pub returns-in-Some : goal.returns-in-Some
returns-in-Some g c = rw c.in-Some.is (subst (λ (t : Text). IsRefused (told g.W.Write.contents c.refuse_behind.result c.args.output.now
    c.refuse_behind.new.output) (t ++ open_line c.in-Some.fault)) c.as_slice-in-Some.ensures.value c.refuse_behind.ensures)
