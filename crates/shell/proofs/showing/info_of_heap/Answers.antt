use Rattle.std.proofs.Common.{subst, inl, inr}
use Rattle.session.specs.Streams.{Says}
use Rattle.session.specs.Texts.{Text}
use Rattle.shell.specs.Acts.{told}
use Rattle.shell.proofs.Said.{said-by}
use Rattle.shell.proofs.showing.info_of_heap.Goals as goal

pub returns-in-Ok : goal.returns-in-Ok
returns-in-Ok g c =
    inl (record {
      text = c.in-Ok.text.items;
      is = c.in-Ok.ensures.info;
      said = said-by (told g.W.Write.contents c.status_of.result c.args.output.now c.say.new.self) c.in-Ok.text.items c.say.result
          (subst (λ (t : Text). Says (g.W.Write.contents c.args.output.now.writer) t c.say.result (g.W.Write.contents c.say.new.self.writer)
          c.say.new.self.refused) c.as_slice.ensures.value c.say.ensures) c.status_of.ensures;
      same = c.in-Ok.ensures.reads;
    })

pub returns-in-Err : goal.returns-in-Err
returns-in-Err g c =
    inr (record {
      why = c.in-Err.fault;
      fault = c.in-Err.ensures.fault;
      left = c.in-Err.ensures.reads;
      said = c.refuse.ensures;
    })
