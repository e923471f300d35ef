use Rattle.std.proofs.Common.{◌≡◌, List, subst, inl, inr, ◌∙◌}
use Rattle.disk.specs.Calls.{DiskState}
use Rattle.status.specs.Reading.{HoldsLog, IsLogFault, refused_by}
use Rattle.wire.specs.declared.slot.Slot.{Slot}
use Rattle.session.specs.Texts.{Text}
use Rattle.session.specs.Streams.{Says}
use Rattle.shell.specs.Acts.{IsSaid, told}
use Rattle.log_facts.specs.Texts.{info_text}
use Rattle.shell.proofs.Said.{said-by}
use Rattle.shell.proofs.showing.info.Goals as goal

pub returns-in-Err : goal.returns-in-Err
returns-in-Err g c =
    inl (inl (record {
      why = c.in-Err.fault;
      fault = c.in-Err.ensures.fault;
      only = c.in-Err.ensures.only;
      same = c.in-Err.ensures.same;
      said = c.refuse_log.ensures;
    }))

pub returns-in-Err-read_log : goal.returns-in-Err-read_log
returns-in-Err-read_log g c =
    let kept = c.in-Ok.ensures.same in
    inl (inr (record {
      header = c.in-Ok.header;
      reads = c.in-Ok.ensures.found;
      why = c.in-Err-read_log.fault;
      fault = λ tells. subst (λ (s : DiskState). IsLogFault c.in-Ok.header s.areas.status.bytes c.in-Err-read_log.fault) kept
          (c.in-Err-read_log.ensures.fault tells);
      same = subst (λ (s : DiskState). g.D.Disk.state c.read_log.new.disk ≡ refused_by c.in-Err-read_log.fault s) kept c.in-Err-read_log.ensures.same;
      said = c.refuse_log-in-Err-read_log.ensures;
    }))

pub returns-in-Ok-info_text : goal.returns-in-Ok-info_text
returns-in-Ok-info_text g c =
    let kept = c.in-Ok.ensures.same in
    inr (inl (record {
      header = c.in-Ok.header;
      slots = c.in-Ok-read_log.slots.items;
      reads = c.in-Ok.ensures.found;
      log = λ tells. subst (λ (s : DiskState). HoldsLog c.in-Ok.header s.areas.status.bytes c.in-Ok-read_log.slots.items) kept
          (c.in-Ok-read_log.ensures.log tells);
      said = subst (λ (t : Text). IsSaid (told g.W.Write.contents c.status_of.result c.args.output.now c.say.new.self) t) (subst (λ
          (slots : List Slot). c.in-Ok-info_text.text.items ≡ info_text c.args.json c.in-Ok.header slots) c.as_slice.ensures.value c.in-Ok-info_text.ensures)
          (said-by (told g.W.Write.contents c.status_of.result c.args.output.now c.say.new.self) c.in-Ok-info_text.text.items c.say.result
          (subst (λ (t : Text). Says (g.W.Write.contents c.args.output.now.writer) t c.say.result (g.W.Write.contents c.say.new.self.writer)
          c.say.new.self.refused) c.as_slice-in-Ok-info_text.ensures.value c.say.ensures) c.status_of.ensures);
      same = c.in-Ok-read_log.ensures.same ∙ kept;
    }))

pub returns : goal.returns
returns g c = inr (inr (c.in-Ok-read_log.ensures.same ∙ c.in-Ok.ensures.same, c.refuse.ensures))
