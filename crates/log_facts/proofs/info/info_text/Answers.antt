use Rattle.std.proofs.Common.{◌∙◌, List, ap, map}
use Rattle.std.proofs.lemmas.Result.{IfOk-weaker}
use Rattle.log_facts.specs.Names.{named_as}
use Rattle.log_facts.specs.Texts as told
use Rattle.log_facts.proofs.info.info_text.Goals as goal

pub returns : goal.returns
returns c =
    let numbers = ap (map named_as) c.as_slice.ensures.value ∙ c.in_ok-numbers.ensures in
    let floors = c.as_slice-2.ensures.value ∙ c.in_ok-floors.ensures in
    IfOk-weaker c.text_by.result _ _ (λ text is. is
    ∙ ap (λ (ns : List told.Named). told.text_by c.args.json ns c.as_slice-2.result.now) numbers
    ∙ ap (told.text_by c.args.json (told.all_numbers c.args.header.now c.args.slots.now)) floors) c.text_by.ensures
