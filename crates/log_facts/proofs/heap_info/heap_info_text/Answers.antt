use Rattle.std.proofs.Common.{◌∙◌, List, ap}
use Rattle.std.proofs.lemmas.Result.{IfOk-weaker}
use Rattle.log_facts.specs.Texts.{Named, text_by}
use Rattle.log_facts.specs.HeapTexts as told
use Rattle.log_facts.proofs.heap_info.heap_info_text.Goals as goal

pub returns : goal.returns
returns c =
    let floors = c.as_slice.ensures.value ∙ c.in_ok-floors.ensures in
    IfOk-weaker c.text_by.result _ _ (λ text is. is
    ∙ ap (λ (ns : List Named). text_by c.args.json ns c.as_slice.result.now) c.numbers-numbers.ensures
    ∙ ap (text_by c.args.json (told.numbers c.args.roots.now c.args.items.now c.args.extents.now)) floors) c.text_by.ensures
