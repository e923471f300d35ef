use Rattle.std.proofs.Common.{◌∙◌, w32, rules}
use Rattle.std.proofs.lemmas.Int.{to_z-of_z}
use mir.Val.{SFits}
use Rattle.c_exports.proofs.ts_format_endless.Goals as goal

pub returns : goal.returns
returns c =
    let fits : SFits w32 c.number.result = search rules in
    (c.format.result, to_z-of_z w32 c.number.result fits ∙ c.number.ensures, c.format.ensures)
