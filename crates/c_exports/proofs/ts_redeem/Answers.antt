use Rattle.std.proofs.Common.{sym, ◌∙◌, w32, rules}
use Rattle.std.proofs.lemmas.Int.{to_z-of_z}
use mir.Val.{SFits}
use Rattle.c_exports.proofs.ts_redeem.Goals as goal

pub returns : goal.returns
returns c =
    let fits : SFits w32 c.put_back.result = search rules in
    rw (c.in-Some.ensures.some, sym c.deref_mut.ensures.value, c.put_back.ensures.engine) (
      c.redeem-code.result,
      to_z-of_z w32 c.put_back.result fits
          ∙ c.put_back.ensures.code,
      c.redeem-code.ensures,
    )
