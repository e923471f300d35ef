use Rattle.std.proofs.Common.{◌<◌, ◌∙◌, sym, arith, rules}
use Rattle.chains.proofs.Branches.{none_begun, begun_lower, begun_value}
use Rattle.chains.proofs.older.Older.+spot.Goals as goal

pub returns-then-begun-eq0 : goal.returns-then-begun-eq0
returns-then-begun-eq0 t c = c.of-then-begun-eq0.ensures ∙ sym (none_begun c.in-Branches.ensures _ _ c.begun_by-begun.ensures.after c.if-begun-eq0.true)

pub spot-requires : goal.spot-requires
spot-requires t c =
    let begun = c.begun_by-begun.ensures in
    let some : 0 < c.begun_by-begun.result = omega (arith, c.if-begun-eq0.false) in
    let low = begun_lower c.in-Branches.ensures _ _ begun.after some begun.within c.index-branches-begun.is c.writes.ensures.lower in
    search rules

pub returns : goal.returns
returns t c =
    let begun = c.begun_by-begun.ensures in
    let some : 0 < c.begun_by-begun.result = omega (arith, c.if-begun-eq0.false) in
    rw c.writes.ensures.is at c.spot.ensures ∙ sym (begun_value c.in-Branches.ensures _ _ begun.after some begun.within c.index-branches-begun.is begun.before)
