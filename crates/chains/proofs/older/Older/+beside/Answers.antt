use Rattle.std.proofs.Common.{◌-◌, ◌<◌, ◌∷◌, [], length, arith, rules}
use Rattle.chains.specs.Growth.{as_branch, IsForkOf, IsAlone}
use Rattle.chains.proofs.Growth.{alone-below, ok-map}
use Rattle.chains.proofs.Shapes.{at_low}
use Rattle.chains.proofs.older.Older.+beside.Goals as goal

pub beside-requires : goal.beside-requires
beside-requires t c =
    let branches = c.in-Branches-len1-up.field-0.now in
    let low : c.writes.result.now.height < c.args.self.now.height =
    omega (
      arith,
      c.in-Branches-len1-up.ensures.height,
      at_low branches (length branches - 1) c.branch-item.result (omega (arith, c.in-Branches-len1-up.len_at_least)) c.branch-item.is,
      c.writes.ensures.lower,
    ) in
    search rules

pub returns-clause-alone : goal.returns-clause-alone
returns-clause-alone t c =
    let n = length c.args.chunk in
    let below = c.in_ok-below.below in
    let some : 0 < length below.chunks = rw c.in_ok-below.ensures.is c.beside.ensures.some in
    ok-map c.with_last.result (λ o. 0 < length below.chunks → IsForkOf (as_branch below ∷ []) o) (IsAlone n c.args.self.now)
    (λ o shape.
    alone-below c.in-Branches-len1-up.ensures c.in-Branches-len1-up.len_at_least c.branch-item.is n c.writes.result.now c.writes.ensures.branch below o
    c.in_ok-below.ensures.alone (shape some))
    c.with_last.ensures.shape
