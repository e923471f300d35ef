use Rattle.std.proofs.Common.{ℕ, ◌≤◌, ◌∙◌, ◌∷◌, List, [], length, arith, slice_index_or, sym}
use Rattle.chains.specs.Rows.{first_time_or}
use Rattle.chains.specs.Writes.{Write}
use Rattle.chains.proofs.RowParts.{no-rows_from}
use Rattle.chains.proofs.row_walk.next_row.Goals as goal

first-late : (end upto : ℕ) (ws : List Write) (d : Write) → 1 ≤ length ws → upto ≤ (slice_index_or ws 0 d).time → upto ≤ first_time_or end ws
first-late end upto [] d some late = absurd (omega (arith, some))
first-late end upto (w ∷ ws) d some late = late

pub returns-then-upto-time-clause-is : goal.returns-then-upto-time-clause-is
returns-then-upto-time-clause-is c =
    let late =
    first-late c.args.end c.args.upto c.loop-rest.rest.now _ c.in-len1-up.len_at_least (rw (c.time.ensures, c.first-item.is) at c.if-upto-time.true) in
    sym c.loop-rest.invariant.left ∙ no-rows_from c.args.end c.args.from c.args.upto 0 c.loop-rest.rest.now c.loop-rest.invariant.rising late
