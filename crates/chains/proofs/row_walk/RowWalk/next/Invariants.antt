use Rattle.std.proofs.Common.{◌≡◌, ◌-◌, ◌++◌}
use Rattle.std.specs.Option.{option_copied}
use Rattle.history.specs.Time.{IsRisingAfter}
use Rattle.history.specs.Versions.{versions, rows}
use Rattle.chains.specs.KeyWrites.{writes_in}
use Rattle.chains.specs.Rows.{versions_upto}
use Rattle.chains.proofs.row_walk.RowWalk.next.Given as goal

-- what is left is what there was
abbrev pub invariant-loop-row : goal.invariant-loop-row
invariant-loop-row l =
    let w = l.self-inside in
    record {
      rising : IsRisingAfter 0 w.left.now;
      left : rows (versions_upto w.end w.left.now) w.from w.upto ++ rows (versions (writes_in (option_copied w.chain))) w.end w.upto ≡ l.fn.self;
    }

abbrev pub decreases-loop-row : goal.decreases-loop-row
decreases-loop-row l = l.self-inside.upto - l.self-inside.end
