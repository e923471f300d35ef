use Rattle.std.proofs.Common.{◌≡◌, ◌++◌, ℕ, map}
use Rattle.history.specs.declared.time.Version.{Version}
use Rattle.chains.specs.Writes.{Value}
use Rattle.chains.proofs.rows.add_record.Given as goal

-- what was put, and what is left, is all
abbrev pub invariant-loop-row : goal.invariant-loop-row
invariant-loop-row l = let with_record : Version Value → ℕ × Version Value = λ row. (l.record, row) in
    l.found.items ++ map with_record l.row-iterator.rest.items ≡ l.fn.found.items ++ map with_record l.fn.rows.items
