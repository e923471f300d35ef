-- A write in two words: a number that says when it was made and whether it takes the value away, and a value.
use Rattle.std.specs.Prelude.{ℕ, ◌/◌, ◌%◌, ◌==◌, None, Some, if◌then◌else◌}
use Rattle.std.specs.Borrow.{Bor}
use Rattle.std.specs.Option.{option_copied}
use Rattle.history.specs.declared.time.TimedWrite.{TimedWrite}
use Rattle.chains.specs.Writes.{Value, Write}

-- twice the time, and one more where the key is gone: what is held then is no value of it
abbrev pub stamped : ℕ → Value → Write
stamped stamp value = record { time = stamp / 2; write = if stamp % 2 == 1 then None else Some value }

-- a write of a value in a loan, as the write of the value
abbrev pub write_of_loan : TimedWrite (Bor Value) → Write
write_of_loan w = record { time = w.time; write = option_copied w.write }
