-- The times that words spell.
use Rattle.std.specs.Prelude.{◌==◌, if◌then◌else◌, ℕ, ℤ, pos, negsuc, int_div, ◌++◌, length, Option, Some, None, Result, Ok, Err, codes}
use Rattle.jiff.specs.Words.{parse_timestamp}
use Rattle.jiff_core.specs.declared.error.Error.{Error}
use Rattle.clap.specs.Words.{Text}
use Rattle.script.specs.Lines.{time_in}

-- as a script has it: microseconds since 1970, or a second
abbrev pub scripted : Text → Option ℕ
scripted word = time_in word

-- midnight of a date, by UTC
abbrev pub midnight : Text → Option ℕ
midnight date = if length date == 10 then time_in (date ++ codes "T00:00:00Z") else None

-- a number that is not below 0
abbrev pub not_negative : ℤ → Option ℕ
not_negative (pos n) = Some n
not_negative (negsuc n) = None

-- the microseconds of nanoseconds from 1970 on
abbrev pub micros_of : Result ℤ Error → Option ℕ
micros_of (Ok n) = not_negative (int_div n (pos 1000))
micros_of (Err e) = None

-- a date and a time of the day with an offset from UTC; what is less than a microsecond is cut
abbrev pub instant : Text → Option ℕ
instant word = micros_of (parse_timestamp word)

-- the first of two that there is
abbrev pub first_there : Option ℕ → Option ℕ → Option ℕ
first_there (Some t) other = Some t
first_there None other = other

-- the time that a word spells
abbrev pub moment : Text → Option ℕ
moment word = first_there (scripted word) (first_there (midnight word) (instant word))
