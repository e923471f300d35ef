-- The instant that a text spells, by reading its digits and writing them again.
use Rattle.std.specs.Prelude.{ℕ, ◌+◌, ◌-◌, ◌*◌, ◌&&◌, Bool, List, Option, Some, None, nat_le, pos, slice_index, if◌then◌else◌}
use Rattle.std.specs.Str.{bytes_eq}
use Rattle.jiff_core.specs.Calendar.{days_in_month}
use Rattle.clock.specs.Instant.{instant_of, spelling}
use Rattle.clock.specs.declared.instant.Moment.{Moment}

-- the number that the two digits from a place spell
abbrev pub two_digits_at : List ℕ → ℕ → ℕ
two_digits_at text place = (slice_index text place - 48) * 10 + (slice_index text (place + 1) - 48)

-- the parts of `YYYY-MM-DDTHH:MM:SSZ`, whatever stands in their places
abbrev pub moment_at : List ℕ → Moment
moment_at text = record {
  year = two_digits_at text 0 * 100 + two_digits_at text 2;
  month = two_digits_at text 5;
  day = two_digits_at text 8;
  hour = two_digits_at text 11;
  minute = two_digits_at text 14;
  second = two_digits_at text 17;
}

-- a real date of the years 1970 to 9999, and a time of its day
abbrev pub is_moment : Moment → Bool
is_moment m = nat_le 1970 m.year && (nat_le m.year 9999 && (nat_le 1 m.month && (nat_le m.month 12
    && (nat_le 1 m.day && (nat_le m.day (days_in_month (pos m.year) m.month)
    && (nat_le m.hour 23 && (nat_le m.minute 59 && nat_le m.second 59)))))))

-- microseconds since 1970
abbrev pub instant_in : List ℕ → Option ℕ
instant_in text = let m = moment_at text in if is_moment m && bytes_eq text (spelling m) then Some (instant_of m) else None
