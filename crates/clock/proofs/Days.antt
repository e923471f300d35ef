-- Which day numbers are from 1970 on, and that an instant has one moment.
use Rattle.std.proofs.Common.{◌≡◌, ℕ, ◌<◌, ◌≤◌, ℤ, pos, ◌≤ℤ◌, unsigned_abs, negsuc, refl, ap, sym, ◌∙◌, arith}
use Rattle.std.proofs.lemmas.Int.{by_lt_z}
use Rattle.jiff_core.specs.Calendar.{day_count, days_from_civil, IsCivilDate}
use Rattle.jiff_core.proofs.SignedLemmas.{signed_arith}
use Rattle.jiff_core.proofs.CalendarLemmas.{days_from_civil-day_count, day_count-epoch, day_count-lt_year, day_count_bounds}
use Rattle.jiff_core.proofs.DateLemmas.{epoch_day_injective}
use Rattle.jiff_core.proofs.StandardFacts.{known_days}
use Rattle.jiff_core.specs.declared.civil.date.Date.{Date}
use Rattle.clock.specs.declared.instant.Moment.{Moment}
use Rattle.clock.specs.Instant.{IsMoment, day_number, instant_of, spelling}

last_before : day_count (pos 1969) 12 31 ≡ 4_371_952
last_before = omega (arith, signed_arith, known_days.1, days_from_civil-day_count (pos 1969) 12 31)

-- a date from 1970 on has a day number of 0 or more
pub day-from_1970 : (y : ℤ) (m d : ℕ) → pos 1970 ≤ℤ y → 1 ≤ d → pos 0 ≤ℤ days_from_civil y m d
day-from_1970 y m d year day =
    let civil : IsCivilDate (pos 1969) 12 31 =
    ((omega (arith, signed_arith), omega (arith, signed_arith)), (omega arith, omega arith), (omega arith, omega arith)) in
    omega (arith, signed_arith, last_before, days_from_civil-day_count y m d, day_count-lt_year (pos 1969) 12 31 y m d civil day (omega (arith, signed_arith)))

-- and the other way round
pub year-from_1970 : (y : ℤ) (m d : ℕ) → IsCivilDate y m d → pos 0 ≤ℤ days_from_civil y m d → pos 1970 ≤ℤ y
year-from_1970 y m d civil day =
    by_lt_z y (pos 1970) (λ early. absurd (omega (
      arith,
      signed_arith,
      day_count-epoch,
      days_from_civil-day_count y m d,
      day_count-lt_year y m d (pos 1970) 1 1 civil (omega arith) early,
    )))
    (λ late. late)

pub back_from_1970 : (y : ℤ) (n : ℕ) → pos 1970 ≤ℤ y → n ≡ unsigned_abs y → (y ≡ pos n) × (1970 ≤ n)
back_from_1970 (pos k) n late e = (ap pos (sym e), omega (arith, signed_arith, e))
back_from_1970 (negsuc k) n late e = absurd (omega (arith, signed_arith))

up_from_0 : (z : ℤ) → pos 0 ≤ℤ z → z ≡ pos (unsigned_abs z)
up_from_0 (pos k) late = refl
up_from_0 (negsuc k) late = absurd (omega (arith, signed_arith))

-- the day number of a moment, as a signed number
day_of : (m : Moment) → IsMoment m → days_from_civil (pos m.year) m.month m.day ≡ pos (day_number m)
day_of m real = up_from_0 _ (day-from_1970 (pos m.year) m.month m.day (omega (arith, signed_arith, real.year)) real.day.0)

date_of : (m : Moment) → IsMoment m → Date
date_of m real = record {
  year = pos m.year;
  month = m.month;
  day = m.day;
  year_in = (omega (arith, signed_arith, real.year), omega (arith, signed_arith, real.year));
  month_in = real.month;
  day_in = real.day;
}

-- no moment is after the year 9999
pub instant-upto : (m : Moment) → IsMoment m → instant_of m < 253_402_300_800_000_000
unfolding date_of
instant-upto m real =
    let day : day_number m ≤ 2_932_896 = omega (
      arith,
      signed_arith,
      day_of m real,
      day_count-epoch,
      days_from_civil-day_count (pos m.year) m.month m.day,
      (day_count_bounds (pos m.year) m.month m.day ((date_of m real).year_in, real.month, real.day)).1,
    ) in
    omega (arith, day, real.hour, real.minute, real.second)

-- two moments of one instant are spelled alike
pub spelling-instant : (m n : Moment) → IsMoment m → IsMoment n → instant_of m ≡ instant_of n → spelling m ≡ spelling n
unfolding date_of
spelling-instant m n real other same =
    let day : day_number m ≡ day_number n = omega (arith, same, real.hour, real.minute, real.second, other.hour, other.minute, other.second) in
    let hour : m.hour ≡ n.hour = omega (arith, same, real.hour, real.minute, real.second, other.hour, other.minute, other.second) in
    let minute : m.minute ≡ n.minute = omega (arith, same, real.hour, real.minute, real.second, other.hour, other.minute, other.second) in
    let second : m.second ≡ n.second = omega (arith, same, real.hour, real.minute, real.second, other.hour, other.minute, other.second) in
    let number : days_from_civil (pos m.year) m.month m.day ≡ days_from_civil (pos n.year) n.month n.day = day_of m real ∙ ap pos day ∙ sym (day_of n other) in
    let date = epoch_day_injective (date_of m real) (date_of n other) number in
    let year : m.year ≡ n.year = cc date.0 in
    rw (year, date.1, date.2, hour, minute, second) refl
