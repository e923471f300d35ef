-- Instants and their text.
use Rattle.std.specs.Prelude.{◌≡◌, ℕ, ◌+◌, ◌*◌, ◌/◌, ◌%◌, ◌<◌, ◌≤◌, List, [], ◌∷◌, ◌++◌, length, codes, pos, unsigned_abs}
use Rattle.jiff_core.specs.Calendar.{days_in_month, days_from_civil}
use Rattle.clock.specs.declared.instant.Moment.{Moment}

-- a real date of the years 1970 to 9999, and a time of its day
pub record IsMoment (m : Moment) : Type 0 where
  pub year : (1970 ≤ m.year) × (m.year ≤ 9999)
  pub month : (1 ≤ m.month) × (m.month ≤ 12)
  pub day : (1 ≤ m.day) × (m.day ≤ days_in_month (pos m.year) m.month)
  pub hour : m.hour ≤ 23
  pub minute : m.minute ≤ 59
  pub second : m.second ≤ 59

-- each part has no more digits than its place in the text
pub record FitsText (m : Moment) : Type 0 where
  pub year : m.year < 10_000
  pub month : m.month < 100
  pub day : m.day < 100
  pub hour : m.hour < 100
  pub minute : m.minute < 100
  pub second : m.second < 100

-- the days from 1 January 1970 to the date
abbrev pub day_number : Moment → ℕ
day_number m = unsigned_abs (days_from_civil (pos m.year) m.month m.day)

-- the seconds from midnight to the time of the day
abbrev pub second_of_day : Moment → ℕ
second_of_day m = m.hour * 3600 + m.minute * 60 + m.second

-- microseconds since 1970
abbrev pub instant_of : Moment → ℕ
instant_of m = (day_number m * 86_400 + second_of_day m) * 1_000_000

-- a number below 100 as two decimal digits
abbrev pub two_digits : ℕ → List ℕ
two_digits n = (48 + n / 10) ∷ (48 + n % 10) ∷ []

-- YYYY-MM-DD
abbrev pub date_spelling : ℕ → ℕ → ℕ → List ℕ
date_spelling year month day = two_digits (year / 100) ++ two_digits (year % 100) ++ codes "-" ++ two_digits month ++ codes "-" ++ two_digits day

-- THH:MM:SSZ
abbrev pub time_spelling : ℕ → ℕ → ℕ → List ℕ
time_spelling hour minute second = codes "T" ++ two_digits hour ++ codes ":" ++ two_digits minute ++ codes ":" ++ two_digits second ++ codes "Z"

-- YYYY-MM-DDTHH:MM:SSZ
abbrev pub spelling : Moment → List ℕ
spelling m = date_spelling m.year m.month m.day ++ time_spelling m.hour m.minute m.second

-- a text spells an instant, which begins a second
pub record Spells (text : List ℕ) (t : ℕ) : Type 0 where
  pub moment : Moment
  pub real : IsMoment moment
  pub spelled : text ≡ spelling moment
  pub instant : t ≡ instant_of moment

-- the beginning of the second that holds an instant
abbrev pub second_at : ℕ → ℕ
second_at t = t / 1_000_000 * 1_000_000

-- a text spells at most one instant
abbrev pub ReadsAsOne : Type 0
ReadsAsOne = (text : List ℕ) (t u : ℕ) → Spells text t → Spells text u → t ≡ u

-- an instant is spelled by at most one text, of 20 bytes
abbrev pub IsShownAsOne : Type 0
IsShownAsOne = (text other : List ℕ) (t : ℕ) → Spells text t → Spells other t → text ≡ other

-- every text that spells an instant has 20 bytes
abbrev pub HasTwentyBytes : Type 0
HasTwentyBytes = (text : List ℕ) (t : ℕ) → Spells text t → length text ≡ 20
