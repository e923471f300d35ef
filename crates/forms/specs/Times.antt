-- How a time is spelled.
use Rattle.std.specs.Prelude.{◌≡◌, ℕ, ◌+◌, ◌-◌, ◌/◌, ◌%◌, Bool, true, false, [], ◌∷◌}
use Rattle.std.specs.Prelude.{◌++◌, length, take, ◌==◌, if◌then◌else◌, nat_lt, Option, Some, None, MatchBool, MatchOption, codes}
use Rattle.std.specs.Fmt.{decimal}
use Rattle.clock.specs.Instant.{Spells, second_at}
use Rattle.json.specs.Token.{Token, number, string}
use Rattle.forms.specs.Fields.{Text}

-- a digit
abbrev pub digit : ℕ → Text
digit n = (48 + n) ∷ []

-- a number below a million as six decimal digits
abbrev pub six_digits : ℕ → Text
six_digits n =
    digit (n / 100_000) ++ (digit (n / 10_000 % 10) ++ (digit (n / 1000 % 10) ++ (digit (n / 100 % 10) ++ (digit (n / 10 % 10) ++ digit (n % 10)))))

-- the microseconds after a second, where there are some
abbrev pub micros_text : ℕ → Text
micros_text micros = if micros == 0 then [] else codes "." ++ six_digits micros

-- the text of a second, with microseconds before its last letter
abbrev pub with_micros : ℕ → Text → Text
with_micros micros second = take (length second - 1) second ++ (micros_text micros ++ codes "Z")

-- the text of an instant: that of its second, with the microseconds after it
abbrev pub IsInstant : ℕ → Text → Type 0
IsInstant time text = (second : Text) × Spells second (second_at time) × (text ≡ with_micros (time % 1_000_000) second)

-- a time, and its text where it is shown as an instant
pub record Moment : Type 0 where
  pub time : ℕ
  pub instant : Option Text

abbrev pub moment_as : ℕ → Option Text → Moment
moment_as time instant = record { time = time; instant = instant }

-- it is shown as one where this is asked for, up to the year 9999; else as the number of its microseconds
abbrev pub IsInstantIf : Bool → ℕ → Option Text → Type 0
IsInstantIf false time shown = shown ≡ None
IsInstantIf true time shown = MatchBool (nat_lt time 253_402_300_800_000_000) (MatchOption shown ⊥ (IsInstant time)) (shown ≡ None)

-- so this time is shown
abbrev pub IsShown : Bool → ℕ → Moment → Type 0
IsShown instants time moment = (moment.time ≡ time) × IsInstantIf instants time moment.instant

-- the text of a time that is shown so
abbrev pub shown_text : ℕ → Option Text → Text
shown_text time None = decimal time
shown_text time (Some instant) = instant

abbrev pub time_text : Moment → Text
time_text moment = shown_text moment.time moment.instant

-- the same in JSON
abbrev pub shown_token : ℕ → Option Text → Token
shown_token time None = number (decimal time)
shown_token time (Some instant) = string instant

abbrev pub time_token : Moment → Token
time_token moment = shown_token moment.time moment.instant
