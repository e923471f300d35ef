-- Commit times.
use Rattle.std.specs.Prelude.{ℕ, ◌+◌, ◌<◌, ◌^◌, max, nat_lt, List, [], ◌∷◌, AllPairs, if◌then◌else◌}

-- the time of the commit after `last`, where the clock of the caller shows `now`
abbrev pub next_time : ℕ → ℕ → ℕ
next_time last now = max (last + 1) now

-- the times that calls with these nows give, one after another: a call that would pass the end gives none
abbrev pub times_given : ℕ → List ℕ → List ℕ
times_given last [] = []
times_given last (now ∷ nows) =
    if nat_lt (next_time last now) (2 ^ 63) then next_time last now ∷ times_given (next_time last now) nows
    else times_given last nows

-- over every list of calls, each time is greater than every earlier one, and than the one that the clock began with
abbrev pub TimesRise : Type 0
TimesRise = (last : ℕ) (nows : List ℕ) → AllPairs (λ earlier later. earlier < later) (last ∷ times_given last nows)
