-- What stands in an area for a roll, whatever its bytes are, and what a search for the times of a label makes of it.
use Rattle.std.specs.Prelude.{ℕ, zero, suc, ◌≡◌, ◌⊎◌, ◌+◌, ◌-◌, ◌*◌, ◌/◌, ◌<◌, ◌==◌, ◌&&◌, ◌||◌, nat_lt, nat_le, Bool, true, if◌then◌else◌}
use Rattle.std.specs.Prelude.{List, [], ◌∷◌, ◌++◌, length, take, drop, slice_range, Option, Some, None, option_map, option_and_then}
use Rattle.std.specs.List.Sorted.{IsPermutation, IsNonDecreasing}
use Rattle.byteorder.specs.Endian.{little_number}
use Rattle.log_entries.specs.declared.entry.Roll.{Roll}
use Rattle.log_names.specs.declared.name.Name.{Name}

-- ---- what stands there

-- the 16 bytes of a name: the label, then the time
unfoldable pub name_in : List ℕ → Name
name_in bytes = record { label = little_number 8 bytes; time = little_number 8 (drop 8 bytes) }

-- where a roll ends in the archive
abbrev pub roll_end : Roll → ℕ
roll_end roll = roll.start + roll.len

-- how many names it has
abbrev pub name_count : Roll → ℕ
name_count roll = roll.len / 16

-- the n-th of them as it stands
unfoldable pub name_at : List ℕ → ℕ → ℕ → Name
name_at area start n = name_in (slice_range area (start + 16 * n) (start + 16 * n + 16))

-- ---- the rules

-- the time is one of a commit, no later than the one up to which rolls go
abbrev pub is_in_time : ℕ → Name → Bool
is_in_time upto name = nat_lt 0 name.time && nat_le name.time upto

-- the name is behind the one that was read just before it on the walk, if one was: by its label, and then by its time
abbrev pub may_follow : Option Name → Name → Bool
may_follow None name = true
may_follow (Some before) name = nat_lt before.label name.label || ((before.label == name.label) && nat_lt before.time name.time)

-- ---- the search

-- The first name whose label is not below this one, found by halving: none where a name that is read breaks the rule of its time. The names are not compared
-- with one another here: they are not read in their order.
abbrev pub halved : (ℕ → Name) → ℕ → ℕ → ℕ → ℕ → ℕ → Option ℕ
halved names upto label zero low high = Some low
halved names upto label (suc steps) low high =
    let middle = low + (high - low) / 2 in
    let below = nat_lt (names middle).label label in
    if nat_lt low high
    then (if is_in_time upto (names middle)
    then halved names upto label steps (if below then middle + 1 else low) (if below then high else middle)
    else None)
    else Some low

-- The times of the names of this label from the n-th on, of which so many are left, up to the first of another label: none where a name that is read breaks a
-- rule, by itself or beside the one before it.
abbrev pub walked : (ℕ → Name) → ℕ → ℕ → ℕ → ℕ → Option Name → Option (List ℕ)
walked names upto label zero n last = Some []
walked names upto label (suc left) n last =
    if is_in_time upto (names n) && may_follow last (names n)
    then (if (names n).label == label
    then option_map (λ (times : List ℕ). (names n).time ∷ times) (walked names upto label left (n + 1) (Some (names n)))
    else Some [])
    else None

-- the place of the first name of a roll whose label is not below this one
abbrev pub first_in : List ℕ → ℕ → ℕ → Roll → Option ℕ
first_in area upto label roll = halved (name_at area roll.start) upto label (name_count roll) 0 (name_count roll)

-- the times from there on
abbrev pub times_behind : List ℕ → ℕ → ℕ → Roll → ℕ → Option (List ℕ)
times_behind area upto label roll n = walked (name_at area roll.start) upto label (name_count roll - n) n None

-- the times of a label that a search finds in a roll: none where what it reads breaks a rule
unfoldable pub times_there : List ℕ → ℕ → ℕ → Roll → Option (List ℕ)
times_there area upto label roll = option_and_then (times_behind area upto label roll) (first_in area upto label roll)

-- those of these rolls, one roll after another
abbrev pub times_in_all : List ℕ → ℕ → ℕ → List Roll → Option (List ℕ)
times_in_all area upto label [] = Some []
times_in_all area upto label (roll ∷ rolls) =
    option_and_then (λ (times : List ℕ). option_map (λ (more : List ℕ). times ++ more) (times_in_all area upto label rolls)) (times_there area upto label roll)

-- a list is the other by rising time
pub record IsInOrder (times found : List ℕ) : Type 0 where
  pub same : IsPermutation times found
  pub rising : IsNonDecreasing found

-- ---- that a search fails

-- the roll reaches past the area's end, or what is read of it breaks a rule
pub data IsBroken (area : List ℕ) (upto label : ℕ) (roll : Roll) : Type 0 where
  PastEnd : length area < roll_end roll → IsBroken area upto label roll
  BadName : times_there area upto label roll ≡ None → IsBroken area upto label roll

-- the first of these rolls that is broken begins here
pub record IsFirstBroken (area : List ℕ) (upto label : ℕ) (rolls : List Roll) (start : ℕ) : Type 0 where
  pub before : List Roll
  pub roll : Roll
  pub behind : List Roll
  pub among : rolls ≡ before ++ roll ∷ behind
  pub times : List ℕ
  pub found : times_in_all area upto label before ≡ Some times
  pub here : start ≡ roll.start
  pub broken : IsBroken area upto label roll
