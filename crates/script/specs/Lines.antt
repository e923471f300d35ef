-- The lines of a script.
use Rattle.std.specs.Prelude.{ℕ, List, [], ◌∷◌, Option, Some, None, codes, is_some, if◌then◌else◌, option_map, option_and_then}
use Rattle.std.specs.Str.{bytes_eq}
use Rattle.history.specs.declared.key.Key.{Key}
use Rattle.script.specs.Instants.{instant_in}
use Rattle.script.specs.Words.{Text, fields_in, name_in, number_in, words_of}
use Rattle.script.specs.declared.line.Line.{Line}
use Rattle.script.specs.declared.line.Line.TheVariants as line

-- the greatest u64
abbrev pub most : ℕ
most = 18_446_744_073_709_551_615

-- a relation's number and a record's
abbrev pub key_in : Text → Text → Option Key
key_in relation number =
    option_and_then (λ r. option_map (λ n. record { relation = r; «record» = n }) (number_in most number)) (number_in 65_535 relation)

-- microseconds since 1970: a number, or else an instant's text
abbrev pub time_in : Text → Option ℕ
time_in word = if is_some (number_in most word) then number_in most word else instant_in word

-- the name of a line with a name alone
abbrev pub only_name : List Text → Option Text
only_name (name ∷ []) = name_in name
only_name _ = None

-- the name and the key of a line with these alone
abbrev pub name_and_key : List Text → Option (Text × Key)
name_and_key (name ∷ relation ∷ number ∷ []) =
    option_and_then (λ n. option_map (λ k. (n, k)) (key_in relation number)) (name_in name)
name_and_key _ = None

-- a name, a key and any number of fields
abbrev pub put_of : List Text → Option Line
put_of (name ∷ relation ∷ number ∷ fields) =
    option_and_then (λ n. option_and_then (λ k. option_map (λ fs. line.Put n k fs) (fields_in fields)) (key_in relation number)) (name_in name)
put_of _ = None

-- a name, a label and a time
abbrev pub submit_of : List Text → Option Line
submit_of (name ∷ label ∷ time ∷ []) =
    option_and_then (λ n. option_and_then (λ l. option_map (λ t. line.Submit n l t) (time_in time)) (number_in most label)) (name_in name)
submit_of _ = None

-- a key and a time
abbrev pub at_of : List Text → Option Line
at_of (relation ∷ number ∷ time ∷ []) =
    option_and_then (λ k. option_map (λ t. line.At k t) (time_in time)) (key_in relation number)
at_of _ = None

-- a key and two times
abbrev pub between_of : List Text → Option Line
between_of (relation ∷ number ∷ from ∷ to ∷ []) =
    option_and_then (λ k. option_and_then (λ a. option_map (λ b. line.Between k a b) (time_in to)) (time_in from)) (key_in relation number)
between_of _ = None

-- a relation and a time
abbrev pub scan_of : List Text → Option Line
scan_of (relation ∷ time ∷ []) = option_and_then (λ r. option_map (λ t. line.Scan r t) (time_in time)) (number_in 65_535 relation)
scan_of _ = None

-- a label
abbrev pub times_of : List Text → Option Line
times_of (label ∷ []) = option_map (λ l. line.Times l) (number_in most label)
times_of _ = None

-- a time up to which versions are archived
abbrev pub archive_of : List Text → Option Line
archive_of (time ∷ []) = option_map (λ t. line.Archive t) (time_in time)
archive_of _ = None

-- the time that the floor of every relation is raised to
abbrev pub floor_of : List Text → Option Line
floor_of (time ∷ []) = option_map (λ t. line.Floor None t) (time_in time)
floor_of _ = None

-- a relation, and the time that its floor is raised to
abbrev pub floorof_of : List Text → Option Line
floorof_of (relation ∷ time ∷ []) = option_and_then (λ r. option_map (λ t. line.Floor (Some r) t) (time_in time)) (number_in 65_535 relation)
floorof_of _ = None

-- a line of its command alone
abbrev pub alone : Line → List Text → Option Line
alone found [] = Some found
alone found _ = None

-- what a command and the words behind it ask for that name no transaction and no ticket
abbrev pub store_line_of : Text → List Text → Option Line
store_line_of command rest =
    if bytes_eq command (codes "pump") then alone line.Pump rest
    else (if bytes_eq command (codes "flush") then alone line.Flush rest
    else (if bytes_eq command (codes "at") then at_of rest
    else (if bytes_eq command (codes "between") then between_of rest
    else (if bytes_eq command (codes "scan") then scan_of rest
    else (if bytes_eq command (codes "times") then times_of rest
    else (if bytes_eq command (codes "archive") then archive_of rest
    else (if bytes_eq command (codes "reclaim") then alone line.Reclaim rest
    else (if bytes_eq command (codes "floor") then floor_of rest
    else (if bytes_eq command (codes "floorof") then floorof_of rest
    else (if bytes_eq command (codes "grow") then alone line.Grow rest
    else (if bytes_eq command (codes "job") then alone line.Job rest
    else (if bytes_eq command (codes "finish") then alone line.Finish rest
    else (if bytes_eq command (codes "reopen") then alone line.Reopen rest
    else None)))))))))))))

-- what these words ask for: a command and what belongs to it, or nothing where they have no such form
abbrev pub line_of : List Text → Option Line
line_of [] = None
line_of (command ∷ rest) =
    if bytes_eq command (codes "begin") then option_map (λ n. line.Begin n) (only_name rest)
    else (if bytes_eq command (codes "put") then put_of rest
    else (if bytes_eq command (codes "del") then option_map (λ (n, k). line.Delete n k) (name_and_key rest)
    else (if bytes_eq command (codes "get") then option_map (λ (n, k). line.Get n k) (name_and_key rest)
    else (if bytes_eq command (codes "submit") then submit_of rest
    else (if bytes_eq command (codes "abort") then option_map (λ n. line.Abort n) (only_name rest)
    else (if bytes_eq command (codes "redeem") then option_map (λ n. line.Redeem n) (only_name rest)
    else store_line_of command rest))))))

-- what a line of the script asks for, if it has such a form
abbrev pub said : Text → Option Line
said bytes = line_of (words_of bytes)
