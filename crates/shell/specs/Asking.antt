-- The line of a script that asks a question.
use Rattle.std.specs.Prelude.{ℕ, ◌+◌, ◌-◌, ◌^◌, min}
use Rattle.floors.specs.Floors.{floor_at}
use Rattle.any_store.specs.Calls as stores
use Rattle.any_store.specs.Values.{StoreValue}
use Rattle.script.specs.declared.line.Line.{Line}
use Rattle.script.specs.declared.line.Line.TheVariants as line
use Rattle.command_line.specs.declared.question.Question.{Question}
use Rattle.command_line.specs.declared.question.Question.TheVariants as question
use Rattle.command_line.specs.declared.question.When.{When}
use Rattle.command_line.specs.declared.question.When.TheVariants as when

-- the time that is asked about: the floor of the relation, the time that was said, or that of the last commit
abbrev pub time_asked : (floor last : ℕ) → When → ℕ
time_asked floor last when.First = floor
time_asked floor last (when.At t) = t
time_asked floor last when.Now = last

-- where the interval ends that is asked about: up to now is up to just after the last commit
abbrev pub end_asked : (floor last : ℕ) → When → ℕ
end_asked floor last when.First = floor
end_asked floor last (when.At t) = t
end_asked floor last when.Now = min (last + 1) (2 ^ 64 - 1)

-- the line that asks a question, where these are the time of the last commit and the floors
abbrev pub line_by : Question → (last : ℕ) → (floors : ℕ → ℕ) → Line
line_by (question.Value key time) last floors = line.At key (time_asked (floors key.relation) last time)
line_by (question.Records relation time) last floors = line.Scan relation (time_asked (floors relation) last time)
line_by (question.Rows key from to) last floors =
    line.Between key (time_asked (floors key.relation) last from) (end_asked (floors key.relation) last to)
line_by (question.Times label) last floors = line.Times label

-- the line that asks a question of a store
abbrev pub line_asked : Question → StoreValue → Line
line_asked asked store = line_by asked (stores.last store) (floor_at (stores.floors store))
