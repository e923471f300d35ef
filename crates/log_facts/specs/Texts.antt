-- The texts of what a log tells.
use Rattle.std.specs.Prelude.{ℕ, Bool, List, [], ◌∷◌, ◌++◌, length, Option, Some, None, codes, if◌then◌else◌}
use Rattle.std.specs.List.{flat_map}
use Rattle.std.specs.Fmt.{decimal}
use Rattle.json.specs.Print.{print}
use Rattle.json.specs.Token.{Token, begin_array, begin_object, end_array, end_object, key, number}
use Rattle.status.specs.Header.{total}
use Rattle.status.specs.declared.header.Header.{Header}
use Rattle.wire.specs.declared.slot.Slot.{Slot}
use Rattle.log_facts.specs.Facts as facts
use Rattle.log_facts.specs.declared.floor.Floor.{Floor}

-- the bytes of a text
abbrev pub Text : Type 0
Text = List ℕ

-- a number and its name
pub record Named : Type 0 where
  pub name : Text
  pub number : ℕ

abbrev pub named : Text → ℕ → Named
named name n = record { name = name; number = n }

-- the days that the slots last, if that is known
abbrev pub days : Option ℕ → List Named
days None = []
days (Some n) = named (codes "days") n ∷ []

-- the numbers in their order
abbrev pub numbers : Header → List Slot → List Named
numbers header slots =
    named (codes "profile") header.profile ∷ named (codes "slots") (total header) ∷ named (codes "used") (length slots)
    ∷ named (codes "extents") (facts.extents slots) ∷ named (codes "commits") (facts.commits slots) ∷ named (codes "first") (facts.first_time slots)
    ∷ named (codes "last") (facts.last_time slots) ∷ named (codes "archived") (facts.archived slots) ∷ named (codes "archive") (facts.archive slots)
    ∷ named (codes "reclaimed") (facts.last_anchors slots).upto ∷ []

-- these, and the days that the slots last
abbrev pub all_numbers : Header → List Slot → List Named
all_numbers header slots = numbers header slots ++ days (facts.days_left header slots)

-- ---- as lines

-- a name and its number
abbrev pub number_line : Named → Text
number_line n = n.name ++ (codes " " ++ (decimal n.number ++ codes "\n"))

-- a floor of all relations, or of one
abbrev pub floor_by : Option ℕ → ℕ → Text
floor_by None time = codes "floor " ++ (decimal time ++ codes "\n")
floor_by (Some relation) time = codes "floor " ++ (decimal relation ++ (codes " " ++ (decimal time ++ codes "\n")))

abbrev pub floor_line : Floor → Text
floor_line floor = floor_by floor.relation floor.time

-- a line for each number, and one for each floor
abbrev pub lines : List Named → List Floor → Text
lines ns floors = flat_map number_line ns ++ flat_map floor_line floors

-- ---- in JSON

abbrev pub number_tokens : Named → List Token
number_tokens n = key n.name ∷ number (decimal n.number) ∷ []

abbrev pub relation_tokens : Option ℕ → List Token
relation_tokens None = []
relation_tokens (Some relation) = key (codes "relation") ∷ number (decimal relation) ∷ []

abbrev pub floor_tokens : Floor → List Token
floor_tokens floor = begin_object ∷ (relation_tokens floor.relation ++ key (codes "floor") ∷ number (decimal floor.time) ∷ end_object ∷ [])

-- an object with each number, and with the floors as an array
abbrev pub tokens : List Named → List Floor → List Token
tokens ns floors =
    begin_object ∷ (flat_map number_tokens ns ++ key (codes "floors") ∷ begin_array ∷ (flat_map floor_tokens floors ++ end_array ∷ end_object ∷ []))

-- ---- either

abbrev pub text_by : Bool → List Named → List Floor → Text
text_by json ns floors = if json then print (tokens ns floors) ++ codes "\n" else lines ns floors

-- what a log tells, in JSON or as lines
abbrev pub info_text : Bool → Header → List Slot → Text
info_text json header slots = text_by json (all_numbers header slots) (facts.floors slots)
