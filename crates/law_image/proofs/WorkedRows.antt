-- Worked images, computed.
use Rattle.std.proofs.Common.{◌≡◌, ℕ, ◌^◌, [], ◌∷◌, Some, refl}
use Rattle.std.specs.Prelude.{filter}
use Rattle.history.specs.declared.key.Key.{Key}
use Rattle.history.specs.declared.time.Version.{Version}
use Rattle.history.specs.Key.{key_of}
use Rattle.history.specs.Versions.{standing_at, rows, stands_at, ends_after, ends_by}
use Rattle.law_image.specs.Values.{Value}
use Rattle.law_image.specs.Reading.{Head, Slot, Commits, Archived, Floor, Anchor, Delta, Gone, Content, Member, Reading}
use Rattle.law_image.specs.Log.{floor_of}
use Rattle.law_image.specs.Facts.{stored, heap_versions}
use Rattle.law_image.specs.StandsFor.{kept_versions}
use Rattle.law_image.specs.Plans.{with_anchors}

abbrev seven : Key
seven = key_of 1 7

abbrev word : ℕ → Value
word letter = (letter ∷ []) ∷ []

abbrev span : ℕ → ℕ → ℕ → Version Value
span from to letter = record { from = from; to = to; value = word letter }

abbrev head : ℕ → ℕ → Head
head time label = record { time = time; label = label }

abbrev member : ℕ → ℕ → Key → Content → Member
member time label key content = record { head = head time label; records = record { key = key; content = content } ∷ [] }

abbrev one : ℕ → ℕ → Slot
one time label = Commits (head time label ∷ [])

-- ["a"] at 100, ["b"] at 110, gone at 120, ["c"] at 130, archived and reclaimed up to 120
abbrev archived : Reading
archived = record {
  profile = 1;
  slots = 16;
  pieces = 0;
  log = one 100 1 ∷ one 110 2 ∷ one 120 3 ∷ one 130 4 ∷ Archived 120 ∷ [];
  members =
      member 100 1 seven (Anchor (word 97)) ∷ member 110 2 seven (Anchor (word 98)) ∷ member 120 3 seven Gone ∷ member 130 4 seven (Anchor (word 99)) ∷ [];
  anchors = [];
  runs = (record { key = seven; version = span 100 110 97 } ∷ record { key = seven; version = span 110 120 98 } ∷ []) ∷ [];
}

both_homes : heap_versions archived seven ≡ span 100 110 97 ∷ span 110 120 98 ∷ span 130 (2 ^ 63) 99 ∷ []
both_homes = refl

-- no anchors are needed: nothing stands at 120
no_anchors : filter (stands_at 120) (heap_versions archived seven) ≡ []
no_anchors = refl

abbrev reclaimed : Reading
reclaimed = with_anchors archived []

last_alone : heap_versions reclaimed seven ≡ span 130 (2 ^ 63) 99 ∷ []
last_alone = refl

kept_as_before : kept_versions reclaimed 0 seven ≡ span 100 110 97 ∷ span 110 120 98 ∷ span 130 (2 ^ 63) 99 ∷ []
kept_as_before = refl

rows_as_before : rows (kept_versions reclaimed 0 seven) 105 121 ≡ span 105 110 97 ∷ span 110 120 98 ∷ []
rows_as_before = refl

-- Profile 3: relation 1 has ["a"] at 100 and ["b"] at 110, relation 2 ["z"] at 105 and ["y"] at 115; the floor of relation 1 is 115.
abbrev five : Key
five = key_of 2 5

abbrev floored : Reading
floored = record {
  profile = 3;
  slots = 16;
  pieces = 0;
  log = one 100 1 ∷ one 105 2 ∷ one 110 3 ∷ one 115 4 ∷ Floor (Some 1) 115 ∷ [];
  members =
      member 100 1 seven (Anchor (word 97)) ∷ member 105 2 five (Anchor (word 122)) ∷ member 110 3 seven (Anchor (word 98))
      ∷ member 115 4 five (Anchor (word 121)) ∷ [];
  anchors = [];
  runs = [];
}

floor_of_one : floor_of floored.log 1 ≡ 115
floor_of_one = refl

no_floor_of_two : floor_of floored.log 2 ≡ 0
no_floor_of_two = refl

kept_of_one : kept_versions floored 115 seven ≡ span 110 (2 ^ 63) 98 ∷ []
kept_of_one = refl

value_of_two : standing_at (kept_versions floored 0 five) 109 ≡ Some (word 122)
value_of_two = refl

-- the plan of an archive up to 115 has z alone
planned_of_one : filter (ends_by 115) (filter (ends_after 115) (heap_versions floored seven)) ≡ []
planned_of_one = refl

planned_of_two : filter (ends_by 115) (filter (ends_after 0) (heap_versions floored five)) ≡ span 105 115 122 ∷ []
planned_of_two = refl

-- ["a","b"], then ["a","c"], then ["d","c"]: deltas with masks 2 and 1
first_delta : stored (Some ((97 ∷ []) ∷ (98 ∷ []) ∷ [])) (Some ((97 ∷ []) ∷ (99 ∷ []) ∷ [])) ≡ Delta 2 ((99 ∷ []) ∷ [])
first_delta = refl

second_delta : stored (Some ((97 ∷ []) ∷ (99 ∷ []) ∷ [])) (Some ((100 ∷ []) ∷ (99 ∷ []) ∷ [])) ≡ Delta 1 ((100 ∷ []) ∷ [])
second_delta = refl

-- ["a"] then ["b"], and [""] then [""], are anchors
no_delta : stored (Some (word 97)) (Some (word 98)) ≡ Anchor (word 98)
no_delta = refl

no_empty_delta : stored (Some ([] ∷ [])) (Some ([] ∷ [])) ≡ Anchor ([] ∷ [])
no_empty_delta = refl

-- three fields unchanged are a delta with none
same_again : stored (Some ((97 ∷ []) ∷ (97 ∷ []) ∷ (97 ∷ []) ∷ [])) (Some ((97 ∷ []) ∷ (97 ∷ []) ∷ (97 ∷ []) ∷ [])) ≡ Delta 0 []
same_again = refl
