-- The lines of a text.
use Rattle.std.specs.Prelude.{◌≡◌, ℕ, ◌==◌, Bool, true, false, List, [], ◌∷◌, Option, Some, None, if◌then◌else◌, ⊤}
use Rattle.session.specs.Texts.{Text}

-- a byte goes before the first of the lines, or is a line of its own where there is none
abbrev pub onto_line : ℕ → List Text → List Text
onto_line x [] = (x ∷ []) ∷ []
onto_line x (l ∷ ls) = (x ∷ l) ∷ ls

-- each ends with a line feed, which the last may lack
abbrev pub lines_of : Text → List Text
lines_of [] = []
lines_of (x ∷ xs) = if x == 10 then [] ∷ lines_of xs else onto_line x (lines_of xs)

-- one line was read of the known bytes, or there was none
abbrev pub Reads : Option Text → Option Text → Bool → Text → Type 0
Reads None new more line = ⊤
Reads (Some xs) None more line = ⊥
Reads (Some xs) (Some ys) true line = lines_of xs ≡ line ∷ lines_of ys
Reads (Some xs) (Some ys) false line = xs ≡ []

-- an input has these lines, where it is known
abbrev pub AreLines : Option Text → List Text → Type 0
AreLines None lines = ⊤
AreLines (Some text) lines = lines ≡ lines_of text
