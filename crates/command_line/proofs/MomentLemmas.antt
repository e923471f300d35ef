-- What words are that spell a time.
use Rattle.std.proofs.Common.{◌≡◌, ℕ, List, [], ◌∷◌, length, slice_index_or, Option, Some, None, arith, refl, subst}
use Rattle.script.specs.Lines.{time_in}
use Rattle.command_line.specs.Moments as told

-- the ten characters of a date, and those of midnight
abbrev pub midnight_text : List ℕ → List ℕ
midnight_text date =
    slice_index_or date 0 0 ∷ slice_index_or date 1 0 ∷ slice_index_or date 2 0 ∷ slice_index_or date 3 0 ∷ slice_index_or date 4 0
    ∷ slice_index_or date 5 0 ∷ slice_index_or date 6 0 ∷ slice_index_or date 7 0 ∷ slice_index_or date 8 0 ∷ slice_index_or date 9 0
    ∷ 84 ∷ 48 ∷ 48 ∷ 58 ∷ 48 ∷ 48 ∷ 58 ∷ 48 ∷ 48 ∷ 90 ∷ []

pub midnight-read : (date : List ℕ) → length date ≡ 10 → time_in (midnight_text date) ≡ told.midnight date
midnight-read (a ∷ b ∷ c ∷ d ∷ e ∷ f ∷ g ∷ h ∷ i ∷ j ∷ []) ten = refl
midnight-read _ ten = absurd (omega (arith, ten))

pub second-there : (first second third : Option ℕ) (time : ℕ) → None ≡ first → Some time ≡ second
    → Some time ≡ told.first_there first (told.first_there second third)
second-there first second third time lacks is =
    subst (λ (a : Option ℕ). Some time ≡ told.first_there a (told.first_there second third)) lacks
    (subst (λ (b : Option ℕ). Some time ≡ told.first_there b third) is refl)

pub third-there : (first second third answer : Option ℕ) → None ≡ first → None ≡ second → answer ≡ third
    → answer ≡ told.first_there first (told.first_there second third)
third-there first second third answer lacks past is =
    subst (λ (a : Option ℕ). answer ≡ told.first_there a (told.first_there second third)) lacks
    (subst (λ (b : Option ℕ). answer ≡ told.first_there b third) past is)
