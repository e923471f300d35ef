-- What holds of extents that are handed out together.
use Rattle.std.specs.Prelude.{ℕ, List, [], ◌∷◌, ◌++◌}
use Rattle.std.specs.List.{AllByRecursion}
use Rattle.extents.specs.declared.usage.Usage.{Usage}
use Rattle.extents.specs.declared.usage.Usage.TheVariants.{Out, Kept}
use Rattle.extents.specs.Usages.{HasUsage, IsFree, IsKept, with_usage, with_usages, IsNoneOf, AreOut}

-- one more is taken
abbrev pub ListTaken : Type 0
ListTaken =
    (usages : List Usage) (numbers : List ℕ) (number : ℕ) → AreOut usages numbers → IsFree usages number
    → AreOut (with_usage usages number Out) (numbers ++ number ∷ [])

-- the first of those that are out gets another usage, and the others are still out
abbrev pub ListGivenBack : Type 0
ListGivenBack =
    (usages : List Usage) (numbers : List ℕ) (number : ℕ) (usage : Usage) → AreOut usages (number ∷ numbers) → AreOut (with_usage usages number usage) numbers

-- extents that get one usage after the other have it in the end
abbrev pub ListKept : Type 0
ListKept = (usages : List Usage) (numbers : List ℕ) → AreOut usages numbers → AllByRecursion (IsKept (with_usages usages numbers Kept)) numbers

-- and those that are none of them stay what they were
abbrev pub KeptsStay : Type 0
KeptsStay =
    (usages : List Usage) (numbers : List ℕ) (usage old : Usage) (other : ℕ) → AreOut usages numbers → IsNoneOf other numbers → HasUsage old usages other
    → HasUsage old (with_usages usages numbers usage) other
