-- Extents of which some are live.
use Rattle.std.specs.Prelude.{◌≡◌, ℕ, ◌≤◌, List, ◌∷◌, ◌++◌, Contains, replicate}
use Rattle.std.specs.List.{AllByRecursion}
use Rattle.extents.specs.declared.usage.Usage.{Usage}
use Rattle.extents.specs.declared.usage.Usage.TheVariants.{Free, Kept}
use Rattle.extents.specs.declared.live.LiveFault.{LiveFault}
use Rattle.extents.specs.declared.live.LiveFault.TheVariants.{NoMemory, NotFree}
use Rattle.extents.specs.Usages.{with_usages, AreDistinct}

-- the heap has an extent of this number
abbrev pub IsNumber : ℕ → Type 0
IsNumber number = (1 ≤ number) × (number ≤ 65536)

-- numbers of extents, each once
pub record AreLive (numbers : List ℕ) : Type 0 where
  pub each : AllByRecursion IsNumber numbers
  pub distinct : AreDistinct numbers

-- the extents of these numbers are kept, and all others are free
abbrev pub usages_of_live : List ℕ → List Usage
usages_of_live numbers = with_usages (replicate 65536 Free) numbers Kept

-- the first of the numbers that is no extent's or stands there a second time
pub record IsFirstNotFree (numbers : List ℕ) (number : ℕ) : Type 0 where
  pub before : List ℕ
  pub after : List ℕ
  pub is : numbers ≡ before ++ number ∷ after
  pub live : AreLive before
  pub again : IsNumber number → Contains before number

-- why these extents are not live: memory was refused, or this number is the first that is not free
abbrev pub IsLiveFault : List ℕ → LiveFault → Type 0
IsLiveFault numbers NoMemory = Unit {0}
IsLiveFault numbers (NotFree number) = IsFirstNotFree numbers number
