-- Extents taken one after another.
use Rattle.std.specs.Prelude.{ℕ, List, [], ◌∷◌, ◌≡◌}
use Rattle.extents.specs.declared.usage.Usage.{Usage}
use Rattle.extents.specs.declared.usage.Usage.TheVariants.{Out}
use Rattle.extents.specs.Usages.{IsLeastFree, with_usage, with_usages, AreOut}

-- each is the least free one after those before it are out
abbrev pub AreLeastFree : List Usage → List ℕ → Type 0
AreLeastFree usages [] = Unit {0}
AreLeastFree usages (n ∷ ns) = IsLeastFree usages n × AreLeastFree (with_usage usages n Out) ns

-- these are still out, and their change leads to the wanted usages
pub record LeftOut (usages : List Usage) (numbers : List ℕ) (wanted : List Usage) (usage : Usage) : Type 0 where
  pub out : AreOut usages numbers
  pub rest : with_usages usages numbers usage ≡ wanted
