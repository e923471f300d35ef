-- Extents taken one after another.
use Rattle.std.proofs.Common.{◌≡◌, ℕ, List, [], ◌∷◌, ◌++◌, refl}
use Rattle.extents.specs.declared.usage.Usage.{Usage}
use Rattle.extents.specs.declared.usage.Usage.TheVariants.{Out}
use Rattle.extents.specs.Usages.{IsLeastFree, with_usage, with_usages}
use Rattle.group.specs.Taking.{AreLeastFree}

pub with_usages-push : (usages : List Usage) (ns : List ℕ) (n : ℕ) (usage : Usage)
    → with_usages usages (ns ++ n ∷ []) usage ≡ with_usage (with_usages usages ns usage) n usage
with_usages-push usages [] n usage = refl
with_usages-push usages (m ∷ ms) n usage = with_usages-push (with_usage usages m usage) ms n usage

pub AreLeastFree-push : (usages : List Usage) (ns : List ℕ) (n : ℕ) → AreLeastFree usages ns → IsLeastFree (with_usages usages ns Out) n
    → AreLeastFree usages (ns ++ n ∷ [])
AreLeastFree-push usages [] n all least = (least, tt)
AreLeastFree-push usages (m ∷ ms) n all least = (all.0, AreLeastFree-push (with_usage usages m Out) ms n all.1 least)
