-- What two images of one history share.
use Rattle.std.proofs.Common.{◌≡◌, ℕ, ◌≤◌, List, length, Option, sym, ap, subst, ◌∙◌}
use mathlib.Core.Path.{fun_ext}
use Rattle.history.specs.declared.key.Key.{Key}
use Rattle.history.specs.Histories.{History}
use Rattle.law_image.specs.Values.{Value}
use Rattle.law_image.specs.Reading.{Member, Reading}
use Rattle.law_image.specs.Facts.{commits_from, AreStored, values_now}
use Rattle.law_image.specs.StandsFor.{StandsFor}
use Rattle.law_image.specs.Plans.{IsGroupOf, most_members}
use Rattle.law_image.proofs.Recent.{latest-is}

module _ (reading other : Reading) (h : History Value) (floors raised : ℕ → ℕ) (stands : StandsFor reading h floors)
    (same : StandsFor other h raised) where
  pub values-stay : (key : Key) → values_now reading key ≡ values_now other key
  values-stay key = sym (latest-is reading h floors stands key) ∙ latest-is other h raised same key

  pub group-of_both : (next : History Value) (group : List Member) → other.profile ≡ reading.profile
      → IsGroupOf reading h next group → IsGroupOf other h next group
  group-of_both next group profile is =
      let values : values_now reading ≡ values_now other = fun_ext values-stay in
      record {
        may = is.may;
        facts = ap (λ (f : Key → Option Value). commits_from f group) (sym values) ∙ is.facts;
        some = is.some;
        few = subst (λ (p : ℕ). length group ≤ most_members p) (sym profile) is.few;
        chains = is.chains;
        stored = subst (λ (f : Key → Option Value). AreStored f group) values is.stored;
      }
