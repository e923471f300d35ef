-- Members that are right, one after another.
use Rattle.std.proofs.Common.{inr, ℕ, List, [], ◌∷◌, ◌++◌, map, Option, refl, sym, subst, append_assoc}
use Rattle.std.specs.List.{AllByRecursion}
use Rattle.std.proofs.lemmas.List.{append-nil}
use Rattle.history.proofs.Filters.{AllByRecursion-append}
use Rattle.wire.specs.declared.slot.Member.{Member as Entry}
use Rattle.history.specs.declared.key.Key.{Key}
use Rattle.history.specs.Queries.{applied}
use Rattle.law_image.specs.Values.{Value}
use Rattle.law_image.specs.Facts.{commits_from, AreStored}
use Rattle.law_image.specs.StandsFor.{IsChain as IsMember}
use Rattle.law_layout.specs.Extents.{Extent, HoldsExtent, AreDistinct}
use Rattle.law_layout.specs.Layouts.{StoredMember, IsStoredMember, extents_of}
use Rattle.law_layout.specs.Opening.{IsLiveMember, AreLive, FailsAt, values_left}
use Rattle.law_layout.proofs.Lists.{all_of_front, all_of_back, distinct_parts}

-- all that is said of the members, each by itself
pub record LiveParts (heap : List ℕ) (taken : List Extent) (before : Key → Option Value) (members : List StoredMember) : Type 0 where
  pub stored : AllByRecursion IsStoredMember members
  pub rules : AllByRecursion IsMember (map (λ s. s.member) members)
  pub held : AllByRecursion (HoldsExtent heap) (extents_of members)
  pub apart : AreDistinct (taken ++ extents_of members)
  pub spellings : AreStored before (map (λ s. s.member) members)

pub live_of_parts : (heap : List ℕ) (taken : List Extent) (before : Key → Option Value) (members : List StoredMember) → LiveParts heap taken before members
    → AreLive heap taken before members
live_of_parts heap taken before [] parts = tt
live_of_parts heap taken before (s ∷ members) parts =
    let apart : AreDistinct ((taken ++ s.extents) ++ extents_of members) = rw (append_assoc taken s.extents (extents_of members)) parts.apart in (
      record {
        stored = parts.stored.0;
        rules = parts.rules.0;
        held = all_of_front (HoldsExtent heap) s.extents (extents_of members) parts.held;
        apart = (distinct_parts (taken ++ s.extents) (extents_of members) apart).0;
        spellings = parts.spellings.0;
      },
      live_of_parts heap (taken ++ s.extents) (values_left before s) members (record {
        stored = parts.stored.1;
        rules = parts.rules.1;
        held = all_of_back (HoldsExtent heap) s.extents (extents_of members) parts.held;
        apart = apart;
        spellings = parts.spellings.1;
      }),
    )

pub parts_of_live : (heap : List ℕ) (taken : List Extent) (before : Key → Option Value) (members : List StoredMember) → AreDistinct taken
    → AreLive heap taken before members → LiveParts heap taken before members
parts_of_live heap taken before [] distinct live =
    record { stored = tt; rules = tt; held = tt; apart = subst AreDistinct (sym (append-nil taken)) distinct; spellings = tt }
parts_of_live heap taken before (s ∷ members) distinct live =
    let rest = parts_of_live heap (taken ++ s.extents) (values_left before s) members (live.0).apart live.1 in
    record {
      stored = ((live.0).stored, rest.stored);
      rules = ((live.0).rules, rest.rules);
      held = AllByRecursion-append (HoldsExtent heap) s.extents (extents_of members) (live.0).held rest.held;
      apart = rw (← append_assoc taken s.extents (extents_of members)) rest.apart;
      spellings = ((live.0).spellings, rest.spellings);
    }

-- the values that members leave
unfoldable pub values_behind : (Key → Option Value) → List StoredMember → Key → Option Value
values_behind before members = applied before (commits_from before (map (λ s. s.member) members))

-- one member more
pub live_more : (heap : List ℕ) (taken : List Extent) (before : Key → Option Value) (members : List StoredMember) (s : StoredMember)
    → AreLive heap taken before members
    → IsLiveMember heap (taken ++ extents_of members) (values_behind before members) s → AreLive heap taken before (members ++ s ∷ [])
unfolding values_behind
live_more heap taken before [] s live is = (subst (λ (es : List Extent). IsLiveMember heap es before s) (append-nil taken) is, tt)
live_more heap taken before (m ∷ members) s live is = (
  live.0,
  live_more heap (taken ++ m.extents) (values_left before m) members s live.1
      (subst (λ (es : List Extent). IsLiveMember heap es (applied (values_left before m) (commits_from (values_left before m) (map (λ x. x.member) members))) s)
      (sym (append_assoc taken m.extents (extents_of members))) is),
)

-- where the first of the others fails, it is the first that fails of all
pub fails_behind : (heap : List ℕ) (taken : List Extent) (before : Key → Option Value) (members : List StoredMember) (entries : List Entry) (place : ℕ)
    → AreLive heap taken before members
    → FailsAt heap (taken ++ extents_of members) (values_behind before members) entries place
    → FailsAt heap taken before (map (λ s. s.entry) members ++ entries) place
unfolding values_behind
fails_behind heap taken before [] entries place live fails = subst (λ (es : List Extent). FailsAt heap es before entries place) (append-nil taken) fails
fails_behind heap taken before (m ∷ members) entries place live fails =
    inr (
      m,
      refl,
      live.0,
      fails_behind heap (taken ++ m.extents) (values_left before m) members entries place live.1
          (subst (λ (es : List Extent). FailsAt heap es (applied (values_left before m) (commits_from (values_left before m) (map (λ x. x.member) members)))
          entries place) (sym (append_assoc taken m.extents (extents_of members))) fails),
    )
