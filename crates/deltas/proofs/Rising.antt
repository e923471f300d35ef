-- Keys that rise from each to the next rise strictly.
use Rattle.std.proofs.Common.{◌≡◌, ◌↔◌, ◌<◌, true, List, [], ◌∷◌, length, map, sym, subst, arith}
use Rattle.std.specs.List.{AllByRecursion}
use Rattle.std.specs.List.Sorted.{IsStrictlySortedBy}
use Rattle.std.specs.declared.cmp.Ordering.TheVariants.{Less}
use Rattle.std.proofs.lemmas.Bool.Decides.{nat_tests}
use Rattle.history.specs.declared.key.Key.{Key}
use Rattle.history.specs.Key.{key_cmp, key_lt}
use Rattle.history.proofs.Keys.{key_lt-from_less, key_cmp-from_lt}
use Rattle.deltas.specs.declared.«record».Record.{Record}

-- each key comes after the one before it
abbrev pub RisesAfter : Key → List Record → Type 0
RisesAfter key [] = Unit {0}
RisesAfter key (r ∷ records) = (key_lt key r.key ≡ true) × RisesAfter r.key records

abbrev AreAfter : Key → List Key → Type 0
AreAfter key keys = AllByRecursion (λ other. key_cmp key other ≡ Less) keys

lt-trans : (a b c : Key) → key_lt a b ≡ true → key_lt b c ≡ true → key_lt a c ≡ true
lt-trans a b c ab bc = grind (arith, nat_tests)

after-trans : (a b : Key) (keys : List Key) → key_lt a b ≡ true → AreAfter b keys → AreAfter a keys
after-trans a b [] lt after = tt
after-trans a b (key ∷ keys) lt after = (key_cmp-from_lt a key (lt-trans a b key lt (key_lt-from_less b key after.0)), after-trans a b keys lt after.1)

pub sorted_from_rising : (key : Key) (records : List Record) → RisesAfter key records → IsStrictlySortedBy key_cmp (key ∷ map (λ r. r.key) records)
unfolding IsStrictlySortedBy
sorted_from_rising key [] rises = (tt, tt)
sorted_from_rising key (r ∷ records) rises =
    let rest = sorted_from_rising r.key records rises.1 in
    ((key_cmp-from_lt key r.key rises.0, after-trans key r.key (map (λ x. x.key) records) rises.0 rest.0), rest)

pub rising_from_sorted : (key : Key) (records : List Record) → IsStrictlySortedBy key_cmp (key ∷ map (λ r. r.key) records) → RisesAfter key records
unfolding IsStrictlySortedBy
rising_from_sorted key [] sorted = tt
rising_from_sorted key (r ∷ records) sorted = (key_lt-from_less key r.key sorted.0.0, rising_from_sorted r.key records sorted.1)

pub none_rise : (records : List Record) → length records < 1 → IsStrictlySortedBy key_cmp (map (λ r. r.key) records)
unfolding IsStrictlySortedBy
none_rise [] none = tt
none_rise (r ∷ records) none = absurd (omega (arith, none))

pub first_rises : (records rest : List Record) (first : Record) → records ≡ first ∷ rest
    → RisesAfter first.key rest ↔ IsStrictlySortedBy key_cmp (map (λ r. r.key) records)
first_rises records rest first is = (
  λ rises. subst (λ (l : List Record). IsStrictlySortedBy key_cmp (map (λ r. r.key) l)) (sym is) (sorted_from_rising first.key rest rises),
  λ sorted. rising_from_sorted first.key rest (subst (λ (l : List Record). IsStrictlySortedBy key_cmp (map (λ r. r.key) l)) is sorted),
)
