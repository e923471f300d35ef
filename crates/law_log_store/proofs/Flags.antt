-- The extents that a chain or a base takes, each the least free one, and the flags behind them.
use Rattle.std.proofs.Common.{◌≡◌, ◌≢◌, ℕ, ◌-◌, ◌<◌, ◌≤◌, ◌↔◌, Bool, true, false, List, [], ◌∷◌, ◌++◌, length, get_or, slice_set, refl, arith, sym, subst, ◌∙◌}
use Rattle.std.proofs.Common.{inl, inr}
use Rattle.std.specs.List.{AllByRecursion}
use Rattle.std.proofs.lemmas.Bool.{cases_lt}
use Rattle.std.proofs.lemmas.List.{get_or_past, get_or-set_other, length-set}
use Rattle.std.proofs.lemmas.Grind.{get_or-set_at}
use Rattle.history.proofs.Filters.{AllByRecursion-append}
use Rattle.log_extents.specs.Chains.{IsNumberOf, IsNew, AreDistinct, first_or}
use Rattle.log_space.specs.Uses.{IsFree, with_use, all_used}
use Rattle.log_room.specs.Rooms.{AreLeastFree}
use Rattle.law_log_layout.specs.HeapLog.{HeapLog, live_numbers}
use Rattle.law_log_layout.proofs.Places.{new-front, new-back}

-- ---- one extent more

used-now : (used : List Bool) (place : ℕ) → get_or (slice_set used place true) place true ≡ true
used-now used place = elim (cases_lt place (length used)) [
  | inl lt ↦ get_or-set_at used place place true true refl lt
  | inr past ↦ get_or_past (slice_set used place true) place true (omega (arith, length-set used place true))
]

places-apart : (n m : ℕ) → 0 < n → 0 < m → n ≢ m → m - 1 ≢ n - 1
places-apart n m low low' apart same = apart (omega (arith, same, low, low'))

free-one : (used : List Bool) (n m : ℕ) → 0 < n → IsFree (with_use used n true) m → IsFree used m × (n ≢ m)
free-one used n m low free = (
  record {
    low = free.low;
    high = subst (λ (len : ℕ). m ≤ len) (length-set used (n - 1) true) free.high;
    is = sym (get_or-set_other used (n - 1) (m - 1) true true (places-apart n m low free.low apart)) ∙ free.is;
  },
  apart,
)
  where
    apart : n ≢ m
    apart same =
        let there = subst (λ (k : ℕ). get_or (slice_set used (n - 1) true) (k - 1) true ≡ false) (sym same) free.is in
        let no : true ≡ false = sym (used-now used (n - 1)) ∙ there in cc

free-still : (used : List Bool) (n m : ℕ) → 0 < n → IsFree used m → n ≢ m → IsFree (with_use used n true) m
free-still used n m low free apart = record {
  low = free.low;
  high = subst (λ (len : ℕ). m ≤ len) (sym (length-set used (n - 1) true)) free.high;
  is = get_or-set_other used (n - 1) (m - 1) true true (places-apart n m low free.low apart) ∙ free.is;
}

-- ---- and many more

abbrev pub AreLow : List ℕ → Type 0
AreLow ns = AllByRecursion (λ (n : ℕ). 0 < n) ns

pub free-before : (used : List Bool) (ns : List ℕ) (m : ℕ) → AreLow ns → IsFree (all_used used ns) m → IsFree used m × IsNew m ns
free-before used [] m low free = (free, tt)
free-before used (n ∷ ns) m low free =
    let rest = free-before (with_use used n true) ns m low.1 free in
    let one = free-one used n m low.0 rest.0 in
    (one.0, (one.1, rest.1))

pub free-behind : (used : List Bool) (ns : List ℕ) (m : ℕ) → AreLow ns → IsFree used m → IsNew m ns → IsFree (all_used used ns) m
free-behind used [] m low free new = free
free-behind used (n ∷ ns) m low free new = free-behind (with_use used n true) ns m low.1 (free-still used n m low.0 free new.0) new.1

pub all-used-length : (used : List Bool) (ns : List ℕ) → length (all_used used ns) ≡ length used
all-used-length used [] = refl
all-used-length used (n ∷ ns) = all-used-length (with_use used n true) ns ∙ length-set used (n - 1) true

-- ---- each the least free one

pub least-are : (used : List Bool) (ns : List ℕ) → AreLeastFree used ns → AllByRecursion (IsFree used) ns × AreDistinct ns
least-are used [] least = (tt, tt)
least-are used (n ∷ ns) least =
    let rest = least-are (with_use used n true) ns least.1 in
    let both = go ns rest.0 in
    (((least.0).free, both.0), (both.1, rest.1))
  where
    go : (ms : List ℕ) → AllByRecursion (IsFree (with_use used n true)) ms → AllByRecursion (IsFree used) ms × IsNew n ms
    go [] all = (tt, tt)
    go (m ∷ ms) all =
        let one = free-one used n m (least.0).free.low all.0 in
        let rest = go ms all.1 in
        ((one.0, rest.0), ((λ same. one.1 (sym same)), rest.1))

pub are-low : (used : List Bool) (ns : List ℕ) → AllByRecursion (IsFree used) ns → AreLow ns
are-low used [] all = tt
are-low used (n ∷ ns) all = ((all.0).low, are-low used ns all.1)

-- ---- numbers

pub distinct-join : (xs ys : List ℕ) → AreDistinct xs → AreDistinct ys → AllByRecursion (λ (y : ℕ). IsNew y xs) ys → AreDistinct (xs ++ ys)
distinct-join [] ys first second new = second
distinct-join (x ∷ xs) ys first second new =
    (AllByRecursion-append (λ (n : ℕ). n ≢ x) xs ys first.0 (heads ys new), distinct-join xs ys first.1 second (tails ys new))
  where
    heads : (zs : List ℕ) → AllByRecursion (λ (y : ℕ). IsNew y (x ∷ xs)) zs → IsNew x zs
    heads [] all = tt
    heads (z ∷ zs) all = ((λ same. (all.0).0 (sym same)), heads zs all.1)

    tails : (zs : List ℕ) → AllByRecursion (λ (y : ℕ). IsNew y (x ∷ xs)) zs → AllByRecursion (λ (y : ℕ). IsNew y xs) zs
    tails [] all = tt
    tails (z ∷ zs) all = ((all.0).1, tails zs all.1)

distinct-front : (xs : List ℕ) (y : ℕ) → AreDistinct (xs ++ y ∷ []) → AreDistinct xs × IsNew y xs
distinct-front [] y all = (tt, tt)
distinct-front (x ∷ xs) y all =
    let rest = distinct-front xs y all.1 in
    let last = new-back x xs (y ∷ []) all.0 in
    ((new-front x xs (y ∷ []) all.0, rest.0), ((λ same. last.0 (sym same)), rest.1))

all-front : (P : ℕ → Type 0) (xs : List ℕ) (y : ℕ) → AllByRecursion P (xs ++ y ∷ []) → AllByRecursion P xs × P y
all-front P [] y all = (tt, all.0)
all-front P (x ∷ xs) y all = let rest = all-front P xs y all.1 in ((all.0, rest.0), rest.1)

pub all-mapped : (P Q : ℕ → Type 0) (xs : List ℕ) → ((x : ℕ) → P x → Q x) → AllByRecursion P xs → AllByRecursion Q xs
all-mapped P Q [] f all = tt
all-mapped P Q (x ∷ xs) f all = (f x all.0, all-mapped P Q xs f all.1)

-- ---- a chain's extents

-- A chain that begins where the log ends lies in these extents, and the log then ends at a free one. None of them is taken for a base.
pub record IsTaken (most : ℕ) (l : HeapLog) (base numbers : List ℕ) (link : ℕ) (used : List Bool) : Type 0 where
  pub some : 0 < length numbers
  pub in_range : AllByRecursion (IsNumberOf most) numbers
  pub link_is : IsNumberOf most link
  pub head : first_or 0 numbers ≡ l.next
  pub apart : AreDistinct (link ∷ live_numbers l ++ numbers)
  pub beside : AreDistinct (base ++ link ∷ numbers)
  pub many : length used ≡ most
  pub free : (number : ℕ) → IsFree used number ↔ (IsNumberOf most number × IsNew number (base ++ (link ∷ live_numbers l ++ numbers)))

pub is-taken : (most : ℕ) (l : HeapLog) (base : List ℕ) (used : List Bool) (others : List ℕ) (link : ℕ) → length used ≡ most → IsNumberOf most l.next
    → AreDistinct (l.next ∷ live_numbers l) → AreDistinct base × IsNew l.next base
    → ((number : ℕ) → IsFree used number ↔ (IsNumberOf most number × IsNew number (base ++ l.next ∷ live_numbers l))) → AreLeastFree used (others ++ link ∷ [])
    → IsTaken most l base (l.next ∷ others) link (all_used used (others ++ link ∷ []))
is-taken most l base used others link many next distinct own free least = record {
  some = omega arith;
  in_range = (next, all-mapped (IsFree used) (IsNumberOf most) others (λ m f. (facts m f).0) split.0);
  link_is = (facts link split.1).0;
  head = refl;
  apart = (
    AllByRecursion-append (λ (n : ℕ). n ≢ link) live (l.next ∷ others) ((facts link split.1).1).1 (((facts link split.1).1).0, parts.1),
    distinct-join live (l.next ∷ others) distinct.1 (news others split.0, parts.0)
        (distinct.0, all-mapped (IsFree used) (λ (m : ℕ). IsNew m live) others (λ m f. ((facts m f).1).1) split.0),
  );
  beside = distinct-join base (link ∷ l.next ∷ others) own.0 ((((facts link split.1).1).0, parts.1), (news others split.0, parts.0))
      (beside-base link split.1, (own.1, all-mapped (IsFree used) (λ (m : ℕ). IsNew m base) others (λ m f. beside-base m f) split.0));
  many = all-used-length used taken ∙ many;
  free = λ m. (
    λ f.
        let before = free-before used taken m low f in
        let known = facts m before.0 in
        let last = new-back m others (link ∷ []) before.1 in (
          known.0,
          AllByRecursion-append (λ (n : ℕ). n ≢ m) base (link ∷ live ++ l.next ∷ others) (beside-base m before.0)
              (last.0, AllByRecursion-append (λ (n : ℕ). n ≢ m) live (l.next ∷ others) (known.1).1 ((known.1).0, new-front m others (link ∷ []) before.1)),
        ),
    λ is.
        let mine = new-front m base (link ∷ live ++ l.next ∷ others) is.1 in
        let rest = new-back m base (link ∷ live ++ l.next ∷ others) is.1 in
        let first = new-front m live (l.next ∷ others) rest.1 in
        let second = new-back m live (l.next ∷ others) rest.1 in
        free-behind used taken m low
        ((free m).1 (is.0, AllByRecursion-append (λ (n : ℕ). n ≢ m) base (l.next ∷ live) mine (second.0, first)))
        (AllByRecursion-append (λ (n : ℕ). n ≢ m) others (link ∷ []) second.1 (rest.0, tt)),
  );
}
  where
    taken : List ℕ
    taken = others ++ link ∷ []

    live : List ℕ
    live = live_numbers l

    both : AllByRecursion (IsFree used) taken × AreDistinct taken
    both = least-are used taken least

    low : AreLow taken
    low = are-low used taken both.0

    split : AllByRecursion (IsFree used) others × IsFree used link
    split = all-front (IsFree used) others link both.0

    parts : AreDistinct others × IsNew link others
    parts = distinct-front others link both.1

    facts : (m : ℕ) → IsFree used m → IsNumberOf most m × IsNew m (l.next ∷ live)
    facts m f = let known = (free m).0 f in (known.0, new-back m base (l.next ∷ live) known.1)

    beside-base : (m : ℕ) → IsFree used m → IsNew m base
    beside-base m f = let known = (free m).0 f in new-front m base (l.next ∷ live) known.1

    news : (ms : List ℕ) → AllByRecursion (IsFree used) ms → IsNew l.next ms
    news [] all = tt
    news (m ∷ ms) all = ((λ same. ((facts m all.0).1).0 (sym same)), news ms all.1)
