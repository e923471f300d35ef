-- Values of some places, in another order: what they stand for stays.
use Rattle.std.proofs.Common.{◌≡◌, ◌≢◌, ℕ, zero, suc, List, [], ◌∷◌, ◌++◌, length, map, Some, refl, sym, ap, subst, arith}
use Rattle.std.specs.Prelude.{slice_get, slice_set}
use Rattle.history.specs.Histories.{History}
use Rattle.law_image.specs.Values.{Value}
use Rattle.commits.specs.Values.{CommitsValue}
use Rattle.run.specs.declared.held.Held.{Held}
use Rattle.run.specs.declared.held.Held.TheVariants as held
use Rattle.run.specs.Places.{Place, place_at, HasNoView, ShowsAs, ArePlaces}
use Rattle.run.proofs.Places.{own_transaction, own_ticket}
use Rattle.law_script.specs.ScriptMoments.{place_of}

-- each of the one list is an own one of the other
pub record Among (ys xs : List Held) : Type 0 where
  pub at : ℕ → ℕ
  pub once : (i j : ℕ) (a b : Held) → slice_get ys i ≡ Some a → slice_get ys j ≡ Some b → at i ≡ at j → i ≡ j
  pub same : (j : ℕ) (y : Held) → slice_get ys j ≡ Some y → slice_get xs (at j) ≡ Some y

pub all : (xs : List Held) → Among xs xs
all xs = record { at = λ i. i; once = λ i j a b at_i at_j e. e; same = λ j y e. e }

pub none : (xs : List Held) → Among [] xs
none xs = record { at = λ i. i; once = λ i j a b at_i at_j e. e; same = λ j y e. absurd cc }

pub through : (zs ys xs : List Held) → Among zs ys → Among ys xs → Among zs xs
through zs ys xs p q = record {
  at = λ i. q.at (p.at i);
  once = λ i j a b at_i at_j e. p.once i j a b at_i at_j (q.once (p.at i) (p.at j) a b (p.same i a at_i) (p.same j b at_j) e);
  same = λ j y e. q.same (p.at j) y (p.same j y e);
}

abbrev shifted : (ℕ → ℕ) → ℕ → ℕ
shifted f zero = zero
shifted f (suc i) = suc (f i)

pub keep : (x : Held) (ys xs : List Held) → Among ys xs → Among (x ∷ ys) (x ∷ xs)
keep x ys xs p = record { at = shifted p.at; once = once; same = same }
  where
    once : (i j : ℕ) (a b : Held) → slice_get (x ∷ ys) i ≡ Some a → slice_get (x ∷ ys) j ≡ Some b → shifted p.at i ≡ shifted p.at j → i ≡ j
    once zero zero a b at_i at_j e = refl
    once zero (suc j) a b at_i at_j e = absurd (omega (arith, e))
    once (suc i) zero a b at_i at_j e = absurd (omega (arith, e))
    once (suc i) (suc j) a b at_i at_j e = ap suc (p.once i j a b at_i at_j (omega (arith, e)))

    same : (j : ℕ) (y : Held) → slice_get (x ∷ ys) j ≡ Some y → slice_get (x ∷ xs) (shifted p.at j) ≡ Some y
    same zero y e = e
    same (suc j) y e = p.same j y e

pub skip : (x : Held) (ys xs : List Held) → Among ys xs → Among ys (x ∷ xs)
skip x ys xs p = record { at = λ i. suc (p.at i); once = λ i j a b at_i at_j e. p.once i j a b at_i at_j (omega (arith, e)); same = λ j y e. p.same j y e }

abbrev swapped : ℕ → ℕ
swapped zero = 1
swapped (suc zero) = 0
swapped (suc (suc i)) = suc (suc i)

pub swap : (x y : Held) (xs : List Held) → Among (x ∷ y ∷ xs) (y ∷ x ∷ xs)
swap x y xs = record { at = swapped; once = λ i j a b at_i at_j e. once i j e; same = same }
  where
    once : (i j : ℕ) → swapped i ≡ swapped j → i ≡ j
    once zero zero e = refl
    once zero (suc zero) e = absurd (omega (arith, e))
    once zero (suc (suc j)) e = absurd (omega (arith, e))
    once (suc zero) zero e = absurd (omega (arith, e))
    once (suc zero) (suc zero) e = refl
    once (suc zero) (suc (suc j)) e = absurd (omega (arith, e))
    once (suc (suc i)) zero e = absurd (omega (arith, e))
    once (suc (suc i)) (suc zero) e = absurd (omega (arith, e))
    once (suc (suc i)) (suc (suc j)) e = e

    same : (j : ℕ) (z : Held) → slice_get (x ∷ y ∷ xs) j ≡ Some z → slice_get (y ∷ x ∷ xs) (swapped j) ≡ Some z
    same zero z e = e
    same (suc zero) z e = e
    same (suc (suc j)) z e = e

-- ---- lists that grow

pub front-of : (xs zs : List Held) → Among xs (xs ++ zs)
front-of [] zs = none zs
front-of (x ∷ xs) zs = keep x xs (xs ++ zs) (front-of xs zs)

pub wider : (ys xs zs : List Held) → Among ys xs → Among ys (xs ++ zs)
wider ys xs zs p = through ys xs (xs ++ zs) p (front-of xs zs)

pub after : (ts ys xs : List Held) → Among ys xs → Among (ts ++ ys) (ts ++ xs)
after [] ys xs p = p
after (t ∷ ts) ys xs p = keep t (ts ++ ys) (ts ++ xs) (after ts ys xs p)

-- the first one becomes the last, and back
pub to-end : (t : Held) (xs : List Held) → Among (t ∷ xs) (xs ++ t ∷ [])
to-end t [] = all (t ∷ [])
to-end t (z ∷ xs) = through (t ∷ z ∷ xs) (z ∷ t ∷ xs) (z ∷ xs ++ t ∷ []) (swap t z xs) (keep z (t ∷ xs) (xs ++ t ∷ []) (to-end t xs))

pub from-end : (t : Held) (xs : List Held) → Among (xs ++ t ∷ []) (t ∷ xs)
from-end t [] = all (t ∷ [])
from-end t (z ∷ xs) = through (z ∷ xs ++ t ∷ []) (z ∷ t ∷ xs) (t ∷ z ∷ xs) (keep z (xs ++ t ∷ []) (t ∷ xs) (from-end t xs)) (swap z t xs)

pub pushed : (t : Held) (ys xs : List Held) → Among ys xs → Among (ys ++ t ∷ []) (xs ++ t ∷ [])
pushed t ys xs p = through (ys ++ t ∷ []) (t ∷ ys) (xs ++ t ∷ []) (from-end t ys) (through (t ∷ ys) (t ∷ xs) (xs ++ t ∷ []) (keep t ys xs p) (to-end t xs))

-- what a query by a view leaves in the places
pub viewed : (xs : List Held) (a b c d : Held) → Among xs (slice_set ((xs ++ a ∷ []) ++ b ∷ []) (length xs) c ++ d ∷ [])
viewed [] a b c d = none _
viewed (x ∷ xs) a b c d = keep x xs _ (viewed xs a b c d)

pub get-end : (xs : List Held) (t : Held) → slice_get (xs ++ t ∷ []) (length xs) ≡ Some t
get-end [] t = refl
get-end (x ∷ xs) t = get-end xs t

pub get-front : (xs : List Held) (i : ℕ) (x t : Held) → slice_get xs i ≡ Some x → slice_get (xs ++ t ∷ []) i ≡ Some x
get-front [] i x t at = absurd cc
get-front (y ∷ ys) zero x t at = at
get-front (y ∷ ys) (suc i) x t at = get-front ys i x t at

get-other : (xs : List Held) (i j : ℕ) (x z : Held) → j ≢ i → slice_get xs j ≡ Some x → slice_get (slice_set xs i z) j ≡ Some x
get-other [] i j x z apart at = absurd cc
get-other (y ∷ ys) zero zero x z apart at = absurd (apart refl)
get-other (y ∷ ys) zero (suc j) x z apart at = at
get-other (y ∷ ys) (suc i) zero x z apart at = at
get-other (y ∷ ys) (suc i) (suc j) x z apart at = get-other ys i j x z (λ e. apart (ap suc e)) at

-- the first one's place is spent
pub spent-first : (y : Held) (ys xs : List Held) (z w : Held) (p : Among (y ∷ ys) xs) → Among ys (slice_set xs (p.at 0) z ++ w ∷ [])
spent-first y ys xs z w p = record {
  at = λ j. p.at (suc j);
  once = λ i j a b at_i at_j e. let same = p.once (suc i) (suc j) a b at_i at_j e in omega (arith, same);
  same = λ j x e.
      let apart : p.at (suc j) ≢ p.at 0 = λ is. let same = p.once (suc j) 0 x y e refl is in absurd (omega (arith, same)) in
      get-front (slice_set xs (p.at 0) z) (p.at (suc j)) x w (get-other xs (p.at 0) (p.at (suc j)) x z apart (p.same (suc j) x e));
}

-- ---- places

place-of-at : (ys : List Held) (i : ℕ) (x : Held) → slice_get ys i ≡ Some x → place_at (map place_of ys) i ≡ place_of x
place-of-at [] i x at = absurd cc
place-of-at (y ∷ ys) zero x at = let same : y ≡ x = cc in ap place_of same
place-of-at (y ∷ ys) (suc i) x at = place-of-at ys i x at

places-length : (ys : List Held) → length ys ≡ length (map place_of ys)
places-length [] = refl
places-length (y ∷ ys) = ap suc (places-length ys)

-- a place other than a view's is told by what it holds
shows-own : (v : CommitsValue) (h : History Value) (x : Held) (p : Place) → HasNoView (Some x) → ShowsAs v h x p → ShowsAs v h x (place_of x)
shows-own v h held.Nothing p no_view shows = tt
shows-own v h (held.Transaction t) p no_view shows = (own_transaction v h t p shows, refl, refl)
shows-own v h (held.Ticket k) p no_view shows = (own_ticket v h k p shows, refl)
shows-own v h (held.View w) p no_view shows = absurd no_view

pub renumbered : (v : CommitsValue) (h : History Value) (xs : List Held) (ps : List Place) (ys : List Held)
    → ((j : ℕ) (y : Held) → slice_get ys j ≡ Some y → HasNoView (Some y)) → Among ys xs → ArePlaces v h xs ps → ArePlaces v h ys (map place_of ys)
renumbered v h xs ps ys no_views among are = record {
  many = places-length ys;
  each = λ i x at. subst (λ (p : Place). ShowsAs v h x p) (sym (place-of-at ys i x at))
      (shows-own v h x (place_at ps (among.at i)) (no_views i x at) (are.each (among.at i) x (among.same i x at)));
  apart = λ i j a b at_i at_j clash. among.once i j a b at_i at_j (are.apart (among.at i) (among.at j) a b (among.same i a at_i) (among.same j b at_j) clash);
}
