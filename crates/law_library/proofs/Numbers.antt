-- What numbers name, and the places of a list of calls.
use Rattle.std.proofs.Common.{◌≡◌, ◌≢◌, ◌<◌, ◌==◌, ℕ, zero, suc, true, false, List, [], ◌∷◌, ◌++◌, length, Some, None, refl, sym, ◌∙◌, ap, inl, inr, arith}
use Rattle.std.specs.Prelude.{slice_get, slice_set, if◌then◌else◌}
use Rattle.std.proofs.lemmas.Bool.{cases_eq, eq-eqb, ne_eqb}
use Rattle.run.specs.declared.held.Held.{Held}
use Rattle.run.specs.declared.held.Held.TheVariants as held
use Rattle.run.proofs.Lists.{get-within, get-set_same}
use Rattle.snapshot.specs.Txn.{TxnValue}
use Rattle.group.specs.Tickets.{TicketValue}
use Rattle.timequery.specs.View.{ViewValue}
use Rattle.c_engine.specs.Held.{named, IsKept, Names, transaction_in, ticket_in, view_in}
use Rattle.c_engine.specs.declared.places.Held as engine
use Rattle.c_engine.specs.declared.places.Held.TheVariants.{Nothing, Transaction, Ticket, View}
use Rattle.c_engine.specs.declared.places.Places.{Places}
use Rattle.law_library.specs.Moments.{Holds, held_as}

get-other : (xs : List Held) (i j : ℕ) (x z : Held) → j ≢ i → slice_get xs j ≡ Some x → slice_get (slice_set xs i z) j ≡ Some x
get-other [] i j x z apart at = absurd cc
get-other (y ∷ ys) zero zero x z apart at = absurd (apart refl)
get-other (y ∷ ys) zero (suc j) x z apart at = at
get-other (y ∷ ys) (suc i) zero x z apart at = at
get-other (y ∷ ys) (suc i) (suc j) x z apart at = get-other ys i j x z (λ e. apart (ap suc e)) at

get-end : (xs : List Held) (t : Held) → slice_get (xs ++ t ∷ []) (length xs) ≡ Some t
get-end [] t = refl
get-end (x ∷ xs) t = get-end xs t

get-front : (xs : List Held) (i : ℕ) (x t : Held) → slice_get xs i ≡ Some x → slice_get (xs ++ t ∷ []) i ≡ Some x
get-front [] i x t at = absurd cc
get-front (y ∷ ys) zero x t at = at
get-front (y ∷ ys) (suc i) x t at = get-front ys i x t at

-- one more place changes nothing
pub pushed : (places : Places) (xs : List Held) (at : ℕ → ℕ) (w : Held) → Holds places xs at → Holds places (xs ++ w ∷ []) at
pushed places xs at w h = record { same = λ n x e. get-front xs (at n) x w (h.same n x e); once = h.once }

-- each number names what it did
pub same-numbers : (old new : Places) (xs : List Held) (at : ℕ → ℕ) → ((n : ℕ) → named new n ≡ named old n) → Holds old xs at → Holds new xs at
same-numbers old new xs at names h = record {
  same = λ n x e. h.same n x (ap held_as (sym (names n)) ∙ e);
  once = λ n m x y en em e. h.once n m x y (ap held_as (sym (names n)) ∙ en) (ap held_as (sym (names m)) ∙ em) e;
}

-- what a number names once another one does
pub named-other : (n m : ℕ) (x : engine.Held) (old new : Places) → Names n x old new → m ≢ n → named new m ≡ named old m
named-other n m x old new names other = let no' : (m == n) ≡ false = ne_eqb m n other in names m ∙ rw no' refl

pub named-it : (n : ℕ) (x : engine.Held) (old new : Places) → Names n x old new → named new n ≡ x
named-it n x old new names = let yes' : (n == n) ≡ true = eq-eqb n n refl in names n ∙ rw yes' refl

-- ---- taken

module _ (n : ℕ) (old new : Places) (xs : List Held) (at : ℕ → ℕ) (x : Held) (z : Held) (names : Names n Nothing old new)
    (some : held_as (named old n) ≡ Some x) (h : Holds old xs at) where
  is-other : (m : ℕ) (y : Held) → held_as (named new m) ≡ Some y → m ≢ n
  is-other m y e same = let none : held_as (named new n) ≡ None = ap held_as (named-it n Nothing old new names) in let both : None ≡ Some y = sym none
      ∙ ap (λ (k : ℕ). held_as (named new k)) (sym same) ∙ e in absurd cc

  before : (m : ℕ) (y : Held) → held_as (named new m) ≡ Some y → held_as (named old m) ≡ Some y
  before m y e = ap held_as (sym (named-other n m Nothing old new names (is-other m y e))) ∙ e

  pub taken : Holds new (slice_set xs (at n) z) at
  taken = record {
    same = λ m y e. get-other xs (at n) (at m) y z (λ is. is-other m y e (h.once m n y x (before m y e) some is)) (h.same m y (before m y e));
    once = λ m k y w em ek is. h.once m k y w (before m y em) (before k w ek) is;
  }

-- ---- kept

abbrev pub placed : ℕ → ℕ → (ℕ → ℕ) → ℕ → ℕ
placed n i at m = if m == n then i else at m

placed-it : (n i : ℕ) (at : ℕ → ℕ) (m : ℕ) → m ≡ n → placed n i at m ≡ i
placed-it n i at m same = let yes' : (m == n) ≡ true = eq-eqb m n same in rw yes' refl

placed-other : (n i : ℕ) (at : ℕ → ℕ) (m : ℕ) → m ≢ n → placed n i at m ≡ at m
placed-other n i at m other = let no' : (m == n) ≡ false = ne_eqb m n other in rw no' refl

-- a value is put into a place that no number has
module _ (n i : ℕ) (x : engine.Held) (h : Held) (old new : Places) (xs ys : List Held) (at : ℕ → ℕ) (is : held_as x ≡ Some h) (names : Names n x old new)
    (here : slice_get ys i ≡ Some h)
    (apart : (m : ℕ) (y : Held) → held_as (named old m) ≡ Some y → slice_get ys (at m) ≡ Some y × (at m ≢ i))
    (once : (m k : ℕ) (y z : Held) → held_as (named old m) ≡ Some y → held_as (named old k) ≡ Some z → at m ≡ at k → m ≡ k) where
  was : (m : ℕ) (y : Held) → m ≢ n → held_as (named new m) ≡ Some y → held_as (named old m) ≡ Some y
  was m y other e = ap held_as (sym (named-other n m x old new names other)) ∙ e

  put-same : (m : ℕ) (y : Held) → held_as (named new m) ≡ Some y → slice_get ys (placed n i at m) ≡ Some y
  put-same m y e = elim (cases_eq m n) [
    | inl same ↦
        let it : held_as x ≡ Some y = ap held_as (sym (named-it n x old new names)) ∙ ap (λ (k : ℕ). held_as (named new k)) (sym same) ∙ e in
        ap (λ (k : ℕ). slice_get ys k) (placed-it n i at m same) ∙ here ∙ sym is ∙ it
    | inr other ↦ ap (λ (k : ℕ). slice_get ys k) (placed-other n i at m other) ∙ (apart m y (was m y other e)).0
  ]

  put-once : (m k : ℕ) (y z : Held) → held_as (named new m) ≡ Some y → held_as (named new k) ≡ Some z → placed n i at m ≡ placed n i at k → m ≡ k
  put-once m k y z em ek e = elim (cases_eq m n) [
    | inl same ↦ elim (cases_eq k n) [
      | inl too ↦ same ∙ sym too
      | inr other ↦ absurd ((apart k z (was k z other ek)).1 (sym (placed-other n i at k other) ∙ sym e ∙ placed-it n i at m same))
    ]
    | inr other ↦ elim (cases_eq k n) [
      | inl too ↦ absurd ((apart m y (was m y other em)).1 (sym (placed-other n i at m other) ∙ e ∙ placed-it n i at k too))
      | inr others ↦ once m k y z (was m y other em) (was k z others ek) (sym (placed-other n i at m other) ∙ e ∙ placed-other n i at k others)
    ]
  ]

  pub put : Holds new ys (placed n i at)
  put = record { same = put-same; once = put-once }

-- it is put behind all others
pub kept : (n : ℕ) (x : engine.Held) (h : Held) (old new : Places) (xs : List Held) (at : ℕ → ℕ) → held_as x ≡ Some h → IsKept x n old new → Holds old xs at
    → Holds new (xs ++ h ∷ []) (placed n (length xs) at)
kept n x h old new xs at is k holds =
    put n (length xs) x h old new xs (xs ++ h ∷ []) at is k.names (get-end xs h)
    (λ m y e. (
      get-front xs (at m) y h (holds.same m y e),
      λ same. let within : at m < length xs =
          get-within xs (at m) y (holds.same m y e) in omega (arith, within, same),
    )) holds.once

-- what was taken under one number is put back under another, into its own place
pub put-back : (n n' : ℕ) (x : engine.Held) (y h : Held) (old mid new : Places) (xs : List Held) (at : ℕ → ℕ) → held_as x ≡ Some h
    → held_as (named old n) ≡ Some y → Names n Nothing old mid → IsKept x n' mid new → Holds old xs at
    → Holds new (slice_set xs (at n) h) (placed n' (at n) at)
put-back n n' x y h old mid new xs at is some names k holds =
    let out = taken n old mid xs at y h names some holds in
    put n' (at n) x h mid new xs (slice_set xs (at n) h) at is k.names (get-set_same xs (at n) y h (holds.same n y some))
    (λ m z e. (
      out.same m z e,
      λ same. is-other n old mid xs at y h names some holds m z e
          (holds.once m n z y (before n old mid xs at y h names some holds m z e) some same),
    )) out.once

-- ---- written

-- the value of a number is replaced
pub rewritten : (n : ℕ) (x : engine.Held) (y h : Held) (old new : Places) (xs : List Held) (at : ℕ → ℕ) → held_as x ≡ Some h → held_as (named old n) ≡ Some y
    → Names n x old new → Holds old xs at → Holds new (slice_set xs (at n) h) at
rewritten n x y h old new xs at is some names holds = record {
  same = λ m z e. elim (cases_eq m n) [
    | inl same ↦
        let it : held_as x ≡ Some z = ap held_as (sym (named-it n x old new names)) ∙ ap (λ (k : ℕ). held_as (named new k)) (sym same) ∙ e in
        ap (λ (k : ℕ). slice_get (slice_set xs (at n) h) (at k)) same ∙ get-set_same xs (at n) y h (holds.same n y some) ∙ sym is ∙ it
    | inr other ↦
        let was : held_as (named old m) ≡ Some z = ap held_as (sym (named-other n m x old new names other)) ∙ e in
        get-other xs (at n) (at m) z h (λ k. other (holds.once m n z y was some k)) (holds.same m z was)
  ];
  once = λ m k z w em ek e. holds.once m k (named-was m z em).0 (named-was k w ek).0 (named-was m z em).1 (named-was k w ek).1 e;
}
  where
    named-was : (m : ℕ) (z : Held) → held_as (named new m) ≡ Some z → (w : Held) × (held_as (named old m) ≡ Some w)
    named-was m z e = elim (cases_eq m n) [
      | inl same ↦ (y, ap (λ (k : ℕ). held_as (named old k)) same ∙ some)
      | inr other ↦ (z, ap held_as (sym (named-other n m x old new names other)) ∙ e)
    ]

-- ---- what a number names, as a place holds it

pub as-transaction : (x : engine.Held) (t : TxnValue) → transaction_in x ≡ Some t → held_as x ≡ Some (held.Transaction t)
as-transaction Nothing t e = absurd cc
as-transaction (Transaction u) t e = let same : u ≡ t = cc in ap (λ (v : TxnValue). Some (held.Transaction v)) same
as-transaction (Ticket u) t e = absurd cc
as-transaction (View u) t e = absurd cc

pub as-ticket : (x : engine.Held) (t : TicketValue) → ticket_in x ≡ Some t → held_as x ≡ Some (held.Ticket t)
as-ticket Nothing t e = absurd cc
as-ticket (Transaction u) t e = absurd cc
as-ticket (Ticket u) t e = let same : u ≡ t = cc in ap (λ (v : TicketValue). Some (held.Ticket v)) same
as-ticket (View u) t e = absurd cc

pub as-view : (x : engine.Held) (t : ViewValue) → view_in x ≡ Some t → held_as x ≡ Some (held.View t)
as-view Nothing t e = absurd cc
as-view (Transaction u) t e = absurd cc
as-view (Ticket u) t e = absurd cc
as-view (View u) t e = let same : u ≡ t = cc in ap (λ (v : ViewValue). Some (held.View v)) same
