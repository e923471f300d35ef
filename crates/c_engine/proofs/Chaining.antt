-- The list of free places once one place has changed.
use Rattle.std.specs.Prelude.{ℕ, ◌≡◌, ◌≢◌, ◌<◌, ◌==◌, ◌||◌, List, [], ◌∷◌, ◌++◌, length, nat_lt, slice_get, slice_set, Option, Some, Bool, true, false}
use Rattle.std.proofs.Common.{◌∙◌, sym, ap, refl, arith, ◌⊎◌, inl, inr}
use Rattle.std.proofs.Math.Logic.{∥∥₁_map, ∥∥₁_elim}
use Rattle.std.proofs.Props.{props}
use Rattle.std.proofs.lemmas.Bool.{cases_eq, eq-eqb, ne_eqb, lt-ltb, false≢true}
use Rattle.c_engine.specs.FreePlaces.{is_nothing, holds_nothing, has_free, is_among, IsChain, AreChained, AllTaken}
use Rattle.c_engine.specs.declared.places.Held.{Held}
use Rattle.c_engine.specs.declared.places.Held.TheVariants.{Nothing}
use Rattle.c_engine.specs.declared.places.Place.{Place}
use Rattle.c_engine.proofs.Named.{set_here, set_apart, push_here, push_apart, no_held}

or_true : (b : Bool) → (b || true) ≡ true
or_true true = refl
or_true false = refl

first_among : (x : ℕ) (xs : List ℕ) → is_among x (x ∷ xs) ≡ true
first_among x xs = let yes : (x == x) ≡ true = eq-eqb x x refl in rw yes refl

later_among : (n x : ℕ) (xs : List ℕ) → is_among n xs ≡ true → is_among n (x ∷ xs) ≡ true
later_among n x xs among = rw among (or_true (x == n))

-- one of a list that is not its first one is behind it
behind_first : (n x : ℕ) (xs : List ℕ) → n ≢ x → is_among n (x ∷ xs) ≡ true → is_among n xs ≡ true
behind_first n x xs other among = let no : (x == n) ≡ false = ne_eqb x n (λ e. other (sym e)) in rw no at among

-- where no place of the chain changes, it is a chain still
chain_stays : (old new : List Place) (from : ℕ) (chain : List ℕ) → ((at : ℕ) → is_among at chain ≡ true → slice_get new at ≡ slice_get old at)
    → IsChain old from chain → IsChain new from chain
chain_stays old new from [] same is = is
chain_stays old new from (at ∷ rest) same is =
    let next = is.3 in (
      is.0,
      is.1,
      is.2,
      (next.0, same at (first_among at rest) ∙ next.1, next.2, chain_stays old new next.0.next rest (λ n among. same n (later_among n at rest among)) next.3),
    )

-- each place of a chain holds nothing
chain_is_free : (places : List Place) (from : ℕ) (chain : List ℕ) → IsChain places from chain → (n : ℕ) → is_among n chain ≡ true
    → holds_nothing (slice_get places n) ≡ true
chain_is_free places from [] is n among = absurd (false≢true among)
chain_is_free places from (at ∷ rest) is n among = elim (cases_eq n at) [
  | inl same ↦ ap (λ (i : ℕ). holds_nothing (slice_get places i)) same ∙ ap (λ (o : Option Place). holds_nothing o) is.3.1 ∙ is.3.2
  | inr other ↦ chain_is_free places is.3.0.next rest is.3.3 n (behind_first n at rest other among)
]

cases_true : (b : Bool) → (b ≡ true) ⊎ (b ≡ false)
cases_true true = inl refl
cases_true false = inr refl

not_true : (b : Bool) → (b ≡ true → ⊥) → b ≡ false
not_true b never = elim (cases_true b) [
  | inl is ↦ absurd (never is)
  | inr is ↦ is
]

-- a place that holds something is not of the chain
not_among : (places : List Place) (from : ℕ) (chain : List ℕ) (n : ℕ) → IsChain places from chain → holds_nothing (slice_get places n) ≡ false
    → is_among n chain ≡ false
not_among places from chain n is taken = not_true (is_among n chain) (λ among. false≢true (sym taken ∙ chain_is_free places from chain is n among))

-- ---- what changes

-- a place that is taken stays taken
pub stays_taken : (places : List Place) (free at : ℕ) (p q : Place) → slice_get places at ≡ Some p → is_nothing p.held ≡ false → is_nothing q.held ≡ false
    → ∥ AreChained places free ∥₁ → ∥ AreChained (slice_set places at q) free ∥₁
stays_taken places free at p q here taken stays chained = ∥∥₁_map chained (λ c.
    let out : is_among at c.chain ≡ false = not_among places free c.chain at c.is_chain (ap (λ (o : Option Place). holds_nothing o) here ∙ taken) in
    let apart : (n : ℕ) → is_among n c.chain ≡ true → slice_get (slice_set places at q) n ≡ slice_get places n =
    λ n among. set_apart places at n q (λ e. false≢true (sym (ap (λ (i : ℕ). is_among i c.chain) e ∙ out) ∙ among)) in
    record {
      chain = c.chain;
      is_chain = chain_stays places (slice_set places at q) free c.chain apart c.is_chain;
      all = λ n none. elim (cases_eq n at) [
        | inl same ↦ absurd (false≢true (sym (ap (λ (i : ℕ). holds_nothing (slice_get (slice_set places at q) i)) same
            ∙ ap (λ (o : Option Place). holds_nothing o) (set_here places at p q here) ∙ stays) ∙ none))
        | inr other ↦ c.all n (ap (λ (o : Option Place). holds_nothing o) (sym (set_apart places at n q other)) ∙ none)
      ];
    })

-- a place that held something is the first of the chain from now on
pub becomes_free : (places : List Place) (free at : ℕ) (p q : Place) → slice_get places at ≡ Some p → at < 65536 → is_nothing p.held ≡ false
    → is_nothing q.held ≡ true → q.next ≡ free
    → ∥ AreChained places free ∥₁ → ∥ AreChained (slice_set places at q) at ∥₁
becomes_free places free at p q here low taken none next chained = ∥∥₁_map chained (λ c.
    let out : is_among at c.chain ≡ false = not_among places free c.chain at c.is_chain (ap (λ (o : Option Place). holds_nothing o) here ∙ taken) in
    let apart : (n : ℕ) → is_among n c.chain ≡ true → slice_get (slice_set places at q) n ≡ slice_get places n =
    λ n among. set_apart places at n q (λ e. false≢true (sym (ap (λ (i : ℕ). is_among i c.chain) e ∙ out) ∙ among)) in
    let behind : IsChain (slice_set places at q) free c.chain = chain_stays places (slice_set places at q) free c.chain apart c.is_chain in
    record {
      chain = at ∷ c.chain;
      is_chain = (refl, low, out, (q, set_here places at p q here, none, rw next behind));
      all = λ n empty. elim (cases_eq n at) [
        | inl same ↦ ap (λ (i : ℕ). is_among i (at ∷ c.chain)) same ∙ first_among at c.chain
        | inr other ↦ later_among n at c.chain (c.all n (ap (λ (o : Option Place). holds_nothing o) (sym (set_apart places at n q other)) ∙ empty))
      ];
    })

-- the chain from a place that holds nothing begins there
begins_there : (places : List Place) (at : ℕ) (chain : List ℕ) → IsChain places at chain → at < 65536 → (rest : List ℕ) × (chain ≡ at ∷ rest)
begins_there places at [] is low = absurd (omega (arith, is, low))
begins_there places at (x ∷ rest) is low = (rest, ap (λ (i : ℕ). i ∷ rest) (sym is.0))

-- the first of the chain is taken, and the next one is the first from now on
pub becomes_taken : (places : List Place) (at : ℕ) (p q : Place) → slice_get places at ≡ Some p → at < 65536 → is_nothing q.held ≡ false
    → ∥ AreChained places at ∥₁ → ∥ AreChained (slice_set places at q) p.next ∥₁
becomes_taken places at p q here low taken chained = ∥∥₁_map chained (λ c.
    let first = begins_there places at c.chain c.is_chain low in
    let rest : List ℕ = first.0 in
    let is : IsChain places at (at ∷ rest) = rw first.1 at c.is_chain in
    let same : is.3.0 ≡ p = let both : Some is.3.0 ≡ Some p = sym is.3.1 ∙ here in cc in
    let behind : IsChain places p.next rest = rw same at is.3.3 in
    let apart : (n : ℕ) → is_among n rest ≡ true → slice_get (slice_set places at q) n ≡ slice_get places n =
    λ n among. set_apart places at n q (λ e. false≢true (sym (ap (λ (i : ℕ). is_among i rest) e ∙ is.2) ∙ among)) in
    record {
      chain = rest;
      is_chain = chain_stays places (slice_set places at q) p.next rest apart behind;
      all = λ n empty. elim (cases_eq n at) [
        | inl here_is ↦ absurd (false≢true (sym (ap (λ (i : ℕ). holds_nothing (slice_get (slice_set places at q) i)) here_is
            ∙ ap (λ (o : Option Place). holds_nothing o) (set_here places at p q here) ∙ taken) ∙ empty))
        | inr other ↦
            let among : is_among n c.chain ≡ true = c.all n (ap (λ (o : Option Place). holds_nothing o) (sym (set_apart places at n q other)) ∙ empty) in
            behind_first n at rest other (rw first.1 at among)
      ];
    })

-- where the first place of the chain is not free, none is
none_behind : (places : List Place) (free : ℕ) (chain : List ℕ) → IsChain places free chain → has_free places free ≡ false → chain ≡ []
none_behind places free [] is none = refl
none_behind places free (at ∷ rest) is none =
    let low : nat_lt free 65536 ≡ true = lt-ltb free 65536 (omega (arith, is.0, is.1)) in
    let here : slice_get places free ≡ Some is.3.0 = ap (λ (i : ℕ). slice_get places i) is.0 ∙ is.3.1 in
    let yes : has_free places free ≡ true = rw (low, here) is.3.2 in
    absurd (false≢true (sym none ∙ yes))

-- all places are taken where the first of the chain is not free
pub all_taken : (places : List Place) (free : ℕ) → ∥ AreChained places free ∥₁ → has_free places free ≡ false → AllTaken places
all_taken places free chained none at = ∥∥₁_elim chained (Prim.hlevel props) (λ c.
    let empty : c.chain ≡ [] = none_behind places free c.chain c.is_chain none in
    not_true (holds_nothing (slice_get places at)) (λ nothing. let among : is_among at c.chain ≡ true = c.all at nothing in false≢true (rw empty at among)))

-- one place more, behind all that are taken
pub becomes_more : (places : List Place) (free : ℕ) (q : Place) → length places < 65536 → is_nothing q.held ≡ true → q.next ≡ 65536
    → has_free places free ≡ false → ∥ AreChained places free ∥₁
    → ∥ AreChained (places ++ q ∷ []) (length places) ∥₁
becomes_more places free q low none next full chained =
    let taken : AllTaken places = all_taken places free chained full in
    ∣ record {
      chain = length places ∷ [];
      is_chain = (refl, low, refl, (q, push_here places q, none, omega (arith, next)));
      all = λ n empty. elim (cases_eq n (length places)) [
        | inl same ↦ ap (λ (i : ℕ). is_among i (length places ∷ [])) same ∙ first_among (length places) []
        | inr other ↦ absurd (false≢true (sym (taken n) ∙ ap (λ (o : Option Place). holds_nothing o) (sym (push_apart places n q other)) ∙ empty))
      ];
    } ∣₁

-- no place is there at all
pub none_chained : ∥ AreChained [] 65536 ∥₁
none_chained = ∣ record { chain = []; is_chain = omega arith; all = λ n empty. absurd (false≢true empty) } ∣₁

some_held : (held : Held) → (held ≡ Nothing → ⊥) → is_nothing held ≡ false
some_held held some = not_true (is_nothing held) (λ none. some (no_held held none))

-- a place whose number names something is taken
pub named_taken : (held : Held) (p : Place) → (held ≡ Nothing → ⊥) → held ≡ p.held → is_nothing p.held ≡ false
named_taken held p some is = some_held p.held (λ none. some (is ∙ none))

pub is_free : (held : Held) → held ≡ Nothing → is_nothing held ≡ true
is_free held none = ap is_nothing none
