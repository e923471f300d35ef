-- What each number names once one place has changed.
use Rattle.std.specs.Prelude.{ℕ, zero, suc, ◌≡◌, ◌≢◌, ◌<◌, ◌==◌, ◌&&◌, ◌+◌, ◌/◌, ◌%◌, List, [], ◌∷◌, ◌++◌, length, get_or, nat_lt, slice_get, slice_set, Option}
use Rattle.std.specs.Prelude.{Some, None, Bool, true, false, IsTrue, if◌then◌else◌}
use Rattle.std.proofs.Common.{◌∙◌, sym, ap, refl, arith, inl, inr}
use Rattle.std.proofs.Math.Nat.{div-add-mod}
use Rattle.std.proofs.lemmas.Bool.{cases_eq, eq-eqb, ne_eqb, lt-ltb, ltb-true, false≢true}
use Rattle.std.proofs.lemmas.Option.{slice_get_past, slice_get_cases, get_or_from_slice_get}
use Rattle.snapshot.specs.Txn.{TxnValue}
use Rattle.c_engine.specs.FreePlaces.{is_nothing, has_free}
use Rattle.c_engine.specs.Held.{held_in, named_in, stamp_of, transaction_in, SameNumbers, IsKept}
use Rattle.c_engine.specs.Numbers.{place_in, stamp_in, tag_in}
use Rattle.c_engine.specs.declared.places.Held.{Held}
use Rattle.c_engine.specs.declared.places.Held.TheVariants.{Nothing, Transaction, Ticket, View}
use Rattle.c_engine.specs.declared.places.Place.{Place}
use Rattle.c_engine.specs.declared.places.Places.{Places}

pub set_here : (xs : List Place) (i : ℕ) (p q : Place) → slice_get xs i ≡ Some p → slice_get (slice_set xs i q) i ≡ Some q
set_here [] i p q some = absurd (cc)
set_here (x ∷ xs) zero p q some = refl
set_here (x ∷ xs) (suc i) p q some = set_here xs i p q some

pub set_apart : (xs : List Place) (i j : ℕ) (q : Place) → j ≢ i → slice_get (slice_set xs i q) j ≡ slice_get xs j
set_apart [] i j q apart = refl
set_apart (x ∷ xs) zero zero q apart = absurd (apart refl)
set_apart (x ∷ xs) zero (suc j) q apart = refl
set_apart (x ∷ xs) (suc i) zero q apart = refl
set_apart (x ∷ xs) (suc i) (suc j) q apart = set_apart xs i j q (λ e. apart (ap suc e))

pub push_here : (xs : List Place) (q : Place) → slice_get (xs ++ q ∷ []) (length xs) ≡ Some q
push_here [] q = refl
push_here (x ∷ xs) q = push_here xs q

pub push_apart : (xs : List Place) (j : ℕ) (q : Place) → j ≢ length xs → slice_get (xs ++ q ∷ []) j ≡ slice_get xs j
push_apart [] zero q apart = absurd (apart refl)
push_apart [] (suc j) q apart = refl
push_apart (x ∷ xs) zero q apart = refl
push_apart (x ∷ xs) (suc j) q apart = push_apart xs j q (λ e. apart (ap suc e))

-- a number is its tag, its stamp and its place
same_number : (n m : ℕ) → tag_in n ≡ tag_in m → stamp_in n ≡ stamp_in m → place_in n ≡ place_in m → n ≡ m
same_number n m tags stamps places =
    let above : n / 65536 ≡ m / 65536 = omega (arith, div-add-mod (n / 65536) 4294967296, div-add-mod (m / 65536) 4294967296, tags, stamps) in
    omega (arith, div-add-mod n 65536, div-add-mod m 65536, above, places)

-- what stands in the place of a number under its stamp
abbrev placed_in : List Place → ℕ → Held
placed_in places number = held_in (stamp_in number) (slice_get places (place_in number))

tagged : (tag number : ℕ) (held : Held) → tag_in number ≡ tag → (if tag_in number == tag then held else Nothing) ≡ held
tagged tag number held same = let yes : (tag_in number == tag) ≡ true = eq-eqb (tag_in number) tag same in rw yes refl

untagged : (tag number : ℕ) (held : Held) → tag_in number ≢ tag → (if tag_in number == tag then held else Nothing) ≡ Nothing
untagged tag number held other = let no : (tag_in number == tag) ≡ false = ne_eqb (tag_in number) tag other in rw no refl

-- a number that names something has the tag of its store
pub has_tag : (tag : ℕ) (places : List Place) (number : ℕ) → named_in tag places number ≢ Nothing → tag_in number ≡ tag
has_tag tag places number some = elim (cases_eq (tag_in number) tag) [
  | inl same ↦ same
  | inr other ↦ absurd (some (untagged tag number (placed_in places number) other))
]

-- the place of a number, under whose other stamps there was nothing, is changed, and no other place
placed : (old new : List Place) (number : ℕ) (q : Place) (held : Held) → slice_get new (place_in number) ≡ Some q
    → ((j : ℕ) → j ≢ place_in number → slice_get new j ≡ slice_get old j)
    → ((stamp : ℕ) → stamp ≢ stamp_in number → held_in stamp (slice_get old (place_in number)) ≡ Nothing)
    → ((stamp : ℕ) → held_in stamp (Some q) ≡ (if stamp_in number == stamp then held else Nothing))
    → (n : ℕ) → tag_in n ≡ tag_in number → placed_in new n ≡ (if n == number then held else placed_in old n)
placed old new number q held here apart stale is n tags = elim (cases_eq (place_in n) (place_in number)) [
  | inr other ↦
      let no : (n == number) ≡ false = ne_eqb n number (λ e. other (ap (λ (k : ℕ). place_in k) e)) in
      rw no (ap (λ (o : Option Place). held_in (stamp_in n) o) (apart (place_in n) other))
  | inl same ↦
      let now : placed_in new n ≡ (if stamp_in number == stamp_in n then held else Nothing) =
      ap (λ (i : ℕ). held_in (stamp_in n) (slice_get new i)) same ∙ ap (λ (o : Option Place). held_in (stamp_in n) o) here ∙ is (stamp_in n) in
      elim (cases_eq (stamp_in n) (stamp_in number)) [
        | inl stamps ↦
            let yes : (n == number) ≡ true = eq-eqb n number (same_number n number tags stamps same) in
            let own : (stamp_in number == stamp_in n) ≡ true = eq-eqb (stamp_in number) (stamp_in n) (sym stamps) in
            let is_held : (if stamp_in number == stamp_in n then held else Nothing) ≡ held = rw own refl in
            rw yes (now ∙ is_held)
        | inr others ↦
            let no : (n == number) ≡ false = ne_eqb n number (λ e. others (ap (λ (k : ℕ). stamp_in k) e)) in
            let own : (stamp_in number == stamp_in n) ≡ false = ne_eqb (stamp_in number) (stamp_in n) (λ e. others (sym e)) in
            let is_nothing : (if stamp_in number == stamp_in n then held else Nothing) ≡ Nothing = rw own refl in
            let was : placed_in old n ≡ Nothing = ap (λ (i : ℕ). held_in (stamp_in n) (slice_get old i)) same ∙ stale (stamp_in n) others in
            rw no (now ∙ is_nothing ∙ sym was)
      ]
]

changed : (tag : ℕ) (old new : List Place) (number : ℕ) (q : Place) (held : Held) → tag_in number ≡ tag → slice_get new (place_in number) ≡ Some q
    → ((j : ℕ) → j ≢ place_in number → slice_get new j ≡ slice_get old j)
    → ((stamp : ℕ) → stamp ≢ stamp_in number → held_in stamp (slice_get old (place_in number)) ≡ Nothing)
    → ((stamp : ℕ) → held_in stamp (Some q) ≡ (if stamp_in number == stamp then held else Nothing))
    → (n : ℕ) → named_in tag new n ≡ (if n == number then held else named_in tag old n)
changed tag old new number q held own here apart stale is n = elim (cases_eq (tag_in n) tag) [
  | inl same ↦
      tagged tag n (placed_in new n) same ∙ placed old new number q held here apart stale is n (same ∙ sym own)
      ∙ ap (λ (h : Held). if n == number then held else h) (sym (tagged tag n (placed_in old n) same))
  | inr other ↦
      let no : (n == number) ≡ false = ne_eqb n number (λ e. other (ap (λ (k : ℕ). tag_in k) e ∙ own)) in
      rw no (untagged tag n (placed_in new n) other ∙ sym (untagged tag n (placed_in old n) other))
]

-- under another stamp than its own a place holds nothing
other_stamp : (p : Place) (stamp : ℕ) → stamp ≢ p.stamp → held_in stamp (Some p) ≡ Nothing
other_stamp p stamp other = let no : (p.stamp == stamp) ≡ false = ne_eqb p.stamp stamp (λ e. other (sym e)) in rw no refl

-- what a place holds is under its own stamp alone
pub own_stamp : (q : Place) (own : ℕ) → q.stamp ≡ own → (stamp : ℕ) → held_in stamp (Some q) ≡ (if own == stamp then q.held else Nothing)
own_stamp q own same stamp = ap (λ (k : ℕ). if k == stamp then q.held else Nothing) same

both : (b : Bool) (held : Held) → held ≡ Nothing → (if b then held else Nothing) ≡ Nothing
both true held none = none
both false held none = refl

-- a place that holds nothing does so under each stamp
pub no_stamp : (q : Place) (own : ℕ) → q.held ≡ Nothing → (stamp : ℕ) → held_in stamp (Some q) ≡ (if own == stamp then Nothing else Nothing)
no_stamp q own none stamp = both (q.stamp == stamp) q.held none ∙ sym (both (own == stamp) Nothing refl)

-- a place is put in another's stead
pub replaced : (tag : ℕ) (places : List Place) (number : ℕ) (p q : Place) (held : Held) → tag_in number ≡ tag → slice_get places (place_in number) ≡ Some p
    → p.stamp ≡ stamp_in number
    → ((stamp : ℕ) → held_in stamp (Some q) ≡ (if stamp_in number == stamp then held else Nothing))
    → (n : ℕ) → named_in tag (slice_set places (place_in number) q) n ≡ (if n == number then held else named_in tag places n)
replaced tag places number p q held own at stamp is =
    changed tag places (slice_set places (place_in number) q) number q held own (set_here places (place_in number) p q at)
    (λ j apart. set_apart places (place_in number) j q apart)
    (λ s other. ap (λ (o : Option Place). held_in s o) at ∙ other_stamp p s (λ e. other (e ∙ stamp))) is

-- ---- what a place is written with

-- the place of a number that names something is its own
pub record There (tag : ℕ) (places : List Place) (number : ℕ) (p : Place) : Type 0 where
  pub tag_is : tag_in number ≡ tag
  pub at : slice_get places (place_in number) ≡ Some p
  pub stamp : p.stamp ≡ stamp_in number

pub there : (tag : ℕ) (places : List Place) (number : ℕ) (p : Place) → named_in tag places number ≢ Nothing → p ≡ get_or places (place_in number) p
    → There tag places number p
there tag places number p some read =
    let own : tag_in number ≡ tag = has_tag tag places number some in
    let named_is : named_in tag places number ≡ placed_in places number = tagged tag number (placed_in places number) own in
    elim (slice_get_cases places (place_in number)).1 [
      | inl w ↦
          let same : p ≡ w.0 = read ∙ get_or_from_slice_get places (place_in number) w.0 p w.2 in
          elim (cases_eq w.0.stamp (stamp_in number)) [
            | inl stamp ↦ record { tag_is = own; at = w.2 ∙ ap (λ (x : Place). Some x) (sym same); stamp = ap (λ (x : Place). x.stamp) same ∙ stamp }
            | inr other ↦ absurd (some (named_is ∙ ap (λ (o : Option Place). held_in (stamp_in number) o) w.2
                ∙ other_stamp w.0 (stamp_in number) (λ e. other (sym e))))
          ]
      | inr w ↦ absurd (some (named_is ∙ ap (λ (o : Option Place). held_in (stamp_in number) o) w.1))
    ]

-- such a place is written with what is held under the same stamp
pub written : (tag : ℕ) (places : List Place) (number : ℕ) (p q : Place) → named_in tag places number ≢ Nothing → p ≡ get_or places (place_in number) p
    → q.stamp ≡ p.stamp
    → (named_in tag places number ≡ p.held) × ((n : ℕ) → named_in tag (slice_set places (place_in number) q) n ≡
    (if n == number then q.held else named_in tag places n))
written tag places number p q some read own =
    let at = there tag places number p some read in
    let yes : (p.stamp == stamp_in number) ≡ true = eq-eqb p.stamp (stamp_in number) at.stamp in
    let is : held_in (stamp_in number) (Some p) ≡ p.held = rw yes refl in (
      tagged tag number (placed_in places number) at.tag_is ∙ ap (λ (o : Option Place). held_in (stamp_in number) o) at.at ∙ is,
      replaced tag places number p q q.held at.tag_is at.at at.stamp (own_stamp q (stamp_in number) (own ∙ at.stamp)),
    )

-- it is emptied, and its number names nothing
pub emptied : (tag : ℕ) (places : List Place) (number : ℕ) (p q : Place) → named_in tag places number ≢ Nothing → p ≡ get_or places (place_in number) p
    → q.held ≡ Nothing
    → ((n : ℕ) → named_in tag (slice_set places (place_in number) q) n ≡ (if n == number then Nothing else named_in tag places n))
emptied tag places number p q some read none =
    let at = there tag places number p some read in
    replaced tag places number p q Nothing at.tag_is at.at at.stamp (no_stamp q (stamp_in number) none)

-- a place that holds nothing is free
pub free_here : (places : List Place) (at : ℕ) (q : Place) → slice_get places at ≡ Some q → at < 65536 → q.held ≡ Nothing → IsTrue (has_free places at)
free_here places at q here low none =
    let below : nat_lt at 65536 ≡ true = lt-ltb at 65536 low in
    rw (below, here, none) refl

-- what a place that holds nothing is written with has a number that named nothing
pub kept : (tag : ℕ) (places : List Place) (number at : ℕ) (p q : Place) (held : Held) → tag_in number ≡ tag → place_in number ≡ at
    → stamp_in number ≡ p.stamp → slice_get places at ≡ Some p → p.held ≡ Nothing
    → q.stamp ≡ p.stamp → q.held ≡ held
    → (named_in tag places number ≡ Nothing) × ((n : ℕ) → named_in tag (slice_set places at q) n ≡ (if n == number then held else named_in tag places n))
kept tag places number at p q held tag_is place stamp here none own is = (
  tagged tag number (placed_in places number) tag_is ∙ ap (λ (i : ℕ). held_in (stamp_in number) (slice_get places i)) place
      ∙ ap (λ (o : Option Place). held_in (stamp_in number) o) here
      ∙ both (p.stamp == stamp_in number) p.held none,
  λ n. ap (λ (i : ℕ). named_in tag (slice_set places i q) n) (sym place)
      ∙ replaced tag places number p q q.held tag_is (ap (λ (i : ℕ). slice_get places i) place ∙ here) (sym stamp)
      (own_stamp q (stamp_in number) (own ∙ sym stamp)) n
      ∙ ap (λ (h : Held). if n == number then h else named_in tag places n) is,
)

pub and_parts : (a b : Bool) → (a && b) ≡ true → (a ≡ true) × (b ≡ true)
and_parts true b e = (refl, e)
and_parts false b e = absurd (false≢true e)

pub no_held : (held : Held) → is_nothing held ≡ true → held ≡ Nothing
no_held Nothing e = refl
no_held (Transaction txn) e = absurd (false≢true e)
no_held (Ticket ticket) e = absurd (false≢true e)
no_held (View view) e = absurd (false≢true e)

-- what a free place holds
pub record IsFree (places : List Place) (place : ℕ) (p : Place) : Type 0 where
  pub at : slice_get places place ≡ Some p
  pub none : p.held ≡ Nothing
  pub low : place < 65536

lt_of : (at : ℕ) → nat_lt at 65536 ≡ true → at < 65536
lt_of at low = ltb-true at 65536 low

pub nothing_in : (places : List Place) (at : ℕ) (p : Place) → IsTrue (has_free places at) → p ≡ get_or places at p → IsFree places at p
nothing_in places at p free read = elim (slice_get_cases places at).1 [
  | inl w ↦
      let same : p ≡ w.0 = read ∙ get_or_from_slice_get places at w.0 p w.2 in
      let holds : IsTrue (nat_lt at 65536 && is_nothing w.0.held) = rw w.2 at free in
      let both = and_parts (nat_lt at 65536) (is_nothing w.0.held) holds in
      record { at = w.2 ∙ ap (λ (x : Place). Some x) (sym same); none = ap (λ (x : Place). x.held) same ∙ no_held w.0.held both.1; low = lt_of at both.0 }
  | inr w ↦
      let holds : IsTrue (nat_lt at 65536 && false) = rw w.1 at free in
      absurd (false≢true (and_parts (nat_lt at 65536) false holds).1)
]

-- ---- a place more

placed_more : (places : List Place) (q : Place) → q.held ≡ Nothing → (n : ℕ) → placed_in (places ++ q ∷ []) n ≡ placed_in places n
placed_more places q none n = elim (cases_eq (place_in n) (length places)) [
  | inl same ↦
      let before : slice_get places (place_in n) ≡ None = slice_get_past places (place_in n) (omega (arith, same)) in
      let after : slice_get (places ++ q ∷ []) (place_in n) ≡ Some q = ap (λ (i : ℕ). slice_get (places ++ q ∷ []) i) same ∙ push_here places q in
      ap (λ (o : Option Place). held_in (stamp_in n) o) after ∙ both (q.stamp == stamp_in n) q.held none
      ∙ sym (ap (λ (o : Option Place). held_in (stamp_in n) o) before)
  | inr other ↦ ap (λ (o : Option Place). held_in (stamp_in n) o) (push_apart places (place_in n) q other)
]

-- one behind all others that holds nothing changes no number
pub added : (tag : ℕ) (places : List Place) (q : Place) → q.held ≡ Nothing → (n : ℕ) → named_in tag (places ++ q ∷ []) n ≡ named_in tag places n
added tag places q none n = ap (λ (h : Held). if tag_in n == tag then h else Nothing) (placed_more places q none n)

-- ---- stamps

-- the place gets this stamp, and no other changes
set_stamp : (places : List Place) (at : ℕ) (p q : Place) → slice_get places at ≡ Some p → (j : ℕ)
    → stamp_of (slice_get (slice_set places at q) j) ≡ (if j == at then q.stamp else stamp_of (slice_get places j))
set_stamp places at p q here j = elim (cases_eq j at) [
  | inl same ↦
      let yes : (j == at) ≡ true = eq-eqb j at same in
      let now : slice_get (slice_set places at q) j ≡ Some q = ap (λ (i : ℕ). slice_get (slice_set places at q) i) same ∙ set_here places at p q here in
      rw (yes, now) refl
  | inr other ↦
      let no : (j == at) ≡ false = ne_eqb j at other in
      rw no (ap (λ (o : Option Place). stamp_of o) (set_apart places at j q other))
]

here_stamp : (places : List Place) (at j : ℕ) (p : Place) → slice_get places at ≡ Some p → j ≡ at → stamp_of (slice_get places j) ≡ p.stamp
here_stamp places at j p here same = ap (λ (i : ℕ). stamp_of (slice_get places i)) same ∙ ap (λ (o : Option Place). stamp_of o) here

-- it has its own stamp again: no stamp changes
pub same_stamps : (places : List Place) (at : ℕ) (p q : Place) → slice_get places at ≡ Some p → q.stamp ≡ p.stamp → (j : ℕ)
    → stamp_of (slice_get (slice_set places at q) j) ≡ stamp_of (slice_get places j)
same_stamps places at p q here own j = set_stamp places at p q here j ∙ elim (cases_eq j at) [
  | inl same ↦ let yes : (j == at) ≡ true = eq-eqb j at same in rw yes (own ∙ sym (here_stamp places at j p here same))
  | inr other ↦ let no : (j == at) ≡ false = ne_eqb j at other in rw no refl
]

-- it has the next stamp
pub raised_stamp : (places : List Place) (at : ℕ) (p q : Place) → slice_get places at ≡ Some p → q.stamp ≡ (p.stamp + 1) % 4294967296
    → (j : ℕ) → stamp_of (slice_get (slice_set places at q) j) ≡
    (if j == at then (stamp_of (slice_get places j) + 1) % 4294967296 else stamp_of (slice_get places j))
raised_stamp places at p q here next j = set_stamp places at p q here j ∙ elim (cases_eq j at) [
  | inl same ↦
      let yes : (j == at) ≡ true = eq-eqb j at same in
      rw yes (next ∙ ap (λ (stamp : ℕ). (stamp + 1) % 4294967296) (sym (here_stamp places at j p here same)))
  | inr other ↦ let no : (j == at) ≡ false = ne_eqb j at other in rw no refl
]

-- the first stamp of a place is that of none
pub added_stamp : (places : List Place) (q : Place) → q.stamp ≡ 0 → (j : ℕ) → stamp_of (slice_get (places ++ q ∷ []) j) ≡ stamp_of (slice_get places j)
added_stamp places q zero_is j = elim (cases_eq j (length places)) [
  | inl same ↦
      let before : slice_get places j ≡ None = slice_get_past places j (omega (arith, same)) in
      let after : slice_get (places ++ q ∷ []) j ≡ Some q = ap (λ (i : ℕ). slice_get (places ++ q ∷ []) i) same ∙ push_here places q in
      ap (λ (o : Option Place). stamp_of o) after ∙ zero_is ∙ sym (ap (λ (o : Option Place). stamp_of o) before)
  | inr other ↦ ap (λ (o : Option Place). stamp_of o) (push_apart places j q other)
]

-- ---- transactions

pub is_transaction : (held : Held) (txn : TxnValue) → transaction_in held ≡ Some txn → held ≡ Transaction txn
is_transaction Nothing txn e = absurd (cc)
is_transaction (Transaction found) txn e = cc
is_transaction (Ticket ticket) txn e = absurd (cc)
is_transaction (View view) txn e = absurd (cc)

-- what is kept once a place was made free is kept beside what there was before
pub kept_after : (held : Held) (number : ℕ) (before free after : Places) → SameNumbers before free → IsKept held number free after
    → IsKept held number before after
kept_after held number before free after same kept = record {
  free = sym (same.names number) ∙ kept.free;
  own = kept.own ∙ same.stamps.tag;
  low = kept.low;
  names = λ n. kept.names n ∙ ap (λ (h : Held). if n == number then held else h) (same.names n);
  stamps = record { stamps = λ at. kept.stamps.stamps at ∙ same.stamps.stamps at; tag = kept.stamps.tag ∙ same.stamps.tag };
}

pub not_nothing : (held : Held) (txn : TxnValue) → transaction_in held ≡ Some txn → held ≢ Nothing
not_nothing held txn e none = let is : Transaction txn ≡ Nothing = sym (is_transaction held txn e) ∙ none in cc
