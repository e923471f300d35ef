-- What is held stays the store's own and goes on standing for what it did.
use Rattle.std.proofs.Common.{◌≡◌, ◌≢◌, inl, inr, ℕ, zero, suc, ◌<◌, ◌≤◌, ◌==◌, nat_lt, Bool, true, false, cond, List, [], ◌∷◌, ◌++◌, length, Option, Some}
use Rattle.std.proofs.Common.{None, refl, sym, ◌∙◌, ap, subst, arith}
use Rattle.std.specs.Prelude.{slice_get, slice_set}
use Rattle.std.proofs.lemmas.Bool.{cases_lt, cases_eq}
use Rattle.std.proofs.lemmas.Bool.Decides.{nat_tests}
use Rattle.history.specs.declared.key.Key.{Key}
use Rattle.history.specs.Histories.{History, last, state, HasRisingTimes, MayAllFollow}
use Rattle.history.specs.Machine.{Machine, IsMachine}
use Rattle.history.specs.Steps.{Event, Run}
use Rattle.history.proofs.Histories.{last_after-append, rising-from_following, times-earlier, state-append, may_follow-front, may_follow-behind}
use Rattle.history.proofs.Runs.{last-later, run-shows}
use Rattle.law_image.specs.Values.{Value, IsValue}
use Rattle.snapshot.specs.OpenTable.{joined, snapshot_of, with_opened, with_closed}
use Rattle.snapshot.specs.Txn.{TxnValue}
use Rattle.group.specs.CommitOrder.{is_awaited, redeemed, IsRisingAfter, last_time_after}
use Rattle.group.specs.Tickets.{TicketValue}
use Rattle.group.specs.declared.commit_order.CommitHead.{CommitHead}
use Rattle.timequery.specs.View.{ViewValue}
use Rattle.commits.specs.Values.{CommitsValue}
use Rattle.any_store.specs.Values.{StoreValue}
use Rattle.law_refinement.specs.Homes.{ViewStands}
use Rattle.law_any_store.specs.Standing as stores
use Rattle.law_any_store.proofs.Views.{view-goes-on}
use Rattle.run.specs.declared.held.Held.{Held}
use Rattle.run.specs.declared.held.Held.TheVariants as held
use Rattle.run.specs.Places.{Place, Free, Running, Waits, Views, place_at, IsNoTransaction, IsNoTicket, IsNoView, HasNoTransaction, HasNoTicket, HasNoView}
use Rattle.run.specs.Places.{IsOwnTransaction, IsOwnTicket, ShowsAs, Clash, ArePlaces, IsRead, AreRead}
use Rattle.run.proofs.Lists.{get-set, get-push, get-within, get-past, held-length-set, held-length-push, length-set, length-push, place-set_same}
use Rattle.run.proofs.Lists.{place-set_other, place-push_old, place-push_new, place-past}

-- ---- clashes

pub clash-swap : (a b : Held) → Clash a b → Clash b a
clash-swap held.Nothing held.Nothing c = absurd c
clash-swap held.Nothing (held.Transaction u) c = absurd c
clash-swap held.Nothing (held.Ticket l) c = absurd c
clash-swap held.Nothing (held.View w) c = absurd c
clash-swap (held.Transaction t) held.Nothing c = absurd c
clash-swap (held.Transaction t) (held.Transaction u) c = sym c
clash-swap (held.Transaction t) (held.Ticket l) c = absurd c
clash-swap (held.Transaction t) (held.View w) c = absurd c
clash-swap (held.Ticket k) held.Nothing c = absurd c
clash-swap (held.Ticket k) (held.Transaction u) c = absurd c
clash-swap (held.Ticket k) (held.Ticket l) c = sym c
clash-swap (held.Ticket k) (held.View w) c = absurd c
clash-swap (held.View k) held.Nothing c = absurd c
clash-swap (held.View k) (held.Transaction u) c = absurd c
clash-swap (held.View k) (held.Ticket l) c = absurd c
clash-swap (held.View k) (held.View w) c = absurd c

pub no_clash : (b : Held) → Clash held.Nothing b → ⊥
no_clash held.Nothing c = c
no_clash (held.Transaction u) c = c
no_clash (held.Ticket l) c = c
no_clash (held.View w) c = c

pub view-no_clash : (w : ViewValue) (b : Held) → Clash (held.View w) b → ⊥
view-no_clash w held.Nothing c = c
view-no_clash w (held.Transaction u) c = c
view-no_clash w (held.Ticket l) c = c
view-no_clash w (held.View u) c = c

-- ---- places

pub push : (v : CommitsValue) (h : History Value) (xs : List Held) (ps : List Place) (x : Held) (p : Place) → ArePlaces v h xs ps → ShowsAs v h x p
    → ((j : ℕ) (b : Held) → slice_get xs j ≡ Some b → Clash x b → ⊥) → ArePlaces v h (xs ++ x ∷ []) (ps ++ p ∷ [])
push v h xs ps x p are shows fresh = record {
  many = held-length-push xs x ∙ ap suc are.many ∙ sym (length-push ps p);
  each = λ i y at. elim (get-push xs i x y at) [
    | inl new ↦
        let here : place_at (ps ++ p ∷ []) i ≡ p = ap (λ (k : ℕ). place_at (ps ++ p ∷ []) k) (new.0 ∙ are.many) ∙ place-push_new ps p in
        subst (λ (q : Place). ShowsAs v h y q) (sym here) (subst (λ (z : Held). ShowsAs v h z p) (sym new.1) shows)
    | inr old ↦ subst (λ (q : Place). ShowsAs v h y q) (sym (place-push_old ps i p (let low = get-within xs i y old in let many = are.many in omega arith)))
        (are.each i y old)
  ];
  apart = λ i j a b at_i at_j clash. elim (get-push xs i x a at_i) [
    | inl new ↦ elim (get-push xs j x b at_j) [
      | inl also ↦ new.0 ∙ sym also.0
      | inr old ↦ absurd (fresh j b old (subst (λ (y : Held). Clash y b) new.1 clash))
    ]
    | inr old ↦ elim (get-push xs j x b at_j) [
      | inl new ↦ absurd (fresh i a old (clash-swap a x (subst (λ (y : Held). Clash a y) new.1 clash)))
      | inr also ↦ are.apart i j a b old also clash
    ]
  ];
}

pub push_nothing : (v : CommitsValue) (h : History Value) (xs : List Held) (ps : List Place) → ArePlaces v h xs ps
    → ArePlaces v h (xs ++ held.Nothing ∷ []) (ps ++ Free ∷ [])
push_nothing v h xs ps are = push v h xs ps held.Nothing Free are tt (λ j b at clash. no_clash b clash)

pub set : (v : CommitsValue) (h : History Value) (xs : List Held) (ps : List Place) (k : ℕ) (old x : Held) (p : Place) → ArePlaces v h xs ps
    → slice_get xs k ≡ Some old → ShowsAs v h x p → ((b : Held) → Clash x b → Clash old b) → ArePlaces v h (slice_set xs k x) (slice_set ps k p)
set v h xs ps k old x p are here shows same = record {
  many = held-length-set xs k x ∙ are.many ∙ sym (length-set ps k p);
  each = λ i y at. elim (get-set xs k i x y at) [
    | inl new ↦
        let low : k < length ps = let within = get-within xs k old here in let many = are.many in omega arith in
        let there : place_at (slice_set ps k p) i ≡ p = ap (λ (n : ℕ). place_at (slice_set ps k p) n) new.0 ∙ place-set_same ps k p low in
        subst (λ (q : Place). ShowsAs v h y q) (sym there) (subst (λ (z : Held). ShowsAs v h z p) (sym new.1) shows)
    | inr other ↦ subst (λ (q : Place). ShowsAs v h y q) (sym (place-set_other ps k i p other.0)) (are.each i y other.1)
  ];
  apart = λ i j a b at_i at_j clash. elim (get-set xs k i x a at_i) [
    | inl new ↦ elim (get-set xs k j x b at_j) [
      | inl also ↦ new.0 ∙ sym also.0
      | inr other ↦ new.0 ∙ are.apart k j old b here other.1 (same b (subst (λ (y : Held). Clash y b) new.1 clash))
    ]
    | inr other ↦ elim (get-set xs k j x b at_j) [
      | inl new ↦ sym (new.0 ∙ are.apart k i old a here other.1 (same a (clash-swap a x (subst (λ (y : Held). Clash a y) new.1 clash))))
      | inr also ↦ are.apart i j a b other.1 also.1 clash
    ]
  ];
}

pub free : (v : CommitsValue) (h : History Value) (xs : List Held) (ps : List Place) (k : ℕ) (old : Held) → ArePlaces v h xs ps → slice_get xs k ≡ Some old
    → ArePlaces v h (slice_set xs k held.Nothing) (slice_set ps k Free)
free v h xs ps k old are here = set v h xs ps k old held.Nothing Free are here tt (λ b clash. absurd (no_clash b clash))

pub move : (v v' : CommitsValue) (h h' : History Value) (xs : List Held) (ps : List Place) → ArePlaces v h xs ps
    → ((i : ℕ) (x : Held) (p : Place) → slice_get xs i ≡ Some x → ShowsAs v h x p → ShowsAs v' h' x p) → ArePlaces v' h' xs ps
move v v' h h' xs ps are stays = record { many = are.many; each = λ i x at. stays i x (place_at ps i) at (are.each i x at); apart = are.apart }

-- what a place gave up clashes with no other
pub freed_apart : (v : CommitsValue) (h : History Value) (xs : List Held) (ps : List Place) (k : ℕ) (old : Held) → ArePlaces v h xs ps → slice_get xs k
    ≡ Some old → (j : ℕ) (b : Held) → slice_get (slice_set xs k held.Nothing) j ≡ Some b → Clash old b → ⊥
freed_apart v h xs ps k old are here j b at clash = elim (get-set xs k j held.Nothing b at) [
  | inl new ↦ no_clash old (clash-swap old held.Nothing (subst (λ (y : Held). Clash old y) new.1 clash))
  | inr other ↦ other.0 (sym (are.apart k j old b here other.1 clash))
]

-- ---- what held views read

module _ (tells : Bool) where
  pub read-plain : (v : StoreValue) (x : Held) → HasNoView (Some x) → (p : Place) → IsRead tells v x p
  read-plain v held.Nothing none p = tt
  read-plain v (held.Transaction t) none p = tt
  read-plain v (held.Ticket t) none p = tt
  read-plain v (held.View w) none p = absurd none

  -- what is held is read still once the store has gone on
  read-on : (v v' : StoreValue) (x : Held) (p : Place) → stores.GoesOn tells v v' → IsRead tells v x p → IsRead tells v' x p
  read-on v v' held.Nothing p goes is = tt
  read-on v v' (held.Transaction t) p goes is = tt
  read-on v v' (held.Ticket t) p goes is = tt
  read-on v v' (held.View w) Free goes is = tt
  read-on v v' (held.View w) (Running s ws) goes is = tt
  read-on v v' (held.View w) (Waits time) goes is = tt
  read-on v v' (held.View w) (Views history floors reclaimed) goes is = view-goes-on tells v v' w history floors is goes

  pub reads-move : (v v' : StoreValue) (xs : List Held) (ps : List Place) → stores.GoesOn tells v v' → AreRead tells v xs ps → AreRead tells v' xs ps
  reads-move v v' xs ps goes are = record { each = λ i x at. read-on v v' x (place_at ps i) goes (are.each i x at) }

  pub reads-push : (v : StoreValue) (xs : List Held) (ps : List Place) (x : Held) (p : Place) → length xs ≡ length ps → AreRead tells v xs ps
      → IsRead tells v x p → AreRead tells v (xs ++ x ∷ []) (ps ++ p ∷ [])
  reads-push v xs ps x p many are is = record {
    each = λ i y at. elim (get-push xs i x y at) [
      | inl new ↦
          let here : place_at (ps ++ p ∷ []) i ≡ p = ap (λ (k : ℕ). place_at (ps ++ p ∷ []) k) (new.0 ∙ many) ∙ place-push_new ps p in
          subst (λ (q : Place). IsRead tells v y q) (sym here) (subst (λ (z : Held). IsRead tells v z p) (sym new.1) is)
      | inr old ↦ subst (λ (q : Place). IsRead tells v y q) (sym (place-push_old ps i p (let low = get-within xs i y old in omega arith))) (are.each i y old)
    ];
  }

  pub reads-plain : (v : StoreValue) (xs : List Held) (ps : List Place) (x : Held) (p : Place) → length xs ≡ length ps → HasNoView (Some x)
      → AreRead tells v xs ps → AreRead tells v (xs ++ x ∷ []) (ps ++ p ∷ [])
  reads-plain v xs ps x p many none are = reads-push v xs ps x p many are (read-plain v x none p)

  -- a place that holds no view any more
  pub reads-set : (v : StoreValue) (xs : List Held) (ps : List Place) (k : ℕ) (x : Held) (p : Place) → HasNoView (Some x) → AreRead tells v xs ps
      → AreRead tells v (slice_set xs k x) (slice_set ps k p)
  reads-set v xs ps k x p none are = record {
    each = λ i y at. elim (get-set xs k i x y at) [
      | inl new ↦ subst (λ (z : Held). IsRead tells v z (place_at (slice_set ps k p) i)) (sym new.1) (read-plain v x none (place_at (slice_set ps k p) i))
      | inr other ↦ subst (λ (q : Place). IsRead tells v y q) (sym (place-set_other ps k i p other.0)) (are.each i y other.1)
    ];
  }

-- ---- what a place is known to hold

shown-no_transaction : (v : CommitsValue) (h : History Value) (x : Held) (p : Place) → ShowsAs v h x p → HasNoTransaction (Some x) → IsNoTransaction p
shown-no_transaction v h x Free shows none = tt
shown-no_transaction v h x (Waits time) shows none = tt
shown-no_transaction v h x (Views history floors reclaimed) shows none = tt
shown-no_transaction v h held.Nothing (Running s ws) shows none = shows
shown-no_transaction v h (held.Transaction t) (Running s ws) shows none = none
shown-no_transaction v h (held.Ticket t) (Running s ws) shows none = shows
shown-no_transaction v h (held.View w) (Running s ws) shows none = shows

shown-no_ticket : (v : CommitsValue) (h : History Value) (x : Held) (p : Place) → ShowsAs v h x p → HasNoTicket (Some x) → IsNoTicket p
shown-no_ticket v h x Free shows none = tt
shown-no_ticket v h x (Running s ws) shows none = tt
shown-no_ticket v h x (Views history floors reclaimed) shows none = tt
shown-no_ticket v h held.Nothing (Waits time) shows none = shows
shown-no_ticket v h (held.Transaction t) (Waits time) shows none = shows
shown-no_ticket v h (held.Ticket t) (Waits time) shows none = none
shown-no_ticket v h (held.View w) (Waits time) shows none = shows

shown-no_view : (v : CommitsValue) (h : History Value) (x : Held) (p : Place) → ShowsAs v h x p → HasNoView (Some x) → IsNoView p
shown-no_view v h x Free shows none = tt
shown-no_view v h x (Running s ws) shows none = tt
shown-no_view v h x (Waits time) shows none = tt
shown-no_view v h held.Nothing (Views history floors reclaimed) shows none = shows
shown-no_view v h (held.Transaction t) (Views history floors reclaimed) shows none = shows
shown-no_view v h (held.Ticket t) (Views history floors reclaimed) shows none = shows
shown-no_view v h (held.View w) (Views history floors reclaimed) shows none = none

pub no_transaction : (v : CommitsValue) (h : History Value) (xs : List Held) (ps : List Place) (i : ℕ) → ArePlaces v h xs ps
    → HasNoTransaction (slice_get xs i) → IsNoTransaction (place_at ps i)
no_transaction v h xs ps i are none = by-option (slice_get xs i) refl none
  where
    by-option : (o : Option Held) → slice_get xs i ≡ o → HasNoTransaction o → IsNoTransaction (place_at ps i)
    by-option None at none = let past = get-past xs i at in let many =
        are.many in subst (λ (p : Place). IsNoTransaction p) (sym (place-past ps i (omega arith))) tt
    by-option (Some x) at none = shown-no_transaction v h x (place_at ps i) (are.each i x at) none

pub no_ticket : (v : CommitsValue) (h : History Value) (xs : List Held) (ps : List Place) (i : ℕ) → ArePlaces v h xs ps → HasNoTicket (slice_get xs i)
    → IsNoTicket (place_at ps i)
no_ticket v h xs ps i are none = by-option (slice_get xs i) refl none
  where
    by-option : (o : Option Held) → slice_get xs i ≡ o → HasNoTicket o → IsNoTicket (place_at ps i)
    by-option None at none = let past = get-past xs i at in let many = are.many in subst (λ (p : Place). IsNoTicket p) (sym (place-past ps i (omega arith))) tt
    by-option (Some x) at none = shown-no_ticket v h x (place_at ps i) (are.each i x at) none

pub no_view : (v : CommitsValue) (h : History Value) (xs : List Held) (ps : List Place) (i : ℕ) → ArePlaces v h xs ps → HasNoView (slice_get xs i)
    → IsNoView (place_at ps i)
no_view v h xs ps i are none = by-option (slice_get xs i) refl none
  where
    by-option : (o : Option Held) → slice_get xs i ≡ o → HasNoView o → IsNoView (place_at ps i)
    by-option None at none = let past = get-past xs i at in let many = are.many in subst (λ (p : Place). IsNoView p) (sym (place-past ps i (omega arith))) tt
    by-option (Some x) at none = shown-no_view v h x (place_at ps i) (are.each i x at) none

pub own_transaction : (v : CommitsValue) (h : History Value) (t : TxnValue) (p : Place) → ShowsAs v h (held.Transaction t) p → IsOwnTransaction v h t
own_transaction v h t Free shows = absurd shows
own_transaction v h t (Running s ws) shows = shows.0
own_transaction v h t (Waits time) shows = absurd shows
own_transaction v h t (Views history floors reclaimed) shows = absurd shows

pub own_ticket : (v : CommitsValue) (h : History Value) (t : TicketValue) (p : Place) → ShowsAs v h (held.Ticket t) p → IsOwnTicket v t
own_ticket v h t Free shows = absurd shows
own_ticket v h t (Running s ws) shows = absurd shows
own_ticket v h t (Waits time) shows = shows.0
own_ticket v h t (Views history floors reclaimed) shows = absurd shows

-- what holds of the place of a transaction holds of the place that is known to hold it
pub at_transaction : (P : Place → Type 0) (v : CommitsValue) (h : History Value) (t : TxnValue) (p : Place) → ShowsAs v h (held.Transaction t) p
    → P (Running t.snapshot t.writes) → P p
at_transaction P v h t Free shows there = absurd shows
at_transaction P v h t (Running s ws) shows there = let at = shows.1 in let wrote = shows.2 in subst P (λ i. Running (at i) (wrote i)) there
at_transaction P v h t (Waits time) shows there = absurd shows
at_transaction P v h t (Views history floors reclaimed) shows there = absurd shows

pub at_ticket : (P : Place → Type 0) (v : CommitsValue) (h : History Value) (t : TicketValue) (p : Place) → ShowsAs v h (held.Ticket t) p
    → P (Waits t.time) → P p
at_ticket P v h t Free shows there = absurd shows
at_ticket P v h t (Running s ws) shows there = absurd shows
at_ticket P v h t (Waits time) shows there = subst P (ap (λ (n : ℕ). Waits n) shows.1) there
at_ticket P v h t (Views history floors reclaimed) shows there = absurd shows

pub at_view : (P : Place → Type 0) (v : CommitsValue) (h : History Value) (w : ViewValue) (p : Place) → ShowsAs v h (held.View w) p
    → ((history : History Value) (floors : ℕ → ℕ) → w.mark ≡ v.mark → ViewStands w history floors → P (Views history floors w.reclaimed)) → P p
at_view P v h w Free shows there = absurd shows
at_view P v h w (Running s ws) shows there = absurd shows
at_view P v h w (Waits time) shows there = absurd shows
at_view P v h w (Views history floors reclaimed) shows there = subst (λ (r : ℕ). P (Views history floors r)) shows.1 (there history floors shows.0 shows.2)

-- ---- what stays

-- a history that goes on shows at earlier times what it showed
pub record GoesOn (h h' : History Value) : Type 0 where
  pub later : last h ≤ last h'
  pub same : (time : ℕ) (key : Key) → time ≤ last h → state h' time key ≡ state h time key

pub goes_on-same : (h : History Value) → GoesOn h h
goes_on-same h = record { later = omega arith; same = λ time key early. refl }

goes_on-more : (h more : History Value) → HasRisingTimes (last h) more → GoesOn h (h ++ more)
goes_on-more h more rising = record {
  later = subst (λ (n : ℕ). last h ≤ n) (sym (last_after-append 0 h more)) (last-later (last h) more rising);
  same = λ time key early. state-append h more time key (times-earlier time (last h) more early rising);
}

-- a run of the machine only publishes more
pub run-goes_on : (old new : Machine Value) (events : List (Event Value)) → IsMachine IsValue new → Run IsValue old events new
    → GoesOn old.published new.published
run-goes_on old new events machine run =
    let shows = run-shows IsValue old new events run in
    let front = may_follow-front IsValue [] new.published new.queue machine.history in
    let behind = may_follow-behind IsValue [] old.published shows.0 (subst (λ (h : History Value). MayAllFollow IsValue [] h) shows.1 front) in
    subst (λ (h : History Value). GoesOn old.published h) (sym shows.1)
    (goes_on-more old.published shows.0 (rising-from_following IsValue old.published shows.0 behind))

-- what of the store's a held value needs
abbrev pub Keeps : CommitsValue → CommitsValue → Held → Type 0
Keeps v v' held.Nothing = Unit {0}
Keeps v v' (held.Transaction t) = (v'.mark ≡ v.mark) × (snapshot_of t.number v'.opened ≡ snapshot_of t.number v.opened)
Keeps v v' (held.Ticket t) = (v'.mark ≡ v.mark) × (is_awaited t.time v.heads ≡ true → is_awaited t.time v'.heads ≡ true)
Keeps v v' (held.View w) = v'.mark ≡ v.mark

pub stays : (v v' : CommitsValue) (h h' : History Value) (x : Held) (p : Place) → Keeps v v' x → GoesOn h h' → ShowsAs v h x p → ShowsAs v' h' x p
stays v v' h h' held.Nothing Free keeps goes shows = tt
stays v v' h h' held.Nothing (Running s ws) keeps goes shows = absurd shows
stays v v' h h' held.Nothing (Waits time) keeps goes shows = absurd shows
stays v v' h h' held.Nothing (Views history floors reclaimed) keeps goes shows = absurd shows
stays v v' h h' (held.Transaction t) Free keeps goes shows = absurd shows
stays v v' h h' (held.Transaction t) (Running s ws) keeps goes shows =
    let own = shows.0 in (
      record {
        mark = own.mark ∙ sym keeps.0;
        number = keeps.1 ∙ own.number;
        published = omega (arith, own.published, goes.later);
        reads = λ key. own.reads key ∙ sym (goes.same t.snapshot key own.published);
      },
      shows.1,
      shows.2,
    )
stays v v' h h' (held.Transaction t) (Waits time) keeps goes shows = absurd shows
stays v v' h h' (held.Transaction t) (Views history floors reclaimed) keeps goes shows = absurd shows
stays v v' h h' (held.Ticket t) Free keeps goes shows = absurd shows
stays v v' h h' (held.Ticket t) (Running s ws) keeps goes shows = absurd shows
stays v v' h h' (held.Ticket t) (Waits time) keeps goes shows = (record { mark = shows.0.mark ∙ sym keeps.0; awaited = keeps.1 shows.0.awaited }, shows.1)
stays v v' h h' (held.Ticket t) (Views history floors reclaimed) keeps goes shows = absurd shows
stays v v' h h' (held.View w) Free keeps goes shows = absurd shows
stays v v' h h' (held.View w) (Running s ws) keeps goes shows = absurd shows
stays v v' h h' (held.View w) (Waits time) keeps goes shows = absurd shows
stays v v' h h' (held.View w) (Views history floors reclaimed) keeps goes shows = (shows.0 ∙ sym keeps, shows.1, shows.2)

-- ---- the table of open transactions

get_set_other : (places : List (Option ℕ)) (n m : ℕ) (x : Option ℕ) → n ≢ m → slice_get (slice_set places m x) n ≡ slice_get places n
get_set_other [] n m x apart = refl
get_set_other (p ∷ ps) zero zero x apart = absurd (apart refl)
get_set_other (p ∷ ps) zero (suc m) x apart = refl
get_set_other (p ∷ ps) (suc n) zero x apart = refl
get_set_other (p ∷ ps) (suc n) (suc m) x apart = get_set_other ps n m x (λ same. apart (ap suc same))

get_set_here : (places : List (Option ℕ)) (n : ℕ) (x : Option ℕ) → n < length places → slice_get (slice_set places n x) n ≡ Some x
get_set_here [] n x low = absurd (omega arith)
get_set_here (p ∷ ps) zero x low = refl
get_set_here (p ∷ ps) (suc n) x low = get_set_here ps n x (omega arith)

get_push_other : (places : List (Option ℕ)) (n : ℕ) (x : Option ℕ) → n ≢ length places → slice_get (places ++ x ∷ []) n ≡ slice_get places n
get_push_other [] zero x apart = absurd (apart refl)
get_push_other [] (suc n) x apart = refl
get_push_other (p ∷ ps) zero x apart = refl
get_push_other (p ∷ ps) (suc n) x apart = get_push_other ps n x (λ same. apart (ap suc same))

get_push_here : (places : List (Option ℕ)) (x : Option ℕ) → slice_get (places ++ x ∷ []) (length places) ≡ Some x
get_push_here [] x = refl
get_push_here (p ∷ ps) x = get_push_here ps x

pub closed_other : (places : List (Option ℕ)) (n m : ℕ) → n ≢ m → snapshot_of n (with_closed places m) ≡ snapshot_of n places
closed_other places n m apart = ap joined (get_set_other places n m None apart)

pub opened_other : (places : List (Option ℕ)) (n m s : ℕ) → m ≤ length places → n ≢ m → snapshot_of n (with_opened places m s) ≡ snapshot_of n places
opened_other places n m s within apart = elim (cases_lt m (length places)) [
  | inl low ↦ let test : nat_lt m (length places) ≡ true = grind (arith, nat_tests) in rw test (ap joined (get_set_other places n m (Some s) apart))
  | inr past ↦
      let test : nat_lt m (length places) ≡ false = grind (arith, nat_tests) in
      rw test (ap joined (get_push_other places n (Some s) (λ same. apart (omega arith))))
]

pub opened_here : (places : List (Option ℕ)) (m s : ℕ) → m ≤ length places → snapshot_of m (with_opened places m s) ≡ Some s
opened_here places m s within = elim (cases_lt m (length places)) [
  | inl low ↦ let test : nat_lt m (length places) ≡ true = grind (arith, nat_tests) in rw test (ap joined (get_set_here places m (Some s) low))
  | inr past ↦
      let test : nat_lt m (length places) ≡ false = grind (arith, nat_tests) in
      let is : length places ≡ m = omega arith in
      rw test (subst (λ (n : ℕ). joined (slice_get (places ++ Some s ∷ []) n) ≡ Some s) is (ap joined (get_push_here places (Some s))))
]

-- ---- tickets

-- what is found first is found still, and what is found later by what comes later
later-cases : (b first old new : Bool) → (old ≡ true → new ≡ true) → cond b first old ≡ true → cond b first new ≡ true
later-cases true first old new goes waits = waits
later-cases false first old new goes waits = goes waits

pub awaited-push : (heads : List CommitHead) (head : CommitHead) (time : ℕ) → is_awaited time heads ≡ true → is_awaited time (heads ++ head ∷ []) ≡ true
awaited-push [] head time waits = absurd cc
awaited-push (x ∷ xs) head time waits =
    later-cases (x.time == time) x.awaited (is_awaited time xs) (is_awaited time (xs ++ head ∷ [])) (λ rest. awaited-push xs head time rest) waits

pub awaited-redeemed : (heads : List CommitHead) (time other : ℕ) → time ≢ other → is_awaited time heads ≡ true → is_awaited time (redeemed other heads) ≡ true
awaited-redeemed [] time other apart waits = waits
awaited-redeemed (x ∷ xs) time other apart waits =
    elim (cases_eq x.time other) [
      | inl same ↦
          let there : (x.time == other) ≡ true = grind (arith, nat_tests) in
          let here : (x.time == time) ≡ false = grind (arith, nat_tests) in
          let rest : is_awaited time xs ≡ true = subst (λ (b : Bool). cond b x.awaited (is_awaited time xs) ≡ true) here waits in
          rw (there, here) rest
      | inr differs ↦
          let there : (x.time == other) ≡ false = grind (arith, nat_tests) in
          rw there (later-cases (x.time == time) x.awaited (is_awaited time xs) (is_awaited time (redeemed other xs))
          (λ rest. awaited-redeemed xs time other apart rest) waits)
    ]

last-least : (t : ℕ) (heads : List CommitHead) → IsRisingAfter t heads → t ≤ last_time_after t heads
last-least t [] rising = omega arith
last-least t (y ∷ ys) rising = omega (arith, rising.0, last-least y.time ys rising.2)

pub awaited-early : (t time : ℕ) (heads : List CommitHead) → IsRisingAfter t heads → is_awaited time heads ≡ true → time ≤ last_time_after t heads
awaited-early t time [] rising waits = absurd cc
awaited-early t time (x ∷ xs) rising waits =
    elim (cases_eq x.time time) [
      | inl same ↦ omega (arith, same, last-least x.time xs rising.2)
      | inr other ↦
          let test : (x.time == time) ≡ false = grind (arith, nat_tests) in
          awaited-early x.time time xs rising.2 (subst (λ (b : Bool). cond b x.awaited (is_awaited time xs) ≡ true) test waits)
    ]

-- a new ticket of a later time waits
pub awaited-new : (t : ℕ) (heads : List CommitHead) (time label : ℕ) → IsRisingAfter t heads → last_time_after t heads < time
    → is_awaited time (heads ++ record { time = time; label = label; awaited = true } ∷ []) ≡ true
awaited-new t [] time label rising later = let test : (time == time) ≡ true = grind (arith, nat_tests) in rw test refl
awaited-new t (x ∷ xs) time label rising later =
    let test : (x.time == time) ≡ false = let low = last-least x.time xs rising.2 in let less : x.time < time = omega arith in grind (arith, nat_tests) in
    rw test (awaited-new x.time xs time label rising.2 later)
