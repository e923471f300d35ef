-- What the names of a session stand for, once a name is added, taken off, or stands for another.
use Rattle.std.proofs.Common.{◌≡◌, ℕ, zero, suc, ◌+◌, List, [], ◌∷◌, ◌++◌, length, map, Some, refl, sym, ◌∙◌, ap, subst, arith}
use Rattle.std.specs.Prelude.{slice_get, slice_set, remove}
use Rattle.session.specs.Session.{State}
use Rattle.session.specs.declared.names.OpenName.{OpenName}
use Rattle.session.specs.declared.names.TicketName.{TicketName}
use Rattle.run.specs.declared.held.Held.{Held}
use Rattle.run.specs.declared.held.Held.TheVariants as held
use Rattle.run.specs.Places.{HasNoView}
use Rattle.law_script.specs.ScriptMoments.{held_of, transaction_of, ticket_of}
use Rattle.law_script.proofs.Among.{Among, all, through, keep, skip, swap, after, to-end, from-end, pushed}

-- what the open transactions and the tickets of these names are
abbrev pub held_in : List OpenName → List TicketName → List Held
held_in os ks = map transaction_of os ++ map ticket_of ks

-- names of the same lists stand for the same
pub as-state : (s : State) (os : List OpenName) (ks : List TicketName) (xs : List Held) → s.opened ≡ os → s.tickets ≡ ks → Among (held_in os ks) xs
    → Among (held_of s) xs
as-state s os ks xs opened tickets p =
    subst (λ (l : List OpenName). Among (held_in l s.tickets) xs) (sym opened) (subst (λ (l : List TicketName). Among (held_in os l) xs) (sym tickets) p)

tickets-no_view : (ks : List TicketName) (j : ℕ) (y : Held) → slice_get (map ticket_of ks) j ≡ Some y → HasNoView (Some y)
tickets-no_view [] j y at = absurd cc
tickets-no_view (k ∷ ks) zero y at = let same : Path Held (held.Ticket k.ticket) y = cc in subst (λ (x : Held). HasNoView (Some x)) same tt
tickets-no_view (k ∷ ks) (suc j) y at = tickets-no_view ks j y at

pub held-no_view : (os : List OpenName) (ks : List TicketName) (j : ℕ) (y : Held) → slice_get (held_in os ks) j ≡ Some y → HasNoView (Some y)
held-no_view [] ks j y at = tickets-no_view ks j y at
held-no_view (o ∷ os) ks zero y at = let same : Path Held (held.Transaction o.txn) y = cc in subst (λ (x : Held). HasNoView (Some x)) same tt
held-no_view (o ∷ os) ks (suc j) y at = held-no_view os ks j y at

-- ---- transactions

pub open-held : (os : List OpenName) (ks : List TicketName) (i : ℕ) (e : OpenName) → slice_get os i ≡ Some e → slice_get (held_in os ks) i
    ≡ Some (held.Transaction e.txn)
open-held [] ks i e at = absurd cc
open-held (o ∷ os) ks zero e at = let same : o ≡ e = cc in ap (λ (x : OpenName). Some (held.Transaction x.txn)) same
open-held (o ∷ os) ks (suc i) e at = open-held os ks i e at

open-front : (os : List OpenName) (ks : List TicketName) (e : OpenName) → Among (held_in (os ++ e ∷ []) ks) (transaction_of e ∷ held_in os ks)
open-front [] ks e = all (held_in (e ∷ []) ks)
open-front (o ∷ os) ks e =
    through (held_in (o ∷ os ++ e ∷ []) ks) (transaction_of o ∷ transaction_of e ∷ held_in os ks) (transaction_of e ∷ held_in (o ∷ os) ks)
    (keep (transaction_of o) (held_in (os ++ e ∷ []) ks) (transaction_of e
    ∷ held_in os ks) (open-front os ks e)) (swap (transaction_of o) (transaction_of e) (held_in os ks))

pub open-added : (os : List OpenName) (ks : List TicketName) (e : OpenName) → Among (held_in (os ++ e ∷ []) ks) (held_in os ks ++ transaction_of e ∷ [])
open-added os ks e =
    through (held_in (os ++ e ∷ []) ks) (transaction_of e ∷ held_in os ks) (held_in os ks ++ transaction_of e
    ∷ []) (open-front os ks e) (to-end (transaction_of e) (held_in os ks))

pub open-removed : (os : List OpenName) (ks : List TicketName) (i : ℕ) (e : OpenName) (x : Held) → slice_get os i ≡ Some e
    → Among (held_in (remove os i) ks) (slice_set (held_in os ks) i x)
open-removed [] ks i e x at = absurd cc
open-removed (o ∷ os) ks zero e x at = skip x (held_in os ks) (held_in os ks) (all (held_in os ks))
open-removed (o ∷ os) ks (suc i) e x at = keep (transaction_of o) (held_in (remove os i) ks) (slice_set (held_in os ks) i x) (open-removed os ks i e x at)

-- the name goes to the end
pub open-changed : (os : List OpenName) (ks : List TicketName) (i : ℕ) (e new : OpenName) → slice_get os i ≡ Some e
    → Among (held_in (remove os i ++ new ∷ []) ks) (slice_set (held_in os ks) i (transaction_of new))
open-changed [] ks i e new at = absurd cc
open-changed (o ∷ os) ks zero e new at = open-front os ks new
open-changed (o ∷ os) ks (suc i) e new at =
    keep (transaction_of o) (held_in (remove os i ++ new ∷ []) ks) (slice_set (held_in os ks) i (transaction_of new)) (open-changed os ks i e new at)

-- ---- tickets

pub ticket-held : (os : List OpenName) (ks : List TicketName) (j : ℕ) (e : TicketName) → slice_get ks j ≡ Some e → slice_get (held_in os ks) (length os + j)
    ≡ Some (held.Ticket e.ticket)
ticket-held (o ∷ os) ks j e at =
    let is : length (o ∷ os) + j ≡ suc (length os + j) = omega arith in
    subst (λ (n : ℕ). slice_get (held_in (o ∷ os) ks) n ≡ Some (held.Ticket e.ticket)) (sym is) (ticket-held os ks j e at)
ticket-held [] ks j e at = subst (λ (n : ℕ). slice_get (map ticket_of ks) n ≡ Some (held.Ticket e.ticket)) (sym (zero-first j)) (found ks j at)
  where
    zero-first : (n : ℕ) → 0 + n ≡ n
    zero-first n = omega arith

    found : (ks : List TicketName) (j : ℕ) → slice_get ks j ≡ Some e → slice_get (map ticket_of ks) j ≡ Some (held.Ticket e.ticket)
    found [] j at = absurd cc
    found (k ∷ ks) zero at = let same : k ≡ e = cc in ap (λ (x : TicketName). Some (held.Ticket x.ticket)) same
    found (k ∷ ks) (suc j) at = found ks j at

ticket-set : (os : List OpenName) (ks : List TicketName) (j : ℕ) (x : Held) → slice_set (held_in os ks) (length os + j) x ≡ map transaction_of os
    ++ slice_set (map ticket_of ks) j x
ticket-set [] ks j x = let is : 0 + j ≡ j = omega arith in ap (λ (n : ℕ). slice_set (map ticket_of ks) n x) is
ticket-set (o ∷ os) ks j x =
    let is : length (o ∷ os) + j ≡ suc (length os + j) = omega arith in
    ap (λ (n : ℕ). slice_set (held_in (o ∷ os) ks) n x) is ∙ ap (λ (l : List Held). transaction_of o ∷ l) (ticket-set os ks j x)

tickets-removed : (ks : List TicketName) (j : ℕ) (e : TicketName) (x : Held) → slice_get ks j ≡ Some e
    → Among (map ticket_of (remove ks j)) (slice_set (map ticket_of ks) j x)
tickets-removed [] j e x at = absurd cc
tickets-removed (k ∷ ks) zero e x at = skip x (map ticket_of ks) (map ticket_of ks) (all (map ticket_of ks))
tickets-removed (k ∷ ks) (suc j) e x at = keep (ticket_of k) (map ticket_of (remove ks j)) (slice_set (map ticket_of ks) j x) (tickets-removed ks j e x at)

tickets-pushed : (ks : List TicketName) (e : TicketName) → map ticket_of (ks ++ e ∷ []) ≡ map ticket_of ks ++ ticket_of e ∷ []
tickets-pushed [] e = refl
tickets-pushed (k ∷ ks) e = ap (λ (l : List Held). ticket_of k ∷ l) (tickets-pushed ks e)

tickets-changed : (ks : List TicketName) (j : ℕ) (e new : TicketName) → slice_get ks j ≡ Some e
    → Among (map ticket_of (remove ks j ++ new ∷ [])) (slice_set (map ticket_of ks) j (ticket_of new))
tickets-changed [] j e new at = absurd cc
tickets-changed (k ∷ ks) zero e new at =
    subst (λ (l : List Held). Among l (ticket_of new ∷ map ticket_of ks)) (sym (tickets-pushed ks new)) (from-end (ticket_of new) (map ticket_of ks))
tickets-changed (k ∷ ks) (suc j) e new at =
    keep (ticket_of k) (map ticket_of (remove ks j ++ new ∷ [])) (slice_set (map ticket_of ks) j (ticket_of new)) (tickets-changed ks j e new at)

pub ticket-removed : (os : List OpenName) (ks : List TicketName) (j : ℕ) (e : TicketName) (x : Held) → slice_get ks j ≡ Some e
    → Among (held_in os (remove ks j)) (slice_set (held_in os ks) (length os + j) x)
ticket-removed os ks j e x at =
    subst (λ (l : List Held). Among (held_in os (remove ks j)) l) (sym (ticket-set os ks j x))
    (after (map transaction_of os) (map ticket_of (remove ks j)) (slice_set (map ticket_of ks) j x) (tickets-removed ks j e x at))

pub ticket-changed : (os : List OpenName) (ks : List TicketName) (j : ℕ) (e new : TicketName) → slice_get ks j ≡ Some e
    → Among (held_in os (remove ks j ++ new ∷ [])) (slice_set (held_in os ks) (length os + j) (ticket_of new))
ticket-changed os ks j e new at =
    subst (λ (l : List Held). Among (held_in os (remove ks j ++ new ∷ [])) l) (sym (ticket-set os ks j (ticket_of new)))
    (after (map transaction_of os) (map ticket_of (remove ks j ++ new ∷ [])) (slice_set (map ticket_of ks) j (ticket_of new)) (tickets-changed ks j e new at))

held-pushed : (os : List OpenName) (ks : List TicketName) (e : TicketName) → held_in os (ks ++ e ∷ []) ≡ held_in os ks ++ ticket_of e ∷ []
held-pushed [] ks e = tickets-pushed ks e
held-pushed (o ∷ os) ks e = ap (λ (l : List Held). transaction_of o ∷ l) (held-pushed os ks e)

pub ticket-added : (os : List OpenName) (ks : List TicketName) (e : TicketName) (xs : List Held) → Among (held_in os ks) xs
    → Among (held_in os (ks ++ e ∷ [])) (xs ++ ticket_of e ∷ [])
ticket-added os ks e xs p = subst (λ (l : List Held). Among l (xs ++ ticket_of e ∷ [])) (sym (held-pushed os ks e)) (pushed (ticket_of e) (held_in os ks) xs p)
