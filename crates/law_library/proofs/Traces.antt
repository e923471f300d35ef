-- The moments of a list of events.
use Rattle.std.proofs.Common.{◌≡◌, ℕ, zero, suc, List, [], ◌∷◌, length, Some, refl, sym, ◌∙◌, ap, subst}
use Rattle.std.specs.Prelude.{slice_get}
use Rattle.law_library.specs.Answers.{EventsHaveMoments, HostTrace, IsNext}
use Rattle.law_library.specs.Hosts.{Host, Event, HostStep, HostRun, acknowledged_by}
use Rattle.law_library.specs.Moments.{HostMoment, IsHostMoment}
use Rattle.law_library.specs.Promise.{HostLink}
use Rattle.law_library.proofs.Events.{event-leads, opens}

abbrev pub with_first : HostMoment → (ℕ → HostMoment) → ℕ → HostMoment
with_first m rest zero = m
with_first m rest (suc n) = rest n

-- from this moment to this host
record TraceTo (events : List Event) (m : HostMoment) (host : Host) : Type 0 where
  pub trace : HostTrace events
  pub first : trace.moment 0 ≡ m
  pub ends : (trace.moment (length events)).host ≡ host
  pub done : (trace.moment (length events)).at.done ≡ acknowledged_by events m.at.done

linked : (e : Event) (m : HostMoment) (new : Host) → HostStep e m.host new → (link : HostLink e m new) → IsNext e m link.after
linked e m new step link =
    record { step = subst (λ (x : Host). HostStep e m.host x) (sym link.host) step; done = link.done; follows = link.follows; is = link.is }

one-more : (e : Event) (es : List Event) (m : HostMoment) (rest : HostTrace es) → IsHostMoment m → IsNext e m (rest.moment 0) → HostTrace (e ∷ es)
one-more e es m rest is first = record { moment = with_first m rest.moment; first = is; next = next }
  where
    next : (i : ℕ) (x : Event) → slice_get (e ∷ es) i ≡ Some x → IsNext x (with_first m rest.moment i) (with_first m rest.moment (suc i))
    next zero x at = let same : e ≡ x = cc in subst (λ (y : Event). IsNext y m (rest.moment 0)) same first
    next (suc i) x at = rest.next i x at

trace-of : (events : List Event) (m : HostMoment) (host : Host) → IsHostMoment m → HostRun events m.host host → TraceTo events m host
unfolding one-more
trace-of [] m host is run =
    record { trace = record { moment = λ n. m; first = is; next = λ i e at. absurd cc }; first = refl; ends = sym run; done = refl }
trace-of (e ∷ es) m host is run =
    let link = event-leads e m run.0 is run.1 in
    let rest = trace-of es link.after host link.is (subst (λ (x : Host). HostRun es x host) (sym link.host) run.2) in
    record {
      trace = one-more e es m rest.trace is (subst (λ (x : HostMoment). IsNext e m x) (sym rest.first) (linked e m run.0 run.1 link));
      first = refl;
      ends = rest.ends;
      done = rest.done ∙ ap (λ (l : List ℕ). acknowledged_by es l) link.done;
    }

pub moments : EventsHaveMoments
moments status heap archive mark info e header h floors events host s hp a image opens_so run =
    let first = opens status heap archive mark info e header h floors s hp a image opens_so in
    let m : HostMoment = first.0 in
    let to = trace-of events m host first.4 (subst (λ (x : Host). HostRun events x host) (sym first.1) run) in (
      to.trace,
      record {
        start_is = ap (λ (x : HostMoment). x.host) to.first ∙ first.1;
        machine = ap (λ (x : HostMoment). x.at.world.machine) to.first ∙ first.3;
        none_done = ap (λ (x : HostMoment). x.at.done) to.first ∙ first.2;
        end_is = to.ends;
        all_done = to.done ∙ ap (λ (l : List ℕ). acknowledged_by events l) first.2;
      },
    )
