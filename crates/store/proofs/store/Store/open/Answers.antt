use Rattle.std.proofs.Common.{◌≡◌, ℕ, List, map, length, min, false, refl, sym, ◌∙◌, ap, subst, arith}
use Rattle.std.proofs.lemmas.List.{length-map}
use Rattle.status.specs.Header.{total}
use Rattle.recovery.specs.declared.recovered.Recovered.{Recovered}
use Rattle.store.specs.Heads.{head_as}
use Rattle.store.specs.Opens.{times_of}
use Rattle.group.specs.declared.commit_order.CommitHead.{CommitHead}
use Rattle.group.specs.CommitOrder.{IsRisingAfter, last_time}
use Rattle.status.specs.TurnState.{LogState}
use Rattle.store.proofs.Opened.{rising-opened, last-opened}
use Rattle.store.proofs.store.Store.open.Goals as goal

pub of_recovered-requires-clause-rising : goal.of_recovered-requires-clause-rising
of_recovered-requires-clause-rising g c =
    subst (λ (heads : List CommitHead). IsRisingAfter 0 heads) (sym c.in-Ok-commits_of.ensures.heads)
    (rising-opened 0 c.in-Ok.recovered.commits.items c.in-Ok.ensures.rising)

pub of_recovered-requires-clause-latest : goal.of_recovered-requires-clause-latest
of_recovered-requires-clause-latest g c =
    let last = ap last_time c.in-Ok-commits_of.ensures.heads ∙ last-opened 0 c.in-Ok.recovered.commits.items in
    omega (arith, last, c.in-Ok.ensures.latest, c.in-Ok.ensures.last)

pub of_recovered-requires-clause-room : goal.of_recovered-requires-clause-room
of_recovered-requires-clause-room g c =
    omega (arith, c.slots-slots.ensures, ap (λ (l : LogState). l.slots) c.new-log.ensures, c.in-Ok.ensures.used.0, c.in-Ok.ensures.used.1)

pub returns-clause-ok : goal.returns-clause-ok
returns-clause-ok g c =
    let r = c.in-Ok.recovered in
    let heads_are : c.in-Ok-commits_of.heads.items ≡ map head_as r.commits.items = c.in-Ok-commits_of.ensures.heads in
    let all : min (total r.header) 65536 ≡ total r.header = omega (arith, c.in-Ok.ensures.used.1) in
    let few : min r.header.pieces 256 ≡ r.header.pieces = omega (arith, c.in-Ok.ensures.used.1) in
    let log_is : c.new-log.result ≡ logged r (total r.header) r.header.pieces = c.new-log.ensures ∙ (λ i. logged r (all i) (few i)) in
    let many : length (map head_as r.commits.items) ≡ length r.commits.items = length-map r.commits.items head_as in
    let slots_are : c.slots-slots.result ≡ total r.header = c.slots-slots.ensures ∙ ap (λ (l : LogState). l.slots) log_is in
    let times_are : c.in-Ok-commits_of.times ≡ times_of r.live.items = c.in-Ok-commits_of.ensures.times in
    record {
      recovered = r;
      read = c.in-Ok.ensures.found;
      new_is = rw (
        log_is,
        c.of_recovered.ensures,
        slots_are,
        heads_are,
        many,
        c.in-Ok-new.ensures.upto,
        c.in-Ok-new.ensures.end,
        c.in-Ok.ensures.runs_end,
        times_are,
      ) refl;
      marked = c.in-Ok.ensures.runs.1;
      unread = c.in-Ok-new.ensures.unread;
      ordered = rw c.of_recovered.ensures c.is_empty-none.ensures.ordered;
      settled = c.in-Ok.ensures.settled;
      left = c.in-Ok.ensures.left;
      moments = c.in-Ok.ensures.moments;
      made = c.in-Ok.ensures.made;
      refused = c.in-Ok.ensures.refused;
    }
  where
    logged : Recovered → ℕ → ℕ → LogState
    logged r n pieces = record { profile = r.header.profile; slots = n; pieces = pieces; used = r.used; writing = false }
