-- An acknowledged commit is read after every later stop.
use Rattle.std.proofs.Common.{◌≡◌, inl, inr, ◌≤◌, ℕ, suc, Bool, IsTrue, [], ◌∷◌, Option, Some, None, MatchOption, ap, sym, subst, ◌∙◌, arith}
use Rattle.std.specs.Prelude.{Contains}
use Rattle.std.proofs.lemmas.List.Elements.{Contains-append_left}
use Rattle.history.specs.declared.key.Key.{Key}
use Rattle.history.specs.Key.{write_in}
use Rattle.history.specs.Floors.{Raising, covers}
use Rattle.history.specs.Histories.{Commit, History, last, last_after, HasRisingTimes}
use Rattle.history.specs.Machine.{Machine, IsMachine, MayRaise}
use Rattle.history.specs.Submissions.{time_now}
use Rattle.history.proofs.Histories.{rising-from_following, may_follow-behind, last_after-append}
use Rattle.history.proofs.Members.{Contains-cons_cases, Contains-nil}
use Rattle.law_image.specs.Values.{Value, IsValue}
use Rattle.run.specs.Traces.{Trace, moment_at, machine_at}
use Rattle.law_client.specs.Public.{Public}
use Rattle.run.specs.Laws.{IsKeptTime}
use Rattle.law_client.specs.Kept.{IsUnchanged, DoneIsRead, DoneIsKept, DoneIsUnchanged, PutIsRead, DeleteIsRead}
use Rattle.law_client.specs.Settled.{IsSettled, PutSettles}
use Rattle.law_client.proofs.Reading.{KeptLike, last-later, survivor-has}
use Rattle.law_client.proofs.Settling.{shown-is, goes-on, settled-read, times-stay}

-- ---- a published commit

commit-by_last : {V : Type 0} (t : ℕ) (h : History V) (c : Commit V) → HasRisingTimes t h → Contains h c → c.time ≤ last_after t h
commit-by_last t [] c up has = absurd (Contains-nil c has)
commit-by_last t (x ∷ xs) c up has = elim (Contains-cons_cases x xs c has) as (λ o. c.time ≤ last_after x.time xs) [
  | inl is ↦ omega (arith, ap (λ y. y.time) is, last-later x.time xs up.2)
  | inr more ↦ commit-by_last x.time xs c up.2 more
]

-- it stays published
published-on : Public → {tells : Bool} (t : Trace tells) (p q : ℕ) (c : Commit Value) → p ≤ q → Contains (machine_at t p).published c
    → Contains (machine_at t q).published c
published-on public t p q c low has =
    let on = goes-on public t p q low in
    subst (λ (h : History Value). Contains h c) (sym on.is) (Contains-append_left (machine_at t p).published on.more c has)

-- and settles what it wrote
commit-settles : Public → {tells : Bool} (t : Trace tells) (p n : ℕ) (c : Commit Value) (key : Key) (write : Option Value) (upto : ℕ) → p ≤ n
    → Contains (machine_at t p).published c → write_in c.writes key ≡ Some write → IsUnchanged t n key c.time upto
    → IsSettled (machine_at t n) key upto write
commit-settles public t p n c key write upto low has wrote same = record {
  kept = same.kept;
  reached = same.published;
  is = public.writes (machine_at t n).published c key write upto (shown-is public t n) (published-on public t p n c low has) wrote same.later same.unwritten;
}

pub done-read : Public → DoneIsRead
done-read public tells t i k time told done =
    let submit = public.done tells t i k time done in (
      submit.0,
      submit.1,
      submit.3,
      λ n image key write upto low stop wrote same.
          let settled =
          commit-settles public t k n submit.0 key write upto low submit.4 wrote (subst (λ (from : ℕ). IsUnchanged t n key from upto) (sym submit.1) same)
          in
          settled-read public tells t n key upto write image told settled same.kept_next stop,
    )

pub done-kept : Public → DoneIsKept
done-kept public tells t i k time told done =
    let submit = public.done tells t i k time done in (
      submit.0,
      submit.1,
      submit.3,
      λ n image low stop. elim (public.stops tells t n image told stop) as (λ o. KeptLike tells image (λ h floors. Contains h submit.0)) [
        | inl here ↦ survivor-has tells (moment_at t n) image submit.0 (published-on public t k n submit.0 low submit.4) here
        | inr there ↦ survivor-has tells (moment_at t (suc n)) image submit.0 (published-on public t k (suc n) submit.0 (omega (arith, low)) submit.4) there
      ],
    )

-- ---- its own time

-- what is queued is later than each floor, and than the one in the making
raising-earlier : (m : Machine Value) (time relation : ℕ) (o : Option Raising) → last m.published ≤ time → MatchOption o (Unit {0}) (MayRaise m)
    → MatchOption o (Unit {0}) (λ r. IsTrue (covers r.scope relation) → r.floor ≤ time)
raising-earlier m time relation None later may = tt
raising-earlier m time relation (Some r) later may = λ covered. omega (arith, may.upto_last, later)

kept-at_last : (m : Machine Value) (time relation : ℕ) → IsMachine IsValue m → last m.published ≤ time → IsKeptTime m relation time
kept-at_last m time relation is later = (omega (arith, is.floors_reached relation, later), raising-earlier m time relation m.raising later is.raising)

now-later : (m : Machine Value) (now : ℕ) → IsMachine IsValue m → last m.published ≤ time_now m now
now-later m now is =
    let behind = rising-from_following IsValue m.published m.queue (may_follow-behind IsValue [] m.published m.queue is.history) in
    omega (arith, last_after-append 0 m.published m.queue, last-later (last m.published) m.queue behind)

pub done-unchanged : Public → DoneIsUnchanged
done-unchanged public tells t i k n time key done low floors =
    let found = public.done tells t i k time done in
    let submit = found.3 in
    let machine = (public.runs tells t i i (omega arith)).0 in
    let stamped : time ≡ time_now (machine_at t i) submit.now = sym found.1 ∙ ap (λ (c : Commit Value). c.time) submit.made in
    let late : last (machine_at t i).published ≤ time = omega (arith, now-later (machine_at t i) submit.now machine, stamped) in
    let kept : IsKeptTime (machine_at t i) key.relation time = kept-at_last (machine_at t i) time key.relation machine late in
    let history = shown-is public t n in
    let by = commit-by_last 0 (machine_at t n).published found.0 (rising-from_following IsValue [] (machine_at t n).published history)
    (published-on public t k n found.0 low found.4) in
    record {
      later = omega arith;
      published = omega (arith, by, found.1);
      unwritten = λ c has later upto. absurd (omega (arith, later, upto));
      kept = times-stay public tells t i n key.relation time (omega (
        arith,
        found.2,
        low,
      )) kept (λ j scope floor from upto is. floors j scope floor from (omega (arith, upto)) is);
      kept_next = times-stay public tells t i (suc n) key.relation time (omega (arith, found.2, low)) kept floors;
    }

-- ---- a put

pub put-settles : Public → PutSettles
put-settles public tells t k time n upto key value done low same =
    let submit = public.done tells t done.submit k time done.is_done in
    let wrote : write_in submit.0.writes key ≡ Some (Some value) =
    public.put tells t done.submit done.put done.transaction done.label done.now submit.0 key done.fields done.said submit.3 done.is_submit done.earlier
    done.is_put done.last ∙ ap (λ (v : Value). Some (Some v)) (sym done.is_value) in
    commit-settles public t k n submit.0 key (Some value) upto low submit.4 wrote (subst (λ (from : ℕ). IsUnchanged t n key from upto) (sym submit.1) same)

pub put-read : Public → PutIsRead
put-read public tells t k time n upto key value image told done low stop same =
    settled-read public tells t n key upto (Some value) image told (put-settles public tells t k time n upto key value done low same) same.kept_next stop

pub delete-read : Public → DeleteIsRead
delete-read public tells t k time n upto key image told done low stop same =
    let submit = public.done tells t done.submit k time done.is_done in
    let wrote : write_in submit.0.writes key ≡ Some None =
    public.delete tells t done.submit done.delete done.transaction done.label done.now done.snapshot done.writes submit.0 key done.said submit.3 done.is_submit
    done.earlier done.is_delete done.last done.running done.had in
    let settled =
    commit-settles public t k n submit.0 key None upto low submit.4 wrote (subst (λ (from : ℕ). IsUnchanged t n key from upto) (sym submit.1) same) in
    settled-read public tells t n key upto None image told settled same.kept_next stop
