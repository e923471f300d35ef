-- Views are answered by the history, after a stop as before it, in either layout.
use Rattle.std.proofs.Common.{◌≡◌, inl, inr, ℕ, zero, suc, ◌≤◌, nat_lt, Bool, true, false, IsTrue, [], ◌∷◌, ◌++◌, take, Option, Some, Result}
use Rattle.std.proofs.Common.{MatchOption, ◌⊎◌, refl, arith, subst}
use Rattle.std.proofs.lemmas.Bool.Decides.{nat_tests}
use Rattle.disk.specs.Calls.{DiskState}
use Rattle.history.specs.declared.key.Key.{Key}
use Rattle.history.specs.Histories.{History, HasRisingTimes, last, last_after}
use Rattle.history.specs.Answers.{at_answer}
use Rattle.history.specs.Floors.{Raising, covers, raised}
use Rattle.history.specs.Fronts.{OnFront}
use Rattle.history.specs.Machine.{Machine, MayRaise, IsMachine}
use Rattle.history.proofs.Histories.{state-append, last_after-append, rising-from_following, times-earlier, may_follow-behind}
use Rattle.law_image.specs.Values.{Value, IsValue}
use Rattle.timequery.specs.View.{ViewValue}
use Rattle.timequery.specs.declared.fault.QueryFault.{QueryFault}
use Rattle.any_store.specs.declared.engine.Engine.TheVariants.{Slots, Log}
use Rattle.any_store.specs.Values.{StoreValue}
use Rattle.any_store.specs.Queries.{IsViewOf, AnswersAtView}
use Rattle.law_refinement.specs.Homes.{IsSure}
use Rattle.law_refinement.specs.Laws.{SaysAt}
use Rattle.law_refinement.proofs.Queries.{recent-answered}
use Rattle.law_opening.specs.Laws.{IsKeptThen}
use Rattle.law_opening.proofs.Fronts.{front-says, by-change}
use Rattle.law_any_store.specs.Standing.{Stands, GoesOn, AnyHeader, opened_as, opened_in}
use Rattle.law_any_store.specs.Opened.{OpensAgain, AnswersBy}
use Rattle.law_any_store.proofs.Memory.{memory-stands}
use Rattle.law_any_store.proofs.Reopened.{reopen-stands}
use Rattle.law_any_store.proofs.Views.{view-of-history, view-goes-on, at-answered, scan_at-answered, between-answered, scan_between-answered}

-- ---- a store's own views

pub stands-answers : (tells : Bool) (v : StoreValue) (m : Machine Value) → Stands tells v m → AnswersBy tells v m.published m.floors
stands-answers tells v m stands = record {
  at = λ view asked new later key time answer is now goes says.
      let of = view-of-history tells v view m stands is in at-answered tells asked new later view m.published m.floors key time answer now of.0
      (view-goes-on tells v asked view m.published m.floors of.1 goes) says;
  scan_at = λ view asked new later relation time answer is now goes says.
      let of = view-of-history tells v view m stands is in scan_at-answered tells asked new later view m.published m.floors relation time answer now of.0
      (view-goes-on tells v asked view m.published m.floors of.1 goes) says;
  recent = λ view key time answer is says. recent-answered view m.published m.floors key time answer (view-of-history tells v view m stands is).0 says;
  between = λ view asked new later key a b answer is now goes says.
      let of = view-of-history tells v view m stands is in between-answered tells asked new later view m.published m.floors key a b answer now of.0
      (view-goes-on tells v asked view m.published m.floors of.1 goes) says;
  scan_between = λ view asked new later relation a b answer is now goes says.
      let of = view-of-history tells v view m stands is in scan_between-answered tells asked new later view m.published m.floors relation a b answer now of.0
      (view-goes-on tells v asked view m.published m.floors of.1 goes) says;
}

-- so does one that was opened on an image with this header
pub opened-answers_as : (tells : Bool) (header : AnyHeader) (again : StoreValue) (h : History Value) (floors : ℕ → ℕ)
    → Stands tells again (opened_as header h floors) → AnswersBy tells again h floors
opened-answers_as tells (Slots header) again h floors now = stands-answers tells again (opened_as (Slots header) h floors) now
opened-answers_as tells (Log roots) again h floors now = stands-answers tells again (opened_as (Log roots) h floors) now

-- or on what a stop left of this store
pub opened-answers : (tells : Bool) (v again : StoreValue) (h : History Value) (floors : ℕ → ℕ) → Stands tells again (opened_in v h floors)
    → AnswersBy tells again h floors
opened-answers tells (Slots s) again h floors now = stands-answers tells again (opened_in (Slots s) h floors) now
opened-answers tells (Log l) again h floors now = stands-answers tells again (opened_in (Log l) h floors) now

pub kept-answers : (tells : Bool) (v : StoreValue) (m : Machine Value) (disk : DiskState) (mark : ℕ) (again : StoreValue)
    → Stands tells v m → IsTrue tells → OpensAgain tells v disk mark again → OnFront (AnswersBy tells again) m
kept-answers tells v m disk mark again stands told opens =
    front-says (λ h floors. Stands tells again (opened_in v h floors)) (AnswersBy tells again) m (λ h floors now. opened-answers tells v again h floors now)
    (reopen-stands tells v m disk mark again stands told opens)

-- ---- answers that stay

rising-take : (t n : ℕ) (h : History Value) → HasRisingTimes t h → HasRisingTimes t (take n h)
rising-take t zero h up = tt
rising-take t (suc n) [] up = tt
rising-take t (suc n) (c ∷ cs) up = (up.0, up.1, rising-take c.time n cs up.2)

no_earlier : (t : ℕ) (h : History Value) → HasRisingTimes t h → t ≤ last_after t h
no_earlier t [] up = omega arith
no_earlier t (c ∷ cs) up = let rest = no_earlier c.time cs up.2 in omega (arith, up.0, rest)

-- a query up to the last time is answered as before, also with more commits
answer-append : (h more : History Value) (floors : ℕ → ℕ) (key : Key) (time : ℕ) → HasRisingTimes (last h) more → time ≤ last h
    → at_answer (h ++ more) floors key time ≡ at_answer h floors key time
answer-append h more floors key time up early =
    let later : last h ≤ last (h ++ more) = let low = no_earlier (last h) more up in omega (arith, low, last_after-append 0 h more) in
    let before : nat_lt (last h) time ≡ false = grind (arith, nat_tests) in
    let after : nat_lt (last (h ++ more)) time ≡ false = let upto : time ≤ last (h ++ more) = omega (arith, later, early) in grind (arith, nat_tests) in
    rw (before, after, state-append h more time key (times-earlier time (last h) more early up)) refl

-- a time that a floor keeps is answered as before it
answer-raised : (m : Machine Value) (r : Raising) (key : Key) (time : ℕ) → MayRaise m r → (IsTrue (covers r.scope key.relation) → r.floor ≤ time)
    → at_answer m.published (raised r.scope r.floor m.floors) key time ≡ at_answer m.published m.floors key time
answer-raised m r key time may keeps = by-scope (covers r.scope key.relation) refl
  where
    by-scope : (b : Bool) → covers r.scope key.relation ≡ b → at_answer m.published (raised r.scope r.floor m.floors) key time
        ≡ at_answer m.published m.floors key time
    by-scope true is =
        let kept = keeps is in
        let low = may.rises key.relation is in
        let now : nat_lt time r.floor ≡ false = grind (arith, nat_tests) in
        let before : nat_lt time (m.floors key.relation) ≡ false =
        (let early : m.floors key.relation ≤ time = omega (arith, low, kept) in grind (arith, nat_tests)) in
        rw (is, now, before) refl
    by-scope false is = rw is refl

pub answers-stay : (tells : Bool) (v : StoreValue) (m : Machine Value) (disk : DiskState) (mark : ℕ) (again asked new : StoreValue) (later : Machine Value)
    (view : ViewValue) (key : Key) (time : ℕ) (answer : Result (Option Value) QueryFault)
    → Stands tells v m → IsTrue tells → OpensAgain tells v disk mark again → IsViewOf again view → Stands tells asked later → GoesOn tells again asked
    → AnswersAtView tells asked view key time answer new
    → time ≤ last m.published → IsKeptThen m key.relation time → SaysAt (IsSure tells view.reclaimed time) (at_answer m.published m.floors key time) answer
answers-stay tells v m disk mark again asked new later view key time answer stands told opens is now goes answers early kept =
    by-front (kept-answers tells v m disk mark again stands told opens)
  where
    machine : IsMachine IsValue m
    machine = (memory-stands tells v m stands).1

    by-opened : AnswersBy tells again (m.published ++ take m.group m.queue) m.floors
        ⊎ ((r : Raising) × (m.raising ≡ Some r) × AnswersBy tells again m.published (raised r.scope r.floor m.floors))
        → SaysAt (IsSure tells view.reclaimed time) (at_answer m.published m.floors key time) answer
    by-opened (inr floor) =
        let r = floor.0 in
        let may : MayRaise m r = subst (λ (o : Option Raising). MatchOption o (Unit {0}) (MayRaise m)) floor.1 machine.raising in
        let keeps : IsTrue (covers r.scope key.relation) → r.floor ≤ time =
        subst (λ (o : Option Raising). MatchOption o (Unit {0}) (λ x. IsTrue (covers x.scope key.relation) → x.floor ≤ time)) floor.1 kept in
        subst (λ said. SaysAt (IsSure tells view.reclaimed time) said answer) (answer-raised m r key time may keeps)
        (floor.2.at view asked new later key time answer is now goes answers)
    by-opened (inl by) =
        let up : HasRisingTimes (last m.published) (take m.group m.queue) =
        rising-take (last m.published) m.group m.queue
        (rising-from_following IsValue m.published m.queue (may_follow-behind IsValue [] m.published m.queue machine.history)) in
        subst (λ said. SaysAt (IsSure tells view.reclaimed time) said answer) (answer-append m.published (take m.group m.queue) m.floors key time up early)
        (by.at view asked new later key time answer is now goes answers)

    by-front : OnFront (AnswersBy tells again) m → SaysAt (IsSure tells view.reclaimed time) (at_answer m.published m.floors key time) answer
    by-front (inl by) = by.at view asked new later key time answer is now goes answers
    by-front (inr opened) = by-opened (by-change (AnswersBy tells again) m m.gate opened)
