-- Views are answered by the history, after a stop as before it.
use Rattle.std.proofs.Common.{◌≡◌, inl, inr, ℕ, zero, suc, ◌≤◌, ◌==◌, nat_lt, Bool, true, false, IsTrue, List, [], ◌∷◌, ◌++◌, map, take, Option, Result, Ok}
use Rattle.std.proofs.Common.{◌⊎◌, MatchOption, refl, arith, ap, sym, subst, ◌∙◌}
use Rattle.std.specs.List.{filter}
use Rattle.std.proofs.lemmas.Bool.Decides.{nat_tests}
use Rattle.std.specs.declared.alloc.Global.{Global}
use Rattle.std.specs.declared.vec.Vec.{Vec}
use Rattle.std.proofs.lemmas.List.{append-nil, map-append}
use Rattle.std.proofs.lemmas.List.Elements.{filter-append}
use Rattle.disk.specs.Calls.{DiskState}
use Rattle.history.specs.declared.key.Key.{Key}
use Rattle.history.specs.Histories.{Commit, History, HasRisingTimes, last, last_after}
use Rattle.history.specs.Answers.{at_answer, times_of}
use Rattle.history.specs.Floors.{Raising, covers, raised}
use Rattle.history.specs.Fronts.{OnFront, with_group}
use Rattle.history.specs.Machine.{Machine, MayRaise, opened_by}
use Rattle.history.proofs.Histories.{state-append, last_after-append, rising-from_following, times-earlier, may_follow-behind}
use Rattle.law_image.specs.Values.{Value, IsValue}
use Rattle.timequery.specs.View.{ViewValue}
use Rattle.timequery.specs.declared.fault.QueryFault.{QueryFault}
use Rattle.log_store.specs.Values.{LogStoreValue, IsInStep}
use Rattle.log_store.specs.Names.{AnswersTimes}
use Rattle.log_store.specs.Queries.{IsViewOf, AnswersAtView}
use Rattle.law_refinement.specs.Homes.{IsSure}
use Rattle.law_refinement.specs.Laws.{SaysAt}
use Rattle.law_refinement.proofs.Growing.{front-map}
use Rattle.law_refinement.proofs.Queries.{recent-answered}
use Rattle.law_log_queries.specs.Archive.{Stands, GoesOn}
use Rattle.law_log_queries.proofs.Times.{times-answered}
use Rattle.law_log_queries.proofs.Views.{view-of-history, view-goes-on, at-answered, scan_at-answered, between-answered, scan_between-answered}
use Rattle.law_log_opened.specs.Laws.{OpensAgain}
use Rattle.law_log_opened.specs.Answers.{AnswersBy, IsKeptThen}
use Rattle.law_log_opened.proofs.Fronts.{WithFloor, each-front}
use Rattle.law_log_opened.proofs.Reopened.{reopen-stands}

-- ---- a store's own views

pub stands-answers : (tells : Bool) (v : LogStoreValue) (m : Machine Value) → Stands tells v m → AnswersBy tells v m.published m.floors
stands-answers tells v m stands = record {
  at = λ view asked new later key time answer is now goes says.
      let of = view-of-history tells v view m stands is in at-answered tells asked new later view m.published m.floors now of.0
      (view-goes-on tells v asked view m.published m.floors of.1 goes) key time answer says;
  scan_at = λ view asked new later relation time answer is now goes says.
      let of = view-of-history tells v view m stands is in scan_at-answered tells asked new later view m.published m.floors now of.0
      (view-goes-on tells v asked view m.published m.floors of.1 goes) relation time answer says;
  recent = λ view key time answer is says. recent-answered view m.published m.floors key time answer (view-of-history tells v view m stands is).0 says;
  between = λ view asked new later key a b answer is now goes says.
      let of = view-of-history tells v view m stands is in between-answered tells asked new later view m.published m.floors now of.0
      (view-goes-on tells v asked view m.published m.floors of.1 goes) key a b answer says;
  scan_between = λ view asked new later relation a b answer is now goes says.
      let of = view-of-history tells v view m stands is in scan_between-answered tells asked new later view m.published m.floors now of.0
      (view-goes-on tells v asked view m.published m.floors of.1 goes) relation a b answer says;
}

pub kept-answers : (tells : Bool) (v : LogStoreValue) (m : Machine Value) (disk : DiskState) (mark : ℕ) (again : LogStoreValue)
    → IsInStep v → Stands tells v m → IsTrue tells → OpensAgain tells v disk mark again → OnFront (AnswersBy tells again) m
kept-answers tells v m disk mark again step stands told opens =
    front-map (λ h floors. Stands tells again (opened_by 1024 h floors)) (AnswersBy tells again) m
    (λ h floors now. stands-answers tells again (opened_by 1024 h floors) now)
    (reopen-stands tells v m disk mark again step stands told opens)

-- ---- answers that stay

rising-take : (t n : ℕ) (h : History Value) → HasRisingTimes t h → HasRisingTimes t (take n h)
rising-take t zero h up = tt
rising-take t (suc n) [] up = tt
rising-take t (suc n) (c ∷ cs) up = (up.0, up.1, rising-take c.time n cs up.2)

no_earlier : (t : ℕ) (h : History Value) → HasRisingTimes t h → t ≤ last_after t h
no_earlier t [] up = omega arith
no_earlier t (c ∷ cs) up = let rest = no_earlier c.time cs up.2 in omega (arith, up.0, rest)

-- a query up to the last time is answered as before, also with more commits
answer-append : (h more : History Value) (floors : ℕ → ℕ) (key : Key) (time : ℕ) → HasRisingTimes (last h) more → time ≤ last h
    → at_answer (h ++ more) floors key time ≡ at_answer h floors key time
answer-append h more floors key time up early =
    let later : last h ≤ last (h ++ more) = let low = no_earlier (last h) more up in omega (arith, low, last_after-append 0 h more) in
    let before : nat_lt (last h) time ≡ false = grind (arith, nat_tests) in
    let after : nat_lt (last (h ++ more)) time ≡ false = let upto : time ≤ last (h ++ more) = omega (arith, later, early) in grind (arith, nat_tests) in
    rw (before, after, state-append h more time key (times-earlier time (last h) more early up)) refl

-- a time that a floor keeps is answered as before it
answer-raised : (m : Machine Value) (r : Raising) (key : Key) (time : ℕ) → MayRaise m r → (IsTrue (covers r.scope key.relation) → r.floor ≤ time)
    → at_answer m.published (raised r.scope r.floor m.floors) key time ≡ at_answer m.published m.floors key time
answer-raised m r key time may keeps = by-scope (covers r.scope key.relation) refl
  where
    by-scope : (b : Bool) → covers r.scope key.relation ≡ b → at_answer m.published (raised r.scope r.floor m.floors) key time
        ≡ at_answer m.published m.floors key time
    by-scope true is =
        let kept = keeps is in
        let low = may.rises key.relation is in
        let now : nat_lt time r.floor ≡ false = grind (arith, nat_tests) in
        let before : nat_lt time (m.floors key.relation) ≡ false =
        (let early : m.floors key.relation ≤ time = omega (arith, low, kept) in grind (arith, nat_tests)) in
        rw (is, now, before) refl
    by-scope false is = rw is refl

pub answers-stay : (tells : Bool) (v : LogStoreValue) (m : Machine Value) (disk : DiskState) (mark : ℕ) (again asked new : LogStoreValue)
    (later : Machine Value) (view : ViewValue) (key : Key) (time : ℕ) (answer : Result (Option Value) QueryFault)
    → IsInStep v → Stands tells v m → IsTrue tells → OpensAgain tells v disk mark again → IsViewOf again view → Stands tells asked later
    → GoesOn tells again asked → AnswersAtView tells asked view key time answer new
    → time ≤ last m.published → IsKeptThen m key.relation time → SaysAt (IsSure tells view.reclaimed time) (at_answer m.published m.floors key time) answer
answers-stay tells v m disk mark again asked new later view key time answer step stands told opens is now goes answers early kept =
    by-front (each-front (AnswersBy tells again) m (kept-answers tells v m disk mark again step stands told opens))
  where
    by-front : AnswersBy tells again m.published m.floors ⊎ AnswersBy tells again (with_group m) m.floors ⊎ WithFloor (AnswersBy tells again) m
        → SaysAt (IsSure tells view.reclaimed time) (at_answer m.published m.floors key time) answer
    by-front (inl by) = by.at view asked new later key time answer is now goes answers
    by-front (inr (inr floor)) =
        let r = floor.0 in
        let may : MayRaise m r = subst (λ (o : Option Raising). MatchOption o (Unit {0}) (MayRaise m)) floor.1 stands.store.machine.raising in
        let keeps : IsTrue (covers r.scope key.relation) → r.floor ≤ time =
        subst (λ (o : Option Raising). MatchOption o (Unit {0}) (λ x. IsTrue (covers x.scope key.relation) → x.floor ≤ time)) floor.1 kept in
        subst (λ said. SaysAt (IsSure tells view.reclaimed time) said answer) (answer-raised m r key time may keeps)
        (floor.2.at view asked new later key time answer is now goes answers)
    by-front (inr (inl by)) =
        let up : HasRisingTimes (last m.published) (take m.group m.queue) =
        rising-take (last m.published) m.group m.queue
        (rising-from_following IsValue m.published m.queue (may_follow-behind IsValue [] m.published m.queue stands.store.machine.history)) in
        subst (λ said. SaysAt (IsSure tells view.reclaimed time) said answer) (answer-append m.published (take m.group m.queue) m.floors key time up early)
        (by.at view asked new later key time answer is now goes answers)

-- ---- labels

times-append : (label : ℕ) (h more : History Value) → times_of (h ++ more) label ≡ times_of h label ++ times_of more label
times-append label h more =
    ap (λ (l : History Value). map (λ (c : Commit Value). c.time) l) (filter-append (λ (c : Commit Value). c.label == label) h more)
    ∙ map-append (λ (c : Commit Value). c.time) (filter (λ (c : Commit Value). c.label == label) h) (filter (λ (c : Commit Value). c.label == label) more)

-- what is told is what the history has
told-of : (tells : Bool) (v new : LogStoreValue) (m : Machine Value) (label : ℕ) (found : Vec ℕ Global) → IsTrue tells → Stands tells v m
    → AnswersTimes tells v label (Ok found) new → found.items ≡ times_of m.published label
told-of tells v new m label found told stands says = (times-answered tells v m label stands new (Ok found) says).0 (λ heap. told)

pub labels-stay : (tells : Bool) (v asked : LogStoreValue) (m : Machine Value) (disk : DiskState) (mark : ℕ) (again new : LogStoreValue) (label : ℕ)
    (before after : Vec ℕ Global) → IsInStep v → Stands tells v m → IsTrue tells → OpensAgain tells v disk mark again
    → AnswersTimes tells v label (Ok before) asked → AnswersTimes tells again label (Ok after) new → (more : List ℕ) × (after.items ≡ before.items ++ more)
labels-stay tells v asked m disk mark again new label before after step stands told opens then now =
    by-front
    (each-front (λ h floors. Stands tells again (opened_by 1024 h floors)) m (reopen-stands tells v m disk mark again step stands told opens))
  where
    was : before.items ≡ times_of m.published label
    was = told-of tells v asked m label before told stands then

    same : (floors : ℕ → ℕ) → Stands tells again (opened_by 1024 m.published floors) → (more : List ℕ) × (after.items ≡ before.items ++ more)
    same floors is = (
      [],
      told-of tells again new (opened_by 1024 m.published floors) label after told is now ∙ sym was ∙ sym (append-nil before.items),
    )

    by-front : Stands tells again (opened_by 1024 m.published m.floors) ⊎ Stands tells again (opened_by 1024 (with_group m) m.floors)
        ⊎ WithFloor (λ h floors. Stands tells again (opened_by 1024 h floors)) m
        → (more : List ℕ) × (after.items ≡ before.items ++ more)
    by-front (inl is) = same m.floors is
    by-front (inr (inr floor)) = same (raised (floor.0).scope (floor.0).floor m.floors) floor.2
    by-front (inr (inl is)) =
        let group : History Value = take m.group m.queue in (
          times_of group label,
          told-of tells again new (opened_by 1024 (with_group m) m.floors) label after told is now ∙ times-append label m.published group
              ∙ ap (λ (ts : List ℕ). ts ++ times_of group label) (sym was),
        )
