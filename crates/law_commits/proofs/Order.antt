-- The versions behind the whole commit order, from the reclaim mark on.
use Rattle.std.proofs.Common.{◌≡◌, ℕ, ◌≤◌, nat_lt, false, List, ◌++◌, arith, ap, sym, subst, ◌∙◌}
use Rattle.std.proofs.lemmas.Bool.Decides.{nat_tests}
use Rattle.history.specs.declared.key.Key.{Key}
use Rattle.history.specs.Histories as histories
use Rattle.history.specs.Histories.{History, HasRisingTimes, last}
use Rattle.history.specs.Machine.{Machine, commit_order, IsMachine}
use Rattle.history.proofs.Orders.{not_lt}
use Rattle.law_image.specs.Values.{Value, IsValue}
use Rattle.chains.specs.Writes as chains
use Rattle.chains.specs.Writes.{Write}
use Rattle.chains.specs.KeyWrites.{KeyWrites, writes_of, IsOrdered, forgotten}
use Rattle.chains.proofs.Order.{ordered-forgotten}
use Rattle.chains.proofs.Versions.{writes_of-forgotten}
use Rattle.commits.specs.Values.{CommitsValue, WaitingValue, versions_after, mark_after, ordered}
use Rattle.law_refinement.specs.Standing.{HasWrites, HasForgotten}
use Rattle.law_refinement.proofs.Held.{rising-held, last-held, many-more}
use Rattle.law_refinement.proofs.KeptWrites.{later-kept}
use Rattle.law_refinement.proofs.Conflicts.{rising-front}
use Rattle.law_refinement.proofs.Conflicts as conflicts
use Rattle.law_refinement.proofs.Waiting.{AreRising}
use Rattle.law_refinement.proofs.Submitting.{order-rising}
use Rattle.law_commits.specs.Standing.{AllWait, StandsInMemory}
use Rattle.law_commits.proofs.Waiting.{kept-behind, ordered-behind, rising-behind, forgot-behind}

-- what waits adds its writes, where the versions behind it have forgotten what ended by the mark
pub writes-behind : (mark : ℕ) (versions : List KeyWrites) (ws : List WaitingValue) (cs : History Value) (key : Key) → HasForgotten mark versions
    → mark_after mark ws ≡ mark → AllWait mark versions ws cs
    → writes_of (versions_after versions ws) key ≡ writes_of versions key ++ histories.writes_of cs key
writes-behind mark versions ws cs key forgot fresh all =
    sym (subst (λ (n : ℕ). HasForgotten n (versions_after versions ws)) fresh (forgot-behind mark mark versions ws cs forgot all) key)
    ∙ kept-behind mark versions ws cs key all
    ∙ ap (λ (l : List Write). l ++ histories.writes_of cs key) (forgot key)

-- the versions after some that wait are those of the commits, from the mark on
ordered-has : (floors : ℕ → ℕ) (reclaimed : ℕ) (before : History Value) (versions : List KeyWrites) (ws : List WaitingValue) (cs : History Value)
    → HasWrites floors reclaimed versions before → HasForgotten reclaimed versions → AllWait reclaimed versions ws cs
    → HasRisingTimes 0 (before ++ cs) → ((relation : ℕ) → floors relation ≤ last before)
    → HasWrites floors reclaimed (forgotten reclaimed (versions_after versions ws)) (before ++ cs)
ordered-has floors reclaimed before versions ws cs has forgot all rising reached =
    let sorted : IsOrdered (versions_after versions ws) = ordered-behind reclaimed versions ws cs has.ordered all in
    many-more has (rising-front 0 before cs rising) (forgotten reclaimed (versions_after versions ws)) cs reached (conflicts.rising-behind 0 before cs rising)
    (ordered-forgotten reclaimed (versions_after versions ws) sorted)
    (λ key.
    writes_of-forgotten reclaimed (versions_after versions ws) key sorted
    ∙ kept-behind reclaimed versions ws cs key all
    ∙ ap (λ (l : List Write). l ++ histories.writes_of cs key) (forgot key))

-- ---- those of a store

module _ (v : CommitsValue) (m : Machine Value) (stands : StandsInMemory v m) (machine : IsMachine IsValue m) where
  pub published-rises : HasRisingTimes 0 m.published
  published-rises = rising-front 0 m.published m.queue (order-rising m machine)

  -- the versions that are ordered are those of the commit order, from the mark on
  pub order-has : HasWrites m.floors v.reclaimed (forgotten v.reclaimed (ordered v)) (commit_order m)
  order-has =
      ordered-has m.floors v.reclaimed m.published v.versions v.queue m.queue stands.versions stands.forgot stands.queue (order-rising m machine)
      machine.floors_reached

  pub order-sorted : IsOrdered (ordered v)
  order-sorted = ordered-behind v.reclaimed v.versions v.queue m.queue stands.versions.ordered stands.queue

  pub order-rises : AreRising (ordered v)
  order-rises = rising-behind v.reclaimed v.versions v.queue m.queue (rising-held stands.versions published-rises) stands.queue

  -- none of these is of a later commit than the last
  pub order-upto : (key : Key) → chains.last_time (writes_of (ordered v) key) ≤ last (commit_order m)
  order-upto key =
      let low = last-held order-has (order-rising m machine) key in
      let none : nat_lt (last (commit_order m)) (chains.last_time (writes_of (ordered v) key)) ≡ false =
      sym (later-kept (last (commit_order m)) v.reclaimed (writes_of (ordered v) key) order-has.marked (order-rises key))
      ∙ ap (λ (ws : List Write). nat_lt (last (commit_order m)) (chains.last_time ws))
      (sym (writes_of-forgotten v.reclaimed (ordered v) key order-sorted))
      ∙ not_lt low in
      grind (arith, nat_tests)
