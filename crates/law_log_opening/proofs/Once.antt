-- Opening reads one log at most, and where a check fails it is one, told with one extent.
use Rattle.std.proofs.Common.{◌≡◌, ℕ, ◌^◌, ◌<◌, List, [], sym, subst, ◌∙◌}
use Rattle.law_log_layout.specs.HeapLog.{PlacedAnchors, PlacedChain}
use Rattle.log_recovery.specs.Anchored.{AreRightAnchors, FailsAnchors, anchor_names}
use Rattle.log_recovery.specs.Chains.{FailsChain, HasOpenGate, HoldsChains, numbers_of}
use Rattle.log_recovery.specs.Ends.{EndsRight}
use Rattle.log_recovery.specs.Members.{FailsMembers, values_of}
use Rattle.log_recovery.specs.Opening.{AtAnchors, AtChain, AtEnd, AtMembers, AtRule, FailsHeap, HoldsAnchors, HoldsHeap, HoldsMembers, KeepsRules}
use Rattle.log_recovery.specs.Rules.{FailsRule, mark_of}
use Rattle.law_log_opening.proofs.OneFault.{anchors-fail-once, anchors-same, members-fail-once, members-stored, rule-once, rules-kept}
use Rattle.law_log_opening.proofs.OneWalk.{fails-stopped, holds-stopped, stopped-same}

module _ (most root : ℕ) (heap : List ℕ) (few : most < 2 ^ 32) where
  -- ---- what is read is one

  pub chains-once : (cs : List PlacedChain) (n : ℕ) (ds : List PlacedChain) (m : ℕ) → HoldsChains most root heap cs n → HoldsChains most root heap ds m
      → (cs ≡ ds) × (n ≡ m)
  chains-once cs n ds m h k =
      stopped-same most heap [] root cs ds n m few (holds-stopped most root heap cs n h) (holds-stopped most root heap ds m k)

  pub anchors-once : (cs : List PlacedChain) (n : ℕ) (a : PlacedAnchors) (ds : List PlacedChain) (m : ℕ) (b : PlacedAnchors)
      → HoldsAnchors most root heap cs n a → HoldsAnchors most root heap ds m b → ((cs ≡ ds) × (n ≡ m)) × (a ≡ b)
  anchors-once cs n a ds m b h k =
      let same = chains-once cs n ds m h.before.chains_hold k.before.chains_hold in (
        same,
        anchors-same most (mark_of cs) heap (numbers_of cs) (anchor_names cs) a b few h.anchors
            (subst (λ (xs : List PlacedChain). AreRightAnchors most (mark_of xs) heap (numbers_of xs) (anchor_names xs) b) (sym same.0) k.anchors),
      )

  -- ---- what passes a check does not fail it

  chains-pass : (cs : List PlacedChain) (n q : ℕ) → HoldsChains most root heap cs n → FailsChain most root heap q → ⊥
  chains-pass cs n q h f =
      let same = stopped-same most heap [] root cs f.front n q few (holds-stopped most root heap cs n h) (fails-stopped most root heap q f) in
      h.ends (subst (HasOpenGate heap) (sym same.1) f.opened)

  rules-pass : (cs : List PlacedChain) (n : ℕ) (ds : List PlacedChain) (m q : ℕ) → KeepsRules most root heap cs n → HoldsChains most root heap ds m
      → FailsRule (mark_of ds) ds q → ⊥
  rules-pass cs n ds m q h k f =
      let same = chains-once cs n ds m h.chains_hold k in
      rules-kept (mark_of cs) cs q h.rules (subst (λ (xs : List PlacedChain). FailsRule (mark_of xs) xs q) (sym same.0) f)

  anchors-pass : (cs : List PlacedChain) (n : ℕ) (a : PlacedAnchors) (ds : List PlacedChain) (m q : ℕ) → HoldsAnchors most root heap cs n a
      → KeepsRules most root heap ds m → FailsAnchors most (mark_of ds) heap (numbers_of ds) (anchor_names ds) q → ⊥
  anchors-pass cs n a ds m q h k f =
      let same = chains-once cs n ds m h.before.chains_hold k.chains_hold in
      f.none a (subst (λ (xs : List PlacedChain). AreRightAnchors most (mark_of xs) heap (numbers_of xs) (anchor_names xs) a) same.0 h.anchors)

  -- the members of the one log
  fails-members : (cs : List PlacedChain) (n : ℕ) (a : PlacedAnchors) (ds : List PlacedChain) (m : ℕ) (b : PlacedAnchors) (q : ℕ)
      → HoldsAnchors most root heap cs n a → HoldsAnchors most root heap ds m b → FailsMembers (mark_of ds) (values_of b.records) ds q
      → FailsMembers (mark_of cs) (values_of a.records) cs q
  fails-members cs n a ds m b q h k f =
      let same = anchors-once cs n a ds m b h k in
      subst (λ (xs : List PlacedChain). FailsMembers (mark_of xs) (values_of a.records) xs q) (sym same.0.0)
      (subst (λ (x : PlacedAnchors). FailsMembers (mark_of ds) (values_of x.records) ds q) (sym same.1) f)

  members-pass : (cs : List PlacedChain) (n : ℕ) (a : PlacedAnchors) (ds : List PlacedChain) (m : ℕ) (b : PlacedAnchors) (q : ℕ)
      → HoldsMembers most root heap cs n a → HoldsAnchors most root heap ds m b → FailsMembers (mark_of ds) (values_of b.records) ds q → ⊥
  members-pass cs n a ds m b q h k f =
      members-stored (mark_of cs) (values_of a.records) cs q h.stored (fails-members cs n a ds m b q h.before k f)

  ends-pass : (cs : List PlacedChain) (n : ℕ) (a : PlacedAnchors) (ds : List PlacedChain) (m : ℕ) (b : PlacedAnchors)
      → HoldsHeap most root heap cs n a → HoldsMembers most root heap ds m b → (EndsRight most heap ds m b → ⊥) → ⊥
  ends-pass cs n a ds m b h k none =
      let same = anchors-once cs n a ds m b h.before.before k.before in
      none (subst (λ (x : PlacedAnchors). EndsRight most heap ds m x) same.1
      (subst (λ (x : ℕ). EndsRight most heap ds x a) same.0.1 (subst (λ (xs : List PlacedChain). EndsRight most heap xs n a) same.0.0 h.ends)))

  -- where the heap is read no check of it fails
  pub holds-or-fails : (cs : List PlacedChain) (n : ℕ) (a : PlacedAnchors) (q : ℕ) → HoldsHeap most root heap cs n a → FailsHeap most root heap q → ⊥
  holds-or-fails cs n a q h (AtChain f) = chains-pass cs n q h.before.before.before.chains_hold f
  holds-or-fails cs n a q h (AtRule ds m k f) = rules-pass cs n ds m q h.before.before.before k f
  holds-or-fails cs n a q h (AtAnchors ds m k f) = anchors-pass cs n a ds m q h.before.before k f
  holds-or-fails cs n a q h (AtMembers ds m b k f) = members-pass cs n a ds m b q h.before k f
  holds-or-fails cs n a q h (AtEnd ds m b k none place) = ends-pass cs n a ds m b h k none

  -- ---- one check fails

  chain-once : (p q : ℕ) → FailsChain most root heap p → FailsChain most root heap q → p ≡ q
  chain-once p q f g =
      (stopped-same most heap [] root f.front g.front p q few (fails-stopped most root heap p f) (fails-stopped most root heap q g)).1

  same-rule : (cs : List PlacedChain) (n : ℕ) (ds : List PlacedChain) (m p q : ℕ) → HoldsChains most root heap cs n → FailsRule (mark_of cs) cs p
      → HoldsChains most root heap ds m → FailsRule (mark_of ds) ds q → p ≡ q
  same-rule cs n ds m p q h f k g =
      let same = chains-once cs n ds m h k in
      rule-once (mark_of cs) cs p q f (subst (λ (xs : List PlacedChain). FailsRule (mark_of xs) xs q) (sym same.0) g)

  same-anchors : (cs : List PlacedChain) (n : ℕ) (ds : List PlacedChain) (m p q : ℕ) → KeepsRules most root heap cs n
      → FailsAnchors most (mark_of cs) heap (numbers_of cs) (anchor_names cs) p → KeepsRules most root heap ds m
      → FailsAnchors most (mark_of ds) heap (numbers_of ds) (anchor_names ds) q → p ≡ q
  same-anchors cs n ds m p q h f k g =
      let same = chains-once cs n ds m h.chains_hold k.chains_hold in
      anchors-fail-once most (mark_of cs) heap (numbers_of cs) (anchor_names cs) p q f
      (subst (λ (xs : List PlacedChain). FailsAnchors most (mark_of xs) heap (numbers_of xs) (anchor_names xs) q) (sym same.0) g)

  -- where checks fail it is one place that is told
  pub fails-once : (p q : ℕ) → FailsHeap most root heap p → FailsHeap most root heap q → p ≡ q
  fails-once p q (AtChain f) (AtChain g) = chain-once p q f g
  fails-once p q (AtChain f) (AtRule ds m k g) = absurd (chains-pass ds m p k f)
  fails-once p q (AtChain f) (AtAnchors ds m k g) = absurd (chains-pass ds m p k.chains_hold f)
  fails-once p q (AtChain f) (AtMembers ds m b k g) = absurd (chains-pass ds m p k.before.chains_hold f)
  fails-once p q (AtChain f) (AtEnd ds m b k none place) = absurd (chains-pass ds m p k.before.before.chains_hold f)
  fails-once p q (AtRule cs n h f) (AtChain g) = absurd (chains-pass cs n q h g)
  fails-once p q (AtRule cs n h f) (AtRule ds m k g) = same-rule cs n ds m p q h f k g
  fails-once p q (AtRule cs n h f) (AtAnchors ds m k g) = absurd (rules-pass ds m cs n p k h f)
  fails-once p q (AtRule cs n h f) (AtMembers ds m b k g) = absurd (rules-pass ds m cs n p k.before h f)
  fails-once p q (AtRule cs n h f) (AtEnd ds m b k none place) = absurd (rules-pass ds m cs n p k.before.before h f)
  fails-once p q (AtAnchors cs n h f) (AtChain g) = absurd (chains-pass cs n q h.chains_hold g)
  fails-once p q (AtAnchors cs n h f) (AtRule ds m k g) = absurd (rules-pass cs n ds m q h k g)
  fails-once p q (AtAnchors cs n h f) (AtAnchors ds m k g) = same-anchors cs n ds m p q h f k g
  fails-once p q (AtAnchors cs n h f) (AtMembers ds m b k g) = absurd (anchors-pass ds m b cs n p k h f)
  fails-once p q (AtAnchors cs n h f) (AtEnd ds m b k none place) = absurd (anchors-pass ds m b cs n p k.before h f)
  fails-once p q (AtMembers cs n a h f) (AtChain g) = absurd (chains-pass cs n q h.before.chains_hold g)
  fails-once p q (AtMembers cs n a h f) (AtRule ds m k g) = absurd (rules-pass cs n ds m q h.before k g)
  fails-once p q (AtMembers cs n a h f) (AtAnchors ds m k g) = absurd (anchors-pass cs n a ds m q h k g)
  fails-once p q (AtMembers cs n a h f) (AtMembers ds m b k g) =
      members-fail-once (mark_of cs) (values_of a.records) cs p q f (fails-members cs n a ds m b q h k g)
  fails-once p q (AtMembers cs n a h f) (AtEnd ds m b k none place) = absurd (members-pass ds m b cs n a p k h f)
  fails-once p q (AtEnd cs n a h none place) (AtChain g) = absurd (chains-pass cs n q h.before.before.chains_hold g)
  fails-once p q (AtEnd cs n a h none place) (AtRule ds m k g) = absurd (rules-pass cs n ds m q h.before.before k g)
  fails-once p q (AtEnd cs n a h none place) (AtAnchors ds m k g) = absurd (anchors-pass cs n a ds m q h.before k g)
  fails-once p q (AtEnd cs n a h none place) (AtMembers ds m b k g) = absurd (members-pass cs n a ds m b q h k g)
  fails-once p q (AtEnd cs n a h none place) (AtEnd ds m b k others other) = place ∙ sym other
