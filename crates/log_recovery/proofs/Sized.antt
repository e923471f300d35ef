-- The bytes of the anchors of each state, as opening counts them.
use Rattle.std.proofs.Common.{◌≡◌, ℕ, ◌≤◌, nat_lt, List, [], ◌∷◌, ◌++◌, map, refl, ap, sym, subst, ◌∙◌, ◌↔◌}
use Rattle.std.specs.Prelude.{filter, flat_map}
use Rattle.std.specs.List.{AllByRecursion}
use Rattle.law_image.specs.Reading.{Member, OldRecord, Reading}
use Rattle.law_image.specs.Log.{reclaim_mark}
use Rattle.law_log.specs.Chains.{LogChain, MayAllFollow, members_in}
use Rattle.log_extents.specs.Chains.{count_of}
use Rattle.law_log_layout.specs.HeapLog.{AreAnchorsAt, IsPlaced, PlacedAnchors, PlacedChain, chains_told}
use Rattle.law_log_sizes.specs.Sizes.{IsOrdered, anchors_len, greatest, lens_behind, size_most, size_now}
use Rattle.law_log_sizes.proofs.Chains.{by-chain, chains-ordered}
use Rattle.law_log_sizes.proofs.Told.{most-bound}
use Rattle.log_sizes.specs.declared.anchor_sizes.AnchorSizes.{AnchorSizes}
use Rattle.log_sizes.specs.Counted.{AreSizes, AreSizesBehind}
use Rattle.log_recovery.specs.Chains.{AreWalked}
use Rattle.log_recovery.specs.Rules.{LogState, MayAllComeBehind, mark_of, no_log, state_behind}
use Rattle.log_recovery.specs.Members.{members_later, members_of_all, values_of}
use Rattle.log_recovery.specs.Ends.{unread_reading}
use Rattle.log_recovery.specs.Opening.{HoldsAnchors}

placed-all : (most : ℕ) (heap taken : List ℕ) (number end : ℕ) (chains : List PlacedChain) → AreWalked most heap taken number chains end
    → AllByRecursion (IsPlaced most) chains
placed-all most heap taken number end [] walked = tt
placed-all most heap taken number end (c ∷ chains) walked =
    (walked.0.placed, placed-all most heap (taken ++ c.numbers) c.link end chains walked.1)

pub follow-all : (mark : ℕ) (s : LogState) (chains : List PlacedChain) → MayAllComeBehind mark s chains
    → MayAllFollow mark s.last s.told (chains_told [] chains)
follow-all mark s [] may = tt
follow-all mark s (c ∷ chains) may = (may.0.rule, follow-all mark (state_behind mark s c.entry) chains may.1)

by-placed : (mark : ℕ) (cs : List PlacedChain)
    → flat_map (λ (c : LogChain). filter (λ (m : Member). nat_lt mark m.head.time) (members_in c)) (chains_told [] cs) ≡ members_of_all mark cs
by-placed mark [] = refl
by-placed mark (c ∷ cs) = ap (λ l. members_later mark c ++ l) (by-placed mark cs)

-- the members of the reading are those that opening reads, chain by chain
pub members-are : (mark : ℕ) (cs : List PlacedChain)
    → filter (λ (m : Member). nat_lt mark m.head.time) (flat_map members_in (chains_told [] cs)) ≡ members_of_all mark cs
members-are mark cs = by-chain mark (chains_told [] cs) ∙ by-placed mark cs

-- so the sizes that opening counts behind them are those of the reading
pub unread-sizes : (most : ℕ) (chains : List PlacedChain) (a : PlacedAnchors) (sizes : AnchorSizes)
    → AreSizesBehind a.records (members_of_all (mark_of chains) chains) sizes
    → AreSizes (size_now (unread_reading most chains a)) (size_most (unread_reading most chains a)) sizes
unread-sizes most chains a sizes are =
    subst (λ (ms : List Member). AreSizesBehind a.records ms sizes) (sym (members-are (mark_of chains) chains)) are

module _ (most root : ℕ) (heap : List ℕ) (chains : List PlacedChain) (next : ℕ) (a : PlacedAnchors) (holds : HoldsAnchors most root heap chains next a) where
  both : (reclaim_mark (unread_reading most chains a).log ≡ mark_of chains) × IsOrdered (mark_of chains) (unread_reading most chains a)
  both =
      chains-ordered most [] chains a.records []
      (placed-all most heap [] root next chains holds.before.chains_hold.walked)
      (follow-all (mark_of chains) no_log chains holds.before.rules)
      holds.anchors.rising holds.anchors.times

  -- the laws of sizes hold of it
  pub unread-ordered : IsOrdered (mark_of chains) (unread_reading most chains a)
  unread-ordered = (both).1

  pub unread-mark : reclaim_mark (unread_reading most chains a).log ≡ mark_of chains
  unread-mark = (both).0

  -- the states keep a bound where the greatest number does
  pub unread-share : (bound : ℕ) → ((time : ℕ) (olds : List OldRecord) → reclaim_mark (unread_reading most chains a).log ≤ time
      → AreAnchorsAt time (unread_reading most chains a) olds → count_of (anchors_len olds) ≤ bound)
      ↔ (count_of (greatest (anchors_len a.records)
      (lens_behind (anchors_len a.records) (values_of a.records) (members_of_all (mark_of chains) chains))) ≤ bound)
  unread-share bound =
      let reading = unread_reading most chains a in
      let members : reading.members ≡ members_of_all (mark_of chains) chains = members-are (mark_of chains) chains in
      let is = most-bound (mark_of chains) reading unread-ordered bound in
      let n = anchors_len a.records in
      let P : List Member → Type 0 = λ ms. count_of (greatest n (lens_behind n (values_of a.records) ms)) ≤ bound in (
        λ each. subst P members (is.0 (λ time olds le are. each time olds (subst (λ (m : ℕ). m ≤ time) (sym unread-mark) le) are)),
        λ within time olds le are. is.1 (subst P (sym members) within) time olds (subst (λ (m : ℕ). m ≤ time) unread-mark le) are,
      )
