-- Commits in their order, one behind the other.
use Rattle.std.proofs.Common.{◌≡◌, ℕ, ◌^◌, ◌<◌, List, [], ◌∷◌, ◌++◌, map, ap, sym, subst, ◌∙◌}
use Rattle.std.proofs.lemmas.List.{append_assoc}
use Rattle.group.specs.declared.commit_order.CommitHead.{CommitHead}
use Rattle.group.specs.CommitOrder.{IsRisingAfter, last_time_after}
use Rattle.group.proofs.Heads.{IsRisingAfter-push}
use Rattle.group.proofs.Orders.{last_time-push}
use Rattle.log_recovery.specs.declared.members_read.CommitName.{CommitName}
use Rattle.log_store.specs.Opens.{head_as}

-- a commit in their midst is later than the last one before it
pub next_of : (t : ℕ) (xs : List CommitHead) (y : CommitHead) (ys : List CommitHead) → IsRisingAfter t (xs ++ y ∷ ys)
    → (last_time_after t xs < y.time) × (y.time < 2 ^ 63)
next_of t [] y ys rising = (rising.0, rising.1)
next_of t (x ∷ xs) y ys rising = next_of x.time xs y ys rising.2

module _ (commits rest after : List CommitName) (commit : CommitName) (heads : List CommitHead) (last : ℕ)
    (all : heads ++ map head_as rest ≡ map head_as commits)
    (front : rest ≡ commit ∷ after) (last_is : last ≡ last_time_after 0 heads) where
  split : heads ++ head_as commit ∷ map head_as after ≡ map head_as commits
  split = subst (λ (ns : List CommitName). heads ++ map head_as ns ≡ map head_as commits) front all

  -- where it is not the next one, the commits do not rise
  pub not_next : ¬ ((last < commit.time) × (commit.time < 2 ^ 63)) → IsRisingAfter 0 (map head_as commits) → ⊥
  not_next none rising =
      let both = next_of 0 heads (head_as commit) (map head_as after) (subst (IsRisingAfter 0) (sym split) rising) in
      none (subst (λ (n : ℕ). n < commit.time) (sym last_is) both.0, both.1)

  -- where it is, it stands behind the others
  pub stands_next : (news : List CommitHead) → news ≡ heads ++ head_as commit ∷ [] → IsRisingAfter 0 heads → (last < commit.time) × (commit.time < 2 ^ 63)
      → (news ++ map head_as after ≡ map head_as commits) × IsRisingAfter 0 news × (commit.time ≡ last_time_after 0 news)
  stands_next news is rising both = (
    ap (λ (hs : List CommitHead). hs ++ map head_as after) is ∙ append_assoc heads (head_as commit ∷ []) (map head_as after) ∙ split,
    subst (IsRisingAfter 0) (sym is) (IsRisingAfter-push 0 heads (head_as commit) rising (subst (λ (n : ℕ). n < commit.time) last_is both.0) both.1),
    sym (ap (last_time_after 0) is ∙ last_time-push 0 heads (head_as commit)),
  )
