-- The versions behind commits that wait, from the reclaim mark on.
use Rattle.std.proofs.Common.{◌≡◌, ℕ, zero, suc, ◌≤◌, List, [], ◌∷◌, ◌++◌, length, take, drop, refl, ap, sym, ◌∙◌, append_assoc, append-nil}
use Rattle.history.specs.declared.key.Key.{Key}
use Rattle.history.specs.Histories as histories
use Rattle.history.specs.Histories.{Commit, History}
use Rattle.history.proofs.Histories.{writes_of-append}
use Rattle.law_image.specs.Values.{Value}
use Rattle.chains.specs.Writes.{Write, kept_after}
use Rattle.chains.specs.KeyWrites.{KeyWrites, writes_of, IsOrdered}
use Rattle.commits.specs.Values.{WaitingValue, versions_after, mark_after}
use Rattle.law_refinement.specs.Standing.{HasForgotten}
use Rattle.law_refinement.proofs.Held.{written-is}
use Rattle.law_refinement.proofs.Waiting.{AreRising}
use Rattle.law_commits.specs.Standing.{Waits, AllWait}

-- ---- as many commits

pub as-many : (reclaimed : ℕ) (before : List KeyWrites) (ws : List WaitingValue) (cs : History Value) → AllWait reclaimed before ws cs → length ws ≡ length cs
as-many reclaimed before [] [] all = refl
as-many reclaimed before [] (c ∷ cs) all = absurd all
as-many reclaimed before (w ∷ ws) [] all = absurd all
as-many reclaimed before (w ∷ ws) (c ∷ cs) all = ap suc (as-many reclaimed w.after ws cs all.1)

-- the first of them
pub wait-front : (n reclaimed : ℕ) (before : List KeyWrites) (ws : List WaitingValue) (cs : History Value) → AllWait reclaimed before ws cs
    → AllWait reclaimed before (take n ws) (take n cs)
wait-front zero reclaimed before ws cs all = tt
wait-front (suc n) reclaimed before [] [] all = tt
wait-front (suc n) reclaimed before [] (c ∷ cs) all = absurd all
wait-front (suc n) reclaimed before (w ∷ ws) [] all = absurd all
wait-front (suc n) reclaimed before (w ∷ ws) (c ∷ cs) all = (all.0, wait-front n reclaimed w.after ws cs all.1)

-- and those behind them
pub rest-waits : (n reclaimed : ℕ) (before : List KeyWrites) (ws : List WaitingValue) (cs : History Value) → AllWait reclaimed before ws cs
    → AllWait reclaimed (versions_after before (take n ws)) (drop n ws) (drop n cs)
rest-waits zero reclaimed before ws cs all = all
rest-waits (suc n) reclaimed before [] [] all = tt
rest-waits (suc n) reclaimed before [] (c ∷ cs) all = absurd all
rest-waits (suc n) reclaimed before (w ∷ ws) [] all = absurd all
rest-waits (suc n) reclaimed before (w ∷ ws) (c ∷ cs) all = rest-waits n reclaimed w.after ws cs all.1

-- one more waits
pub all-wait-push : (reclaimed : ℕ) (before : List KeyWrites) (ws : List WaitingValue) (cs : History Value) (w : WaitingValue) (c : Commit Value)
    → AllWait reclaimed before ws cs → Waits reclaimed (versions_after before ws) w c → AllWait reclaimed before (ws ++ w ∷ []) (cs ++ c ∷ [])
all-wait-push reclaimed before [] [] w c all waits = (waits, tt)
all-wait-push reclaimed before [] (d ∷ ds) w c all waits = absurd all
all-wait-push reclaimed before (p ∷ ps) [] w c all waits = absurd all
all-wait-push reclaimed before (p ∷ ps) (d ∷ ds) w c all waits = (all.0, all-wait-push reclaimed p.after ps ds w c all.1 waits)

-- ---- what the versions behind them say

module _ (mark : ℕ) where
  pub kept-behind : (before : List KeyWrites) (ws : List WaitingValue) (cs : History Value) (key : Key) → AllWait mark before ws cs
      → kept_after mark (writes_of (versions_after before ws) key) ≡ kept_after mark (writes_of before key) ++ histories.writes_of cs key
  kept-behind before [] [] key all = sym (append-nil (kept_after mark (writes_of before key)))
  kept-behind before [] (c ∷ cs) key all = absurd all
  kept-behind before (w ∷ ws) [] key all = absurd all
  kept-behind before (w ∷ ws) (c ∷ cs) key all =
      kept-behind w.after ws cs key all.1
      ∙ ap (λ (l : List Write). l ++ histories.writes_of cs key) (all.0.after key
      ∙ ap (λ (l : List Write). kept_after mark (writes_of before key) ++ l) (written-is c key))
      ∙ append_assoc (kept_after mark (writes_of before key)) (histories.writes_of (c ∷ []) key) (histories.writes_of cs key)
      ∙ ap (λ (l : List Write). kept_after mark (writes_of before key) ++ l) (sym (writes_of-append (c ∷ []) cs key))

  pub ordered-behind : (before : List KeyWrites) (ws : List WaitingValue) (cs : History Value) → IsOrdered before → AllWait mark before ws cs
      → IsOrdered (versions_after before ws)
  ordered-behind before [] cs ordered all = ordered
  ordered-behind before (w ∷ ws) [] ordered all = absurd all
  ordered-behind before (w ∷ ws) (c ∷ cs) ordered all = ordered-behind w.after ws cs all.0.ordered all.1

  pub rising-behind : (before : List KeyWrites) (ws : List WaitingValue) (cs : History Value) → AreRising before → AllWait mark before ws cs
      → AreRising (versions_after before ws)
  rising-behind before [] cs rising all = rising
  rising-behind before (w ∷ ws) [] rising all = absurd all
  rising-behind before (w ∷ ws) (c ∷ cs) rising all = rising-behind w.after ws cs all.0.rising all.1

  -- they have forgotten what ended by their mark, which is none later
  pub forgot-behind : (own : ℕ) (before : List KeyWrites) (ws : List WaitingValue) (cs : History Value) → HasForgotten own before → AllWait mark before ws cs
      → HasForgotten (mark_after own ws) (versions_after before ws)
  forgot-behind own before [] cs forgot all = forgot
  forgot-behind own before (w ∷ ws) [] forgot all = absurd all
  forgot-behind own before (w ∷ ws) (c ∷ cs) forgot all = forgot-behind w.reclaimed w.after ws cs all.0.forgot all.1

  pub mark-upto : (own : ℕ) (before : List KeyWrites) (ws : List WaitingValue) (cs : History Value) → own ≤ mark → AllWait mark before ws cs
      → mark_after own ws ≤ mark
  mark-upto own before [] cs low all = low
  mark-upto own before (w ∷ ws) [] low all = absurd all
  mark-upto own before (w ∷ ws) (c ∷ cs) low all = mark-upto w.reclaimed w.after ws cs all.0.mark all.1
