-- The versions after the waiting commits, and the last time that was given.
use Rattle.std.proofs.Common.{◌≡◌, ℕ, zero, suc, ◌==◌, ◌&&◌, nat_le, cond, Bool, true, false, List, [], ◌∷◌, ◌++◌, length, get_or, refl, arith, ap}
use Rattle.chains.specs.KeyWrites.{KeyWrites}
use Rattle.group.specs.declared.commit_order.CommitHead.{CommitHead}
use Rattle.group.specs.CommitOrder.{CommitOrderValue, last_time_after, last_time, redeemed, after_redeem, is_awaited, last_published}
use Rattle.group.specs.Queued.{QueuedValue}
use Rattle.group.proofs.Heads.{length-redeemed}
use Rattle.group.specs.Values.{versions_after, mark_after}

pub versions_after-last : (v : List KeyWrites) (qs : List QueuedValue) (n : ℕ) (q : QueuedValue) → suc n ≡ length qs → q ≡ get_or qs n q
    → q.after ≡ versions_after v qs
versions_after-last v [] n q e is = absurd (omega arith)
versions_after-last v (x ∷ []) zero q e is = ap (λ (z : QueuedValue). z.after) is
versions_after-last v (x ∷ []) (suc n) q e is = absurd (omega arith)
versions_after-last v (x ∷ y ∷ ys) zero q e is = absurd (omega arith)
versions_after-last v (x ∷ y ∷ ys) (suc n) q e is = versions_after-last x.after (y ∷ ys) n q (omega arith) is

pub mark_after-last : (mark : ℕ) (qs : List QueuedValue) (n : ℕ) (q : QueuedValue) → suc n ≡ length qs → q ≡ get_or qs n q → q.reclaimed ≡ mark_after mark qs
mark_after-last mark [] n q e is = absurd (omega arith)
mark_after-last mark (x ∷ []) zero q e is = ap (λ (z : QueuedValue). z.reclaimed) is
mark_after-last mark (x ∷ []) (suc n) q e is = absurd (omega arith)
mark_after-last mark (x ∷ y ∷ ys) zero q e is = absurd (omega arith)
mark_after-last mark (x ∷ y ∷ ys) (suc n) q e is = mark_after-last x.reclaimed (y ∷ ys) n q (omega arith) is

pub last_time-push : (t : ℕ) (heads : List CommitHead) (head : CommitHead) → last_time_after t (heads ++ head ∷ []) ≡ head.time
last_time-push t [] head = refl
last_time-push t (h ∷ hs) head = last_time-push h.time hs head

last_time-redeemed : (t time : ℕ) (heads : List CommitHead) → last_time_after t (redeemed time heads) ≡ last_time_after t heads
last_time-redeemed t time [] = refl
last_time-redeemed t time (h ∷ hs) =
    let Goal : Bool → Type 0 = λ b. last_time_after t (cond b (record h { awaited = false } ∷ hs) (h ∷ redeemed time hs)) ≡ last_time_after h.time hs in
    elim (h.time == time) as Goal [ true ↦ refl | false ↦ last_time-redeemed h.time time hs ]

pub record KeepsTimes (old new : CommitOrderValue) : Type 0 where
  pub many : length new.heads ≡ length old.heads
  pub published : new.published ≡ old.published
  pub last : last_time new.heads ≡ last_time old.heads

pub redeem_keeps : (time : ℕ) (v : CommitOrderValue) → KeepsTimes v (after_redeem time v)
redeem_keeps time v =
    let Goal : Bool → Type 0 = λ b. KeepsTimes v (cond b (record v { heads = redeemed time v.heads }) v) in
    elim (is_awaited time v.heads && nat_le time (last_published v)) as Goal [
      | true ↦ record { many = length-redeemed time v.heads; published = refl; last = last_time-redeemed 0 time v.heads }
      | false ↦ record { many = refl; published = refl; last = refl }
    ]
