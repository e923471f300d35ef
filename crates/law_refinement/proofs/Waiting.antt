-- The versions behind commits that wait, from the reclaim mark on.
use Rattle.std.proofs.Common.{◌≡◌, ℕ, zero, suc, ◌-◌, ◌<◌, ◌≤◌, ◌^◌, nat_lt, slice_get, slice_set, Bool, true, false, cond, List, [], ◌∷◌, ◌++◌, take, Option}
use Rattle.std.proofs.Common.{None, Some, refl, arith, ap, sym, subst, ◌∙◌, append_assoc, append-nil}
use Rattle.std.proofs.lemmas.Bool.Decides.{nat_tests}
use Rattle.history.specs.declared.key.Key.{Key}
use Rattle.history.specs.Key.{write_in}
use Rattle.history.specs.Time.{IsRisingAfter}
use Rattle.history.specs.Histories as histories
use Rattle.history.specs.Histories.{Commit, History, HasRisingTimes}
use Rattle.history.proofs.Histories.{writes_of-append, times-earlier}
use Rattle.law_image.specs.Values.{Value}
use Rattle.chains.specs.Writes.{Write, kept_after, written}
use Rattle.chains.specs.KeyWrites.{KeyWrites, writes_of, IsOrdered, forgotten}
use Rattle.chains.proofs.Order.{ordered-forgotten}
use Rattle.chains.proofs.Versions.{writes_of-forgotten}
use Rattle.group.specs.Queued.{QueuedValue}
use Rattle.group.specs.Values.{versions_after, mark_after}
use Rattle.group.specs.Steps.{fresh_at}
use Rattle.law_refinement.specs.Standing.{HasForgotten, Waits, AllWait}
use Rattle.law_refinement.proofs.KeptWrites.{kept-again, kept-more, kept-rising}
use Rattle.law_refinement.proofs.Held.{written-is}

-- ---- versions that forget

abbrev pub AreRising : List KeyWrites → Type 0
AreRising versions = (key : Key) → IsRisingAfter 0 (writes_of versions key)

-- these say the same from a mark on
abbrev pub SaySame : ℕ → List KeyWrites → List KeyWrites → Type 0
SaySame mark a b = (key : Key) → kept_after mark (writes_of a key) ≡ kept_after mark (writes_of b key)

pub forgotten-forgets : (mark : ℕ) (versions : List KeyWrites) → IsOrdered versions → AreRising versions → HasForgotten mark (forgotten mark versions)
forgotten-forgets mark versions ordered rising key =
    let same = writes_of-forgotten mark versions key ordered in
    ap (kept_after mark) same ∙ kept-again mark mark (writes_of versions key) (omega arith) (rising key) ∙ sym same

pub forgotten-same : (mark : ℕ) (versions : List KeyWrites) → IsOrdered versions → AreRising versions → SaySame mark versions (forgotten mark versions)
forgotten-same mark versions ordered rising key =
    sym (ap (kept_after mark) (writes_of-forgotten mark versions key ordered) ∙ kept-again mark mark (writes_of versions key) (omega arith) (rising key))

pub forgotten-rising : (mark : ℕ) (versions : List KeyWrites) → IsOrdered versions → AreRising versions → AreRising (forgotten mark versions)
forgotten-rising mark versions ordered rising key =
    subst (λ (ws : List Write). IsRisingAfter 0 ws) (sym (writes_of-forgotten mark versions key ordered))
    (kept-rising 0 mark (writes_of versions key) (rising key))

-- a commit writes at its own time
pub written-later : (mark : ℕ) (c : Commit Value) (key : Key) → mark < c.time → c.time < 2 ^ 63 → IsRisingAfter mark (written c.time c.writes key)
written-later mark c key later range = by-write (write_in c.writes key) refl
  where
    by-write : (o : Option (Option Value)) → write_in c.writes key ≡ o → IsRisingAfter mark (written c.time c.writes key)
    by-write None none = rw none tt
    by-write (Some w) some = rw some (later, range, tt)

-- the mark of the versions behind one of them is its own
last-mark : (own place : ℕ) (qs : List QueuedValue) (q : QueuedValue) → slice_get qs place ≡ Some q → mark_after own (take (suc place) qs) ≡ q.reclaimed
last-mark own place [] q is = absurd cc
last-mark own zero (p ∷ ps) q is = let same : p ≡ q = cc in ap (λ (x : QueuedValue). x.reclaimed) same
last-mark own (suc n) (p ∷ ps) q is = last-mark p.reclaimed n ps q is

-- ---- what the versions behind them say

module _ (mark : ℕ) where
  pub kept-behind : (before : List KeyWrites) (qs : List QueuedValue) (cs : History Value) (key : Key) → AllWait mark before qs cs
      → kept_after mark (writes_of (versions_after before qs) key) ≡ kept_after mark (writes_of before key) ++ histories.writes_of cs key
  kept-behind before [] [] key all = sym (append-nil (kept_after mark (writes_of before key)))
  kept-behind before [] (c ∷ cs) key all = absurd all
  kept-behind before (q ∷ qs) [] key all = absurd all
  kept-behind before (q ∷ qs) (c ∷ cs) key all =
      kept-behind q.after qs cs key all.1
      ∙ ap (λ (ws : List Write). ws ++ histories.writes_of cs key) (all.0.after key
      ∙ ap (λ (ws : List Write). kept_after mark (writes_of before key) ++ ws) (written-is c key))
      ∙ append_assoc (kept_after mark (writes_of before key)) (histories.writes_of (c ∷ []) key) (histories.writes_of cs key)
      ∙ ap (λ (ws : List Write). kept_after mark (writes_of before key) ++ ws) (sym (writes_of-append (c ∷ []) cs key))

  pub ordered-behind : (before : List KeyWrites) (qs : List QueuedValue) (cs : History Value) → IsOrdered before → AllWait mark before qs cs
      → IsOrdered (versions_after before qs)
  ordered-behind before [] cs ordered all = ordered
  ordered-behind before (q ∷ qs) [] ordered all = absurd all
  ordered-behind before (q ∷ qs) (c ∷ cs) ordered all = ordered-behind q.after qs cs all.0.ordered all.1

  pub rising-behind : (before : List KeyWrites) (qs : List QueuedValue) (cs : History Value) → AreRising before → AllWait mark before qs cs
      → AreRising (versions_after before qs)
  rising-behind before [] cs rising all = rising
  rising-behind before (q ∷ qs) [] rising all = absurd all
  rising-behind before (q ∷ qs) (c ∷ cs) rising all = rising-behind q.after qs cs all.0.rising all.1

  -- they have forgotten what ended by their mark, which is none later
  pub forgot-behind : (own : ℕ) (before : List KeyWrites) (qs : List QueuedValue) (cs : History Value) → HasForgotten own before → AllWait mark before qs cs
      → HasForgotten (mark_after own qs) (versions_after before qs)
  forgot-behind own before [] cs forgot all = forgot
  forgot-behind own before (q ∷ qs) [] forgot all = absurd all
  forgot-behind own before (q ∷ qs) (c ∷ cs) forgot all = forgot-behind q.reclaimed q.after qs cs all.0.forgot all.1

  pub mark-upto : (own : ℕ) (before : List KeyWrites) (qs : List QueuedValue) (cs : History Value) → own ≤ mark → AllWait mark before qs cs
      → mark_after own qs ≤ mark
  mark-upto own before [] cs low all = low
  mark-upto own before (q ∷ qs) [] low all = absurd all
  mark-upto own before (q ∷ qs) (c ∷ cs) low all = mark-upto q.reclaimed q.after qs cs all.0.mark all.1

  -- ---- other versions before them

  pub behind-same : (a b : List KeyWrites) (qs : List QueuedValue) (cs : History Value) → SaySame mark a b → AllWait mark a qs cs → AllWait mark b qs cs
  behind-same a b [] [] same all = tt
  behind-same a b [] (c ∷ cs) same all = absurd all
  behind-same a b (q ∷ qs) [] same all = absurd all
  behind-same a b (q ∷ qs) (c ∷ cs) same all = (
    record {
      time = all.0.time;
      label = all.0.label;
      records = all.0.records;
      ordered = all.0.ordered;
      rising = all.0.rising;
      mark = all.0.mark;
      forgot = all.0.forgot;
      after = λ key. all.0.after key ∙ ap (λ (ws : List Write). ws ++ written c.time c.writes key) (same key);
    },
    all.1,
  )

  -- ---- one of them is made anew

  fresh-one : (before : List KeyWrites) (q : QueuedValue) (c : Commit Value) → Waits mark before q c
      → Waits mark before (record q { after = forgotten mark q.after; reclaimed = mark }) c
  fresh-one before q c waits = record {
    time = waits.time;
    label = waits.label;
    records = waits.records;
    ordered = ordered-forgotten mark q.after waits.ordered;
    rising = forgotten-rising mark q.after waits.ordered waits.rising;
    mark = omega arith;
    forgot = forgotten-forgets mark q.after waits.ordered waits.rising;
    after = λ key. sym (forgotten-same mark q.after waits.ordered waits.rising key) ∙ waits.after key;
  }

  set-waits : (before : List KeyWrites) (place : ℕ) (qs : List QueuedValue) (cs : History Value) (q : QueuedValue) → slice_get qs place ≡ Some q
      → AllWait mark before qs cs
      → AllWait mark before (slice_set qs place (record q { after = forgotten mark q.after; reclaimed = mark })) cs
  set-waits before place [] cs q is all = absurd cc
  set-waits before place (p ∷ ps) [] q is all = absurd all
  set-waits before zero (p ∷ ps) (c ∷ cs) q is all =
      let same : p ≡ q = cc in
      subst (λ (x : QueuedValue). AllWait mark before (record x { after = forgotten mark x.after; reclaimed = mark } ∷ ps) (c ∷ cs)) same
      (fresh-one before p c all.0, behind-same p.after (forgotten mark p.after) ps cs (forgotten-same mark p.after all.0.ordered all.0.rising) all.1)
  set-waits before (suc n) (p ∷ ps) (c ∷ cs) q is all = (all.0, set-waits p.after n ps cs q is all.1)

  pub fresh-waits : (before : List KeyWrites) (place : ℕ) (qs : List QueuedValue) (cs : History Value) → AllWait mark before qs cs
      → AllWait mark before (fresh_at mark place qs (slice_get qs place)) cs
  fresh-waits before place qs cs all = by-place (slice_get qs place) refl
    where
      by-place : (o : Option QueuedValue) → slice_get qs place ≡ o → AllWait mark before (fresh_at mark place qs o) cs
      by-place None none = all
      by-place (Some q) some =
          elim (nat_lt q.reclaimed mark) as
          (λ (b : Bool). AllWait mark before (cond b (slice_set qs place (record q { after = forgotten mark q.after; reclaimed = mark })) qs) cs) [
            | true ↦ set-waits before place qs cs q some all
            | false ↦ all
          ]

  mark-of : (before : List KeyWrites) (place : ℕ) (qs : List QueuedValue) (cs : History Value) (q : QueuedValue) → slice_get qs place ≡ Some q
      → AllWait mark before qs cs → q.reclaimed ≤ mark
  mark-of before place [] cs q is all = absurd cc
  mark-of before place (p ∷ ps) [] q is all = absurd all
  mark-of before zero (p ∷ ps) (c ∷ cs) q is all = let same : p ≡ q = cc in subst (λ (x : QueuedValue). x.reclaimed ≤ mark) same all.0.mark
  mark-of before (suc n) (p ∷ ps) (c ∷ cs) q is all = mark-of p.after n ps cs q is all.1

  set-mark : (own place : ℕ) (qs : List QueuedValue) (q : QueuedValue) (after : List KeyWrites) → slice_get qs place ≡ Some q
      → mark_after own (take (suc place) (slice_set qs place (record q { after = after; reclaimed = mark }))) ≡ mark
  set-mark own place [] q after is = absurd cc
  set-mark own zero (p ∷ ps) q after is = refl
  set-mark own (suc n) (p ∷ ps) q after is = set-mark p.reclaimed n ps q after is

  -- the versions behind it have forgotten what ended by the mark
  pub fresh-mark : (own : ℕ) (before : List KeyWrites) (n : ℕ) (qs : List QueuedValue) (cs : History Value) (q : QueuedValue) → 0 < n → slice_get qs (n - 1)
      ≡ Some q → AllWait mark before qs cs
      → mark_after own (take n (fresh_at mark (n - 1) qs (Some q))) ≡ mark
  fresh-mark own before zero qs cs q some is all = absurd (omega arith)
  fresh-mark own before (suc k) qs cs q some is all =
      let less : suc k - 1 ≡ k = omega arith in
      subst (λ (place : ℕ). mark_after own (take (suc k) (fresh_at mark place qs (Some q)))
      ≡ mark) (sym less) (by-mark (subst (λ (place : ℕ). slice_get qs place ≡ Some q) less is) (nat_lt q.reclaimed mark) refl)
    where
      by-mark : slice_get qs k ≡ Some q → (b : Bool) → nat_lt q.reclaimed mark ≡ b
          → mark_after own (take (suc k) (cond b (slice_set qs k (record q { after = forgotten mark q.after; reclaimed = mark })) qs)) ≡ mark
      by-mark there true older = set-mark own k qs q (forgotten mark q.after) there
      by-mark there false newer = let low = mark-of before k qs cs q there all in let same : q.reclaimed ≡ mark =
          grind (arith, nat_tests) in last-mark own k qs q there ∙ same

-- ---- a later mark

raised-one : (early mark : ℕ) (before : List KeyWrites) (q : QueuedValue) (c : Commit Value) → early ≤ mark → mark < c.time → c.time < 2 ^ 63 → AreRising before
    → Waits early before q c → Waits mark before q c
raised-one early mark before q c low later range rising waits = record {
  time = waits.time;
  label = waits.label;
  records = waits.records;
  ordered = waits.ordered;
  rising = waits.rising;
  mark = let own = waits.mark in omega (arith, own, low);
  forgot = waits.forgot;
  after = λ key.
      sym (kept-again early mark (writes_of q.after key) low (waits.rising key))
      ∙ ap (kept_after mark) (waits.after key)
      ∙ kept-more mark (kept_after early (writes_of before key)) (written c.time c.writes key) (written-later mark c key later range)
      ∙ ap (λ (ws : List Write). ws ++ written c.time c.writes key) (kept-again early mark (writes_of before key) low (rising key));
}

raised : (early mark : ℕ) (before : List KeyWrites) (qs : List QueuedValue) (cs : History Value) → early ≤ mark → HasRisingTimes mark cs → AreRising before
    → AllWait early before qs cs → AllWait mark before qs cs
raised early mark before [] [] low up rising all = tt
raised early mark before [] (c ∷ cs) low up rising all = absurd all
raised early mark before (q ∷ qs) [] low up rising all = absurd all
raised early mark before (q ∷ qs) (c ∷ cs) low up rising all =
    let first = up.0 in (
      raised-one early mark before q c low up.0 up.1 rising all.0,
      raised early mark q.after qs cs low (times-earlier mark c.time cs (omega (arith, first)) up.2) all.0.rising all.1,
    )

-- commits later than a mark wait so too, behind versions that have forgotten what ended by it
pub raised-waits : (early mark : ℕ) (before : List KeyWrites) (qs : List QueuedValue) (cs : History Value) → early ≤ mark → HasRisingTimes mark cs
    → IsOrdered before → AreRising before → AllWait early before qs cs → AllWait mark (forgotten mark before) qs cs
raised-waits early mark before qs cs low up ordered rising all =
    behind-same mark before (forgotten mark before) qs cs (forgotten-same mark before ordered rising) (raised early mark before qs cs low up rising all)
