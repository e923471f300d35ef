-- The times of an opened store's extents.
use Rattle.std.proofs.Common.{◌≡◌, ◌≢◌, ℕ, ◌≤◌, List, [], ◌∷◌, length, map, replicate, refl, arith, ap, sym, subst, ◌∙◌}
use Rattle.std.specs.List.{AllByRecursion}
use Rattle.std.proofs.lemmas.List.{length-replicate}
use Rattle.extents.specs.Usages as usages
use Rattle.extents.specs.Usages.{IsNoneOf}
use Rattle.extents.specs.Times.{time_of, with_times}
use Rattle.law_layout.specs.Extents.{Extent, IsExtent, AreDistinct}
use Rattle.law_image.specs.Reading.{Reading}
use Rattle.status.specs.declared.header.Header.{Header}
use Rattle.law_layout.specs.Layouts.{Layout, StoredMember, IsLayoutOf, extents_of}
use Rattle.law_layout.specs.Opening.{unread_layout}
use Rattle.law_layout.proofs.Layouts.{live_extents_are}
use Rattle.law_layout.proofs.Lists.{weaker, three, all_of_front, all_of_back, distinct_parts}
use Rattle.recovery.specs.declared.recovered.LiveChain.{LiveChain}
use Rattle.recovery.specs.declared.recovered.Recovered.{Recovered}
use Rattle.recovery.specs.Chains.{live_named}
use Rattle.recovery.specs.HeapReads.{numbers_in, live_of}
use Rattle.recovery.specs.ReadsImage.{IsReadAs}
use Rattle.store.specs.Opens.{with_live, times_of}
use Rattle.law_refinement.specs.OnDisk.{HasTimes}
use Rattle.law_refinement.proofs.Retired.{times-now, times-stay, times-long}

-- the extents of each member are in the chain of its time
abbrev with_members : List ℕ → List StoredMember → List ℕ
with_members times [] = times
with_members times (s ∷ ms) = with_members (with_times times (numbers_in s.extents) s.entry.time) ms

live-same : (times : List ℕ) (live : List LiveChain) (ms : List StoredMember) → map live_named live ≡ map live_of ms → with_live times live
    ≡ with_members times ms
live-same times [] [] is = refl
live-same times [] (s ∷ ms) is = absurd cc
live-same times (c ∷ cs) [] is = absurd cc
live-same times (c ∷ cs) (s ∷ ms) is =
    let first : live_named c ≡ live_of s = cc in
    let rest : map live_named cs ≡ map live_of ms = cc in
    let time : c.time ≡ s.entry.time = ap (λ (p : ℕ × List ℕ). p.0) first in
    let numbers : c.extents.items ≡ numbers_in s.extents = ap (λ (p : ℕ × List ℕ). p.1) first in
    (λ i. with_live (with_times times (numbers i) (time i)) cs) ∙ live-same (with_times times (numbers_in s.extents) s.entry.time) cs ms rest

-- ---- the numbers of extents

ranges : (es : List Extent) → AllByRecursion IsExtent es → AllByRecursion (λ (n : ℕ). (1 ≤ n) × (n ≤ 65536)) (numbers_in es)
ranges [] each = tt
ranges (e ∷ es) each = let low = each.0.low in ((omega (arith, low), each.0.high), ranges es each.1)

none-of : (n : ℕ) (es : List Extent) → AllByRecursion (λ (e : Extent). n ≢ e.number) es → IsNoneOf n (numbers_in es)
none-of n [] apart = tt
none-of n (e ∷ es) apart = ((λ same. apart.0 (sym same)), none-of n es apart.1)

distinct-numbers : (es : List Extent) → AreDistinct es → usages.AreDistinct (numbers_in es)
distinct-numbers [] distinct = tt
distinct-numbers (e ∷ es) distinct = (none-of e.number es distinct.0, distinct-numbers es distinct.1)

of-numbers : (P : ℕ → Type 0) (es : List Extent) → AllByRecursion P (numbers_in es) → AllByRecursion (λ (e : Extent). P e.number) es
of-numbers P [] all = tt
of-numbers P (e ∷ es) all = (all.0, of-numbers P es all.1)

-- ---- their times

-- an extent of no member keeps its time
members-stay : (times : List ℕ) (ms : List StoredMember) (n : ℕ) → AllByRecursion IsExtent (extents_of ms) → 1 ≤ n
    → AllByRecursion (λ (e : Extent). n ≢ e.number) (extents_of ms) → time_of (with_members times ms) n ≡ time_of times n
members-stay times [] n each low apart = refl
members-stay times (s ∷ ms) n each low apart =
    let own = ranges s.extents (all_of_front IsExtent s.extents (extents_of ms) each) in
    let lows = weaker (λ (k : ℕ). (1 ≤ k) × (k ≤ 65536)) (λ (k : ℕ). 1 ≤ k) (numbers_in s.extents) (λ k is. is.0) own in
    members-stay (with_times times (numbers_in s.extents) s.entry.time) ms n (all_of_back IsExtent s.extents (extents_of ms) each) low
    (all_of_back (λ (e : Extent). n ≢ e.number) s.extents (extents_of ms) apart)
    ∙ times-stay times (numbers_in s.extents) s.entry.time n lows low
    (none-of n s.extents (all_of_front (λ (e : Extent). n ≢ e.number) s.extents (extents_of ms) apart))

members-now : (times : List ℕ) (ms : List StoredMember) → length times ≡ 65536 → AllByRecursion IsExtent (extents_of ms) → AreDistinct (extents_of ms)
    → HasTimes (with_members times ms) ms
members-now times [] whole each distinct = tt
members-now times (s ∷ ms) whole each distinct =
    let time = s.entry.time in
    let after = with_times times (numbers_in s.extents) time in
    let parts = distinct_parts s.extents (extents_of ms) distinct in
    let own = all_of_front IsExtent s.extents (extents_of ms) each in
    let others = all_of_back IsExtent s.extents (extents_of ms) each in
    let now =
    of-numbers (λ (n : ℕ). time_of after n
    ≡ time) s.extents (times-now times (numbers_in s.extents) time whole (ranges s.extents own) (distinct-numbers s.extents parts.0)) in (
      three IsExtent (λ (e : Extent). AllByRecursion (λ (f : Extent). e.number ≢ f.number) (extents_of ms)) (λ (e : Extent). time_of after e.number
          ≡ time) (λ (e : Extent). time_of (with_members after ms) e.number ≡ time) s.extents
          (λ e is apart at. (let low = is.low in members-stay after ms e.number others (omega (arith, low)) apart ∙ at)) own parts.2 now,
      members-now after ms (times-long times (numbers_in s.extents) time ∙ whole) others parts.1,
    )

-- the extents of each member are known by the time of its commit
members-times : (live : List LiveChain) (ms : List StoredMember) → map live_named live ≡ map live_of ms → AllByRecursion IsExtent (extents_of ms)
    → AreDistinct (extents_of ms) → HasTimes (times_of live) ms
members-times live ms same each distinct =
    subst-times (sym (live-same (replicate 65536 0) live ms same)) (members-now (replicate 65536 0) ms (length-replicate {A = ℕ} 65536 0) each distinct)
  where
    subst-times : {a b : List ℕ} → a ≡ b → HasTimes a ms → HasTimes b ms
    subst-times {a} {b} same has = subst (λ (times : List ℕ). HasTimes times ms) same has

-- so it is of what is read of an image
pub opened-times : (header : Header) (layout : Layout) (reading opened : Reading) (r : Recovered) → IsLayoutOf header layout reading
    → IsReadAs (unread_layout layout) opened r → HasTimes (times_of r.live.items) layout.members
opened-times header layout reading opened r laid is =
    members-times r.live.items layout.members is.live_are
    (all_of_back IsExtent layout.anchors (extents_of layout.members) (live_extents_are header layout reading laid))
    (distinct_parts layout.anchors (extents_of layout.members) laid.heap.apart).1

-- there is a time for each extent
pub opened-long : (r : Recovered) → length (times_of r.live.items) ≡ 65536
opened-long r = long (replicate 65536 0) r.live.items ∙ length-replicate {A = ℕ} 65536 0
  where
    long : (times : List ℕ) (chains : List LiveChain) → length (with_live times chains) ≡ length times
    long times [] = refl
    long times (c ∷ cs) = long (with_times times c.extents.items c.time) cs ∙ times-long times c.extents.items c.time
