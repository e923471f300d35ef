-- What the steps of a reclaim keep of the order of the transactions.
use Rattle.std.proofs.Common.{◌≡◌, ℕ, zero, suc, ◌+◌, ◌-◌, ◌<◌, ◌≤◌, nat_lt, true, List, [], ◌∷◌, ◌++◌, length, slice_get, slice_set, Option, None, Some}
use Rattle.std.proofs.Common.{MatchOption, refl, arith, ap, sym, subst, ◌∙◌}
use Rattle.std.specs.List.{AllByRecursion, flat_map}
use Rattle.std.proofs.lemmas.List.{append-nil}
use Rattle.std.proofs.lemmas.List.Concat.{flat_map-cons}
use Rattle.chains.specs.KeyWrites.{KeyWrites, latest, forgotten}
use Rattle.extents.specs.declared.usage.Usage.TheVariants.{Kept}
use Rattle.extents.specs.Usages.{IsOut, AreOut}
use Rattle.extents.specs.Times.{all_retired_by}
use Rattle.group.specs.CommitOrder as orders
use Rattle.group.specs.Queued.{QueuedValue, numbers_of}
use Rattle.group.specs.Taking.{AreLeastFree}
use Rattle.group.specs.declared.stage.GroupStage.{GroupStage}
use Rattle.group.specs.declared.stage.GroupStage.TheVariants.{NoGroup, Storing, Stored, Turning}
use Rattle.group.specs.Values.{TransactionsValue, claimed_by}
use Rattle.group.specs.Order.{StageFits, HasExtent, IsInOrder}
use Rattle.group.specs.Steps.{fresh_at}
use Rattle.group.specs.Reclaims.{with_reserved, IsReserved, reclaimed_to, versions_once}
use Rattle.group.specs.Submits.{free_count}
use Rattle.group.proofs.Publishing.{out-front, out-rest, out-swapped, out-reserved, out-still}

pub keeps-reserved : (v : TransactionsValue) (numbers : List ℕ) → IsInOrder v → AreLeastFree v.usages numbers → IsInOrder (with_reserved v numbers)
keeps-reserved v numbers order least = record {
  split = order.split;
  pending = order.pending;
  latest = order.latest;
  group_within = order.group_within;
  group_few = order.group_few;
  stage_fits = order.stage_fits;
  stored = order.stored;
  out = (out-reserved v.usages (flat_map numbers_of v.queue) v.reserved numbers order.out least).1;
  room = order.room;
  slots_few = order.slots_few;
}

pub reserves : (v w new : TransactionsValue) (count : ℕ) (numbers : List ℕ) → v ≡ w → count ≤ free_count v → AreLeastFree v.usages numbers
    → length numbers ≡ count → new ≡ with_reserved v numbers → (count ≤ free_count w) × IsReserved w count new
reserves v w new count numbers same room least many is =
    subst (λ (x : TransactionsValue). (count ≤ free_count x) × IsReserved x count new) same
    (room, record { numbers = numbers; least = least; many = many; new_is = is })

once-by : (time : ℕ) (o : Option (List KeyWrites)) (versions : List KeyWrites) → MatchOption o (Unit {0}) (λ made. latest made ≤ time) → latest versions ≤ time
    → latest (versions_once o versions) ≤ time
once-by time None versions by was = was
once-by time (Some made) versions by was = by

pub keeps-reclaimed : (v : TransactionsValue) (mark : ℕ) → IsInOrder v → ((n : ℕ) → IsOut v.usages n → IsOut (all_retired_by mark v.times v.usages) n)
    → IsInOrder (reclaimed_to v mark)
keeps-reclaimed v mark order stays =
    let still = out-still v.usages (all_retired_by mark v.times v.usages) (flat_map numbers_of v.queue ++ v.reserved) stays order.out in
    let rest = out-rest (all_retired_by mark v.times v.usages) v.reserved (flat_map numbers_of v.queue) Kept
    (out-swapped (all_retired_by mark v.times v.usages) (flat_map numbers_of v.queue) v.reserved still) in
    record {
      split = order.split;
      pending = tt;
      latest = (once-by (orders.last_time v.heads) v.pending v.versions order.pending order.latest.0, order.latest.1);
      group_within = order.group_within;
      group_few = order.group_few;
      stage_fits = order.stage_fits;
      stored = order.stored;
      out = subst (λ (ns : List ℕ). AreOut (reclaimed_to v mark).usages ns) (sym (append-nil (flat_map numbers_of v.queue))) rest;
      room = order.room;
      slots_few = order.slots_few;
    }

-- those that were out for the reclaim are so until they are kept
pub reserved-out : (v : TransactionsValue) (mark : ℕ) → IsInOrder v → ((n : ℕ) → IsOut v.usages n → IsOut (all_retired_by mark v.times v.usages) n)
    → AreOut (all_retired_by mark v.times v.usages) v.reserved
reserved-out v mark order stays =
    let still = out-still v.usages (all_retired_by mark v.times v.usages) (flat_map numbers_of v.queue ++ v.reserved) stays order.out in
    out-front (all_retired_by mark v.times v.usages) v.reserved (flat_map numbers_of v.queue)
    (out-swapped (all_retired_by mark v.times v.usages) (flat_map numbers_of v.queue) v.reserved still)

-- ---- a commit whose versions are made anew

pub fresh-is : (mark place : ℕ) (queue : List QueuedValue) (q : QueuedValue) → slice_get queue place ≡ Some q → nat_lt q.reclaimed mark ≡ true
    → fresh_at mark place queue (slice_get queue place) ≡ slice_set queue place (record q { after = forgotten mark q.after; reclaimed = mark })
fresh-is mark place queue q found stale = rw (found, stale) refl

module _ (after : List KeyWrites) (mark : ℕ) where
  abbrev anew : QueuedValue → QueuedValue
  anew q = record q { after = after; reclaimed = mark }

  set-length : (qs : List QueuedValue) (place : ℕ) (q : QueuedValue) → slice_get qs place ≡ Some q → length (slice_set qs place (anew q)) ≡ length qs
  set-length [] place q found = refl
  set-length (x ∷ xs) zero q found = refl
  set-length (x ∷ xs) (suc k) q found = ap suc (set-length xs k q found)

  set-numbers : (qs : List QueuedValue) (place : ℕ) (q : QueuedValue) → slice_get qs place ≡ Some q
      → flat_map numbers_of (slice_set qs place (anew q)) ≡ flat_map numbers_of qs
  set-numbers [] place q found = refl
  set-numbers (x ∷ xs) zero q found =
      let same : x ≡ q = cc in
      flat_map-cons numbers_of (anew q) xs ∙ ap (λ (z : QueuedValue). numbers_of z ++ flat_map numbers_of xs) (sym same) ∙ sym (flat_map-cons numbers_of x xs)
  set-numbers (x ∷ xs) (suc k) q found =
      flat_map-cons numbers_of x (slice_set xs k (anew q)) ∙ ap (λ (ns : List ℕ). numbers_of x ++ ns) (set-numbers xs k q found)
      ∙ sym (flat_map-cons numbers_of x xs)

  set-stored : (qs : List QueuedValue) (place : ℕ) (q : QueuedValue) → slice_get qs place ≡ Some q → AllByRecursion HasExtent qs
      → AllByRecursion HasExtent (slice_set qs place (anew q))
  set-stored [] place q found all = tt
  set-stored (x ∷ xs) zero q found all = let same : x ≡ q = cc in (subst (λ (z : QueuedValue). 0 < length z.stored) same all.0, all.1)
  set-stored (x ∷ xs) (suc k) q found all = (all.0, set-stored xs k q found all.1)

  set-by : (time : ℕ) (qs : List QueuedValue) (place : ℕ) (q : QueuedValue) → slice_get qs place ≡ Some q → latest after ≤ latest q.after
      → AllByRecursion (λ (z : QueuedValue). latest z.after ≤ time) qs
      → AllByRecursion (λ (z : QueuedValue). latest z.after ≤ time) (slice_set qs place (anew q))
  set-by time [] place q found le all = tt
  set-by time (x ∷ xs) zero q found le all =
      let same : x ≡ q = cc in
      let was : latest q.after ≤ time = subst (λ (z : QueuedValue). latest z.after ≤ time) same all.0 in
      (omega (arith, was, le), all.1)
  set-by time (x ∷ xs) (suc k) q found le all = (all.0, set-by time xs k q found le all.1)

  -- a commit there has the extents that it had
  set-found : (qs : List QueuedValue) (place : ℕ) (q : QueuedValue) → slice_get qs place ≡ Some q → (k : ℕ) (p : QueuedValue)
      → slice_get (slice_set qs place (anew q)) k ≡ Some p
      → (old : QueuedValue) × (slice_get qs k ≡ Some old) × (p.stored ≡ old.stored)
  set-found [] place q found k p there = absurd cc
  set-found (x ∷ xs) zero q found zero p there =
      let same : x ≡ q = cc in
      let is : anew q ≡ p = cc in
      (x, refl, ap (λ (z : QueuedValue). z.stored) (sym is) ∙ ap (λ (z : QueuedValue). z.stored) (sym same))
  set-found (x ∷ xs) zero q found (suc k) p there = (p, there, refl)
  set-found (x ∷ xs) (suc place) q found zero p there = (p, there, refl)
  set-found (x ∷ xs) (suc place) q found (suc k) p there = set-found xs place q found k p there

  set-fits : (s : GroupStage) (group : ℕ) (qs : List QueuedValue) (place : ℕ) (q : QueuedValue) → slice_get qs place ≡ Some q → StageFits s group qs
      → StageFits s group (slice_set qs place (anew q))
  set-fits NoGroup group qs place q found fits = fits
  set-fits Stored group qs place q found fits = fits
  set-fits Turning group qs place q found fits = fits
  set-fits (Storing member extent) group qs place q found fits = (
    fits.0,
    fits.1,
    λ low p there. let old = set-found qs place q found member p there in
        subst (λ (ss : List _). extent < length ss) (sym old.2) (fits.2 low old.0 old.1),
  )

  pub keeps-fresh : (v : TransactionsValue) (place : ℕ) (q : QueuedValue) → IsInOrder v → slice_get v.queue place ≡ Some q → latest after ≤ latest q.after
      → IsInOrder (record v { queue = slice_set v.queue place (anew q) })
  keeps-fresh v place q order found le =
      let many = set-length v.queue place q found in record {
        split = omega (arith, many, order.split);
        pending = order.pending;
        latest = (order.latest.0, set-by (orders.last_time v.heads) v.queue place q found le order.latest.1);
        group_within = omega (arith, many, order.group_within);
        group_few = order.group_few;
        stage_fits = set-fits v.stage v.group v.queue place q found order.stage_fits;
        stored = set-stored v.queue place q found order.stored;
        out = subst (λ (ns : List ℕ). AreOut v.usages (ns ++ v.reserved)) (sym (set-numbers v.queue place q found)) order.out;
        room = subst (λ (n : ℕ). v.used + claimed_by v.stage v.group n ≤ v.slots) (sym many) order.room;
        slots_few = order.slots_few;
      }
