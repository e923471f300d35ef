-- Which readings keep their order.
use Rattle.std.proofs.Common.{ℕ, List, [], ◌∷◌, ◌++◌, map, sym, subst, arith}
use Rattle.std.specs.List.{AllByRecursion}
use Rattle.std.proofs.lemmas.List.{map-append}
use Rattle.history.specs.Histories.{History}
use Rattle.history.proofs.Filters.{AllByRecursion-append}
use Rattle.law_image.specs.Values.{Value}
use Rattle.law_image.specs.Reading.{Head, Member, Reading}
use Rattle.law_image.specs.Log.{last_time_after, AreRisingAfter}
use Rattle.law_image.specs.Facts.{heap_commits, values_at_mark}
use Rattle.law_image.specs.StandsFor.{StandsFor, IsChain, reclaimed_upto}
use Rattle.law_image.specs.Plans.{with_group}
use Rattle.law_image.proofs.FactsOf.{heads-commits_from}
use Rattle.law_image.proofs.Standing.{archived-range, last-range, recent-rise, heads-rising}
use Rattle.law_log_sizes.specs.Sizes.{HasRisingKeys, IsOrdered}

rising-keys : (ms : List Member) → AllByRecursion IsChain ms → AllByRecursion HasRisingKeys ms
rising-keys [] chains = tt
rising-keys (m ∷ ms) chains = (chains.0.rising, rising-keys ms chains.1)

pub standing-ordered : (reading : Reading) (h : History Value) (floors : ℕ → ℕ) → StandsFor reading h floors → IsOrdered (reclaimed_upto reading) reading
standing-ordered reading h floors stands = record {
  range = omega (arith, stands.homes.marks, archived-range reading h floors stands, last-range reading h floors stands);
  anchors = stands.opens.reads.anchors;
  anchor_times = stands.opens.reads.anchor_times;
  times = subst (AreRisingAfter (reclaimed_upto reading)) (heads-commits_from (values_at_mark reading) reading.members)
      (heads-rising (reclaimed_upto reading) (heap_commits reading) (recent-rise reading h floors stands));
  keys = rising-keys reading.members stands.opens.reads.chains;
}

pub rising-append : (s : ℕ) (xs ys : List Head) → AreRisingAfter s xs → AreRisingAfter (last_time_after s xs) ys → AreRisingAfter s (xs ++ ys)
rising-append s [] ys up next = next
rising-append s (x ∷ xs) ys up next = (up.0, up.1, rising-append x.time xs ys up.2 next)

pub group-ordered : (mark : ℕ) (reading : Reading) (group : List Member) → IsOrdered mark reading
    → AreRisingAfter (last_time_after mark (map (λ (m : Member). m.head) reading.members)) (map (λ (m : Member). m.head) group)
    → AllByRecursion HasRisingKeys group → IsOrdered mark (with_group reading group)
group-ordered mark reading group ordered up rising = record {
  range = ordered.range;
  anchors = ordered.anchors;
  anchor_times = ordered.anchor_times;
  times = subst (AreRisingAfter mark) (sym (map-append (λ (m : Member). m.head) reading.members group))
      (rising-append mark (map (λ (m : Member). m.head) reading.members) (map (λ (m : Member). m.head) group) ordered.times up);
  keys = AllByRecursion-append HasRisingKeys reading.members group ordered.keys rising;
}
