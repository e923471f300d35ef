use Rattle.std.proofs.Common.{◌≡◌, ◌≢◌, ◌<◌, ℕ}
use Rattle.extents.specs.declared.usage.Usage.{Usage}
use Rattle.extents.specs.declared.usage.Usage.TheVariants.{Kept}
use Rattle.extents.specs.Usages.{HasUsage, IsKept}
use Rattle.extents.specs.Times.{time_of, retired_by}
use Rattle.extents.proofs.extents.Extents.retire_by.Given as goal

abbrev pub invariant-loop-place : goal.invariant-loop-place
invariant-loop-place l = record {
  is : l.self ≡ retired_by l.mark l.times l.fn.self l.place;
  kept : (number : ℕ) → l.mark < time_of l.times number → IsKept l.fn.self number → IsKept l.self number;
  others : (usage : Usage) (number : ℕ) → usage ≢ Kept → HasUsage usage l.fn.self number → HasUsage usage l.self number;
}
