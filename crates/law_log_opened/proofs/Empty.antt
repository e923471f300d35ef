-- An image whose log ends where it begins stands for the empty history.
use Rattle.std.proofs.Common.{ℕ, ◌*◌, ◌/◌, ◌≤◌, [], refl, arith}
use Rattle.std.specs.List.{AllByRecursion}
use Rattle.disk.specs.Areas.{Image}
use Rattle.law_image.specs.Reading.{Reading}
use Rattle.law_image.specs.HeapPlans.{empty_heap}
use Rattle.law_image.specs.StandsFor.{StandsFor, reclaimed_upto}
use Rattle.law_image.proofs.Empty.{empty-heap_stands}
use Rattle.deltas.specs.Extents.{extent_start}
use Rattle.log_extents.specs.Chains.{count_of}
use Rattle.log_roots.specs.declared.roots.Roots.{Roots}
use Rattle.log_roots.specs.Roots.{root_of, IsRoots}
use Rattle.log_recovery.specs.Opening.{ReadsRoots}
use Rattle.law_log_layout.specs.HeapLog.{HeapLog, IsLogOf, KeepsShares}
use Rattle.law_log_layout.specs.Turns.{IsClosed}
use Rattle.law_log_sizes.specs.Sizes.{sizes}
use Rattle.law_log_sizes.proofs.Orders.{standing-ordered}
use Rattle.law_log_sizes.proofs.Told.{bounds-same}
use Rattle.law_log_store.specs.Standing.{IsImageOf}

-- a log without chains, which ends at this extent
abbrev pub empty_log : ℕ → HeapLog
empty_log next = record { chains = []; next = next; anchors = record { numbers = []; records = [] }; rolls = []; runs = [] }

module _ (roots : Roots) (is : IsRoots roots) where
  abbrev reading : Reading
  reading = empty_heap roots.extents

  pub empty-stands : StandsFor reading [] (λ relation. 0)
  empty-stands =
      let size = is.size in
      empty-heap_stands roots.extents (record { some = size.least; most = size.most; whole = size.whole; no_pieces = refl })

  fit : AllByRecursion (λ n. count_of n ≤ (3 * roots.extents) / 16) (sizes reading)
  fit = (omega arith, tt)

  shares : KeepsShares roots.extents (empty_log (root_of roots)) reading
  shares = record {
    log = let size = is.size in omega (arith, size.least);
    anchors =
        (bounds-same (reclaimed_upto reading) reading (standing-ordered reading [] (λ relation. 0) empty-stands) ((3 * roots.extents) / 16)).1 fit;
    base = tt;
  }

  pub empty-is_log : IsLogOf roots.extents (root_of roots) (empty_log (root_of roots)) reading
  empty-is_log = record {
    placed = tt;
    chained = refl;
    anchors = record { count = refl; in_range = tt; each = tt };
    next = (is.root_low, is.root_high);
    apart = (tt, tt);
    anchors_named = (refl, refl);
    rolls_named = refl;
    runs_named = refl;
    each_run = tt;
    each_roll = tt;
    archive_apart = tt;
    archives_in_row = tt;
    rolls_in_row = tt;
    shares = shares;
    names = [];
    are_names = record { rising = tt; same = λ head. (λ has. has, λ has. has); many = refl };
    rules = record { each = tt; archived = omega arith };
    reading_is = refl;
  }

-- so it is where the gate at the root is closed
pub empty-image : (roots : Roots) (image : Image) → ReadsRoots image.status roots → IsClosed (extent_start (root_of roots)) image.heap
    → IsImageOf roots image [] (λ relation. 0)
empty-image roots image reads closed = record {
  read = roots;
  status = reads;
  size = refl;
  heap = record {
    log = empty_log (root_of roots);
    reading = empty_heap roots.extents;
    is_log = empty-is_log roots reads.has.in_range;
    held = record { parts = tt; ends = closed; rolls = tt; runs = tt };
    stands = empty-stands roots reads.has.in_range;
  };
}
