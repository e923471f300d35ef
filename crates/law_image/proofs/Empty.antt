-- The image of a new store stands for the empty history.
use Rattle.std.proofs.Common.{ℕ, [], refl, arith}
use Rattle.std.specs.List.Sorted.{IsStrictlySortedBy}
use Rattle.law_image.specs.Plans.{empty_reading}
use Rattle.law_image.specs.StandsFor.{IsHeader, IsHeapOf, StandsFor}
use Rattle.law_image.specs.HeapPlans.{empty_heap}
use Rattle.law_image.proofs.Forms.{of-slots, slots-profile}

pub empty-stands_for : (profile slots pieces : ℕ) → IsHeader profile slots pieces → StandsFor (empty_reading profile slots pieces) [] (λ relation. 0)
unfolding IsStrictlySortedBy
empty-stands_for profile slots pieces header = record {
  opens = record {
    reads = record {
      form = of-slots (empty_reading profile slots pieces) (slots-profile profile slots pieces header) (record {
        header = header;
        log = tt;
        fits = omega arith;
        runs = tt;
      });
      members = refl;
      chains = tt;
      stored = tt;
      anchors = tt;
      anchor_times = tt;
    };
    floors_given = λ relation. refl;
    history = tt;
    commits = refl;
    write_sets = refl;
  };
  homes = record {
    marks = omega arith;
    in_heap = λ key. refl;
    in_archive = λ key. refl;
  };
}

pub empty-heap_stands : (extents : ℕ) → IsHeapOf extents 0 → StandsFor (empty_heap extents) [] (λ relation. 0)
unfolding IsStrictlySortedBy
empty-heap_stands extents header = record {
  opens = record {
    reads = record {
      form = record { header = header; log = record { each = tt; archived = omega arith; published = omega arith }; runs = tt };
      members = refl;
      chains = tt;
      stored = tt;
      anchors = tt;
      anchor_times = tt;
    };
    floors_given = λ relation. refl;
    history = tt;
    commits = refl;
    write_sets = refl;
  };
  homes = record {
    marks = omega arith;
    in_heap = λ key. refl;
    in_archive = λ key. refl;
  };
}
