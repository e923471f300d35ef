-- A run is what its own bytes say.
use Rattle.std.proofs.Common.{◌≡◌, ℕ, ◌+◌, ◌-◌, ◌≤◌, List, length, take, drop, sym, ◌∙◌, ap, arith}
use Rattle.std.specs.List.{slice_range}
use Rattle.std.proofs.lemmas.List.{drop-take, take-take}
use Rattle.law_image.specs.Reading.{ArchiveRecord}
use Rattle.archive.specs.declared.run.RunEntry.{RunEntry}
use Rattle.archive.specs.Parts.{IsRight, EndBy}
use Rattle.archive.specs.Runs.{HoldsRun, run_bytes, run_end}

-- areas that agree up to a place hold the same parts up to it
pub same_part : (old new : List ℕ) (limit from to : ℕ) → from ≤ to → to ≤ limit → take limit new ≡ take limit old → slice_range new from to
    ≡ slice_range old from to
same_part old new limit from to order within same =
    sym (shown new) ∙ ap (λ (xs : List ℕ). take (to - from) (drop from xs)) same ∙ shown old
  where
    shown : (xs : List ℕ) → take (to - from) (drop from (take limit xs)) ≡ slice_range xs from to
    shown xs =
        let split : limit ≡ from + (limit - from) = omega arith in
        ap (λ (n : ℕ). take (to - from) (drop from (take n xs))) split
        ∙ ap (λ (ys : List ℕ). take (to - from) ys) (drop-take from (limit - from) xs)
        ∙ take-take (to - from) (limit - from) (drop from xs) (omega arith)

pub run_again : (old new : List ℕ) (run : RunEntry) (records : List ArchiveRecord) → HoldsRun old run records
    → run_end run ≤ length new → take (run_end run) new ≡ take (run_end run) old → HoldsRun new run records
run_again old new run records holds within same =
    let size = holds.length_is in
    record {
      held = record {
        inside = omega arith;
        is = same_part old new (run_end run) run.slot.start (run.slot.start + length (run_bytes records)) (omega arith) (omega arith) same ∙ holds.held.is;
      };
      length_is = holds.length_is;
      records_are = holds.records_are;
      each = holds.each;
      rules = holds.rules;
    }

pub kept_again : (limit : ℕ) (old new : List ℕ) (kept : List (ℕ × List ℕ)) → IsRight kept old → EndBy limit kept
    → limit ≤ length new → take limit new ≡ take limit old → IsRight kept new
kept_again limit old new kept right ends within same = record {
  each = λ from bytes there.
      let was = right.each from bytes there in
      let end = ends.each from bytes there in
      record {
        within = omega arith;
        same = was.same ∙ sym (same_part old new limit from (from + length bytes) (omega arith) end same);
      };
}
