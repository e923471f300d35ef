-- What stands where an area holds a run breaks no rule.
use Rattle.std.proofs.Common.{◌≡◌, ℕ, zero, suc, ◌+◌, ◌-◌, ◌*◌, ◌≤◌, ◌<◌, Bool, true, false, cond, ◌==◌, List, Some, refl, sym, ◌∙◌, ap, subst, arith}
use Rattle.std.specs.List.{slice_get, slice_range}
use Rattle.std.proofs.lemmas.Option.{slice_get_within}
use Rattle.std.proofs.lemmas.Bool.Decides.{nat_tests}
use Rattle.byteorder.specs.Endian.{little_number}
use Rattle.law_image.specs.Reading.{ArchiveRecord}
use Rattle.archive.specs.declared.run.RunEntry.{RunEntry}
use Rattle.archive.specs.declared.head.Head.{Head}
use Rattle.archive.specs.Runs.{place_of, HoldsRun}
use Rattle.archive.specs.Laid.{IsLaidRun}
use Rattle.archive.specs.Answers.{head_of}
use Rattle.archive.specs.Searches.{IsPlace, IsPlaced, IsSeen, index_start, is_in_range}
use Rattle.archive.specs.Damages.{IsEntryThere, entry_at, placed_at, before_of, IsHeadSound, IsValueAt, IsUnbroken}
use Rattle.archive.specs.Traces.{nth_head}
use Rattle.archive.proofs.Places.{run_length, end_place}
use Rattle.archive.proofs.Searching.{place_is_read, head_is_read, value_is_read, head_in_range, some_record, is_placed, next_room, seen_follows}
use Rattle.archive.proofs.Conversion.{laid_run}

module _ (area : List ℕ) (run : RunEntry) (records : List ArchiveRecord) (holds : IsLaidRun area run records) where
  entry_read : (n : ℕ) → n ≤ run.slot.records → entry_at area run n ≡ place_of records n
  entry_read n few = by_test (n == run.slot.records) refl where
    by_test : (b : Bool) → (n == run.slot.records) ≡ b
        → cond b (index_start run)
        (little_number 8 (slice_range area (run.slot.start + (index_start run + 8 * n)) (run.slot.start + (index_start run + 8 * n) + 8)))
        ≡ place_of records n
    by_test true test =
        let last : run.slot.records ≡ n = grind (arith, nat_tests) in
        end_place area run records holds ∙ ap (place_of records) last
    by_test false test =
        let less : n < run.slot.records = grind (arith, nat_tests) in
        place_is_read area run records holds n _ _ less refl refl

  entry_there : (n : ℕ) → IsEntryThere area run n
  entry_there n less = let end = holds.within in let size = run_length area run records holds in let count = holds.count in omega (arith, end, size, count)

  within : (n : ℕ) (r : ArchiveRecord) → slice_get records n ≡ Some r → n < run.slot.records
  within n r at = omega (arith, slice_get_within records n r at, holds.count)

  head_read : (n : ℕ) (r : ArchiveRecord) → slice_get records n ≡ Some r → nth_head area run n ≡ head_of r
  head_read n r at = head_is_read area run records holds n r (entry_at area run n) _ at (entry_read n (omega (arith, within n r at))) refl

  placed_read : (n : ℕ) (r : ArchiveRecord) → slice_get records n ≡ Some r → IsPlaced records r (placed_at area run n)
  placed_read n r at = record { at = at; head = head_read n r at; place = entry_read n (omega (arith, within n r at)) }

  head_sound : (n : ℕ) → n < run.slot.records → IsHeadSound area run (before_of area run n) n
  head_sound n less =
      let found = some_record area run records holds n less in
      let r = found.0 in
      let at = found.1 in
      record {
        few = less;
        there = entry_there n;
        place = subst (IsPlace run n) (sym (entry_read n (omega arith))) (is_placed area run records holds n (omega arith));
        in_range = ap (λ (h : Head). is_in_range h run) (head_read n r at) ∙ head_in_range area run records holds n r at;
        follows = seen_follows area run records holds r (before_of area run n) (placed_at area run n) (seen n less) (placed_read n r at);
      }
    where
      seen : (n : ℕ) → n < run.slot.records → IsSeen records (before_of area run n)
      seen zero less = tt
      seen (suc m) less = let found = some_record area run records holds m (omega arith) in (found.0, placed_read m found.0 found.1)

  value_sound : (n : ℕ) (r : ArchiveRecord) → slice_get records n ≡ Some r → IsValueAt area run n r.version.value
  value_sound n r at =
      let here = entry_read n (omega (arith, within n r at)) in
      let next = entry_read (n + 1) (omega (arith, within n r at)) in
      let room = next_room area run records holds n r (entry_at area run n) (entry_at area run (n + 1)) at here next in
      let to : run.slot.start + entry_at area run (n + 1) ≡ run.slot.start + (entry_at area run n + 26) + (entry_at area run (n + 1) - entry_at area run n - 26)
      = omega (arith, room.0) in
      record {
        there = entry_there (n + 1);
        end = subst (IsPlace run (n + 1)) (sym next) (is_placed area run records holds (n + 1) (omega (arith, within n r at)));
        least = room.0;
        most = room.1;
        is = (holds.each n r at).value;
        spelled =
            value_is_read area run records holds n r (entry_at area run n) (entry_at area run (n + 1)) _ at here next
            (ap (λ (k : ℕ). slice_range area (run.slot.start + (entry_at area run n + 26)) k) to);
      }

-- the same of a run by its own definition
module _ (area : List ℕ) (run : RunEntry) (records : List ArchiveRecord) (holds : HoldsRun area run records) where
  pub held_entry : (n : ℕ) → n ≤ run.slot.records → entry_at area run n ≡ place_of records n
  held_entry = entry_read area run records (laid_run area run records holds)

  pub held_head : (n : ℕ) (r : ArchiveRecord) → slice_get records n ≡ Some r → nth_head area run n ≡ head_of r
  held_head = head_read area run records (laid_run area run records holds)

  pub held_value : (n : ℕ) (r : ArchiveRecord) → slice_get records n ≡ Some r → IsValueAt area run n r.version.value
  held_value = value_sound area run records (laid_run area run records holds)

  pub held_unbroken : IsUnbroken area run
  held_unbroken =
      let laid = laid_run area run records holds in
      record {
        within = laid.within;
        heads = head_sound area run records laid;
        values = λ n less. let found = some_record area run records laid n less in (found.0.version.value, value_sound area run records laid n found.0 found.1);
      }
