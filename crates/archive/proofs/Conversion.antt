-- A run that an area holds, by the places of its records.
use Rattle.std.proofs.Common.{◌≡◌, inr, ℕ, zero, suc, ◌+◌, ◌≤◌, true, List, [], ◌∷◌, length, Some, sym, ◌∙◌, ap, subst, arith, ⊎_elim}
use Rattle.std.specs.List.{slice_get, slice_range, AllByRecursion}
use Rattle.std.specs.declared.cmp.Ordering.TheVariants.{Less}
use Rattle.std.proofs.lemmas.Bool.Decides.{nat_tests}
use Rattle.history.specs.declared.key.Key.{Key}
use Rattle.history.specs.Key.{key_cmp, key_lt}
use Rattle.history.proofs.Keys.{key_lt-from_less}
use Rattle.floors.specs.Floors.{floor_at}
use Rattle.law_image.specs.Reading.{ArchiveRecord}
use Rattle.law_image.specs.StandsFor as stands
use Rattle.archive.specs.declared.run.RunEntry.{RunEntry}
use Rattle.archive.specs.Records.{IsArchiveRecord}
use Rattle.archive.specs.Runs.{run_bytes, run_end, HoldsRun}
use Rattle.archive.specs.Laid.{IsBefore, AreInOrder, IsLaidRun}

pub all_at : {X : Type 0} (P : X → Type 0) (xs : List X) (n : ℕ) (x : X) → AllByRecursion P xs → slice_get xs n ≡ Some x → P x
all_at P [] n x all is = cc
all_at P (y ∷ ys) zero x all is = let same : y ≡ x = cc in subst P same all.0
all_at P (y ∷ ys) (suc n) x all is = all_at P ys n x all.1 is

lesser_key : (a b : ArchiveRecord) → key_lt a.key b.key ≡ true → IsBefore a b
lesser_key a b less = grind (arith, nat_tests)

pub before_again : (a b : ArchiveRecord) → stands.IsBefore a b → IsBefore a b
before_again a b before =
    ⊎_elim
    (λ (less : key_cmp a.key b.key ≡ Less). lesser_key a b (key_lt-from_less a.key b.key less))
    (λ (same : (a.key ≡ b.key) × (a.version.to ≤ b.version.from)).
    inr (ap (λ (k : Key). k.relation) same.0, inr (ap (λ (k : Key). k.record) same.0, same.1)))
    before

pub order_again : (records : List ArchiveRecord) → stands.AreInOrder records → AreInOrder records
order_again [] order = tt
order_again (r ∷ []) order = tt
order_again (r ∷ s ∷ rest) order = (before_again r s order.0, order_again (s ∷ rest) order.1)

pub laid_run : (area : List ℕ) (run : RunEntry) (records : List ArchiveRecord) → HoldsRun area run records → IsLaidRun area run records
laid_run area run records holds =
    let size = holds.length_is in
    let range = run.in_range in
    let end : run.slot.start + length (run_bytes records) ≡ run_end run = omega arith in
    record {
      within = let inside = holds.held.inside in omega arith;
      short = range.end;
      spelled = ap (λ (n : ℕ). slice_range area run.slot.start n) (sym end) ∙ holds.held.is;
      count = sym holds.records_are;
      upto = range.upto_high;
      each = λ n r at.
          let fits = all_at IsArchiveRecord records n r holds.each at in
          let rules = all_at (stands.IsArchived run.mark (floor_at run.floors) run.slot.upto) records n r holds.rules.each at in
          record {
            relation = fits.key.relation;
            number = fits.key.number;
            lasts = rules.lasts;
            after_mark = rules.after_mark;
            after_floor = rules.after_floor;
            by_upto = rules.by_upto;
            value = fits.value;
          };
      in_order = order_again records holds.rules.in_order;
    }
