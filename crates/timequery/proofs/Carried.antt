-- What asks an archive and a disk asks what has them.
use Rattle.std.proofs.Common.{◌≡◌, ◌≤◌, ℕ, Bool, true, false, List, Result, Ok, Err, MatchBool, IsTrue, sym, ap, subst, ◌∙◌}
use Rattle.disk.specs.Calls.{DiskState}
use Rattle.history.specs.Histories.{History}
use Rattle.law_image.specs.Values.{Value}
use Rattle.archive.specs.Parts.{Keeps}
use Rattle.archive.specs.Searches.{archive_of}
use Rattle.timequery.specs.Archives.{ArchiveValue}
use Rattle.timequery.specs.Asked.{Holding, alone, Asks, Finds, OrStranger}
use Rattle.timequery.specs.Faults.{after_query}
use Rattle.timequery.specs.View.{ViewValue}
use Rattle.timequery.specs.declared.fault.QueryFault.{QueryFault}
use Rattle.timequery.specs.declared.fault.QueryFault.TheVariants as query

-- What is asked has another archive and another disk, and nothing else of it is changed.
module _ {T W : Type 0} (held : Holding W) (tells : Bool) (old : W) (view : ViewValue) (archive : ArchiveValue) (disk : DiskState)
    (has : held.archive (held.with_both old archive disk) ≡ archive) (same : held.with_both old (held.archive old) (held.disk old) ≡ old)
    (answer : Result T QueryFault) where
  abbrev before : ArchiveValue × DiskState
  before = (held.archive old, held.disk old)

  abbrev new : W
  new = held.with_both old archive disk

  kept : archive.kept ≡ (held.archive new).kept
  kept = ap (λ (a : ArchiveValue). a.kept) (sym has)

  asks : Asks alone tells before view answer (archive, disk) → Asks held tells old view answer new
  asks does = record {
    new_is = ap (λ (p : ArchiveValue × DiskState). held.with_both old p.0 p.1) does.new_is
        ∙ ap (λ (k : List (ℕ × List ℕ)). held.with_both old (record (held.archive old) { kept = k }) (after_query answer (held.disk old))) kept;
    kept = λ limit ends.
        subst (λ (k : List (ℕ × List ℕ)). Keeps limit tells (archive_of (held.disk old)) (held.archive old).kept k) kept (does.kept limit ends);
  }

  pub carried : (own : Bool) (from : ℕ) (Refuses : QueryFault → Type 0) (Recent : T → Type 0) (OfHistory : History Value
      → T → Type 0) (Exact : Result T QueryFault → Type 0)
      → OrStranger own before (Finds alone tells before view from Refuses Recent OfHistory Exact) answer (archive, disk)
      → OrStranger own old (Finds held tells old view from Refuses Recent OfHistory Exact) answer new
  carried true from Refuses Recent OfHistory Exact finds = record {
    asks = asks finds.asks;
    refused = finds.refused;
    recent = λ late. let found = finds.recent late in (sym kept ∙ found.0, found.1);
    only = finds.only;
    exact = finds.exact;
  }
  carried false from Refuses Recent OfHistory Exact strange =
      (strange.0, ap (λ (p : ArchiveValue × DiskState). held.with_both old p.0 p.1) strange.1 ∙ same)
