-- What memory has of what the log names in the archive, with one chain more.
use Rattle.std.proofs.Common.{◌≡◌, ◌+◌, ◌-◌, List, [], ◌∷◌, ◌++◌, length, refl, ap, sym, ◌∙◌, arith}
use Rattle.std.specs.Prelude.{flat_map}
use Rattle.std.proofs.lemmas.List.{append-nil}
use Rattle.std.proofs.lemmas.Grind.{flat_map-append}
use Rattle.history.specs.Histories.{History}
use Rattle.law_image.specs.Values.{Value}
use Rattle.law_image.specs.Reading.{ArchiveRecord, Reading, Archived}
use Rattle.law_image.specs.HeapPlans.{first_runs}
use Rattle.law_image.specs.StandsFor.{archived_upto}
use Rattle.law_image.proofs.Logs.{archive_mark-append}
use Rattle.log_entries.specs.declared.entry.Archive.{Archive}
use Rattle.log_writer.specs.Writer.{WriterState}
use Rattle.law_log_layout.specs.HeapLog.{PlacedChain, HeapLog, archives_in, with_chain}
use Rattle.law_log_layout.proofs.GroupJoins.{none-more}
use Rattle.log_entries.specs.Ranges.{run_of}
use Rattle.log_recovery.specs.Read.{archives_named, all_archives}
use Rattle.log_store.specs.Named.{NamedValue, with_archives}
use Rattle.log_store.specs.declared.job.JobWork.TheVariants as works
use Rattle.law_log_store.specs.Named.{IsBehind, IsNamedBy}
use Rattle.law_log_store.specs.Standing.{IsNextArchive, placed_entry, log_with, reading_with}
use Rattle.law_log_store.proofs.Spans.{behind-same, behind-more}

-- all archives that the log names
pub archives-same : (l : HeapLog) (c : PlacedChain) → archives_named c.entry ≡ [] → all_archives (with_chain l c).chains ≡ all_archives l.chains
archives-same l c none = none-more (λ (d : PlacedChain). archives_named d.entry) l.chains c none

pub archives-more : (l : HeapLog) (c : PlacedChain) (a : Archive) → archives_named c.entry ≡ a ∷ []
    → all_archives (l.chains ++ c ∷ []) ≡ all_archives l.chains ++ a ∷ []
archives-more l c a is =
    let f : PlacedChain → List Archive = λ (d : PlacedChain). archives_named d.entry in
    flat_map-append f l.chains (c ∷ []) ∙ ap (λ (rest : List Archive). flat_map f l.chains ++ rest) (append-nil (f c) ∙ is)

-- a chain that names nothing there
pub named-same : (named : NamedValue) (l : HeapLog) (c : PlacedChain) (reading then : Reading) → archives_named c.entry ≡ [] → archives_in c.entry ≡ []
    → archived_upto then ≡ archived_upto reading → IsNamedBy named l reading → IsNamedBy named (with_chain l c) then
named-same named l c reading then none no-runs mark is = record {
  archives = is.archives ∙ sym (archives-same l c none);
  rolls = is.rolls;
  upto = is.upto ∙ sym mark;
  end = behind-same named.end l c no-runs is.end;
}

-- the entry of an archive
pub named-more : (named : NamedValue) (l : HeapLog) (w : WriterState) (reading : Reading) (h : History Value) (a : Archive) (archives : List Archive)
    (made : List ArchiveRecord)
    → IsNamedBy named l reading → IsNextArchive l reading h a archives made
    → IsNamedBy (with_archives archives a named) (log_with (works.Archive a archives) made l w) (reading_with (works.Archive a archives) made reading)
named-more named l w reading h a archives made is next =
    let c = placed_entry w (works.Archive a archives) in
    let b : IsBehind (a.start + a.len) (with_chain l c) = behind-more a.start l c (run_of a) refl (omega arith) next.behind in
    record {
      archives = next.named ∙ sym (archives-more l c a refl);
      rolls = is.rolls;
      upto = sym (archive_mark-append 0 (first_runs (length reading.runs - a.runs) reading.log) (Archived a.upto ∷ []));
      end = record { runs = b.runs; rolls = b.rolls };
    }
