-- What stands of the run that a job makes.
use Rattle.std.proofs.Common.{◌≡◌, ℕ, ◌<◌, ◌≤◌, max, List, [], ◌∷◌, ◌++◌, length, filter, Option, Some, arith, ap, sym, subst, ◌∙◌}
use Rattle.std.specs.List.{AllByRecursion}
use Rattle.disk.specs.Parts.{HoldsPart}
use Rattle.disk.specs.declared.area.Area.TheVariants as areas
use Rattle.disk.proofs.Parts.{read_part}
use Rattle.history.specs.declared.key.Key.{Key}
use Rattle.history.specs.Versions.{ends_after, ends_by}
use Rattle.history.specs.Histories.{last, versions_of, writes_of}
use Rattle.history.specs.Machine.{Machine}
use Rattle.history.proofs.Histories.{writes_of-rising}
use Rattle.history.proofs.Values.{versions-apart}
use Rattle.law_image.specs.Values.{Value}
use Rattle.law_image.specs.Reading.{ArchiveRecord}
use Rattle.law_image.specs.Log.{floor_of}
use Rattle.law_image.specs.Facts.{run_versions, heap_versions}
use Rattle.law_image.specs.StandsFor.{IsRun, IsArchived, archived_upto, reclaimed_upto}
use Rattle.law_image.proofs.ArchiveStep.{joined}
use Rattle.law_image.proofs.Standing.{rises}
use Rattle.wire.specs.declared.slot.Run.{Run}
use Rattle.archive.specs.Pieces.{InWriting}
use Rattle.archive.specs.Records as kept
use Rattle.archive.specs.Runs as written
use Rattle.archive.specs.Searches.{archive_of}
use Rattle.law_layout.specs.Records.{IsArchiveRecord}
use Rattle.law_layout.specs.Runs.{StoredRun, KeepsRun, run_bytes}
use Rattle.law_layout.proofs.Lists.{weaker, all_of_back}
use Rattle.status.specs.TurnState.{TurnState}
use Rattle.status.specs.declared.header.Header.{Header}
use Rattle.store.specs.Values.{StoreValue}
use Rattle.store.specs.declared.job.Job.{Job}
use Rattle.store.specs.declared.job.JobStage.TheVariants as stages
use Rattle.store.specs.declared.job.JobWork.TheVariants.{Archive}
use Rattle.store.specs.declared.job.JobStage.{JobStage}
use Rattle.law_refinement.specs.OnDisk.{Product, OfRun, OfAnchors, OfFloor, IsNextRun, MayBeNext, IsMadeBy, IsAtJob, HasJob, Works}
use Rattle.law_refinement.proofs.Archiving.{run-same}

-- ---- what a plan adds

-- ---- a run whose slot is in the writing

-- It stands in the archive's bytes, behind the others, and has what they lack up to its mark.
pub record RunReady (v : StoreValue) (m : Machine Value) (run : Run) : Type 0 where
  pub «records» : List ArchiveRecord
  pub held : HoldsPart run.start (written.run_bytes «records») (archive_of v.disk)
  pub length_is : length (written.run_bytes «records») ≡ run.len
  pub many : length «records» ≡ run.records
  pub each : AllByRecursion kept.IsArchiveRecord «records»
  pub rules : IsRun v.archived m.floors run.upto «records»
  pub start : run.start ≡ v.runs_end
  pub later : v.archived < run.upto
  pub by_last : run.upto ≤ last m.published
  pub adds : (key : Key) → filter (ends_after (m.floors key.relation)) (filter (ends_by v.archived) (versions_of m.published key))
      ++ filter (ends_after (m.floors key.relation)) (run_versions key «records»)
      ≡ filter (ends_after (m.floors key.relation)) (filter (ends_by run.upto) (versions_of m.published key))

module _ (header : Header) (v : StoreValue) (m : Machine Value) (w : Works header v m) (run : Run) (writer : InWriting) where
  -- the run that the job makes, and what is done of it
  record OwnRun (P : StoredRun → Type 0) : Type 0 where
    pub stored : StoredRun
    pub entry : stored.entry ≡ run
    pub next : IsNextRun w.log.layout w.log.reading m.published stored
    pub at : P stored

  own-run : (stage : JobStage) → v.job ≡ Some (record { work = Archive run writer; stage = stage })
      → OwnRun (λ stored. IsAtJob header w.log.layout (Archive run writer) (OfRun stored) stage v.disk.areas)
  own-run stage is =
      let own = subst (λ (o : Option Job). HasJob header w.log.layout w.log.reading m.published v.transactions.reserved o v.disk.areas) is w.job in
      by-product own.product own.made own.next own.at
    where
      by-product : (p : Product) → IsMadeBy v.transactions.reserved (Archive run writer) p → MayBeNext w.log.layout w.log.reading m.published p
          → IsAtJob header w.log.layout (Archive run writer) p stage v.disk.areas
          → OwnRun (λ stored. IsAtJob header w.log.layout (Archive run writer) (OfRun stored) stage v.disk.areas)
      by-product (OfRun stored) made next at = record { stored = stored; entry = made; next = next; at = at }
      by-product (OfAnchors a) made next at = absurd made
      by-product (OfFloor scope floor) made next at = absurd made

  -- a piece goes behind the runs
  pub piece-behind : v.job ≡ Some (record { work = Archive run writer; stage = stages.Writing }) → v.runs_end ≤ writer.at
  piece-behind is =
      let own = own-run stages.Writing is in
      let at = own.at in
      let place = at.place in
      let behind = own.next.behind in
      let end = w.log.runs_end in
      omega arith

  pub run-ready : (t : TurnState) → v.job ≡ Some (record { work = Archive run writer; stage = stages.Turning t }) → RunReady v m run
  run-ready t is =
      let own = own-run (stages.Turning t) is in
      let keeps : KeepsRun v.disk.areas.archive own.stored =
      (all_of_back (KeepsRun v.disk.areas.archive) w.log.layout.runs (own.stored ∷ []) own.at.at.new_parts.runs).0 in
      subst (λ (r : Run). RunReady v m r) own.entry (ready own.stored own.next keeps)
    where
      ready : (s : StoredRun) → IsNextRun w.log.layout w.log.reading m.published s → KeepsRun v.disk.areas.archive s → RunReady v m s.entry
      ready s next keeps =
          let same = run-same s.records in
          let read = read_part s.entry.start (run_bytes s.records) v.disk.areas.archive (w.sound areas.Archive) keeps in
          let marked : archived_upto w.log.reading ≡ v.archived = sym w.log.archived in
          let rules : IsRun v.archived m.floors s.entry.upto s.records = record {
            each = weaker (IsArchived (archived_upto w.log.reading) (floor_of w.log.reading.log) s.entry.upto) (IsArchived v.archived m.floors s.entry.upto)
                s.records
                (λ r is. let floor = w.log.stands.opens.floors_given r.key.relation in let after = is.after_floor in let mark = is.after_mark in record
                { lasts = is.lasts; after_mark = omega arith; after_floor = omega arith; by_upto = is.by_upto }) next.plan.is_run.each;
            in_order = next.plan.is_run.in_order;
          } in
          record {
            «records» = s.records;
            held = subst (λ (l : List ℕ). HoldsPart s.entry.start l v.disk.areas.archive.bytes) (sym same) read;
            length_is = ap (λ (l : List ℕ). length l) same ∙ next.stored.length_is;
            many = next.stored.records_are;
            each = weaker IsArchiveRecord kept.IsArchiveRecord s.records (λ r is. record { key = is.key; value = is.value }) next.stored.each;
            rules = rules;
            start = next.behind ∙ sym w.log.runs_end;
            later = let later = next.later in omega arith;
            by_last = next.by_last;
            adds = λ key. adds-to s next key;
          }
        where
          adds-to : (s : StoredRun) → IsNextRun w.log.layout w.log.reading m.published s → (key : Key)
              → filter (ends_after (m.floors key.relation)) (filter (ends_by v.archived) (versions_of m.published key))
              ++ filter (ends_after (m.floors key.relation)) (run_versions key s.records)
              ≡ filter (ends_after (m.floors key.relation)) (filter (ends_by s.entry.upto) (versions_of m.published key))
          adds-to s next key =
              let f = m.floors key.relation in
              let a = archived_upto w.log.reading in
              let up = rises w.log.reading m.published m.floors w.log.stands in
              let plan : run_versions key s.records ≡ filter (ends_by s.entry.upto) (filter (ends_after (max a f)) (heap_versions w.log.reading key)) =
              next.plan.each key ∙ ap (λ (n : ℕ). filter (ends_by s.entry.upto) (filter (ends_after (max a n)) (heap_versions w.log.reading key)))
              (w.log.stands.opens.floors_given key.relation) in
              let later = next.later in
              (λ i. filter (ends_after f) (filter (ends_by (w.log.archived i)) (versions_of m.published key)) ++ filter (ends_after f) (plan i))
              ∙ joined f (reclaimed_upto w.log.reading) a s.entry.upto _ (heap_versions w.log.reading key) (versions_of m.published key)
              w.log.stands.homes.marks (omega arith)
              (versions-apart 0 (writes_of m.published key) (writes_of-rising 0 m.published key up)) (w.log.stands.homes.in_heap key)
