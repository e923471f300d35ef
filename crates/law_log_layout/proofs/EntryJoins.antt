-- The entry of an archive or a floor that comes behind the log in the heap: what the image then reads as.
use Rattle.std.proofs.Common.{◌≡◌, ℕ, ◌<◌, ◌≤◌, ◌-◌, zero, suc, max, true, List, [], ◌∷◌, ◌++◌, length, map, take, refl, sym, ap, subst, ◌∙◌, arith}
use Rattle.std.specs.Prelude.{flat_map, filter, nat_lt, Some, IsTrue}
use Rattle.std.specs.List.{AllByRecursion}
use Rattle.std.proofs.lemmas.List.{append-nil, map-append, take-map}
use Rattle.std.proofs.lemmas.Grind.{flat_map-append}
use Rattle.history.proofs.Filters.{AllByRecursion-append}
use Rattle.history.specs.Floors.{covers, raised}
use Rattle.std.proofs.lemmas.Bool.Decides.{nat_tests}
use Rattle.history.specs.Histories.{History, last}
use Rattle.law_image.specs.Values.{Value}
use Rattle.law_image.specs.Reading.{Reading, Slot, Archived, Member, ArchiveRecord}
use Rattle.law_image.specs.Log.{last_time, reclaim_mark, archive_mark, floor_of, is_in_heap}
use Rattle.law_image.specs.StandsFor.{StandsFor, IsHeapLog, archived_upto}
use Rattle.law_image.specs.Plans.{with_floor}
use Rattle.law_image.specs.HeapPlans.{marks_of, first_runs, IsMergePlan, with_merged}
use Rattle.law_image.proofs.Forms.{in-heap}
use Rattle.law_image.proofs.HeapRuns.{AreStacked, stack-of}
use Rattle.law_image.proofs.HeapSteps.{merge-stands_for}
use Rattle.law_image.proofs.FloorStep.{floor-in_heap}
use Rattle.law_image.proofs.GroupStep.{length-map}
use Rattle.law_image.proofs.Logs.{archive_mark-append, told-is_last}
use Rattle.law_image.proofs.Standing.{last-is}
use Rattle.law_log.specs.Chains.{LogChain, OfBase, OfGroup, OfRun, OfFloor, told, told_behind, told_from, reclaimed_by, commits_in, last_commit, floor_slot}
use Rattle.law_log.specs.Chains.{MayFollow, MayAllFollow, KeepsChainRules, members_in, members_of, reading_of}
use Rattle.law_image.specs.Log.{last_time_after}
use Rattle.law_log.proofs.Telling.{TellsSo, tells-all}
use Rattle.law_log.proofs.Based.{told-split}
use Rattle.law_layout.specs.Runs.{StoredRun, IsStoredRun}
use Rattle.wire.specs.declared.slot.Run.{Run}
use Rattle.log_extents.specs.Chains.{AreDistinct}
use Rattle.log_entries.specs.declared.entry.Archive.{Archive}
use Rattle.log_entries.specs.declared.entry.RelationFloor.{RelationFloor}
use Rattle.log_entries.specs.declared.entry.AnchorName.{AnchorName}
use Rattle.log_entries.specs.Ranges.{run_of}
use Rattle.law_log_layout.specs.HeapLog.{PlacedChain, HeapLog, IsPlaced, chain_told, chains_told, floor_told, runs_behind, runs_from, rolls_in, anchors_in}
use Rattle.law_log_layout.specs.HeapLog.{AreNamed}
use Rattle.law_log_layout.specs.HeapLog.{spans_of, AreSpansApart, run_span, archives_in, AreSpansInRow, KeepsShares, IsLogOf, with_chain, with_runs, MayJoin}
use Rattle.law_log_layout.specs.Entries.{placed_floor, placed_archive, runs_with}
use Rattle.law_log_layout.proofs.GroupJoins.{chained-more, runs-split, none-more, live-more}

-- ---- what the log tells with one entry more

may-behind : (mark last : ℕ) (before : List Slot) (chains : List LogChain) (c : LogChain) → MayAllFollow mark last before chains
    → MayFollow mark (last_commit last chains) (told_from mark before chains) c → MayAllFollow mark last before (chains ++ c ∷ [])
may-behind mark last before [] c may next = (next, tt)
may-behind mark last before (d ∷ chains) c may next =
    (may.0, may-behind mark (last_time_after last (commits_in d)) (told_behind mark before d) chains c may.1 next)

reclaimed-same : (chains : List LogChain) (c : LogChain) → reclaimed_by (c ∷ []) ≡ 0 → reclaimed_by (chains ++ c ∷ []) ≡ reclaimed_by chains
reclaimed-same [] c none = none
reclaimed-same (OfBase b ∷ chains) c none = refl
reclaimed-same (OfGroup ms ∷ chains) c none = refl
reclaimed-same (OfRun upto runs ∷ chains) c none = refl
reclaimed-same (OfFloor f ∷ chains) c none = refl

-- the log with an entry that has no commits
record IsWithEntry (chains : List LogChain) (c : LogChain) : Type 0 where
  pub rules : KeepsChainRules (chains ++ c ∷ [])
  pub tells : told (chains ++ c ∷ []) ≡ told_behind (reclaimed_by chains) (told chains) c
  pub has : members_of (chains ++ c ∷ []) ≡ members_of chains

entry-behind : (chains : List LogChain) (c : LogChain) → KeepsChainRules chains → reclaimed_by (c ∷ []) ≡ 0 → members_in c ≡ []
    → MayFollow (reclaimed_by chains) (last_commit 0 chains) (told chains) c
    → reclaimed_by chains ≤ archive_mark (told_behind (reclaimed_by chains) (told chains) c)
    → IsWithEntry chains c
entry-behind chains c rules none empty follows archived =
    let mark = reclaimed_by chains in
    let same = reclaimed-same chains c none in
    let tells : told (chains ++ c ∷ []) ≡ told_behind mark (told chains) c =
    ap (λ (r : ℕ). told_from r [] (chains ++ c ∷ [])) same ∙ told-split mark [] chains (c ∷ []) in
    record {
      rules = record {
        each = subst (λ (r : ℕ). MayAllFollow r 0 [] (chains ++ c ∷ [])) (sym same) (may-behind mark 0 [] chains c rules.each follows);
        archived = omega (arith, same, archived, ap archive_mark tells);
      };
      tells = tells;
      has =
          ap (λ (r : ℕ). filter (λ (m : Member). nat_lt r m.head.time) (flat_map members_in (chains ++ c ∷ []))) same
          ∙ ap (filter (λ (m : Member). nat_lt mark m.head.time)) (flat_map-append members_in chains (c ∷ [])
          ∙ ap (λ l. flat_map members_in chains ++ l) (append-nil (members_in c) ∙ empty) ∙ append-nil (flat_map members_in chains));
    }

-- ---- runs

stacked-many : (mark : ℕ) (marks : List ℕ) (runs : List (List ArchiveRecord)) → AreStacked mark marks runs → length marks ≡ length runs
stacked-many mark [] [] are = refl
stacked-many mark [] (run ∷ runs) are = absurd are
stacked-many mark (upto ∷ marks) [] are = absurd are
stacked-many mark (upto ∷ marks) (run ∷ runs) are = ap (λ (n : ℕ). suc n) (stacked-many upto marks runs are.1)

take-all : {X : Type 0} (P : X → Type 0) (n : ℕ) (xs : List X) → AllByRecursion P xs → AllByRecursion P (take n xs)
take-all P zero xs all = tt
take-all P (suc n) [] all = tt
take-all P (suc n) (x ∷ xs) all = (all.0, take-all P n xs all.1)

-- ---- the image with one entry more

covered-is : (only relation : ℕ) → IsTrue (covers (Some only) relation) → relation ≡ only
covered-is only relation is = grind (arith, nat_tests, is)

module _ (most root : ℕ) (l : HeapLog) (reading : Reading) (h : History Value) (floors : ℕ → ℕ) (is : IsLogOf most root l reading)
    (stands : StandsFor reading h floors) where
  abbrev chains : List LogChain
  chains = chains_told is.names l.chains

  log_is : reading.log ≡ told chains
  log_is = ap (λ (r : Reading). r.log) is.reading_is

  heap : is_in_heap reading.profile ≡ true
  heap = ap (λ (r : Reading). is_in_heap r.profile) is.reading_is

  form : IsHeapLog reading
  form = in-heap reading heap stands.opens.reads.form

  so : TellsSo (reclaimed_by chains) (last_commit 0 chains) (told chains)
  so = tells-all chains (is.rules).each

  -- the last time that it told of is that of the last commit
  last_told : max (reclaimed_by chains) (last_commit 0 chains) ≡ last h
  last_told =
      sym (so).telling
      ∙ told-is_last (last_time (told chains)) (reclaim_mark (told chains))
      (omega (arith, ap reclaim_mark log_is, ap last_time log_is, ((form).log).published))
      ∙ sym (ap last_time log_is) ∙ last-is reading h floors stands

  entry-is_log : (c : PlacedChain) (runs : List StoredRun) → MayJoin most l c → anchors_in c.entry ≡ [] → rolls_in c.entry ≡ []
      → IsWithEntry chains (chain_told is.names c.entry) → map (λ (s : StoredRun). s.entry) runs ≡ runs_behind (runs_from [] l.chains) c.entry
      → AllByRecursion IsStoredRun runs → AreSpansApart (spans_of runs l.rolls)
      → AreSpansInRow 0 (map run_span (flat_map (λ (d : PlacedChain). archives_in d.entry) (l.chains ++ c ∷ [])))
      → KeepsShares most (with_runs l c runs) (record reading {
        log = told_behind (reclaimed_by chains) (told chains) (chain_told is.names c.entry);
        runs = map (λ (s : StoredRun). s.records) runs;
      })
      → IsLogOf most root (with_runs l c runs) (record reading {
        log = told_behind (reclaimed_by chains) (told chains) (chain_told is.names c.entry);
        runs = map (λ (s : StoredRun). s.records) runs;
      })
  entry-is_log c runs joins no_anchors no_rolls with runs_are each apart row shares =
      let e = chain_told is.names c.entry in
      let same : chains_told is.names (l.chains ++ c ∷ []) ≡ chains ++ e ∷ [] =
      map-append (λ (d : PlacedChain). chain_told is.names d.entry) l.chains (c ∷ []) in
      let told_now = told_behind (reclaimed_by chains) (told chains) e in
      let records = map (λ (s : StoredRun). s.records) runs in
      record {
        placed = AllByRecursion-append (IsPlaced most) l.chains (c ∷ []) is.placed (joins.placed, tt);
        chained = chained-more root l.next l.chains c is.chained joins.head;
        anchors = is.anchors;
        next = (let p = joins.placed in p.link);
        apart = subst (λ (ns : List ℕ). AreDistinct (c.link ∷ ns)) (sym (live-more l c)) joins.apart;
        anchors_named = subst (λ (ns : List AnchorName). AreNamed ns l.anchors)
            (sym (none-more (λ (d : PlacedChain). anchors_in d.entry) l.chains c no_anchors)) is.anchors_named;
        rolls_named = is.rolls_named ∙ sym (none-more (λ (d : PlacedChain). rolls_in d.entry) l.chains c no_rolls);
        runs_named = runs_are ∙ sym (runs-split [] l.chains (c ∷ []));
        each_run = each;
        each_roll = is.each_roll;
        archive_apart = apart;
        archives_in_row = row;
        rolls_in_row = is.rolls_in_row;
        shares = shares;
        names = is.names;
        are_names = is.are_names;
        rules = subst KeepsChainRules (sym same) with.rules;
        reading_is =
            ap (λ (r : Reading). record r { log = told_now; runs = records }) is.reading_is
            ∙ ap (λ (p : List Slot × List Member). record {
              profile = 4;
              slots = most;
              pieces = 0;
              log = p.0;
              members = p.1;
              anchors = l.anchors.records;
              runs = records;
            })
            (λ i. (sym with.tells i, sym with.has i))
            ∙ ap (λ (cs : List LogChain). reading_of most cs l.anchors.records records) (sym same);
      }

  pub floor-is_log : (numbers : List ℕ) (link : ℕ) (f : RelationFloor) → MayJoin most l (placed_floor numbers link f)
      → floor_of reading.log f.relation < f.floor → f.floor ≤ last h
      → KeepsShares most (with_chain l (placed_floor numbers link f)) (with_floor reading (Some f.relation) f.floor)
      → IsLogOf most root (with_chain l (placed_floor numbers link f)) (with_floor reading (Some f.relation) f.floor)
      × StandsFor (with_floor reading (Some f.relation) f.floor) h (raised (Some f.relation) f.floor floors)
  floor-is_log numbers link f joins above le shares =
      let c = placed_floor numbers link f in
      let told_above : floor_of (told chains) f.relation < f.floor =
      subst (λ (log : List Slot). floor_of log f.relation < f.floor) log_is above in
      let told_le : f.floor ≤ max (reclaimed_by chains) (last_commit 0 chains) = omega (arith, le, last_told) in
      let behind : IsWithEntry chains (chain_told is.names c.entry) =
      entry-behind chains (OfFloor (floor_told f)) is.rules refl refl (told_above, told_le)
      (omega (arith, (is.rules).archived, archive_mark-append 0 (told chains) (floor_slot (floor_told f) ∷ []))) in
      let runs_is : map (λ (s : StoredRun). s.records) l.runs ≡ reading.runs = sym (ap (λ (r : Reading). r.runs) is.reading_is) in
      let reading_now : record reading {
        log = told chains ++ floor_slot (floor_told f) ∷ [];
        runs = map (λ (s : StoredRun). s.records) l.runs;
      }
      ≡ with_floor reading (Some f.relation) f.floor =
      ap (λ (rs : List (List ArchiveRecord)). record reading { log = told chains ++ floor_slot (floor_told f) ∷ []; runs = rs }) runs_is
      ∙ ap (λ (log : List Slot). record reading { log = log ++ floor_slot (floor_told f) ∷ [] }) (sym log_is) in (
        subst (λ (r : Reading). IsLogOf most root (with_chain l c) r) reading_now
            (entry-is_log c l.runs joins refl refl behind is.runs_named is.each_run is.archive_apart
            (subst (λ (rs : List Run). AreSpansInRow 0 (map run_span rs))
            (sym (none-more (λ (d : PlacedChain). archives_in d.entry) l.chains c refl)) is.archives_in_row)
            (subst (λ (r : Reading). KeepsShares most (with_chain l c) r) (sym reading_now) shares)),
        floor-in_heap reading h floors (Some f.relation) f.floor stands heap (
          refl,
          omega (arith, le, last-is reading h floors stands, told-is_last (last_time reading.log) (reclaim_mark reading.log) ((form).log).published),
          λ relation covered. let at = ap (floor_of reading.log) (covered-is f.relation relation covered) in omega (arith, at, above),
        ),
      )

  pub run-is_log : (numbers : List ℕ) (link : ℕ) (a : Archive) (s : StoredRun) → MayJoin most l (placed_archive numbers link a)
      → a.runs ≤ length l.runs → s.entry ≡ run_of a → IsStoredRun s → AreSpansApart (spans_of (runs_with l a s) l.rolls)
      → AreSpansInRow 0 (map run_span (flat_map (λ (c : PlacedChain). archives_in c.entry) (l.chains ++ placed_archive numbers link a ∷ [])))
      → IsMergePlan reading (length l.runs - a.runs) a.upto s.records → archived_upto reading < a.upto → a.upto ≤ last h
      → KeepsShares most (with_runs l (placed_archive numbers link a) (runs_with l a s)) (with_merged reading (length l.runs - a.runs) a.upto s.records)
      → IsLogOf most root (with_runs l (placed_archive numbers link a) (runs_with l a s)) (with_merged reading (length l.runs - a.runs) a.upto s.records)
      × StandsFor (with_merged reading (length l.runs - a.runs) a.upto s.records) h floors
  run-is_log numbers link a s joins few entry_is each apart row plan later le shares =
      let c = placed_archive numbers link a in
      let kept = length l.runs - a.runs in
      let named = map (λ (r : StoredRun). r.entry) l.runs in
      let records = map (λ (r : StoredRun). r.records) l.runs in
      let runs_is : reading.runs ≡ records = ap (λ (r : Reading). r.runs) is.reading_is in
      let many : length (marks_of (told chains)) ≡ length l.runs =
      ap (λ (log : List Slot). length (marks_of log)) (sym log_is)
      ∙ stacked-many 0 (marks_of reading.log) reading.runs (stack-of [] reading.log reading.runs (form).runs)
      ∙ ap (λ (rs : List (List ArchiveRecord)). length rs) runs_is ∙ length-map (λ (r : StoredRun). r.records) l.runs in
      let told_later : archive_mark (told chains) < a.upto = subst (λ (log : List Slot). archive_mark log < a.upto) log_is later in
      let told_le : a.upto ≤ max (reclaimed_by chains) (last_commit 0 chains) = omega (arith, le, last_told) in
      let told_few : a.runs ≤ length (marks_of (told chains)) = omega (arith, few, many) in
      let before = first_runs (length (marks_of (told chains)) - a.runs) (told chains) in
      let behind : IsWithEntry chains (chain_told is.names c.entry) =
      entry-behind chains (OfRun a.upto a.runs) is.rules refl refl (told_later, told_le, told_few)
      (omega (arith, (is.rules).archived, told_later, archive_mark-append 0 before (Archived a.upto ∷ []))) in
      let named_many : length (runs_from [] l.chains) ≡ length l.runs =
      ap (λ (rs : List Run). length rs) (sym is.runs_named) ∙ length-map (λ (r : StoredRun). r.entry) l.runs in
      let runs_are : map (λ (r : StoredRun). r.entry) (runs_with l a s) ≡ runs_behind (runs_from [] l.chains) c.entry =
      map-append (λ (r : StoredRun). r.entry) (take kept l.runs) (s ∷ [])
      ∙ ap (λ (rs : List Run). rs ++ s.entry ∷ []) (sym (take-map (λ (r : StoredRun). r.entry) kept l.runs) ∙ ap (take kept) is.runs_named)
      ∙ ap (λ (n : ℕ). take (n - a.runs) (runs_from [] l.chains) ++ s.entry ∷ []) (sym named_many)
      ∙ ap (λ (r : Run). take (length (runs_from [] l.chains) - a.runs) (runs_from [] l.chains) ++ r ∷ []) entry_is in
      let logs : before ++ Archived a.upto ∷ [] ≡ first_runs kept reading.log ++ Archived a.upto ∷ [] =
      ap (λ (n : ℕ). first_runs (n - a.runs) (told chains) ++ Archived a.upto ∷ []) many
      ∙ ap (λ (log : List Slot). first_runs kept log ++ Archived a.upto ∷ []) (sym log_is) in
      let runs : map (λ (r : StoredRun). r.records) (runs_with l a s) ≡ take kept reading.runs ++ s.records ∷ [] =
      map-append (λ (r : StoredRun). r.records) (take kept l.runs) (s ∷ [])
      ∙ ap (λ (rs : List (List ArchiveRecord)). rs ++ s.records ∷ [])
      (sym (take-map (λ (r : StoredRun). r.records) kept l.runs) ∙ ap (take kept) (sym runs_is)) in (
        subst (λ (p : List Slot × List (List ArchiveRecord)). IsLogOf most root (with_runs l c (runs_with l a s)) (record reading { log = p.0; runs = p.1 }))
            (λ i. (logs i, runs i))
            (entry-is_log c (runs_with l a s) joins refl refl behind runs_are
            (AllByRecursion-append IsStoredRun (take kept l.runs) (s ∷ []) (take-all IsStoredRun kept l.runs is.each_run) (each, tt)) apart row
            (subst (λ (p : List Slot
            × List (List ArchiveRecord)). KeepsShares most (with_runs l c (runs_with l a s)) (record reading { log = p.0; runs = p.1 }))
            (λ i. (sym logs i, sym runs i)) shares)),
        merge-stands_for reading h floors stands heap kept a.upto s.records plan later le,
      )
