-- An image that stands for a history opens.
use Rattle.std.proofs.Common.{◌≡◌, ℕ, max, List, [], ◌++◌, length, map, sym, ap, subst, ◌∙◌, arith}
use Rattle.std.specs.Prelude.{flat_map}
use Rattle.std.specs.List.{AllByRecursion}
use Rattle.std.proofs.lemmas.List.{map-append}
use Rattle.std.specs.List.Sorted.{IsStrictlySortedBy}
use Rattle.history.specs.Key.{key_cmp}
use Rattle.history.specs.Histories.{History}
use Rattle.history.specs.declared.time.Version.{Version}
use Rattle.history.specs.Versions.{stands_at, as_write}
use Rattle.wire.specs.declared.slot.Run.{Run}
use Rattle.std.specs.Prelude.{filter}
use Rattle.law_image.specs.Values.{Value}
use Rattle.law_image.specs.Reading.{OldRecord, Reading, Slot}
use Rattle.law_image.specs.Log.{archive_mark, reclaim_mark, told_time}
use Rattle.law_image.specs.Facts.{AreStored}
use Rattle.law_image.specs.StandsFor.{IsAnchorUpto, Reads, StandsFor}
use Rattle.law_layout.specs.Runs.{StoredRun}
use Rattle.law_log.specs.Chains.{MayAllFollow, last_commit, reclaimed_by, told, told_from}
use Rattle.law_log.proofs.Telling.{TellsSo, tells-all}
use Rattle.log_entries.specs.declared.entry.Roll.{Roll}
use Rattle.log_writer.specs.Turns.{extent_part, Part}
use Rattle.law_log_layout.specs.Turns.{HoldsAll}
use Rattle.law_log_layout.specs.HeapLog.{HeapLog, HoldsLog, IsLogOf, KeepsShares, AreAnchorsAt, AreSpansApart, AreSpansInRow}
use Rattle.law_log_layout.specs.HeapLog.{anchor_extents, chains_told, extents_of, roll_span, run_span}
use Rattle.law_log_layout.proofs.Places.{distinct-parts}
use Rattle.log_recovery.specs.Anchored.{anchor_names, AreRightAnchors}
use Rattle.log_recovery.specs.Chains.{HoldsChains, numbers_of}
use Rattle.log_recovery.specs.Ends.{EndsRight, open_of, rolls_named, runs_left, unread_log, unread_reading}
use Rattle.log_recovery.specs.Members.{AreAllStored, members_of_all, values_of}
use Rattle.log_recovery.specs.Opening.{EndsWithin, HoldsMembers, Opens, archive_parts}
use Rattle.log_recovery.specs.Rules.{MayAllComeBehind, mark_of, no_log, roll_part, state_from}
use Rattle.log_recovery.proofs.Past.{within_joined}
use Rattle.log_recovery.proofs.Sized.{follow-all}
use Rattle.law_log_opening.proofs.Archived.{roll-spans, rolls-within, run-spans, runs-within}
use Rattle.law_log_opening.proofs.Members.{members-are, stored-by_chain, versions-same}
use Rattle.law_log_opening.proofs.Named.{TellAlike, alike-from, alike-mark, alike-none, come-behind, last-same, mark-same, told-state}
use Rattle.law_log_opening.proofs.Walked.{closed-ends, distinct-turned, held-back, held-front, walked}

module _ (most root : ℕ) (l : HeapLog) (reading : Reading) (heap archive : List ℕ) (is : IsLogOf most root l reading) (holds : HoldsLog l heap archive)
    (reads : Reads reading) where
  abbrev mark : ℕ
  mark = mark_of l.chains

  -- what the log tells with the names, and without them
  abbrev named : List Slot
  named = told (chains_told is.names l.chains)

  abbrev unread : Reading
  unread = unread_reading most l.chains l.anchors

  log-is : reading.log ≡ named
  log-is = ap (λ (r : Reading). r.log) is.reading_is

  anchors-is : reading.anchors ≡ l.anchors.records
  anchors-is = ap (λ (r : Reading). r.anchors) is.reading_is

  members-is : reading.members ≡ members_of_all mark l.chains
  members-is = ap (λ (r : Reading). r.members) is.reading_is ∙ members-are is.names l.chains

  marked : reclaimed_by (chains_told is.names l.chains) ≡ mark
  marked = mark-same is.names l.chains

  follows : MayAllFollow mark 0 [] (chains_told is.names l.chains)
  follows = subst (λ (m : ℕ). MayAllFollow m 0 [] (chains_told is.names l.chains)) marked is.rules.each

  held-parts : HoldsAll (map extent_part (anchor_extents l.anchors) ++ map extent_part (flat_map extents_of l.chains)) heap
  held-parts = subst (λ (ps : List Part). HoldsAll ps heap) (map-append extent_part (anchor_extents l.anchors) (flat_map extents_of l.chains)) holds.parts

  chains-hold : HoldsChains most root heap l.chains l.next
  chains-hold = record {
    walked = walked most heap [] root l.chains l.next is.placed is.chained (distinct-parts l.anchors.numbers (numbers_of l.chains) (is.apart).1).back
        (held-back heap (map extent_part (anchor_extents l.anchors)) (map extent_part (flat_map extents_of l.chains)) held-parts);
    ends = closed-ends heap l.next holds.ends;
  }

  rolls-are : map roll_span l.rolls ≡ map roll_part (rolls_named l.chains)
  rolls-are = roll-spans l.rolls ∙ ap (map roll_part) is.rolls_named

  runs-are : map (λ (s : StoredRun). run_span s.entry) l.runs ≡ map run_span (runs_left l.chains)
  runs-are = run-spans l.runs ∙ ap (map run_span) is.runs_named

  rules : MayAllComeBehind mark no_log l.chains
  rules =
      come-behind mark is.names [] no_log l.chains alike-none (λ none. none) follows is.archives_in_row
      (subst (AreSpansInRow 0) rolls-are is.rolls_in_row)

  -- the reclaim mark of the reading
  reclaimed : reclaim_mark reading.log ≡ mark
  reclaimed = ap reclaim_mark log-is ∙ (tells-all (chains_told is.names l.chains) is.rules.each).reclaimed ∙ marked

  anchors-right : AreRightAnchors most mark heap (numbers_of l.chains) (anchor_names l.chains) l.anchors
  anchors-right = record {
    named = is.anchors_named;
    placed = is.anchors;
    apart = distinct-turned l.anchors.numbers (numbers_of l.chains) (is.apart).1;
    held = held-front heap (map extent_part (anchor_extents l.anchors)) (map extent_part (flat_map extents_of l.chains)) held-parts;
    rising = subst (λ (olds : List OldRecord). IsStrictlySortedBy key_cmp
        (map (λ (old : OldRecord). old.key) olds)) anchors-is reads.anchors;
    times = subst (λ (m : ℕ). AllByRecursion (IsAnchorUpto m) l.anchors.records) reclaimed
        (subst (AllByRecursion (IsAnchorUpto (reclaim_mark reading.log))) anchors-is reads.anchor_times);
  }

  stored : AreAllStored mark (values_of l.anchors.records) l.chains
  stored =
      stored-by_chain mark (values_of l.anchors.records) l.chains
      (subst (AreStored (values_of l.anchors.records)) members-is
      (subst (λ (olds : List OldRecord). AreStored (values_of olds) reading.members) anchors-is reads.stored))

  holds-members : HoldsMembers most root heap l.chains l.next l.anchors
  holds-members = record { before = record { before = record { chains_hold = chains-hold; rules = rules }; anchors = anchors-right }; stored = stored }

  -- ---- where it ends

  alike : TellAlike named (state_from mark no_log l.chains).told
  alike = subst (λ (m : ℕ). TellAlike (told_from m [] (chains_told is.names l.chains)) (state_from mark no_log l.chains).told) (sym marked)
      (alike-from mark is.names [] no_log l.chains alike-none)

  -- up to where it is archived
  archived-same : archive_mark (state_from mark no_log l.chains).told ≡ archive_mark named
  archived-same = alike-mark named (state_from mark no_log l.chains).told alike

  unread-archived : archive_mark unread.log ≡ archive_mark reading.log
  unread-archived = ap archive_mark (told-state mark no_log l.chains) ∙ archived-same ∙ ap archive_mark (sym log-is)

  unread-tells : TellsSo mark (last_commit 0 (chains_told [] l.chains)) unread.log
  unread-tells = tells-all (chains_told [] l.chains) (follow-all mark no_log l.chains rules)

  unread-time : told_time unread.log ≡ told_time reading.log
  unread-time =
      let all = tells-all (chains_told is.names l.chains) is.rules.each in
      unread-tells.telling ∙ ap (max mark) (sym (last-same is.names 0 l.chains))
      ∙ ap (λ (m : ℕ). max m (last_commit 0 (chains_told is.names l.chains))) (sym marked) ∙ sym all.telling ∙ ap told_time (sym log-is)

  unread-members : reading.members ≡ unread.members
  unread-members = members-is ∙ sym (members-are [] l.chains)

  unread-anchors : (time : ℕ) (olds : List OldRecord) → AreAnchorsAt time unread olds → AreAnchorsAt time reading olds
  unread-anchors time olds are = record {
    each = λ key. are.each key ∙ ap (λ (vs : List (Version Value)). map as_write (filter (stands_at time) vs))
        (sym (versions-same reading unread anchors-is unread-members key));
    rising = are.rising;
  }

  shares : KeepsShares most (unread_log l.chains l.next l.anchors) unread
  shares = record {
    log = (let log = is.shares.log in omega (
      arith,
      log,
      ap (λ (a : ℕ). open_of a (told_time unread.log)) unread-archived,
      ap (open_of (archive_mark reading.log)) unread-time,
    ));
    anchors = λ time olds le are. is.shares.anchors time olds (omega (arith, le, reclaimed, unread-tells.reclaimed)) (unread-anchors time olds are);
    base = is.shares.base;
  }

  ends-right : EndsRight most heap l.chains l.next l.anchors
  ends-right = record {
    number = is.next;
    within = (let held = holds.ends.held in omega (arith, held.inside));
    apart = (is.apart).0;
    archived = omega (arith, is.rules.archived, marked, archived-same);
    spans = subst AreSpansApart (λ i. runs-are i ++ rolls-are i) is.archive_apart;
    shares = shares;
  }

  within : AllByRecursion (EndsWithin (length archive)) (archive_parts l.chains)
  within =
      within_joined (length archive) (map run_span (runs_left l.chains)) (map roll_part (rolls_named l.chains))
      (subst (λ (runs : List Run). AllByRecursion (EndsWithin (length archive)) (map run_span runs)) is.runs_named
      (runs-within archive l.runs is.each_run holds.runs))
      (subst (λ (rolls : List Roll). AllByRecursion (EndsWithin (length archive)) (map roll_part rolls)) is.rolls_named
      (rolls-within archive l.rolls is.each_roll holds.rolls))

  pub opens-so : Opens most root heap (length archive) l.chains l.next l.anchors
  opens-so = record { heap_is = record { before = holds-members; ends = ends-right }; within = within }

pub stands-opens : (most root : ℕ) (l : HeapLog) (reading : Reading) (heap archive : List ℕ) (h : History Value) (floors : ℕ → ℕ)
    → IsLogOf most root l reading → HoldsLog l heap archive → StandsFor reading h floors
    → Opens most root heap (length archive) l.chains l.next l.anchors
stands-opens most root l reading heap archive h floors is holds stands = opens-so most root l reading heap archive is holds stands.opens.reads
