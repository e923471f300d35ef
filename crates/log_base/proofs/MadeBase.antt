-- The base that is computed may take the place of the log's front.
use Rattle.std.proofs.Common.{◌≡◌, ℕ, ◌+◌, ◌<◌, ◌≤◌, ◌^◌, List, [], ◌∷◌, ◌++◌, length, map, take, refl, ap, sym, subst, ◌∙◌, arith}
use Rattle.std.specs.Prelude.{filter, flat_map, option_to_list, IfSome}
use Rattle.std.specs.List.{AllByRecursion}
use Rattle.std.proofs.lemmas.List.{append-nil, map-append, take-append-drop}
use Rattle.history.proofs.Filters.{AllByRecursion-append}
use Rattle.law_image.specs.Reading.{Head, Reading, Slot}
use Rattle.law_image.specs.Log.{heads_of, archive_mark}
use Rattle.law_log.specs.Chains.{told, reclaimed_by, KeepsChainRules, TakesPlace}
use Rattle.law_layout.specs.Runs.{StoredRun}
use Rattle.group.specs.declared.commit_order.CommitHead.{CommitHead}
use Rattle.log_entries.specs.declared.entry.Roll.{Roll}
use Rattle.log_entries.specs.Ranges.{IsRoll}
use Rattle.law_log_layout.specs.HeapLog.{PlacedRoll, HeapLog, name_bytes, base_told, chains_told, AreNamesOf, IsStoredRoll, Span, roll_span}
use Rattle.law_log_layout.specs.HeapLog.{spans_of, AreSpansApart, AreSpansInRow, IsLogOf}
use Rattle.law_log_layout.specs.Reclaims.{MayTakePlace}
use Rattle.law_log_layout.proofs.OneReading.{names-same}
use Rattle.log_recovery.specs.Live.{live_of}
use Rattle.log_base.specs.Bases.{rolls_of, mark_of}
use Rattle.log_base.specs.Names.{name_of, named_between, AreNamesBetween}
use Rattle.log_base.specs.Rolls.{roll_of}
use Rattle.log_base.specs.Laws.{front_count, is_named_between, told_upto, new_roll, ComesBehind}
use Rattle.log_base.specs.Places.{rolls_with, Making, front_of, back_of, made_base, HasExtents, HasRoll}
use Rattle.log_base.proofs.RunsLeft.{mark-is, rolls-left}
use Rattle.log_base.proofs.NamesTold.{names-go_on}
use Rattle.log_base.proofs.TakesFront.{takes-live}
use Rattle.log_base.proofs.BaseEntries.{is-live_base}
use Rattle.log_base.proofs.InRow.{runs-in_row, comes-behind}
use Rattle.log_base.proofs.RollNames.{names-long, roll-stored, roll-whole}
use Rattle.log_base.proofs.RunsLeft.{runs-live}

-- ---- the roll, if there is one

roll-may : (start : ℕ) (bytes : List ℕ) (names : List Head) → bytes ≡ flat_map name_bytes names → start + length bytes < 2 ^ 63
    → IfSome (roll_of start bytes) IsRoll
roll-may start [] names are fits = tt
roll-may start (b ∷ bytes) names are fits = roll-whole start names (b ∷ bytes) are (omega arith) fits

rolls-told : (start : ℕ) (bytes : List ℕ) (names : List Head)
    → map (λ (r : PlacedRoll). r.roll) (rolls_with start bytes names) ≡ option_to_list (roll_of start bytes)
rolls-told start [] names = refl
rolls-told start (b ∷ bytes) names = refl

-- it has all the names
no-bytes : (names : List Head) → [] ≡ flat_map name_bytes names → [] ≡ names
no-bytes [] are = refl
no-bytes (name ∷ names) are =
    let long = names-long (name ∷ names) in
    let none = ap (λ (l : List ℕ). length l) are in
    absurd (omega (arith, long, none))

names-in : (start : ℕ) (bytes : List ℕ) (names : List Head) → bytes ≡ flat_map name_bytes names
    → flat_map (λ (r : PlacedRoll). r.names) (rolls_with start bytes names) ≡ names
names-in start [] names are = no-bytes names are
names-in start (b ∷ bytes) names are = append-nil names

rolls-stored : (start : ℕ) (bytes : List ℕ) (names : List Head) → IsStoredRoll (new_roll start bytes names)
    → AllByRecursion IsStoredRoll (rolls_with start bytes names)
rolls-stored start [] names is = tt
rolls-stored start (b ∷ bytes) names is = (is, tt)

rolls-behind : (runs : List StoredRun) (rolls : List PlacedRoll) (start : ℕ) (bytes : List ℕ) (names : List Head) → AreSpansInRow 0 (map roll_span rolls)
    → AreSpansApart (spans_of runs rolls) → AllByRecursion (λ (s : Span). s.start + s.len ≤ start) (spans_of runs rolls)
    → AreSpansInRow 0 (map roll_span (rolls ++ rolls_with start bytes names)) × AreSpansApart (spans_of runs (rolls ++ rolls_with start bytes names))
rolls-behind runs rolls start [] names row apart behind =
    let same = sym (append-nil rolls) in (
      subst (λ (rs : List PlacedRoll). AreSpansInRow 0 (map roll_span rs)) same row,
      subst (λ (rs : List PlacedRoll). AreSpansApart (spans_of runs rs)) same apart,
    )
rolls-behind runs rolls start (b ∷ bytes) names row apart behind =
    let comes : ComesBehind runs rolls (new_roll start (b ∷ bytes) names) = comes-behind runs rolls (new_roll start (b ∷ bytes) names) row apart behind in
    (comes.in_row, comes.apart)

-- ---- the base in its place

module _ (most root : ℕ) (l : HeapLog) (reading : Reading) (names : List Head) (heads : List CommitHead) (m : Making) (is : IsLogOf most root l reading)
    (are : AreNamesOf l.rolls names) (roll : HasRoll l reading heads m) (extents : HasExtents most l names m) where
  abbrev n : ℕ
  n = front_count m.upto l.chains

  abbrev mark : ℕ
  mark = reclaimed_by (chains_told names l.chains)

  same : is.names ≡ names
  same = names-same l.rolls is.names names is.are_names are

  rules : KeepsChainRules (chains_told names l.chains)
  rules = subst (λ (ns : List Head). KeepsChainRules (chains_told ns l.chains)) same is.rules

  log-is : reading.log ≡ told (chains_told names l.chains)
  log-is = ap (λ (r : Reading). r.log) is.reading_is ∙ ap (λ (ns : List Head). told (chains_told ns l.chains)) same

  upto-is : m.upto ≡ archive_mark (told (chains_told names l.chains))
  upto-is = roll.upto ∙ ap archive_mark log-is

  in-memory : map name_of (named_between mark m.upto heads) ≡ filter (is_named_between mark m.upto) (heads_of (told (chains_told names l.chains)))
  in-memory =
      subst (λ (r : ℕ). map name_of (named_between r m.upto heads) ≡ filter (is_named_between r m.upto) (heads_of (told (chains_told names l.chains))))
      (mark-is names l.chains)
      (subst (λ (log : List Slot). map name_of (named_between (mark_of (map live_of l.chains)) m.upto heads)
      ≡ filter (is_named_between (mark_of (map live_of l.chains)) m.upto) (heads_of log)) log-is roll.heads_are)

  added : AreNamesBetween mark m.upto heads m.names
  added = subst (λ (r : ℕ). AreNamesBetween r m.upto heads m.names) (mark-is names l.chains) roll.names_are

  place : TakesPlace (chains_told names (front_of l m)) (chains_told names (back_of l m)) (base_told (made_base l names m).names (made_base l names m).base)
  place = takes-live names (told_upto m.upto names l.chains) l.chains m.upto m.anchors (roll_of m.start m.bytes) rules upto-is roll.some refl

  behind : AreSpansInRow 0 (map roll_span (l.rolls ++ rolls_with m.start m.bytes m.names))
      × AreSpansApart (spans_of l.runs (l.rolls ++ rolls_with m.start m.bytes m.names))
  behind = rolls-behind l.runs l.rolls m.start m.bytes m.names is.rolls_in_row is.archive_apart roll.behind

  pub made-base : MayTakePlace most l names (front_of l m) (back_of l m) (made_base l names m)
  made-base =
      let placed = is-live_base most m.upto n l.chains m.anchors (roll_of m.start m.bytes) is.placed roll.some ((place).in_range).most extents.anchors_may
      (roll-may m.start m.bytes m.names roll.bytes_are roll.fits) in
      let rolls = λ (rs : List PlacedRoll). map (λ (r : PlacedRoll). r.roll) rs in
      record {
        split = sym (take-append-drop n l.chains);
        placed = record { entry = placed; some = extents.some; count = extents.count; in_range = extents.in_range; link = extents.link };
        chained = extents.chained;
        apart = extents.apart;
        anchors = extents.anchors;
        anchors_named = extents.anchors_named;
        rolls_named = map-append (λ (r : PlacedRoll). r.roll) l.rolls (rolls_with m.start m.bytes m.names)
            ∙ ap (λ (rs : List Roll). rs ++ rolls (rolls_with m.start m.bytes m.names)) (is.rolls_named ∙ sym (rolls-left m.upto names l.chains rules.each))
            ∙ ap (λ (rs : List Roll). rolls_of (take n (map live_of l.chains)) ++ rs) (rolls-told m.start m.bytes m.names);
        runs_named = runs-live n l.chains;
        each_roll = AllByRecursion-append IsStoredRoll l.rolls (rolls_with m.start m.bytes m.names) is.each_roll
            (rolls-stored m.start m.bytes m.names
            (roll-stored most m.upto m.start names m.names l.chains heads m.bytes rules is.placed in-memory added roll.bytes_are));
        archive_apart = (behind).1;
        archives_in_row = runs-in_row l.chains n is.archives_in_row;
        rolls_in_row = (behind).0;
        are_names = names-go_on names m.names l.chains l.rolls (rolls_with m.start m.bytes m.names) m.upto heads rules is.rolls_named are
            (omega (arith, rules.archived, upto-is)) in-memory added (names-in m.start m.bytes m.names roll.bytes_are);
        place = place;
      }
