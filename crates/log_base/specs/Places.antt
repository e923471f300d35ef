-- The base that is computed, where it lies: it may take the place of the log's front.
use Rattle.std.specs.Prelude.{ℕ, ◌≡◌, ◌<◌, ◌≤◌, ◌+◌, ◌^◌, List, [], ◌∷◌, ◌++◌, length, map, take, drop, filter, flat_map}
use Rattle.std.specs.List.{AllByRecursion}
use Rattle.law_image.specs.Reading.{Head, Reading}
use Rattle.law_image.specs.Log.{heads_of, archive_mark}
use Rattle.group.specs.declared.commit_order.CommitHead.{CommitHead}
use Rattle.log_extents.specs.Chains.{count_of, IsNumberOf, AreDistinct}
use Rattle.log_entries.specs.declared.entry.AnchorName.{AnchorName}
use Rattle.log_entries.specs.declared.entry.Entry.TheVariants as entries
use Rattle.log_entries.specs.Spelling.{entry_bytes}
use Rattle.law_log_layout.specs.HeapLog.{PlacedChain, PlacedAnchors, PlacedRoll, HeapLog, live_numbers, name_bytes, ArePlaced, AreChained, AreNamed, AreNamesOf}
use Rattle.law_log_layout.specs.HeapLog.{Span, spans_of, IsLogOf}
use Rattle.law_log_layout.specs.Reclaims.{NewBase, with_new_base, MayTakePlace}
use Rattle.log_recovery.specs.Live.{live_of}
use Rattle.log_base.specs.Bases.{mark_of, base_on}
use Rattle.log_base.specs.Names.{name_of, named_between, AreNamesBetween}
use Rattle.log_base.specs.Rolls.{roll_of}
use Rattle.log_base.specs.Laws.{front_count, is_named_between, told_upto, new_roll, MayBeAnchors}

-- ---- what a reclaim makes

-- the new roll with its names, if it has some
abbrev pub rolls_with : ℕ → List ℕ → List Head → List PlacedRoll
rolls_with start [] names = []
rolls_with start (b ∷ bytes) names = new_roll start (b ∷ bytes) names ∷ []

-- what a reclaim makes of a log: up to which time, its extents and its link, how it names its anchors, and its roll
pub record Making : Type 0 where
  pub upto : ℕ
  pub numbers : List ℕ
  pub link : ℕ
  pub anchors : AnchorName
  pub placed : PlacedAnchors
  pub start : ℕ
  pub bytes : List ℕ
  pub names : List Head

-- the front of the log, and what stays
abbrev pub front_of : HeapLog → Making → List PlacedChain
front_of l m = take (front_count m.upto l.chains) l.chains

abbrev pub back_of : HeapLog → Making → List PlacedChain
back_of l m = drop (front_count m.upto l.chains) l.chains

-- the base that is computed, with its anchors and rolls, where the log's rolls have these names
abbrev pub made_base : HeapLog → List Head → Making → NewBase
made_base l names m = record {
  numbers = m.numbers;
  link = m.link;
  base = base_on (take (front_count m.upto l.chains) (map live_of l.chains)) m.upto m.anchors (roll_of m.start m.bytes);
  anchors = m.placed;
  rolls = l.rolls ++ rolls_with m.start m.bytes m.names;
  names = told_upto m.upto names l.chains;
}

-- ---- where it lies

-- its extents and those of its anchors are in the heap, apart from those that stay, and it links to these
pub record HasExtents (most : ℕ) (l : HeapLog) (names : List Head) (m : Making) : Type 0 where
  pub some : 0 < length m.numbers
  pub count : length m.numbers ≡ count_of (length (entry_bytes (entries.Base (made_base l names m).base)))
  pub in_range : AllByRecursion (IsNumberOf most) m.numbers
  pub link : IsNumberOf most m.link
  pub chained : AreChained m.link (back_of l m) l.next
  pub apart : AreDistinct (l.next ∷ live_numbers (with_new_base l (made_base l names m) (back_of l m)))
  pub anchors : ArePlaced most m.placed
  pub anchors_named : AreNamed (m.anchors ∷ []) m.placed
  pub anchors_may : MayBeAnchors most m.anchors

-- its roll has the names of the commits that the log tells and no roll names yet, up to the archive mark, and lies behind all runs and rolls
pub record HasRoll (l : HeapLog) (reading : Reading) (heads : List CommitHead) (m : Making) : Type 0 where
  pub upto : m.upto ≡ archive_mark reading.log
  pub some : 0 < m.upto
  pub heads_are : map name_of (named_between (mark_of (map live_of l.chains)) m.upto heads)
      ≡ filter (is_named_between (mark_of (map live_of l.chains)) m.upto) (heads_of reading.log)
  pub names_are : AreNamesBetween (mark_of (map live_of l.chains)) m.upto heads m.names
  pub bytes_are : m.bytes ≡ flat_map name_bytes m.names
  pub fits : m.start + length m.bytes < 2 ^ 63
  pub behind : AllByRecursion (λ (s : Span). s.start + s.len ≤ m.start) (spans_of l.runs l.rolls)

-- so the base may take the place of the front
abbrev pub MadeBaseMay : Type 0
MadeBaseMay =
    (most root : ℕ) (l : HeapLog) (reading : Reading) (names : List Head) (heads : List CommitHead) (m : Making) → IsLogOf most root l reading
    → AreNamesOf l.rolls names → HasRoll l reading heads m → HasExtents most l names m
    → MayTakePlace most l names (front_of l m) (back_of l m) (made_base l names m)
