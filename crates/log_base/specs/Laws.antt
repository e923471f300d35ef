-- Laws of a base that takes the place of a log's front.
use Rattle.std.specs.Prelude.{ℕ, ◌≡◌, ◌⊎◌, ◌<◌, ◌≤◌, ◌+◌, ◌^◌, ◌&&◌, nat_lt, nat_le, Bool, List, [], ◌∷◌, ◌++◌, length, map, take, drop, filter}
use Rattle.std.specs.Prelude.{flat_map, Option, IfSome}
use Rattle.std.specs.List.{AllByRecursion}
use Rattle.law_image.specs.Reading.{Head}
use Rattle.law_image.specs.Log.{heads_of, archive_mark}
use Rattle.law_log.specs.Chains.{told, reclaimed_by, KeepsChainRules, IsUpTo, BeginsLater, IsNoBase, TakesPlace}
use Rattle.group.specs.declared.commit_order.CommitHead.{CommitHead}
use Rattle.log_entries.specs.declared.entry.AnchorName.{AnchorName}
use Rattle.log_entries.specs.declared.entry.Roll.{Roll}
use Rattle.log_entries.specs.declared.entry.Entry.TheVariants as entries
use Rattle.log_entries.specs.Ranges.{IsRoll, AreNone, AreSome, IsEntry, run_of}
use Rattle.law_layout.specs.Runs.{StoredRun}
use Rattle.law_log_layout.specs.HeapLog.{PlacedChain, PlacedAnchors, PlacedRoll, IsPlaced, base_told, chains_told, archives_in, rolls_in, anchors_in}
use Rattle.law_log_layout.specs.HeapLog.{name_bytes, AreNamed, AreNamesOf, IsStoredRoll, Span, run_span, roll_span, spans_of, AreSpansApart, AreSpansInRow}
use Rattle.law_log_layout.specs.HeapLog as heap
use Rattle.log_recovery.specs.Live.{live_of}
use Rattle.log_base.specs.Bases.{front_len, runs_from, rolls_of, anchors_of, mark_of, base_on}
use Rattle.log_base.specs.Names.{name_of, named_between, AreNamesBetween}

-- ---- what is read off the chains in memory

-- how many chains are the front of a log at a mark
abbrev pub front_count : ℕ → List PlacedChain → ℕ
front_count mark chains = front_len mark (map live_of chains)

-- So many chains are the front of a log at a mark, and the others stay.
pub record IsFront (mark : ℕ) (names : List Head) (chains : List PlacedChain) (n : ℕ) : Type 0 where
  pub ends : AllByRecursion (IsUpTo mark) (chains_told names (take n chains))
  pub begins : BeginsLater mark (chains_told names (drop n chains))
  pub no_base : AllByRecursion IsNoBase (chains_told names (drop n chains))

-- the front has no commit later than the mark, the first chain of the rest has one, and no base stands in the rest
abbrev pub FrontIs : Type 0
FrontIs = (mark : ℕ) (names : List Head) (chains : List PlacedChain) → KeepsChainRules (chains_told names chains)
    → IsFront mark names chains (front_count mark chains)

-- the mark is that of the log
abbrev pub MarkIs : Type 0
MarkIs = (names : List Head) (chains : List PlacedChain) → mark_of (map live_of chains) ≡ reclaimed_by (chains_told names chains)

-- the runs are those that stand behind so many chains
abbrev pub RunsAre : Type 0
RunsAre = (chains : List PlacedChain) (n : ℕ) → map run_of (runs_from [] (take n (map live_of chains))) ≡ heap.runs_from [] (take n chains)

-- and the rolls of the front are those that the log names
abbrev pub RollsAre : Type 0
RollsAre = (mark : ℕ) (names : List Head) (chains : List PlacedChain) → KeepsChainRules (chains_told names chains)
    → rolls_of (take (front_count mark chains) (map live_of chains)) ≡ flat_map (λ (c : PlacedChain). rolls_in c.entry) chains

-- ---- the names

-- a name later than one time, and no later than another
abbrev pub is_named_between : ℕ → ℕ → Head → Bool
is_named_between after upto head = nat_lt after head.time && nat_le head.time upto

-- the commits that a log tells up to a time
abbrev pub told_upto : ℕ → List Head → List PlacedChain → List Head
told_upto upto names chains = filter (λ (head : Head). nat_le head.time upto) (heads_of (told (chains_told names chains)))

-- Where the heads in memory have those commits that the log tells of which the names are in no roll yet, up to a time, the log's rolls and one more with their
-- names have the names of all that the log tells up to that time.
abbrev pub NamesGoOn : Type 0
NamesGoOn =
    (names new : List Head) (chains : List PlacedChain) (rolls more : List PlacedRoll) (upto : ℕ) (heads : List CommitHead)
    → KeepsChainRules (chains_told names chains) → map (λ (r : PlacedRoll). r.roll) rolls ≡ flat_map (λ (c : PlacedChain). rolls_in c.entry) chains
    → AreNamesOf rolls names → (let mark = reclaimed_by (chains_told names chains) in mark ≤ upto
    → map name_of (named_between mark upto heads) ≡ filter (is_named_between mark upto) (heads_of (told (chains_told names chains)))
    → AreNamesBetween mark upto heads new → flat_map (λ (r : PlacedRoll). r.names) more ≡ new → AreNamesOf (rolls ++ more) (told_upto upto names chains))

-- The heads in memory are some that are no later than a mark, and behind them those of the commits that the log tells and of those that wait, but for some that
-- are no later than the mark.
pub record AreHeadsOf (mark upto : ℕ) (told : List Head) (heads : List CommitHead) : Type 0 where
  pub kept : List CommitHead
  pub late : List CommitHead
  pub heads_are : heads ≡ kept ++ late
  pub kept_early : AllByRecursion (λ (h : CommitHead). h.time ≤ mark) kept
  pub before : List Head
  pub before_early : AllByRecursion (λ (head : Head). head.time ≤ mark) before
  pub waiting : List Head
  pub waiting_late : AllByRecursion (λ (head : Head). upto < head.time) waiting
  pub names_are : before ++ map name_of late ≡ told ++ waiting

-- so they have those later than the mark
abbrev pub HeadsAre : Type 0
HeadsAre = (mark upto : ℕ) (told : List Head) (heads : List CommitHead) → AreHeadsOf mark upto told heads
    → map name_of (named_between mark upto heads) ≡ filter (is_named_between mark upto) told

-- ---- the base

-- the base that is computed takes the place of the front, where it goes up to the archive mark and its rolls name the commits up to there
abbrev pub BaseTakesFront : Type 0
BaseTakesFront =
    (names new : List Head) (chains : List PlacedChain) (upto : ℕ) (anchors : AnchorName) (roll : Option Roll)
    → KeepsChainRules (chains_told names chains) → upto ≡ archive_mark (told (chains_told names chains)) → 0 < upto → new ≡ told_upto upto names chains
    → (let n = front_count upto chains in TakesPlace (chains_told names (take n chains)) (chains_told names (drop n chains))
    (base_told new (base_on (take n (map live_of chains)) upto anchors roll)))

-- ---- its form

-- so a base may name anchors: none, or a chain of the heap
pub record MayBeAnchors (most : ℕ) (a : AnchorName) : Type 0 where
  pub first : a.first < 2 ^ 32
  pub extents : a.extents < 2 ^ 32
  pub records : a.records < 2 ^ 32
  pub place : AreNone a ⊎ AreSome most a

-- a chain of the log may hold the base, where it may hold its mark, its anchors and its new roll
abbrev pub BaseIsEntry : Type 0
BaseIsEntry =
    (most upto n : ℕ) (chains : List PlacedChain) (anchors : AnchorName) (roll : Option Roll) → AllByRecursion (IsPlaced most) chains → 0 < upto
    → upto < 2 ^ 63 → MayBeAnchors most anchors → IfSome roll IsRoll
    → IsEntry most (entries.Base (base_on (take n (map live_of chains)) upto anchors roll))

-- the anchors that the log names are none where it has no base; a new base may name them
pub record AnchorsStay (most : ℕ) (chains : List PlacedChain) (a : PlacedAnchors) : Type 0 where
  pub named : AreNamed (anchors_of (map live_of chains) ∷ []) a
  pub may : MayBeAnchors most (anchors_of (map live_of chains))

abbrev pub AnchorsAre : Type 0
AnchorsAre =
    (most : ℕ) (names : List Head) (chains : List PlacedChain) (a : PlacedAnchors) → KeepsChainRules (chains_told names chains)
    → AllByRecursion (IsPlaced most) chains → AreNamed (flat_map (λ (c : PlacedChain). anchors_in c.entry) chains) a → AnchorsStay most chains a

-- ---- in the archive

-- the runs that the base names, and those that the chains behind it name, are in a row, as those of the log are
abbrev pub RunsStayInRow : Type 0
RunsStayInRow =
    (chains : List PlacedChain) (n : ℕ) → AreSpansInRow 0 (map run_span (flat_map (λ (c : PlacedChain). archives_in c.entry) chains))
    → AreSpansInRow 0 (map run_span (map run_of (runs_from [] (take n (map live_of chains)))
    ++ flat_map (λ (c : PlacedChain). archives_in c.entry) (drop n chains)))

-- a roll that begins where all runs and rolls end, or behind, comes behind the rolls and is apart from all
pub record ComesBehind (runs : List StoredRun) (rolls : List PlacedRoll) (r : PlacedRoll) : Type 0 where
  pub in_row : AreSpansInRow 0 (map roll_span (rolls ++ r ∷ []))
  pub apart : AreSpansApart (spans_of runs (rolls ++ r ∷ []))

abbrev pub RollComesBehind : Type 0
RollComesBehind =
    (runs : List StoredRun) (rolls : List PlacedRoll) (r : PlacedRoll) → AreSpansInRow 0 (map roll_span rolls) → AreSpansApart (spans_of runs rolls)
    → AllByRecursion (λ (s : Span). s.start + s.len ≤ r.roll.start) (spans_of runs rolls) → ComesBehind runs rolls r

-- the roll with these bytes, from this place of the archive on
abbrev pub new_roll : ℕ → List ℕ → List Head → PlacedRoll
new_roll start bytes names = record { roll = record { start = start; len = length bytes }; names = names }

-- the names of a new roll are in order and in their ranges, and its bytes are those of a roll
pub record IsNewRoll (start : ℕ) (bytes : List ℕ) (names : List Head) : Type 0 where
  pub stored : IsStoredRoll (new_roll start bytes names)
  pub roll : 0 < length bytes → start + length bytes < 2 ^ 63 → IsRoll (new_roll start bytes names).roll

abbrev pub NewRollIs : Type 0
NewRollIs =
    (most upto start : ℕ) (names new : List Head) (chains : List PlacedChain) (heads : List CommitHead) (bytes : List ℕ)
    → KeepsChainRules (chains_told names chains) → AllByRecursion (IsPlaced most) chains → (let mark = reclaimed_by (chains_told names chains) in
    map name_of (named_between mark upto heads) ≡ filter (is_named_between mark upto) (heads_of (told (chains_told names chains)))
    → AreNamesBetween mark upto heads new → bytes ≡ flat_map name_bytes new → IsNewRoll start bytes new)
