-- The rules of the log between its chains, as far as opening reads them: the names in the rolls are not read.
use Rattle.std.specs.Prelude.{ℕ, ◌≡◌, ◌+◌, List, [], ◌∷◌, ◌++◌, map}
use Rattle.law_image.specs.Reading.{Slot}
use Rattle.law_image.specs.Log.{last_time_after}
use Rattle.law_log.specs.Chains.{LogChain, MayFollow, commits_in, told_behind, reclaimed_by}
use Rattle.wire.specs.declared.slot.Run.{Run}
use Rattle.log_extents.specs.Chains.{first_or}
use Rattle.log_entries.specs.declared.entry.Entry.{Entry}
use Rattle.log_entries.specs.declared.entry.Roll.{Roll}
use Rattle.law_log_layout.specs.HeapLog.{PlacedChain, Span, run_span, chain_told, chains_told, archives_in, rolls_in, AreSpansInRow}

-- the part of the archive that a roll takes
abbrev pub roll_part : Roll → Span
roll_part roll = record { start = roll.start; len = roll.len }

-- where the last of these parts ends, or this place if there is none
abbrev pub row_end : ℕ → List Span → ℕ
row_end place [] = place
row_end place (s ∷ spans) = row_end (s.start + s.len) spans

-- the parts of the archive that a chain names: its runs, and its rolls
abbrev pub archive_spans : Entry → List Span
archive_spans e = map run_span (archives_in e)

abbrev pub roll_spans : Entry → List Span
roll_spans e = map roll_part (rolls_in e)

-- what a log says up to a chain: the time of its last commit, what it tells, and where its last run and its last roll end
pub record LogState : Type 0 where
  pub last : ℕ
  pub told : List Slot
  pub runs_end : ℕ
  pub rolls_end : ℕ

-- nothing is said
abbrev pub no_log : LogState
no_log = record { last = 0; told = []; runs_end = 0; rolls_end = 0 }

-- the chain may come behind what was said, where the reclaim mark is this one
pub record MayComeBehind (mark : ℕ) (s : LogState) (e : Entry) : Type 0 where
  pub rule : MayFollow mark s.last s.told (chain_told [] e)
  pub runs : AreSpansInRow s.runs_end (archive_spans e)
  pub rolls : AreSpansInRow s.rolls_end (roll_spans e)

-- what is said with one chain more
abbrev pub state_behind : ℕ → LogState → Entry → LogState
state_behind mark s e =
    record {
      last = last_time_after s.last (commits_in (chain_told [] e));
      told = told_behind mark s.told (chain_told [] e);
      runs_end = row_end s.runs_end (archive_spans e);
      rolls_end = row_end s.rolls_end (roll_spans e);
    }

-- and with all of these
abbrev pub state_from : ℕ → LogState → List PlacedChain → LogState
state_from mark s [] = s
state_from mark s (c ∷ chains) = state_from mark (state_behind mark s c.entry) chains

-- each of these chains may come behind those before it
abbrev pub MayAllComeBehind : ℕ → LogState → List PlacedChain → Type 0
MayAllComeBehind mark s [] = Unit {0}
MayAllComeBehind mark s (c ∷ chains) = MayComeBehind mark s c.entry × MayAllComeBehind mark (state_behind mark s c.entry) chains

-- the reclaim mark of a log
abbrev pub mark_of : List PlacedChain → ℕ
mark_of chains = reclaimed_by (chains_told [] chains)

-- some of these chains may come behind those before them, and the next one, which begins at this extent, may not
pub record FailsRule (mark : ℕ) (chains : List PlacedChain) (place : ℕ) : Type 0 where
  pub front : List PlacedChain
  pub chain : PlacedChain
  pub back : List PlacedChain
  pub chains_are : chains ≡ front ++ chain ∷ back
  pub front_keeps : MayAllComeBehind mark no_log front
  pub breaks : ¬ MayComeBehind mark (state_from mark no_log front) chain.entry
  pub place_is : place ≡ first_or 0 chain.numbers
