-- The commits that wait, as the history has them, and the bytes that the store has made of them.
use Rattle.std.specs.Prelude.{ℕ, ◌≡◌, List, [], ◌∷◌, ◌++◌}
use Rattle.history.specs.declared.key.Key.{Key}
use Rattle.history.specs.Histories.{Commit, History}
use Rattle.history.specs.Queries.{values_after}
use Rattle.law_image.specs.Values.{Value}
use Rattle.chains.specs.KeyWrites.{KeyWrites, IsOrdered, writes_of}
use Rattle.chains.specs.Writes.{written}
use Rattle.log_entries.specs.declared.entry.Member.{Member}
use Rattle.log_sizes.specs.Counted.{values_in}
use Rattle.log_room.specs.Contents.{member_over, content_over}
use Rattle.commits.specs.Values.{WaitingValue}

-- A commit waits as the history has it: with its time and label, and in the versions after it, whose keys are in order, each key has the value that it leaves.
pub record IsTold (before : List KeyWrites) (w : WaitingValue) (c : Commit Value) : Type 0 where
  pub time : w.time ≡ c.time
  pub label : w.label ≡ c.label
  pub ordered : IsOrdered w.after
  pub values : (key : Key) → values_in w.after key ≡ values_after (values_in before) c key
  -- the versions after it have one write more of each key that it writes
  pub facts : (key : Key) → writes_of w.after key ≡ writes_of before key ++ written c.time c.writes key

-- and so do all, each behind those before it
abbrev pub AreTold : List KeyWrites → List WaitingValue → History Value → Type 0
AreTold before [] [] = Unit {0}
AreTold before [] (c ∷ cs) = ⊥
AreTold before (w ∷ ws) [] = ⊥
AreTold before (w ∷ ws) (c ∷ cs) = IsTold before w c × AreTold w.after ws cs

-- the contents are the bytes of these commits, each over the versions after the one before it
abbrev pub AreContents : List KeyWrites → List (List ℕ) → List WaitingValue → History Value → Type 0
AreContents before [] [] [] = Unit {0}
AreContents before [] [] (c ∷ cs) = ⊥
AreContents before [] (w ∷ ws) cs = ⊥
AreContents before (content ∷ contents) [] cs = ⊥
AreContents before (content ∷ contents) (w ∷ ws) [] = ⊥
AreContents before (content ∷ contents) (w ∷ ws) (c ∷ cs) =
    (content ≡ content_over before w.label w.time c.writes) × AreContents w.after contents ws cs

-- these commits as members of a group, each over the versions after the one before it
abbrev pub members_over : List KeyWrites → List WaitingValue → History Value → List Member
members_over before [] cs = []
members_over before (w ∷ ws) [] = []
members_over before (w ∷ ws) (c ∷ cs) = member_over before w.label w.time c.writes ∷ members_over w.after ws cs
