-- What a store whose log lies in the heap holds in memory, and the state of the machine that it stands for.
use Rattle.std.specs.Prelude.{ℕ, ◌≡◌, ◌+◌, ◌≤◌, List, [], ◌∷◌, ◌++◌, length, map, IsPermutation, Contains}
use Rattle.std.specs.List.{AllByRecursion}
use Rattle.history.specs.declared.key.Key.{Key}
use Rattle.history.specs.Time.{IsRisingAfter as IsRisingWrites}
use Rattle.history.specs.Histories.{Commit, History}
use Rattle.history.specs.Machine.{Machine}
use Rattle.law_image.specs.Values.{Value}
use Rattle.floors.specs.Floors.{floor_at}
use Rattle.chains.specs.Writes.{kept_after, written}
use Rattle.chains.specs.KeyWrites.{KeyWrites, writes_of, IsOrdered}
use Rattle.group.specs.CommitOrder.{IsRisingAfter}
use Rattle.group.specs.declared.commit_order.CommitHead.{CommitHead}
use Rattle.commits.specs.Values.{CommitsValue, WaitingValue}
use Rattle.law_refinement.specs.Standing.{Name, name_of, name_at, HasWrites, HasForgotten, snapshots_of}

-- The heads in memory, by the published history and the commits that wait behind it. The names of the first commits have left memory, all of them at most the
-- reclaim mark; of these some are kept that wait for their Done. Behind them are the heads of all other commits.
pub record HasNames (reclaimed : ℕ) (heads : List CommitHead) (published : ℕ) (h queue : History Value) : Type 0 where
  pub before : List Name
  pub early : AllByRecursion (λ (name : Name). name.time ≤ reclaimed) before
  pub kept : List CommitHead
  pub late : List CommitHead
  pub heads_are : heads ≡ kept ++ late
  pub kept_of : AllByRecursion (λ (name : Name). Contains before name) (map name_at kept)
  pub names : before ++ map name_at late ≡ map name_of (h ++ queue)
  -- how many of the heads behind the kept ones are published
  pub count : ℕ
  pub published_are : published ≡ length kept + count
  pub many : length before + count ≡ length h

-- A commit waits behind these versions: from the reclaim mark on, the versions after it say what these say, and what it writes. They have forgotten what ended
-- by a mark of their own, the one of their making.
pub record Waits (reclaimed : ℕ) (before : List KeyWrites) (w : WaitingValue) (c : Commit Value) : Type 0 where
  pub time : w.time ≡ c.time
  pub label : w.label ≡ c.label
  pub ordered : IsOrdered w.after
  pub rising : (key : Key) → IsRisingWrites 0 (writes_of w.after key)
  pub mark : w.reclaimed ≤ reclaimed
  pub forgot : HasForgotten w.reclaimed w.after
  pub after : (key : Key) → kept_after reclaimed (writes_of w.after key) ≡ kept_after reclaimed (writes_of before key) ++ written c.time c.writes key

-- the commits that wait are those of the machine's queue, each behind those before it
abbrev pub AllWait : ℕ → List KeyWrites → List WaitingValue → History Value → Type 0
AllWait reclaimed before [] [] = Unit {0}
AllWait reclaimed before [] (c ∷ cs) = ⊥
AllWait reclaimed before (w ∷ ws) [] = ⊥
AllWait reclaimed before (w ∷ ws) (c ∷ cs) = Waits reclaimed before w c × AllWait reclaimed w.after ws cs

-- What the store holds in memory is the machine's state. How many commits its group has, the machine does not say.
pub record StandsInMemory (v : CommitsValue) (m : Machine Value) : Type 0 where
  pub names : HasNames v.reclaimed v.heads v.published m.published m.queue
  pub rising : IsRisingAfter 0 v.heads
  pub versions : HasWrites m.floors v.reclaimed v.versions m.published
  pub forgot : HasForgotten v.reclaimed v.versions
  -- no open transaction reads what is forgotten
  pub recent : (snapshot : ℕ) → Contains (snapshots_of v.opened) snapshot → v.reclaimed ≤ snapshot
  pub queue : AllWait v.reclaimed v.versions v.queue m.queue
  pub snapshots : IsPermutation m.snapshots (snapshots_of v.opened)
  pub floors : (relation : ℕ) → floor_at v.floors relation ≡ m.floors relation
  pub failed : v.failed ≡ m.failed
