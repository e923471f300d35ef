-- Where a store keeps the versions of a history: in the heap, in the archive, or in both.
use Rattle.std.specs.Prelude.{ℕ, ◌≡◌, ◌≤◌, ◌++◌, List, filter}
use Rattle.history.specs.declared.key.Key.{Key}
use Rattle.history.specs.declared.time.Version.{Version}
use Rattle.history.specs.Versions.{ends_after, ends_by}
use Rattle.history.specs.Histories.{History, versions_of}

-- Of the versions that end after the floor, the heap has those that end after the reclaim mark, and the archive those that end by the archive mark. Each is in
-- one of them at least.
-- Nothing is said of versions that end by the floor.
pub record AreAtHome {V : Type 0} (h : History V) (floors : ℕ → ℕ) (archived reclaimed : ℕ) (heap archive : Key → List (Version V)) : Type 0 where
  pub marks : reclaimed ≤ archived
  pub in_heap : (key : Key) → filter (ends_after (floors key.relation)) (heap key)
      ≡ filter (ends_after (floors key.relation)) (filter (ends_after reclaimed) (versions_of h key))
  pub in_archive : (key : Key) → filter (ends_after (floors key.relation)) (archive key)
      ≡ filter (ends_after (floors key.relation)) (filter (ends_by archived) (versions_of h key))

-- What is kept of a key, from both homes and oldest first: what the archive has, and of the heap what the archive has not yet.
abbrev pub kept_of : {V : Type 0} → ℕ → ℕ → List (Version V) → List (Version V) → List (Version V)
kept_of floor archived heap archive = filter (ends_after floor) (archive ++ filter (ends_after archived) heap)
