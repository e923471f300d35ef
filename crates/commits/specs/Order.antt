-- What holds of the commits in memory by themselves.
use Rattle.std.specs.Prelude.{ℕ, ◌≡◌, ◌<◌, ◌≤◌, ◌+◌, ◌^◌, List, length}
use Rattle.std.specs.List.{AllByRecursion}
use Rattle.chains.specs.KeyWrites.{KeyWrites, latest}
use Rattle.commits.specs.Values.{CommitsValue, WaitingValue, last_assigned}

-- no version of these, nor of those after a commit that waits, is later than this time
abbrev pub AreBy : ℕ → List KeyWrites → List WaitingValue → Type 0
AreBy time versions queue = (latest versions ≤ time) × AllByRecursion (λ (w : WaitingValue). latest w.after ≤ time) queue

-- what always holds: the commit order, the commits that wait, the group and the versions agree
pub record IsInOrder (v : CommitsValue) : Type 0 where
  -- those that are not published wait
  pub split : v.published + length v.queue ≡ length v.heads
  -- no version is later than the last time that was given
  pub latest : AreBy (last_assigned v) v.versions v.queue
  pub group_within : v.group ≤ length v.queue
  pub group_few : v.group ≤ 1024
  pub mark_in_range : v.reclaimed < 2 ^ 63
