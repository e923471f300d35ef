-- The commits in their order: those that are published, and then those that wait.
use Rattle.std.specs.Prelude.{ℕ, ◌≡◌, ◌<◌, ◌≤◌, ◌^◌, ◌==◌, ◌&&◌, Bool, false, List, [], ◌∷◌, length, map, filter, take, if◌then◌else◌, nat_le, ◌≢◌}
use Rattle.std.specs.Prelude.{slice_index_or}
use Rattle.group.specs.declared.commit_order.CommitHead.{CommitHead}
use Rattle.group.specs.declared.commit_order.TicketState.{TicketState}
use Rattle.group.specs.declared.commit_order.TicketState.TheVariants.{Unknown, Waiting, Published}

-- the commit order, by the times and the labels of its commits
pub record CommitOrderValue : Type 0 where
  pub heads : List CommitHead
  -- how many of them are published
  pub published : ℕ
  -- how many more there is memory for
  pub room : ℕ

-- the time of the last of these commits, or what it was before
abbrev pub last_time_after : ℕ → List CommitHead → ℕ
last_time_after before [] = before
last_time_after before (head ∷ heads) = last_time_after head.time heads

-- the time of the last of these commits, 0 for none
abbrev pub last_time : List CommitHead → ℕ
last_time heads = last_time_after 0 heads

-- later than a time, each later than the one before, and each a commit time
abbrev pub IsRisingAfter : ℕ → List CommitHead → Type 0
IsRisingAfter time [] = Unit {0}
IsRisingAfter time (head ∷ heads) = (time < head.time) × (head.time < 2 ^ 63) × IsRisingAfter head.time heads

-- these heads are in their order, and that many of them are published
pub record AreHeads (heads : List CommitHead) (published : ℕ) : Type 0 where
  pub within : published ≤ length heads
  pub rising : IsRisingAfter 0 heads

-- the same commits, with at least as much memory for more
pub record HasRoom (old new : CommitOrderValue) : Type 0 where
  pub heads : new.heads ≡ old.heads
  pub published : new.published ≡ old.published
  pub room : old.room ≤ new.room

-- the heads of the published commits
abbrev pub published_heads : CommitOrderValue → List CommitHead
published_heads v = take v.published v.heads

-- the time of the last published commit, and of the last one that was given a time; 0 for none
abbrev pub last_published : CommitOrderValue → ℕ
last_published v = last_time (published_heads v)

-- the time of the last commit that was given one, published or not; 0 for none
abbrev pub last_assigned : CommitOrderValue → ℕ
last_assigned v = last_time v.heads

-- the commit of a time
abbrev pub is_at : ℕ → CommitHead → Bool
is_at time head = head.time == time

-- a commit of this time was submitted here, and its ticket is not redeemed yet
abbrev pub is_awaited : ℕ → List CommitHead → Bool
is_awaited time [] = false
is_awaited time (head ∷ heads) = if head.time == time then head.awaited else is_awaited time heads

-- the commit of this time is awaited no longer
abbrev pub redeemed : ℕ → List CommitHead → List CommitHead
redeemed time [] = []
redeemed time (head ∷ heads) = if head.time == time then record head { awaited = false } ∷ heads else head ∷ redeemed time heads

-- where the commit of a time stands
abbrev pub state_of_ticket : ℕ → CommitOrderValue → TicketState
state_of_ticket time v = if is_awaited time v.heads then (if nat_le time (last_published v) then Published else Waiting) else Unknown

-- a published one is awaited no longer
abbrev pub after_redeem : ℕ → CommitOrderValue → CommitOrderValue
after_redeem time v = if is_awaited time v.heads && nat_le time (last_published v) then record v { heads = redeemed time v.heads } else v

-- no head has this time
abbrev pub HasNone : ℕ → List CommitHead → Type 0
HasNone time [] = Unit {0}
HasNone time (head ∷ heads) = (head.time ≢ time) × HasNone time heads

-- the head at this place has it
pub record IsPlaceOf (time : ℕ) (heads : List CommitHead) (place : ℕ) : Type 0 where
  pub within : place < length heads
  pub is : (d : CommitHead) → (slice_index_or heads place d).time ≡ time

-- the times of the published commits with a label, rising
abbrev pub times_of : ℕ → CommitOrderValue → List ℕ
times_of label v = map (λ head. head.time) (filter (λ head. head.label == label) (published_heads v))
