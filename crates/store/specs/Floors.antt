-- The beginning of a floor.
use Rattle.std.specs.Prelude.{ℕ, ◌≡◌, ◌<◌, ◌^◌, ◌==◌, nat_le, nat_lt, not, Bool, is_some, IsSome, Option, None, Some, Result, Ok, Err, MatchOption}
use Rattle.std.specs.Prelude.{if◌then◌else◌}
use Rattle.history.specs.Floors.{covered}
use Rattle.floors.specs.Floors.{floor_at, raised_in}
use Rattle.group.specs.Values.{with_slot_lent}
use Rattle.group.specs.Reclaims.{oldest}
use Rattle.store.specs.Calls.{last, floors}
use Rattle.store.specs.Values.{StoreValue}
use Rattle.store.specs.Reclaims.{below, refusal_for_use}
use Rattle.store.specs.declared.job.JobStage.TheVariants.{Stored}
use Rattle.store.specs.declared.job.JobWork.TheVariants.{Floor}
use Rattle.store.specs.declared.job.StartFault.{StartFault}
use Rattle.store.specs.declared.job.StartFault.TheVariants as fault

-- a store of this profile has no floors of this kind: those of profile 3 are of one relation each, and the others of every relation
abbrev pub is_wrong_profile : ℕ → Option ℕ → Bool
is_wrong_profile profile None = profile == 3
is_wrong_profile profile (Some relation) = not (profile == 3)

-- why a floor is not raised to a time: the first reason in this order
abbrev pub floor_refusal : StoreValue → Option ℕ → ℕ → Option StartFault
floor_refusal v scope time =
    if v.transactions.failed then Some fault.Failed
    else (if is_wrong_profile v.log.profile scope then Some fault.WrongProfile
    else (if is_some v.job then Some fault.JobBusy
    else (if nat_le time (floor_at (floors v) (covered scope)) then Some fault.NothingToDo
    else (if nat_lt (last v) time then Some (fault.NotYet (last v)) else refusal_for_use v (below (oldest v.transactions) time)))))

-- the floor's job has begun: it has a slot lent, and the floors that are to stand; nothing is to be written before that
abbrev pub with_floor : StoreValue → Option ℕ → ℕ → StoreValue
with_floor v scope time = record v {
  transactions = with_slot_lent v.transactions;
  job = Some (record { work = Floor scope time (raised_in scope time (floors v)); stage = Stored });
}

-- the relation, if the floor is of one, is a number that a slot can name
abbrev pub IsRelation : Option ℕ → Type 0
IsRelation scope = MatchOption scope (Unit {0}) (λ relation. relation < 2 ^ 16)

-- a floor of one relation takes memory, which may be refused
abbrev pub BeginsFloor : StoreValue → Option ℕ → ℕ → Result (Unit {0}) StartFault → StoreValue → Type 0
BeginsFloor v scope time (Ok done) new = IsRelation scope × (new ≡ with_floor v scope time)
BeginsFloor v scope time (Err why) new = (why ≡ fault.NoMemory) × IsSome scope × (new ≡ v)

-- no device call is made
abbrev pub StartsFloor : StoreValue → Option ℕ → ℕ → Result (Unit {0}) StartFault → StoreValue → Type 0
StartsFloor v scope time result new = MatchOption (floor_refusal v scope time) (BeginsFloor v scope time result new) (λ why. (result ≡ Err why) × (new ≡ v))
