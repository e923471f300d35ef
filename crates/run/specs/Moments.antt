-- The moments between the calls of a list.
use Rattle.std.specs.Prelude.{ℕ, ◌≡◌, Bool, List, [], ◌∷◌, Contains}
use Rattle.std.specs.List.{AllByRecursion}
use Rattle.history.specs.Histories.{Commit, History}
use Rattle.history.specs.Machine.{Machine}
use Rattle.law_image.specs.Values.{Value}
use Rattle.any_store.specs.Values.{StoreValue}
use Rattle.run.specs.declared.calls.Answer.{Answer}
use Rattle.run.specs.declared.calls.Answer.TheVariants as answer
use Rattle.run.specs.declared.calls.RedeemOutcome.{RedeemOutcome}
use Rattle.run.specs.declared.calls.RedeemOutcome.TheVariants as told
use Rattle.run.specs.declared.held.Held.{Held}
use Rattle.run.specs.Worlds.{World, IsWorld, started}

-- a store between two calls and what its callers hold, with the machine and the places that they stand for, and the times of the commits that were acknowledged
-- till then
pub record Moment : Type 0 where
  pub store : StoreValue
  pub held : List Held
  pub world : World
  pub done : List ℕ

-- no call is made yet
abbrev pub first_moment : StoreValue → Machine Value → Moment
first_moment v m = record { store = v; held = []; world = started v m; done = [] }

-- ---- what was acknowledged

-- a commit is acknowledged by Done, which names its time
abbrev pub with_done : RedeemOutcome → List ℕ → List ℕ
with_done (told.Done time) times = time ∷ times
with_done told.Waiting times = times
with_done told.InDoubt times = times
with_done told.Stranger times = times

-- what is acknowledged once this is answered too
abbrev pub with_answer : Answer → List ℕ → List ℕ
with_answer (answer.Redeem outcome) done = with_done outcome done
with_answer answer.Unknown done = done
with_answer (answer.Begin said) done = done
with_answer (answer.Put said) done = done
with_answer (answer.Delete said) done = done
with_answer (answer.Get said) done = done
with_answer (answer.Scan said) done = done
with_answer (answer.Submit said) done = done
with_answer answer.Abort done = done
with_answer (answer.Pump said) done = done
with_answer answer.GiveUp done = done
with_answer (answer.View said) done = done
with_answer (answer.At said) done = done
with_answer (answer.ScanAt said) done = done
with_answer (answer.Between said) done = done
with_answer (answer.ScanBetween said) done = done
with_answer (answer.Recent said) done = done
with_answer answer.End done = done
with_answer (answer.TimesOf said) done = done
with_answer (answer.Archive said) done = done
with_answer (answer.Reclaim said) done = done
with_answer (answer.Floor said) done = done
with_answer (answer.Grow said) done = done
with_answer (answer.JobPump said) done = done

-- a commit of this time stands in the history
abbrev pub HasCommitAt : History Value → ℕ → Type 0
HasCommitAt h time = (c : Commit Value) × Contains h c × (c.time ≡ time)

-- A store and the places of its callers are at this moment: they stand for its world, and every acknowledged commit is published.
pub record IsAtMoment (tells : Bool) (v : StoreValue) (held : List Held) (at : Moment) : Type 0 where
  pub store : at.store ≡ v
  pub places : at.held ≡ held
  pub world : IsWorld tells v held at.world
  pub published : AllByRecursion (HasCommitAt at.world.machine.published) at.done
