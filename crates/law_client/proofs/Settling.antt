-- What is settled stays so, and is read after any stop.
use Rattle.std.proofs.Common.{◌≡◌, inl, inr, ◌≤◌, ◌++◌, ℕ, suc, Bool, IsTrue, [], Option, ap, sym, subst, ◌∙◌, arith}
use Rattle.disk.specs.Areas.{Image}
use Rattle.history.specs.declared.key.Key.{Key}
use Rattle.history.specs.Histories.{History, last, state, IsHistory, MayAllFollow}
use Rattle.history.specs.Machine.{opened}
use Rattle.history.proofs.Histories.{may_follow-front, may_follow-behind}
use Rattle.law_image.specs.Values.{Value, IsValue}
use Rattle.any_store.specs.declared.engine.Engine.TheVariants.{Slots, Log}
use Rattle.any_store.specs.Values.{StoreValue}
use Rattle.law_any_store.specs.Standing.{opened_in}
use Rattle.run.specs.Traces.{Trace, moment_at, machine_at, StopLeaves}
use Rattle.law_client.specs.Public.{Public}
use Rattle.run.specs.Laws.{IsKeptTime}
use Rattle.law_client.specs.Settled.{IsSettled, SettledStays, SettledIsRead, SettledReopens, TimesStayKept}
use Rattle.law_client.proofs.Reading.{KeptLike, last-on, kept-read, survivor-settled}

-- what is published at a moment goes on to what is published at a later one
pub record GoesOn {tells : Bool} (t : Trace tells) (p q : ℕ) : Type 0 where
  pub more : History Value
  pub is : (machine_at t q).published ≡ (machine_at t p).published ++ more
  pub follow : MayAllFollow IsValue (machine_at t p).published more

pub shown-is : Public → {tells : Bool} (t : Trace tells) (n : ℕ) → IsHistory IsValue (machine_at t n).published
shown-is public {tells} t n = may_follow-front IsValue [] (machine_at t n).published (machine_at t n).queue (public.runs tells t n n (omega arith)).0.history

pub goes-on : Public → {tells : Bool} (t : Trace tells) (p q : ℕ) → p ≤ q → GoesOn t p q
goes-on public {tells} t p q low =
    let run = (public.runs tells t p q low).1 in
    let more = public.publishes (machine_at t p) (machine_at t q) run.0 run.1 in
    record {
      more = more.0;
      is = more.1;
      follow = may_follow-behind IsValue [] (machine_at t p).published more.0 (subst (IsHistory IsValue) more.1 (shown-is public t q));
    }

-- a value that stands at a moment stands at each later one
pub value-on : Public → {tells : Bool} (t : Trace tells) (p q : ℕ) (key : Key) (time : ℕ) (value : Option Value) → p ≤ q
    → time ≤ last (machine_at t p).published → state (machine_at t p).published time key ≡ value → IsKeptTime (machine_at t q) key.relation time
    → IsSettled (machine_at t q) key time value
value-on public t p q key time value low reached is kept =
    let on = goes-on public t p q low in
    let further = last-on (machine_at t p).published on.more on.follow in
    record {
      kept = kept;
      reached = subst (λ (h : History Value). time ≤ last h) (sym on.is) (omega (arith, reached, further));
      is = ap (λ (h : History Value). state h time key) on.is ∙ public.later (machine_at t p).published on.more time key on.follow reached ∙ is;
    }

pub settled-stays : Public → SettledStays
settled-stays public tells t p q key time value low settled kept = value-on public t p q key time value low settled.reached settled.is kept

-- what is kept after a stop
settled-kept : Public → (tells : Bool) (t : Trace tells) (n : ℕ) (key : Key) (time : ℕ) (value : Option Value) (image : Image)
    → IsTrue tells → IsSettled (machine_at t n) key time value → IsKeptTime (machine_at t (suc n)) key.relation time → StopLeaves t n image
    → KeptLike tells image (λ h floors. IsSettled (opened h floors) key time value)
settled-kept public tells t n key time value image told settled kept stop =
    let next : IsSettled (machine_at t (suc n)) key time value = settled-stays public tells t n (suc n) key time value (omega arith) settled kept in
    elim (public.stops tells t n image told stop) as (λ o. KeptLike tells image (λ h floors. IsSettled (opened h floors) key time value)) [
      | inl here ↦ survivor-settled public.later tells (moment_at t n) image key time value (public.runs tells t n n (omega arith)).0 settled here
      | inr there ↦ survivor-settled public.later tells (moment_at t (suc n)) image key time value (public.runs tells t (suc n) (suc n) (omega arith)).0 next
          there
    ]

-- in any layout
settled-in : (v : StoreValue) (h : History Value) (floors : ℕ → ℕ) (key : Key) (time : ℕ) (value : Option Value) → IsSettled (opened h floors) key time value
    → IsSettled (opened_in v h floors) key time value
settled-in (Slots s) h floors key time value settled = settled
settled-in (Log l) h floors key time value settled = record { kept = settled.kept; reached = settled.reached; is = settled.is }

pub settled-reopens : Public → SettledReopens
settled-reopens public tells t n key time value image told settled kept stop =
    let again = settled-kept public tells t n key time value image told settled kept stop in
    (again.0, again.1, again.2, λ v. settled-in v again.0 again.1 key time value again.3)

pub settled-read : Public → SettledIsRead
settled-read public tells t n key time value image told settled kept stop =
    let again = settled-kept public tells t n key time value image told settled kept stop in
    kept-read tells image again.0 again.1 key time value again.2 again.3

pub times-stay : Public → TimesStayKept
times-stay public tells t p q relation time low kept floors = public.times tells t p q relation time low kept floors
