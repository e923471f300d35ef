-- Opening again what was opened and not called.
use Rattle.std.proofs.Common.{inl, inr, ℕ, Bool, List, [], refl}
use Rattle.disk.specs.Areas.{Image, image_of}
use Rattle.history.specs.Fronts.{OnFront}
use Rattle.history.specs.Histories.{History}
use Rattle.law_image.specs.Values.{Value}
use Rattle.any_store.specs.declared.engine.Engine.TheVariants.{Slots, Log}
use Rattle.any_store.specs.Values.{StoreValue}
use Rattle.law_any_store.specs.Standing.{opened_in}
use Rattle.run.specs.Moments.{first_moment}
use Rattle.run.specs.Promise.{IsKeptAs, IsKeptWith}
use Rattle.law_client.specs.Public.{Public}
use Rattle.law_client.specs.Reopened.{ReopeningIsOnce, SecondAnswersAsFirst}

-- nothing is in the writing
front-is : (tells : Bool) (image : Image) (done : List ℕ) (v : StoreValue) (h : History Value) (floors : ℕ → ℕ)
    → OnFront (IsKeptWith tells image done) (opened_in v h floors) → IsKeptAs tells image h floors
front-is tells image done (Slots s) h floors (inl on) = on.kept
front-is tells image done (Slots s) h floors (inr on) = absurd on
front-is tells image done (Log l) h floors (inl on) = on.kept
front-is tells image done (Log l) h floors (inr on) = absurd on

pub reopening-once : Public → ReopeningIsOnce
reopening-once public tells image h floors disk mark v told kept same sound opens =
    let is = kept.answers disk mark v same sound opens in
    let m = opened_in v h floors in
    let first = public.first tells v m is.0 in (
      is,
      λ left leaves. front-is tells left (first_moment v m).done v h floors (public.survives tells v [] (first_moment v m) first told left leaves).front,
    )

pub second-as-first : Public → SecondAnswersAsFirst
second-as-first public tells image h floors disk next mark other v w told kept same sound opens leaves sound_next opens_next =
    let once = reopening-once public tells image h floors disk mark v told kept same sound opens in
    (once.0, (once.1 (image_of next.areas) leaves).answers next other w refl sound_next opens_next)
