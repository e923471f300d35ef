-- A call leads from one moment to the next, and one call after another makes a chain.
use Rattle.std.proofs.Common.{◌+◌, ◌≤◌, Bool, List, [], ◌∷◌, ◌++◌, refl, sym, subst, inl, inr}
use Rattle.history.specs.Machine.{Machine}
use Rattle.law_image.specs.Values.{Value}
use Rattle.any_store.specs.Values.{StoreValue, disk_of}
use Rattle.law_any_store.specs.Standing.{Stands, opened_in}
use Rattle.law_any_store.proofs.Opened.{open-stands_in}
use Rattle.run.specs.declared.calls.Call.{Call}
use Rattle.run.specs.declared.calls.Answer.{Answer}
use Rattle.run.specs.declared.held.Held.{Held}
use Rattle.run.specs.Makes.{Makes}
use Rattle.run.specs.Runs.{Goes}
use Rattle.run.specs.Moments.{Moment, first_moment, with_answer, IsAtMoment}
use Rattle.run.specs.Promise.{Leaves, LeavesBetween, Link, Chain, Promise}
use Rattle.run.proofs.Acknowledging.{call-acknowledges}
use Rattle.run.proofs.Runs.{started-world}
use Rattle.run.proofs.Survival.{moment-leaves}

-- a stop within a call leaves what one before it or one after it may leave
between : (tells : Bool) (before after : Moment) → Leaves tells before → Leaves tells after → LeavesBetween tells before after
between tells before after old new told image (inl left) = inl (old told image left)
between tells before after old new told image (inr left) = inr (new told image left)

-- the next moment of a store, of which a call is made
pub links : (tells : Bool) (v v' : StoreValue) (xs ys : List Held) (c : Call) (a : Answer) (at : Moment) → IsAtMoment tells v xs at
    → Goes tells v xs c a v' ys → (disk_of v').made ≤ (disk_of v).made + 1
    → (after : Moment) × Link tells c a at after × IsAtMoment tells v' ys after
links tells v v' xs ys c a at is goes few =
    let did = goes.leads at.world is.world in
    let after : Moment = record { store = v'; held = ys; world = did.0; done = with_answer a at.done } in
    let is-after : IsAtMoment tells v' ys after =
    record { store = refl; places = refl; world = did.3; published = call-acknowledges tells at.world c a did.0 at.done did.1 did.2 is.published } in
    let old = moment-leaves tells v xs at is in
    let new = moment-leaves tells v' ys after is-after in (
      after,
      record {
        makes = subst (λ (s : StoreValue). Makes tells s at.held c a v' ys) (sym is.store)
            (subst (λ (held : List Held). Makes tells v held c a v' ys) (sym is.places) goes.makes);
        stands = did.3;
        does = did.1;
        follows = did.2;
        acknowledges = refl;
        makes_few = subst (λ (x : StoreValue). (disk_of v').made ≤ (disk_of x).made + 1) (sym is.store) few;
        leaves_within = between tells at after old new;
        leaves = new;
      },
      is-after,
    )

pub chain-push : (tells : Bool) (cs : List Call) (said : List Answer) (start mid : Moment) (c : Call) (a : Answer) (end : Moment)
    → Chain tells cs said start mid → Link tells c a mid end → Chain tells (cs ++ c ∷ []) (said ++ a ∷ []) start end
chain-push tells [] [] start mid c a end chain link = (end, subst (λ (x : Moment). Link tells c a x end) chain link, refl)
chain-push tells (x ∷ xs) (y ∷ ys) start mid c a end chain link = (chain.0, chain.1, chain-push tells xs ys chain.0 mid c a end chain.2 link)
chain-push tells [] (y ∷ ys) start mid c a end chain link = absurd chain
chain-push tells (x ∷ xs) [] start mid c a end chain link = absurd chain

-- before the first call
pub first-is : (tells : Bool) (v : StoreValue) (m : Machine Value) → Stands tells v m → IsAtMoment tells v [] (first_moment v m)
first-is tells v m stands = record { store = refl; places = refl; world = started-world tells v m stands; published = tt }

pub promise : Promise
promise tells disk mark v new header h floors calls said held told sound is opens keeps =
    let m = opened_in v h floors in
    keeps (first_moment v m) (first-is tells v m (open-stands_in tells disk mark v header h floors opens told sound is))
