-- A session is closed, and its store opened again or not.
use Rattle.std.proofs.Common.{◌≡◌, ℕ, suc, Bool, IsTrue, List, [], ◌∷◌, ◌++◌, length, map, take, Some, None, Option, refl, sym, ◌∙◌, ap, subst, inl, inr}
use Rattle.std.specs.Prelude.{slice_get, slice_set}
use Rattle.std.specs.List.{AllByRecursion}
use Rattle.disk.specs.Areas.{LeavesImage, image_of}
use Rattle.disk.specs.Calls.{DiskState}
use Rattle.history.specs.Floors.{Raising, raised}
use Rattle.history.specs.Fronts.{OnFront, OnOpened, OnRaised, with_group}
use Rattle.history.specs.Histories.{History}
use Rattle.history.specs.Machine.{Machine, Gate, Shut, Due, MayBeOpen, OfGroup, OfFloor}
use Rattle.law_image.specs.Values.{Value}
use Rattle.recovery.specs.declared.fault.OpenFault.{OpenFault}
use Rattle.law_any_store.specs.Standing.{AnyHeader, IsImageOf, Stands, opened_as}
use Rattle.law_any_store.specs.Opened.{IsHeaderLeftBy}
use Rattle.law_any_store.proofs.Few.{abort-few}
use Rattle.law_any_store.proofs.Opened.{open-header, open-stands}
use Rattle.law_any_store.proofs.Reopened.{closed-left, leaves-by, opens-left, refuses-left, reopen-refuses}
use Rattle.session.specs.Session.{State, AbortsAll, Closes, Reopens, DoesNotReopen, fresh}
use Rattle.session.specs.declared.names.OpenName.{OpenName}
use Rattle.session.specs.declared.names.TicketName.{TicketName}
use Rattle.session.specs.declared.reply.Reply.{Reply}
use Rattle.any_store.specs.declared.engine.Engine.TheVariants.{Slots, Log}
use Rattle.any_store.specs.Values.{StoreValue, disk_of}
use Rattle.run.specs.declared.calls.Call.TheVariants as call
use Rattle.run.specs.declared.calls.Answer.TheVariants as answer
use Rattle.run.specs.declared.held.Held.{Held}
use Rattle.run.specs.declared.held.Held.TheVariants as held
use Rattle.run.specs.Moments.{Moment, HasCommitAt, IsAtMoment}
use Rattle.run.specs.Promise.{Chain}
use Rattle.run.proofs.Acknowledging.{more-have}
use Rattle.run.proofs.Runs.{started-world}
use Rattle.run.proofs.Steps.{abort-goes}
use Rattle.run.proofs.Survival.{moment-leaves}
use Rattle.run.proofs.Linking.{links}
use Rattle.law_script.specs.ScriptMoments.{ScriptMoment, held_of, transaction_of, moment_of}
use Rattle.law_script.specs.Keeps.{Closed, KeepsByOpening, KeepsUnopened}
use Rattle.law_script.proofs.Among.{Among, all, spent-first}
use Rattle.law_script.proofs.Names.{held_in}
use Rattle.law_script.proofs.Leading.{IsScriptMoment}

-- ---- what is open is aborted

record Aborted (tells : Bool) (os : List OpenName) (at : Moment) (v : StoreValue) : Type 0 where
  pub places : List ℕ
  pub each : length places ≡ length os
  pub end : Moment
  pub held : List Held
  pub chain : Chain tells (map call.Abort places) (map (λ (place : ℕ). answer.Abort) places) at end
  pub is : IsAtMoment tells v held end
  pub done : end.done ≡ at.done

abort-all : (tells : Bool) (os : List OpenName) (ks : List TicketName) (v v' : StoreValue) (xs : List Held) (at : Moment) → IsAtMoment tells v xs at
    → Among (held_in os ks) xs → AbortsAll v os v' → Aborted tells os at v'
abort-all tells [] ks v v' xs at is among aborts =
    record {
      places = [];
      each = refl;
      end = at;
      held = xs;
      chain = refl;
      is = subst (λ (s : StoreValue). IsAtMoment tells s xs at) (sym aborts) is;
      done = refl;
    }
abort-all tells (o ∷ os) ks v v' xs at is among aborts =
    let i : ℕ = among.at 0 in
    let here : slice_get xs i ≡ Some (held.Transaction o.txn) = among.same 0 (transaction_of o) refl in
    let ys : List Held = slice_set xs i held.Nothing ++ held.Nothing ∷ [] in
    let did =
    links tells v aborts.0 xs ys (call.Abort i) answer.Abort at is (abort-goes tells v aborts.0 xs i o.txn here aborts.1 aborts.2)
    (abort-few v aborts.0 _ aborts.2) in
    let rest = abort-all tells os ks aborts.0 v' ys did.0 did.2 (spent-first (transaction_of o) (held_in os ks) xs held.Nothing held.Nothing among) aborts.3 in
    record {
      places = i ∷ rest.places;
      each = ap suc rest.each;
      end = rest.end;
      held = rest.held;
      chain = (did.0, did.1, rest.chain);
      is = rest.is;
      done = rest.done ∙ did.1.acknowledges;
    }

-- it is closed, and the store that gave the disk back stood for the last moment
pub record ClosedAt (tells : Bool) (m : ScriptMoment) (given : DiskState) : Type 0 where
  pub closed : Closed tells m given
  pub store : StoreValue
  pub held : List Held
  pub is : IsAtMoment tells store held closed.end
  pub same : given ≡ disk_of store

pub close-keeps : (tells : Bool) (m : ScriptMoment) → IsScriptMoment tells m → (given : DiskState) → Closes m.state given → ClosedAt tells m given
close-keeps tells m is given closes =
    let did = abort-all tells m.state.opened m.state.tickets m.state.store closes.0 (held_of m.state) (moment_of m) is (all (held_of m.state)) closes.1 in
    record {
      closed = record {
        places = did.places;
        each = did.each;
        end = did.end;
        promises = record { first = moment-leaves tells m.state.store (held_of m.state) (moment_of m) is; chain = did.chain };
        disk = ap disk_of did.is.store ∙ sym closes.2;
        done = did.done;
      };
      store = closes.0;
      held = did.held;
      is = did.is;
      same = closes.2;
    }

-- ---- the front that an image stands for has what was acknowledged

module _ {X : Type 0} (Q : History Value → (ℕ → ℕ) → Type 0) (m : Machine Value) (done : List ℕ) (published : AllByRecursion (HasCommitAt m.published) done)
    (say : (h : History Value) (floors : ℕ → ℕ) → Q h floors → AllByRecursion (HasCommitAt h) done
    → ((P : History Value → (ℕ → ℕ) → Type 0) → P h floors → OnFront P m) → X) where
  at-raised : (o : Option Raising) → ((P : History Value → (ℕ → ℕ) → Type 0) → OnRaised P m o → OnFront P m) → OnRaised Q m o → X
  at-raised None into on = absurd on
  at-raised (Some r) into on = say m.published (raised r.scope r.floor m.floors) on published (λ P holds. into P holds)

  at-opened : (gate : Gate) → ((P : History Value → (ℕ → ℕ) → Type 0) → OnOpened P m gate → OnFront P m) → OnOpened Q m gate → X
  at-opened Shut into on = absurd on
  at-opened (Due change) into on = absurd on
  at-opened (MayBeOpen OfGroup) into on = say (with_group m) m.floors on (more-have m.published (take m.group m.queue) done published) (λ P holds. into P holds)
  at-opened (MayBeOpen OfFloor) into on = at-raised m.raising into on

  at-front : OnFront Q m → X
  at-front (inl on) = say m.published m.floors on published (λ P holds. inl holds)
  at-front (inr on) = at-opened m.gate (λ P holds. inr holds) on

-- ---- opening again

pub record OpensTo (tells : Bool) (before : ScriptMoment) (state : State) : Type 0 where
  pub after : ScriptMoment
  pub is_state : after.state ≡ state
  pub keeps : KeepsByOpening tells before after
  pub is : IsScriptMoment tells after

opened-moment : (tells : Bool) (v : StoreValue) (machine : Machine Value) (done : List ℕ) → Stands tells v machine
    → AllByRecursion (HasCommitAt machine.published) done → IsScriptMoment tells (record { state = fresh v; machine = machine; done = done })
opened-moment tells v machine done stands has = record { store = refl; places = refl; world = started-world tells v machine stands; published = has }

pub first-script : (tells : Bool) (v : StoreValue) (machine : Machine Value) → Stands tells v machine
    → IsScriptMoment tells (record { state = fresh v; machine = machine; done = [] })
first-script tells v machine stands = opened-moment tells v machine [] stands tt

-- the machine on an image has published the history that the image stands for
on-published : (header : AnyHeader) (h : History Value) (floors : ℕ → ℕ) → (opened_as header h floors).published ≡ h
on-published (Slots header) h floors = refl
on-published (Log roots) h floors = refl

pub reopen-keeps : (tells : Bool) → IsTrue tells → (m : ScriptMoment) → IsScriptMoment tells m → (r : Reply) (new : State) → Reopens tells m.state r new
    → OpensTo tells m new
reopen-keeps tells told m is r new reopens =
    let c = close-keeps tells m is reopens.given reopens.closes in
    let given = reopens.given in
    let machine = c.closed.end.world.machine in
    let left : LeavesImage (disk_of c.store).areas (image_of given.areas) = closed-left c.store given c.same (reopens.sound told) in
    let on = leaves-by tells c.store machine c.is.world.stands told (image_of given.areas) left in
    let published : AllByRecursion (HasCommitAt machine.published) m.done =
    subst (λ (times : List ℕ). AllByRecursion (HasCommitAt machine.published) times) c.closed.done c.is.published in
    at-front (IsImageOf on.0 (image_of given.areas)) machine m.done published (λ h floors image has into.
    let to = opened_as on.0 h floors in
    let stands = open-stands tells given 1 reopens.opened on.0 h floors reopens.opens told (reopens.sound told) image in
    let after : ScriptMoment = record { state = fresh reopens.opened; machine = to; done = m.done } in
    let at = opened-moment tells reopens.opened to m.done stands
    (subst (λ (published : History Value). AllByRecursion (HasCommitAt published) m.done) (sym (on-published on.0 h floors)) has) in
    record {
      after = after;
      is_state = sym reopens.names;
      keeps = record {
        given = given;
        closed = c.closed;
        stops = opens-left tells given 1 reopens.opened reopens.opens told;
        header = (
          on.0,
          subst (λ (s : StoreValue). IsHeaderLeftBy s on.0) (sym c.is.store) on.1,
          open-header tells given 1 reopens.opened on.0 h floors reopens.opens told image,
        );
        front = into (λ h' floors'. (to ≡ opened_as on.0 h' floors') × AllByRecursion (HasCommitAt h') m.done) (refl, has);
        done = refl;
        leaves = moment-leaves tells reopens.opened [] (moment_of after) at;
      };
      is = at;
    })
    on.2

pub unopened-keeps : (tells : Bool) → IsTrue tells → (m : ScriptMoment) → IsScriptMoment tells m → (why : OpenFault) (disk : DiskState)
    → DoesNotReopen tells m.state why disk → KeepsUnopened tells m why disk
unopened-keeps tells told m is why disk refused =
    let c = close-keeps tells m is refused.given refused.closes in
    let left : LeavesImage (disk_of c.store).areas (image_of refused.given.areas) = closed-left c.store refused.given c.same (refused.sound told) in
    let said = reopen-refuses tells c.store c.closed.end.world.machine refused.given disk why c.is.world.stands told left refused.refuses in
    record { given = refused.given; closed = c.closed; fault = said.0; stops = refuses-left tells refused.given disk why refused.refuses told }
