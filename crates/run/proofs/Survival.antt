-- Whatever a stop may leave of a store survives, with all that was acknowledged.
use Rattle.std.proofs.Common.{ℕ, Bool, List, take, Option, None, Some, sym, subst, inl, inr}
use Rattle.std.specs.Prelude.{IsTrue}
use Rattle.std.specs.List.{AllByRecursion}
use Rattle.disk.specs.Areas.{Image, LeavesImage}
use Rattle.history.specs.Floors.{Raising}
use Rattle.history.specs.Fronts.{OnFront, OnOpened, OnRaised}
use Rattle.history.specs.Histories.{History}
use Rattle.history.specs.Machine.{Machine, Gate, Shut, Due, MayBeOpen, OfGroup, OfFloor}
use Rattle.law_image.specs.Values.{Value}
use Rattle.any_store.specs.Values.{StoreValue, disk_of}
use Rattle.law_opening.proofs.Fronts.{front-is}
use Rattle.law_any_store.specs.Standing.{AnyHeader, IsImageOf}
use Rattle.law_any_store.specs.Opened.{IsHeaderLeftBy}
use Rattle.law_any_store.proofs.Opened.{image-header, open-stands_in}
use Rattle.law_any_store.proofs.Reopened.{leaves-by, open-refuses}
use Rattle.law_any_store.proofs.Answering.{opened-answers}
use Rattle.run.specs.declared.held.Held.{Held}
use Rattle.run.specs.Moments.{Moment, HasCommitAt, IsAtMoment}
use Rattle.run.specs.Promise.{IsKeptAs, IsKeptWith, Leaves}
use Rattle.run.proofs.Acknowledging.{more-have}

-- an image that stands for a history is kept as it
pub kept-as : (tells : Bool) (header : AnyHeader) (image : Image) (h : History Value) (floors : ℕ → ℕ) → IsTrue tells → IsImageOf header image h floors
    → IsKeptAs tells image h floors
kept-as tells header image h floors told is = record {
  header = header;
  stands = is;
  opens = λ disk new why same refuses.
      let said = open-refuses tells disk new why header h floors refuses told (subst (λ (i : Image). IsImageOf header i h floors) (sym same) is) in
      (said.0, said.2);
  answers = λ disk mark again same sound opens.
      let stands = open-stands_in tells disk mark again header h floors opens told sound (subst (λ (i : Image). IsImageOf header i h floors) (sym same) is) in
      (stands, opened-answers tells again again h floors stands);
}

-- ---- fronts

module _ (tells : Bool) (header : AnyHeader) (image : Image) (m : Machine Value) (done : List ℕ) (told : IsTrue tells)
    (published : AllByRecursion (HasCommitAt m.published) done) where
  on-raised : (o : Option Raising) → OnRaised (IsImageOf header image) m o → OnRaised (IsKeptWith tells image done) m o
  on-raised None on = on
  on-raised (Some r) on = record { kept = kept-as tells header image _ _ told on; acknowledged = published }

  on-opened : (gate : Gate) → OnOpened (IsImageOf header image) m gate → OnOpened (IsKeptWith tells image done) m gate
  on-opened Shut on = on
  on-opened (Due change) on = on
  on-opened (MayBeOpen OfGroup) on =
      record { kept = kept-as tells header image _ _ told on; acknowledged = more-have m.published (take m.group m.queue) done published }
  on-opened (MayBeOpen OfFloor) on = on-raised m.raising on

  on-front : OnFront (IsImageOf header image) m → OnFront (IsKeptWith tells image done) m
  on-front (inl on) = inl (record { kept = kept-as tells header image _ _ told on; acknowledged = published })
  on-front (inr on) = inr (on-opened m.gate on)

-- whatever a stop may leave at a moment of a store survives
pub moment-leaves : (tells : Bool) (v : StoreValue) (held : List Held) (at : Moment) → IsAtMoment tells v held at → Leaves tells at
moment-leaves tells v held at is told image left =
    let l =
    leaves-by tells v at.world.machine is.world.stands told image (subst (λ (x : StoreValue). LeavesImage (disk_of x).areas image) is.store left) in
    record {
      header = l.0;
      left = subst (λ (x : StoreValue). IsHeaderLeftBy x l.0) (sym is.store) l.1;
      has = front-is (IsImageOf l.0 image) at.world.machine (λ h floors stands. image-header tells l.0 image h floors told stands) l.2;
      front = on-front tells l.0 image at.world.machine at.done told is.published l.2;
    }
